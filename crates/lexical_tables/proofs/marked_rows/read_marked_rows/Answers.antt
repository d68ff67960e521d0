use Rattle.std.proofs.Common.{◌≡◌, ◌+◌, ◌-◌, ◌<◌, ◌≤◌, None, arith, drop, length, length-drop, map, subst, sym, take}
use Rattle.std.proofs.lemmas.List.{take_all}
use Rattle.lexical_tables.specs.ByColumn.{AreUsable}
use Rattle.lexical_tables.specs.Codes.{AreCodes}
use Rattle.lexical_tables.specs.Ends.{AreEnds}
use Rattle.lexical_tables.specs.RowSoFar.{GoesOn, IsOnRow}
use Rattle.lexical_tables.proofs.ColumnSteps.{cells_read, goes_from, row_ended}
use Rattle.lexical_tables.proofs.PassSteps.{row_begins}
use Rattle.lexical_tables.proofs.PutSteps.{use_less}
use Rattle.lexical_tables.proofs.marked_rows.read_marked_rows.Goals as goal

pub loop-row-init : goal.loop-row-init
loop-row-init g c =
    let d = c.args.dialect.now in
    let s = c.args.separator in
    let text = c.args.text.now in
    let from = c.args.from.text.now in
    let now = map g.C.TableColumn.target c.args.targets.now in
    subst (λ r. IsOnRow d s (drop r.start text) r.left.text.now
    × AreEnds d.has_quotes s r.left.text.now r.left.marks
    × AreCodes d c.args.codes.now now
    × (c.args.wrong.now ≡ None)
    × AreUsable (c.args.last + 1) now
    × GoesOn d (length text) c.args.first now from now r.index (drop r.start text) r.column r.left.text.now
    × (r.column ≤ c.args.columns) × (r.start < length text) × (r.index ≤ c.args.last)) (sym c.open_row-row.ensures) (
      subst (λ t. IsOnRow d s t from) c.requires.tail (row_begins d s c.requires.marked 0 from),
      c.requires.marks,
      c.requires.codes,
      c.requires.fine,
      c.requires.usable,
      subst (λ t. GoesOn d (length text) c.args.first now from now c.args.first t 0 from) c.requires.tail
          (goes_from d (length text) c.args.first now from
          (use_less (c.args.first + 1) (c.args.last + 1) now (omega (arith, c.requires.last)) c.requires.usable)),
      omega arith,
      omega (arith, c.requires.some, c.requires.within),
      c.requires.last,
    )

pub read_next_cell-next-requires-clause-usable : goal.read_next_cell-next-requires-clause-usable
read_next_cell-next-requires-clause-usable g c =
    let read = c.read_cells_at_once-read in
    use_less (read.result.row.index + 1) (c.args.last + 1) (map g.C.TableColumn.target read.new.targets)
    (omega (arith, read.ensures.last)) read.ensures.usable

pub returns-then-next-clause-done : goal.returns-then-next-clause-done
returns-then-next-clause-done g c =
    let d = c.args.dialect.now in
    let text = c.args.text.now in
    let read = c.read_cells_at_once-read in
    let row = read.result.row in
    let rest = drop row.start text in
    let old = map g.C.TableColumn.target c.args.targets.now in
    let size = length-drop row.start text in
    row_ended d (length text) c.args.first old c.args.from.text.now (map g.C.TableColumn.target read.new.targets) row.index
    rest row.column row.left.text.now row.start (take (length text - row.start) rest)
    (omega (arith, size, read.ensures.within)) (take_all (length text - row.start) rest (omega (arith, size)))
    (read.ensures.goes_on c.if-read.false c.args.first old c.args.from.text.now c.loop-row.invariant.5)
    (map g.C.TableColumn.target c.read_next_cell-next.new.targets) c.read_next_cell-next.new.wrong
    (c.read_next_cell-next.ensures.done c.if-next.true)

pub loop-row-preserved : goal.loop-row-preserved
loop-row-preserved g c =
    let d = c.args.dialect.now in
    let s = c.args.separator in
    let text = c.args.text.now in
    let read = c.read_cells_at_once-read in
    let next = c.read_next_cell-next in
    let row = read.result.row in
    let rest = drop row.start text in
    let old = map g.C.TableColumn.target c.args.targets.now in
    let size = length-drop row.start text in
    let whole : take (length text - row.start) rest ≡ rest =
    take_all (length text - row.start) rest (omega (arith, size)) in (
      subst (λ t. IsOnRow d s t next.result.left.text.now) whole (next.ensures.here c.if-next.false),
      next.ensures.marks,
      next.ensures.codes c.if-next.false,
      next.ensures.fine c.if-next.false,
      next.ensures.usable c.if-next.false (c.args.last + 1) read.ensures.usable,
      cells_read d (length text) c.args.first old c.args.from.text.now (map g.C.TableColumn.target read.new.targets) row.index
          rest row.column row.left.text.now row.start (take (length text - row.start) rest)
          (omega (arith, size, read.ensures.within)) whole
          (read.ensures.goes_on c.if-read.false c.args.first old c.args.from.text.now c.loop-row.invariant.5)
          (map g.C.TableColumn.target next.new.targets) next.result.column next.result.left.text.now
          (next.ensures.goes_on c.if-next.false),
      next.ensures.few,
      read.ensures.within,
      read.ensures.last,
    )
