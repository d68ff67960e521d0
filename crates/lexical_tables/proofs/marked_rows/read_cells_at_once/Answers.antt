use Rattle.std.proofs.Common.{◌≡◌, ◌∙◌, ◌+◌, ◌-◌, ◌<◌, ◌≤◌, None, ap, arith, drop, length, length-drop, map, refl, subst, sym, take}
use Rattle.std.proofs.lemmas.Bool.Decides.{nat_tests}
use Rattle.std.proofs.lemmas.List.{take_all}
use Rattle.lexical_tables.specs.ByColumn.{AreUsable, answer_at, kinds_of}
use Rattle.lexical_fields.specs.Fields.{FieldView}
use Rattle.lexical_tables.specs.Codes.{AreCodes}
use Rattle.lexical_tables.specs.Ends.{AreEnds}
use Rattle.lexical_tables.specs.RowSoFar.{GoesOn, GoesToEnd, IsOnRow, IsPart, count_in}
use Rattle.lexical_tables.proofs.CodeSteps.{codes_put}
use Rattle.lexical_tables.proofs.ColumnSteps.{next_cell_goes, next_row, last_cell_goes}
use Rattle.lexical_tables.proofs.PassSteps.{row_begins}
use Rattle.lexical_tables.proofs.PutSteps.{use_less, use_put}
use Rattle.lexical_tables.proofs.RowSteps.{tail_of_tail}
use Rattle.lexical_tables.proofs.marked_rows.read_cells_at_once.Goals as goal

pub read_coded_cell-requires-clause-usable : goal.read_coded_cell-requires-clause-usable
read_coded_cell-requires-clause-usable g c =
    use_less (c.loop-column.index + 1) (c.args.last + 1) (map g.C.TableColumn.target c.loop-column.targets)
    (omega (arith, c.loop-column.invariant.7)) c.loop-column.invariant.3

pub read_coded_cell-requires-clause-standard : goal.read_coded_cell-requires-clause-standard
read_coded_cell-requires-clause-standard g c = λ all k within few.
    let low : c.loop-column.column < c.args.coded = grind (arith, nat_tests) in
    c.requires.standard all k within (omega (arith, few, low))

pub returns-then-index-last-clause-done : goal.returns-then-index-last-clause-done
returns-then-index-last-clause-done g c = λ is_done first old from on.
    let d = c.args.dialect.now in
    let text = c.args.text.now in
    let row = c.loop-column in
    let left = row.left.text.now in
    let open_text = drop row.start text in
    let part = c.next_part-part in
    let before = map g.C.TableColumn.target c.loop-column.targets in
    let now = map g.C.TableColumn.target c.read_coded_cell.new.targets in
    let found = c.if-not-read_coded_cell.ensures in
    let whole : take (length text - row.start) open_text ≡ open_text =
    take_all (length text - row.start) open_text (omega (arith, length-drop row.start text)) in
    let is = subst (λ t. IsPart d c.args.separator t left part.result) whole part.ensures.part in
    let more : row.column < count_in d = grind (arith, nat_tests) in
    subst (λ r. GoesToEnd d (length text) first old from now r.row.index (drop r.row.start text) None)
    (sym c.stopped_at-then-index-last.ensures)
    (last_cell_goes d c.args.separator (length text) first old from before row.index open_text row.column left
    (c.loop-column.invariant.4 first old from on) part.result is c.loop-column.invariant.0.within
    (omega (arith, length-drop row.start text)) more now (found.fault refl) (found.targets refl) c.if-part.true
    (c.if-ends_wrong.ensures.count refl c.if-part.true ∙ c.requires.columns)
    (sym (ap (λ r. r.lacks_return) (is.row c.if-part.true (length text - length open_text)))
    ∙ c.if-ends_wrong.ensures.returned refl c.if-part.true))

pub returns-then-index-last-clause-codes : goal.returns-then-index-last-clause-codes
returns-then-index-last-clause-codes g c =
    let d = c.args.dialect.now in
    let row = c.loop-column in
    let left = row.left.text.now in
    let before = map g.C.TableColumn.target c.loop-column.targets in
    let cell : FieldView = record { start = length c.args.text.now - length left; text = take c.next_part-part.result.size left } in
    subst (AreCodes d c.args.codes.now) (sym (c.if-not-read_coded_cell.ensures.targets refl))
    (codes_put d c.args.codes.now row.index row.column (answer_at d (kinds_of before) row.column cell) before
    c.loop-column.invariant.2)

pub returns-then-index-last-clause-usable : goal.returns-then-index-last-clause-usable
returns-then-index-last-clause-usable g c =
    subst (AreUsable (c.args.last + 1)) (sym (c.if-not-read_coded_cell.ensures.targets refl))
    (use_put (c.args.last + 1) c.loop-column.index c.loop-column.column _ (map g.C.TableColumn.target c.loop-column.targets)
    c.loop-column.invariant.3)

pub loop-column-preserved-then-part : goal.loop-column-preserved-then-part
loop-column-preserved-then-part g c =
    let d = c.args.dialect.now in
    let s = c.args.separator in
    let text = c.args.text.now in
    let row = c.loop-column in
    let left = row.left.text.now in
    let open_text = drop row.start text in
    let part = c.next_part-part in
    let before = map g.C.TableColumn.target c.loop-column.targets in
    let now = map g.C.TableColumn.target c.read_coded_cell.new.targets in
    let found = c.if-not-read_coded_cell.ensures in
    let cell : FieldView = record { start = length text - length left; text = take part.result.size left } in
    let behind = c.behind_part-left.result.text.now in
    let back = c.behind_part-left.ensures.text in
    let size : length open_text ≡ length text - row.start = length-drop row.start text in
    let inside = c.loop-column.invariant.0.within in
    let whole : take (length text - row.start) open_text ≡ open_text =
    take_all (length text - row.start) open_text (omega (arith, size)) in
    let is = subst (λ t. IsPart d s t left part.result) whole part.ensures.part in
    let more : row.column < count_in d = grind (arith, nat_tests) in
    let passed : length behind ≡ length left - (part.result.end + 1) = ap length back ∙ length-drop (part.result.end + 1) left in
    let begins : row.start ≡ length text - length open_text = omega (arith, size, c.loop-column.invariant.6) in
    let steps : part.result.end + 1 ≡ length left - length behind = omega (arith, passed, is.within) in
    let left_tail = tail_of_tail text open_text left inside (omega (arith, size)) (ap (λ k. drop k text) begins)
    c.loop-column.invariant.0.tail in
    let same : behind ≡ drop (length text - length behind) text =
    tail_of_tail text left behind (omega (arith, passed)) (omega (arith, inside, size)) left_tail
    (back ∙ ap (λ k. drop k left) steps) in
    let usable = subst (AreUsable (c.args.last + 1)) (sym (found.targets refl))
    (use_put (c.args.last + 1) row.index row.column _ before c.loop-column.invariant.3) in
    let some : 0 < length behind = grind (arith, nat_tests) in
    let within : length behind ≤ length text = omega (arith, passed, inside, size) in
    let two : row.index + 2 ≤ c.args.last + 1 = grind (arith, nat_tests) in (
      subst (λ t. IsOnRow d s t behind) same (row_begins d s c.requires.marked 0 behind),
      subst (λ l. AreEnds d.has_quotes s l c.behind_part-left.result.marks) (sym back)
          (subst (AreEnds d.has_quotes s (drop (part.result.end + 1) left)) (sym c.behind_part-left.ensures.marks) part.ensures.ends),
      subst (AreCodes d c.args.codes.now) (sym (found.targets refl))
          (codes_put d c.args.codes.now row.index row.column (answer_at d (kinds_of before) row.column cell) before
          c.loop-column.invariant.2),
      usable,
      λ first old from on.
          subst (λ t. GoesOn d (length text) first old from now (row.index + 1) t 0 behind) same
          (next_row d s (length text) first old from now row.index open_text
          (last_cell_goes d s (length text) first old from before row.index open_text row.column left
          (c.loop-column.invariant.4 first old from on) part.result is inside (omega (arith, size)) more now (found.fault refl)
          (found.targets refl) c.if-part.true (c.if-ends_wrong.ensures.count refl c.if-part.true ∙ c.requires.columns)
          (sym (ap (λ r. r.lacks_return) (is.row c.if-part.true (length text - length open_text)))
          ∙ c.if-ends_wrong.ensures.returned refl c.if-part.true))
          (omega (arith, is.within, inside)) behind (back ∙ is.line c.if-part.true)
          (use_less (row.index + 2) (c.args.last + 1) now two usable)),
      omega arith,
      omega (arith, some, within),
      omega (arith, two),
      omega (arith, passed, c.loop-column.invariant.8),
    )

pub loop-column-preserved : goal.loop-column-preserved
loop-column-preserved g c =
    let d = c.args.dialect.now in
    let s = c.args.separator in
    let text = c.args.text.now in
    let row = c.loop-column in
    let left = row.left.text.now in
    let open_text = drop row.start text in
    let part = c.next_part-part in
    let before = map g.C.TableColumn.target c.loop-column.targets in
    let now = map g.C.TableColumn.target c.read_coded_cell.new.targets in
    let found = c.if-not-read_coded_cell.ensures in
    let cell : FieldView = record { start = length text - length left; text = take part.result.size left } in
    let back = c.behind_part-left.ensures.text in
    let whole : take (length text - row.start) open_text ≡ open_text =
    take_all (length text - row.start) open_text (omega (arith, length-drop row.start text)) in
    let is = subst (λ t. IsPart d s t left part.result) whole part.ensures.part in
    let more : row.column < count_in d = grind (arith, nat_tests) in (
      subst (IsOnRow d s open_text) (sym back) (is.goes c.if-part.false),
      subst (λ l. AreEnds d.has_quotes s l c.behind_part-left.result.marks) (sym back)
          (subst (AreEnds d.has_quotes s (drop (part.result.end + 1) left)) (sym c.behind_part-left.ensures.marks) part.ensures.ends),
      subst (AreCodes d c.args.codes.now) (sym (found.targets refl))
          (codes_put d c.args.codes.now row.index row.column (answer_at d (kinds_of before) row.column cell) before
          c.loop-column.invariant.2),
      subst (AreUsable (c.args.last + 1)) (sym (found.targets refl))
          (use_put (c.args.last + 1) row.index row.column _ before c.loop-column.invariant.3),
      λ first old from on.
          next_cell_goes d s (length text) first old from before row.index open_text row.column left
          (c.loop-column.invariant.4 first old from on) part.result is c.loop-column.invariant.0.within
          (omega (arith, length-drop row.start text)) more now (found.fault refl) (found.targets refl) c.if-part.false
          c.behind_part-left.result.text.now back,
      omega (arith, more, c.requires.columns),
      c.loop-column.invariant.6,
      c.loop-column.invariant.7,
      omega (arith, ap length back, length-drop (part.result.end + 1) left, c.loop-column.invariant.8),
    )
