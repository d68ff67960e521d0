use Rattle.std.proofs.Common.{◌≡◌, ◌+◌, ◌≤◌, inl, inr, drop, length, length-drop, arith, map, true}
use Rattle.std.proofs.lemmas.Bool.Decides.{nat_tests}
use Rattle.lexical_tables.proofs.ColumnTables.{table_ends}
use Rattle.lexical_tables.proofs.PutSteps.{use_less}
use Rattle.lexical_tables.proofs.ColumnTables.{codes_stay, table_reaches, table_stops}
use Rattle.lexical_tables.proofs.marked_rows.read_coded_rows.Goals.{then-loop-count-test+else-not-is_empty, else-loop-count-test}
use Rattle.lexical_tables.proofs.marked_rows.read_coded_rows.Goals as goal

pub read_marked_rows-read-requires-clause-usable : goal.read_marked_rows-read-requires-clause-usable
read_marked_rows-read-requires-clause-usable g c =
    use_less (c.last_at_once-last.result + 1) c.args.rows (map g.C.TableColumn.target c.loop-count.targets)
    (omega (arith, c.last_at_once-last.ensures.few)) c.loop-count.invariant.0.usable

pub returns-in-Some : goal.returns-in-Some
returns-in-Some g c =
    let d = c.args.dialect.now in
    let text = c.args.text.now in
    let read = c.read_marked_rows-read in
    let last = c.last_at_once-last in
    let rest = drop read.result.start text in
    let one : d.skips_empty_rows ≡ true → read.result.index ≤ c.loop-count.count =
    λ skips. omega (arith, last.ensures.one skips, read.ensures.last) in
    let done = table_stops d c.args.rows text (map g.C.TableColumn.target c.args.targets.now)
    (map g.C.TableColumn.target c.loop-count.targets) c.loop-count.count c.loop-count.left.text.now c.loop-count.invariant.0
    (map g.C.TableColumn.target read.new.targets) read.result.index rest read.new.wrong read.ensures.done one
    (omega (arith, read.ensures.last, last.ensures.few))
    (omega (arith, length-drop read.result.start text, read.ensures.within)) c.in-Some.error c.in-Some.is in
    record { answer = done.answer_is; targets = done.targets_are; goes_on = tt }

pub loop-count-preserved : goal.loop-count-preserved
loop-count-preserved g c =
    let d = c.args.dialect.now in
    let text = c.args.text.now in
    let read = c.read_marked_rows-read in
    let last = c.last_at_once-last in
    let rest = drop read.result.start text in
    let old = map g.C.TableColumn.target c.args.targets.now in
    let before = map g.C.TableColumn.target c.loop-count.targets in
    let left = c.loop-count.left.text.now in
    let one : d.skips_empty_rows ≡ true → read.result.index ≤ c.loop-count.count =
    λ skips. omega (arith, last.ensures.one skips, read.ensures.last) in
    let empty = c.behind_empty_rows-left-in-loop-count in (
      table_reaches d c.args.rows text old before c.loop-count.count left c.loop-count.invariant.0
          (map g.C.TableColumn.target read.new.targets) read.result.index rest read.new.wrong read.ensures.done one
          (omega (arith, read.ensures.last, last.ensures.few))
          (omega (arith, length-drop read.result.start text, read.ensures.within)) c.in_default.is read.result.behind.text.now
          empty.result.text.now (read.ensures.behind c.in_default.is)
          (record { within = empty.ensures.within; tail = empty.ensures.tail; rows_are = empty.ensures.rows })
          empty.ensures.first,
      empty.ensures.marks,
      codes_stay d c.args.codes.now (length text) c.loop-count.count before left (map g.C.TableColumn.target read.new.targets)
          read.result.index rest read.new.wrong read.ensures.done c.loop-count.invariant.2,
    )

pub returns : goal.returns
returns g c =
    let done = table_ends c.args.dialect.now c.args.rows c.args.text.now (map g.C.TableColumn.target c.args.targets.now)
    (map g.C.TableColumn.target c.loop-count.targets) c.loop-count.count c.loop-count.left.text.now c.loop-count.invariant.0
    (elim c.loop-count-test.branch [
      | then-loop-count-test+else-not-is_empty w ↦ inl (grind (arith, nat_tests))
      | else-loop-count-test w ↦ inr (grind (arith, nat_tests))
    ]) in
    record { answer = done.answer_is; targets = done.targets_are; goes_on = done.goes_on }
