use Rattle.std.proofs.Common.{◌≡◌, ◌+◌, ◌-◌, ◌<◌, ◌≤◌, arith, drop, inl, inr, length, length-drop, map, set, subst, true}
use Rattle.std.proofs.lemmas.Bool.Decides.{nat_tests}
use Rattle.lexical_tables.proofs.PassSteps.{no_ends_if}
use Rattle.lexical_tables.proofs.PutSteps.{use_less}
use Rattle.lexical_tables.proofs.ColumnTables.{codes_stay}
use Rattle.lexical_tables.proofs.skipped.RowPlaces.{rows_start}
use Rattle.lexical_tables.proofs.skipped.RowsSkipped.{bad_fits, bad_reaches, rest_first, skipping_reaches}
use Rattle.lexical_tables.proofs.skipped.Skipping.{skipping_ends, skipping_starts}
use Rattle.lexical_tables.proofs.skipping.skip_coded_rows.Goals.{then-loop-count-test+else-not-is_empty, else-loop-count-test}
use Rattle.lexical_tables.proofs.skipping.skip_coded_rows.Goals as goal

pub loop-count-init : goal.loop-count-init
loop-count-init g c =
    let d = c.args.dialect.now in
    let text = c.args.text.now in
    let rest = c.behind_empty_rows-left.result.text.now in
    let empty = c.behind_empty_rows-left.ensures in (
      skipping_starts g.B.KeptRow.kept d c.args.rows text (map g.C.TableColumn.target c.args.targets.now) c.args.bad.now rest
          c.requires.usable
          (rows_start d text rest (record { within = empty.within; tail = empty.tail; rows_are = empty.rows }) empty.first),
      empty.marks,
      c.requires.codes,
    )

pub read_first_rows-read-requires-clause-usable : goal.read_first_rows-read-requires-clause-usable
read_first_rows-read-requires-clause-usable g c =
    use_less (c.last_at_once-last.result + 1) c.args.rows (map g.C.TableColumn.target c.loop-count.targets)
    (omega (arith, c.last_at_once-last.ensures.few)) c.loop-count.invariant.0.usable

pub loop-count-smaller-in-None : goal.loop-count-smaller-in-None
loop-count-smaller-in-None g c =
    let some : 0 < length c.loop-count.left.text.now = grind (arith, nat_tests) in
    omega (arith, c.read_first_rows-read.ensures.done.number, c.loop-count.invariant.0.passed.few, some)

pub loop-count-preserved-in-None : goal.loop-count-preserved-in-None
loop-count-preserved-in-None g c =
    let d = c.args.dialect.now in
    let text = c.args.text.now in
    let read = c.read_first_rows-read in
    let last = c.last_at_once-last in
    let rest = drop read.result.start text in
    let before = map g.C.TableColumn.target c.loop-count.targets in
    let left = c.loop-count.left.text.now in
    let now = map g.C.TableColumn.target read.new.targets in
    let one : d.skips_empty_rows ≡ true → read.result.index ≤ c.loop-count.count =
    λ skips. omega (arith, last.ensures.one skips, read.ensures.last) in
    let empty = c.behind_empty_rows-left-in-None in (
      skipping_reaches g.B.KeptRow.kept d c.args.rows text (map g.C.TableColumn.target c.args.targets.now) c.args.bad.now before
          c.loop-count.bad c.loop-count.count c.loop-count.bad_count left c.loop-count.invariant.0 now read.result.index rest
          read.new.wrong read.ensures.done one (omega (arith, read.ensures.last, last.ensures.few))
          (omega (arith, length-drop read.result.start text, read.ensures.within)) c.in-None.is read.result.behind.text.now
          empty.result.text.now (read.ensures.behind c.in-None.is)
          (record { within = empty.ensures.within; tail = empty.ensures.tail; rows_are = empty.ensures.rows })
          empty.ensures.first,
      empty.ensures.marks,
      codes_stay d c.args.codes.now (length text) c.loop-count.count before left now read.result.index rest read.new.wrong
          read.ensures.done c.loop-count.invariant.2,
    )

pub pass_bad_row-requires-clause-first : goal.pass_bad_row-requires-clause-first
pass_bad_row-requires-clause-first g c =
    let d = c.args.dialect.now in
    let text = c.args.text.now in
    let read = c.read_first_rows-read in
    let last = c.last_at_once-last in
    rest_first g.B.KeptRow.kept d c.args.rows text (map g.C.TableColumn.target c.args.targets.now) c.args.bad.now
    (map g.C.TableColumn.target c.loop-count.targets) c.loop-count.bad c.loop-count.count c.loop-count.bad_count
    c.loop-count.left.text.now c.loop-count.invariant.0 (map g.C.TableColumn.target read.new.targets) read.result.index
    (drop read.result.start text) read.new.wrong read.ensures.done
    (λ skips. omega (arith, last.ensures.one skips, read.ensures.last)) (omega (arith, read.ensures.last, last.ensures.few))
    (omega (arith, length-drop read.result.start text, read.ensures.within))

pub pass_bad_row-requires-clause-fits : goal.pass_bad_row-requires-clause-fits
pass_bad_row-requires-clause-fits g c =
    let d = c.args.dialect.now in
    let text = c.args.text.now in
    let read = c.read_first_rows-read in
    let last = c.last_at_once-last in
    let low = bad_fits g.B.KeptRow.kept d c.args.rows text (map g.C.TableColumn.target c.args.targets.now) c.args.bad.now
    (map g.C.TableColumn.target c.loop-count.targets) c.loop-count.bad c.loop-count.count c.loop-count.bad_count
    c.loop-count.left.text.now c.loop-count.invariant.0 (map g.C.TableColumn.target read.new.targets) read.result.index
    (drop read.result.start text) read.new.wrong read.ensures.done
    (λ skips. omega (arith, last.ensures.one skips, read.ensures.last)) (omega (arith, read.ensures.last, last.ensures.few))
    (omega (arith, length-drop read.result.start text, read.ensures.within)) c.in-Some.error c.in-Some.is in
    grind (arith, low)

pub loop-count-smaller : goal.loop-count-smaller
loop-count-smaller g c =
    let some : 0 < length c.loop-count.left.text.now = grind (arith, nat_tests) in
    omega (arith, c.read_first_rows-read.ensures.done.number, c.loop-count.invariant.0.passed.few, some)

pub loop-count-preserved : goal.loop-count-preserved
loop-count-preserved g c =
    let d = c.args.dialect.now in
    let text = c.args.text.now in
    let read = c.read_first_rows-read in
    let last = c.last_at_once-last in
    let start = read.result.start in
    let rest = drop start text in
    let before = map g.C.TableColumn.target c.loop-count.targets in
    let left = c.loop-count.left.text.now in
    let now = map g.C.TableColumn.target read.new.targets in
    let behind = c.pass_bad_row.ensures in
    let begins : start ≡ length text - length rest = omega (arith, length-drop start text, read.ensures.within) in (
      bad_reaches g.B.KeptRow.kept d c.args.rows text (map g.C.TableColumn.target c.args.targets.now) c.args.bad.now before
          c.loop-count.bad c.loop-count.count c.loop-count.bad_count left c.loop-count.invariant.0 now read.result.index rest
          read.new.wrong read.ensures.done (λ skips. omega (arith, last.ensures.one skips, read.ensures.last))
          (omega (arith, read.ensures.last, last.ensures.few)) (omega (arith, length-drop start text, read.ensures.within))
          c.in-Some.error c.in-Some.is c.pass_bad_row.result.now
          (record { shorter = behind.shorter; tail = behind.tail; rows_are = behind.rows; first_counts = behind.first })
          c.pass_bad_row.new.bad
          (subst (λ k. c.pass_bad_row.new.bad ≡ set c.loop-count.bad c.loop-count.bad_count (g.B.KeptRow.kept (record {
            error = record c.in-Some.error { row = c.in-Some.error.row + c.loop-count.bad_count };
            place = record { start = k; stop = length text - length c.pass_bad_row.result.now };
          }))) begins behind.bad),
      no_ends_if c.args.marked d.has_quotes c.pass_bad_row.result.now,
      codes_stay d c.args.codes.now (length text) c.loop-count.count before left now read.result.index rest read.new.wrong
          read.ensures.done c.loop-count.invariant.2,
    )

pub returns : goal.returns
returns g c =
    let done = skipping_ends g.B.KeptRow.kept c.args.dialect.now c.args.rows c.args.text.now
    (map g.C.TableColumn.target c.args.targets.now) c.args.bad.now (map g.C.TableColumn.target c.loop-count.targets)
    c.loop-count.bad c.loop-count.count c.loop-count.bad_count c.loop-count.left.text.now c.loop-count.invariant.0
    (elim c.loop-count-test.branch [
      | then-loop-count-test+else-not-is_empty w ↦ inl (grind (arith, nat_tests))
      | else-loop-count-test w ↦ inr (grind (arith, nat_tests))
    ]) in
    record {
      answer = done.answer_is;
      targets = done.targets_are;
      bad = done.kept_are;
      goes_on = done.goes_on;
      right_rows = done.right_alone;
    }
