use Rattle.std.proofs.Common.{◌∙◌, ◌+◌, ◌<◌, inl, inr, arith, rules, ap, subst, sym, map}
use Rattle.std.proofs.lemmas.Bool.Decides.{nat_tests}
use Rattle.std.proofs.lemmas.List.{take_rest}
use Rattle.lexical_tables.specs.ByColumn.{AreUsable, end_fault, lacks_cell}
use Rattle.lexical_tables.specs.RowSoFar.{IsRowPut, count_in}
use Rattle.lexical_tables.specs.Rows.{view_of_row}
use Rattle.lexical_tables.proofs.CellsLeft.{all_left, ended_left, left_in, next_left, start_left}
use Rattle.lexical_tables.proofs.ColumnSteps.{after_cell, after_fault, row_ends}
use Rattle.lexical_tables.proofs.MarkedCells.{IsAhead, ahead_starts, behind_ahead}
use Rattle.lexical_tables.proofs.PutSteps.{use_put}
use Rattle.lexical_tables.proofs.by_column.read_cells.Goals.{then-loop-column-test+else-not-ended, else-loop-column-test}
use Rattle.lexical_tables.proofs.by_column.read_cells.Goals as goal

pub loop-column-init : goal.loop-column-init
loop-column-init g c =
    let text = c.args.row.now.text.now in
    let row = view_of_row c.args.row.now in
    let all = take_rest text c.args.passed in (
      subst (IsAhead text c.args.ahead.now) (sym all)
          (ahead_starts text c.args.ahead.now c.args.passed c.requires.passed c.requires.front),
      λ some. sym c.lacks_cell-ended.ensures.lacks ∙ some,
      c.requires.usable,
      λ kinds old put. subst (IsRowPut kinds c.args.dialect.now c.args.index row old
          (map g.C.TableColumn.target c.args.targets.now) c.args.first)
          (sym (ap (left_in c.args.dialect.now row c.args.first c.lacks_cell-ended.result) all
          ∙ all_left c.args.dialect.now row c.args.first c.args.passed c.requires.passed c.lacks_cell-ended.result
          (c.lacks_cell-ended.ensures.lacks ∙ ap (lacks_cell c.args.dialect.now.layout c.args.first) all))) put,
    )

pub returns-in-Some : goal.returns-in-Some
returns-in-Some g c = λ kinds old put.
    let row = view_of_row c.args.row.now in
    let more : c.loop-column.column < count_in c.args.dialect.now = grind (arith, nat_tests) in
    let at = next_left c.args.dialect.now row c.loop-column.column c.loop-column.ended c.loop-column.rest.now
    c.next_cell-next.result.text.now c.next_cell-next.result.behind.now c.next_cell-next.result.ended c.loop-column.invariant.0.within
    (search rules) c.next_cell-next.ensures.left c.next_cell-next.ensures.cells in
    after_fault kinds c.args.dialect.now c.args.index row old (map g.C.TableColumn.target c.loop-column.targets)
    c.loop-column.column _ (c.loop-column.invariant.3 kinds old put) _ _ at more
    (map g.C.TableColumn.target c.read_cell.new.targets) c.in-Some.fault c.in-Some.ensures.fault c.in-Some.ensures.targets

pub loop-column-preserved : goal.loop-column-preserved
loop-column-preserved g c =
    let row = view_of_row c.args.row.now in
    let more : c.loop-column.column < count_in c.args.dialect.now = grind (arith, nat_tests) in
    let at = next_left c.args.dialect.now row c.loop-column.column c.loop-column.ended c.loop-column.rest.now
    c.next_cell-next.result.text.now c.next_cell-next.result.behind.now c.next_cell-next.result.ended c.loop-column.invariant.0.within
    (search rules) c.next_cell-next.ensures.left c.next_cell-next.ensures.cells in (
      behind_ahead c.args.row.now.text.now c.args.ahead.now c.loop-column.rest.now c.next_cell-next.result.behind.now
          c.loop-column.invariant.0 c.next_cell-next.ensures.tail c.next_cell-next.ensures.left,
      c.next_cell-next.ensures.ended,
      subst (AreUsable (c.args.index + 1)) (sym c.in_default.ensures.targets)
          (use_put (c.args.index + 1) c.args.index c.loop-column.column _ (map g.C.TableColumn.target c.loop-column.targets)
          c.loop-column.invariant.2),
      λ kinds old put. after_cell kinds c.args.dialect.now c.args.index row old
          (map g.C.TableColumn.target c.loop-column.targets) c.loop-column.column _ (c.loop-column.invariant.3 kinds old put)
          _ _ at more (map g.C.TableColumn.target c.read_cell.new.targets) c.in_default.ensures.fault c.in_default.ensures.targets,
    )

pub returns : goal.returns
returns g c = λ kinds old put.
    let row = view_of_row c.args.row.now in
    let column = c.loop-column.column in
    let start = start_left c.args.dialect.now row column c.loop-column.ended c.loop-column.rest.now
    c.then_some-extra.result c.loop-column.invariant.1 c.then_some-extra.ensures in
    row_ends kinds c.args.dialect.now c.args.index row old (map g.C.TableColumn.target c.loop-column.targets) column
    _ (c.loop-column.invariant.3 kinds old put) c.end_fault.result
    (elim c.loop-column-test.branch [
      | then-loop-column-test+else-not-ended w ↦ inl (ended_left c.args.dialect.now row column
          c.loop-column.ended c.loop-column.rest.now (search rules))
      | else-loop-column-test w ↦ inr (grind (arith, nat_tests))
    ])
    (c.end_fault.ensures ∙ ap (λ n. end_fault n c.args.index row column c.then_some-extra.result) c.column_count-columns.ensures
    ∙ ap (end_fault (count_in c.args.dialect.now) c.args.index row column) start)
