use Rattle.std.proofs.Common.{◌∙◌, ◌+◌, ◌<◌, ap, arith, map, rules, subst, sym}
use Rattle.std.specs.Prelude.{option_map}
use Rattle.std.proofs.lemmas.Bool.Decides.{nat_tests}
use Rattle.lexical_tables.specs.ByColumn.{AreUsable, wrong_cell}
use Rattle.lexical_tables.specs.Codes.{AreCodes}
use Rattle.lexical_tables.specs.RowSoFar.{IsRowDone, IsRowPut, cells_behind, count_in}
use Rattle.lexical_tables.specs.Rows.{view_of_row}
use Rattle.lexical_tables.proofs.CellsLeft.{all_left, left_passed, next_left}
use Rattle.lexical_tables.proofs.CodeSteps.{codes_put}
use Rattle.lexical_tables.proofs.ColumnSteps.{after_cell, after_fault}
use Rattle.lexical_tables.proofs.MarkedCells.{ahead_starts, behind_ahead}
use Rattle.lexical_tables.proofs.PassSteps.{none_wrong, some_wrong}
use Rattle.lexical_tables.proofs.PutSteps.{use_put}
use Rattle.lexical_tables.proofs.wide_rows.read_wide_cells.Goals as goal

pub loop-column-init : goal.loop-column-init
loop-column-init g c =
    let text = c.args.row.now.text.now in
    let row = view_of_row c.args.row.now in (
      ahead_starts text c.args.ahead.now 0 (omega arith) c.requires.front,
      c.lacks_cell-ended.ensures.lacks,
      c.requires.codes,
      c.requires.usable,
      c.requires.fine,
      λ kinds old put. subst (IsRowPut kinds c.args.dialect.now c.args.index row old
          (map g.C.TableColumn.target c.args.targets.now) 0)
          (sym (all_left c.args.dialect.now row 0 0 (omega arith) c.lacks_cell-ended.result
          c.lacks_cell-ended.ensures.lacks)) put,
    )

pub loop-column-preserved : goal.loop-column-preserved
loop-column-preserved g c =
    let d = c.args.dialect.now in
    let row = view_of_row c.args.row.now in
    let column = c.loop-column.column in
    let before = map g.C.TableColumn.target c.loop-column.targets in
    let now = map g.C.TableColumn.target c.read_wide_cell.new.targets in
    let next = c.next_cell-next in
    let told = c.read_wide_cell.ensures in
    let fine = none_wrong _ c.if-not-read_wide_cell.ensures.right in
    let more : column < count_in d = grind (arith, nat_tests) in
    let at = next_left d row column c.loop-column.ended c.loop-column.rest.now
    next.result.text.now next.result.behind.now next.result.ended c.loop-column.invariant.0.within
    (search rules) next.ensures.left next.ensures.cells in (
      behind_ahead c.args.row.now.text.now c.args.ahead.now c.loop-column.rest.now next.result.behind.now
          c.loop-column.invariant.0 next.ensures.tail next.ensures.left,
      next.ensures.wide c.requires.widths,
      subst (AreCodes d c.args.codes.now) (sym told.targets)
          (codes_put d c.args.codes.now c.args.index column _ before c.loop-column.invariant.2),
      subst (AreUsable (c.args.index + 1)) (sym told.targets)
          (use_put (c.args.index + 1) c.args.index column _ before c.loop-column.invariant.3),
      told.fault ∙ ap (option_map (wrong_cell c.args.index column)) (sym fine),
      λ kinds old put. after_cell kinds d c.args.index row old before column _ (c.loop-column.invariant.5 kinds old put)
          _ _ at more now fine told.targets,
    )

pub returns-then-not-read_wide_cell-clause-done : goal.returns-then-not-read_wide_cell-clause-done
returns-then-not-read_wide_cell-clause-done g c = λ some kinds old put.
    let d = c.args.dialect.now in
    let row = view_of_row c.args.row.now in
    let column = c.loop-column.column in
    let before = map g.C.TableColumn.target c.loop-column.targets in
    let now = map g.C.TableColumn.target c.read_wide_cell.new.targets in
    let next = c.next_cell-next in
    let told = c.read_wide_cell.ensures in
    let more : column < count_in d = grind (arith, nat_tests) in
    let at = next_left d row column c.loop-column.ended c.loop-column.rest.now
    next.result.text.now next.result.behind.now next.result.ended c.loop-column.invariant.0.within
    (search rules) next.ensures.left next.ensures.cells in
    subst (IsRowDone kinds d c.args.index row old now) (sym c.if-not-read_wide_cell.ensures.fault)
    (some_wrong _ c.if-not-read_wide_cell.ensures.right
    (λ f. IsRowDone kinds d c.args.index row old now (option_map (wrong_cell c.args.index column) f))
    (λ fault told_fault. after_fault kinds d c.args.index row old before column _ (c.loop-column.invariant.5 kinds old put)
    _ _ at more now fault told_fault told.targets))

pub returns-clause-put : goal.returns-clause-put
returns-clause-put g c = λ fine kinds old put.
    let d = c.args.dialect.now in
    let row = view_of_row c.args.row.now in
    let at = c.loop-column in
    let now = map g.C.TableColumn.target at.targets in
    subst (λ r. IsRowPut kinds d c.args.index row old now r.columns (cells_behind d row r.columns r.bytes))
    (sym c.passed_before-2.ensures)
    (subst (IsRowPut kinds d c.args.index row old now at.column)
    (left_passed d row c.args.ahead.now at.column at.ended at.rest.now at.invariant.0 c.requires.front at.invariant.1)
    (at.invariant.5 kinds old put))
