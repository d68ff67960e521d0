use Rattle.std.proofs.Common.{◌+◌, ◌<◌, ◌≤◌, length, map, arith, ◌∙◌, ap, sym}
use Rattle.std.proofs.lemmas.Bool.Decides.{nat_tests}
use Rattle.std.proofs.lemmas.List.{length-map}
use Rattle.lexical_tables.specs.ByColumn.{fault_in}
use Rattle.lexical_tables.specs.Cells.{view_of_cell}
use Rattle.lexical_tables.proofs.CellSteps.{answer_told, beyond_fault, beyond_same, targets_told, unread_fault, unread_same, usable_at}
use Rattle.lexical_tables.proofs.by_column.read_cell.Goals as goal

pub read_value-requires-clause-usable : goal.read_value-requires-clause-usable
read_value-requires-clause-usable g c =
    let low : c.args.column < length c.args.targets.now = grind (arith, nat_tests) in
    usable_at g.C.TableColumn.target c.args.dialect.now c.args.targets.now c.args.column (view_of_cell c.args.cell) low _
    (c.args.row + 1) c.requires.usable

pub returns-then-column-targets : goal.returns-then-column-targets
returns-then-column-targets g c =
    let above : length c.args.targets.now ≤ c.args.column = grind (arith, nat_tests) in
    let high : length (map g.C.TableColumn.target c.args.targets.now) ≤ c.args.column =
    omega (arith, above, length-map c.args.targets.now g.C.TableColumn.target) in
    let seen = map g.C.TableColumn.target c.args.targets.now in
    record {
      fault = c.cell_fault.ensures ∙ beyond_fault c.args.dialect.now seen c.args.column (view_of_cell c.args.cell) high;
      targets = beyond_same c.args.dialect.now seen c.args.column (view_of_cell c.args.cell) high c.args.row;
    }

pub returns-then-is_read : goal.returns-then-is_read
returns-then-is_read g c =
    let low : c.args.column < length c.args.targets.now = grind (arith, nat_tests) in
    record {
      fault =
          c.read_value.ensures.fault
          ∙ ap fault_in (answer_told g.C.TableColumn.target c.args.dialect.now c.args.targets.now c.args.column
          (view_of_cell c.args.cell) low _);
      targets = targets_told g.C.TableColumn.target c.args.dialect.now c.args.targets.now c.args.column
          (view_of_cell c.args.cell) low _ c.args.row c.read_value.new.target c.read_value.ensures.target;
    }

pub returns : goal.returns
returns g c =
    let low : c.args.column < length c.args.targets.now = grind (arith, nat_tests) in
    record {
      fault = c.cell_fault-2.ensures ∙ unread_fault g.C.TableColumn.target c.args.dialect.now c.args.targets.now c.args.column
          (view_of_cell c.args.cell) low _ (sym c.is_read.ensures ∙ c.if-is_read.false);
      targets = unread_same g.C.TableColumn.target c.args.dialect.now c.args.targets.now c.args.column
          (view_of_cell c.args.cell) low _ c.args.row (sym c.is_read.ensures ∙ c.if-is_read.false);
    }
