use Rattle.std.proofs.Common.{◌+◌, ◌∙◌, ap, take}
use Rattle.std.specs.Prelude.{is_none, option_map}
use Rattle.lexical_fields.specs.Fields.{FieldView}
use Rattle.lexical_tables.specs.ByColumn.{fault_in, wrong_cell}
use Rattle.lexical_tables.proofs.CellSteps.{answer_told, known_told, targets_told, usable_at}
use Rattle.lexical_tables.proofs.CodeSteps.{numbers_coded, typed_with_blanks}
use Rattle.lexical_tables.proofs.coded_cells.read_typed_cell.Given.{Over}
use Rattle.lexical_tables.proofs.coded_cells.read_typed_cell.Goals.{After-read_other_number}
use Rattle.lexical_tables.proofs.coded_cells.read_typed_cell.Goals as goal

-- the cell
abbrev cell : (g : Over) → After-read_other_number g → FieldView
cell g c = record { start = c.args.start; text = take c.args.size c.args.ahead.now }

pub read_other_number-requires-clause-usable : goal.read_other_number-requires-clause-usable
read_other_number-requires-clause-usable g c =
    usable_at g.C.TableColumn.target c.args.dialect.now c.args.targets.now c.args.column
    (record { start = c.args.start; text = take c.args.size c.args.ahead.now }) c.if-column-targets.false _ (c.args.row + 1)
    c.requires.usable

pub read_other_number-requires-clause-read : goal.read_other_number-requires-clause-read
read_other_number-requires-clause-read g c =
    typed_with_blanks c.args.dialect.now c.args.code _ (c.requires.code c.if-column-targets.false) c.requires.read

pub read_other_number-requires-clause-numbers : goal.read_other_number-requires-clause-numbers
read_other_number-requires-clause-numbers g c =
    numbers_coded c.args.dialect.now c.args.code _
    (known_told g.C.TableColumn.target c.args.dialect.now c.args.targets.now c.args.column
    (record { start = c.args.start; text = take c.args.size c.args.ahead.now }) c.if-column-targets.false _ c.args.code
    (c.requires.code c.if-column-targets.false))
    c.requires.read

pub returns-clause-right : goal.returns-clause-right
returns-clause-right g c =
    c.read_other_number.ensures.right
    ∙ ap (λ answer. is_none (fault_in answer)) (answer_told g.C.TableColumn.target c.args.dialect.now c.args.targets.now
    c.args.column (cell g c) c.if-column-targets.false _)

pub returns-clause-fault : goal.returns-clause-fault
returns-clause-fault g c =
    c.read_other_number.ensures.fault
    ∙ ap (λ answer. option_map (wrong_cell c.args.row c.args.column) (fault_in answer)) (answer_told g.C.TableColumn.target
    c.args.dialect.now c.args.targets.now c.args.column (cell g c) c.if-column-targets.false _)

pub returns-clause-targets : goal.returns-clause-targets
returns-clause-targets g c =
    targets_told g.C.TableColumn.target c.args.dialect.now c.args.targets.now c.args.column (cell g c)
    c.if-column-targets.false _ c.args.row c.read_other_number.new.target c.read_other_number.ensures.target
