use Rattle.std.proofs.Common.{◌≡◌, ◌+◌, ◌<◌, ◌≤◌, ◌∙◌, None, false, length, get_or, map, ap, arith, sym, subst}
use Rattle.std.proofs.lemmas.Bool.Decides.{nat_tests}
use Rattle.std.proofs.lemmas.List.{length-map}
use Rattle.std.specs.Prelude.{is_none, is_some, option_map}
use Rattle.lexical_tables.specs.ByColumn.{fault_in, wrong_cell}
use Rattle.lexical_tables.specs.Cells.{quote_fault, view_of_cell}
use Rattle.lexical_tables.specs.Codes.{IsCodeIn}
use Rattle.lexical_tables.proofs.CellSteps.{answer_told, beyond_fault, beyond_same, code_told, targets_told, unread_at, unread_stays, usable_at}
use Rattle.lexical_tables.proofs.wide_rows.read_wide_cell.Given.{Over}
use Rattle.lexical_tables.proofs.wide_rows.read_wide_cell.Goals.{Then-code-eq-NOT_READ}
use Rattle.lexical_tables.proofs.wide_rows.read_wide_cell.Goals as goal

pub returns-then-column-targets : goal.returns-then-column-targets
returns-then-column-targets g c =
    let seen = map g.C.TableColumn.target c.args.targets.now in
    let cell = view_of_cell c.args.cell in
    let high : length seen ≤ c.args.column =
    omega (arith, c.if-column-targets.true, length-map c.args.targets.now g.C.TableColumn.target) in
    let fine = ap (λ quotes. quote_fault quotes false cell) (sym c.requires.quotes)
    ∙ beyond_fault c.args.dialect.now seen c.args.column cell high in
    record {
      right = ap is_none fine;
      fault = c.requires.fine ∙ ap (option_map (wrong_cell c.args.row c.args.column)) fine;
      targets = beyond_same c.args.dialect.now seen c.args.column cell high c.args.row;
    }

-- a column that isn't read
unread : (g : Over) (c : Then-code-eq-NOT_READ g)
    → is_some (get_or (map g.C.TableColumn.target c.args.targets.now) c.args.column None) ≡ false
unread g c =
    let coded : c.args.column < length c.args.codes.now = grind (arith, nat_tests) in
    let seen : c.args.column < length (map g.C.TableColumn.target c.args.targets.now) =
    omega (arith, c.if-column-targets.false, length-map c.args.targets.now g.C.TableColumn.target) in
    (c.requires.codes c.args.column coded seen).column.unread (sym (c.code_of-code.ensures.coded coded) ∙ c.if-code-eq-NOT_READ.true)

pub returns-then-code-eq-NOT_READ : goal.returns-then-code-eq-NOT_READ
returns-then-code-eq-NOT_READ g c =
    let seen = map g.C.TableColumn.target c.args.targets.now in
    let cell = view_of_cell c.args.cell in
    let low : c.args.column < length seen =
    omega (arith, c.if-column-targets.false, length-map c.args.targets.now g.C.TableColumn.target) in
    let fine = ap (λ quotes. quote_fault quotes false cell) (sym c.requires.quotes)
    ∙ unread_at c.args.dialect.now seen c.args.column cell low (unread g c) in
    record {
      right = ap is_none fine;
      fault = c.requires.fine ∙ ap (option_map (wrong_cell c.args.row c.args.column)) fine;
      targets = unread_stays c.args.dialect.now seen c.args.column cell low (unread g c) c.args.row;
    }

pub read_number-requires-clause-code : goal.read_number-requires-clause-code
read_number-requires-clause-code g c =
    let coded : c.args.column < length c.args.codes.now = grind (arith, nat_tests) in
    subst (λ code. IsCodeIn c.args.dialect.now code
    (g.C.TableColumn.target (get_or c.args.targets.now c.args.column c.index-targets-column.result)))
    (sym (c.code_of-code.ensures.coded coded))
    (code_told g.C.TableColumn.target c.args.dialect.now c.args.targets.now c.args.column (view_of_cell c.args.cell)
    c.if-column-targets.false _ c.args.codes.now coded c.requires.codes)

pub read_number-requires-clause-usable : goal.read_number-requires-clause-usable
read_number-requires-clause-usable g c =
    usable_at g.C.TableColumn.target c.args.dialect.now c.args.targets.now c.args.column (view_of_cell c.args.cell)
    c.if-column-targets.false _ (c.args.row + 1) c.requires.usable

pub returns-then-code-ge-U8 : goal.returns-then-code-ge-U8
returns-then-code-ge-U8 g c =
    let cell = view_of_cell c.args.cell in
    let told = answer_told g.C.TableColumn.target c.args.dialect.now c.args.targets.now c.args.column cell
    c.if-column-targets.false _ in
    record {
      right = c.read_number.ensures.right ∙ ap (λ answer. is_none (fault_in answer)) told;
      fault = c.read_number.ensures.fault
          ∙ ap (λ answer. option_map (wrong_cell c.args.row c.args.column) (fault_in answer)) told;
      targets = targets_told g.C.TableColumn.target c.args.dialect.now c.args.targets.now c.args.column cell
          c.if-column-targets.false _ c.args.row c.read_number.new.target c.read_number.ensures.target;
    }
