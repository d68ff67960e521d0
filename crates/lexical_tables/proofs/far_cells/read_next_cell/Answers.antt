use Rattle.std.proofs.Common.{◌≡◌, ◌≢◌, ◌∙◌, ◌+◌, ◌-◌, ◌<◌, ◌≤◌, ◌∷◌, [], None, ap, arith, cond, drop, inl, inr, length, map, refl, subst, sym, take}
use Rattle.std.proofs.lemmas.Bool.Decides.{nat_tests}
use Rattle.std.specs.Prelude.{option_map}
use Rattle.lexical_fields.specs.Fields.{FieldView}
use Rattle.lexical_tables.specs.ByColumn.{AreUsable, answer_at, end_fault, fault_in, kinds_of, wrong_cell}
use Rattle.lexical_tables.specs.Codes.{AreCodes}
use Rattle.lexical_tables.specs.RowSoFar.{IsRowDone, IsRowPut, cells_behind, count_in}
use Rattle.lexical_tables.specs.Rows.{first_row}
use Rattle.lexical_tables.proofs.CodeSteps.{codes_put}
use Rattle.lexical_tables.proofs.ColumnSteps.{after_cell, after_fault, row_ends}
use Rattle.lexical_tables.proofs.PutSteps.{use_put}
use Rattle.lexical_tables.proofs.PassSteps.{cell_starts, none_wrong, passed_low, row_size, some_wrong, too_many}
use Rattle.lexical_tables.proofs.far_cells.read_next_cell.Goals as goal

pub returns-then-column-columns-clause-done : goal.returns-then-column-columns-clause-done
returns-then-column-columns-clause-done g c = λ is_done kinds old put.
    let d = c.args.dialect.now in
    let text = c.args.text.now in
    let left = c.args.left.text.now in
    let column = c.args.column in
    let row = first_row d c.args.start text in
    let before = map g.C.TableColumn.target c.args.targets.now in
    let all : count_in d ≡ column = grind (arith, nat_tests) in
    let full : count_in d ≤ column = omega (arith, all) in
    row_ends kinds d c.args.index row old before column _ put _ (inr full)
    (too_many (count_in d) c.args.index column (c.args.start + (length text - length left)) row all
    ∙ ap (end_fault (count_in d) c.args.index row column)
    (sym (cell_starts d c.args.separator c.requires.marked c.args.start text left c.requires.here column)))

pub read_rest-text-requires-clause-passed : goal.read_rest-text-requires-clause-passed
read_rest-text-requires-clause-passed g c =
    let d = c.args.dialect.now in
    let text = c.args.text.now in
    omega (
      arith,
      passed_low d c.args.separator c.requires.marked c.args.start text c.args.left.text.now c.requires.here,
      row_size d c.args.separator c.requires.marked c.args.start text,
    )

pub returns-then-not-read_left_cell-clause-done : goal.returns-then-not-read_left_cell-clause-done
returns-then-not-read_left_cell-clause-done g c = λ is_done kinds old put.
    let d = c.args.dialect.now in
    let text = c.args.text.now in
    let left = c.args.left.text.now in
    let row = first_row d c.args.start text in
    let before = map g.C.TableColumn.target c.args.targets.now in
    let now = map g.C.TableColumn.target c.read_left_cell.new.targets in
    let part = c.in-Some.found.part in
    let cell : FieldView = record { start = c.args.start + (length text - length left); text = take part.size left } in
    let apart : c.args.column ≢ c.args.columns = grind (arith, nat_tests) in
    let more : c.args.column < count_in d = omega (arith, c.requires.few, apart, c.requires.columns) in
    let found = fault_in (answer_at d (kinds_of before) c.args.column cell) in
    subst (IsRowDone kinds d c.args.index row old now) (sym c.if-not-read_left_cell.ensures.fault)
    (some_wrong found c.if-not-read_left_cell.ensures.right
    (λ f. IsRowDone kinds d c.args.index row old now (option_map (wrong_cell c.args.index c.args.column) f))
    (λ fault is. after_fault kinds d c.args.index row old before c.args.column _ put cell _
    (c.in-Some.ensures.part.cells c.args.start c.args.column) more now fault is c.read_left_cell.ensures.targets))

pub returns-then-not-found-clause-goes_on : goal.returns-then-not-found-clause-goes_on
returns-then-not-found-clause-goes_on g c = λ goes kinds old put.
    let d = c.args.dialect.now in
    let text = c.args.text.now in
    let left = c.args.left.text.now in
    let start = c.args.start in
    let row = first_row d start text in
    let column = c.args.column in
    let before = map g.C.TableColumn.target c.args.targets.now in
    let now = map g.C.TableColumn.target c.read_left_cell.new.targets in
    let part = c.in-Some.found.part in
    let cell : FieldView = record { start = start + (length text - length left); text = take part.size left } in
    let apart : column ≢ c.args.columns = grind (arith, nat_tests) in
    let more : column < count_in d = omega (arith, c.requires.few, apart, c.requires.columns) in
    let at = c.in-Some.ensures.part.cells start column
    ∙ ap (λ t. cell ∷ cond t [] (cells_behind d row (column + 1) (length text - length (drop (part.end + 1) left)))) c.if-not-found.true
    ∙ ap (λ l. cell ∷ cells_behind d row (column + 1) (length text - length l)) (sym c.in-Some.ensures.behind.text) in
    let fine = none_wrong _ c.if-not-read_left_cell.ensures.right in
    subst (λ r. IsRowPut kinds d c.args.index row old now r.column (cells_behind d row r.column (length text - length r.left.text.now)))
    (sym c.not_done.ensures)
    (after_cell kinds d c.args.index row old before column _ put cell _ at more now fine c.read_left_cell.ensures.targets)

pub returns-then-not-found-clause-codes : goal.returns-then-not-found-clause-codes
returns-then-not-found-clause-codes g c = λ goes.
    let d = c.args.dialect.now in
    let before = map g.C.TableColumn.target c.args.targets.now in
    let cell : FieldView = record { start = c.args.start + (length c.args.text.now - length c.args.left.text.now); text = take c.in-Some.found.part.size c.args.left.text.now } in
    subst (AreCodes d c.args.codes.now) (sym c.read_left_cell.ensures.targets)
    (codes_put d c.args.codes.now c.args.index c.args.column (answer_at d (kinds_of before) c.args.column cell) before c.requires.codes)

pub returns-clause-done : goal.returns-clause-done
returns-clause-done g c = λ is_done kinds old put.
    let d = c.args.dialect.now in
    let text = c.args.text.now in
    let left = c.args.left.text.now in
    let row = first_row d c.args.start text in
    let column = c.args.column in
    let before = map g.C.TableColumn.target c.args.targets.now in
    let now = map g.C.TableColumn.target c.read_left_cell.new.targets in
    let part = c.in-Some.found.part in
    let cell : FieldView = record { start = c.args.start + (length text - length left); text = take part.size left } in
    let apart : column ≢ c.args.columns = grind (arith, nat_tests) in
    let more : column < count_in d = omega (arith, c.requires.few, apart, c.requires.columns) in
    let fine = none_wrong _ c.if-not-read_left_cell.ensures.right in
    let at = c.in-Some.ensures.part.cells c.args.start column
    ∙ ap (λ t. cell ∷ cond t [] (cells_behind d row (column + 1) (length text - length (drop (part.end + 1) left)))) c.if-not-found.false in
    let one_more = after_cell kinds d c.args.index row old before column _ put cell _ at more now fine c.read_left_cell.ensures.targets in
    row_ends kinds d c.args.index row old now (column + 1) [] one_more c.end_row.new.wrong (inl refl)
    (c.end_row.ensures ∙ ap (λ n. end_fault n c.args.index row (column + 1) None) c.requires.columns)

pub returns-then-not-found-clause-usable : goal.returns-then-not-found-clause-usable
returns-then-not-found-clause-usable g c = λ goes room usable.
    subst (AreUsable room) (sym c.read_left_cell.ensures.targets)
    (use_put room c.args.index c.args.column _ (map g.C.TableColumn.target c.args.targets.now) usable)
