-- The cells of a row, with one column that is read and the others that aren't.
use Rattle.std.proofs.Common.{◌≡◌, ◌∙◌, ℕ, zero, suc, ◌+◌, ◌<◌, ◌≤◌, List, [], ◌∷◌, length, Bool, true, false, cond, Result, Option, Some, None, Ok, Err, refl, ap, sym, arith, inl, inr}
use Rattle.std.specs.List.{slice_get}
use Rattle.std.proofs.lemmas.Bool.{cases_lt, le-ltb, lt-ltb}
use Rattle.lexical_fields.specs.Columns as columns
use Rattle.lexical_fields.specs.Fields.{FieldView}
use Rattle.lexical_tables.specs.Readings.{Value}
use Rattle.lexical_tables.specs.ByColumn.{cell_answers, end_fault, wrong_cell}
use Rattle.lexical_tables.specs.Cells.{Kind, answer_as}
use Rattle.lexical_tables.specs.OneColumn.{only}
use Rattle.lexical_tables.specs.Rows.{RowView}
use Rattle.lexical_tables.specs.declared.answers.CellFault.{CellFault}
use Rattle.lexical_tables.specs.declared.answers.CellFault.TheVariants.{MissingReturn, TooFewCells, TooManyCells}
use Rattle.lexical_tables.specs.declared.answers.TableError.{TableError}
use Rattle.lexical_tables.specs.declared.dialect.Dialect.{Dialect}
use Rattle.lexical_tables.proofs.QuotesUnread.{unread_fine}

abbrev Answers : Type 0
Answers = List (Result (Option Value) CellFault)

pub answers_long : (d : Dialect) (kinds : List (Option Kind)) (cells : List FieldView)
    → length (cell_answers d kinds cells) ≡ length cells
answers_long d [] [] = refl
answers_long d (kind ∷ kinds) [] = refl
answers_long d [] (cell ∷ cells) = ap suc (answers_long d [] cells)
answers_long d (kind ∷ kinds) (cell ∷ cells) = ap suc (answers_long d kinds cells)

pub values_all : (answers : Answers) → columns.first_fault answers ≡ None
    → length (columns.values_before_fault answers) ≡ length answers
values_all [] fine = refl
values_all (Ok value ∷ more) fine = ap suc (values_all more fine)
values_all (Err fault ∷ more) fine = absurd cc

-- where all cells are right, they are without being read
unread_all : (d : Dialect) (kinds : List (Option Kind)) (cells : List FieldView)
    → columns.first_fault (cell_answers d kinds cells) ≡ None → columns.first_fault (cell_answers d [] cells) ≡ None
unread_all d kinds [] fine = refl
unread_all d [] (cell ∷ cells) fine = fine
unread_all d (kind ∷ kinds) (cell ∷ cells) fine =
    by_answer (answer_as d kind cell) (unread_all d kinds cells) refl fine
  where
    by_answer : (answer : Result (Option Value) CellFault)
        → (columns.first_fault (cell_answers d kinds cells) ≡ None → columns.first_fault (cell_answers d [] cells) ≡ None)
        → answer_as d kind cell ≡ answer
        → columns.first_fault (answer ∷ cell_answers d kinds cells) ≡ None
        → columns.first_fault (answer_as d None cell ∷ cell_answers d [] cells) ≡ None
    by_answer (Ok value) there is fine =
        ap (λ a. columns.first_fault (a ∷ cell_answers d [] cells)) (unread_fine d kind cell value is)
        ∙ there fine
    by_answer (Err fault) there is fine = absurd cc

pub alone_fine : (d : Dialect) (column : ℕ) (kinds : List (Option Kind)) (cells : List FieldView)
    → columns.first_fault (cell_answers d kinds cells) ≡ None
    → columns.first_fault (cell_answers d (only column kinds) cells) ≡ None
alone_fine d zero [] cells fine = fine
alone_fine d (suc column) [] cells fine = fine
alone_fine d zero (kind ∷ kinds) [] fine = refl
alone_fine d (suc column) (kind ∷ kinds) [] fine = refl
alone_fine d zero (kind ∷ kinds) (cell ∷ cells) fine = by_answer (answer_as d kind cell) fine
  where
    by_answer : (answer : Result (Option Value) CellFault) → columns.first_fault (answer ∷ cell_answers d kinds cells) ≡ None
        → columns.first_fault (answer ∷ cell_answers d [] cells) ≡ None
    by_answer (Ok value) fine = unread_all d kinds cells fine
    by_answer (Err fault) fine = absurd cc
alone_fine d (suc column) (kind ∷ kinds) (cell ∷ cells) fine =
    by_answer (answer_as d kind cell) (alone_fine d column kinds cells) refl fine
  where
    by_answer : (answer : Result (Option Value) CellFault)
        → (columns.first_fault (cell_answers d kinds cells) ≡ None
        → columns.first_fault (cell_answers d (only column kinds) cells) ≡ None)
        → answer_as d kind cell ≡ answer
        → columns.first_fault (answer ∷ cell_answers d kinds cells) ≡ None
        → columns.first_fault (answer_as d None cell ∷ cell_answers d (only column kinds) cells) ≡ None
    by_answer (Ok value) there is fine =
        ap (λ a. columns.first_fault (a ∷ cell_answers d (only column kinds) cells)) (unread_fine d kind cell value is)
        ∙ there fine
    by_answer (Err fault) there is fine = absurd cc

-- what is read of a column's cell in front of the first wrong one
pub alone_value : (d : Dialect) (column : ℕ) (kinds : List (Option Kind)) (cells : List FieldView)
    → column < length (columns.values_before_fault (cell_answers d kinds cells))
    → slice_get (columns.values_before_fault (cell_answers d (only column kinds) cells)) column
    ≡ slice_get (columns.values_before_fault (cell_answers d kinds cells)) column
alone_value d zero [] cells low = refl
alone_value d (suc column) [] cells low = refl
alone_value d zero (kind ∷ kinds) [] low = refl
alone_value d (suc column) (kind ∷ kinds) [] low = refl
alone_value d zero (kind ∷ kinds) (cell ∷ cells) low = by_answer (answer_as d kind cell)
  where
    by_answer : (answer : Result (Option Value) CellFault)
        → slice_get (columns.values_before_fault (answer ∷ cell_answers d [] cells)) 0
        ≡ slice_get (columns.values_before_fault (answer ∷ cell_answers d kinds cells)) 0
    by_answer (Ok value) = refl
    by_answer (Err fault) = refl
alone_value d (suc column) (kind ∷ kinds) (cell ∷ cells) low =
    by_answer (answer_as d kind cell) (alone_value d column kinds cells) refl low
  where
    by_answer : (answer : Result (Option Value) CellFault)
        → (column < length (columns.values_before_fault (cell_answers d kinds cells))
        → slice_get (columns.values_before_fault (cell_answers d (only column kinds) cells)) column
        ≡ slice_get (columns.values_before_fault (cell_answers d kinds cells)) column)
        → answer_as d kind cell ≡ answer
        → suc column < length (columns.values_before_fault (answer ∷ cell_answers d kinds cells))
        → slice_get (columns.values_before_fault (answer_as d None cell ∷ cell_answers d (only column kinds) cells)) (suc column)
        ≡ slice_get (columns.values_before_fault (answer ∷ cell_answers d kinds cells)) (suc column)
    by_answer (Ok value) there is low =
        ap (λ a. slice_get (columns.values_before_fault (a ∷ cell_answers d (only column kinds) cells)) (suc column))
        (unread_fine d kind cell value is)
        ∙ there (omega (arith, low))
    by_answer (Err fault) there is low = absurd (omega (arith, low))

-- ---- faults

some_same : (a b : TableError) → Some a ≡ Some b → a ≡ b
some_same a b is = cc

-- where a fault is told
pub told_at : (index at count : ℕ) (fault : CellFault) (error : TableError) → at ≡ count
    → Some (wrong_cell index at fault) ≡ Some error → (error.row ≡ index) × (error.column ≡ count)
told_at index at count fault error same is =
    let e = sym (some_same (wrong_cell index at fault) error is) in
    (ap (λ it. it.row) e, ap (λ it. it.column) e ∙ same)

-- the wrong cell of a row's end is behind all that were read
pub end_at : (columns index : ℕ) (row : RowView) (count : ℕ) (extra : Option ℕ) (error : TableError) → count ≤ columns
    → end_fault columns index row count extra ≡ Some error → (error.row ≡ index) × (error.column ≡ count)
end_at columns index row count (Some place) error low is = elim (cases_lt count columns) [
  | inl lt ↦
      told_at index count count (TooFewCells (row.start + length row.text)) error refl
      (sym (ap (λ t. cond t (Some (wrong_cell index count (TooFewCells (row.start + length row.text))))
      (Some (wrong_cell index columns (TooManyCells place)))) (lt-ltb count columns lt)) ∙ is)
  | inr ge ↦
      told_at index columns count (TooManyCells place) error (omega (arith, ge, low))
      (sym (ap (λ t. cond t (Some (wrong_cell index count (TooFewCells (row.start + length row.text))))
      (Some (wrong_cell index columns (TooManyCells place)))) (le-ltb count columns ge)) ∙ is)
]
end_at columns index row count None error low is = elim (cases_lt count columns) [
  | inl lt ↦
      told_at index count count (TooFewCells (row.start + length row.text)) error refl
      (sym (ap (λ t. cond t (Some (wrong_cell index count (TooFewCells (row.start + length row.text)))) by_return)
      (lt-ltb count columns lt)) ∙ is)
  | inr ge ↦
      lacks row.lacks_return (omega (arith, ge, low))
      (sym (ap (λ t. cond t (Some (wrong_cell index count (TooFewCells (row.start + length row.text)))) by_return)
      (le-ltb count columns ge)) ∙ is)
]
  where
    by_return : Option TableError
    by_return = cond row.lacks_return (Some (wrong_cell index columns (MissingReturn (row.start + length row.text)))) None

    lacks : (t : Bool) → columns ≡ count
        → cond t (Some (wrong_cell index columns (MissingReturn (row.start + length row.text)))) None ≡ Some error
        → (error.row ≡ index) × (error.column ≡ count)
    lacks true same is = told_at index columns count (MissingReturn (row.start + length row.text)) error same is
    lacks false same is = absurd cc
