-- The rows of a text, stepped over one after another, and where each is.
use Rattle.std.proofs.Common.{◌≡◌, ◌∙◌, ℕ, suc, ◌+◌, ◌-◌, ◌<◌, ◌≤◌, List, [], ◌∷◌, length, take, drop, cond, Bool, true, false, Option, Some, None, Ok, refl, ap, ap₂, sym, subst, arith, length-drop}
use Rattle.std.specs.Prelude.{IfSome, is_some, nat_lt}
use Rattle.std.proofs.lemmas.Bool.{le-ltb, lt-ltb}
use Rattle.std.proofs.lemmas.List.{drop-drop, length-take}
use Rattle.lexical_fields.specs.Columns as columns
use Rattle.lexical_tables.specs.ByColumn.{cells_of, column_count, columns_answer, end_fault, fault_of, first_fault, first_of, first_start, row_answers, row_fault, row_values, unless, wrong_cell}
use Rattle.lexical_tables.specs.Cells.{Kind}
use Rattle.lexical_tables.specs.Places.{HasPlace, StandsAt, place_of, row_place}
use Rattle.lexical_tables.specs.Rows.{FirstCounts, RowView, behind_piece, first_row, next_start, rows, rows_from}
use Rattle.lexical_tables.specs.declared.answers.CellFault.{CellFault}
use Rattle.lexical_tables.specs.declared.answers.CellFault.TheVariants.{MissingReturn, TooFewCells, TooManyCells}
use Rattle.lexical_tables.specs.declared.answers.TableError.{TableError}
use Rattle.lexical_tables.specs.declared.dialect.Dialect.{Dialect}
use Rattle.lexical_tables.specs.declared.places.RowPlace.{RowPlace}
use Rattle.lexical_tables.proofs.LineSteps.{none_of}
use Rattle.lexical_tables.proofs.RowSteps.{HasRowsOf, next_row, no_rows, piece_goes, start_of_rows, tail_of_tail}

-- ---- behind a row

-- What is left of a text behind its first row.
pub record IsBehindRow (d : Dialect) (text behind : List ℕ) : Type 0 where
  pub shorter : length behind < length text
  pub tail : behind ≡ drop (length text - length behind) text
  pub rows_are : (place : ℕ) → rows_from d place text
      ≡ first_row d place text ∷ rows_from d (place + (length text - length behind)) behind
  pub first_counts : FirstCounts d behind

-- behind its first line or record, and the empty rows there
pub row_behind : (d : Dialect) (text piece behind : List ℕ) → 0 < length text → FirstCounts d text
    → piece ≡ behind_piece d.layout d.has_quotes text → length piece < length text → HasRowsOf d piece behind
    → FirstCounts d behind → IsBehindRow d text behind
row_behind d text piece behind some first back shorter skipped counted =
    let none : length text - length text ≡ 0 = omega arith in
    record {
      shorter = omega (arith, skipped.within);
      tail =
          tail_of_tail text piece behind skipped.within (omega arith)
          (piece_goes d.layout d.has_quotes text text piece (omega arith) (ap (λ k. drop k text) (sym none)) back) skipped.tail;
      rows_are = λ place.
          next_row d place text piece some back first
          ∙ ap (λ l. first_row d place text ∷ l)
          (skipped.rows_are (place + (length text - length piece))
          ∙ ap (λ k. rows_from d k behind) (at place));
      first_counts = counted;
    }
  where
    at : (place : ℕ) → place + (length text - length piece) + (length piece - length behind)
        ≡ place + (length text - length behind)
    at place = omega (arith, shorter, skipped.within)

-- ---- rows that were passed

-- `index` rows of a text were passed, and what is left has the others.
pub record IsPassedTo (d : Dialect) (text : List ℕ) (index : ℕ) (rest : List ℕ) : Type 0 where
  pub few : index + length rest ≤ length text
  pub tail : rest ≡ drop (length text - length rest) text
  pub first_counts : FirstCounts d rest
  pub place : drop index (rows d text) ≡ rows_from d (length text - length rest) rest

pub rows_start : (d : Dialect) (text rest : List ℕ) → HasRowsOf d text rest → FirstCounts d rest
    → IsPassedTo d text 0 rest
rows_start d text rest skipped first =
    let start : 0 + (length text - length rest) ≡ length text - length rest = omega arith in
    record {
      few = omega (arith, skipped.within);
      tail = skipped.tail;
      first_counts = first;
      place = skipped.rows_are 0 ∙ ap (λ k. rows_from d k rest) start;
    }

module _ (d : Dialect) (text : List ℕ) (index : ℕ) (rest : List ℕ) (passed : IsPassedTo d text index rest) where
  -- where they begin
  pub next_place : next_start (length text) (drop index (rows d text)) ≡ length text - length rest
  next_place = ap (next_start (length text)) passed.place ∙ start_of_rows d text rest passed.first_counts

  -- the rows from there on
  pub rows_there : rows_from d (length text - length rest) (drop (length text - length rest) text) ≡ drop index (rows d text)
  rows_there = ap (rows_from d (length text - length rest)) (sym passed.tail) ∙ sym passed.place

  -- no byte is left
  pub no_more : length rest ≡ 0 → drop index (rows d text) ≡ []
  no_more ended =
      passed.place ∙ ap (rows_from d (length text - length rest)) (none_of rest ended)
      ∙ no_rows d (length text - length rest)

  module _ (behind : List ℕ) (step : IsBehindRow d rest behind) where
    abbrev row : RowView
    row = first_row d (length text - length rest) rest

    -- the rows that are left, by the first
    pub rows_go : drop index (rows d text) ≡ row ∷ rows_from d (length text - length behind) behind
    rows_go =
        let at : length text - length rest + (length rest - length behind) ≡ length text - length behind =
        omega (arith, passed.few, step.shorter) in
        passed.place ∙ step.rows_are (length text - length rest)
        ∙ ap (λ k. row ∷ rows_from d k behind) at

    -- one row more
    pub passed_goes : IsPassedTo d text (index + 1) behind
    passed_goes = record {
      few = omega (arith, passed.few, step.shorter);
      tail = tail_of_tail text rest behind (omega (arith, step.shorter)) (omega (arith, passed.few)) passed.tail step.tail;
      first_counts = step.first_counts;
      place = sym (drop-drop 1 index (rows d text)) ∙ ap (drop 1) rows_go;
    }

-- ---- where a row is

abbrev place_between : List ℕ → List ℕ → List ℕ → RowPlace
place_between text rest behind = record { start = length text - length rest; stop = length text - length behind }

module _ (d : Dialect) (text : List ℕ) (index : ℕ) (rest : List ℕ) (passed : IsPassedTo d text index rest)
    (behind : List ℕ) (step : IsBehindRow d rest behind) where
  pub place_found : place_of d text index ≡ place_between text rest behind
  place_found =
      ap₂ (λ start stop. record { start = start; stop = stop }) (next_place d text index rest passed)
      (next_place d text (index + 1) behind (passed_goes d text index rest passed behind step))

  row_is_there : index < length (rows d text)
  row_is_there =
      let some : 0 < length (drop index (rows d text)) = omega (arith, ap length (rows_go d text index rest passed behind step)) in
      omega (arith, some, length-drop index (rows d text))

  pub place_there : row_place d index text ≡ Some (place_between text rest behind)
  unfolding row_place
  place_there =
      ap (λ t. cond t (Some (place_of d text index)) None) (lt-ltb index (length (rows d text)) row_is_there)
      ∙ ap Some place_found

  pub stands_there : StandsAt d index text (place_between text rest behind)
  stands_there = record {
    some = omega (arith, step.shorter, passed.few);
    within_text = omega arith;
    begins = rows_there d text index rest passed;
    goes_on = rows_there d text (index + 1) behind (passed_goes d text index rest passed behind step);
  }

-- a text that has no more rows
pub no_place : (d : Dialect) (text : List ℕ) (index row : ℕ) (rest : List ℕ) → IsPassedTo d text index rest
    → length rest ≡ 0 → index ≤ row → row_place d row text ≡ None
unfolding row_place
no_place d text index row rest passed ended high =
    let none : length (drop index (rows d text)) ≡ 0 = ap length (no_more d text index rest passed ended) in
    let all : length (rows d text) ≤ row = omega (arith, high, none, length-drop index (rows d text)) in
    ap (λ t. cond t (Some (place_of d text row)) None) (le-ltb row (length (rows d text)) all)

-- ---- the row of a fault

end_row : (columns index : ℕ) (row : RowView) (count : ℕ) (extra : Option ℕ)
    → IfSome (end_fault columns index row count extra) (λ error. error.row ≡ index)
end_row columns index row count (Some place) = by_test (nat_lt count columns)
  where
    by_test : (t : Bool) → IfSome (cond t (Some (wrong_cell index count (TooFewCells (row.start + length row.text))))
        (Some (wrong_cell index columns (TooManyCells place)))) (λ error. error.row ≡ index)
    by_test true = refl
    by_test false = refl
end_row columns index row count None = by_tests (nat_lt count columns) row.lacks_return
  where
    by_tests : (t r : Bool) → IfSome (cond t (Some (wrong_cell index count (TooFewCells (row.start + length row.text))))
        (cond r (Some (wrong_cell index columns (MissingReturn (row.start + length row.text)))) None))
        (λ error. error.row ≡ index)
    by_tests true r = refl
    by_tests false true = refl
    by_tests false false = tt

fault_row : (kinds : List (Option Kind)) (d : Dialect) (index : ℕ) (row : RowView)
    → IfSome (row_fault kinds d index row) (λ error. error.row ≡ index)
fault_row kinds d index row = by_cell (columns.first_fault (row_answers kinds d row))
  where
    by_cell : (fault : Option CellFault)
        → IfSome (fault_of d index row (length (row_values kinds d row)) fault) (λ error. error.row ≡ index)
    by_cell (Some fault) = refl
    by_cell None =
        let cells = cells_of d row in
        let columns = column_count d.layout in
        end_row columns index row (length (take columns cells)) (first_start (drop columns cells))

-- a row's fault has its number
pub row_of_fault : (kinds : List (Option Kind)) (d : Dialect) (index : ℕ) (row : RowView) (error : TableError)
    → row_fault kinds d index row ≡ Some error → error.row ≡ index
row_of_fault kinds d index row error is = subst (λ it. IfSome it (λ error. error.row ≡ index)) is (fault_row kinds d index row)

first_fault_row : (kinds : List (Option Kind)) (d : Dialect) (index : ℕ) (all : List RowView)
    → IfSome (first_fault kinds d index all) (λ error. error.row < index + length all)
first_fault_row kinds d index [] = tt
first_fault_row kinds d index (row ∷ more) =
    by_fault (row_fault kinds d index row) (fault_row kinds d index row) (first_fault kinds d (index + 1) more)
    (first_fault_row kinds d (index + 1) more)
  where
    by_fault : (here : Option TableError) → IfSome here (λ error. error.row ≡ index) → (later : Option TableError)
        → IfSome later (λ error. error.row < index + 1 + length more)
        → IfSome (first_of here later) (λ error. error.row < index + suc (length more))
    by_fault (Some error) at later low = omega (arith, at)
    by_fault None at (Some error) low = omega (arith, low)
    by_fault None at None low = tt

pub fault_place : (kinds : List (Option Kind)) (d : Dialect) (room : ℕ) (text : List ℕ)
    → HasPlace d text (columns_answer kinds d room text)
unfolding columns_answer row_place
fault_place kinds d room text =
    by_fault (first_fault kinds d 0 (take room (rows d text))) (first_fault_row kinds d 0 (take room (rows d text)))
  where
    less : length (take room (rows d text)) ≤ length (rows d text)
    less = omega (arith, length-take room (rows d text))

    by_fault : (fault : Option TableError) → IfSome fault (λ error. error.row < 0 + length (take room (rows d text)))
        → HasPlace d text (unless fault (Ok (record {
          rows = length (take room (rows d text));
          stop = next_start (length text) (drop room (rows d text));
        })))
    by_fault None low = tt
    by_fault (Some error) low =
        ap (λ t. is_some (cond t (Some (place_of d text error.row)) None))
        (lt-ltb error.row (length (rows d text)) (omega (arith, low, less)))
