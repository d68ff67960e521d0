-- A column that is read without the others.
use Rattle.std.proofs.Common.{◌≡◌, ◌∙◌, ℕ, zero, suc, ◌+◌, ◌<◌, ◌≤◌, List, [], ◌∷◌, length, take, drop, Bool, true, false, cond, Option, Some, None, Ok, refl, ap, ap₂, sym, subst, arith, inl, inr}
use Rattle.std.specs.Prelude.{IfOk, is_none, nat_lt, option_map}
use Rattle.std.specs.List.{slice_get}
use Rattle.std.proofs.lemmas.Bool.{cases_lt, le-ltb, lt-ltb}
use Rattle.std.proofs.lemmas.Option.{slice_get_past}
use Rattle.lexical_fields.specs.Columns as columns
use Rattle.lexical_fields.specs.Fields.{FieldView}
use Rattle.lexical_tables.specs.Readings.{Value}
use Rattle.lexical_tables.specs.ByColumn.{cells_of, columns_answer, columns_put, fault_of, first_fault, first_start, kinds_of, put_row, put_rows, row_answers, row_fault, row_values, values_to_fault}
use Rattle.lexical_tables.specs.Cells.{Kind, first_of, unless}
use Rattle.lexical_tables.specs.OneColumn.{IsReadAlone, cells_read, only}
use Rattle.lexical_tables.specs.Rows.{RowView, next_start, rows}
use Rattle.lexical_tables.specs.Targets.{TargetView, put_value}
use Rattle.lexical_tables.specs.declared.answers.CellFault.{CellFault}
use Rattle.lexical_tables.specs.declared.answers.Table.{Table}
use Rattle.lexical_tables.specs.declared.answers.TableError.{TableError}
use Rattle.lexical_tables.specs.declared.dialect.Dialect.{Dialect}
use Rattle.lexical_tables.proofs.CellsAlone.{alone_fine, alone_value, answers_long, end_at, told_at, values_all}
use Rattle.lexical_tables.specs.RowSoFar.{count_in}

-- ---- rows

module _ (d : Dialect) (column : ℕ) (kinds : List (Option Kind)) where
  abbrev cells_in : RowView → List FieldView
  cells_in row = take (count_in d) (cells_of d row)

  -- a wrong row: its wrong cell is behind those that were read
  fault_at : (index : ℕ) (row : RowView) (error : TableError) → row_fault kinds d index row ≡ Some error
      → (error.row ≡ index) × (error.column ≡ length (row_values kinds d row))
  fault_at index row error is =
      by_fault (columns.first_fault (row_answers kinds d row)) refl is
    where
      by_fault : (f : Option CellFault) → columns.first_fault (row_answers kinds d row) ≡ f
          → fault_of d index row (length (row_values kinds d row)) f ≡ Some error
          → (error.row ≡ index) × (error.column ≡ length (row_values kinds d row))
      by_fault (Some fault) same is =
          told_at index (length (row_values kinds d row)) (length (row_values kinds d row)) fault error refl is
      by_fault None fine is =
          let count : length (cells_in row) ≡ length (row_values kinds d row) =
          sym (answers_long d kinds (cells_in row)) ∙ sym (values_all (row_answers kinds d row) fine) in
          let told = end_at (count_in d) index row (length (cells_in row)) (first_start (drop (count_in d) (cells_of d row)))
          error (take_low (count_in d) (cells_of d row)) is in
          (told.0, told.1 ∙ count)
        where
          take_low : (n : ℕ) (cells : List FieldView) → length (take n cells) ≤ n
          take_low zero cells = omega arith
          take_low (suc n) [] = omega arith
          take_low (suc n) (cell ∷ cells) = omega (arith, take_low n cells)

  -- a row that is right has no wrong cell
  cells_fine : (index : ℕ) (row : RowView) → row_fault kinds d index row ≡ None
      → columns.first_fault (row_answers kinds d row) ≡ None
  cells_fine index row fine = by_fault (columns.first_fault (row_answers kinds d row)) fine
    where
      by_fault : (f : Option CellFault) → fault_of d index row (length (row_values kinds d row)) f ≡ None → f ≡ None
      by_fault None is = refl
      by_fault (Some fault) is = absurd cc

  abbrev alone : List (Option Kind)
  alone = only column kinds

  row_alone : (index : ℕ) (row : RowView) → row_fault kinds d index row ≡ None → row_fault alone d index row ≡ None
  row_alone index row fine =
      let all = cells_fine index row fine in
      ap (fault_of d index row (length (row_values alone d row))) (alone_fine d column kinds (cells_in row) all)
      ∙ ap (fault_of d index row (length (row_values kinds d row))) (sym all) ∙ fine

  -- what is read of the column's cell of a row that is right
  value_alone : (index : ℕ) (row : RowView) → row_fault kinds d index row ≡ None
      → slice_get (row_values alone d row) column ≡ slice_get (row_values kinds d row) column
  value_alone index row fine =
      let all = cells_fine index row fine in
      let size = values_all (row_answers kinds d row) all ∙ answers_long d kinds (cells_in row) in
      let size_alone : length (row_values alone d row) ≡ length (cells_in row) =
      values_all (row_answers alone d row) (alone_fine d column kinds (cells_in row) all)
      ∙ answers_long d alone (cells_in row) in
      elim (cases_lt column (length (row_values kinds d row))) [
        | inl lt ↦ alone_value d column kinds (cells_in row) lt
        | inr ge ↦
            slice_get_past (row_values alone d row) column (omega (arith, ge, size, size_alone))
            ∙ sym (slice_get_past (row_values kinds d row) column ge)
      ]

  -- ---- the column's target

  abbrev Slot : Type 0
  Slot = Option (Option TargetView)

  abbrev put_one : ℕ → Option (Option Value) → Slot → Slot
  put_one index None slot = slot
  put_one index (Some value) slot = option_map (option_map (put_value index value)) slot

  abbrev put_column : ℕ → List (List (Option Value)) → Slot → Slot
  put_column index [] slot = slot
  put_column index (values ∷ more) slot = put_column (index + 1) more (put_one index (slice_get values column) slot)

  -- rows without a fault
  all_alone : (index : ℕ) (lines : List RowView) (slot : Slot) → first_fault kinds d index lines ≡ None
      → put_column index (values_to_fault kinds d index lines) slot
      ≡ put_column index (values_to_fault alone d index lines) slot
  all_alone index [] slot fine = refl
  all_alone index (row ∷ more) slot fine =
      by_fault (row_fault kinds d index row)
      (all_alone (index + 1) more (put_one index (slice_get (row_values kinds d row) column) slot)) refl fine
    where
      by_fault : (f : Option TableError) → (first_fault kinds d (index + 1) more ≡ None
          → put_column (index + 1) (values_to_fault kinds d (index + 1) more)
          (put_one index (slice_get (row_values kinds d row) column) slot)
          ≡ put_column (index + 1) (values_to_fault alone d (index + 1) more)
          (put_one index (slice_get (row_values kinds d row) column) slot))
          → row_fault kinds d index row ≡ f → first_of f (first_fault kinds d (index + 1) more) ≡ None
          → put_column (index + 1) (cond (is_none f) (values_to_fault kinds d (index + 1) more) [])
          (put_one index (slice_get (row_values kinds d row) column) slot)
          ≡ put_column (index + 1)
          (cond (is_none (row_fault alone d index row)) (values_to_fault alone d (index + 1) more) [])
          (put_one index (slice_get (row_values alone d row) column) slot)
      by_fault None there is fine =
          there fine
          ∙ ap₂ (λ f v. put_column (index + 1) (cond (is_none f) (values_to_fault alone d (index + 1) more) [])
          (put_one index v slot)) (sym (row_alone index row is)) (sym (value_alone index row is))
      by_fault (Some error) there is fine = absurd cc

  none_alone : (index : ℕ) (lines : List RowView) → first_fault kinds d index lines ≡ None
      → first_fault alone d index lines ≡ None
  none_alone index [] fine = refl
  none_alone index (row ∷ more) fine =
      by_fault (row_fault kinds d index row) (none_alone (index + 1) more) refl fine
    where
      by_fault : (f : Option TableError)
          → (first_fault kinds d (index + 1) more ≡ None → first_fault alone d (index + 1) more ≡ None)
          → row_fault kinds d index row ≡ f → first_of f (first_fault kinds d (index + 1) more) ≡ None
          → first_of (row_fault alone d index row) (first_fault alone d (index + 1) more) ≡ None
      by_fault None there is fine =
          ap (λ f. first_of f (first_fault alone d (index + 1) more)) (row_alone index row is) ∙ there fine
      by_fault (Some error) there is fine = absurd cc

  -- a fault is in one of the rows
  fault_within : (index : ℕ) (lines : List RowView) (error : TableError) → first_fault kinds d index lines ≡ Some error
      → (index ≤ error.row) × (error.row < index + length lines)
  fault_within index [] error is = absurd cc
  fault_within index (row ∷ more) error is =
      by_fault (row_fault kinds d index row) (fault_within (index + 1) more error) refl is
    where
      by_fault : (f : Option TableError) → (first_fault kinds d (index + 1) more ≡ Some error
          → (index + 1 ≤ error.row) × (error.row < index + 1 + length more))
          → row_fault kinds d index row ≡ f
          → first_of f (first_fault kinds d (index + 1) more) ≡ Some error
          → (index ≤ error.row) × (error.row < index + suc (length more))
      by_fault None within same is =
          let there = within is in
          (omega (arith, there.0), omega (arith, there.1))
      by_fault (Some other) within same is =
          let at = fault_at index row error (same ∙ is) in
          (omega (arith, at.0), omega (arith, at.0))

  -- how many cells of the column are read, up to a fault
  abbrev read_to : TableError → ℕ
  read_to error = cond (nat_lt column error.column) (error.row + 1) error.row

  to_alone : (index : ℕ) (lines : List RowView) (slot : Slot) (error : TableError) (count : ℕ)
      → first_fault kinds d index lines ≡ Some error → index + count ≡ read_to error
      → put_column index (values_to_fault kinds d index lines) slot
      ≡ put_column index (values_to_fault alone d index (take count lines)) slot
  to_alone index [] slot error count is size = absurd cc
  to_alone index (row ∷ more) slot error count is size =
      by_fault (row_fault kinds d index row)
      (to_alone (index + 1) more (put_one index (slice_get (row_values kinds d row) column) slot) error) refl is
    where
      P : ℕ → Option TableError → Type 0
      P n f =
          put_column (index + 1) (cond (is_none f) (values_to_fault kinds d (index + 1) more) [])
          (put_one index (slice_get (row_values kinds d row) column) slot)
          ≡ put_column index (values_to_fault alone d index (take n (row ∷ more))) slot

      nothing_more : (t : Bool) → cond {A = List (List (Option Value))} t [] [] ≡ []
      nothing_more true = refl
      nothing_more false = refl

      wrong : (other : TableError) → error.row ≡ index → error.column ≡ length (row_values kinds d row)
          → (n : ℕ) → index + n ≡ read_to error → P n (Some other)
      wrong other at behind n size = elim (cases_lt column (length (row_values kinds d row))) [
        | inl lt ↦
            let test = lt-ltb column error.column (omega (arith, lt, behind)) in
            let one : 1 ≡ n = omega (arith, at, size, ap (λ t. cond t (error.row + 1) error.row) test) in
            subst (λ m. P m (Some other)) one
            (ap (λ v. put_one index v slot) (sym (alone_value d column kinds (cells_in row) lt))
            ∙ ap (λ l. put_column (index + 1) l (put_one index (slice_get (row_values alone d row) column) slot))
            (sym (nothing_more (is_none (row_fault alone d index row)))))
        | inr ge ↦
            let test = le-ltb column error.column (omega (arith, ge, behind)) in
            let none : 0 ≡ n = omega (arith, at, size, ap (λ t. cond t (error.row + 1) error.row) test) in
            subst (λ m. P m (Some other)) none
            (ap (λ v. put_one index v slot) (slice_get_past (row_values kinds d row) column ge))
      ]

      by_fault : (f : Option TableError) → ((left : ℕ) → first_fault kinds d (index + 1) more ≡ Some error
          → index + 1 + left ≡ read_to error
          → put_column (index + 1) (values_to_fault kinds d (index + 1) more)
          (put_one index (slice_get (row_values kinds d row) column) slot)
          ≡ put_column (index + 1) (values_to_fault alone d (index + 1) (take left more))
          (put_one index (slice_get (row_values kinds d row) column) slot))
          → row_fault kinds d index row ≡ f
          → first_of f (first_fault kinds d (index + 1) more) ≡ Some error → P count f
      by_fault (Some other) there same is =
          let at = fault_at index row error (same ∙ is) in
          wrong other at.0 at.1 count size
      by_fault None there same is =
          let high = (fault_within (index + 1) more error is).0 in
          let low : error.row ≤ read_to error = at_least (nat_lt column error.column) in
          let left = before count in
          let one : suc left ≡ count = is_before count (omega (arith, size, high, low)) in
          subst (λ m. P m None) one
          (there left is (omega (arith, size, one))
          ∙ ap₂ (λ f v. put_column (index + 1) (cond (is_none f) (values_to_fault alone d (index + 1) (take left more)) [])
          (put_one index v slot)) (sym (row_alone index row same)) (sym (value_alone index row same)))
        where
          at_least : (t : Bool) → error.row ≤ cond t (error.row + 1) error.row
          at_least true = omega arith
          at_least false = omega arith

          before : ℕ → ℕ
          before zero = 0
          before (suc n) = n

          is_before : (n : ℕ) → 0 < n → suc (before n) ≡ n
          is_before zero low = absurd (omega (arith, low))
          is_before (suc n) low = refl

  -- ---- in all targets

  one_none : (index : ℕ) (value : Option (Option Value)) → put_one index value None ≡ None
  one_none index None = refl
  one_none index (Some value) = refl

  row_slot : (index : ℕ) (values : List (Option Value)) (targets : List (Option TargetView)) (at : ℕ)
      → slice_get (put_row index values targets) at ≡ put_one index (slice_get values at) (slice_get targets at)
  row_slot index [] targets at = refl
  row_slot index (value ∷ values) [] at = sym (one_none index (slice_get (value ∷ values) at))
  row_slot index (value ∷ values) (target ∷ targets) zero = refl
  row_slot index (value ∷ values) (target ∷ targets) (suc at) = row_slot index values targets at

  rows_slot : (index : ℕ) (values : List (List (Option Value))) (targets : List (Option TargetView))
      → slice_get (put_rows index values targets) column ≡ put_column index values (slice_get targets column)
  rows_slot index [] targets = refl
  rows_slot index (values ∷ more) targets =
      rows_slot (index + 1) more (put_row index values targets)
      ∙ ap (put_column (index + 1) more) (row_slot index values targets column)

only_slot : (column : ℕ) (targets : List (Option TargetView)) → slice_get (only column targets) column ≡ slice_get targets column
only_slot zero [] = refl
only_slot (suc column) [] = refl
only_slot zero (target ∷ targets) = refl
only_slot (suc column) (target ∷ targets) = only_slot column targets

only_kinds : (column : ℕ) (targets : List (Option TargetView)) → kinds_of (only column targets) ≡ only column (kinds_of targets)
only_kinds zero [] = refl
only_kinds (suc column) [] = refl
only_kinds zero (target ∷ targets) = refl
only_kinds (suc column) (target ∷ targets) = ap (λ l. None ∷ l) (only_kinds column targets)

take_of_take : {X : Type 0} (n m : ℕ) (xs : List X) → n ≤ m → take n (take m xs) ≡ take n xs
take_of_take zero m xs low = refl
take_of_take (suc n) zero xs low = absurd (omega (arith, low))
take_of_take (suc n) (suc m) [] low = refl
take_of_take (suc n) (suc m) (x ∷ xs) low = ap (λ l. x ∷ l) (take_of_take n m xs (omega (arith, low)))

take_few : {X : Type 0} (n : ℕ) (xs : List X) → length (take n xs) ≤ n
take_few zero xs = omega arith
take_few (suc n) [] = omega arith
take_few (suc n) (x ∷ xs) = omega (arith, take_few n xs)

module _ (targets : List (Option TargetView)) (d : Dialect) (room : ℕ) (text : List ℕ) (column : ℕ) where
  abbrev lines : List RowView
  lines = take room (rows d text)

  abbrev table : Table
  table = record { rows = length lines; stop = next_start (length text) (drop room (rows d text)) }

  -- what a column gets of the first `count` rows without the other columns
  put_alone : (count : ℕ) → slice_get (columns_put d count text (only column targets)) column
      ≡ put_column d column (kinds_of targets) 0
      (values_to_fault (only column (kinds_of targets)) d 0 (take count (rows d text))) (slice_get targets column)
  unfolding columns_put
  put_alone count =
      rows_slot d column (kinds_of targets) 0
      (values_to_fault (kinds_of (only column targets)) d 0 (take count (rows d text))) (only column targets)
      ∙ ap₂ (λ k s. put_column d column (kinds_of targets) 0 (values_to_fault k d 0 (take count (rows d text))) s)
      (only_kinds column targets) (only_slot column targets)

  by_fault : (f : Option TableError) → first_fault (kinds_of targets) d 0 lines ≡ f
      → put_column d column (kinds_of targets) 0 (values_to_fault (kinds_of targets) d 0 lines) (slice_get targets column)
      ≡ put_column d column (kinds_of targets) 0 (values_to_fault (only column (kinds_of targets)) d 0
      (take (cells_read column room (unless f (Ok table))) (rows d text))) (slice_get targets column)
  by_fault None is = all_alone d column (kinds_of targets) 0 lines (slice_get targets column) is
  by_fault (Some error) is =
      let count = read_to d column (kinds_of targets) error in
      let within = (fault_within d column (kinds_of targets) 0 lines error is).1 in
      let low : count ≤ error.row + 1 = at_most (nat_lt column error.column) in
      let few : count ≤ room = omega (arith, low, within, take_few room (rows d text)) in
      to_alone d column (kinds_of targets) 0 lines (slice_get targets column) error count is (zero_add count)
      ∙ ap (λ l. put_column d column (kinds_of targets) 0 (values_to_fault (only column (kinds_of targets)) d 0 l)
      (slice_get targets column)) (take_of_take count room (rows d text) few)
    where
      zero_add : (n : ℕ) → 0 + n ≡ n
      zero_add n = omega arith

      at_most : (t : Bool) → cond t (error.row + 1) error.row ≤ error.row + 1
      at_most true = omega arith
      at_most false = omega arith

  answer_alone : (f : Option TableError) → first_fault (kinds_of targets) d 0 lines ≡ f
      → IfOk (unless f (Ok table)) (λ it. columns_answer (kinds_of (only column targets)) d room text ≡ Ok it)
  unfolding columns_answer
  answer_alone None is =
      ap (λ k. unless (first_fault k d 0 lines) (Ok table)) (only_kinds column targets)
      ∙ ap (λ f. unless f (Ok table)) (none_alone d column (kinds_of targets) 0 lines is)
  answer_alone (Some error) is = tt

pub is_read_alone : (targets : List (Option TargetView)) (d : Dialect) (room : ℕ) (text : List ℕ) (column : ℕ)
    → IsReadAlone targets d room text column
unfolding columns_answer columns_put
is_read_alone targets d room text column =
    let fault = first_fault (kinds_of targets) d 0 (take room (rows d text)) in
    record {
      numbers =
          rows_slot d column (kinds_of targets) 0
          (values_to_fault (kinds_of targets) d 0 (take room (rows d text))) targets
          ∙ by_fault targets d room text column fault refl
          ∙ sym (put_alone targets d room text column (cells_read column room
          (unless fault (Ok (table targets d room text column)))));
      answer = answer_alone targets d room text column fault refl;
    }
