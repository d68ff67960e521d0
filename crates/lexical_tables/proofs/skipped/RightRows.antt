-- The right rows of a table, and what is put of bad ones.
use Rattle.std.proofs.Common.{◌≡◌, ◌∙◌, ℕ, zero, suc, ◌+◌, ◌≤◌, List, [], ◌∷◌, length, take, drop, map, cond, Bool, true, false, Result, Option, Some, None, Ok, Err, refl, ap, sym, subst, arith, inl, inr}
use Rattle.std.specs.Prelude.{is_none, nat_lt, option_map}
use Rattle.std.proofs.lemmas.Bool.{cases_lt, lt-ltb}
use Rattle.std.proofs.lemmas.List.{length-take}
use Rattle.lexical_fields.specs.Columns as columns
use Rattle.lexical_fields.specs.Fields.{FieldView}
use Rattle.lexical_tables.specs.Readings.{Value}
use Rattle.lexical_tables.specs.ByColumn.{cell_answers, cells_of, column_count, end_fault, fault_of, first_start, put_row, put_rows, row_answers, row_fault, row_values, wrong_cell}
use Rattle.lexical_tables.specs.Cells.{Kind}
use Rattle.lexical_tables.specs.Rows.{RowView}
use Rattle.lexical_tables.specs.Skipping.{AreBytes, cleared_at, is_right, put_over, right_rows, right_values, rows_for}
use Rattle.lexical_tables.specs.Targets.{TargetView}
use Rattle.lexical_tables.specs.declared.answers.CellFault.{CellFault}
use Rattle.lexical_tables.specs.declared.answers.CellFault.TheVariants.{MissingReturn, TooFewCells, TooManyCells}
use Rattle.lexical_tables.specs.declared.answers.TableError.{TableError}
use Rattle.lexical_tables.specs.declared.dialect.Dialect.{Dialect}
use Rattle.lexical_tables.proofs.skipped.Overwritten.{over_cleared, over_row, small_put_row}

-- ---- the number of a row in its fault

-- a fault with another row's number
abbrev pub numbered : ℕ → TableError → TableError
numbered row error = record error { row = row }

end_numbered : (columns other index : ℕ) (row : RowView) (count : ℕ) (extra : Option ℕ)
    → end_fault columns index row count extra ≡ option_map (numbered index) (end_fault columns other row count extra)
end_numbered columns other index row count (Some place) = by_test (nat_lt count columns)
  where
    by_test : (t : Bool) → cond t (Some (wrong_cell index count (TooFewCells (row.start + length row.text))))
        (Some (wrong_cell index columns (TooManyCells place)))
        ≡ option_map (numbered index) (cond t (Some (wrong_cell other count (TooFewCells (row.start + length row.text))))
        (Some (wrong_cell other columns (TooManyCells place))))
    by_test true = refl
    by_test false = refl
end_numbered columns other index row count None = by_tests (nat_lt count columns) row.lacks_return
  where
    by_tests : (t r : Bool) → cond t (Some (wrong_cell index count (TooFewCells (row.start + length row.text))))
        (cond r (Some (wrong_cell index columns (MissingReturn (row.start + length row.text)))) None)
        ≡ option_map (numbered index) (cond t (Some (wrong_cell other count (TooFewCells (row.start + length row.text))))
        (cond r (Some (wrong_cell other columns (MissingReturn (row.start + length row.text)))) None))
    by_tests true r = refl
    by_tests false true = refl
    by_tests false false = refl

-- a row's fault depends on its number by that alone
pub fault_numbered : (kinds : List (Option Kind)) (d : Dialect) (other index : ℕ) (row : RowView)
    → row_fault kinds d index row ≡ option_map (numbered index) (row_fault kinds d other row)
fault_numbered kinds d other index row = by_cell (columns.first_fault (row_answers kinds d row))
  where
    by_cell : (fault : Option CellFault) → fault_of d index row (length (row_values kinds d row)) fault
        ≡ option_map (numbered index) (fault_of d other row (length (row_values kinds d row)) fault)
    by_cell (Some fault) = refl
    by_cell None =
        let cells = cells_of d row in
        let columns = column_count d.layout in
        end_numbered columns other index row (length (take columns cells)) (first_start (drop columns cells))

none_there : {A B : Type 0} (f : A → B) (it : Option A) → is_none (option_map f it) ≡ is_none it
none_there {A} {B} f None = refl
none_there {A} {B} f (Some it) = refl

-- whether it is right doesn't
pub right_numbered : (kinds : List (Option Kind)) (d : Dialect) (index : ℕ) (row : RowView)
    → is_right kinds d row ≡ is_none (row_fault kinds d index row)
right_numbered kinds d index row =
    ap is_none (fault_numbered kinds d index 0 row) ∙ none_there (numbered 0) (row_fault kinds d index row)

-- ---- how many values are read of a row

few_values : {A E : Type 0} (answers : List (Result A E)) → length (columns.values_before_fault answers) ≤ length answers
few_values {A} {E} [] = omega arith
few_values {A} {E} (Ok value ∷ answers) = omega (arith, few_values answers)
few_values {A} {E} (Err fault ∷ answers) = omega arith

all_values : {A E : Type 0} (answers : List (Result A E)) → columns.first_fault answers ≡ None
    → length (columns.values_before_fault answers) ≡ length answers
all_values {A} {E} [] none = refl
all_values {A} {E} (Ok value ∷ answers) none = ap suc (all_values answers none)
all_values {A} {E} (Err fault ∷ answers) none = absurd cc

many_answers : (d : Dialect) (kinds : List (Option Kind)) (cells : List FieldView)
    → length (cell_answers d kinds cells) ≡ length cells
many_answers d kinds [] = refl
many_answers d [] (cell ∷ cells) = ap suc (many_answers d [] cells)
many_answers d (kind ∷ kinds) (cell ∷ cells) = ap suc (many_answers d kinds cells)

module _ (kinds : List (Option Kind)) (d : Dialect) (row : RowView) where
  abbrev row_cells : List FieldView
  row_cells = take (column_count d.layout) (cells_of d row)

  pub few_read : length (row_values kinds d row) ≤ column_count d.layout
  few_read =
      omega (
        arith,
        few_values (row_answers kinds d row),
        many_answers d kinds row_cells,
        length-take (column_count d.layout) (cells_of d row),
      )

  end_full : (extra : Option ℕ) → end_fault (column_count d.layout) 0 row (length row_cells) extra ≡ None
      → column_count d.layout ≤ length row_cells
  end_full extra none =
      elim (cases_lt (length row_cells) (column_count d.layout)) [
        | inl few ↦ absurd (by_extra extra (lt-ltb (length row_cells) (column_count d.layout) few) none)
        | inr all ↦ all
      ]
    where
      by_extra : (extra : Option ℕ) → nat_lt (length row_cells) (column_count d.layout) ≡ true
          → end_fault (column_count d.layout) 0 row (length row_cells) extra ≡ None → ⊥
      by_extra (Some place) is none = cc
      by_extra None is none = cc

  pub all_read : is_right kinds d row ≡ true → length (row_values kinds d row) ≡ column_count d.layout
  all_read right = by_cell (columns.first_fault (row_answers kinds d row)) refl right
    where
      by_cell : (fault : Option CellFault) → columns.first_fault (row_answers kinds d row) ≡ fault
          → is_none (fault_of d 0 row (length (row_values kinds d row)) fault) ≡ true
          → length (row_values kinds d row) ≡ column_count d.layout
      by_cell (Some fault) is right = absurd cc
      by_cell None is right =
          let extra = first_start (drop (column_count d.layout) (cells_of d row)) in
          let all = end_full extra (none_of_none (end_fault (column_count d.layout) 0 row (length row_cells) extra) right) in
          omega (
            arith,
            all,
            all_values (row_answers kinds d row) is,
            many_answers d kinds row_cells,
            length-take (column_count d.layout) (cells_of d row),
          )
        where
          none_of_none : (it : Option TableError) → is_none it ≡ true → it ≡ None
          none_of_none None is = refl
          none_of_none (Some error) is = absurd cc

-- ---- rows that are put one over another

-- What bad rows left at a row's place counts for nothing, once a right row is put there, or the place is cleared.
pub record CountsFor (d : Dialect) (row : ℕ) (over under : List (Option TargetView)) : Type 0 where
  pub same_put : (values : List (Option Value)) → length values ≡ column_count d.layout
      → put_row row values over ≡ put_row row values under
  pub same_cleared : cleared_at row over ≡ cleared_at row under

pub counts_same : (d : Dialect) (row : ℕ) (targets : List (Option TargetView)) → CountsFor d row targets targets
counts_same d row targets = record { same_put = λ values size. refl; same_cleared = refl }

counts_over : (kinds : List (Option Kind)) (d : Dialect) (place : ℕ) (row : RowView) (over under : List (Option TargetView))
    → CountsFor d place over under → AreBytes over → CountsFor d place (put_row place (row_values kinds d row) over) under
counts_over kinds d place row over under same small = record {
  same_put = λ values size.
      over_row place values (row_values kinds d row) over (omega (arith, size, few_read kinds d row)) small
      ∙ same.same_put values size;
  same_cleared = over_cleared place (row_values kinds d row) over small ∙ same.same_cleared;
}

module _ (kinds : List (Option Kind)) (d : Dialect) where
  abbrev values_of : RowView → List (Option Value)
  values_of row = row_values kinds d row

  pub hold_right : (rows : List RowView) (count end : ℕ) (over under : List (Option TargetView)) → CountsFor d count over under
      → AreBytes over → count + length (right_values kinds d rows) ≡ end
      → cleared_at end (put_over kinds d count rows over) ≡ cleared_at end (put_rows count (right_values kinds d rows) under)
  hold_right [] count end over under same small is =
      let at : count ≡ end = omega (arith, is) in
      subst (λ k. cleared_at k over ≡ cleared_at k under) at same.same_cleared
  hold_right (row ∷ more) count end over under same small is =
      by_test (hold_right more) (is_right kinds d row) refl is
    where
      by_test : ((count end : ℕ) (over under : List (Option TargetView)) → CountsFor d count over under
          → AreBytes over → count + length (right_values kinds d more) ≡ end
          → cleared_at end (put_over kinds d count more over) ≡ cleared_at end (put_rows count (right_values kinds d more) under))
          → (t : Bool) → is_right kinds d row ≡ t
          → count + length (map values_of (cond t (row ∷ right_rows kinds d more) (right_rows kinds d more))) ≡ end
          → cleared_at end (put_over kinds d (cond t (count + 1) count) more (put_row count (values_of row) over))
          ≡ cleared_at end (put_rows count (map values_of (cond t (row ∷ right_rows kinds d more) (right_rows kinds d more))) under)
      by_test hold false wrong is =
          hold count end (put_row count (values_of row) over) under
          (counts_over kinds d count row over under same small) (small_put_row count (values_of row) over small) is
      by_test hold true right is =
          let put_same = same.same_put (values_of row) (all_read kinds d row right) in
          ap (λ l. cleared_at end (put_over kinds d (count + 1) more l)) put_same
          ∙ hold (count + 1) end (put_row count (values_of row) under) (put_row count (values_of row) under)
          (counts_same d (count + 1) (put_row count (values_of row) under))
          (subst AreBytes put_same (small_put_row count (values_of row) over small)) (omega (arith, is))

  pub hold_full : (rows : List RowView) (room count : ℕ) (over under : List (Option TargetView)) → CountsFor d count over under
      → AreBytes over → (room ≡ 0 → over ≡ under) → length (right_values kinds d (rows_for kinds d room rows)) ≡ room
      → put_over kinds d count (rows_for kinds d room rows) over
      ≡ put_rows count (right_values kinds d (rows_for kinds d room rows)) under
  hold_full [] room count over under same small none is = none (sym is)
  hold_full (row ∷ more) zero count over under same small none is = none refl
  hold_full (row ∷ more) (suc room) count over under same small none is =
      by_test (hold_full more) (is_right kinds d row) refl is
    where
      by_test : ((room count : ℕ) (over under : List (Option TargetView)) → CountsFor d count over under
          → AreBytes over → (room ≡ 0 → over ≡ under) → length (right_values kinds d (rows_for kinds d room more)) ≡ room
          → put_over kinds d count (rows_for kinds d room more) over
          ≡ put_rows count (right_values kinds d (rows_for kinds d room more)) under)
          → (t : Bool) → is_right kinds d row ≡ t
          → length (map values_of (cond t (row ∷ right_rows kinds d (rows_for kinds d (cond t room (suc room)) more))
          (right_rows kinds d (rows_for kinds d (cond t room (suc room)) more)))) ≡ suc room
          → put_over kinds d (cond t (count + 1) count) (rows_for kinds d (cond t room (suc room)) more)
          (put_row count (values_of row) over)
          ≡ put_rows count (map values_of (cond t (row ∷ right_rows kinds d (rows_for kinds d (cond t room (suc room)) more))
          (right_rows kinds d (rows_for kinds d (cond t room (suc room)) more)))) under
      by_test hold false wrong is =
          hold (suc room) count (put_row count (values_of row) over) under
          (counts_over kinds d count row over under same small) (small_put_row count (values_of row) over small)
          (λ never. absurd (omega (arith, never))) is
      by_test hold true right is =
          let put_same = same.same_put (values_of row) (all_read kinds d row right) in
          ap (put_over kinds d (count + 1) (rows_for kinds d room more)) put_same
          ∙ hold room (count + 1) (put_row count (values_of row) under) (put_row count (values_of row) under)
          (counts_same d (count + 1) (put_row count (values_of row) under))
          (subst AreBytes put_same (small_put_row count (values_of row) over small)) (λ ended. refl) (omega (arith, is))
