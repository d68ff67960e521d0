-- A table that is read one column at a time.
use Rattle.std.specs.Prelude.{◌≡◌, ◌+◌, ℕ, zero, suc, if◌then◌else◌, List, [], ◌∷◌, nat_lt, Option, None, Result, Ok, Err, IfOk}
use Rattle.std.specs.List.{slice_get}
use Rattle.lexical_tables.specs.ByColumn.{columns_answer, columns_put, kinds_of}
use Rattle.lexical_tables.specs.Targets.{TargetView}
use Rattle.lexical_tables.specs.declared.answers.Table.{Table}
use Rattle.lexical_tables.specs.declared.answers.TableError.{TableError}
use Rattle.lexical_tables.specs.declared.dialect.Dialect.{Dialect}

-- the targets up to a column: its own, and none for the columns before it
abbrev pub only : {A : Type 0} → ℕ → List (Option A) → List (Option A)
only zero [] = []
only zero (target ∷ more) = target ∷ []
only (suc column) [] = []
only (suc column) (target ∷ more) = None ∷ only column more

-- For how many rows a column is read, if the table is read for `room` rows: for as many, or where a
-- cell of the table is wrong, for those whose cell of the column comes before it.
abbrev pub cells_read : ℕ → ℕ → Result Table TableError → ℕ
cells_read column room (Ok table) = room
cells_read column room (Err error) =
    if nat_lt column error.column then error.row + 1 else error.row

-- A column of a table is read as it is without the others: up to the first wrong cell of all of them it gets the same, and
-- where none is wrong, the answer is the same too.
pub record IsReadAlone (targets : List (Option TargetView)) (dialect : Dialect) (room : ℕ)
    (text : List ℕ) (column : ℕ) : Type 0 where
  pub numbers : let answer = columns_answer (kinds_of targets) dialect room text in
      slice_get (columns_put dialect room text targets) column
      ≡ slice_get (columns_put dialect (cells_read column room answer) text (only column targets))
      column
  pub answer : IfOk (columns_answer (kinds_of targets) dialect room text) (λ table.
      columns_answer (kinds_of (only column targets)) dialect room text ≡ Ok table)
