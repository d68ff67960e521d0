-- Where the rows of a text are.
use Rattle.std.specs.Prelude.{◌≡◌, ◌+◌, ◌<◌, ◌≤◌, ℕ, if◌then◌else◌, List, length, drop, nat_lt, is_some, Option, Some, None, Result, Ok, Err, true}
use Rattle.lexical_tables.specs.Rows.{next_start, rows, rows_from}
use Rattle.lexical_tables.specs.declared.answers.Table.{Table}
use Rattle.lexical_tables.specs.declared.answers.TableError.{TableError}
use Rattle.lexical_tables.specs.declared.dialect.Dialect.{Dialect}
use Rattle.lexical_tables.specs.declared.places.RowPlace.{RowPlace}

-- where the row of a number starts, and where the next one does: each time the text's end where there is none
abbrev pub place_of : Dialect → List ℕ → ℕ → RowPlace
place_of dialect text row =
    let all = rows dialect text in record {
      start = next_start (length text) (drop row all);
      stop = next_start (length text) (drop (row + 1) all);
    }

-- the same, if the text has a row of that number
unfoldable pub row_place : Dialect → ℕ → List ℕ → Option RowPlace
row_place dialect row text =
    if nat_lt row (length (rows dialect text)) then Some (place_of dialect text row) else None

-- A row stands from one place to another: from the first on, a text has that row and those behind it, and from the other on,
-- it has those behind it.
pub record StandsAt (dialect : Dialect) (row : ℕ) (text : List ℕ) (place : RowPlace) : Type 0 where
  pub some : place.start < place.stop
  pub within_text : place.stop ≤ length text
  pub begins : rows_from dialect place.start (drop place.start text)
      ≡ drop row (rows dialect text)
  pub goes_on : rows_from dialect place.stop (drop place.stop text)
      ≡ drop (row + 1) (rows dialect text)

-- the row of a fault has a place
abbrev pub HasPlace : Dialect → List ℕ → Result Table TableError → Type 0
HasPlace dialect text (Ok table) = Unit {0}
HasPlace dialect text (Err error) = is_some (row_place dialect error.row text) ≡ true
