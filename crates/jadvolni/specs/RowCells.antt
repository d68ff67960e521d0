-- Where the cells of a row are, as C has them.
use Rattle.std.specs.Prelude.{ℕ, List, length, drop, map, Option, Some, None}
use Rattle.lexical_tables.specs.RowCells.{cells_in_front, place_of_cell}
use Rattle.lexical_tables.specs.Skipping.{put_in_front}
use Rattle.lexical_tables.specs.declared.dialect.Dialect.{Dialect}
use Rattle.lexical_tables.specs.declared.row_cells.CellPlace.{CellPlace}
use Rattle.jadvolni.specs.Tables.{dialect_of, invalid_table}
use Rattle.jadvolni.specs.declared.row_cells.CellsOutcome.{CellsOutcome}
use Rattle.jadvolni.specs.declared.tables.TableFields.{TableFields}

-- What is answered, and the array of places.
pub record CellsEffect : Type 0 where
  pub outcome : CellsOutcome
  pub cells : List CellPlace

-- what a call did, by its result and by the array that C then has
abbrev pub cells_effect : CellsOutcome → List CellPlace → CellsEffect
cells_effect outcome cells = record { outcome = outcome; cells = cells }

-- where the cells of a text's first row are, from a column on, if the table can be read
abbrev pub cells_found : Option Dialect → ℕ → List ℕ → List CellPlace → CellsEffect
cells_found None first text cells =
    record { outcome = record { status = invalid_table; count = 0 }; cells = cells }
cells_found (Some dialect) first text cells =
    let all = cells_in_front dialect text in record {
      outcome = record { status = 0; count = length all };
      cells = put_in_front (drop first (map place_of_cell all)) cells;
    }

-- the same, of a table as C writes it; how many cells a row has to have doesn't matter
abbrev pub cells_call : TableFields → ℕ → List ℕ → List CellPlace → CellsEffect
cells_call table first text cells =
    cells_found (dialect_of table (length table.widths.now)) first text cells
