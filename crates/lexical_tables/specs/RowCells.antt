-- Where the cells of a row are.
use Rattle.std.specs.Prelude.{◌==◌, ◌+◌, ℕ, if◌then◌else◌, List, [], length}
use Rattle.lexical_fields.specs.Fields.{FieldView}
use Rattle.lexical_tables.specs.ByColumn.{cells_of}
use Rattle.lexical_tables.specs.Rows.{first_row}
use Rattle.lexical_tables.specs.declared.dialect.Dialect.{Dialect}
use Rattle.lexical_tables.specs.declared.dialect.Layout.{Layout}
use Rattle.lexical_tables.specs.declared.dialect.Layout.TheVariants.{Records, Separated, Widths}
use Rattle.lexical_tables.specs.declared.row_cells.CellPlace.{CellPlace}

-- the cells of a text's first row; none where the text has no byte
abbrev pub cells_in_front : Dialect → List ℕ → List FieldView
cells_in_front dialect text =
    if length text == 0 then [] else cells_of dialect (first_row dialect 0 text)

-- how many cells a row of `size` bytes has at most
abbrev pub most_cells : Layout → ℕ → ℕ
most_cells (Separated separator columns) size = size + 1
most_cells (Widths widths) size = length widths.now + 1
most_cells (Records widths) size = length widths.now + 1

-- where a cell is
abbrev pub place_of_cell : FieldView → CellPlace
place_of_cell cell = record { start = cell.start; size = length cell.text }
