-- What is read of a table whose columns go into slices of their own.
use Rattle.std.specs.Prelude.{◌≡◌, ◌==◌, ◌+◌, ◌*◌, ◌≤◌, ℕ, zero, suc, Bool, false, if◌then◌else◌, List, [], ◌∷◌, length, take, drop, map, is_none, is_some, nat_lt, option_map, Option, Some, None, Result, Ok, Err, IfSome}
use Rattle.lexical_fields.specs.Columns as columns
use Rattle.lexical_fields.specs.Fields.{FieldView}
pub use Rattle.lexical_tables.specs.Cells.{Kind, answer_as, first_of, unless}
use Rattle.lexical_tables.specs.Quotes.{pieces_outside}
use Rattle.lexical_tables.specs.Readings.{IsValid, Value}
use Rattle.lexical_tables.specs.Rows.{RowView, next_start, rows, rows_from}
use Rattle.lexical_tables.specs.Targets.{TargetView, put_value}
use Rattle.lexical_tables.specs.declared.answers.CellFault.{CellFault}
use Rattle.lexical_tables.specs.declared.answers.CellFault.TheVariants.{MissingReturn, TooFewCells, TooManyCells}
use Rattle.lexical_tables.specs.declared.answers.Table.{Table}
use Rattle.lexical_tables.specs.declared.answers.TableError.{TableError}
use Rattle.lexical_tables.specs.declared.dialect.Dialect.{Dialect}
use Rattle.lexical_tables.specs.declared.dialect.Layout.{Layout}
use Rattle.lexical_tables.specs.declared.dialect.Layout.TheVariants.{Records, Separated, Widths}

-- what the column of a target is read as
abbrev pub kind_of : TargetView → Kind
kind_of target = record {
  reading = target.reading;
  may_miss = is_some target.present;
}

-- what the columns of targets are read as
abbrev pub kinds_of : List (Option TargetView) → List (Option Kind)
kinds_of targets = map (option_map kind_of) targets

-- ---- rows

-- what the cells of a row stand for; those behind the last kind aren't read
abbrev pub cell_answers : Dialect → List (Option Kind) → List FieldView
    → List (Result (Option Value) CellFault)
cell_answers dialect kinds [] = []
cell_answers dialect [] (cell ∷ cells) = answer_as dialect None cell ∷ cell_answers dialect [] cells
cell_answers dialect (kind ∷ kinds) (cell ∷ cells) =
    answer_as dialect kind cell ∷ cell_answers dialect kinds cells

-- The cells by widths of a text that stands at a place: those that are wholly there, and one more
-- where bytes are left behind the last width.
abbrev pub cells_by_width : List ℕ → ℕ → List ℕ → List FieldView
cells_by_width [] place text =
    if length text == 0 then [] else record { start = place; text = text } ∷ []
cells_by_width (width ∷ more) place text =
    if nat_lt (length text) width then []
    else record { start = place; text = take width text }
    ∷ cells_by_width more (place + width) (drop width text)

-- The cells of what is left of a row behind its first `column` cells, at its place in the text: one
-- more than it has separators outside quotes, or those by widths.
abbrev pub cells_left : Layout → Bool → ℕ → ℕ → List ℕ → List FieldView
cells_left (Separated separator columns) has_quotes column place text =
    pieces_outside has_quotes separator place text
cells_left (Widths widths) has_quotes column place text =
    cells_by_width (drop column widths.now) place text
cells_left (Records widths) has_quotes column place text =
    cells_by_width (drop column widths.now) place text

-- the cells of a row
abbrev pub cells_of : Dialect → RowView → List FieldView
cells_of dialect row = cells_left dialect.layout dialect.has_quotes 0 row.start row.text

-- how many columns a table has
abbrev pub column_count : Layout → ℕ
column_count (Separated separator columns) = columns
column_count (Widths widths) = length widths.now
column_count (Records widths) = length widths.now

-- what the cells of a row stand for, as far as they have a column
abbrev pub row_answers : List (Option Kind) → Dialect → RowView
    → List (Result (Option Value) CellFault)
row_answers kinds dialect row =
    cell_answers dialect kinds (take (column_count dialect.layout) (cells_of dialect row))

-- what is read of a row: a value or nothing for each cell, up to one at fault
abbrev pub row_values : List (Option Kind) → Dialect → RowView → List (Option Value)
row_values kinds dialect row = columns.values_before_fault (row_answers kinds dialect row)

-- a fault of a cell
abbrev pub wrong_cell : ℕ → ℕ → CellFault → TableError
wrong_cell row column fault = record { row = row; column = column; fault = fault }

-- where the first of some cells starts
abbrev pub first_start : List FieldView → Option ℕ
first_start [] = None
first_start (cell ∷ more) = Some cell.start

-- What is wrong with the end of a row, if `count` of its cells have a column, and one more may
-- start at a place: too few cells, a cell too many, or a missing return.
abbrev pub end_fault : ℕ → ℕ → RowView → ℕ → Option ℕ → Option TableError
end_fault columns index row count (Some place) =
    if nat_lt count columns
    then Some (wrong_cell index count (TooFewCells (row.start + length row.text)))
    else Some (wrong_cell index columns (TooManyCells place))
end_fault columns index row count None =
    if nat_lt count columns
    then Some (wrong_cell index count (TooFewCells (row.start + length row.text)))
    else if row.lacks_return
    then Some (wrong_cell index columns (MissingReturn (row.start + length row.text)))
    else None

-- a fault of the cell behind those that were read, or else of the row's end
abbrev pub fault_of : Dialect → ℕ → RowView → ℕ → Option CellFault → Option TableError
fault_of dialect index row count None =
    let cells = cells_of dialect row in
    let columns = column_count dialect.layout in
    end_fault columns index row (length (take columns cells)) (first_start (drop columns cells))
fault_of dialect index row count (Some fault) = Some (wrong_cell index count fault)

-- the fault of a row
abbrev pub row_fault : List (Option Kind) → Dialect → ℕ → RowView → Option TableError
row_fault kinds dialect index row = fault_of dialect index row
    (length (row_values kinds dialect row)) (columns.first_fault (row_answers kinds dialect row))

-- ---- targets

-- targets with what is read of a row's cells at the row's place of each column
abbrev pub put_row : ℕ → List (Option Value) → List (Option TargetView) → List (Option TargetView)
put_row row [] targets = targets
put_row row (value ∷ values) [] = []
put_row row (value ∷ values) (target ∷ targets) =
    option_map (put_value row value) target ∷ put_row row values targets

-- targets with what is read of rows, where these are counted from a number on
abbrev pub put_rows : ℕ → List (List (Option Value)) → List (Option TargetView)
    → List (Option TargetView)
put_rows row [] targets = targets
put_rows row (values ∷ more) targets = put_rows (row + 1) more (put_row row values targets)

-- A target is usable if its format is valid, its slice has room for `room` values, and its bytes,
-- if it has any, for `room` bits.
abbrev pub IsUsable : ℕ → Option TargetView → Type 0
IsUsable room None = Unit {0}
IsUsable room (Some target) = IsValid target.reading × (room ≤ length target.values)
    × IfSome target.present (λ bytes. room ≤ 8 * length bytes)

-- each target is
abbrev pub AreUsable : ℕ → List (Option TargetView) → Type 0
AreUsable room [] = Unit {0}
AreUsable room (target ∷ targets) = IsUsable room target × AreUsable room targets

-- ---- one cell of a row

-- what the cell of a column stands for
abbrev pub answer_at : Dialect → List (Option Kind) → ℕ → FieldView
    → Result (Option Value) CellFault
answer_at dialect [] column cell = answer_as dialect None cell
answer_at dialect (kind ∷ kinds) zero cell = answer_as dialect kind cell
answer_at dialect (kind ∷ kinds) (suc column) cell = answer_at dialect kinds column cell

-- Whether a text has no cell of the first of some widths: it has fewer bytes than that, or where no
-- width is left, none.
abbrev pub lacks_width : List ℕ → List ℕ → Bool
lacks_width [] text = length text == 0
lacks_width (width ∷ more) text = nat_lt (length text) width

-- whether what is left of a row behind its first `column` cells has no cell
abbrev pub lacks_cell : Layout → ℕ → List ℕ → Bool
lacks_cell (Separated separator columns) column text = false
lacks_cell (Widths widths) column text = lacks_width (drop column widths.now) text
lacks_cell (Records widths) column text = lacks_width (drop column widths.now) text

-- the separator, if cells stand between such
abbrev pub separator_of : Layout → Option ℕ
separator_of (Separated separator columns) = Some separator
separator_of (Widths widths) = None
separator_of (Records widths) = None

-- the fault of an answer
abbrev pub fault_in : Result (Option Value) CellFault → Option CellFault
fault_in (Ok value) = None
fault_in (Err fault) = Some fault

-- a target with what is answered of a cell at the row's place; a fault puts nothing
abbrev pub put_read : ℕ → Result (Option Value) CellFault → TargetView → TargetView
put_read row (Ok value) target = put_value row value target
put_read row (Err fault) target = target

-- targets with what is answered of a cell at the row's place of a column
abbrev pub put_read_at : ℕ → ℕ → Result (Option Value) CellFault → List (Option TargetView)
    → List (Option TargetView)
put_read_at row column answer [] = []
put_read_at row zero answer (target ∷ targets) = option_map (put_read row answer) target ∷ targets
put_read_at row (suc column) answer (target ∷ targets) =
    target ∷ put_read_at row column answer targets

-- ---- tables

-- what is read of rows, up to the first wrong one
abbrev pub values_to_fault : List (Option Kind) → Dialect → ℕ → List RowView
    → List (List (Option Value))
values_to_fault kinds dialect index [] = []
values_to_fault kinds dialect index (row ∷ more) = row_values kinds dialect row
    ∷ (if is_none (row_fault kinds dialect index row)
    then values_to_fault kinds dialect (index + 1) more else [])

-- the fault of the first wrong row, where the rows are counted from a number on
abbrev pub first_fault : List (Option Kind) → Dialect → ℕ → List RowView → Option TableError
first_fault kinds dialect index [] = None
first_fault kinds dialect index (row ∷ more) = first_of (row_fault kinds dialect index row)
    (first_fault kinds dialect (index + 1) more)

-- what `read_columns` answers of a text, if it is asked for `room` rows
unfoldable pub columns_answer : List (Option Kind) → Dialect → ℕ → List ℕ → Result Table TableError
columns_answer kinds dialect room text =
    let all = rows dialect text in
    unless (first_fault kinds dialect 0 (take room all)) (Ok (record {
      rows = length (take room all);
      stop = next_start (length text) (drop room all);
    }))

-- what `read_columns` leaves in targets
unfoldable pub columns_put : Dialect → ℕ → List ℕ → List (Option TargetView)
    → List (Option TargetView)
columns_put dialect room text targets = put_rows 0 (values_to_fault (kinds_of targets) dialect 0
    (take room (rows dialect text))) targets

-- How far a text was read: no more rows than there was room for, and up to a place from which on the text has the rows
-- that are left.
pub record StopsAt (dialect : Dialect) (room : ℕ) (text : List ℕ) (table : Table) : Type 0 where
  pub within_room : table.rows ≤ room
  pub within_text : table.stop ≤ length text
  pub left : rows_from dialect table.stop (drop table.stop text)
      ≡ drop table.rows (rows dialect text)
