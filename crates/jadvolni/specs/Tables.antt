-- What reading a table does: what is answered, and what the arrays of its columns then have.
use Rattle.std.specs.Prelude.{◌==◌, ◌||◌, ◌+◌, ◌*◌, ℕ, ℤ, Bool, false, not, List, [], ◌∷◌, length, map, set, nat_lt, option_map, Option, Some, None, Result, Ok, Err, if◌then◌else◌}
use Rattle.lexical_util.specs.Faults.{place_of}
use Rattle.lexical_util.specs.Number.{IntegerType}
use Rattle.lexical_fields.specs.Fields.{FieldView}
use Rattle.lexical_tables.specs.ByColumn.{columns_answer, columns_put, kinds_of}
use Rattle.lexical_tables.specs.Parts.{readable}
use Rattle.lexical_tables.specs.Readings.{FixedPoints, Integers, Number, Reading, Text, TextView, Texts, Value, blank, keeps_texts}
use Rattle.lexical_tables.specs.Targets.{Slice, TargetView, slice_of, text_answer, with_number, with_row_bit}
use Rattle.lexical_tables.specs.declared.answers.CellFault.{CellFault}
use Rattle.lexical_tables.specs.declared.answers.CellFault.TheVariants.{MisplacedQuote, MissingReturn, NotNumber, TooFewCells, TooManyCells}
use Rattle.lexical_tables.specs.declared.answers.Table.{Table}
use Rattle.lexical_tables.specs.declared.answers.TableError.{TableError}
use Rattle.lexical_tables.specs.declared.dialect.Dialect.{Dialect}
use Rattle.lexical_tables.specs.declared.dialect.Layout.{Layout}
use Rattle.lexical_tables.specs.declared.dialect.Layout.TheVariants.{Records, Separated, Widths}
use Rattle.jadvolni.specs.Arrays.{ArrayView, array_in}
use Rattle.jadvolni.specs.Effect.{fault_place, fault_status, format_status, unknown_field}
use Rattle.jadvolni.specs.Fixed.{fixed_format_status, fixed_of}
use Rattle.jadvolni.specs.FormatFields.{are_zeros, flag, format_of}
use Rattle.jadvolni.specs.declared.fixed.FixedFields.{FixedFields}
use Rattle.jadvolni.specs.declared.table_columns.ColumnFields.{ColumnFields}
use Rattle.jadvolni.specs.declared.text_columns.TextFields.{TextFields}
use Rattle.jadvolni.specs.declared.tables.TableFields.{TableFields}
use Rattle.jadvolni.specs.declared.tables.TableOutcome.{TableOutcome}

-- ---- columns

-- the bits of a column, if there is room for any
abbrev pub bits_of : List ℕ → Option (List ℕ)
bits_of bytes = if length bytes == 0 then None else Some bytes

-- a column as a target whose cells are read by `reading`, and whose array has these values
abbrev pub target_by : ColumnFields → Reading → Slice → List Value → TargetView
target_by column reading slice values = record {
  reading = reading;
  slice = slice;
  values = values;
  bits = option_map (λ bytes. slice_of column.present) (bits_of column.present.now);
  present = bits_of column.present.now;
}

-- what numbers of a type are read as: integers, or fixed-point numbers where they have places
abbrev pub reading_of : FixedFields → IntegerType → Reading
reading_of description type =
    if description.places == 0 then Integers (format_of description.integer) type
    else FixedPoints (fixed_of description) type

-- a column as a target of the numbers of an array
abbrev pub number_target : ColumnFields → ArrayView → TargetView
number_target column array =
    target_by column (reading_of column.description array.type) array.slice
    (map Number array.numbers)

-- a text as C has it
abbrev pub text_view : TextFields → TextView
text_view text = record {
  start = text.start;
  size = text.size;
  has_doubled_quotes = flag text.has_doubled_quotes;
}

-- a column as a target of texts, if its array of texts has room
abbrev pub text_target : ColumnFields → Option TargetView
text_target column =
    if length column.texts.now == 0 then None
    else Some (target_by column Texts (slice_of column.texts)
    (map (λ text. Text (text_view text)) column.texts.now))

-- a column as a target of the numbers of its array, or else of texts
abbrev pub target_as : ColumnFields → Option ArrayView → Option TargetView
target_as column None = text_target column
target_as column (Some array) = Some (number_target column array)

-- a column as a target
abbrev pub target_of : ColumnFields → Option TargetView
target_of column = target_as column (array_in column.arrays)

-- a target with the value of a text at a row's place
abbrev pub put_number : ℕ → FieldView → TargetView → TargetView
put_number row text target = record target {
  values = with_number row (text_answer target text) target.values;
}

-- a target with a number at a row's place
abbrev pub put_at : ℕ → ℤ → TargetView → TargetView
put_at row number target = record target { values = set target.values row (Number number) }

-- a target with where a text stands at a row's place
abbrev pub put_place : ℕ → TextView → TargetView → TargetView
put_place row text target = record target { values = set target.values row (Text text) }

-- a target with 0, or a text of no bytes, at a row's place
abbrev pub put_zero : ℕ → TargetView → TargetView
put_zero row target = record target { values = set target.values row (blank target.reading) }

-- a target with a row's bit
abbrev pub put_presence : ℕ → Bool → TargetView → TargetView
put_presence row is_there target =
    record target { present = option_map (with_row_bit row is_there) target.present }

-- the status of a table that no text can be read by
abbrev pub invalid_table : ℕ
invalid_table = 17

-- whether there are bits, and too few for `rows` rows
abbrev pub lacks_bits : ℕ → Option (List ℕ) → Bool
lacks_bits rows None = false
lacks_bits rows (Some bytes) = nat_lt (8 * length bytes) rows

-- the status of the format that numbers are read under, or of their description where they have places
abbrev pub number_status : FixedFields → ℕ
number_status description =
    if not (are_zeros description.reserved) then unknown_field
    else if description.places == 0 then format_status description.integer
    else fixed_format_status description

-- What is wrong with a target for `rows` rows. A column without a target has to have the radix 0 if rows are asked for.
-- For texts the description of numbers doesn't matter.
abbrev pub target_status : ℕ → FixedFields → Option TargetView → ℕ
target_status rows description None =
    if rows == 0 || description.integer.mantissa_radix == 0 then 0 else invalid_table
target_status rows description (Some target) =
    if nat_lt (length target.values) rows || lacks_bits rows target.present then invalid_table
    else if keeps_texts target.reading then 0 else number_status description

-- the status of a column, if it is to hold this many rows: 0 if it can be read, or isn't meant to be
abbrev pub column_status : ℕ → ColumnFields → ℕ
column_status rows column = target_status rows column.description (target_of column)

-- ---- what is answered

-- a status without a place, at a column
abbrev pub refused : ℕ → ℕ → TableOutcome
refused status column = record { status = status; column = column; rows = 0; place = 0 }

-- what is answered of the first column that can't be read, where columns are counted from a number on
abbrev pub wrong_column : ℕ → ℕ → List ColumnFields → Option TableOutcome
wrong_column rows index [] = None
wrong_column rows index (column ∷ more) =
    if column_status rows column == 0 then wrong_column rows (index + 1) more
    else Some (refused (column_status rows column) index)

-- the status of a wrong cell
abbrev pub cell_status : CellFault → ℕ
cell_status (NotNumber error) = fault_status error
cell_status (TooFewCells place) = 14
cell_status (TooManyCells place) = 15
cell_status (MissingReturn place) = 16
cell_status (MisplacedQuote place) = 18

-- its place
abbrev pub cell_place : CellFault → ℕ
cell_place (NotNumber error) = fault_place (place_of error)
cell_place (TooFewCells place) = place
cell_place (TooManyCells place) = place
cell_place (MissingReturn place) = place
cell_place (MisplacedQuote place) = place

-- what C has of an answer
abbrev pub outcome_of : Result Table TableError → TableOutcome
outcome_of (Ok table) =
    record { status = 0; column = 0; rows = table.rows; place = table.stop }
outcome_of (Err error) = record {
  status = cell_status error.fault;
  column = error.column;
  rows = error.row;
  place = cell_place error.fault;
}

-- ---- the call

-- What is answered, and the columns as targets, with the numbers that their arrays then have.
pub record TableEffect : Type 0 where
  pub outcome : TableOutcome
  pub targets : List (Option TargetView)

-- what a call did, by its result and by the columns that C then has
abbrev pub table_effect : TableOutcome → List ColumnFields → TableEffect
table_effect outcome columns = record { outcome = outcome; targets = map target_of columns }

-- How the cells of a row are found in a table of `columns` columns: there are as many widths, or
-- none; records have some.
abbrev pub layout_of : TableFields → ℕ → Option Layout
layout_of table columns =
    if length table.widths.now == 0
    then (if flag table.is_records then None else Some (Separated table.separator columns))
    else if length table.widths.now == columns
    then Some (if flag table.is_records then Records table.widths else Widths table.widths)
    else None

-- how a table is written whose cells are found so
abbrev pub dialect_with : TableFields → Layout → Dialect
dialect_with table layout = record {
  layout = layout;
  has_returns = flag table.has_returns;
  allows_returns = flag table.allows_returns;
  has_quotes = flag table.has_quotes;
  allows_blanks = flag table.allows_blanks;
  skips_empty_rows = flag table.skips_empty_rows;
  missing = table.missing;
}

-- how a table of `columns` columns is written, if what is kept for later versions is 0, and cells
-- can be found
abbrev pub dialect_of : TableFields → ℕ → Option Dialect
dialect_of table columns =
    if are_zeros table.reserved then option_map (dialect_with table) (layout_of table columns)
    else None

-- reading the table of a text, or of a part of one, unless it or a column can't be read
abbrev pub table_read : Option Dialect → Option TableOutcome → Bool → ℕ → List ℕ
    → List (Option TargetView) → TableEffect
table_read None wrong is_last rows text targets =
    record { outcome = refused invalid_table 0; targets = targets }
table_read (Some dialect) (Some wrong) is_last rows text targets =
    record { outcome = wrong; targets = targets }
table_read (Some dialect) None is_last rows text targets =
    let part = readable is_last dialect text in record {
      outcome = outcome_of (columns_answer (kinds_of targets) dialect rows part);
      targets = columns_put dialect rows part targets;
    }

-- reading it into these columns
abbrev pub table_call : TableFields → Bool → ℕ → List ℕ → List ColumnFields → TableEffect
table_call table is_last rows text columns = table_read (dialect_of table (length columns))
    (wrong_column rows 0 columns) is_last rows text (map target_of columns)
