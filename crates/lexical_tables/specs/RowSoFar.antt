-- A row of which some cells were read.
use Rattle.std.specs.Prelude.{◌≡◌, ◌≢◌, ◌==◌, ◌&&◌, ◌+◌, ◌-◌, ◌<◌, ◌≤◌, ℕ, zero, suc, false, true, if◌then◌else◌, List, [], ◌∷◌, ◌++◌, length, slice_index, take, drop, Option, Some, None, Result, Ok, Err}
use Rattle.lexical_fields.specs.Columns as columns
use Rattle.lexical_fields.specs.Fields.{FieldView}
use Rattle.lexical_tables.specs.ByColumn.{AreUsable, cell_answers, cells_left, cells_of, column_count, kinds_of, put_row, row_answers, row_fault, row_values, separator_of}
use Rattle.lexical_tables.specs.Cells.{Kind}
use Rattle.lexical_tables.specs.Ends.{AreEnds}
use Rattle.lexical_tables.specs.Quotes.{length_outside, quote}
use Rattle.lexical_tables.specs.Readings.{Value}
use Rattle.lexical_tables.specs.Rows.{RowView, behind_piece, carriage_return, first_row, line_feed, takes_returns}
use Rattle.lexical_tables.specs.Targets.{TargetView}
use Rattle.lexical_tables.specs.declared.answers.CellFault.{CellFault}
use Rattle.lexical_tables.specs.declared.answers.TableError.{TableError}
use Rattle.lexical_tables.specs.declared.dialect.Dialect.{Dialect}
use Rattle.lexical_tables.specs.declared.next_part.Part.{Part}

-- how many columns a row has
abbrev pub count_in : Dialect → ℕ
count_in dialect = column_count dialect.layout

-- what the cells that are left stand for, as far as they have a column
abbrev pub answers_left : List (Option Kind) → Dialect → ℕ → List FieldView
    → List (Result (Option Value) CellFault)
answers_left kinds dialect column left =
    cell_answers dialect (drop column kinds) (take (count_in dialect - column) left)

-- the cells of a row behind its first `column` cells, from byte `passed` of the row on
abbrev pub cells_behind : Dialect → RowView → ℕ → ℕ → List FieldView
cells_behind dialect row column passed =
    cells_left dialect.layout dialect.has_quotes column (row.start + passed) (drop passed row.text)

-- The first `column` cells of a row were read. With what is read of those that are left, that is
-- what is read of the row.
pub record IsRowPut (kinds : List (Option Kind)) (dialect : Dialect) (index : ℕ) (row : RowView)
    (old now : List (Option TargetView)) (column : ℕ) (left : List FieldView) : Type 0 where
  pub few : column ≤ count_in dialect
  pub place : drop column (cells_of dialect row) ≡ left
  pub counted : column + length left ≡ length (cells_of dialect row)
  pub kinds_are : kinds_of now ≡ kinds
  pub usable : AreUsable (index + 1) now
  pub values : take column now ++ put_row index
      (columns.values_before_fault (answers_left kinds dialect column left)) (drop column now)
      ≡ put_row index (row_values kinds dialect row) old
  pub size : column + length (columns.values_before_fault (answers_left kinds dialect column left))
      ≡ length (row_values kinds dialect row)
  pub first : columns.first_fault (answers_left kinds dialect column left)
      ≡ columns.first_fault (row_answers kinds dialect row)

-- What is answered of a row, and what the targets then are.
pub record IsRowDone (kinds : List (Option Kind)) (dialect : Dialect) (index : ℕ) (row : RowView)
    (old now : List (Option TargetView)) (answer : Option TableError) : Type 0 where
  pub fault_is : answer ≡ row_fault kinds dialect index row
  pub targets_are : now ≡ put_row index (row_values kinds dialect row) old

-- the fault of an answer of a row
abbrev pub wrong_in : {A : Type 0} → Result A TableError → Option TableError
wrong_in (Ok found) = None
wrong_in (Err error) = Some error

-- One pass of marks finds the cells and the rows of a table: its cells stand between separators,
-- and the separator is no quote where quotes have a meaning, and no return where one may end a row.
pub record IsMarked (dialect : Dialect) (separator : ℕ) : Type 0 where
  pub parts : separator_of dialect.layout ≡ Some separator
  pub no_quote : dialect.has_quotes ≡ true → separator ≢ quote
  pub no_return : takes_returns dialect ≡ true → separator ≢ carriage_return

-- What is left of a text from a cell of its first row on.
pub record IsOnRow (dialect : Dialect) (separator : ℕ) (text left : List ℕ) : Type 0 where
  pub within : length left ≤ length text
  pub tail : left ≡ drop (length text - length left) text
  pub line : length_outside dialect.has_quotes line_feed text
      ≡ (length text - length left) + length_outside dialect.has_quotes line_feed left
  pub behind_separator : 0 < length text - length left
      → slice_index text (length text - length left - 1) ≡ separator

-- the first row of what is left of a text, where `end` is the place behind the text
abbrev pub row_at : Dialect → ℕ → List ℕ → RowView
row_at dialect end rest = first_row dialect (end - length rest) rest

-- The first row of what is left of a text was read, and nothing is wrong with it: its values went
-- into the targets, and `behind` is what stands behind it.
pub record IsRowRead (dialect : Dialect) (end index : ℕ) (before : List (Option TargetView))
    (rest : List ℕ) (after : List (Option TargetView)) (behind : List ℕ) : Type 0 where
  pub some : 0 < length rest
  pub right : row_fault (kinds_of before) dialect index (row_at dialect end rest) ≡ None
  pub values : after
      ≡ put_row index (row_values (kinds_of before) dialect (row_at dialect end rest)) before
  pub line : behind ≡ behind_piece dialect.layout dialect.has_quotes rest

-- One row more was read behind others.
pub record IsOneMore (Earlier : List (Option TargetView) → List ℕ → Type 0) (dialect : Dialect)
    (end index : ℕ) (after : List (Option TargetView)) (behind : List ℕ) : Type 0 where
  pub before : List (Option TargetView)
  pub rest : List ℕ
  pub earlier : Earlier before rest
  pub row : IsRowRead dialect end index before rest after behind

-- `count` rows were read, one behind another, and nothing is wrong with them. The first of them is
-- the row `first`, with which `from` begins.
abbrev pub AreRowsRead : Dialect → ℕ → ℕ → List (Option TargetView) → List ℕ → ℕ
    → List (Option TargetView) → List ℕ → Type 0
AreRowsRead dialect end first old from zero now left = (now ≡ old) × (left ≡ from)
AreRowsRead dialect end first old from (suc count) now left =
    IsOneMore (AreRowsRead dialect end first old from count) dialect end (first + count) now left

-- The first `column` cells of the first row of `rest` were read. `before` is what the targets were,
-- and `now` what they are. `left` is left of the text.
abbrev pub IsReadTo : Dialect → ℕ → ℕ → List (Option TargetView) → List ℕ
    → List (Option TargetView) → ℕ → List ℕ → Type 0
IsReadTo dialect end index before rest now column left =
    IsRowPut (kinds_of before) dialect index (row_at dialect end rest) before now column
    (cells_behind dialect (row_at dialect end rest) column (length rest - length left))

-- Rows of a text were read from the row `first` on, and then the first cells of the row `index`, with
-- which `rest` begins.
pub record GoesOn (dialect : Dialect) (end first : ℕ) (old : List (Option TargetView))
    (from : List ℕ) (now : List (Option TargetView)) (index : ℕ) (rest : List ℕ) (column : ℕ)
    (left : List ℕ) : Type 0 where
  pub count : ℕ
  pub number : index ≡ first + count
  pub before : List (Option TargetView)
  pub rows : AreRowsRead dialect end first old from count before rest
  pub cells : IsReadTo dialect end index before rest now column left

-- The same, and then the whole row `index`, of which an answer was given.
pub record GoesToEnd (dialect : Dialect) (end first : ℕ) (old : List (Option TargetView))
    (from : List ℕ) (now : List (Option TargetView)) (index : ℕ) (rest : List ℕ)
    (answer : Option TableError) : Type 0 where
  pub count : ℕ
  pub number : index ≡ first + count
  pub before : List (Option TargetView)
  pub rows : AreRowsRead dialect end first old from count before rest
  pub row : IsRowDone (kinds_of before) dialect index (row_at dialect end rest) before now answer

-- A part is the next cell of a text's first row, where `left` is the text from the cell on: its
-- size, where it ends, and whether it is the row's last.
pub record IsPart (dialect : Dialect) (separator : ℕ) (text left : List ℕ)
    (part : Part) : Type 0 where
  pub room : part.size + 17 ≤ length left
  pub within : part.end + 17 ≤ length left
  pub cells : (start column : ℕ) → let row = first_row dialect start text in
      let passed = length text - length left in
      cells_behind dialect row column passed
      ≡ record { start = start + passed; text = take part.size left }
      ∷ (if part.is_last then [] else cells_behind dialect row (column + 1)
      (length text - length (drop (part.end + 1) left)))
  pub goes : part.is_last ≡ false → IsOnRow dialect separator text (drop (part.end + 1) left)
  pub row : part.is_last ≡ true → (start : ℕ) → record {
    start = start;
    text = take (length text - length left + part.size) text;
    lacks_return = dialect.has_returns && (slice_index left part.size == line_feed);
  } ≡ first_row dialect start text
  pub line : part.is_last ≡ true
      → drop (part.end + 1) left ≡ behind_piece dialect.layout dialect.has_quotes text

-- What stands behind a cell that ends at a place, and the ends that are marked there.
pub record IsBehind (dialect : Dialect) (separator : ℕ) (left : List ℕ) (end : ℕ)
    (behind : List ℕ) (marks : ℕ) : Type 0 where
  pub text : behind ≡ drop (end + 1) left
  pub ends : AreEnds dialect.has_quotes separator behind marks
