-- Texts that come in parts, as from a file that is read in blocks.
use Rattle.std.specs.Prelude.{◌≡◌, ◌+◌, ◌-◌, ◌%◌, ℕ, Bool, if◌then◌else◌, List, [], ◌∷◌, ◌++◌, length, map, take, drop, false, is_none, option_map, Option, Some, None}
use Rattle.lexical_fields.specs.Places.{error_in_text}
use Rattle.lexical_tables.specs.ByColumn.{first_fault, first_of, values_to_fault, wrong_cell}
use Rattle.lexical_tables.specs.Cells.{Kind}
use Rattle.lexical_tables.specs.Quotes.{whole_outside}
use Rattle.lexical_tables.specs.Readings.{IsValid, Number, Text, Value}
use Rattle.lexical_tables.specs.Rows.{line_feed, record_size, rows}
use Rattle.lexical_tables.specs.declared.answers.CellFault.{CellFault}
use Rattle.lexical_tables.specs.declared.answers.CellFault.TheVariants.{MisplacedQuote, MissingReturn, NotNumber, TooFewCells, TooManyCells}
use Rattle.lexical_tables.specs.declared.answers.TableError.{TableError}
use Rattle.lexical_tables.specs.declared.dialect.Dialect.{Dialect}
use Rattle.lexical_tables.specs.declared.dialect.Layout.{Layout}
use Rattle.lexical_tables.specs.declared.dialect.Layout.TheVariants.{Records}

-- how many bytes of a text are whole lines: those up to its last line feed outside quotes, that one counted
abbrev pub whole_lines : Bool → List ℕ → ℕ
whole_lines has_quotes text = whole_outside has_quotes line_feed text

-- how many bytes of a text are whole lines or records
abbrev pub whole_pieces : Layout → Bool → List ℕ → ℕ
whole_pieces (Records widths) has_quotes text = length text - length text % record_size widths.now
whole_pieces layout has_quotes text = whole_lines has_quotes text

-- how many bytes of a text are whole rows
abbrev pub whole_rows : Dialect → List ℕ → ℕ
whole_rows dialect text = whole_pieces dialect.layout dialect.has_quotes text

-- what is read of a part: its whole rows, and all of the last part
abbrev pub readable : Bool → Dialect → List ℕ → List ℕ
readable is_last dialect text = if is_last then text else take (whole_rows dialect text) text

-- what is wrong with a cell, if it stands `bytes` bytes further on
abbrev pub fault_behind : ℕ → CellFault → CellFault
fault_behind bytes (NotNumber error) = NotNumber (error_in_text bytes error)
fault_behind bytes (MisplacedQuote place) = MisplacedQuote (bytes + place)
fault_behind bytes (TooFewCells place) = TooFewCells (bytes + place)
fault_behind bytes (TooManyCells place) = TooManyCells (bytes + place)
fault_behind bytes (MissingReturn place) = MissingReturn (bytes + place)

-- a wrong cell, if it stands `rows` rows and `bytes` bytes further on
abbrev pub error_behind : ℕ → ℕ → TableError → TableError
error_behind rows bytes error =
    wrong_cell (rows + error.row) error.column (fault_behind bytes error.fault)

-- what a cell stands for, if it stands `bytes` bytes further on
abbrev pub value_behind : ℕ → Value → Value
value_behind bytes (Number number) = Number number
value_behind bytes (Text text) = Text (record text { start = bytes + text.start })

-- what is read of rows, if they stand `bytes` bytes further on
abbrev pub values_behind : ℕ → List (List (Option Value)) → List (List (Option Value))
values_behind bytes rows = map (map (option_map (value_behind bytes))) rows

-- each column has a valid format
abbrev pub AreValid : List (Option Kind) → Type 0
AreValid [] = Unit {0}
AreValid (None ∷ kinds) = AreValid kinds
AreValid (Some kind ∷ kinds) = IsValid kind.reading × AreValid kinds

-- what is read of the rows of a text, up to the first fault
abbrev pub values_in : List (Option Kind) → Dialect → List ℕ → List (List (Option Value))
values_in kinds dialect text = values_to_fault kinds dialect 0 (rows dialect text)

-- the first fault in a text
abbrev pub fault_in : List (Option Kind) → Dialect → List ℕ → Option TableError
fault_in kinds dialect text =
    first_fault kinds dialect 0 (rows dialect text)

-- Wherever a text is cut, what is read of the whole rows in front of the cut, and then of all that is left, is what is
-- read of the text: rows and places count from the beginning of the whole text.
pub record ColumnsInParts (kinds : List (Option Kind)) (dialect : Dialect)
    (part more : List ℕ) : Type 0 where
  pub values : let front = readable false dialect part in
      let left = drop (whole_rows dialect part) part ++ more in
      values_in kinds dialect (part ++ more) ≡ values_in kinds dialect front
      ++ (if is_none (fault_in kinds dialect front)
      then values_behind (length front) (values_in kinds dialect left) else [])
  pub fault : let front = readable false dialect part in
      let left = drop (whole_rows dialect part) part ++ more in
      fault_in kinds dialect (part ++ more) ≡ first_of (fault_in kinds dialect front)
      (option_map (error_behind (length (rows dialect front)) (length front))
      (fault_in kinds dialect left))
