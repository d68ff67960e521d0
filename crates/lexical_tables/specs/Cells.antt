-- What one cell of a row stands for.
use Rattle.std.specs.Prelude.{◌==◌, ◌&&◌, ◌||◌, ◌+◌, ◌-◌, ℕ, Bool, false, not, if◌then◌else◌, List, length, take, drop, is_some, nat_lt, option_map, position, slice_index, Option, Some, None, Result, Ok, Err}
use Rattle.std.specs.List.{prefix_len, range_with_len, suffix_len}
use Rattle.std.specs.Str.{bytes_eq}
use Rattle.lexical_util.specs.declared.error.Error.{Error}
use Rattle.lexical_util.specs.Digit.{digit}
use Rattle.lexical_fields.specs.Fields.{FieldView}
use Rattle.lexical_tables.specs.Quotes.{has_odd_quotes, quote}
use Rattle.lexical_tables.specs.Readings.{Reading, Value, keeps_texts, value_by}
use Rattle.lexical_tables.specs.declared.answers.CellFault.{CellFault}
use Rattle.lexical_tables.specs.declared.answers.CellFault.TheVariants.{MisplacedQuote, NotNumber}
use Rattle.lexical_tables.specs.declared.content.Cell.{Cell}
use Rattle.lexical_tables.specs.declared.dialect.Dialect.{Dialect}

-- What a column's cells are read as, and whether one may be missing there.
pub record Kind : Type 0 where
  pub reading : Reading
  pub may_miss : Bool

-- a cell as contracts see it
abbrev pub view_of_cell : Cell → FieldView
view_of_cell cell = record { start = cell.start; text = cell.text.now }

-- ---- one answer before another

-- the first of two that is there
abbrev pub first_of : {A : Type 0} → Option A → Option A → Option A
first_of None other = other
first_of (Some it) other = Some it

-- an answer, where nothing is wrong
abbrev pub unless : {A E : Type 0} → Option E → Result A E → Result A E
unless None answer = answer
unless (Some fault) answer = Err fault

-- ---- a cell's quotes

-- whether a text's first byte is a quote
abbrev pub begins_with_quote : List ℕ → Bool
begins_with_quote text = nat_lt 0 (length text) && (slice_index text 0 == quote)

-- the place of a text's first quote
abbrev pub first_quote : List ℕ → Option ℕ
first_quote text = position (λ byte. byte == quote) text

-- The quote out of place in a text of `size` bytes that begins with one, if a number is read
-- within: the next quote has to be the last byte, and where there is none, the first is out of
-- place. The next is given by its place behind the first.
abbrev pub fault_round_number : ℕ → Option ℕ → Option ℕ
fault_round_number size None = Some 0
fault_round_number size (Some place) = if place + 2 == size then None else Some (place + 1)

-- whether the byte at a place of a text stands within quotes, or is one
abbrev pub is_in_place : List ℕ → ℕ → Bool
is_in_place text place = has_odd_quotes (take place text) || (slice_index text place == quote)

-- The quote out of place in a text that begins with one, if no number is read of it: the one in front of the first byte that
-- neither stands within quotes nor is one, or else the first, where their number is odd.
abbrev pub fault_round_text : List ℕ → Option ℕ
fault_round_text text = first_of
    (position (λ place. not (is_in_place text (place + 1))) (range_with_len 0 (length text - 1)))
    (if has_odd_quotes text then Some 0 else None)

-- The place of a text's first quote out of place, if there is one: in a text that doesn't begin
-- with a quote, each quote is out of place.
abbrev pub misplaced_quote : Bool → List ℕ → Option ℕ
misplaced_quote is_number text =
    if begins_with_quote text
    then (if is_number then fault_round_number (length text) (first_quote (drop 1 text))
    else fault_round_text text)
    else first_quote text

-- the fault of a cell's quotes, where these have a meaning
abbrev pub quote_fault : Bool → Bool → FieldView → Option CellFault
quote_fault has_quotes is_number cell =
    if has_quotes
    then option_map (λ place. MisplacedQuote (cell.start + place))
    (misplaced_quote is_number cell.text)
    else None

-- ---- what a cell holds

-- what stands behind the first byte of a cell and before its last, at its place
abbrev pub within_quotes : FieldView → FieldView
within_quotes cell =
    let rest = drop 1 cell.text in
    record { start = cell.start + 1; text = take (length rest - 1) rest }

-- a cell without its quotes, where these have a meaning
abbrev pub without_quotes : Bool → FieldView → FieldView
without_quotes has_quotes cell =
    if has_quotes && begins_with_quote cell.text then within_quotes cell else cell

-- whether a byte is a space or a tab
abbrev pub is_blank : ℕ → Bool
is_blank byte = (byte == 32) || (byte == 9)

-- a text at its place, without the blanks in front of it and behind it
abbrev pub without_blanks : FieldView → FieldView
without_blanks cell =
    let front = prefix_len is_blank cell.text in
    let rest = drop front cell.text in
    record { start = cell.start + front; text = take (length rest - suffix_len is_blank rest) rest }

-- what a cell holds, at its place: its bytes, or those within its quotes, without blanks on both sides where they are
-- allowed
abbrev pub content : Bool → Bool → FieldView → FieldView
content has_quotes allows_blanks cell =
    let held = without_quotes has_quotes cell in
    if allows_blanks then without_blanks held else held

-- whether a text's last byte is a decimal digit
abbrev pub ends_in_digit : List ℕ → Bool
ends_in_digit text = is_some (digit 10 (slice_index text (length text - 1)))

-- ---- what it stands for

-- a value that is read
abbrev pub some_value : Result Value Error → Result (Option Value) CellFault
some_value (Ok value) = Ok (Some value)
some_value (Err error) = Err (NotNumber error)

-- what a text at its place stands for: nothing where it is the mark, byte for byte, and a value may be missing
abbrev pub value_at : Dialect → Kind → FieldView → Result (Option Value) CellFault
value_at dialect kind held =
    if kind.may_miss && bytes_eq held.text dialect.missing.now
    then Ok None
    else some_value (value_by dialect.has_quotes kind.reading held)

-- what a text at its place stands for in its column
abbrev pub held_answer : Dialect → Option Kind → FieldView → Result (Option Value) CellFault
held_answer dialect None held = Ok None
held_answer dialect (Some kind) held = value_at dialect kind held

-- What a cell stands for in its column, if its quotes are in place: a number, a text with its blanks, or nothing where it
-- isn't read or is missing. Doubled quotes may stand in a text, as in a cell that isn't read.
abbrev pub answer_as : Dialect → Option Kind → FieldView → Result (Option Value) CellFault
answer_as dialect None cell = unless (quote_fault dialect.has_quotes false cell) (Ok None)
answer_as dialect (Some kind) cell =
    let is_number = not (keeps_texts kind.reading) in
    unless (quote_fault dialect.has_quotes is_number cell)
    (value_at dialect kind
    (content dialect.has_quotes (is_number && dialect.allows_blanks) cell))
