-- The rows of a text.
use Rattle.std.specs.Prelude.{◌≡◌, ◌==◌, ◌&&◌, ◌||◌, ◌+◌, ◌-◌, ◌%◌, ◌<◌, ℕ, Bool, false, true, not, if◌then◌else◌, List, [], ◌∷◌, length, take, drop, map, filter, max, sum, nat_lt, slice_index}
use Rattle.std.specs.List.{range_with_len}
use Rattle.lexical_fields.specs.Fields.{FieldView}
use Rattle.lexical_tables.specs.Quotes.{fields_outside, length_outside}
use Rattle.lexical_tables.specs.declared.dialect.Dialect.{Dialect}
use Rattle.lexical_tables.specs.declared.dialect.Layout.{Layout}
use Rattle.lexical_tables.specs.declared.dialect.Layout.TheVariants.{Records}
use Rattle.lexical_tables.specs.declared.rows.Row.{Row}

abbrev pub line_feed : ℕ
line_feed = 10

abbrev pub carriage_return : ℕ
carriage_return = 13

-- A row: the place in the text at which it starts, its bytes without what ends it, and whether that lacks its return.
pub record RowView : Type 0 where
  pub start : ℕ
  pub text : List ℕ
  pub lacks_return : Bool

-- whether a text's last byte is this one
abbrev pub ends_in : ℕ → List ℕ → Bool
ends_in byte text = nat_lt 0 (length text) && (slice_index text (length text - 1) == byte)

-- whether a line of a text that ends at a place has a line feed behind it
abbrev pub is_ended : ℕ → FieldView → Bool
is_ended end line = nat_lt (line.start + length line.text) end

-- A line as a row, without a return in front of its line feed, if one may stand there; it may lack one that has to.
abbrev pub row_of : Bool → Bool → ℕ → FieldView → RowView
row_of takes_returns asks_returns end line =
    let takes = takes_returns && is_ended end line in
    let asks = asks_returns && is_ended end line in
    let returned = ends_in carriage_return line.text in
    record {
      start = line.start;
      text = if takes && returned then take (length line.text - 1) line.text else line.text;
      lacks_return = asks && not returned;
    }

-- ---- lines and records

-- how many bytes a record has: as many as its widths together, or one where these have none
abbrev pub record_size : List ℕ → ℕ
record_size widths = max 1 (sum widths)

-- the records of a text that stands at a place: one starts wherever their size divides, and the last may be short
abbrev pub records_from : ℕ → ℕ → List ℕ → List FieldView
records_from size place text =
    map (λ start. record { start = place + start; text = take size (drop start text) })
    (filter (λ start. start % size == 0) (range_with_len 0 (length text)))

-- the lines of a text that stands at a place, or its records
abbrev pub pieces_from : Layout → Bool → ℕ → List ℕ → List FieldView
pieces_from (Records widths) has_quotes place text =
    records_from (record_size widths.now) place text
pieces_from layout has_quotes place text = fields_outside has_quotes line_feed place text

-- the bytes of the first of them
abbrev pub first_piece : Layout → Bool → List ℕ → List ℕ
first_piece (Records widths) has_quotes text = take (record_size widths.now) text
first_piece layout has_quotes text = take (length_outside has_quotes line_feed text) text

-- what stands behind that
abbrev pub behind_piece : Layout → Bool → List ℕ → List ℕ
behind_piece (Records widths) has_quotes text = drop (record_size widths.now) text
behind_piece layout has_quotes text = drop (length_outside has_quotes line_feed text + 1) text

-- whether rows are lines
abbrev pub has_lines : Layout → Bool
has_lines (Records widths) = false
has_lines layout = true

-- whether a return may stand in front of the line feed that ends a line
abbrev pub takes_returns : Dialect → Bool
takes_returns dialect = dialect.has_returns || dialect.allows_returns

-- whether a return has to stand where a row ends
abbrev pub asks_returns : Dialect → Bool
asks_returns dialect = has_lines dialect.layout && dialect.has_returns

-- a line or record, of a text that ends at a place, as a row
abbrev pub as_row : Dialect → ℕ → FieldView → RowView
as_row dialect =
    row_of (has_lines dialect.layout && takes_returns dialect) (asks_returns dialect)

-- ---- rows

-- the first line or record of a text that stands at a place, as a row
abbrev pub first_row : Dialect → ℕ → List ℕ → RowView
first_row dialect place text = as_row dialect (place + length text) (record {
  start = place;
  text = first_piece dialect.layout dialect.has_quotes text;
})

-- whether a row counts: it has a byte, or empty rows aren't skipped
abbrev pub counts : Dialect → RowView → Bool
counts dialect row = not dialect.skips_empty_rows || nat_lt 0 (length row.text)

-- the rows of a text that stands at a place: its lines or records that count
abbrev pub rows_from : Dialect → ℕ → List ℕ → List RowView
rows_from dialect place text = filter (counts dialect)
    (map (as_row dialect (place + length text))
    (pieces_from dialect.layout dialect.has_quotes place text))

-- the rows of a text
abbrev pub rows : Dialect → List ℕ → List RowView
rows dialect text = rows_from dialect 0 text

-- the start of the first of some rows, or the text's end where there is none
abbrev pub next_start : ℕ → List RowView → ℕ
next_start end [] = end
next_start end (row ∷ more) = row.start

-- the first of a text's lines or records, if it has one, counts
abbrev pub FirstCounts : Dialect → List ℕ → Type 0
FirstCounts dialect text = 0 < length text → counts dialect (first_row dialect 0 text) ≡ true

-- a row as the program has it
abbrev pub view_of_row : Row → RowView
view_of_row row = record { start = row.start; text = row.text.now; lacks_return = row.lacks_return }
