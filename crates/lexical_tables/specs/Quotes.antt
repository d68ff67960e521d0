-- What stands outside quotes.
use Rattle.std.specs.Prelude.{◌==◌, ◌&&◌, ◌+◌, ◌%◌, ℕ, suc, Bool, not, if◌then◌else◌, List, [], ◌∷◌, ◌++◌, length, take, drop, map, count_by, slice_index}
use Rattle.std.specs.List.{range_with_len}
use Rattle.lexical_fields.specs.Fields.{FieldView, field_length, fields_from}
use Rattle.lexical_fields.specs.Parts.{whole_fields}

abbrev pub quote : ℕ
quote = 34

-- whether a text has an odd number of quotes
abbrev pub has_odd_quotes : List ℕ → Bool
has_odd_quotes text = count_by (λ byte. byte == quote) text % 2 == 1

-- A byte as a search sees it: within quotes, that is behind an odd number of them, it is never the byte that is sought.
abbrev pub seen_at : ℕ → List ℕ → ℕ → ℕ
seen_at sought text place =
    if has_odd_quotes (take place text) then suc sought else slice_index text place

-- a text as the search for a byte outside quotes sees it
abbrev pub hidden : ℕ → List ℕ → List ℕ
hidden sought text = map (seen_at sought text) (range_with_len 0 (length text))

-- a text as the search sees it: unchanged if quotes have no meaning, or are themselves what is sought
abbrev pub seen : Bool → ℕ → List ℕ → List ℕ
seen has_quotes sought text =
    if has_quotes && not (sought == quote) then hidden sought text else text

-- the bytes of a text, cut into fields as long as the given ones, with one byte between two
abbrev pub as_long_as : List FieldView → List ℕ → List FieldView
as_long_as [] text = []
as_long_as (field ∷ more) text =
    record { start = field.start; text = take (length field.text) text }
    ∷ as_long_as more (drop (length field.text + 1) text)

-- the fields between separators outside quotes, of a text that stands at a place
abbrev pub fields_outside : Bool → ℕ → ℕ → List ℕ → List FieldView
fields_outside has_quotes separator place text =
    as_long_as (fields_from separator place (seen has_quotes separator text)) text

-- how many bytes the first of them has
abbrev pub length_outside : Bool → ℕ → List ℕ → ℕ
length_outside has_quotes separator text = field_length separator (seen has_quotes separator text)

-- the pieces between separators outside quotes: one more than there are separators
abbrev pub pieces_outside : Bool → ℕ → ℕ → List ℕ → List FieldView
pieces_outside has_quotes separator place text =
    as_long_as (fields_from separator place (seen has_quotes separator text ++ separator ∷ [])) text

-- how many bytes of a text are whole fields: those up to the last separator outside quotes, that one counted
abbrev pub whole_outside : Bool → ℕ → List ℕ → ℕ
whole_outside has_quotes separator text = whole_fields separator (seen has_quotes separator text)
