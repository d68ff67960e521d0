-- Texts in which doubled quotes stand for one.
use Rattle.std.specs.Prelude.{◌==◌, ◌&&◌, ◌%◌, ℕ, Bool, not, if◌then◌else◌, List, ◌++◌, length, take, drop, map, filter, nat_lt, slice_index}
use Rattle.std.specs.List.{range_with_len, suffix_len}
use Rattle.lexical_tables.specs.Quotes.{quote}

-- how many quotes stand directly in front of a place
abbrev pub quotes_in_front : List ℕ → ℕ → ℕ
quotes_in_front text place = suffix_len (λ byte. byte == quote) (take place text)

-- whether the byte at a place is the second one of a doubled quote: an odd number of quotes stands directly in front of it
abbrev pub is_second : List ℕ → ℕ → Bool
is_second text place =
    (slice_index text place == quote) && (quotes_in_front text place % 2 == 1)

-- a text with each doubled quote as one: without the second one of each
unfoldable pub folded : List ℕ → List ℕ
folded text = map (λ place. slice_index text place)
    (filter (λ place. not (is_second text place)) (range_with_len 0 (length text)))

-- bytes whose first ones are replaced by others, if there is room for these; otherwise as they were
abbrev pub put_if_room : List ℕ → List ℕ → List ℕ
put_if_room bytes old =
    if nat_lt (length old) (length bytes) then old else bytes ++ drop (length bytes) old
