-- The integer part of a JSON number.
use Rattle.std.specs.Prelude.{◌≡◌, ℕ, if◌then◌else◌, nat_lt, List, length, true, ℤ, Option, Some, None, Result, Ok, Err}
use Rattle.lexical_util.specs.declared.error.Error.{Error}
use Rattle.lexical_util.specs.declared.error.Error.TheVariants.{Overflow, Underflow, Empty}
use Rattle.lexical_util.specs.Faults.{place_of}
use Rattle.lexical_util.specs.Format.{json}
use Rattle.lexical_util.specs.Number.{integer_type}
use Rattle.lexical_parse_integer.specs.Grammar.{partial}
use Rattle.lexical_parse_integer.specs.Laws.{SameFront}
use Rattle.lexical_parse_integer.specs.Stops.{stops_after_digit}
use Rattle.uses.specs.declared.json.Part.{Part}
use Rattle.uses.specs.declared.json.Part.TheVariants.{Whole, Unfinished}
use Rattle.uses.specs.declared.json.NumberError.{NumberError}
use Rattle.uses.specs.declared.json.NumberError.TheVariants.{NoDigit, OutOfRange, Malformed}

-- what is known of the number by a front that ends before its text does
abbrev pub part_behind : List ℕ → ℤ → ℕ → Result Part NumberError
part_behind text value end =
    if stops_after_digit 10 text end then Ok (Whole value end)
    else Err (NoDigit end)

-- what the partial answer of a text tells: a front that reaches the end may go on, and digits that are missing there may come
abbrev pub part_by : List ℕ → Result (ℤ × ℕ) Error → Result Part NumberError
part_by text (Ok (value, end)) =
    if nat_lt end (length text) then part_behind text value end
    else Ok Unfinished
part_by text (Err (Empty place)) = Ok Unfinished
part_by text (Err (Overflow place)) = Err (OutOfRange (Overflow place))
part_by text (Err (Underflow place)) = Err (OutOfRange (Underflow place))
part_by text (Err e) = Err (Malformed e)

-- what is known of the number that a text begins with
abbrev pub part_in : List ℕ → Result Part NumberError
part_in text = part_by text (partial json (integer_type 64 true) text)

-- the place of an answer that no byte behind it changes
abbrev pub settled_at : Result Part NumberError → Option ℕ
settled_at (Ok (Whole value end)) = Some end
settled_at (Ok Unfinished) = None
settled_at (Err (NoDigit place)) = Some place
settled_at (Err (OutOfRange e)) = place_of e
settled_at (Err (Malformed e)) = None

-- every text with the same first `count` bytes has the same answer, whatever follows them
abbrev pub IsFinal : ℕ → List ℕ → Type 0
IsFinal count text = (other : List ℕ) → SameFront count text other → part_in other ≡ part_in text
