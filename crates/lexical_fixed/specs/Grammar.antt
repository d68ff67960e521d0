-- The grammar of fixed-point numbers: what a text stands for under a description, or its first fault.
-- Each definition looks at the whole text. Places count bytes from 0.
use Rattle.std.specs.Prelude.{ℕ, ◌+◌, ◌-◌, Bool, ◌&&◌, ◌||◌, nat_lt, if◌then◌else◌, List, [], ◌∷◌, length, slice_get, ℤ, Option, Some, None, Result, Ok, Err}
use Rattle.lexical_util.specs.Ascii.{minus}
use Rattle.lexical_util.specs.declared.error.Error.{Error}
use Rattle.lexical_util.specs.declared.error.Error.TheVariants.{Empty, InvalidDigit}
use Rattle.lexical_util.specs.Format.{Format}
use Rattle.lexical_util.specs.Number.{IntegerType}
use Rattle.lexical_parse_integer.specs.Answer.{view_of}
use Rattle.lexical_parse_integer.specs.Fronts.{number_in_front}
use Rattle.lexical_parse_integer.specs.Grammar.{digits_required, fault_if, first_fault_or, partial}
use Rattle.lexical_parse_integer.specs.Runs.{are_same}
use Rattle.lexical_fixed.specs.Fixed.{Fixed}
use Rattle.lexical_fixed.specs.Fraction.{digits_fault, fraction, fraction_length, front_end, has_bare_point, is_cut, lacks_places, whole_end, with_digits, with_zeros, zeros_fault}
use Rattle.lexical_fixed.specs.Validity.{fixed_fault}
use Rattle.lexical_fixed.specs.declared.error.FixedError.{FixedError}
use Rattle.lexical_fixed.specs.declared.error.FixedError.TheVariants.{Format as InFormat, Text as InText}
use Rattle.lexical_fixed.specs.declared.error.FixedFormatError.{FixedFormatError}

-- ---- the integer part

-- the integer part in front of a text, and the place behind it: it has a digit where the format asks for one
unfoldable pub integer_part : Format → IntegerType → List ℕ → Result (ℤ × ℕ) Error
integer_part format type text =
    if digits_required format then number_in_front format type text
    else partial format type text

-- whether a text has a minus
unfoldable pub is_negative : IntegerType → List ℕ → Bool
is_negative type text = type.is_signed && are_same (Some minus) (slice_get text 0)

-- a fault of the integer part, for a whole text of this size: where a digit is missing and a byte stands, that byte
-- can't stand
abbrev pub whole_fault : ℕ → Error → Error
whole_fault size (Empty place) = if nat_lt place size then InvalidDigit place else Empty place
whole_fault size error = error

-- ---- the number

-- the number that is written, whose integer part ends at a place
abbrev pub written : Fixed → IntegerType → List ℕ → ℤ → ℕ → ℤ
written fixed type text whole place =
    with_digits (is_negative type text) whole (fraction fixed text place)

-- how many zeros aren't written
abbrev pub zeros_left : Fixed → List ℕ → ℕ → ℕ
zeros_left fixed text place = fixed.places - fraction_length fixed text place

-- the number in units of the last place
abbrev pub in_units : Fixed → IntegerType → List ℕ → ℤ → ℕ → ℤ
in_units fixed type text whole place =
    with_zeros (written fixed type text whole place) (zeros_left fixed text place)

-- a digit of the fraction takes the number out of the type
abbrev pub fraction_fault : Fixed → IntegerType → List ℕ → ℤ → ℕ → Option Error
fraction_fault fixed type text whole place =
    digits_fault type (is_negative type text) whole (fraction fixed text place) (place + 1)

-- the zeros that aren't written take the number out of the type, which is reported at a place
abbrev pub units_fault : Fixed → IntegerType → List ℕ → ℤ → ℕ → ℕ → Option Error
units_fault fixed type text whole place stop =
    zeros_fault type (is_negative type text) (written fixed type text whole place)
    (zeros_left fixed text place) stop

-- ---- the two parsers

-- the number in units behind an integer part that ends at a place: reading stops at `stop`, where a byte can't stand or a
-- digit is missing
unfoldable pub units_behind : Fixed → IntegerType → List ℕ → ℤ → ℕ → ℕ → Bool → Bool
    → Result ℤ Error
units_behind fixed type text whole place stop cannot_stand is_missing =
    first_fault_or
    (fraction_fault fixed type text whole place
    ∷ fault_if cannot_stand (InvalidDigit stop)
    ∷ fault_if is_missing (Empty stop)
    ∷ units_fault fixed type text whole place stop ∷ [])
    (in_units fixed type text whole place)

-- what the whole text stands for, behind its integer part: no byte may be left
unfoldable pub whole_behind : Fixed → IntegerType → List ℕ → ℤ → ℕ → Result ℤ Error
whole_behind fixed type text whole place =
    let stop = whole_end fixed text place in
    units_behind fixed type text whole place stop (nat_lt stop (length text))
    (has_bare_point fixed text place || lacks_places fixed text place)

-- what the front of the text stands for, behind its integer part, and the place at which reading stops: the number isn't
-- cut
unfoldable pub front_behind : Fixed → IntegerType → List ℕ → ℤ → ℕ → Result (ℤ × ℕ) Error
front_behind fixed type text whole place =
    let stop = front_end fixed text place in
    view_of (λ number. (number, stop))
    (units_behind fixed type text whole place stop (is_cut fixed text place)
    (lacks_places fixed text place))

-- what the whole text stands for, by its integer part
abbrev pub complete_by : Fixed → IntegerType → List ℕ → Result (ℤ × ℕ) Error → Result ℤ Error
complete_by fixed type text (Ok (whole, place)) = whole_behind fixed type text whole place
complete_by fixed type text (Err error) = Err (whole_fault (length text) error)

-- what the front of the text stands for, by its integer part
abbrev pub partial_by : Fixed → IntegerType → List ℕ → Result (ℤ × ℕ) Error → Result (ℤ × ℕ) Error
partial_by fixed type text (Ok (whole, place)) = front_behind fixed type text whole place
partial_by fixed type text (Err error) = Err error

-- what the whole text stands for, in units of the last place
unfoldable pub complete_fixed : Fixed → IntegerType → List ℕ → Result ℤ Error
complete_fixed fixed type text =
    complete_by fixed type text (integer_part fixed.integer type text)

-- what the front of the text stands for, in units of the last place, and the place at which reading stops
unfoldable pub partial_fixed : Fixed → IntegerType → List ℕ → Result (ℤ × ℕ) Error
partial_fixed fixed type text =
    partial_by fixed type text (integer_part fixed.integer type text)

-- ---- descriptions that may be invalid

-- an answer where the description is valid, and else the fault of its first broken rule
abbrev pub if_fixed : {A : Type 0} → Option FixedFormatError → Result A Error → Result A FixedError
if_fixed (Some error) answer = Err (InFormat error)
if_fixed None (Ok value) = Ok value
if_fixed None (Err error) = Err (InText error)

-- what the whole text stands for, or the description's fault
abbrev pub complete_if_fixed : Fixed → IntegerType → List ℕ → Result ℤ FixedError
complete_if_fixed fixed type text =
    if_fixed (fixed_fault fixed) (complete_fixed fixed type text)

-- what the front of the text stands for, or the description's fault
abbrev pub partial_if_fixed : Fixed → IntegerType → List ℕ → Result (ℤ × ℕ) FixedError
partial_if_fixed fixed type text =
    if_fixed (fixed_fault fixed) (partial_fixed fixed type text)
