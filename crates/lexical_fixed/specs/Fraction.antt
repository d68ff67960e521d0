-- Point and fraction of a number in a text, and what digits make of a number.
-- The integer part has been read, and `place` is behind it.
use Rattle.std.specs.Prelude.{ℕ, ◌+◌, ◌^◌, ◌==◌, Bool, ◌&&◌, not, nat_lt, min, if◌then◌else◌, List, [], ◌∷◌, length, take, drop, find, slice_get, is_some, ℤ, pos, ◌*ℤ◌, Option, Some, Result}
use Rattle.std.specs.List.{prefix_len, range_with_len}
use Rattle.std.specs.Option.{option_map}
use Rattle.lexical_util.specs.Digit.{digit}
use Rattle.lexical_util.specs.Number.{IntegerType, is_number, mul_add}
use Rattle.lexical_util.specs.declared.error.Error.{Error}
use Rattle.lexical_digits.specs.Words.{word_value}
use Rattle.lexical_parse_integer.specs.Grammar.{fault_if, first_fault_or, range_error}
use Rattle.lexical_parse_integer.specs.Runs.{are_same}
use Rattle.lexical_fixed.specs.Fixed.{Fixed}

-- ---- places

-- how many bytes from a place on are decimal digits, up to the first that isn't
unfoldable pub digits_from : List ℕ → ℕ → ℕ
digits_from text place = prefix_len (λ byte. is_some (digit 10 byte)) (drop place text)

-- the point stands at a place, and the description has places behind it
unfoldable pub has_point_at : Fixed → List ℕ → ℕ → Bool
has_point_at fixed text place =
    nat_lt 0 fixed.places && are_same (Some fixed.point) (slice_get text place)

-- how many digits the fraction has: those behind the point, as many as there are places at most
unfoldable pub fraction_length : Fixed → List ℕ → ℕ → ℕ
fraction_length fixed text place =
    if has_point_at fixed text place then min fixed.places (digits_from text (place + 1)) else 0

-- the digits of the fraction
abbrev pub fraction : Fixed → List ℕ → ℕ → List ℕ
fraction fixed text place = take (fraction_length fixed text place) (drop (place + 1) text)

-- where a number ends that has to be the whole text: behind the fraction, or the point
unfoldable pub whole_end : Fixed → List ℕ → ℕ → ℕ
whole_end fixed text place =
    if has_point_at fixed text place then (place + 1) + fraction_length fixed text place else place

-- where a number in front ends: where fewer places are taken, a point without a digit behind it isn't read
unfoldable pub front_end : Fixed → List ℕ → ℕ → ℕ
front_end fixed text place =
    if fixed.takes_fewer && (fraction_length fixed text place == 0) then place
    else whole_end fixed text place

-- more digits stand behind the point than the description has places
unfoldable pub is_cut : Fixed → List ℕ → ℕ → Bool
is_cut fixed text place =
    are_same (Some fixed.point) (slice_get text place)
    && nat_lt fixed.places (digits_from text (place + 1))

-- the fraction has fewer digits than asked for
unfoldable pub lacks_places : Fixed → List ℕ → ℕ → Bool
lacks_places fixed text place =
    not fixed.takes_fewer && nat_lt (fraction_length fixed text place) fixed.places

-- the point has no digit behind it
unfoldable pub has_bare_point : Fixed → List ℕ → ℕ → Bool
has_bare_point fixed text place =
    has_point_at fixed text place && (fraction_length fixed text place == 0)

-- ---- numbers

-- a number with more digits behind it: behind a minus they go down
unfoldable pub with_digits : Bool → ℤ → List ℕ → ℤ
with_digits is_negative number digits =
    mul_add is_negative number (pos (10 ^ length digits)) (pos (word_value 10 digits))

-- the first digit, by its index, such that the number with the digits up to it is outside the type
unfoldable pub digit_outside : IntegerType → Bool → ℤ → List ℕ → Option ℕ
digit_outside type is_negative number digits =
    find (λ index. not (is_number type (with_digits is_negative number (take (index + 1) digits))))
    (range_with_len 0 (length digits))

-- digits from a place on take a number out of the type: the fault stands at the first such digit
unfoldable pub digits_fault : IntegerType → Bool → ℤ → List ℕ → ℕ → Option Error
digits_fault type is_negative number digits place =
    option_map (λ index. range_error is_negative (place + index))
    (digit_outside type is_negative number digits)

-- a number times a power of ten
abbrev pub with_zeros : ℤ → ℕ → ℤ
with_zeros number zeros = number *ℤ pos (10 ^ zeros)

-- zeros that aren't written take a number out of the type
unfoldable pub zeros_fault : IntegerType → Bool → ℤ → ℕ → ℕ → Option Error
zeros_fault type is_negative number zeros place =
    fault_if (nat_lt 0 zeros && not (is_number type (with_zeros number zeros)))
    (range_error is_negative place)

-- ---- steps of reading

-- a number with digits behind it that stand from a place on, or the fault of the first one outside the type
abbrev pub read_digits : IntegerType → Bool → ℤ → List ℕ → ℕ → Result ℤ Error
read_digits type is_negative number digits place =
    first_fault_or (digits_fault type is_negative number digits place ∷ [])
    (with_digits is_negative number digits)

-- a number with `zeros` zeros behind it that aren't written, or a fault at a place
abbrev pub read_zeros : IntegerType → Bool → ℤ → ℕ → ℕ → Result ℤ Error
read_zeros type is_negative number zeros place =
    first_fault_or (zeros_fault type is_negative number zeros place ∷ []) (with_zeros number zeros)
