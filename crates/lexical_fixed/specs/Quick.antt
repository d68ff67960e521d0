-- What the quick way finds out about a text, before it has a number.
use Rattle.std.specs.Prelude.{◌≡◌, ◌+◌, ◌-◌, ◌*◌, ◌^◌, ◌<◌, ◌≤◌, ℕ, ℤ, ◌==◌, ◌&&◌, Bool, true, false, not, nat_le, if◌then◌else◌, List, ◌++◌, drop, length, slice_get, slice_index, take, None, Some}
use Rattle.lexical_util.specs.Ascii.{digit_zero}
use Rattle.lexical_digits.specs.Value.{with_sign}
use Rattle.lexical_digits.specs.Words.{AreDigits, word_value}
use Rattle.lexical_util.specs.Format.{Format}
use Rattle.lexical_util.specs.Number.{IntegerType, IsNumber}
use Rattle.lexical_parse_integer.specs.Runs.{are_same}
use Rattle.lexical_fixed.specs.Fixed.{Fixed}
use Rattle.lexical_fixed.specs.Fraction.{fraction, fraction_length, front_end, is_cut}
use Rattle.lexical_fixed.specs.Parted.{IsParted}

-- The fraction has `count` digits, fewer than eight, which write `number`; no more digits stand
-- behind it.
pub record IsFraction (fixed : Fixed) (text : List ℕ) (place number count : ℕ) : Type 0 where
  pub few : count < 8
  pub counted : fraction_length fixed text place ≡ count
  pub size : length (fraction fixed text place) ≡ count
  pub worth : number ≡ word_value 10 (fraction fixed text place)
  pub small : number < 100000000
  pub uncut : is_cut fixed text place ≡ false
  pub ends : front_end fixed text place
      ≡ (if count == 0 then place else place + 1 + count)

-- the bytes but for the one at a place
abbrev pub without : ℕ → List ℕ → List ℕ
without place bytes = take place bytes ++ drop (place + 1) bytes

-- the bytes without the point, which has `count` bytes behind it, or all where that is 0
abbrev pub without_point : ℕ → List ℕ → List ℕ
without_point count bytes =
    if count == 0 then bytes else without (length bytes - 1 - count) bytes

-- a zero stands in front of another byte than the point
abbrev pub begins_with_zero : ℕ → List ℕ → Bool
begins_with_zero point bytes =
    nat_le 2 (length bytes) && (slice_index bytes 0 == digit_zero)
    && not (slice_index bytes 1 == point)

-- it does, and the integer part's format forbids zeros there
abbrev pub leads_with_zero : Fixed → List ℕ → Bool
leads_with_zero fixed bytes =
    fixed.integer.no_integer_leading_zeros && begins_with_zero fixed.point bytes

-- Bytes are digits, which write a number.
pub record IsJoined (bytes : List ℕ) (number : ℕ) : Type 0 where
  pub digits : AreDigits 10 bytes
  pub worth : number ≡ word_value 10 bytes

-- A format with no separator, that asks for no sign and lets zeros stand in front.
pub record IsBare (format : Format) : Type 0 where
  pub no_separator : format.digit_separator ≡ None
  pub no_sign : format.required_mantissa_sign ≡ false
  pub no_rule : format.no_integer_leading_zeros ≡ false

-- All bytes but the one at `place` are digits, whose number is a value of a type, with a minus
-- where `is_negative`.
pub record IsValueWithout (type : IntegerType) (is_negative : Bool) (place : ℕ) (bytes : List ℕ)
    (value : ℤ) : Type 0 where
  pub number : ℕ
  pub joined : IsJoined (without place bytes) number
  pub worth : value ≡ with_sign is_negative number
  pub fits : IsNumber type value

-- The point stands in bytes with `count` of them behind it, at least one, and at least one before it.
pub record HasPoint (fixed : Fixed) (bytes : List ℕ) (count : ℕ) : Type 0 where
  pub behind : 1 ≤ count
  pub before : count + 2 ≤ length bytes
  pub point : are_same (Some fixed.point) (slice_get bytes (length bytes - 1 - count)) ≡ true

-- A value is the number of the digits around a point, or of digits alone, in units of the last place.
pub record IsInUnits (fixed : Fixed) (type : IntegerType) (is_negative : Bool) (bytes : List ℕ)
    (value : ℤ) : Type 0 where
  pub count : ℕ
  pub number : ℕ
  pub parted : IsParted fixed bytes count
  pub joined : IsJoined (without_point count bytes) number
  pub worth : value ≡ with_sign is_negative (number * 10 ^ (fixed.places - count))
  pub fits : IsNumber type value
