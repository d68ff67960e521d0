-- Numerals under formats with punctuation: the digits of a region, with separators between them, and what they are worth.
use Rattle.std.specs.Prelude.{◌≡◌, ◌+◌, ◌-◌, ◌<◌, ℕ, ℤ, Bool, true, false, if◌then◌else◌, List, length, get_or, filter_map, is_some, Some}
use Rattle.lexical_util.specs.Digit.{digit}
use Rattle.lexical_util.specs.Format.{Format}
use Rattle.lexical_util.specs.Number.{IntegerType, IsNumber}
use Rattle.lexical_parse_integer.specs.Affixes.{suffix_at}
use Rattle.lexical_digits.specs.Value.{positional_value, with_sign}

-- whether the byte at a place is a digit of the radix
abbrev pub is_digit_in : ℕ → List ℕ → ℕ → Bool
is_digit_in radix bytes place = is_some (digit radix (get_or bytes place 0))

-- the values of the digits among bytes
abbrev pub digits_among : ℕ → List ℕ → List ℕ
digits_among radix bytes = filter_map (λ byte. digit radix byte) bytes

-- Each byte is a digit of the radix or a separator that the format admits between digits; the first byte and the last
-- are digits; and where no two separators may stand side by side, a digit follows each.
pub record AreGrouped (format : Format) (radix : ℕ) (bytes : List ℕ) : Type 0 where
  pub separators : (place : ℕ) → place < length bytes → is_digit_in radix bytes place ≡ false
      → format.digit_separator ≡ Some (get_or bytes place 0)
  pub internal : (place : ℕ) → place < length bytes → is_digit_in radix bytes place ≡ false
      → format.integer_internal_digit_separator ≡ true
  pub some : 0 < length bytes
  pub first : is_digit_in radix bytes 0 ≡ true
  pub last : is_digit_in radix bytes (length bytes - 1) ≡ true
  pub alone : format.integer_consecutive_digit_separator ≡ false → (place : ℕ)
      → place + 1 < length bytes → is_digit_in radix bytes place ≡ false
      → is_digit_in radix bytes (place + 1) ≡ true

-- The digits among bytes stand for a number of a type, with a minus where `is_negative`.
pub record AreWorth (type : IntegerType) (radix : ℕ) (is_negative : Bool) (bytes : List ℕ)
    (value : ℤ) : Type 0 where
  pub worth : value ≡ with_sign is_negative (positional_value radix (digits_among radix bytes))
  pub fits : IsNumber type value

-- where reading stops, where a numeral with a digit ends at a place: after the suffix there, or at the end
abbrev pub stop_after : Format → List ℕ → ℕ → ℕ
stop_after format text end = if suffix_at format text end then end + 1 else end
