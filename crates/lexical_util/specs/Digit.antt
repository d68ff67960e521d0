-- Digits of a radix.
use Rattle.std.specs.Prelude.{◌+◌, ◌-◌, ◌≤◌, ℕ, Bool, ◌&&◌, Option, Some, None, if◌then◌else◌, nat_le, nat_lt}
use Rattle.lexical_util.specs.Ascii.{capital_a, capital_z, digit_nine, digit_zero, letter_a, letter_z}

-- a radix that a numeral may have
pub record IsRadix (radix : ℕ) : Type 0 where
  pub low : 2 ≤ radix
  pub high : radix ≤ 36

-- whether a byte, or another number, is from low to high, with both
abbrev pub is_between : ℕ → ℕ → ℕ → Bool
is_between low high byte = nat_le low byte && nat_le byte high

-- the value of a byte as a digit: `0` to `9` are 0 to 9, and the letters in either case 10 to 35
abbrev pub digit_value : ℕ → Option ℕ
digit_value byte =
    if is_between digit_zero digit_nine byte then Some (byte - digit_zero)
    else (if is_between letter_a letter_z byte then Some (byte - letter_a + 10)
    else (if is_between capital_a capital_z byte then Some (byte - capital_a + 10)
    else None))

-- a value, where it is below the radix
abbrev pub value_if_below : ℕ → Option ℕ → Option ℕ
value_if_below radix None = None
value_if_below radix (Some value) = if nat_lt value radix then Some value else None

-- the value of a byte, where it is a digit of the radix
abbrev pub digit : ℕ → ℕ → Option ℕ
digit radix byte = value_if_below radix (digit_value byte)
