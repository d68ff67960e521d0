-- Digits around a point, before which separators may stand between them.
use Rattle.std.specs.Prelude.{◌≡◌, ◌+◌, ◌-◌, ◌≤◌, ℕ, ℤ, Bool, List, drop, false, length, take, true}
use Rattle.lexical_util.specs.Format.{Format}
use Rattle.lexical_util.specs.Number.{IntegerType, IsNumber}
use Rattle.lexical_digits.specs.Value.{positional_value, with_sign}
use Rattle.lexical_digits.specs.Words.{AreDigits}
use Rattle.lexical_parse_integer.specs.Grouped.{AreGrouped, digits_among}
use Rattle.lexical_parse_integer.specs.Plain.{keeps_zero_rule}
use Rattle.lexical_fixed.specs.Fixed.{Fixed}
use Rattle.lexical_fixed.specs.Fraction.{with_zeros}
use Rattle.lexical_fixed.specs.Quick.{without}

-- The bytes before a place are decimal digits, with separators that the format admits between them; those behind the byte
-- there are digits alone. All these digits write a number.
pub record IsAround (format : Format) (place : ℕ) (bytes : List ℕ) (number : ℕ) : Type 0 where
  pub part : AreGrouped format 10 (take place bytes)
  pub fraction : AreDigits 10 (drop (place + 1) bytes)
  pub worth : number ≡ positional_value 10 (digits_among 10 (without place bytes))

-- That number is a value of a type, with a minus where `is_negative`.
pub record IsValueAround (type : IntegerType) (is_negative : Bool) (format : Format) (place : ℕ)
    (bytes : List ℕ) (value : ℤ) : Type 0 where
  pub number : ℕ
  pub around : IsAround format place bytes number
  pub worth : value ≡ with_sign is_negative number
  pub fits : IsNumber type value

-- Digits around a point, with `count` of them behind it, in units of the last place. Those before it keep the rule on zeros,
-- and need no sign.
pub record IsShortAmount (fixed : Fixed) (type : IntegerType) (is_negative : Bool) (bytes : List ℕ)
    (count : ℕ) (value : ℤ) : Type 0 where
  pub before : count + 2 ≤ length bytes
  pub some : 1 ≤ count
  pub no_sign : fixed.integer.required_mantissa_sign ≡ false
  pub rule : keeps_zero_rule fixed.integer (take (length bytes - 1 - count) bytes) ≡ true
  pub written : ℤ
  pub around : IsValueAround type is_negative fixed.integer (length bytes - 1 - count) bytes written
  pub worth : value ≡ with_zeros written (fixed.places - count)
  pub fits : IsNumber type value
