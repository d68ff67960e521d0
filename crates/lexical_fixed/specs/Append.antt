-- Digits that are put behind a number, several at a time.
use Rattle.std.specs.Prelude.{◌≡◌, ◌≤◌, ℕ, ℤ, ◌==◌, Bool, true, if◌then◌else◌, nat_lt, List, length}
use Rattle.lexical_digits.specs.Words.{AreDigits}
use Rattle.lexical_util.specs.Number.{IntegerType, is_number}
use Rattle.lexical_fixed.specs.Fraction.{with_digits}

-- how many digits are put behind a number at once: the type has that power of ten
abbrev pub digits_at_once : IntegerType → ℕ
digits_at_once type = if nat_lt 32 type.bits then 16 else if type.bits == 32 then 9 else 2

-- Bytes are digits, and a value is a number with these behind it, which the type has.
pub record IsAppended (type : IntegerType) (is_negative : Bool) (number : ℤ) (bytes : List ℕ)
    (value : ℤ) : Type 0 where
  pub digits : AreDigits 10 bytes
  pub worth : value ≡ with_digits is_negative number bytes
  pub fits : 1 ≤ length bytes → is_number type value ≡ true
