-- Texts of decimal digits alone or behind a minus, and the numbers that they write.
use Rattle.std.specs.Prelude.{◌≡◌, ◌≤◌, ℕ, Bool, if◌then◌else◌, List, ◌∷◌, length}
use Rattle.lexical_util.specs.Ascii.{minus}
use Rattle.lexical_digits.specs.WrittenNumbers.{WritesDecimal}

-- a text is one or more decimal digits, behind a minus where it is negative, which write the number
pub record IsNumeral (is_negative : Bool) (number : ℕ) (text : List ℕ) : Type 0 where
  pub digits : List ℕ
  pub text_is : text ≡ (if is_negative then minus ∷ digits else digits)
  pub some : 1 ≤ length digits
  pub writes : WritesDecimal 0 digits number
