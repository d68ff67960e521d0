-- Columns whose separator is no part of a number.
use Rattle.std.specs.Prelude.{◌≡◌, ◌≢◌, ◌==◌, ℕ, not, List, IsNone}
use Rattle.std.specs.List.{prefix_len}
use Rattle.lexical_util.specs.Ascii.{minus}
use Rattle.lexical_util.specs.Digit.{digit}
use Rattle.lexical_util.specs.Format.{Format}
use Rattle.lexical_parse_integer.specs.Plain.{IsPlain}

-- A format without punctuation in radix 10, and a separator that is neither a digit nor a minus.
pub record IsSeparated (format : Format) (separator : ℕ) : Type 0 where
  pub plain : IsPlain format
  pub decimal : format.mantissa_radix ≡ 10
  pub no_digit : IsNone (digit 10 separator)
  pub no_minus : separator ≢ minus

-- how many bytes stand before the first separator, or are in the text where it has none
abbrev pub field_length : ℕ → List ℕ → ℕ
field_length separator text = prefix_len (λ byte. not (byte == separator)) text
