-- Numbers that a text writes, and how many bytes of it are their digits.
use Rattle.std.specs.Prelude.{◌≡◌, ◌+◌, ◌*◌, ◌<◌, ◌≤◌, ◌^◌, ℕ, Bool, if◌then◌else◌, List, [], ◌∷◌, length, get_or, map, take, Some, IsNone, ℤ, pos, neg_ℤ}
use Rattle.lexical_util.specs.Digit.{digit}
use Rattle.lexical_util.specs.Number.{IntegerType, IsNumber}
use Rattle.lexical_digits.specs.Value.{positional_value}
use Rattle.lexical_digits.specs.Words.{AreDigits, word_value}

-- the number that bytes make, the first worth the least
abbrev pub bytes_number : List ℕ → ℕ
bytes_number [] = 0
bytes_number (byte ∷ bytes) = byte + 256 * bytes_number bytes

-- the bytes with something added to the first
abbrev pub with_more : ℕ → List ℕ → List ℕ
with_more more [] = []
with_more more (byte ∷ bytes) = (byte + more) ∷ bytes

-- The digits of a text, after `more` is added to its first byte, write a number.
pub record WritesDecimal (more : ℕ) (text : List ℕ) (number : ℕ) : Type 0 where
  pub digits : AreDigits 10 (with_more more text)
  pub worth : number ≡ word_value 10 (with_more more text)

-- A text begins with `count` digits, which write a number, and no digit follows them among its
-- first eight bytes.
pub record WritesFirst (text : List ℕ) (number count : ℕ) : Type 0 where
  pub few : count ≤ 8
  pub within : count ≤ length text
  pub writes : WritesDecimal 0 (take count text) number
  pub stops : count < 8 → count < length text → IsNone (digit 10 (get_or text count 0))

-- The first `count` bytes of a text are digits of the radix, and write a number.
pub record WritesFront (radix : ℕ) (text : List ℕ) (count : ℕ) (number : ℤ) : Type 0 where
  pub values : List ℕ
  pub digits : map (λ byte. digit radix byte) (take count text) ≡ map Some values
  pub worth : number ≡ pos (positional_value radix values)
  pub below : positional_value radix values < radix ^ count

-- The digits of a text in a radix stand for a number of a type, with a minus where `is_negative`.
pub record StandsFor (type : IntegerType) (radix : ℕ) (is_negative : Bool) (text : List ℕ)
    (value : ℤ) : Type 0 where
  pub magnitude : ℤ
  pub writes : WritesFront radix text (length text) magnitude
  pub worth : value ≡ (if is_negative then neg_ℤ magnitude else magnitude)
  pub fits : IsNumber type value
