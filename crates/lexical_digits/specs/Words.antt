-- A machine word as text: its bytes, and the number that its digits write.
use Rattle.std.specs.Prelude.{ℕ, zero, suc, ◌-◌, ◌/◌, ◌%◌, List, [], ◌∷◌, map, IsSome}
use Rattle.std.specs.List.{AllByRecursion}
use Rattle.lexical_util.specs.Ascii.{digit_zero}
use Rattle.lexical_util.specs.Digit.{digit}
use Rattle.lexical_digits.specs.Value.{positional_value}

-- the lowest `count` bytes of a word, the lowest first
abbrev pub word_bytes : ℕ → ℕ → List ℕ
word_bytes zero word = []
word_bytes (suc count) word = word % 256 ∷ word_bytes count (word / 256)

-- each byte is a digit of the radix
abbrev pub AreDigits : ℕ → List ℕ → Type 0
AreDigits radix bytes = AllByRecursion (λ byte. IsSome (digit radix byte)) bytes

-- the number that ASCII digits write, the first worth the most: `0` is byte 48
abbrev pub word_value : ℕ → List ℕ → ℕ
word_value radix bytes = positional_value radix (map (λ byte. byte - digit_zero) bytes)
