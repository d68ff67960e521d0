-- The digits of a number.
use Rattle.std.specs.Prelude.{ℕ, suc, ◌+◌, ◌/◌, ◌%◌, ◌^◌, List, [], ◌∷◌, ◌++◌, map, if◌then◌else◌, ◌==◌, pos, negsuc}
use Rattle.std.specs.Int.Digits.{digits_of}
use lib.IntN.{ℤ}
use Rattle.lexical_util.specs.Ascii.{digit_zero, minus}

-- the digits of a number in radix 10 as text, the highest first, and `0` alone for 0
abbrev pub decimal_text : ℕ → List ℕ
decimal_text n = if n == 0 then digit_zero ∷ [] else map (λ d. digit_zero + d) (digits_of 10 n)

-- the decimal digits of a whole number: those of its magnitude, behind a `-` below 0
abbrev pub signed_text : ℤ → List ℕ
signed_text (pos n) = decimal_text n
signed_text (negsuc n) = minus ∷ decimal_text (suc n)

-- ---- digits of a part of a number, with zeros in front where it has fewer

-- two digits
abbrev pub two_digits : ℕ → List ℕ
two_digits n = (digit_zero + n / 10) ∷ (digit_zero + n % 10) ∷ []

-- four digits
abbrev pub four_digits : ℕ → List ℕ
four_digits n = two_digits (n / 100) ++ two_digits (n % 100)

-- eight digits
unfoldable pub eight_digits : ℕ → List ℕ
eight_digits n = four_digits (n / 10 ^ 4) ++ four_digits (n % 10 ^ 4)

-- sixteen digits
unfoldable pub sixteen_digits : ℕ → List ℕ
sixteen_digits n = eight_digits (n / 10 ^ 8) ++ eight_digits (n % 10 ^ 8)
