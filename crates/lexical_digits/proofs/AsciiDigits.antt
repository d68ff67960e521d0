-- Digits of a radix up to 10, as bytes from `0` on: for words and lanes.
use Rattle.std.proofs.Common.{◌≡◌, ℕ, ◌+◌, ◌-◌, ◌*◌, ◌^◌, ◌≤◌, ◌<◌, true, List, [], ◌∷◌, length, map, is_some, Some, ap, arith, refl, ◌∙◌, suc}
use Rattle.std.specs.Prelude.{nat_lt}
use Rattle.std.specs.List.{AllByRecursion}
use Rattle.std.proofs.lemmas.Bool.{lt-ltb}
use Rattle.std.proofs.lemmas.Bool.Decides.{nat_tests}
use Rattle.std.proofs.lemmas.List.{length-map}
use Rattle.lexical_util.specs.Digit.{value_if_below, digit, digit_value}
use Rattle.lexical_digits.specs.Words.{AreDigits, word_value}
use Rattle.std.proofs.Math.Nat.{pow-zero, pow-suc, mul-le-mul_right}

-- a byte from `0` to before the radix
abbrev pub IsAsciiDigit : ℕ → ℕ → Type 0
IsAsciiDigit radix byte = (48 ≤ byte) × (byte < 48 + radix)

abbrev pub AreAsciiDigits : ℕ → List ℕ → Type 0
AreAsciiDigits radix bytes = AllByRecursion (IsAsciiDigit radix) bytes

-- what such bytes are worth
abbrev pub ascii_value : ℕ → List ℕ → ℕ
ascii_value radix [] = 0
ascii_value radix (byte ∷ bytes) = (byte - 48) * radix ^ length bytes + ascii_value radix bytes

pub digit_from : (r c : ℕ) → IsAsciiDigit r c → r ≤ 10 → digit r c ≡ Some (c - 48)
digit_from r c d ten =
    let low = d.0 in
    let high = d.1 in
    let value : digit_value c ≡ Some (c - 48) = grind (arith, nat_tests) in
    let small : nat_lt (c - 48) r ≡ true = lt-ltb (c - 48) r (omega arith) in
    ap (value_if_below r) value ∙ rw small refl

pub digit_to : (r c : ℕ) → is_some (digit r c) ≡ true → r ≤ 10 → IsAsciiDigit r c
digit_to r c t ten = grind (arith, nat_tests)

pub ascii_from_digits : (r : ℕ) (bs : List ℕ) → r ≤ 10 → AreDigits r bs → AreAsciiDigits r bs
ascii_from_digits r [] ten d = tt
ascii_from_digits r (b ∷ bs) ten d = (digit_to r b d.0 ten, ascii_from_digits r bs ten d.1)

pub digits_from_ascii : (r : ℕ) (bs : List ℕ) → r ≤ 10 → AreAsciiDigits r bs → AreDigits r bs
digits_from_ascii r [] ten d = tt
digits_from_ascii r (b ∷ bs) ten d = (ap is_some (digit_from r b d.0 ten), digits_from_ascii r bs ten d.1)

pub ascii_value_is : (r : ℕ) (bs : List ℕ) → ascii_value r bs ≡ word_value r bs
ascii_value_is r [] = refl
ascii_value_is r (b ∷ bs) =
    let size : length (map (λ byte. byte - 48) bs) ≡ length bs = length-map bs (λ byte. byte - 48) in
    let rest = ascii_value_is r bs in
    rw size (omega (arith, rest))

pub word_below : (r : ℕ) (bs : List ℕ) → AreAsciiDigits r bs → ascii_value r bs < r ^ length bs
word_below r [] d = let one = pow-zero r in omega arith
word_below r (c ∷ cs) d =
    let rest = word_below r cs d.1 in
    let low = d.0.0 in
    let high = d.0.1 in
    let power = pow-suc r (length cs) in
    let less : suc (c - 48) ≤ r = omega arith in
    let up : suc (c - 48) * r ^ length cs ≤ r * r ^ length cs = mul-le-mul_right (r ^ length cs) less in
    let spread : suc (c - 48) * r ^ length cs ≡ (c - 48) * r ^ length cs + r ^ length cs = grind arith in
    let turned : r * r ^ length cs ≡ r ^ length cs * r = grind arith in
    omega (arith, power, up, spread, turned)
