-- Which lanes are digits, and what they are worth: for `lanes`.
use Rattle.std.proofs.Common.{◌≡◌, ℕ, ◌-◌, ◌<◌, ◌≤◌, true, List, [], ◌∷◌, map, ap, arith, is_some, refl}
use Rattle.std.specs.Simd.Lanes.{Each1}
use Rattle.lexical_digits.specs.Lanes.{are_digit_lanes}
use Rattle.lexical_digits.specs.Words.{AreDigits}
use Rattle.lexical_digits.proofs.AsciiDigits.{IsAsciiDigit, digit_from, digit_to}
use Rattle.std.proofs.lemmas.Bool.Decides.{nat_tests}

first : (r b : ℕ) (bs : List ℕ) → are_digit_lanes r (b ∷ bs) ≡ true → (b - 48 < r) × (are_digit_lanes r bs ≡ true)
first r b bs e = grind (arith, nat_tests)

pub digits_below : (r : ℕ) (bs : List ℕ) → are_digit_lanes r bs ≡ true → Each1 (λ d. d < r) (map (λ b. b - 48) bs)
digits_below r [] e = tt
digits_below r (b ∷ bs) e =
    let one = first r b bs e in
    (one.0, digits_below r bs one.1)

above : (r b : ℕ) (bs : List ℕ) → are_digit_lanes r (b ∷ bs) ≡ true → 48 ≤ b
above r b bs e = grind (arith, nat_tests)

pub bytes_above : (r : ℕ) (bs : List ℕ) → are_digit_lanes r bs ≡ true → Each1 (λ b. 48 ≤ b) bs
bytes_above r [] e = tt
bytes_above r (b ∷ bs) e =
    let one = first r b bs e in
    (above r b bs e, bytes_above r bs one.1)

-- the lanes are digits of the radix
digit_of : (r b : ℕ) (bs : List ℕ) → are_digit_lanes r (b ∷ bs) ≡ true → IsAsciiDigit r b
digit_of r b bs e = grind (arith, nat_tests)

pub digits_from_lanes : (r : ℕ) (bs : List ℕ) → r ≤ 10 → are_digit_lanes r bs ≡ true → AreDigits r bs
digits_from_lanes r [] ten e = tt
digits_from_lanes r (b ∷ bs) ten e = (ap is_some (digit_from r b (digit_of r b bs e) ten), digits_from_lanes r bs ten (first r b bs e).1)

lane_of : (r b : ℕ) (bs : List ℕ) → IsAsciiDigit r b → are_digit_lanes r bs ≡ true → are_digit_lanes r (b ∷ bs) ≡ true
lane_of r b bs d e = let low = d.0 in let high = d.1 in grind (arith, nat_tests)

pub lanes_from_digits : (r : ℕ) (bs : List ℕ) → r ≤ 10 → AreDigits r bs → are_digit_lanes r bs ≡ true
lanes_from_digits r [] ten d = refl
lanes_from_digits r (b ∷ bs) ten d = lane_of r b bs (digit_to r b d.0 ten) (lanes_from_digits r bs ten d.1)
