-- Digits joined in pairs have the value that they had: for `lanes`.
use Rattle.std.proofs.Common.{◌≡◌, ℕ, suc, ◌+◌, ◌-◌, ◌*◌, ◌^◌, ◌<◌, ◌≤◌, List, [], ◌∷◌, length, refl, ap, sym, ◌∙◌, arith}
use Rattle.std.proofs.Math.Nat.{pow-suc, mul-le-mul_right}
use native.Mathlib.Numerals.{unary_clauses}
use Rattle.std.specs.Int.Digits.{number_from_digits_after}
use Rattle.std.specs.Simd.Lanes.{Each1}
use Rattle.lexical_digits.specs.Lanes.{pairs_of}
use Rattle.lexical_digits.specs.Value.{positional_value}

-- the sum by places, read from the left
pub from_left : (r acc : ℕ) (ds : List ℕ) → acc * r ^ length ds + positional_value r ds ≡ number_from_digits_after r acc ds
from_left r acc [] = simp unary_clauses (omega arith)
from_left r acc (d ∷ ds) =
    let step : acc * r ^ suc (length ds) ≡ acc * r * r ^ length ds = rw pow-suc (omega arith) in
    let ih : (acc * r + d) * r ^ length ds + positional_value r ds ≡ number_from_digits_after r (acc * r + d) ds = from_left r (acc * r + d) ds in
    rw step (omega (arith, ih))

pub same_joined : (r acc n : ℕ) (ds : List ℕ) → length ds ≡ n + n → number_from_digits_after r acc ds ≡ number_from_digits_after (r * r) acc (pairs_of r ds)
same_joined r acc n [] e = refl
same_joined r acc n (a ∷ []) e = absurd (omega arith)
same_joined r acc n (a ∷ b ∷ ds) e =
    let same : (acc * r + a) * r + b ≡ acc * (r * r) + (a * r + b) = omega arith in
    rw same (same_joined r (acc * (r * r) + (a * r + b)) (n - 1) ds (omega arith))

pub length-joined : (r n : ℕ) (ds : List ℕ) → length ds ≡ n + n → length (pairs_of r ds) ≡ n
length-joined r n [] e = omega arith
length-joined r n (a ∷ []) e = absurd (omega arith)
length-joined r n (a ∷ b ∷ ds) e = let ih : length (pairs_of r ds) ≡ n - 1 = length-joined r (n - 1) ds (omega arith) in omega arith

pair_below : (r a b : ℕ) → a < r → b < r → a * r + b < r * r
pair_below r a b la lb = let m : suc a * r ≤ r * r = mul-le-mul_right r la in omega arith

pub joined_below : (r : ℕ) (ds : List ℕ) → Each1 (λ d. d < r) ds → Each1 (λ p. p < r * r) (pairs_of r ds)
joined_below r [] all = tt
joined_below r (a ∷ []) all = tt
joined_below r (a ∷ b ∷ ds) all = (pair_below r a b all.0 all.1.0, joined_below r ds all.1.1)

-- the three joins of eight digits
pub joined_thrice : (r v : ℕ) (ds : List ℕ) → length ds ≡ 8 → v ∷ [] ≡ pairs_of (r * r * (r * r)) (pairs_of (r * r) (pairs_of r ds)) → v ≡ positional_value r ds
joined_thrice r v ds long e =
    let one = same_joined r 0 4 ds long in
    let l1 : length (pairs_of r ds) ≡ 4 = length-joined r 4 ds long in
    let two = same_joined (r * r) 0 2 (pairs_of r ds) l1 in
    let l2 : length (pairs_of (r * r) (pairs_of r ds)) ≡ 2 = length-joined (r * r) 2 (pairs_of r ds) l1 in
    let three = same_joined (r * r * (r * r)) 0 1 (pairs_of (r * r) (pairs_of r ds)) l2 in
    let all : number_from_digits_after (r * r * (r * r) * (r * r * (r * r))) 0 (v ∷ []) ≡ 0 * r ^ length ds + positional_value r ds =
    sym (from_left r 0 ds ∙ one ∙ two ∙ three ∙ ap (λ l. number_from_digits_after (r * r * (r * r) * (r * r * (r * r))) 0 l) (sym e)) in
    omega (arith, all)

-- the two joins of four digits
pub joined_twice : (r v : ℕ) (ds : List ℕ) → length ds ≡ 4 → v ∷ [] ≡ pairs_of (r * r) (pairs_of r ds) → v ≡ positional_value r ds
joined_twice r v ds long e =
    let one = same_joined r 0 2 ds long in
    let l1 : length (pairs_of r ds) ≡ 2 = length-joined r 2 ds long in
    let two = same_joined (r * r) 0 1 (pairs_of r ds) l1 in
    let all : number_from_digits_after (r * r * (r * r)) 0 (v ∷ []) ≡ 0 * r ^ length ds + positional_value r ds =
    sym (from_left r 0 ds ∙ one ∙ two ∙ ap (λ l. number_from_digits_after (r * r * (r * r)) 0 l) (sym e)) in
    omega (arith, all)
