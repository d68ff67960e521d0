-- What the steps on four and on eight lanes add up to: for `lanes`.
use Rattle.std.proofs.Common.{◌≡◌, ℕ, ◌-◌, ◌*◌, ◌≤◌, true, List, [], ◌∷◌, length, map, Some, None, if◌then◌else◌, ap, ◌∙◌, arith}
use Rattle.std.proofs.Math.Nat.{mul-le-mul_right}
use Rattle.std.proofs.lemmas.List.{take_all, length-map}
use Rattle.std.specs.Simd.Lanes.{chunk}
use Rattle.lexical_digits.specs.Lanes.{are_digit_lanes, pairs_of}
use Rattle.lexical_digits.specs.Words.{word_value}
use Rattle.lexical_digits.proofs.LanePairs.{joined_thrice, joined_twice}

pub square : (a : ℕ) → a ≤ 100 → a * a ≤ 10000
square a h = let m : a * a ≤ 100 * a = mul-le-mul_right a h in omega arith

pub small_square : (a : ℕ) → a ≤ 10 → a * a ≤ 100
small_square a h = let m : a * a ≤ 10 * a = mul-le-mul_right a h in omega arith

whole : (w : List ℕ) → length w ≡ 8 → chunk 0 8 w ≡ w
whole w e = take_all 8 w (omega arith)

half : (w : List ℕ) → length w ≡ 4 → chunk 0 4 w ≡ w
half w e = take_all 4 w (omega arith)

pub lanes_value : (r v : ℕ) (w digits pairs fours : List ℕ) → length w ≡ 8 → are_digit_lanes r (chunk 0 8 w) ≡ true
    → digits ≡ map (λ b. b - 48) (chunk 0 8 w) → pairs ≡ pairs_of r digits → fours ≡ pairs_of (r * r) pairs → v ∷ [] ≡ pairs_of (r * r * (r * r)) fours
    → Some v ≡ (if are_digit_lanes r w then Some (word_value r w) else None)
lanes_value r v w digits pairs fours long test d p f e =
    let all : are_digit_lanes r w ≡ true = rw (whole w long) at test in
    let ds : digits ≡ map (λ b. b - 48) w = rw (whole w long) at d in
    let last : v ∷ [] ≡ pairs_of (r * r * (r * r)) (pairs_of (r * r) (pairs_of r (map (λ b. b - 48) w))) =
    e ∙ ap (λ l. pairs_of (r * r * (r * r)) l) (f ∙ ap (λ l. pairs_of (r * r) l) (p ∙ ap (λ l. pairs_of r l) ds)) in
    rw all (ap Some (joined_thrice r v (map (λ b. b - 48) w) (rw length-map long) last))

pub half_lanes_value : (r v : ℕ) (w digits pairs : List ℕ) → length w ≡ 4 → are_digit_lanes r (chunk 0 4 w) ≡ true
    → digits ≡ map (λ b. b - 48) (chunk 0 4 w) → pairs ≡ pairs_of r digits → v ∷ [] ≡ pairs_of (r * r) pairs
    → Some v ≡ (if are_digit_lanes r w then Some (word_value r w) else None)
half_lanes_value r v w digits pairs long test d p e =
    let all : are_digit_lanes r w ≡ true = rw (half w long) at test in
    let ds : digits ≡ map (λ b. b - 48) w = rw (half w long) at d in
    let last : v ∷ [] ≡ pairs_of (r * r) (pairs_of r (map (λ b. b - 48) w)) = e ∙ ap (λ l. pairs_of (r * r) l) (p ∙ ap (λ l. pairs_of r l) ds) in
    rw all (ap Some (joined_twice r v (map (λ b. b - 48) w) (rw length-map long) last))
