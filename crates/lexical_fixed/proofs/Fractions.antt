-- The digits of a fraction, and how many they are.
use Rattle.std.proofs.Common.{◌≡◌, ℕ, zero, suc, ◌+◌, ◌-◌, ◌≤◌, ◌&&◌, Bool, true, false, cond, List, [], ◌∷◌, length, take, drop, Some, is_some, refl, ap, ◌∙◌, arith}
use Rattle.std.specs.Prelude.{min, nat_lt, slice_get, slice_range}
use Rattle.std.specs.List.{prefix_len}
use Rattle.std.proofs.Math.Nat.{min-eq_left, min-eq_right, min-le_left, min-le_right}
use Rattle.std.proofs.lemmas.Bool.{le-ltb, lt-ltb}
use Rattle.lexical_util.specs.Digit.{digit}
use Rattle.lexical_digits.specs.Words.{AreDigits}
use Rattle.lexical_digits.proofs.WordsInFront.{rest_is}
use Rattle.lexical_parse_integer.specs.Runs.{are_same}
use Rattle.lexical_fixed.specs.Fixed.{Fixed}
use Rattle.lexical_fixed.specs.Fraction.{digits_from, fraction, fraction_length, has_point_at, is_cut}

-- where a text begins with at least `n` digits, its first `n` bytes are digits
pub digits_taken : (n : ℕ) (bytes : List ℕ) → n ≤ prefix_len (λ byte. is_some (digit 10 byte)) bytes → AreDigits 10 (take n bytes)
digits_taken zero bytes few = tt
digits_taken (suc n) [] few = absurd (omega arith)
digits_taken (suc n) (b ∷ bs) few = by_test (is_some (digit 10 b)) refl few (digits_taken n bs)
  where
    by_test : (t : Bool) → is_some (digit 10 b) ≡ t → suc n ≤ cond t (1 + prefix_len (λ byte. is_some (digit 10 byte)) bs) 0
        → (n ≤ prefix_len (λ byte. is_some (digit 10 byte)) bs → AreDigits 10 (take n bs)) → AreDigits 10 (b ∷ take n bs)
    by_test true e few more = (e, more (omega arith))
    by_test false e few more = absurd (omega arith)

pub prefix_within : (bytes : List ℕ) → prefix_len (λ byte. is_some (digit 10 byte)) bytes ≤ length bytes
prefix_within [] = omega arith
prefix_within (b ∷ bs) = by_test (is_some (digit 10 b)) (prefix_within bs)
  where
    by_test : (t : Bool) → prefix_len (λ byte. is_some (digit 10 byte)) bs ≤ length bs → cond t (1 + prefix_len (λ byte. is_some (digit 10 byte)) bs) 0 ≤ length (b ∷ bs)
    by_test true rest = omega arith
    by_test false rest = omega arith

and_no : (a : Bool) → (a && false) ≡ false
and_no true = refl
and_no false = refl

-- without a point nothing is cut, and there is no fraction
pub uncut_without : (f : Fixed) (text : List ℕ) (place : ℕ) → are_same (Some f.point) (slice_get text place) ≡ false → nat_lt f.places 0 ≡ is_cut f text place
unfolding is_cut
uncut_without f text place none = le-ltb f.places 0 (omega arith) ∙ rw none refl

pub none_without : (f : Fixed) (text : List ℕ) (place : ℕ) → are_same (Some f.point) (slice_get text place) ≡ false → min f.places 0 ≡ fraction_length f text place
unfolding fraction_length has_point_at
none_without f text place none = rw (none, and_no (nat_lt 0 f.places)) (min-eq_right (omega arith))

-- behind a point stand the digits that are counted there
counted_there : (text : List ℕ) (place n : ℕ) → n ≡ digits_from (slice_range text (place + 1) (length text)) 0 → n ≡ digits_from text (place + 1)
unfolding digits_from
counted_there text place n is = is ∙ ap (λ (bytes : List ℕ). prefix_len (λ byte. is_some (digit 10 byte)) bytes) (rest_is text (place + 1))

-- more of them than there are places are cut
pub cut_behind : (f : Fixed) (text : List ℕ) (place n : ℕ) → are_same (Some f.point) (slice_get text place) ≡ true → n ≡ digits_from (slice_range text (place + 1) (length text)) 0 → nat_lt f.places n ≡ is_cut f text place
unfolding is_cut
cut_behind f text place n some is = rw some (ap (nat_lt f.places) (counted_there text place n is))

-- and as many as there are places are the fraction
pub count_behind : (f : Fixed) (text : List ℕ) (place n : ℕ) → are_same (Some f.point) (slice_get text place) ≡ true → n ≡ digits_from (slice_range text (place + 1) (length text)) 0 → min f.places n ≡ fraction_length f text place
unfolding fraction_length has_point_at
count_behind f text place n some is = rw some (by_places f.places (ap (min f.places) (counted_there text place n is)))
  where
    by_places : (places : ℕ) → min places n ≡ min places (digits_from text (place + 1)) → min places n ≡ cond (nat_lt 0 places && true) (min places (digits_from text (place + 1))) 0
    by_places zero same = min-eq_left (omega arith)
    by_places (suc m) same = rw (lt-ltb 0 (suc m) (omega arith)) same

-- the digits of a fraction
pub fraction_digits : (f : Fixed) (text : List ℕ) (place : ℕ) → AreDigits 10 (fraction f text place)
unfolding fraction_length digits_from
fraction_digits f text place = by_test (has_point_at f text place)
  where
    by_test : (t : Bool) → AreDigits 10 (take (cond t (min f.places (prefix_len (λ byte. is_some (digit 10 byte)) (drop (place + 1) text))) 0) (drop (place + 1) text))
    by_test true = digits_taken _ (drop (place + 1) text) (min-le_right f.places (prefix_len (λ byte. is_some (digit 10 byte)) (drop (place + 1) text)))
    by_test false = tt

-- the `count` bytes behind the point are the fraction
pub fraction_there : (f : Fixed) (text : List ℕ) (place count : ℕ) → count ≡ fraction_length f text place → slice_range text (place + 1) (place + 1 + count) ≡ fraction f text place
fraction_there f text place count is =
    let size : place + 1 + count - (place + 1) ≡ count = omega arith in
    ap (λ n. take n (drop (place + 1) text)) (size ∙ is)

-- a fraction has no more digits than there are places
pub places_most : (f : Fixed) (text : List ℕ) (place : ℕ) → fraction_length f text place ≤ f.places
unfolding fraction_length
places_most f text place = by_test (has_point_at f text place)
  where
    by_test : (t : Bool) → cond t (min f.places (digits_from text (place + 1))) 0 ≤ f.places
    by_test true = min-le_left f.places (digits_from text (place + 1))
    by_test false = omega arith
