-- Fractions that are read at once, and what behind them the number in units is: for the quick way.
use Rattle.std.proofs.Common.{◌≡◌, ℕ, zero, suc, ◌+◌, ◌-◌, ◌^◌, ◌≤◌, ◌<◌, Bool, true, false, cond, not, ◌&&◌, List, length, take, drop, Some, None, Ok, refl, sym, ap, subst, ◌∙◌, arith, ◌⊎◌, inl, inr}
use Rattle.std.proofs.Math.IntN.{ℤ, pos}
use Rattle.std.proofs.Math.Nat.{min-eq_right}
use Rattle.std.specs.Prelude.{◌==◌, min, nat_lt, slice_get, slice_range}
use Rattle.std.proofs.lemmas.Bool.{lt-ltb, le-ltb}
use Rattle.std.proofs.lemmas.Bool.Decides.{nat_tests}
use Rattle.std.proofs.lemmas.List.{length-take-le}
use Rattle.lexical_util.specs.Number.{HasSign, IntegerType, is_number, mul_add}
use Rattle.lexical_digits.specs.Words.{AreDigits, word_value}
use Rattle.lexical_digits.specs.WrittenNumbers.{WritesFirst}
use Rattle.lexical_digits.proofs.WordsInFront.{rest_is}
use Rattle.lexical_digits.proofs.WordsOfDigits.{raised_none}
use Rattle.lexical_parse_integer.specs.Runs.{are_same}
use Rattle.lexical_fixed.specs.Fixed.{Fixed}
use Rattle.lexical_fixed.specs.Fraction.{digits_from, fraction, fraction_length, front_end, has_point_at, is_cut, lacks_places, whole_end, with_digits, with_zeros, zeros_fault}
use Rattle.lexical_fixed.specs.Grammar.{front_behind, integer_part, is_negative, partial_fixed, units_behind}
use Rattle.lexical_fixed.specs.Quick.{IsFraction}
use Rattle.lexical_fixed.proofs.Digits.{with_digits-sign}
use Rattle.lexical_fixed.proofs.QuickDigits.{joined_is, no_digits_fault, no_zeros, no_zeros_fault, prefix_is, zeros_joined}

-- ---- the fraction

and_no : (a : Bool) → (a && false) ≡ false
and_no true = refl
and_no false = refl

-- where no point stands there is no fraction
pub no_point : (f : Fixed) (text : List ℕ) (place : ℕ) → are_same (Some f.point) (slice_get text place) ≡ false → IsFraction f text place 0 0
unfolding has_point_at fraction_length is_cut front_end whole_end
no_point f text place none =
    let point : has_point_at f text place ≡ false = rw none (and_no (nat_lt 0 f.places)) in
    let count : fraction_length f text place ≡ 0 = rw point refl in
    record {
      few = omega arith;
      counted = count;
      size = ap (λ n. length (take n (drop (place + 1) text))) count;
      worth = sym (ap (λ n. word_value 10 (take n (drop (place + 1) text))) count);
      small = omega arith;
      uncut = rw none refl;
      ends = rw point (by_test (f.takes_fewer));
    }
  where
    by_test : (x : Bool) → cond (x && true) place place ≡ place
    by_test true = refl
    by_test false = refl

-- nor is there one where no digit stands behind the point, if fewer places are taken
pub no_digits : (f : Fixed) (text : List ℕ) (place number : ℕ) → are_same (Some f.point) (slice_get text place) ≡ true → WritesFirst (slice_range text (place + 1) (length text)) number 0
    → f.takes_fewer ≡ true → IsFraction f text place 0 0
unfolding has_point_at fraction_length is_cut front_end whole_end digits_from
no_digits f text place number some first takes =
    let w : WritesFirst (drop (place + 1) text) number 0 = subst (λ (bytes : List ℕ). WritesFirst bytes number 0) (rest_is text (place + 1)) first in
    let found : digits_from text (place + 1) ≡ 0 = prefix_is (drop (place + 1) text) 0 w.within tt (w.stops (omega arith)) in
    let counted : fraction_length f text place ≡ 0 = by_test (has_point_at f text place) found in
    record {
      few = omega arith;
      counted = counted;
      size = ap (λ n. length (take n (drop (place + 1) text))) counted;
      worth = sym (ap (λ n. word_value 10 (take n (drop (place + 1) text))) counted);
      small = omega arith;
      uncut = rw some (ap (nat_lt f.places) found ∙ le-ltb f.places 0 (omega arith));
      ends = rw counted (rw takes refl);
    }
  where
    by_test : (b : Bool) → digits_from text (place + 1) ≡ 0 → cond b (min f.places (digits_from text (place + 1))) 0 ≡ 0
    by_test true found = ap (min f.places) found ∙ min-eq_right (omega arith)
    by_test false found = refl

-- a few digits behind the point, and none behind them
pub few_digits : (f : Fixed) (text : List ℕ) (place number count : ℕ) → are_same (Some f.point) (slice_get text place) ≡ true → WritesFirst (slice_range text (place + 1) (length text)) number count
    → 1 ≤ count → count < 8 → count ≤ f.places → number < 100000000 → IsFraction f text place number count
unfolding has_point_at fraction_length is_cut front_end whole_end digits_from
few_digits f text place number count some first more few room small =
    let rest : slice_range text (place + 1) (length text) ≡ drop (place + 1) text = rest_is text (place + 1) in
    let w : WritesFirst (drop (place + 1) text) number count = subst (λ (bytes : List ℕ). WritesFirst bytes number count) rest first in
    let same = raised_none (take count (drop (place + 1) text)) in
    let digits : AreDigits 10 (take count (drop (place + 1) text)) = subst (λ (bytes : List ℕ). AreDigits 10 bytes) same w.writes.digits in
    let found : digits_from text (place + 1) ≡ count = prefix_is (drop (place + 1) text) count w.within digits (w.stops few) in
    let places : nat_lt 0 f.places ≡ true = lt-ltb 0 f.places (omega arith) in
    let point : has_point_at f text place ≡ true = rw (places, some) refl in
    let counted : fraction_length f text place ≡ count = rw point (ap (min f.places) found ∙ min-eq_right room) in
    let none : (count == 0) ≡ false = some_count count more in
    record {
      few = few;
      counted = counted;
      size = ap (λ n. length (take n (drop (place + 1) text))) counted ∙ length-take-le count (drop (place + 1) text) w.within;
      worth = w.writes.worth ∙ ap (word_value 10) same ∙ sym (ap (λ n. word_value 10 (take n (drop (place + 1) text))) counted);
      small = small;
      uncut = rw some (ap (nat_lt f.places) found ∙ le-ltb f.places count room);
      ends = rw counted (rw (none, point) (by_test f.takes_fewer));
    }
  where
    some_count : (n : ℕ) → 1 ≤ n → (n == 0) ≡ false
    some_count zero l = absurd (omega arith)
    some_count (suc n) l = grind (arith, nat_tests)

    by_test : (x : Bool) → cond (x && false) place (place + 1 + count) ≡ place + 1 + count
    by_test true = refl
    by_test false = refl

-- ---- the number in units

-- where no place is left, or fewer are taken, no place lacks
pub lacks_none : (f : Fixed) (text : List ℕ) (place count : ℕ) → fraction_length f text place ≡ count → (f.places ≤ count) ⊎ (f.takes_fewer ≡ true) → lacks_places f text place ≡ false
unfolding lacks_places
lacks_none f text place count same (inl full) = rw (same, le-ltb count f.places full) (and_no (not f.takes_fewer))
lacks_none f text place count same (inr takes) = rw takes refl

-- behind an integer part stands the number that was joined, with the zeros that aren't written
pub front_joined : (f : Fixed) (t : IntegerType) (text : List ℕ) (whole next units : ℤ) (place number count zeros : ℕ) (b : Bool) → b ≡ is_negative t text → HasSign b whole → IsFraction f text place number count
    → next ≡ mul_add b whole (pos (10 ^ count)) (pos number) → is_number t next ≡ true → zeros ≡ f.places - count
    → (f.places ≤ count) ⊎ (f.takes_fewer ≡ true)
    → ((zeros ≡ 0) × (units ≡ next)) ⊎ ((units ≡ mul_add b next (pos (10 ^ zeros)) (pos 0)) × (is_number t units ≡ true))
    → front_behind f t text whole place ≡ Ok (units, front_end f text place)
unfolding front_behind units_behind
front_joined f t text whole next units place number count zeros b minus s x is fits left taken last =
    let ds : List ℕ = fraction f text place in
    let value : next ≡ with_digits b whole ds = joined_is b whole next ds number count x.size x.worth is in
    let inside : is_number t (with_digits b whole ds) ≡ true = ap (is_number t) (sym value) ∙ fits in
    let no_digit = no_digits_fault t b whole ds (place + 1) s inside in
    let lacks = lacks_none f text place count x.counted taken in
    let rest : f.places - fraction_length f text place ≡ zeros = ap (λ n. f.places - n) x.counted ∙ sym left in
    let sign : HasSign b (with_digits b whole ds) = with_digits-sign b whole ds s in
    let scaled = zeros_told sign value last in
    rw (sym minus, no_digit, x.uncut, lacks, rest, scaled.0) (ap (λ z. Ok (z, front_end f text place)) scaled.1)
  where
    zeros_told : HasSign b (with_digits b whole (fraction f text place)) → next ≡ with_digits b whole (fraction f text place)
        → ((zeros ≡ 0) × (units ≡ next)) ⊎ ((units ≡ mul_add b next (pos (10 ^ zeros)) (pos 0)) × (is_number t units ≡ true))
        → (zeros_fault t b (with_digits b whole (fraction f text place)) zeros (front_end f text place) ≡ None) × (with_zeros (with_digits b whole (fraction f text place)) zeros ≡ units)
    zeros_told sign value (inl none) =
        let v = with_digits b whole (fraction f text place) in
        let told = no_zeros t b v (front_end f text place) sign in
        (ap (λ n. zeros_fault t b v n (front_end f text place)) none.0 ∙ told.0, ap (with_zeros v) none.0 ∙ told.1 ∙ sym value ∙ sym none.1)
    zeros_told sign value (inr more) =
        let v = with_digits b whole (fraction f text place) in
        let same : units ≡ with_zeros v zeros = zeros_joined b v units zeros sign (more.0 ∙ ap (λ z. mul_add b z (pos (10 ^ zeros)) (pos 0)) value) in
        (no_zeros_fault t b v zeros (front_end f text place) (ap (is_number t) (sym same) ∙ more.1), sym same)

-- ---- the whole answer

-- behind a known integer part
pub partial_by_part : (f : Fixed) (t : IntegerType) (text : List ℕ) (whole : ℤ) (place : ℕ) → integer_part f.integer t text ≡ Ok (whole, place) → partial_fixed f t text ≡ front_behind f t text whole place
unfolding partial_fixed
partial_by_part f t text whole place part = rw part refl
