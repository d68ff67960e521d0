-- An answer that is settled at a place is that of each text with the same bytes up to and with it: for `local`.
use Rattle.std.proofs.Common.{◌≡◌, ◌≢◌, ℕ, suc, ◌+◌, ◌<◌, ◌≤◌, Bool, false, true, cond, not, ◌&&◌, List, [], ◌∷◌, length, get_or, take, refl, sym, ap, subst, ◌∙◌, arith, Some, None, IsNone, is_some, Ok, Err, Result, inl, inr, Option}
use Rattle.std.proofs.Math.IntN.{ℤ}
use Rattle.std.proofs.Math.Bool.{and-false}
use Rattle.std.proofs.lemmas.Bool.{ne_eqb, and_cases, leb-false}
use Rattle.std.proofs.lemmas.List.{take-take}
use Rattle.std.specs.Prelude.{◌==◌, nat_le, slice_get}
use Rattle.lexical_util.specs.declared.error.Error.{Error}
use Rattle.lexical_util.specs.Format.{Format}
use Rattle.lexical_util.specs.Number.{IntegerType, is_number}
use Rattle.lexical_util.specs.Validity.{fault}
use Rattle.lexical_parse_integer.specs.Answer.{with_place, view_of}
use Rattle.lexical_parse_integer.specs.Affixes.{bare_radix, octal_zero_at, prefix_radix}
use Rattle.lexical_parse_integer.specs.Grammar.{first_outside, partial, range_error, range_fault}
use Rattle.lexical_parse_integer.specs.Head.{Head, head_behind, head_of, sign, chooses_radix}
use Rattle.lexical_parse_integer.specs.Laws.{IsLocal, IsSettledAt, SameFront}
use Rattle.lexical_parse_integer.specs.Numeral.{Numeral, digit_count, front_value}
use Rattle.lexical_digits.specs.Value.{positional_value, with_sign}
use Rattle.lexical_parse_integer.proofs.theorems.SameFronts.{Agree, agree, agree_digit, agree_inside, agree_octal, agree_prefix, agree_row, agree_sign, agree_suffix}
use Rattle.lexical_parse_integer.proofs.theorems.CompleteByPartial.{head_within, sign_within}
use Rattle.lexical_parse_integer.proofs.reading.Soundness.{none_from_IsNone}
use Rattle.lexical_parse_integer.proofs.reading.FormatBytes.{fits, fits_prefix}
use Rattle.lexical_parse_integer.proofs.grammar.DigitsInARow.{EndsRow, has_digit, row_count, row_ends}
use Rattle.lexical_parse_integer.proofs.grammar.PlaceSearch.{find_place}
use Rattle.lexical_parse_integer.proofs.reading.OctalZeros.{bare_octal, bare_own}
use Rattle.lexical_parse_integer.proofs.grammar.Stretches.{below_stop}
use Rattle.lexical_parse_integer.proofs.theorems.EqualViews.{IsInjective, view_with_place_same}
use Rattle.lexical_parse_integer.proofs.theorems.SettledAnswers.{IsReach, SettlesRow, digits_of_row, ends_low, front_of_row, has_zeros, head_behind_sign, head_row, outside_told, partial_by, partial_row, place_of_row, reach, settled_row, sign_fault_parts, zero_counts}

pair_false : (a b : Bool) → b ≡ false → (a && b) ≡ false
pair_false a b e = rw e (and-false a)

-- no zero is forbidden where the first digit is the same, and a lone digit is no zero
same_zeros : (a : Bool) (c c' d : ℕ) → ((a && nat_le 2 c) && (d == 0)) ≡ false → (c < 2 → d ≢ 0) → ((a && nat_le 2 c') && (d == 0)) ≡ false
same_zeros a c c' d h one = elim (and_cases (a && nat_le 2 c) (d == 0) h) [
  | inl left ↦ elim (and_cases a (nat_le 2 c) left) [
    | inl off ↦ rw off refl
    | inr few ↦ pair_false (a && nat_le 2 c') (d == 0) (ne_eqb d 0 (one (leb-false 2 c few)))
  ]
  | inr differ ↦ pair_false (a && nat_le 2 c') (d == 0) differ
]

first_of_front : (n : ℕ) (xs ys : List ℕ) → take (suc n) xs ≡ take (suc n) ys → get_or xs 0 0 ≡ get_or ys 0 0
first_of_front n [] [] same = refl
first_of_front n [] (y ∷ ys) same = cc
first_of_front n (x ∷ xs) [] same = cc
first_of_front n (x ∷ xs) (y ∷ ys) same = cc

-- a numeral that ends before both texts do has the same answer in both
same_faults : (f : Format) (t : IntegerType) (text other : List ℕ) (h : Head) (x : Numeral) → f.digit_separator ≡ None → h.start < length text → h.start < length other → x.stop < length text → x.stop < length other → partial_by f t other h x ≡ partial_by f t text h x
same_faults f t text other h x none a b c d =
    let start_text : (h.start == length text) ≡ false = ne_eqb h.start (length text) (λ e. omega arith) in
    let start_other : (h.start == length other) ≡ false = ne_eqb h.start (length other) (λ e. omega arith) in
    let stop_text : (x.stop == length text) ≡ false = ne_eqb x.stop (length text) (λ e. omega arith) in
    let stop_other : (x.stop == length other) ≡ false = ne_eqb x.stop (length other) (λ e. omega arith) in
    rw (none, start_text, start_other, stop_text, stop_other, and-false h.is_prefixed) refl

module _ (f : Format) (t : IntegerType) (text other : List ℕ) (k : ℕ) (h : Head) (none : f.digit_separator ≡ None) (same : Agree (k + 1) text other) where
  digit_same : (j : ℕ) → j ≤ k → has_digit h.radix other j ≡ has_digit h.radix text j
  digit_same j l = ap is_some (sym (agree_digit h.radix (k + 1) j text other same (omega arith)))

  -- the row ends at the same place
  same_ends : (count : ℕ) → EndsRow h.radix text h.start (h.start + count) → h.start + count ≤ k → k < length text → EndsRow h.radix other h.start (h.start + count)
  same_ends count ends low inside =
      let there = agree_inside (k + 1) k text other same (omega arith) inside in
      record {
        low = omega arith;
        high = omega arith;
        holds = λ j l l'. digit_same j (omega arith) ∙ ends.holds j l l';
        fails = λ l. digit_same (h.start + count) low ∙ ends.fails (omega arith);
      }

  -- where the front ends at the place
  same_value : (count : ℕ) → EndsRow h.radix text h.start (h.start + count) → (head_row f text h count).stop ≡ k → k < length text → head_of f t other ≡ Ok h → partial f t other ≡ partial_by f t text h (head_row f text h count)
  same_value count ends at inside head =
      let x : Numeral = head_row f text h count in
      let last = ends_low f text h.start count in
      let there = agree_inside (k + 1) k text other same (omega arith) inside in
      let digits = agree_row h.radix (k + 1) h.start count text other same (omega arith) in
      let suffix = agree_suffix f (k + 1) (h.start + count) text other same (omega arith) in
      let numeral : head_row f other h count ≡ x = rw (digits, suffix) refl in
      let faults : partial_by f t other h x ≡ partial_by f t text h x = same_faults f t text other h x none (omega arith) (omega arith) (omega arith) (omega arith) in
      partial_row f t other h count none head (omega arith) (same_ends count ends (omega arith) inside) ∙ ap (partial_by f t other h) numeral ∙ faults

  -- where a value leaves the type at the place
  same_fault : (count m : ℕ) → EndsRow h.radix text h.start (h.start + count) → (h.is_prefixed && (h.start == length text)) ≡ false → has_zeros f h (head_row f text h count) ≡ false →
      first_outside t h.is_negative (head_row f text h count) ≡ Some m → get_or (head_row f text h count).places m 0 ≡ k → (get_or (head_row f text h count).digits 0 0 ≡ 0 → h.start + 1 ≤ k) → head_of f t other ≡ Ok h →
      partial f t other ≡ partial_by f t text h (head_row f text h count)
  unfolding range_fault
  same_fault count m ends prefix zeros outside at deep head =
      let b : Bool = h.is_negative in
      let r : ℕ = h.radix in
      let start : ℕ = h.start in
      let x : Numeral = head_row f text h count in
      let told = outside_told t b x m outside in
      let size = digits_of_row r text start count in
      let inside : m < count = omega (arith, told.0) in
      let place : get_or x.places m 0 ≡ start + m = place_of_row start count m inside in
      let last : start + m ≡ k = omega arith in
      let there = agree_inside (k + 1) k text other same (omega arith) (omega (arith, ends.high)) in
      let count' : ℕ = row_count f h.is_prefixed r other start in
      let ends' = row_ends f h.is_prefixed r other start none (omega arith) in
      let reached : start + (m + 1) ≤ start + count' = below_stop (has_digit r other) start (length other) (start + count') (start + (m + 1)) ends' (omega arith) (λ j l l'. digit_same j (omega arith) ∙ ends.holds j (omega (arith, ends'.low)) (omega arith)) in
      let y : Numeral = head_row f other h count' in
      let size' = digits_of_row r other start count' in
      let place' : get_or y.places m 0 ≡ start + m = place_of_row start count' m (omega arith) in
      let digits : take (m + 1) y.digits ≡ take (m + 1) x.digits = front_of_row r other start (m + 1) count' (omega arith) ∙ sym (agree_row r (k + 1) start (m + 1) text other same (omega arith)) ∙ sym (front_of_row r text start (m + 1) count (omega arith)) in
      let shorter : (j : ℕ) → j ≤ m → take (j + 1) y.digits ≡ take (j + 1) x.digits = λ j l. sym (take-take (j + 1) (m + 1) y.digits (omega arith)) ∙ ap (take (j + 1)) digits ∙ take-take (j + 1) (m + 1) x.digits (omega arith) in
      let fronts : (j : ℕ) → j ≤ m → is_number t (front_value b y (j + 1)) ≡ is_number t (front_value b x (j + 1)) = λ j l. ap (λ (ds : List ℕ). is_number t (with_sign b (positional_value r ds))) (shorter j l) in
      let outside' : first_outside t b y ≡ Some m = find_place (λ j. not (is_number t (front_value b y (j + 1)))) 0 (digit_count y) m m (omega arith) (omega arith) (λ j low high. ap not (fronts j (omega arith) ∙ told.2 j high)) (ap not (fronts m (omega arith) ∙ told.1)) in
      let more : m + 1 ≡ suc m = omega arith in
      let digits' : take (suc m) y.digits ≡ take (suc m) x.digits = rw more at digits in
      let first : get_or y.digits 0 0 ≡ get_or x.digits 0 0 = first_of_front m y.digits x.digits digits' in
      let prefix' : (h.is_prefixed && (start == length other)) ≡ false = pair_false h.is_prefixed (start == length other) (ne_eqb start (length other) (λ e. omega arith)) in
      let zeros_x : (((f.no_integer_leading_zeros && not (chooses_radix h)) && nat_le 2 (digit_count y)) && (get_or x.digits 0 0 == 0)) ≡ false =
      same_zeros (f.no_integer_leading_zeros && not (chooses_radix h)) (digit_count x) (digit_count y) (get_or x.digits 0 0) zeros (λ one is. let far = deep is in absurd (omega arith)) in
      let zeros' : (((f.no_integer_leading_zeros && not (chooses_radix h)) && nat_le 2 (digit_count y)) && (get_or y.digits 0 0 == 0)) ≡ false =
      ap (λ (d : ℕ). ((f.no_integer_leading_zeros && not (chooses_radix h)) && nat_le 2 (digit_count y)) && (d == 0)) first ∙ zeros_x in
      let left : partial_by f t other h y ≡ Err (range_error b (get_or y.places m 0)) = rw (prefix', zeros', outside') refl in
      let right : partial_by f t text h x ≡ Err (range_error b (get_or x.places m 0)) = rw (prefix, zeros, outside) refl in
      partial_row f t other h count' none head (omega arith) ends' ∙ left ∙ ap (λ (j : ℕ). Err (range_error b j)) (place' ∙ sym place) ∙ sym right

  -- where the head is the same
  same_answer : (count : ℕ) → EndsRow h.radix text h.start (h.start + count) → SettlesRow f t text h (head_row f text h count) k → IsReach h.radix text h.start count k → head_of f t other ≡ Ok h →
      partial f t other ≡ partial_by f t text h (head_row f text h count)
  same_answer count ends (inl w) far head = same_value count ends w.4 w.5 head
  same_answer count ends (inr w) far head =
      let told = outside_told t h.is_negative (head_row f text h count) w.0 w.3 in
      let size = digits_of_row h.radix text h.start count in
      same_fault count w.0 ends w.1 w.2 w.3 w.4 (far.deep (omega (arith, told.0))) head

-- where an answer is settled, the sign stands before; a zero behind it too
sign_reach : (f : Format) (text : List ℕ) (s : Bool × ℕ) (p : Option ℕ) (count k : ℕ) → 2 ≤ (head_behind f text s p).radix → (let h = head_behind f text s p in EndsRow h.radix text h.start (h.start + count)) → (let h = head_behind f text s p in IsReach h.radix text h.start count k) → (s.1 ≤ k) × (slice_get text s.1 ≡ Some 48 → s.1 + 1 ≤ k)
sign_reach f text s (Some r) count k radix ends far = let low = far.low in (omega arith, λ byte. omega arith)
sign_reach f text s None count k radix ends far =
    let low = far.low in
    (omega arith, λ byte. let first = zero_counts (bare_radix f text s.1) text s.1 count radix byte ends in let deep = far.deep first.0 first.1 in omega arith)

-- each effective radix is at least 2
radix_least : (f : Format) (text : List ℕ) (s : Bool × ℕ) (p : Option ℕ) → IsNone (fault f) → prefix_radix f text s.1 ≡ p → 2 ≤ (head_behind f text s p).radix
radix_least f text s None valid e = by_zero (octal_zero_at f text s.1) refl
  where
    by_zero : (octal : Bool) → octal_zero_at f text s.1 ≡ octal → 2 ≤ bare_radix f text s.1
    by_zero true o = subst (λ (r : ℕ). 2 ≤ r) (sym (bare_octal f text s.1 o)) (omega arith)
    by_zero false o = subst (λ (r : ℕ). 2 ≤ r) (sym (bare_own f text s.1 o)) (fits f valid).is_radix.low
radix_least f text s (Some r) valid e = (fits_prefix f text s.1 r valid e).is_radix.low

-- a head hangs on the text by its octal zero alone
same_head : (f : Format) (text other : List ℕ) (s : Bool × ℕ) (p : Option ℕ) → octal_zero_at f other s.1 ≡ octal_zero_at f text s.1 → head_behind f other s p ≡ head_behind f text s p
same_head f text other s None same = ap (λ (o : Bool). record { is_negative = s.0; is_prefixed = false; is_octal = o; start = s.1; radix = cond o 8 f.mantissa_radix }) same
same_head f text other s (Some r) same = refl

local_by : (f : Format) (t : IntegerType) → f.digit_separator ≡ None → IsNone (fault f) → IsLocal f t
local_by f t none valid text other k settled front = by_sign (sign f t text) refl
  where
    same : Agree (k + 1) text other
    same = agree (k + 1) text other front

    sign_same : sign f t other ≡ sign f t text
    sign_same = sym (agree_sign f t (k + 1) text other same (omega arith))

    by_sign : (r : Result (Bool × ℕ) Error) → sign f t text ≡ r → partial f t other ≡ partial f t text
    by_sign (Err e) faulty = sign_fault_parts f t other e (sign_same ∙ faulty) ∙ sym (sign_fault_parts f t text e faulty)
    by_sign (Ok s) with_sign =
        let p : Option ℕ = prefix_radix f text s.1 in
        let h : Head = head_behind f text s p in
        let low : h.start ≤ length text = head_within f text s p (sign_within f t text s with_sign) refl in
        let count : ℕ = row_count f h.is_prefixed h.radix text h.start in
        let ends : EndsRow h.radix text h.start (h.start + count) = row_ends f h.is_prefixed h.radix text h.start none low in
        let whole = partial_row f t text h count none (head_behind_sign f t text s with_sign) low ends in
        let settles : SettlesRow f t text h (head_row f text h count) k = settled_row f t text h (head_row f text h count) k (subst (λ (a : Result (ℤ × ℕ) Error). IsSettledAt (length text) k a) whole settled) in
        let far : IsReach h.radix text h.start count k = reach f t text h count k ends settles in
        let behind = sign_reach f text s p count k (radix_least f text s p valid refl) ends far in
        let prefix = agree_prefix f (k + 1) s.1 text other same (omega (arith, behind.0)) (λ byte. let deep = behind.1 byte in omega arith) in
        let octal = agree_octal f (k + 1) s.1 text other same (omega (arith, behind.0)) in
        let head : head_of f t other ≡ Ok h = head_behind_sign f t other s (sign_same ∙ with_sign) ∙ ap Ok (same_head f text other s (prefix_radix f other s.1) (sym octal)) ∙ ap (λ (q : Option ℕ). Ok (head_behind f text s q)) (sym prefix) in
        same_answer f t text other k h none same count ends settles far head ∙ sym whole

pub is_local : (f : Format) (t : IntegerType) → IsNone (fault f) → IsNone f.digit_separator → IsLocal f t
is_local f t valid none = local_by f t (none_from_IsNone f.digit_separator none) valid

-- the law, at two answers that calls gave
pub answers_local : {X : Type 0} → (view : X → ℤ) → IsInjective view → (f : Format) (t : IntegerType) (text other : List ℕ) (first second : Result (X × ℕ) Error) → IsNone (fault f) → view_of (with_place view) first ≡ partial f t text → view_of (with_place view) second ≡ partial f t other → IsNone f.digit_separator →
    (k : ℕ) → IsSettledAt (length text) k (view_of (with_place view) first) → SameFront (k + 1) text other → second ≡ first
answers_local view injective f t text other first second valid a b none k settled same =
    view_with_place_same view injective second first
    (b ∙ is_local f t valid none text other k (subst (λ (w : Result (ℤ × ℕ) Error). IsSettledAt (length text) k w) a settled) same ∙ sym a)
