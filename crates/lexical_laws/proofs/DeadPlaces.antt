-- No text that begins with the bytes up to and with a fault's place has a value.
use Rattle.std.proofs.Common.{◌≡◌, ℕ, suc, ◌+◌, ◌<◌, Bool, true, false, not, ◌&&◌, ◌||◌, cond, List, [], ◌∷◌, ◌++◌, length, take, Option, Some, None, is_some, Ok, Err, Result, refl, sym, ap, subst, ◌∙◌, arith, ◌⊎◌, inl, inr, length-take}
use Rattle.std.proofs.Math.IntN.{ℤ}
use Rattle.std.proofs.lemmas.Bool.{false≢true, lt-ltb, le-ltb}
use Rattle.std.proofs.lemmas.Bool.Decides.{nat_tests}
use Rattle.std.specs.Prelude.{◌==◌, ◌≢◌, nat_le, nat_lt, slice_get, slice_index}
use Rattle.std.specs.Option.{option_map}
use Rattle.lexical_util.specs.declared.error.Error.{Error}
use Rattle.lexical_util.specs.declared.error.Error.TheVariants.{Empty, InvalidDigit, InvalidLeadingZeros, Overflow, Underflow}
use Rattle.lexical_util.specs.Faults.{place_of}
use Rattle.lexical_util.specs.Format.{Format}
use Rattle.lexical_util.specs.Number.{IntegerType}
use Rattle.lexical_parse_integer.specs.Grammar.{after_head, common_faults, complete, fault_if, first_fault_or, first_outside, lacks_digits, partial, partial_faults, range_error, range_fault}
use Rattle.lexical_parse_integer.specs.Head.{Head, head_after, head_of, sign, sign_by, chooses_radix}
use Rattle.lexical_parse_integer.specs.Laws.{IsLocal, IsSettledAt, SameFront, completion_of}
use Rattle.lexical_parse_integer.specs.Numeral.{Numeral, digit_count, numeral_value, numeral_behind}

-- ---- the faults of the partial parser, without separators and zero rule

-- where a fault comes from: the sign, digits that the text's end lacks, or a value that leaves the type
abbrev Comes : Format → IntegerType → List ℕ → Error → Type 0
Comes f t text e = (sign f t text ≡ Err e) ⊎ (e ≡ Empty (length text)) ⊎ ((m : Bool) × (place : ℕ) × (e ≡ range_error m place))

fault_cases : (n stop zero_place : ℕ) (prefix lacks m : Bool) (outside : Option ℕ) (at : ℕ → ℕ) (v : ℤ × ℕ) (e : Error) →
    first_fault_or (fault_if prefix (Empty n) ∷ fault_if false (InvalidLeadingZeros zero_place) ∷ option_map (λ k. range_error m (at k)) outside ∷ fault_if (lacks && (stop == n)) (Empty stop) ∷ []) v ≡ Err e →
    (e ≡ Empty n) ⊎ ((m : Bool) × (place : ℕ) × (e ≡ range_error m place))
fault_cases n stop zero_place true lacks m outside at v e h = let same : Empty n ≡ e = cc in inl (sym same)
fault_cases n stop zero_place false lacks m (Some k) at v e h = let same : range_error m (at k) ≡ e = cc in inr (m, at k, sym same)
fault_cases n stop zero_place false true m None at v e h = by_end (stop == n) refl h
  where
    by_end : (b : Bool) → (stop == n) ≡ b → first_fault_or (fault_if b (Empty stop) ∷ []) v ≡ Err e → (e ≡ Empty n) ⊎ ((m : Bool) × (place : ℕ) × (e ≡ range_error m place))
    by_end true is h = let at_end : stop ≡ n = grind (arith, nat_tests) in let same : Empty stop ≡ e = cc in inl (sym same ∙ ap (λ k. Empty k) at_end)
    by_end false is h = cc
fault_cases n stop zero_place false false m None at v e h = cc

-- the cases of a fault where the zero rule is off and there is no separator
rule_cases : (n stop zero_place : ℕ) (prefix forbidden separated a b c lacks m : Bool) (outside : Option ℕ) (at : ℕ → ℕ) (v : ℤ × ℕ) (e : Error) → forbidden ≡ false → separated ≡ false →
    first_fault_or (fault_if prefix (Empty n) ∷ fault_if (((forbidden && a) && b) && c) (InvalidLeadingZeros zero_place) ∷ option_map (λ k. range_error m (at k)) outside ∷ fault_if (lacks && (separated || (stop == n))) (Empty stop) ∷ []) v ≡ Err e →
    (e ≡ Empty n) ⊎ ((m : Bool) × (place : ℕ) × (e ≡ range_error m place))
rule_cases n stop zero_place prefix false false a b c lacks m outside at v e off none told = fault_cases n stop zero_place prefix lacks m outside at v e told
rule_cases n stop zero_place prefix true separated a b c lacks m outside at v e off none told = absurd (false≢true (sym off))
rule_cases n stop zero_place prefix false true a b c lacks m outside at v e off none told = absurd (false≢true (sym none))

fault_comes : (f : Format) (t : IntegerType) (text : List ℕ) (e : Error) → f.digit_separator ≡ None → f.no_integer_leading_zeros ≡ false → partial f t text ≡ Err e → Comes f t text e
unfolding partial head_of range_fault
fault_comes f t text e none off faulty = by_sign (sign f t text) refl faulty
  where
    by_head : (h : Head) → (let x = numeral_behind f text h in first_fault_or {A = ℤ × ℕ} (common_faults f t text h x ++ partial_faults f text x) (numeral_value h.is_negative x, x.stop)) ≡ Err e → Comes f t text e
    by_head h told =
        let x : Numeral = numeral_behind f text h in
        inr (rule_cases (length text) x.stop (slice_index x.places 0) (h.is_prefixed && (h.start == length text)) f.no_integer_leading_zeros (is_some f.digit_separator) (not (chooses_radix h)) (nat_le 2 (digit_count x)) (slice_index x.digits 0 == 0) (lacks_digits f x) h.is_negative (first_outside t h.is_negative x) (λ k. slice_index x.places k) (numeral_value h.is_negative x, x.stop) e off (ap is_some none) told)

    by_sign : (s : Result (Bool × ℕ) Error) → sign f t text ≡ s → after_head {A = ℤ × ℕ} (head_after f text s) (λ h. let x = numeral_behind f text h in first_fault_or (common_faults f t text h x ++ partial_faults f text x) (numeral_value h.is_negative x, x.stop)) ≡ Err e → Comes f t text e
    by_sign (Err d) is told = let same : d ≡ e = cc in inl (is ∙ ap (λ z. Err z) same)
    by_sign (Ok s) is told = by_head _ told

-- ---- dead places

first_same : (n : ℕ) (text other : List ℕ) → take (suc n) text ≡ take (suc n) other → slice_get text 0 ≡ slice_get other 0
first_same n [] [] e = refl
first_same n [] (y ∷ ys) e = cc
first_same n (x ∷ xs) [] e = cc
first_same n (x ∷ xs) (y ∷ ys) e = let same : x ≡ y = cc in ap Some same

pub inside_other : (place : ℕ) (text other : List ℕ) → SameFront (place + 1) text other → place < length text → place < length other
inside_other place text other same within =
    let size = ap length same in
    omega (arith, length-take (place + 1) text, length-take (place + 1) other)

sign_fault : (f : Format) (t : IntegerType) (text : List ℕ) (e : Error) → sign f t text ≡ Err e → complete f t text ≡ Err e
unfolding complete head_of
sign_fault f t text e faulty = rw faulty refl

same_sign : (f : Format) (t : IntegerType) (text other : List ℕ) (place : ℕ) → SameFront (place + 1) text other → sign f t other ≡ sign f t text
unfolding sign
same_sign f t text other place same =
    let more : place + 1 ≡ suc place = omega arith in
    let same' : take (suc place) text ≡ take (suc place) other = rw more at same in
    ap (sign_by f t) (sym (first_same place text other same'))

-- the other text's answer, where the partial one is settled at the place
pub settled_dead : (f : Format) (t : IntegerType) (text other : List ℕ) (place : ℕ) (v : ℤ) → IsLocal f t →
    ((text : List ℕ) → complete f t text ≡ completion_of (length text) (partial f t text)) →
    (answer : Result (ℤ × ℕ) Error) → partial f t text ≡ answer → IsSettledAt (length text) place answer → SameFront (place + 1) text other → place < length other →
    completion_of (length other) answer ≢ Ok v → complete f t other ≢ Ok v
settled_dead f t text other place v local whole answer is settled same within dead read =
    let told : partial f t other ≡ answer = local text other place (subst (IsSettledAt (length text) place) (sym is) settled) same ∙ is in
    dead (ap (completion_of (length other)) (sym told) ∙ sym (whole other) ∙ read)

pub dead_place : (f : Format) (t : IntegerType) (text other : List ℕ) (e : Error) (place : ℕ) (v : ℤ) → IsLocal f t →
    ((text : List ℕ) → complete f t text ≡ completion_of (length text) (partial f t text)) →
    f.digit_separator ≡ None → f.no_integer_leading_zeros ≡ false → complete f t text ≡ Err e → place_of e ≡ Some place → place < length text → SameFront (place + 1) text other → complete f t other ≢ Ok v
dead_place f t text other e place v local whole none off faulty at within same = by_front (partial f t text) refl (sym (whole text) ∙ faulty)
  where
    inside : place < length other
    inside = inside_other place text other same within

    over : (k : ℕ) (w : ℤ) → k < length other → completion_of (length other) (Ok (w, k)) ≢ Ok v
    over k w l read = let test : nat_lt k (length other) ≡ true = lt-ltb k (length other) l in let read' = rw test at read in cc

    by_place : (k : ℕ) (w : ℤ) → partial f t text ≡ Ok (w, k) → (b : Bool) → nat_lt k (length text) ≡ b → cond b (Err (InvalidDigit k)) (Ok w) ≡ Err e → complete f t other ≢ Ok v
    by_place k w is false test told = cc
    by_place k w is true test told =
        let same_fault : InvalidDigit k ≡ e = cc in
        let place_is : k ≡ place = (let both : Some k ≡ Some place = ap place_of same_fault ∙ at in cc) in
        settled_dead f t text other place v local whole (Ok (w, k)) is (place_is, within) same inside (over k w (omega (arith, inside)))

    by_range : (m : Bool) (k : ℕ) → partial f t text ≡ Err (range_error m k) → range_error m k ≡ e → complete f t other ≢ Ok v
    by_range true k is told =
        let place_is : k ≡ place = (let both : Some k ≡ Some place = ap place_of told ∙ at in cc) in
        settled_dead f t text other place v local whole (Err (Underflow k)) is place_is same inside (λ read. (cc))
    by_range false k is told =
        let place_is : k ≡ place = (let both : Some k ≡ Some place = ap place_of told ∙ at in cc) in
        settled_dead f t text other place v local whole (Err (Overflow k)) is place_is same inside (λ read. (cc))

    by_front : (answer : Result (ℤ × ℕ) Error) → partial f t text ≡ answer → completion_of (length text) answer ≡ Err e → complete f t other ≢ Ok v
    by_front (Ok found) is told = by_place found.1 found.0 is (nat_lt found.1 (length text)) refl told
    by_front (Err d) is told = elim (fault_comes f t text d none off is) [
      | inl s ↦
          let there = sign_fault f t other d (same_sign f t text other place same ∙ s) in
          λ read. (cc)
      | inr (inl at_end) ↦
          let told' : completion_of (length text) (Err (Empty (length text))) ≡ Err e = ap (λ x. completion_of (length text) (Err x)) (sym at_end) ∙ told in
          let test : nat_lt (length text) (length text) ≡ false = le-ltb (length text) (length text) (omega arith) in
          let told'' = rw test at told' in
          let fault' : Empty (length text) ≡ e = cc in
          let place_is : length text ≡ place = (let both : Some (length text) ≡ Some place = ap place_of fault' ∙ at in cc) in
          absurd (omega arith)
      | inr (inr r) ↦
          by_range r.0 r.1 (is ∙ ap (λ x. Err x) r.2) (by_error r.0 r.1 (ap (λ x. completion_of (length text) (Err x)) (sym r.2) ∙ told))
    ]
      where
        by_error : (m : Bool) (k : ℕ) → completion_of (length text) (Err (range_error m k)) ≡ Err e → range_error m k ≡ e
        by_error true k told = cc
        by_error false k told = cc
