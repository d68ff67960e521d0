-- The complete answer is that of the front, completed, case by case: for `complete_by_partial` and `WholeByFront`.
use Rattle.std.proofs.Common.{cond, ◌≡◌, ◌≢◌, ℕ, ◌+◌, ◌<◌, ◌≤◌, Bool, true, false, ◌&&◌, ◌||◌, List, [], ◌∷◌, ◌++◌, length, refl, sym, ap, arith, Option, Some, None, Ok, Err, Result, eq-eqb, ◌⊎◌, inl, inr}
use Rattle.std.proofs.lemmas.Bool.{lt-ltb, le-ltb, cases_lt}
use Rattle.std.proofs.lemmas.Bool.Decides.{eqb_tells}
use Rattle.std.proofs.Math.IntN.{ℤ}
use Rattle.std.specs.Prelude.{◌==◌, nat_lt, is_some, slice_index}
use Rattle.std.specs.Option.{option_map}
use Rattle.lexical_util.specs.declared.error.Error.{Error}
use Rattle.lexical_util.specs.declared.error.Error.TheVariants.{InvalidDigit, Empty, MissingSign, InvalidPositiveSign, InvalidLeadingZeros}
use Rattle.lexical_parse_integer.specs.Affixes.{numeral_stop, prefix_radix, suffix_at}
use Rattle.lexical_parse_integer.specs.Grammar.{after_head, common_faults, complete, complete_faults, fault_if, first_fault_or, first_outside, lacks_digits, partial, partial_faults, range_error, range_fault}
use Rattle.lexical_parse_integer.specs.Head.{Head, head_after, head_behind, head_of, no_sign, sign}
use Rattle.lexical_parse_integer.specs.Laws.{completion_of}
use Rattle.lexical_parse_integer.specs.Numeral.{Numeral, numeral_in, numeral_value, numeral_behind}
use Rattle.lexical_parse_integer.specs.Runs.{end_of, places}
use Rattle.lexical_util.specs.Format.{Format}
use Rattle.lexical_util.specs.Number.{IntegerType}
use Rattle.lexical_parse_integer.proofs.grammar.NumeralEnd.{IsStop-end_of}
use Rattle.lexical_parse_integer.proofs.reading.Soundness.{suffix_at_within, prefix_within}

apart_eqb : (a b : ℕ) → a ≢ b → (a == b) ≡ false
apart_eqb a b apart = elim (eqb_tells a b) [ inl w ↦ absurd (apart w.1) | inr w ↦ w.0 ]

-- without a fault that both have
last_cases : (n stop : ℕ) (lacks separated : Bool) (v : ℤ) → (stop < n) ⊎ (stop ≡ n) →
    first_fault_or (fault_if (nat_lt stop n) (InvalidDigit stop) ∷ fault_if lacks (Empty n) ∷ []) v
    ≡ completion_of n (first_fault_or (fault_if (lacks && (separated || (stop == n))) (Empty stop) ∷ []) (v, stop))
last_cases n stop true true v (inl l) = let test = lt-ltb stop n l in rw test refl
last_cases n stop true false v (inl l) = let test = lt-ltb stop n l in let differ = apart_eqb stop n (λ e. omega arith) in rw (test, differ, test) refl
last_cases n stop false separated v (inl l) = let test = lt-ltb stop n l in rw test refl
last_cases n stop true true v (inr e) = let test = le-ltb stop n (omega arith) in rw test (ap (λ k. Err (Empty k)) (sym e))
last_cases n stop true false v (inr e) = let test = le-ltb stop n (omega arith) in let same = eq-eqb stop n e in rw (test, same, test) (ap (λ k. Err (Empty k)) (sym e))
last_cases n stop false separated v (inr e) = let test = le-ltb stop n (omega arith) in rw test refl

all_cases : (n stop first_zero : ℕ) (prefix zeros lacks separated minus : Bool) (outside : Option ℕ) (at : ℕ → ℕ) (v : ℤ) → (stop < n) ⊎ (stop ≡ n) →
    first_fault_or (fault_if prefix (Empty n) ∷ fault_if zeros (InvalidLeadingZeros first_zero) ∷ option_map (λ k. range_error minus (at k)) outside ∷ fault_if (nat_lt stop n) (InvalidDigit stop) ∷ fault_if lacks (Empty n) ∷ []) v
    ≡ completion_of n (first_fault_or (fault_if prefix (Empty n) ∷ fault_if zeros (InvalidLeadingZeros first_zero) ∷ option_map (λ k. range_error minus (at k)) outside ∷ fault_if (lacks && (separated || (stop == n))) (Empty stop) ∷ []) (v, stop))
all_cases n stop first_zero true zeros lacks separated minus outside at v order = let test = le-ltb n n (omega arith) in rw test refl
all_cases n stop first_zero false true lacks separated minus outside at v order = refl
all_cases n stop first_zero false false lacks separated true (Some k) at v order = refl
all_cases n stop first_zero false false lacks separated false (Some k) at v order = refl
all_cases n stop first_zero false false lacks separated minus None at v order = last_cases n stop lacks separated v order

pub numeral_within : (f : Format) (pre : Bool) (text : List ℕ) (start r : ℕ) → start ≤ length text → (numeral_in f pre r text start).stop ≤ length text
unfolding numeral_in numeral_stop
numeral_within f pre text start r low = by_tests (nat_lt 0 (length (places f pre r text start))) (suffix_at f text (end_of f pre r text start)) refl
  where
    by_tests : (a b : Bool) → suffix_at f text (end_of f pre r text start) ≡ b → cond (a && b) (end_of f pre r text start + 1) (end_of f pre r text start) ≤ length text
    by_tests true true e = let inside = suffix_at_within f text (end_of f pre r text start) e in omega arith
    by_tests true false e = (IsStop-end_of f pre r text start low).high
    by_tests false b e = (IsStop-end_of f pre r text start low).high

pair_len : (b : Bool) (n k : ℕ) (s : Bool × ℕ) → n ≤ k → ◌≡◌ {A = Result (Bool × ℕ) Error} (Ok (b, n)) (Ok s) → s.1 ≤ k
pair_len b n k s low e =
    let same : (b, n) ≡ s = cc in
    let at : n ≡ s.1 = ap (λ (w : Bool × ℕ). w.1) same in
    omega arith

no_sign_within : (f : Format) (s : Bool × ℕ) (k : ℕ) → no_sign f ≡ Ok s → s.1 ≤ k
no_sign_within f s k = by_test f.required_mantissa_sign
  where
    by_test : (b : Bool) → cond b (Err (MissingSign 0)) (Ok (false, 0)) ≡ Ok s → s.1 ≤ k
    by_test true e = cc
    by_test false e = pair_len false 0 k s (omega arith) e

pub sign_within : (f : Format) (t : IntegerType) (text : List ℕ) (s : Bool × ℕ) → sign f t text ≡ Ok s → s.1 ≤ length text
unfolding sign
sign_within f t [] s signed = no_sign_within f s 0 signed
sign_within f t (c ∷ cs) s signed = by_tests (c == 43) f.no_positive_mantissa_sign ((c == 45) && t.is_signed) signed
  where
    by_tests : (a b d : Bool) → cond a (cond b (Err (InvalidPositiveSign 0)) (Ok (false, 1))) (cond d (Ok (true, 1)) (no_sign f)) ≡ Ok s → s.1 ≤ length (c ∷ cs)
    by_tests true true d e = cc
    by_tests true false d e = pair_len false 1 _ s (omega arith) e
    by_tests false b true e = pair_len true 1 _ s (omega arith) e
    by_tests false b false e = no_sign_within f s _ e

-- a sign's fault is one of two
unfoldable pub IsSignFault : Error → Type 0
IsSignFault e = (e ≡ MissingSign 0) ⊎ (e ≡ InvalidPositiveSign 0)

no_sign_fault : (f : Format) (e : Error) → no_sign f ≡ Err e → IsSignFault e
unfolding IsSignFault
no_sign_fault f e = by_test f.required_mantissa_sign
  where
    by_test : (b : Bool) → ◌≡◌ {A = Result (Bool × ℕ) Error} (cond b (Err (MissingSign 0)) (Ok (false, 0))) (Err e) → IsSignFault e
    by_test true h = inl (cc)
    by_test false h = cc

pub sign_fault : (f : Format) (t : IntegerType) (text : List ℕ) (e : Error) → sign f t text ≡ Err e → IsSignFault e
unfolding sign IsSignFault
sign_fault f t [] e h = no_sign_fault f e h
sign_fault f t (c ∷ cs) e h = by_tests (c == 43) f.no_positive_mantissa_sign ((c == 45) && t.is_signed) h
  where
    by_tests : (a b d : Bool) → ◌≡◌ {A = Result (Bool × ℕ) Error} (cond a (cond b (Err (InvalidPositiveSign 0)) (Ok (false, 1))) (cond d (Ok (true, 1)) (no_sign f))) (Err e) → IsSignFault e
    by_tests true true d h = inr (cc)
    by_tests true false d h = cc
    by_tests false b true h = cc
    by_tests false b false h = no_sign_fault f e h

below : (a b : ℕ) → a ≤ b → (a < b) ⊎ (a ≡ b)
below a b low = elim (cases_lt a b) [ inl l ↦ inl l | inr l ↦ inr (omega arith) ]

pub head_within : (f : Format) (text : List ℕ) (s : Bool × ℕ) (p : Option ℕ) → s.1 ≤ length text → prefix_radix f text s.1 ≡ p → (head_behind f text s p).start ≤ length text
head_within f text s None low e = low
head_within f text s (Some r) low e = let two = prefix_within f text s.1 r e in omega arith

-- each answer of the complete parser is that of the partial one, completed
pub complete_is_completion : (f : Format) (t : IntegerType) (text : List ℕ) → complete f t text ≡ completion_of (length text) (partial f t text)
unfolding complete partial head_of range_fault IsSignFault
complete_is_completion f t text = behind (sign f t text) refl
  where
    behind : (r : Result (Bool × ℕ) Error) → sign f t text ≡ r →
        after_head (head_after f text r) (λ h. let x = numeral_behind f text h in first_fault_or (common_faults f t text h x ++ complete_faults f text x) (numeral_value h.is_negative x))
        ≡ completion_of (length text) (after_head (head_after f text r) (λ h. let x = numeral_behind f text h in first_fault_or (common_faults f t text h x ++ partial_faults f text x) (numeral_value h.is_negative x, x.stop)))
    behind (Ok s) e =
        let h : Head = head_behind f text s (prefix_radix f text s.1) in
        let x : Numeral = numeral_behind f text h in
        let low : h.start ≤ length text = head_within f text s _ (sign_within f t text s e) refl in
        all_cases (length text) x.stop _ _ _ (lacks_digits f x) (is_some f.digit_separator) h.is_negative (first_outside t h.is_negative x) (λ k. slice_index x.places k) (numeral_value h.is_negative x) (below x.stop (length text) (numeral_within f h.is_prefixed text h.start h.radix low))
    behind (Err e) h = elim (sign_fault f t text e h) [ inl is ↦ rw is refl | inr is ↦ rw is refl ]

-- an answer without a fault is the value
pub ok_told : {A : Type 0} (faults : List (Option Error)) (v w : A) → first_fault_or faults v ≡ Ok w → v ≡ w
ok_told [] v w h = cc
ok_told (None ∷ faults) v w h = ok_told faults v w h
ok_told (Some e ∷ faults) v w h = cc
