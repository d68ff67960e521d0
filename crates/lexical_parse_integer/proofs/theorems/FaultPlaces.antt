-- Each fault of a text stands within it or at its end.
use Rattle.std.proofs.Common.{◌≡◌, ℕ, ◌+◌, ◌-◌, ◌<◌, ◌≤◌, Bool, true, false, cond, List, [], ◌∷◌, ◌++◌, length, get_or, slice_index, refl, sym, subst, arith, Option, Some, None, Ok, Err, Result, inl, inr}
use Rattle.std.proofs.Math.IntN.{ℤ}
use Rattle.std.proofs.lemmas.Bool.Decides.{nat_tests}
use Rattle.std.proofs.lemmas.List.Elements.{All-get_or}
use Rattle.std.specs.Prelude.{nat_lt, IfErr}
use Rattle.std.specs.List.{All}
use Rattle.std.specs.Option.{option_map}
use Rattle.lexical_util.specs.declared.error.Error.{Error}
use Rattle.lexical_util.specs.declared.error.Error.TheVariants.{Overflow, Underflow, InvalidDigit, Empty, MissingSign, InvalidPositiveSign, InvalidLeadingZeros, InvalidMantissaRadix, InvalidDigitSeparator, InvalidBasePrefix, InvalidBaseSuffix, InvalidPunctuation, InvalidLiteralPrefixes}
use Rattle.lexical_util.specs.Format.{Format}
use Rattle.lexical_util.specs.Number.{IntegerType}
use Rattle.lexical_parse_integer.specs.Affixes.{prefix_radix}
use Rattle.lexical_parse_integer.specs.Grammar.{after_head, common_faults, complete, fault_if, first_fault_or, first_outside, partial, partial_faults, range_error, range_fault}
use Rattle.lexical_parse_integer.specs.Head.{Head, head_after, head_behind, head_of, sign}
use Rattle.lexical_parse_integer.specs.Laws.{StandsWithin, completion_of}
use Rattle.lexical_parse_integer.specs.Numeral.{Numeral, numeral_in, numeral_value, numeral_behind}
use Rattle.lexical_parse_integer.specs.Runs.{end_of, places}
use Rattle.lexical_parse_integer.proofs.theorems.CompleteByPartial.{IsSignFault, complete_is_completion, head_within, numeral_within, sign_fault, sign_within}
use Rattle.lexical_parse_integer.proofs.grammar.NumeralEnd.{IsStop-end_of}
use Rattle.lexical_parse_integer.proofs.theorems.RangeFaultPlaces.{digit_within, digits_before}
use Rattle.lexical_parse_integer.proofs.theorems.SettledAnswers.{outside_told}

-- the first digit of a numeral stands within the text, if it has one
first_within : (format : Format) (pre : Bool) (text : List ℕ) (start radix : ℕ) → start ≤ length text → slice_index (numeral_in format pre radix text start).places 0 ≤ length text
unfolding numeral_in
first_within format pre text start radix low = by_places (places format pre radix text start) (digits_before radix text start (end_of format pre radix text start))
  where
    by_places : (xs : List ℕ) → All (λ place. place < start + (end_of format pre radix text start - start)) xs → slice_index xs 0 ≤ length text
    by_places [] before = omega arith
    by_places (x ∷ xs) before =
        let stop = IsStop-end_of format pre radix text start low in
        let here : get_or (x ∷ xs) 0 0 < start + (end_of format pre radix text start - start) = All-get_or (λ place. place < start + (end_of format pre radix text start - start)) (x ∷ xs) 0 0 (omega arith) before in
        omega (arith, stop.low, stop.high, here)

-- ---- answers

by_faults : (size first_zero stop : ℕ) (prefix zeros lacks minus : Bool) (outside : Option ℕ) (at : ℕ → ℕ) (value : ℤ × ℕ) → first_zero ≤ size → stop ≤ size → ((m : ℕ) → outside ≡ Some m → at m < size) →
    IfErr (first_fault_or (fault_if prefix (Empty size) ∷ fault_if zeros (InvalidLeadingZeros first_zero) ∷ option_map (λ m. range_error minus (at m)) outside ∷ fault_if lacks (Empty stop) ∷ []) value) (StandsWithin size)
by_faults size first_zero stop true zeros lacks minus outside at value at_front low within = omega arith
by_faults size first_zero stop false true lacks minus outside at value at_front low within = at_front
by_faults size first_zero stop false false lacks true (Some m) at value at_front low within = let inside = within m refl in omega arith
by_faults size first_zero stop false false lacks false (Some m) at value at_front low within = let inside = within m refl in omega arith
by_faults size first_zero stop false false true minus None at value at_front low within = low
by_faults size first_zero stop false false false minus None at value at_front low within = tt

pub partial_faults_within : (format : Format) (type : IntegerType) (text : List ℕ) → IfErr (partial format type text) (StandsWithin (length text))
unfolding partial head_of range_fault IsSignFault
partial_faults_within format type text = behind (sign format type text) refl
  where
    behind : (r : Result (Bool × ℕ) Error) → sign format type text ≡ r →
        IfErr (after_head {A = ℤ × ℕ} (head_after format text r) (λ h. let x = numeral_behind format text h in first_fault_or (common_faults format type text h x ++ partial_faults format text x) (numeral_value h.is_negative x, x.stop))) (StandsWithin (length text))
    behind (Ok s) e =
        let h : Head = head_behind format text s (prefix_radix format text s.1) in
        let x : Numeral = numeral_behind format text h in
        let low : h.start ≤ length text = head_within format text s _ (sign_within format type text s e) refl in
        by_faults (length text) (slice_index x.places 0) x.stop _ _ _ h.is_negative (first_outside type h.is_negative x) (λ m. get_or x.places m 0) (numeral_value h.is_negative x, x.stop)
        (first_within format h.is_prefixed text h.start h.radix low) (numeral_within format h.is_prefixed text h.start h.radix low)
        (λ m told. digit_within format h.is_prefixed text h.start h.radix m low (outside_told type h.is_negative x m told).0)
    behind (Err e) h = elim (sign_fault format type text e h) [ inl is ↦ rw is (omega arith) | inr is ↦ rw is (omega arith) ]

-- a byte that is left is within the text
completed_within : (size : ℕ) (front : Result (ℤ × ℕ) Error) → IfErr front (StandsWithin size) → IfErr (completion_of size front) (StandsWithin size)
completed_within size (Ok found) within = by_test (nat_lt found.1 size) refl
  where
    by_test : (b : Bool) → nat_lt found.1 size ≡ b → IfErr (cond b (Err (InvalidDigit found.1)) (Ok found.0)) (StandsWithin size)
    by_test true left = let inside : found.1 < size = grind (arith, nat_tests) in omega arith
    by_test false left = tt
completed_within size (Err (Empty place)) within = by_test (nat_lt place size)
  where
    by_test : (b : Bool) → IfErr (cond {A = Result ℤ Error} b (Err (InvalidDigit place)) (Err (Empty place))) (StandsWithin size)
    by_test true = within
    by_test false = within
completed_within size (Err (Overflow place)) within = within
completed_within size (Err (Underflow place)) within = within
completed_within size (Err (InvalidDigit place)) within = within
completed_within size (Err (MissingSign place)) within = within
completed_within size (Err (InvalidPositiveSign place)) within = within
completed_within size (Err (InvalidLeadingZeros place)) within = within
completed_within size (Err InvalidMantissaRadix) within = within
completed_within size (Err InvalidDigitSeparator) within = within
completed_within size (Err InvalidBasePrefix) within = within
completed_within size (Err InvalidBaseSuffix) within = within
completed_within size (Err InvalidPunctuation) within = within
completed_within size (Err InvalidLiteralPrefixes) within = within

pub complete_faults_within : (format : Format) (type : IntegerType) (text : List ℕ) → IfErr (complete format type text) (StandsWithin (length text))
complete_faults_within format type text =
    subst (λ answer. IfErr answer (StandsWithin (length text))) (sym (complete_is_completion format type text)) (completed_within (length text) (partial format type text) (partial_faults_within format type text))
