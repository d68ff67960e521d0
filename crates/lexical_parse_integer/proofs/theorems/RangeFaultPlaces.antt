-- A value leaves its type at a digit, which is a byte of the text: for `range_faults`.
use Rattle.std.proofs.Common.{cond, ◌≡◌, ℕ, ◌+◌, ◌-◌, ◌<◌, ◌≤◌, Bool, true, false, List, [], ◌∷◌, ◌++◌, length, get_or, refl, sym, subst, arith, Option, Some, None, Ok, Err, Result, is_some, inl, inr}
use Rattle.std.proofs.Math.IntN.{ℤ}
use Rattle.std.proofs.lemmas.List.{length-map}
use Rattle.std.proofs.lemmas.List.Elements.{All-filter, All-from_get_or, All-get_or}
use Rattle.std.proofs.lemmas.List.FromFn.{get_or-range_with_len, length-range_with_len}
use Rattle.std.specs.Prelude.{nat_lt}
use Rattle.std.specs.List.{All, range_with_len}
use Rattle.std.specs.Option.{option_map, unwrap_or}
use Rattle.lexical_util.specs.declared.error.Error.{Error}
use Rattle.lexical_util.specs.declared.error.Error.TheVariants.{Overflow, Underflow, InvalidDigit, Empty, MissingSign, InvalidPositiveSign, InvalidLeadingZeros, InvalidMantissaRadix, InvalidDigitSeparator, InvalidBasePrefix, InvalidBaseSuffix, InvalidPunctuation, InvalidLiteralPrefixes}
use Rattle.lexical_util.specs.Format.{Format}
use Rattle.lexical_util.specs.Number.{IntegerType}
use Rattle.lexical_parse_integer.specs.Affixes.{prefix_radix}
use Rattle.lexical_parse_integer.specs.Grammar.{after_head, common_faults, complete, fault_if, first_fault_or, first_outside, partial, partial_faults, range_error, range_fault}
use Rattle.lexical_parse_integer.specs.Head.{Head, head_after, head_behind, head_of, sign}
use Rattle.lexical_parse_integer.specs.Laws.{LeavesWithin, completion_of}
use Rattle.lexical_parse_integer.specs.Numeral.{Numeral, digit_count, numeral_in, numeral_value, numeral_behind}
use Rattle.lexical_parse_integer.specs.Runs.{digit_at, digits_between, end_of, places}
use Rattle.lexical_parse_integer.proofs.theorems.CompleteByPartial.{IsSignFault, complete_is_completion, head_within, sign_fault, sign_within}
use Rattle.lexical_parse_integer.proofs.grammar.NumeralEnd.{IsStop-end_of}
use Rattle.lexical_parse_integer.proofs.theorems.SettledAnswers.{outside_told}

-- the places of digits are before the end of their stretch
pub digits_before : (radix : ℕ) (text : List ℕ) (from to : ℕ) → All (λ place. place < from + (to - from)) (digits_between radix text from to)
unfolding digits_between
digits_before radix text from to =
    All-filter (λ place. is_some (digit_at radix text place)) (λ place. place < from + (to - from)) (range_with_len from (to - from))
    (All-from_get_or (λ place. place < from + (to - from)) (range_with_len from (to - from)) 0 (λ i low.
    let inside : i < to - from = omega (arith, length-range_with_len from (to - from)) in
    let at = get_or-range_with_len from (to - from) i 0 inside in
    omega arith))

-- each digit of a numeral stands within the text
pub digit_within : (format : Format) (pre : Bool) (text : List ℕ) (start radix index : ℕ) → start ≤ length text → index < digit_count (numeral_in format pre radix text start) → get_or (numeral_in format pre radix text start).places index 0 < length text
unfolding numeral_in
digit_within format pre text start radix index low inside =
    let ends : ℕ = end_of format pre radix text start in
    let stop = IsStop-end_of format pre radix text start low in
    let count = length-map (places format pre radix text start) (λ place. unwrap_or (digit_at radix text place) 0) in
    let counted : index < length (places format pre radix text start) = omega (arith, inside, count) in
    let before : get_or (places format pre radix text start) index 0 < start + (ends - start) = All-get_or (λ place. place < start + (ends - start)) (places format pre radix text start) index 0 counted (digits_before radix text start ends) in
    omega (arith, stop.low, stop.high)

-- ---- answers

by_faults : (size first_zero stop : ℕ) (prefix zeros lacks minus : Bool) (outside : Option ℕ) (at : ℕ → ℕ) (value : ℤ × ℕ) → ((m : ℕ) → outside ≡ Some m → at m < size) →
    LeavesWithin size (first_fault_or (fault_if prefix (Empty size) ∷ fault_if zeros (InvalidLeadingZeros first_zero) ∷ option_map (λ m. range_error minus (at m)) outside ∷ fault_if lacks (Empty stop) ∷ []) value)
by_faults size first_zero stop true zeros lacks minus outside at value within = tt
by_faults size first_zero stop false true lacks minus outside at value within = tt
by_faults size first_zero stop false false lacks true (Some m) at value within = within m refl
by_faults size first_zero stop false false lacks false (Some m) at value within = within m refl
by_faults size first_zero stop false false true minus None at value within = tt
by_faults size first_zero stop false false false minus None at value within = tt

pub partial_leaves_within : (format : Format) (type : IntegerType) (text : List ℕ) → LeavesWithin (length text) (partial format type text)
unfolding partial head_of range_fault IsSignFault
partial_leaves_within format type text = behind (sign format type text) refl
  where
    behind : (r : Result (Bool × ℕ) Error) → sign format type text ≡ r →
        LeavesWithin (length text) (after_head {A = ℤ × ℕ} (head_after format text r) (λ h. let x = numeral_behind format text h in first_fault_or (common_faults format type text h x ++ partial_faults format text x) (numeral_value h.is_negative x, x.stop)))
    behind (Ok s) e =
        let h : Head = head_behind format text s (prefix_radix format text s.1) in
        let x : Numeral = numeral_behind format text h in
        let low : h.start ≤ length text = head_within format text s _ (sign_within format type text s e) refl in
        by_faults (length text) _ x.stop _ _ _ h.is_negative (first_outside type h.is_negative x) (λ m. get_or x.places m 0) (numeral_value h.is_negative x, x.stop)
        (λ m told. digit_within format h.is_prefixed text h.start h.radix m low (outside_told type h.is_negative x m told).0)
    behind (Err e) h = elim (sign_fault format type text e h) [ inl is ↦ rw is tt | inr is ↦ rw is tt ]

completion_within : (size : ℕ) (front : Result (ℤ × ℕ) Error) → LeavesWithin size front → LeavesWithin size (completion_of size front)
completion_within size (Ok found) within = by_test (nat_lt found.1 size)
  where
    by_test : (b : Bool) → LeavesWithin size (cond b (Err (InvalidDigit found.1)) (Ok found.0))
    by_test true = tt
    by_test false = tt
completion_within size (Err (Empty place)) within = by_test (nat_lt place size)
  where
    by_test : (b : Bool) → LeavesWithin {A = ℤ} size (cond b (Err (InvalidDigit place)) (Err (Empty place)))
    by_test true = tt
    by_test false = tt
completion_within size (Err (Overflow place)) within = within
completion_within size (Err (Underflow place)) within = within
completion_within size (Err (InvalidDigit place)) within = tt
completion_within size (Err (MissingSign place)) within = tt
completion_within size (Err (InvalidPositiveSign place)) within = tt
completion_within size (Err (InvalidLeadingZeros place)) within = tt
completion_within size (Err InvalidMantissaRadix) within = tt
completion_within size (Err InvalidDigitSeparator) within = tt
completion_within size (Err InvalidBasePrefix) within = tt
completion_within size (Err InvalidBaseSuffix) within = tt
completion_within size (Err InvalidPunctuation) within = tt
completion_within size (Err InvalidLiteralPrefixes) within = tt

pub complete_leaves_within : (format : Format) (type : IntegerType) (text : List ℕ) → LeavesWithin (length text) (complete format type text)
complete_leaves_within format type text =
    subst (LeavesWithin (length text)) (sym (complete_is_completion format type text)) (completion_within (length text) (partial format type text) (partial_leaves_within format type text))
