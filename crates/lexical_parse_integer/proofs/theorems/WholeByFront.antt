-- What the complete answer is, by each partial one: for `complete_and_partial`.
use Rattle.std.proofs.Common.{cond, ◌≡◌, ℕ, ◌<◌, ◌≤◌, ◌⊎◌, Bool, true, false, List, length, refl, sym, ap, ◌∙◌, arith, Ok, Err, Result, inl, inr}
use Rattle.std.proofs.lemmas.Bool.{lt-ltb, le-ltb, cases_lt}
use Rattle.std.proofs.Math.IntN.{ℤ}
use Rattle.std.specs.Prelude.{nat_lt}
use Rattle.lexical_util.specs.declared.error.Error.{Error}
use Rattle.lexical_util.specs.declared.error.Error.TheVariants.{Overflow, Underflow, InvalidDigit, Empty, MissingSign, InvalidPositiveSign, InvalidLeadingZeros, InvalidMantissaRadix, InvalidDigitSeparator, InvalidBasePrefix, InvalidBaseSuffix, InvalidPunctuation, InvalidLiteralPrefixes}
use Rattle.lexical_util.specs.Format.{Format}
use Rattle.lexical_util.specs.Number.{IntegerType}
use Rattle.lexical_parse_integer.specs.Grammar.{complete, partial}
use Rattle.lexical_parse_integer.specs.Laws.{Completes, completion_of, is_empty}
use Rattle.lexical_parse_integer.proofs.theorems.CompleteByPartial.{complete_is_completion}
use Rattle.lexical_parse_integer.proofs.ForCallers.{partial_within}

-- what each answer is completed to
completion_ok : (n : ℕ) (front : Result (ℤ × ℕ) Error) (v : ℤ) → ((w : ℤ) (k : ℕ) → front ≡ Ok (w, k) → k ≤ n) → completion_of n front ≡ Ok v → front ≡ Ok (v, n)
completion_ok n (Ok found) v within h = by_place (cases_lt found.1 n)
  where
    by_place : (found.1 < n) ⊎ (n ≤ found.1) → ◌≡◌ {A = Result (ℤ × ℕ) Error} (Ok found) (Ok (v, n))
    by_place (inl l) = let test = lt-ltb found.1 n l in let told : cond (nat_lt found.1 n) (Err (InvalidDigit found.1)) (Ok found.0) ≡ Ok v = h in absurd (let g = rw test at told in cc)
    by_place (inr l) =
        let test = le-ltb found.1 n l in
        let told : cond (nat_lt found.1 n) (Err (InvalidDigit found.1)) (Ok found.0) ≡ Ok v = h in
        let value : ◌≡◌ {A = Result ℤ Error} (Ok found.0) (Ok v) = rw test at told in
        let low = within found.0 found.1 refl in
        let place : found.1 ≡ n = omega arith in
        let number : found.0 ≡ v = cc in
        ap (λ (z : ℤ). Ok (z, found.1)) number ∙ ap (λ (k : ℕ). Ok (v, k)) place
completion_ok n (Err e) v within h = absurd (no_value e h)
  where
    no_value : (e : Error) → completion_of n (Err e) ≡ Ok v → ⊥
    no_value (Empty i) g = by_test (nat_lt i n) g
      where
        by_test : (b : Bool) → ◌≡◌ {A = Result ℤ Error} (cond b (Err (InvalidDigit i)) (Err (Empty i))) (Ok v) → ⊥
        by_test true g = cc
        by_test false g = cc
    no_value (Overflow i) g = cc
    no_value (Underflow i) g = cc
    no_value (InvalidDigit i) g = cc
    no_value (MissingSign i) g = cc
    no_value (InvalidPositiveSign i) g = cc
    no_value (InvalidLeadingZeros i) g = cc
    no_value InvalidMantissaRadix g = cc
    no_value InvalidDigitSeparator g = cc
    no_value InvalidBasePrefix g = cc
    no_value InvalidBaseSuffix g = cc
    no_value InvalidPunctuation g = cc
    no_value InvalidLiteralPrefixes g = cc

completion_fault : (n : ℕ) (e : Error) → is_empty e ≡ false → completion_of n (Err e) ≡ Err e
completion_fault n (Empty i) h = cc
completion_fault n (Overflow i) h = refl
completion_fault n (Underflow i) h = refl
completion_fault n (InvalidDigit i) h = refl
completion_fault n (MissingSign i) h = refl
completion_fault n (InvalidPositiveSign i) h = refl
completion_fault n (InvalidLeadingZeros i) h = refl
completion_fault n InvalidMantissaRadix h = refl
completion_fault n InvalidDigitSeparator h = refl
completion_fault n InvalidBasePrefix h = refl
completion_fault n InvalidBaseSuffix h = refl
completion_fault n InvalidPunctuation h = refl
completion_fault n InvalidLiteralPrefixes h = refl

completes_from : (n : ℕ) (whole : Result ℤ Error) (front : Result (ℤ × ℕ) Error) → whole ≡ completion_of n front → ((v : ℤ) (k : ℕ) → front ≡ Ok (v, k) → k ≤ n) → Completes n whole front
completes_from n whole front is within = record {
  ok = λ v. (λ h. completion_ok n front v within (sym is ∙ h), λ h. let none = le-ltb n n (omega arith) in is ∙ ap (completion_of n) h ∙ rw none refl);
  left = λ v k h l. let test = lt-ltb k n l in is ∙ ap (completion_of n) h ∙ rw test refl;
  fault = λ e h not_empty. is ∙ ap (completion_of n) h ∙ completion_fault n e not_empty;
  empty = λ h. let test = le-ltb n n (omega arith) in is ∙ ap (completion_of n) h ∙ rw test refl;
  empty_left = λ i h l. let test = lt-ltb i n l in is ∙ ap (completion_of n) h ∙ rw test refl;
}

-- the law, at two answers that calls gave
pub answers_complete : (f : Format) (t : IntegerType) (text : List ℕ) (whole : Result ℤ Error) (front : Result (ℤ × ℕ) Error) → whole ≡ complete f t text → front ≡ partial f t text → Completes (length text) whole front
answers_complete f t text whole front a b =
    completes_from (length text) whole front (a ∙ complete_is_completion f t text ∙ ap (completion_of (length text)) (sym b)) (λ v k h. partial_within f t text v k (sym b ∙ h))

-- the law, over every text
pub complete_completes : (f : Format) (t : IntegerType) (text : List ℕ) → Completes (length text) (complete f t text) (partial f t text)
complete_completes f t text = answers_complete f t text (complete f t text) (partial f t text) refl refl
