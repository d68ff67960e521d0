-- The integer part of a text ends within it, and has the text's sign.
use Rattle.std.proofs.Common.{◌≡◌, ℕ, Bool, true, false, cond, ◌&&◌, List, [], ◌∷◌, ◌++◌, Option, Some, None, Result, Ok, Err, refl, sym, ap, ◌∙◌, arith}
use Rattle.std.proofs.Math.IntN.{ℤ}
use Rattle.std.proofs.lemmas.Bool.{eqb-true, false≢true}
use Rattle.std.specs.Prelude.{◌==◌, IfOk}
use Rattle.lexical_util.specs.declared.error.Error.{Error}
use Rattle.lexical_util.specs.declared.error.Error.TheVariants.{InvalidPositiveSign, MissingSign}
use Rattle.lexical_util.specs.Format.{Format}
use Rattle.lexical_util.specs.Number.{HasSign, IntegerType}
use Rattle.lexical_digits.proofs.LongNumbers.{sign_held}
use Rattle.lexical_parse_integer.specs.Answer.{view_of, with_place}
use Rattle.lexical_parse_integer.specs.Affixes.{prefix_radix}
use Rattle.lexical_parse_integer.specs.Fronts.{if_digit}
use Rattle.lexical_parse_integer.specs.Grammar.{after_head, common_faults, first_fault_or, partial, partial_faults}
use Rattle.lexical_parse_integer.specs.Head.{Head, head_after, head_behind, head_of, no_sign, sign}
use Rattle.lexical_parse_integer.specs.Numeral.{Numeral, numeral_behind, numeral_value}
use Rattle.lexical_parse_integer.specs.Runs.{are_same}
use Rattle.lexical_fixed.specs.Grammar.{is_negative}

-- an answer without a fault is the value
pub value_told : {A : Type 0} (faults : List (Option Error)) (v w : A) → first_fault_or faults v ≡ Ok w → v ≡ w
value_told [] v w told = cc
value_told (None ∷ faults) v w told = value_told faults v w told
value_told (Some error ∷ faults) v w told = cc

no_minus : (f : Format) (s : Bool × ℕ) → no_sign f ≡ Ok s → s.0 ≡ false
no_minus f s = by_test f.required_mantissa_sign
  where
    by_test : (b : Bool) → cond b (Err (MissingSign 0)) (Ok (false, 0)) ≡ Ok s → s.0 ≡ false
    by_test true e = cc
    by_test false e = let same : (false, 0) ≡ s = cc in sym (ap (λ (w : Bool × ℕ). w.0) same)

and_no : (a : Bool) → (a && false) ≡ false
and_no true = refl
and_no false = refl

-- the sign that was read is the text's minus
sign_told : (f : Format) (t : IntegerType) (text : List ℕ) (s : Bool × ℕ) → sign f t text ≡ Ok s → s.0 ≡ is_negative t text
unfolding sign is_negative are_same
sign_told f t [] s told = no_minus f s told ∙ sym (and_no t.is_signed)
sign_told f t (c ∷ cs) s told = by_tests (c == 43) (c == 45) t.is_signed f.no_positive_mantissa_sign apart told
  where
    apart : (c == 43) ≡ true → (c == 45) ≡ true → false ≡ true
    apart plus minus = let p = eqb-true c 43 plus in let m = eqb-true c 45 minus in absurd (omega arith)

    by_tests : (a m g b : Bool) → (a ≡ true → m ≡ true → false ≡ true) → cond a (cond b (Err (InvalidPositiveSign 0)) (Ok (false, 1))) (cond (m && g) (Ok (true, 1)) (no_sign f)) ≡ Ok s → s.0 ≡ (g && m)
    by_tests true true g b differ e = absurd (false≢true (differ refl refl))
    by_tests true false g true differ e = cc
    by_tests true false g false differ e = let same : (false, 1) ≡ s = cc in sym (ap (λ (w : Bool × ℕ). w.0) same) ∙ sym (and_no g)
    by_tests false true true b differ e = let same : (true, 1) ≡ s = cc in sym (ap (λ (w : Bool × ℕ). w.0) same)
    by_tests false true false b differ e = no_minus f s e
    by_tests false false g b differ e = no_minus f s e ∙ sym (and_no g)

head_minus : (f : Format) (text : List ℕ) (s : Bool × ℕ) (radix : Option ℕ) → (head_behind f text s radix).is_negative ≡ s.0
head_minus f text s None = refl
head_minus f text s (Some radix) = refl

-- a front has the text's sign
pub partial_sign : (f : Format) (t : IntegerType) (text : List ℕ) (v : ℤ) (k : ℕ) → partial f t text ≡ Ok (v, k) → HasSign (is_negative t text) v
unfolding partial head_of
partial_sign f t text v k = behind (sign f t text) refl
  where
    behind : (r : Result (Bool × ℕ) Error) → sign f t text ≡ r →
        after_head {A = ℤ × ℕ} (head_after f text r) (λ h. let x = numeral_behind f text h in first_fault_or (common_faults f t text h x ++ partial_faults f text x) (numeral_value h.is_negative x, x.stop)) ≡ Ok (v, k) → HasSign (is_negative t text) v
    behind (Ok s) e told =
        let h : Head = head_behind f text s (prefix_radix f text s.1) in
        let x : Numeral = numeral_behind f text h in
        let same = value_told (common_faults f t text h x ++ partial_faults f text x) (numeral_value h.is_negative x, x.stop) (v, k) told in
        let value : v ≡ numeral_value h.is_negative x = sym (ap (λ (w : ℤ × ℕ). w.0) same) in
        let minus : h.is_negative ≡ is_negative t text = head_minus f text s (prefix_radix f text s.1) ∙ sign_told f t text s e in
        sign_held (is_negative t text) v _ (value ∙ ap (λ b. numeral_value b x) minus)
    behind (Err e) h told = cc

-- a number in front that has a digit is that of the front
pub digit_told : (b : Bool) (answer : Result (ℤ × ℕ) Error) (found : ℤ × ℕ) → if_digit b answer ≡ Ok found → answer ≡ Ok found
digit_told true answer found told = told
digit_told false (Ok other) found told = cc
digit_told false (Err error) found told = cc

-- what holds of an answer's integer and place holds of the answer
pub if_part : {V : Type 0} (number_of : V → ℤ) (P : ℤ → ℕ → Type 0) (given : Result (ℤ × ℕ) Error) (answer : Result (V × ℕ) Error)
    → view_of (with_place number_of) answer ≡ given → ((v : ℤ) (k : ℕ) → given ≡ Ok (v, k) → P v k) → IfOk answer (λ found. P (number_of found.0) found.1)
if_part number_of P given (Ok found) is all = all (number_of found.0) found.1 (sym is)
if_part number_of P given (Err error) is all = tt
