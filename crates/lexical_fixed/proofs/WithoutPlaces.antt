-- Without places a whole text is read as an integer.
use Rattle.std.proofs.Common.{◌≡◌, ℕ, Bool, true, false, cond, not, ◌&&◌, ◌||◌, List, [], ◌∷◌, ◌++◌, length, Option, Some, None, Result, Ok, Err, refl, sym, ap, ◌∙◌, arith, inl, inr}
use Rattle.std.proofs.Math.IntN.{ℤ}
use Rattle.std.proofs.lemmas.Bool.{cases_lt, eq-eqb, false≢true, lt-ltb}
use Rattle.std.specs.Prelude.{◌==◌, nat_lt, is_some}
use Rattle.lexical_util.specs.declared.error.Error.{Error}
use Rattle.lexical_util.specs.declared.error.Error.TheVariants.{Overflow, Underflow, InvalidDigit, Empty, MissingSign, InvalidPositiveSign, InvalidLeadingZeros, InvalidMantissaRadix, InvalidDigitSeparator, InvalidBasePrefix, InvalidBaseSuffix, InvalidPunctuation, InvalidLiteralPrefixes}
use Rattle.lexical_util.specs.Format.{Format}
use Rattle.lexical_util.specs.Number.{IntegerType}
use Rattle.lexical_parse_integer.specs.Fronts.{has_digit, has_digit_behind, if_digit}
use Rattle.lexical_parse_integer.specs.Grammar.{after_head, common_faults, complete, digits_required, fault_if, first_fault_or, lacks_digits, partial, partial_faults, prefix_fault, range_fault, zero_fault}
use Rattle.lexical_parse_integer.specs.Head.{Head, chooses_radix, head_of}
use Rattle.lexical_parse_integer.specs.Laws.{completion_of}
use Rattle.lexical_parse_integer.specs.Numeral.{Numeral, digit_count, numeral_behind, numeral_value}
use Rattle.lexical_parse_integer.proofs.ForCallers.{partial_within}
use Rattle.lexical_fixed.specs.Fixed.{Fixed}
use Rattle.lexical_fixed.specs.Fraction.{digit_outside, digits_fault, fraction_length, has_bare_point, has_point_at, lacks_places, whole_end, with_digits, zeros_fault}
use Rattle.lexical_fixed.specs.Grammar.{complete_by, complete_fixed, integer_part, is_negative, units_behind, whole_behind, whole_fault}
use Rattle.lexical_fixed.proofs.Digits.{with_digits-none}
use Rattle.lexical_fixed.proofs.IntegerParts.{partial_sign}
use Rattle.lexical_fixed.proofs.QuickDigits.{no_zeros}

-- a fault of an integer part is completed as that of an integer is
fault_same : (size : ℕ) (e : Error) → Err (whole_fault size e) ≡ completion_of size (Err e)
fault_same size (Overflow place) = refl
fault_same size (Underflow place) = refl
fault_same size (InvalidDigit place) = refl
fault_same size (Empty place) = by_test (nat_lt place size)
  where
    by_test : (t : Bool) → ◌≡◌ {A = Result ℤ Error} (Err (cond t (InvalidDigit place) (Empty place))) (cond t (Err (InvalidDigit place)) (Err (Empty place)))
    by_test true = refl
    by_test false = refl
fault_same size (MissingSign place) = refl
fault_same size (InvalidPositiveSign place) = refl
fault_same size (InvalidLeadingZeros place) = refl
fault_same size InvalidMantissaRadix = refl
fault_same size InvalidDigitSeparator = refl
fault_same size InvalidBasePrefix = refl
fault_same size InvalidBaseSuffix = refl
fault_same size InvalidPunctuation = refl
fault_same size InvalidLiteralPrefixes = refl

-- behind an integer part nothing is read
whole_same : (f : Fixed) (t : IntegerType) (text : List ℕ) (v : ℤ) (k : ℕ) → f.places ≡ 0 → partial f.integer t text ≡ Ok (v, k) → whole_behind f t text v k ≡ completion_of (length text) (Ok (v, k))
unfolding whole_behind units_behind digits_fault digit_outside zeros_fault has_bare_point lacks_places fraction_length has_point_at whole_end
whole_same f t text v k none told =
    let sign = partial_sign f.integer t text v k told in
    let b : Bool = is_negative t text in
    let value : with_digits b v [] ≡ v = with_digits-none b v sign in
    let zeros = no_zeros t b v k sign in
    rw (none, value, zeros.1) (by_tests (nat_lt k (length text)) f.takes_fewer)
  where
    by_tests : (a x : Bool) → first_fault_or (None ∷ fault_if a (InvalidDigit k) ∷ fault_if (not x && false) (Empty k) ∷ None ∷ []) v ≡ cond a (Err (InvalidDigit k)) (Ok v)
    by_tests true x = refl
    by_tests false true = refl
    by_tests false false = refl

-- ---- texts without a digit

-- an answer without a fault has none at its last place either
last_none : {A : Type 0} (a b c d : Option Error) (v w : A) → first_fault_or (a ∷ b ∷ c ∷ d ∷ []) v ≡ Ok w → (d ≡ None) × (v ≡ w)
last_none None None None None v w told = (refl, grind arith)
last_none None None None (Some e) v w told = absurd (cc)
last_none None None (Some e) d v w told = absurd (cc)
last_none None (Some e) c d v w told = absurd (cc)
last_none (Some e) b c d v w told = absurd (cc)

no_fault : (x : Bool) (e : Error) → fault_if x e ≡ None → x ≡ false
no_fault true e told = cc
no_fault false e told = refl

parts_false : (a b c : Bool) → a ≡ true → (a && (b || c)) ≡ false → c ≡ false
parts_false true true c e told = cc
parts_false true false c e told = told
parts_false false b c e told = cc

-- a front without a digit that is required ends before the text does
ends_before : (f : Format) (t : IntegerType) (text : List ℕ) (v : ℤ) (k : ℕ) → digits_required f ≡ true → has_digit f t text ≡ false → partial f t text ≡ Ok (v, k) → nat_lt k (length text) ≡ true
unfolding partial
ends_before f t text v k required lacks told = by_head (head_of f t text) lacks told
  where
    by_head : (r : Result Head Error) → has_digit_behind f text r ≡ false
        → after_head {A = ℤ × ℕ} r (λ h. let x = numeral_behind f text h in first_fault_or (common_faults f t text h x ++ partial_faults f text x) (numeral_value h.is_negative x, x.stop)) ≡ Ok (v, k) → nat_lt k (length text) ≡ true
    by_head (Ok h) none read =
        let x : Numeral = numeral_behind f text h in
        let last = last_none (prefix_fault text h) (zero_fault f (chooses_radix h) x) (range_fault t h.is_negative x) (fault_if (lacks_digits f x && (is_some f.digit_separator || (x.stop == length text))) (Empty x.stop)) (numeral_value h.is_negative x, x.stop) (v, k) read in
        let stop : x.stop ≡ k = ap (λ (w : ℤ × ℕ). w.1) last.1 in
        let zero : digit_count x ≡ 0 = elim (cases_lt 0 (digit_count x)) [
          | inl some ↦ absurd (false≢true (sym none ∙ lt-ltb 0 (digit_count x) some))
          | inr few ↦ omega arith
        ] in
        let empty : lacks_digits f x ≡ true = rw (required, eq-eqb (digit_count x) 0 zero) refl in
        let apart : (x.stop == length text) ≡ false = parts_false (lacks_digits f x) (is_some f.digit_separator) (x.stop == length text) empty (no_fault (lacks_digits f x && (is_some f.digit_separator || (x.stop == length text))) (Empty x.stop) last.0) in
        let within = partial_within f t text v k told in
        elim (cases_lt k (length text)) [
          | inl less ↦ lt-ltb k (length text) less
          | inr more ↦
              let same : x.stop ≡ length text = omega (arith, stop, within, more) in
              absurd (false≢true (sym apart ∙ eq-eqb x.stop (length text) same))
        ]
    by_head (Err e) none read = absurd (cc)

pub complete_without : (f : Fixed) (t : IntegerType) (text : List ℕ) → f.places ≡ 0 → complete f.integer t text ≡ completion_of (length text) (partial f.integer t text) → complete_fixed f t text ≡ complete f.integer t text
unfolding complete_fixed integer_part
complete_without f t text none law = by_cases (digits_required f.integer) (has_digit f.integer t text) (partial f.integer t text) refl refl refl ∙ sym law
  where
    by_cases : (r d : Bool) (p : Result (ℤ × ℕ) Error) → digits_required f.integer ≡ r → has_digit f.integer t text ≡ d → partial f.integer t text ≡ p
        → complete_by f t text (cond r (if_digit d p) p) ≡ completion_of (length text) p
    by_cases true true (Ok (v, k)) er ed ep = whole_same f t text v k none ep
    by_cases true false (Ok (v, k)) er ed ep = let before = ends_before f.integer t text v k er ed ep in rw before refl
    by_cases false d (Ok (v, k)) er ed ep = whole_same f t text v k none ep
    by_cases true true (Err e) er ed ep = fault_same (length text) e
    by_cases true false (Err e) er ed ep = fault_same (length text) e
    by_cases false d (Err e) er ed ep = fault_same (length text) e
