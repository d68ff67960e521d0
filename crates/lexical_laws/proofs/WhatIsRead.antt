-- What the complete parser reads is what the grammar makes.
use Rattle.std.proofs.Common.{◌≡◌, ℕ, ◌≤◌, Bool, true, false, not, ◌&&◌, cond, List, [], ◌∷◌, length, Option, Some, None, IsNone, Ok, Err, refl, sym, ap, subst, ◌∙◌, arith, inl, inr}
use Rattle.std.proofs.Math.Bool.{and-false}
use Rattle.std.proofs.lemmas.Bool.{cases_lt, false≢true, le-ltb, ne_eqb}
use Rattle.std.proofs.lemmas.Bool.Decides.{nat_tests}
use Rattle.std.proofs.lemmas.List.{take_all}
use Rattle.std.specs.Prelude.{◌==◌, ◌≢◌, nat_le, nat_lt, slice_get, slice_index}
use Rattle.lexical_util.specs.Format.{Format}
use Rattle.lexical_util.specs.Number.{IntegerType, is_number}
use Rattle.lexical_util.specs.Validity.{fault}
use Rattle.lexical_parse_integer.specs.Affixes.{bare_radix, is_affix, octal_zero_at}
use Rattle.lexical_parse_integer.specs.Grammar.{digits_required, first_outside, lacks_digits, range_error, range_fault}
use Rattle.lexical_parse_integer.specs.Head.{Head, chooses_radix}
use Rattle.lexical_parse_integer.specs.Numeral.{Numeral, digit_count, numeral_value}
use Rattle.lexical_parse_integer.specs.Runs.{are_same, digit_at, separator_at}
use Rattle.lexical_parse_integer.specs.Value.{positional_value, with_sign}
use Rattle.lexical_parse_integer.proofs.ForCallers.{IsFit, complete_by, fits, fits_named, fits_octal, fits_told, fitting_fault, shorter_fronts_fit, zero_is_number}
use Rattle.lexical_laws.specs.Integer.{IsPrefix, is_separator}
use Rattle.lexical_laws.specs.Integer.IsPrefix.{no_prefix, a_prefix}
use Rattle.lexical_laws.specs.Keeping.{IsRangeFault}
use Rattle.lexical_laws.proofs.Bodies.{NoDigit, digit_at-some}
use Rattle.lexical_laws.proofs.Punctuation.{affix_matches, separator_is}
use Rattle.lexical_laws.proofs.Runs.{separator_told}

pub none_of : {A : Type 0} (o : Option A) → IsNone o → o ≡ None
none_of None h = refl
none_of (Some x) h = absurd (false≢true (sym h))

-- ---- the effective radix

pub bare_fit : (f : Format) (body : List ℕ) → IsNone (fault f) → IsFit f (bare_radix f body 0)
bare_fit f body valid = by_zero (octal_zero_at f body 0) refl
  where
    by_zero : (o : Bool) → octal_zero_at f body 0 ≡ o → IsFit f (cond o 8 f.mantissa_radix)
    by_zero true e = fits_octal f body 0 valid e
    by_zero false e = fits f valid

pub prefix_fit : (f : Format) (body prefix : List ℕ) (r : ℕ) → IsNone (fault f) → IsPrefix f body prefix r → IsFit f r
prefix_fit f body _ _ valid no_prefix = bare_fit f body valid
prefix_fit f body _ _ valid (a_prefix byte r named some) = fits_named f (Some byte) r valid named

pub no_digit : (f : Format) (r : ℕ) → IsFit f r → NoDigit f r
no_digit f r fit b s = fit.separator b (separator_is f b s)

pub separator_no_digit : (f : Format) (r : ℕ) (text : List ℕ) → IsFit f r → (k : ℕ) → separator_at f text k ≡ true → digit_at r text k ≡ None
separator_no_digit f r text fit k here =
    let told = separator_told f text k here in
    digit_at-some r text k told.0 told.2 ∙ fit.separator told.0 told.1

pub separator_at-some : (f : Format) (text : List ℕ) (k b : ℕ) → slice_get text k ≡ Some b → separator_at f text k ≡ is_separator f b
unfolding separator_at
separator_at-some f text k b e = rw e refl

pub separator_at-none : (f : Format) (text : List ℕ) (k : ℕ) → slice_get text k ≡ None → separator_at f text k ≡ false
unfolding separator_at are_same
separator_at-none f text k e = rw e (by_set f.digit_separator)
  where
    by_set : (o : Option ℕ) → are_same o None ≡ false
    by_set None = refl
    by_set (Some s) = refl

pub digit_at-none : (r : ℕ) (text : List ℕ) (k : ℕ) → slice_get text k ≡ None → digit_at r text k ≡ None
unfolding digit_at
digit_at-none r text k e = rw e refl

-- a suffix is neither a digit nor a separator
pub suffix_stops : (f : Format) (r : ℕ) (text : List ℕ) (k c : ℕ) → IsFit f r → slice_get text k ≡ Some c → is_affix f.case_sensitive_base_suffix f.base_suffix (Some c) ≡ true → (digit_at r text k ≡ None) × (separator_at f text k ≡ false)
suffix_stops f r text k c fit e t =
    let told = affix_matches f.case_sensitive_base_suffix f.base_suffix c t in
    (digit_at-some r text k c e ∙ fit.suffix_digit told.0 c told.1 told.2, separator_at-some f text k c e ∙ fit.suffix_separator told.0 c told.1 told.2)

-- ---- the answer, by the numeral

zeros_pass : (forbidden named : Bool) (ds : List ℕ) → (forbidden ≡ true → named ≡ false → (d : ℕ) (rest : List ℕ) → ds ≢ 0 ∷ d ∷ rest) → (((forbidden && not named) && nat_le 2 (length ds)) && (slice_index ds 0 == 0)) ≡ false
zeros_pass false named ds keeps = refl
zeros_pass true true ds keeps = refl
zeros_pass true false [] keeps = refl
zeros_pass true false (d ∷ []) keeps = refl
zeros_pass true false (d ∷ c ∷ ds) keeps = by_zero (d == 0) refl
  where
    by_zero : (z : Bool) → (d == 0) ≡ z → (nat_le 2 (length (d ∷ c ∷ ds)) && z) ≡ false
    by_zero true e = let is : d ≡ 0 = grind (arith, nat_tests) in absurd (keeps refl refl c ds (ap (λ x. x ∷ c ∷ ds) is))
    by_zero false e = and-false (nat_le 2 (length (d ∷ c ∷ ds)))

pub zeros_told : (forbidden named : Bool) (d : ℕ) (rest : List ℕ) → (((forbidden && not named) && nat_le 2 (length (0 ∷ d ∷ rest))) && (0 == 0)) ≡ false → forbidden ≡ true → named ≡ false → ⊥
zeros_told true false d rest e on off =
    let two : nat_le 2 (length (0 ∷ d ∷ rest)) ≡ true = grind (arith, nat_tests) in
    let e' = rw two at e in false≢true (sym e')
zeros_told true true d rest e on off = false≢true (sym off)
zeros_told false named d rest e on off = false≢true on

lacks_none : (f : Format) (ds : List ℕ) → (digits_required f ≡ true → ds ≢ []) → (digits_required f && (length ds == 0)) ≡ false
lacks_none f [] enough = by_flag (digits_required f) refl
  where
    by_flag : (b : Bool) → digits_required f ≡ b → (b && true) ≡ false
    by_flag true e = absurd (enough e refl)
    by_flag false e = refl
lacks_none f (d ∷ ds) enough = let some : (length (d ∷ ds) == 0) ≡ false = ne_eqb (length (d ∷ ds)) 0 (λ e. omega arith) in rw some (and-false (digits_required f))

pub answer_by : (f : Format) (t : IntegerType) (text : List ℕ) (h : Head) (x : Numeral) (ds : List ℕ) → x.digits ≡ ds → x.stop ≡ length text → 1 ≤ x.radix →
    (h.is_prefixed && (h.start == length text)) ≡ false → (f.no_integer_leading_zeros ≡ true → (chooses_radix h) ≡ false → (d : ℕ) (rest : List ℕ) → ds ≢ 0 ∷ d ∷ rest) → (digits_required f ≡ true → ds ≢ []) →
    is_number t (with_sign h.is_negative (positional_value x.radix ds)) ≡ true → complete_by f t text h x ≡ Ok (with_sign h.is_negative (positional_value x.radix ds))
answer_by f t text h x ds digits stop positive prefix zeros enough fit =
    let m : Bool = h.is_negative in
    let size : length x.digits ≡ length ds = ap length digits in
    let value : numeral_value m x ≡ with_sign m (positional_value x.radix ds) = ap (λ y. with_sign m (positional_value x.radix y)) (take_all (length x.digits) x.digits (omega arith) ∙ digits) in
    let no_range : range_fault t m x ≡ None = fitting_fault t m x (shorter_fronts_fit t m x (digit_count x) positive (ap (is_number t) value ∙ fit)) in
    let no_zeros : (((f.no_integer_leading_zeros && not (chooses_radix h)) && nat_le 2 (digit_count x)) && (slice_index x.digits 0 == 0)) ≡ false =
    ap (λ y. ((f.no_integer_leading_zeros && not (chooses_radix h)) && nat_le 2 (length y)) && (slice_index y 0 == 0)) digits ∙ zeros_pass f.no_integer_leading_zeros (chooses_radix h) ds zeros in
    let ended : nat_lt x.stop (length text) ≡ false = le-ltb x.stop (length text) (omega arith) in
    let some : lacks_digits f x ≡ false = ap (λ y. digits_required f && (length y == 0)) digits ∙ lacks_none f ds enough in
    let answer : complete_by f t text h x ≡ Ok (numeral_value m x) = rw (prefix, no_zeros, no_range, ended, some) refl in
    answer ∙ ap (λ z. Ok z) value

-- where the value leaves the type, the answer is a range fault
pub leaves_by : (f : Format) (t : IntegerType) (text : List ℕ) (h : Head) (x : Numeral) (ds : List ℕ) → x.digits ≡ ds →
    (h.is_prefixed && (h.start == length text)) ≡ false → (f.no_integer_leading_zeros ≡ true → (chooses_radix h) ≡ false → (d : ℕ) (rest : List ℕ) → ds ≢ 0 ∷ d ∷ rest) →
    is_number t (with_sign h.is_negative (positional_value x.radix ds)) ≡ false → IsRangeFault (complete_by f t text h x)
unfolding range_fault
leaves_by f t text h x ds digits prefix zeros leaves = by_place (first_outside t h.is_negative x) refl
  where
    value : numeral_value h.is_negative x ≡ with_sign h.is_negative (positional_value x.radix ds)
    value = ap (λ y. with_sign h.is_negative (positional_value x.radix y)) (take_all (length x.digits) x.digits (omega arith) ∙ digits)

    no_zeros : (((f.no_integer_leading_zeros && not (chooses_radix h)) && nat_le 2 (digit_count x)) && (slice_index x.digits 0 == 0)) ≡ false
    no_zeros = ap (λ y. ((f.no_integer_leading_zeros && not (chooses_radix h)) && nat_le 2 (length y)) && (slice_index y 0 == 0)) digits ∙ zeros_pass f.no_integer_leading_zeros (chooses_radix h) ds zeros

    none_is_zero : (ds : List ℕ) → length ds ≡ 0 → is_number t (with_sign h.is_negative (positional_value x.radix ds)) ≡ true
    none_is_zero [] e = zero_is_number t h.is_negative
    none_is_zero (d ∷ ds) e = absurd (omega arith)

    by_sign : (m : Bool) (place : ℕ) → IsRangeFault (Err (range_error m place))
    by_sign true place = tt
    by_sign false place = tt

    by_place : (o : Option ℕ) → first_outside t h.is_negative x ≡ o → IsRangeFault (complete_by f t text h x)
    by_place None none = absurd (elim (cases_lt 0 (digit_count x)) [
      | inl lt ↦ false≢true (sym leaves ∙ ap (is_number t) (sym value) ∙ fits_told t h.is_negative x lt (rw none refl))
      | inr ge ↦ false≢true (sym leaves ∙ none_is_zero ds (let n = ap length digits in omega arith))
    ])
    by_place (Some k) some =
        let answer : complete_by f t text h x ≡ Err (range_error h.is_negative (slice_index x.places k)) = rw (prefix, no_zeros, some) refl in
        subst IsRangeFault (sym answer) (by_sign h.is_negative (slice_index x.places k))
