-- A digit stands directly before the place where a front stops exactly where its numeral has a digit: for `front_digits`.
use Rattle.std.proofs.Common.{◌≡◌, ℕ, zero, suc, ◌+◌, ◌-◌, ◌≤◌, Bool, true, false, cond, List, [], ◌∷◌, ◌++◌, length, Option, Some, None, Ok, Err, Result, refl, ap, sym, ◌∙◌, arith}
use Rattle.std.proofs.lemmas.Bool.{eqb-true, lt-ltb}
use Rattle.std.proofs.Math.IntN.{ℤ}
use Rattle.std.specs.Prelude.{◌==◌, ◌&&◌, nat_lt}
use Rattle.lexical_util.specs.declared.error.Error.{Error}
use Rattle.lexical_util.specs.declared.error.Error.TheVariants.{MissingSign, InvalidPositiveSign}
use Rattle.lexical_util.specs.Digit.{digit}
use Rattle.lexical_util.specs.Format.{Format}
use Rattle.lexical_util.specs.Number.{IntegerType}
use Rattle.lexical_parse_integer.specs.Affixes.{bare_radix, octal_zero_at, prefix_radix}
use Rattle.lexical_parse_integer.specs.Grammar.{common_faults, first_fault_or, partial, partial_faults}
use Rattle.lexical_parse_integer.specs.Head.{Head, head_after, head_behind, head_of, no_sign, sign, chooses_radix}
use Rattle.lexical_parse_integer.specs.Numeral.{Numeral, digit_count, numeral_in, numeral_value, numeral_behind}
use Rattle.lexical_parse_integer.specs.Runs.{digit_at}
use Rattle.lexical_parse_integer.specs.Stops.{stops_after_digit}
use Rattle.lexical_parse_integer.proofs.theorems.CompleteByPartial.{ok_told, sign_within}
use Rattle.lexical_parse_integer.proofs.theorems.DigitTexts.{stop_plain}
use Rattle.lexical_parse_integer.proofs.grammar.DigitsInARow.{EndsRow, has_digit, numeral_in_a_row, row_count, row_ends, row_numeral}
use Rattle.lexical_parse_integer.proofs.theorems.SettledAnswers.{digits_of_row}

-- ---- no digit stands behind a sign alone

-- no digit stands before the front
none_before : (r : ℕ) (text : List ℕ) (s : Bool × ℕ) (b : Bool) → (b, 0) ≡ s → stops_after_digit r text s.1 ≡ false
none_before r text s b e = rw (sym e) refl

no_sign_no_digit : (f : Format) (r : ℕ) (text : List ℕ) (s : Bool × ℕ) → no_sign f ≡ Ok s → stops_after_digit r text s.1 ≡ false
no_sign_no_digit f r text s = by_test f.required_mantissa_sign
  where
    by_test : (b : Bool) → cond b (Err (MissingSign 0)) (Ok (false, 0)) ≡ Ok s → stops_after_digit r text s.1 ≡ false
    by_test true e = cc
    by_test false e = let same : (false, 0) ≡ s = cc in none_before r text s false same

-- plus and minus are no digits
sign_is_no_digit : (r : ℕ) (c : ℕ) (cs : List ℕ) (s : Bool × ℕ) (b : Bool) → digit r c ≡ None → (b, 1) ≡ s → stops_after_digit r (c ∷ cs) s.1 ≡ false
unfolding digit_at
sign_is_no_digit r c cs s b none e = rw (sym e, none) refl

sign_no_digit : (f : Format) (t : IntegerType) (r : ℕ) (text : List ℕ) (s : Bool × ℕ) → sign f t text ≡ Ok s → stops_after_digit r text s.1 ≡ false
unfolding sign
sign_no_digit f t r [] s signed = no_sign_no_digit f r [] s signed
sign_no_digit f t r (c ∷ cs) s signed = by_plus (c == 43) refl signed
  where
    by_minus : (a d : Bool) → (c == 45) ≡ a → cond (a && d) (Ok (true, 1)) (no_sign f) ≡ Ok s → stops_after_digit r (c ∷ cs) s.1 ≡ false
    by_minus true true is e =
        let minus : c ≡ 45 = eqb-true c 45 is in
        let none : digit r c ≡ None = rw minus refl in
        let same : (true, 1) ≡ s = cc in
        sign_is_no_digit r c cs s true none same
    by_minus true false is e = no_sign_no_digit f r (c ∷ cs) s e
    by_minus false d is e = no_sign_no_digit f r (c ∷ cs) s e

    by_forbidden : (b : Bool) → c ≡ 43 → cond b (Err (InvalidPositiveSign 0)) (Ok (false, 1)) ≡ Ok s → stops_after_digit r (c ∷ cs) s.1 ≡ false
    by_forbidden true plus e = cc
    by_forbidden false plus e =
        let none : digit r c ≡ None = rw plus refl in
        let same : (false, 1) ≡ s = cc in
        sign_is_no_digit r c cs s false none same

    by_plus : (a : Bool) → (c == 43) ≡ a → cond a (cond f.no_positive_mantissa_sign (Err (InvalidPositiveSign 0)) (Ok (false, 1))) (cond ((c == 45) && t.is_signed) (Ok (true, 1)) (no_sign f)) ≡ Ok s
        → stops_after_digit r (c ∷ cs) s.1 ≡ false
    by_plus true is e = by_forbidden f.no_positive_mantissa_sign (eqb-true c 43 is) e
    by_plus false is e = by_minus (c == 45) t.is_signed refl e

-- ---- behind digits in a row there is one

row_tells : (r : ℕ) (text : List ℕ) (start count : ℕ) → EndsRow r text start (start + count) → stops_after_digit r text start ≡ false → stops_after_digit r text (start + count) ≡ nat_lt 0 count
row_tells r text start zero ends none = let same : start + 0 ≡ start = omega arith in rw same none
row_tells r text start (suc n) ends none =
    let last : has_digit r text (start + n) ≡ true = ends.holds (start + n) (omega arith) (omega arith) in
    let behind : nat_lt 0 (start + suc n) ≡ true = lt-ltb 0 (start + suc n) (omega arith) in
    let before : start + suc n - 1 ≡ start + n = omega arith in
    let many : nat_lt 0 (suc n) ≡ true = lt-ltb 0 (suc n) (omega arith) in
    rw (behind, before, last, many) refl

numeral_tells : (f : Format) (pre : Bool) (r : ℕ) (text : List ℕ) (start : ℕ) → f.digit_separator ≡ None → f.base_suffix ≡ None → start ≤ length text → stops_after_digit r text start ≡ false
    → stops_after_digit r text (numeral_in f pre r text start).stop ≡ nat_lt 0 (digit_count (numeral_in f pre r text start))
numeral_tells f pre r text start none plain low before =
    let c : ℕ = row_count f pre r text start in
    let ends : EndsRow r text start (start + c) = row_ends f pre r text start none low in
    let same : numeral_in f pre r text start ≡ row_numeral f text start r c = numeral_in_a_row f pre text start r c none low ends in
    let stop : (row_numeral f text start r c).stop ≡ start + c = stop_plain f text start r c plain in
    let count : digit_count (row_numeral f text start r c) ≡ c = digits_of_row r text start c in
    let at : (numeral_in f pre r text start).stop ≡ start + c = ap (λ (x : Numeral). x.stop) same ∙ stop in
    let many : digit_count (numeral_in f pre r text start) ≡ c = ap (λ (x : Numeral). digit_count x) same ∙ count in
    ap (λ (k : ℕ). stops_after_digit r text k) at ∙ row_tells r text start c ends before ∙ ap (λ (k : ℕ). nat_lt 0 k) (sym many)

-- ---- the front of a text without a prefix

pub tells_digits : (f : Format) (t : IntegerType) (text : List ℕ) (h : Head) (v : ℤ) (k : ℕ) → f.digit_separator ≡ None → f.base_suffix ≡ None → head_of f t text ≡ Ok h → (chooses_radix h) ≡ false
    → partial f t text ≡ Ok (v, k) → stops_after_digit f.mantissa_radix text k ≡ nat_lt 0 (digit_count (numeral_behind f text h))
unfolding head_of partial
tells_digits f t text h v k none plain head unprefixed told = behind (sign f t text) refl head
  where
    stops : head_of f t text ≡ Ok h → (numeral_behind f text h).stop ≡ k
    stops is =
        let x : Numeral = numeral_behind f text h in
        let front : first_fault_or (common_faults f t text h x ++ partial_faults f text x) (numeral_value h.is_negative x, x.stop) ≡ Ok (v, k) = rw is at told in
        ap (λ (w : ℤ × ℕ). w.1) (ok_told (common_faults f t text h x ++ partial_faults f text x) (numeral_value h.is_negative x, x.stop) (v, k) front)

    by_prefix : (s : Bool × ℕ) (p : Option ℕ) → sign f t text ≡ Ok s → head_behind f text s p ≡ h → stops_after_digit f.mantissa_radix text k ≡ nat_lt 0 (digit_count (numeral_behind f text h))
    by_prefix s None e is =
        let start : h.start ≡ s.1 = ap (λ (g : Head). g.start) (sym is) in
        let decimal : octal_zero_at f text s.1 ≡ false = ap (λ (g : Head). chooses_radix g) is ∙ unprefixed in
        let bare : bare_radix f text s.1 ≡ f.mantissa_radix = rw decimal refl in
        let radix : h.radix ≡ f.mantissa_radix = ap (λ (g : Head). g.radix) (sym is) ∙ bare in
        let low : h.start ≤ length text = let within = sign_within f t text s e in omega arith in
        let before : stops_after_digit h.radix text h.start ≡ false = rw (start, radix) (sign_no_digit f t f.mantissa_radix text s e) in
        ap (λ (r : ℕ). stops_after_digit r text k) (sym radix) ∙ ap (λ (j : ℕ). stops_after_digit h.radix text j) (sym (stops head))
        ∙ numeral_tells f h.is_prefixed h.radix text h.start none plain low before
    by_prefix s (Some r) e is = let prefixed : true ≡ false = ap (λ (g : Head). chooses_radix g) is ∙ unprefixed in cc

    behind : (r : Result (Bool × ℕ) Error) → sign f t text ≡ r → head_after f text r ≡ Ok h → stops_after_digit f.mantissa_radix text k ≡ nat_lt 0 (digit_count (numeral_behind f text h))
    behind (Ok s) e at = let is : head_behind f text s (prefix_radix f text s.1) ≡ h = cc in by_prefix s (prefix_radix f text s.1) e is
    behind (Err e) h at = cc
