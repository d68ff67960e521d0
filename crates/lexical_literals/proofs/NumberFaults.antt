-- Faults in their order, and those of ranges: for where a number stops, and for literals with types.
use Rattle.std.proofs.Common.{◌≡◌, ◌⊎◌, ℕ, ◌<◌, Bool, true, false, ◌&&◌, not, cond, List, [], ◌∷◌, IsNone, Option, Some, None, Ok, Err, Result, refl, ap, arith, inl, inr}
use Rattle.std.proofs.Math.IntN.{ℤ}
use Rattle.std.proofs.lemmas.Bool.Decides.{nat_tests}
use Rattle.std.specs.Option.{option_map}
use Rattle.std.specs.Prelude.{◌==◌, nat_lt, slice_get, slice_index}
use Rattle.std.specs.Result.{IsErr}
use Rattle.lexical_util.specs.Digit.{is_between}
use Rattle.lexical_util.specs.Format.{Format}
use Rattle.lexical_util.specs.Number.{IntegerType, integer_type}
use Rattle.lexical_util.specs.Validity.{fault, has_alike, has_unfit_literals, is_unfit}
use Rattle.lexical_util.specs.declared.error.Error.{Error}
use Rattle.lexical_util.specs.declared.error.Error.TheVariants.{Empty, InvalidBasePrefix, InvalidBaseSuffix, InvalidDigitSeparator, InvalidLeadingZeros, InvalidLiteralPrefixes, InvalidMantissaRadix, InvalidPositiveSign, InvalidPunctuation, MissingSign, Overflow}
use Rattle.lexical_parse_integer.specs.Answer.{view_of}
use Rattle.lexical_parse_integer.specs.Fronts.{if_digit}
use Rattle.lexical_parse_integer.specs.Grammar.{fault_if, first_fault_or, first_outside, range_error, range_fault}
use Rattle.lexical_parse_integer.specs.Head.{head_after, head_of, sign, sign_by}
use Rattle.lexical_parse_integer.specs.Numeral.{Numeral, digit_count}

-- what a literal is first read as
abbrev pub wide : IntegerType
wide = integer_type 128 false

-- ---- lists of faults

-- no fault but that of the range is left, and a digit was read
pub one_left : (p z r l : Option Error) (d : Bool) (value : ℤ × ℕ) → p ≡ None → z ≡ None → l ≡ None → d ≡ true
    → if_digit d (first_fault_or (p ∷ z ∷ r ∷ l ∷ []) value) ≡ first_fault_or (r ∷ []) value
one_left p z None l d value no_p no_z no_l some = rw (no_p, no_z, no_l, some) refl
one_left p z (Some e) l d value no_p no_z no_l some = rw (no_p, no_z, some) refl

-- where three faults are none, so is each
pub three_ok : {A : Type 0} (p z m : Option Error) (v w : A) → first_fault_or (p ∷ z ∷ m ∷ []) v ≡ Ok w
    → (p ≡ None) × (z ≡ None) × (m ≡ None) × (v ≡ w)
three_ok None None None v w h = (refl, refl, refl, cc)
three_ok (Some e) z m v w h = cc
three_ok None (Some e) m v w h = cc
three_ok None None (Some e) v w h = cc

pub no_fault_if : (b : Bool) (e : Error) → fault_if b e ≡ None → b ≡ false
no_fault_if true e h = cc
no_fault_if false e h = refl

-- a numeral has a digit, or none
pub counted : (n : ℕ) → nat_lt 0 n ≡ not (n == 0)
counted n = grind (arith, nat_tests)

pub some_digit : (n : ℕ) → (n == 0) ≡ false → 0 < n
some_digit n e = grind (arith, nat_tests)

-- digits that are there aren't missing
pub not_missing : (required none more : Bool) (e : Error) → none ≡ false → fault_if ((required && none) && more) e ≡ None
not_missing true none more e some = rw some refl
not_missing false none more e some = refl

-- a front that is read stops where its numeral does
pub ok_stop : (p z r l : Option Error) (none : Bool) (k place : ℕ) (v w : ℤ)
    → if_digit (not none) (first_fault_or (p ∷ z ∷ r ∷ l ∷ []) (v, k)) ≡ Ok (w, place)
    → first_fault_or (p ∷ z ∷ fault_if none (Empty k) ∷ []) k ≡ Ok place
ok_stop None None None None false k place v w told = ap (view_of (λ (found : ℤ × ℕ). found.1)) told
ok_stop None None None None true k place v w told = cc
ok_stop (Some e) z r l true k place v w told = cc
ok_stop (Some e) z r l false k place v w told = cc
ok_stop None (Some e) r l true k place v w told = cc
ok_stop None (Some e) r l false k place v w told = cc
ok_stop None None (Some e) l true k place v w told = cc
ok_stop None None (Some e) l false k place v w told = cc
ok_stop None None None (Some e) true k place v w told = cc
ok_stop None None None (Some e) false k place v w told = cc

-- a fault that isn't that of the range is told by where the number stops too
pub other_stop : (p z : Option Error) (q more none : Bool) (k : ℕ) (v : ℤ) (error : Error)
    → if_digit (not none) (first_fault_or (p ∷ z ∷ None ∷ fault_if ((q && none) && more) (Empty k) ∷ []) (v, k)) ≡ Err error
    → first_fault_or (p ∷ z ∷ fault_if none (Empty k) ∷ []) k ≡ Err error
other_stop (Some e) z q more true k v error told = ap (view_of (λ (found : ℤ × ℕ). found.1)) told
other_stop (Some e) z q more false k v error told = ap (view_of (λ (found : ℤ × ℕ). found.1)) told
other_stop None (Some e) q more true k v error told = ap (view_of (λ (found : ℤ × ℕ). found.1)) told
other_stop None (Some e) q more false k v error told = ap (view_of (λ (found : ℤ × ℕ). found.1)) told
other_stop None None true true true k v error told = ap (view_of (λ (found : ℤ × ℕ). found.1)) told
other_stop None None true false true k v error told = ap (view_of (λ (found : ℤ × ℕ). found.1)) told
other_stop None None false more true k v error told = ap (view_of (λ (found : ℤ × ℕ). found.1)) told
other_stop None None true more false k v error told = cc
other_stop None None false more false k v error told = cc

-- a fault that comes before that of the range is told by where the number stops too
pub fault_before : (p z l m : Option Error) (d : Bool) (k out : ℕ) (v : ℤ) (error : Error) → (error ≡ Overflow out → ⊥)
    → if_digit d (first_fault_or (p ∷ z ∷ Some (Overflow out) ∷ l ∷ []) (v, k)) ≡ Err error
    → first_fault_or (p ∷ z ∷ m ∷ []) k ≡ Err error
fault_before (Some e) z l m true k out v error other told = ap (view_of (λ (found : ℤ × ℕ). found.1)) told
fault_before (Some e) z l m false k out v error other told = ap (view_of (λ (found : ℤ × ℕ). found.1)) told
fault_before None (Some e) l m true k out v error other told = ap (view_of (λ (found : ℤ × ℕ). found.1)) told
fault_before None (Some e) l m false k out v error other told = ap (view_of (λ (found : ℤ × ℕ). found.1)) told
fault_before None None l m true k out v error other told = absurd (other (cc))
fault_before None None l m false k out v error other told = absurd (other (cc))

-- a number whose range is at fault stops where its numeral does
pub great_stop : (a b none : Bool) (l : Option Error) (s y k out place : ℕ) (v : ℤ) → none ≡ false
    → if_digit (not none) (first_fault_or (fault_if a (Empty s) ∷ fault_if b (InvalidLeadingZeros y) ∷ Some (Overflow out) ∷ l ∷ []) (v, k)) ≡ Err (Overflow place)
    → first_fault_or (fault_if a (Empty s) ∷ fault_if b (InvalidLeadingZeros y) ∷ fault_if none (Empty k) ∷ []) k ≡ Ok k
great_stop a b true l s y k out place v some told = cc
great_stop true b false l s y k out place v some told = cc
great_stop false true false l s y k out place v some told = cc
great_stop false false false l s y k out place v some told = refl

-- no other fault is that a value is too great
pub no_other_great : (a b q more none : Bool) (s y k place : ℕ) (v : ℤ)
    → if_digit (not none) (first_fault_or (fault_if a (Empty s) ∷ fault_if b (InvalidLeadingZeros y) ∷ None ∷ fault_if ((q && none) && more) (Empty k) ∷ []) (v, k)) ≡ Err (Overflow place) → ⊥
no_other_great true b q more true s y k place v told = cc
no_other_great true b q more false s y k place v told = cc
no_other_great false true q more true s y k place v told = cc
no_other_great false true q more false s y k place v told = cc
no_other_great false false true true true s y k place v told = cc
no_other_great false false true false true s y k place v told = cc
no_other_great false false false more true s y k place v told = cc
no_other_great false false true more false s y k place v told = cc
no_other_great false false false more false s y k place v told = cc

pub is_none : {A : Type 0} {found : Option A} → found ≡ None → IsNone found
is_none none = rw none refl

pub is_fault : {A : Type 0} {read : Result A Error} {e : Error} → read ≡ Err e → IsErr read
is_fault told = rw told refl

pub value_of_one : (r : Option Error) (v w : ℤ) (k place : ℕ) → first_fault_or {A = ℤ × ℕ} (r ∷ []) (v, k) ≡ Ok (w, place) → (v ≡ w) × (k ≡ place)
value_of_one None v w k place told = let same : (v, k) ≡ (w, place) = cc in (ap (λ (p : ℤ × ℕ). p.0) same, ap (λ (p : ℤ × ℕ). p.1) same)
value_of_one (Some e) v w k place told = cc

pub none_of_one : {A : Type 0} (r : Option Error) (v w : A) → first_fault_or (r ∷ []) v ≡ Ok w → r ≡ None
none_of_one None v w told = refl
none_of_one (Some e) v w told = cc

-- ---- ranges

-- without a digit no value leaves its type
pub none_leaves : (t : IntegerType) (b : Bool) (x : Numeral) → (digit_count x == 0) ≡ true → range_fault t b x ≡ None
unfolding range_fault
none_leaves t b x none =
    let empty : digit_count x ≡ 0 = grind (arith, nat_tests) in
    let found : first_outside t b x ≡ None = rw empty refl in
    rw found refl

-- a value from 0 up leaves its type above
pub leaves_above : (t : IntegerType) (b : Bool) (x : Numeral) → b ≡ false
    → (range_fault t b x ≡ None) ⊎ ((place : ℕ) × (range_fault t b x ≡ Some (Overflow place)))
unfolding range_fault
leaves_above t b x above = by_found (first_outside t b x) above
  where
    by_found : (found : Option ℕ) → b ≡ false
        → (option_map (λ index. range_error b (slice_index x.places index)) found ≡ None)
        ⊎ ((place : ℕ) × (option_map (λ index. range_error b (slice_index x.places index)) found ≡ Some (Overflow place)))
    by_found None above = inl refl
    by_found (Some index) above = inr (slice_index x.places index, rw above refl)

-- ---- faults that aren't that a value is too great

pub sign_by_tests : (f : Format) (first : Option ℕ) (place : ℕ) → sign_by f wide first ≡ Err (Overflow place) → ⊥
sign_by_tests f None place told = by_asked f.required_mantissa_sign told
  where
    by_asked : (b : Bool) → cond {A = Result (Bool × ℕ) Error} b (Err (MissingSign 0)) (Ok (false, 0)) ≡ Err (Overflow place) → ⊥
    by_asked true told = cc
    by_asked false told = cc
sign_by_tests f (Some byte) place told = by_tests (byte == 43) f.no_positive_mantissa_sign ((byte == 45) && false) f.required_mantissa_sign told
  where
    by_tests : (plus refused minus asked : Bool) → cond {A = Result (Bool × ℕ) Error} plus (cond refused (Err (InvalidPositiveSign 0)) (Ok (false, 1)))
        (cond minus (Ok (true, 1)) (cond asked (Err (MissingSign 0)) (Ok (false, 0)))) ≡ Err (Overflow place) → ⊥
    by_tests true true minus asked told = cc
    by_tests true false minus asked told = cc
    by_tests false refused true asked told = cc
    by_tests false refused false true told = cc
    by_tests false refused false false told = cc

pub head_not_great : (f : Format) (text : List ℕ) (place : ℕ) → head_of f wide text ≡ Err (Overflow place) → ⊥
unfolding head_of sign
head_not_great f text place told = by_sign (sign_by f wide (slice_get text 0)) (sign_by_tests f (slice_get text 0) place) told
  where
    by_sign : (s : Result (Bool × ℕ) Error) → (s ≡ Err (Overflow place) → ⊥) → head_after f text s ≡ Err (Overflow place) → ⊥
    by_sign (Ok s) other told = cc
    by_sign (Err e) other told = let same : e ≡ Overflow place = cc in other (ap Err same)

pub format_not_great : (f : Format) (place : ℕ) → fault f ≡ Some (Overflow place) → ⊥
format_not_great f place told =
    by_tests (not (is_between 2 36 f.mantissa_radix)) (is_unfit f.mantissa_radix f.digit_separator) (is_unfit f.mantissa_radix f.base_prefix)
    (is_unfit f.mantissa_radix f.base_suffix) (has_alike f) (has_unfit_literals f) told
  where
    by_tests : (a b c d e g : Bool) → cond {A = Option Error} a (Some InvalidMantissaRadix) (cond b (Some InvalidDigitSeparator) (cond c (Some InvalidBasePrefix)
        (cond d (Some InvalidBaseSuffix) (cond e (Some InvalidPunctuation) (cond g (Some InvalidLiteralPrefixes) None))))) ≡ Some (Overflow place) → ⊥
    by_tests true b c d e g told = cc
    by_tests false true c d e g told = cc
    by_tests false false true d e g told = cc
    by_tests false false false true e g told = cc
    by_tests false false false false true g told = cc
    by_tests false false false false false true told = cc
    by_tests false false false false false false told = cc
