-- What a format's validity says of separator and suffix in the effective radix: for a cursor behind its prefix.
use Rattle.std.proofs.Common.{◌≡◌, ℕ, Bool, true, false, cond, subst, List, IsNone, Option, Some, None, refl, sym, ap, arith, inl, inr, ◌+◌}
use Rattle.std.specs.Prelude.{◌≢◌, ◌≤◌, slice_get}
use Rattle.std.proofs.lemmas.Bool.{false≢true, cases_eq}
use Rattle.std.proofs.lemmas.Bool.Decides.{nat_tests}
use Rattle.lexical_util.specs.declared.error.Error.{Error}
use Rattle.lexical_util.specs.Digit.{IsRadix, digit}
use Rattle.lexical_util.specs.Format.{Format}
use Rattle.lexical_util.specs.Validity.{fault, lower_case}
use Rattle.lexical_util.proofs.Valid.{digit_below, octal_zero_radix, separator_no_digit, separator_no_literal_digit, suffix_no_digit, suffix_no_literal_digit, suffix_no_separator, valid_radix}
use Rattle.lexical_parse_integer.specs.Affixes.{is_affix, literal_radix, named_radix, matches, octal_zero_at, prefix_radix}
use Rattle.lexical_parse_integer.specs.Runs.{are_same}
use Rattle.lexical_parse_integer.proofs.reading.OctalZeros.{octal_asked}

-- what the format's validity gives a cursor under an effective radix
pub record IsFit (format : Format) (radix : ℕ) : Type 0 where
  pub is_radix : IsRadix radix
  pub separator : (byte : ℕ) → format.digit_separator ≡ Some byte → digit radix byte ≡ None
  pub suffix_digit : (suffix byte : ℕ) → format.base_suffix ≡ Some suffix → matches format.case_sensitive_base_suffix suffix byte ≡ true → digit radix byte ≡ None
  pub suffix_separator : (suffix byte : ℕ) → format.base_suffix ≡ Some suffix → matches format.case_sensitive_base_suffix suffix byte ≡ true → are_same format.digit_separator (Some byte) ≡ false

-- what matches is the same but for ASCII case
pub same_lower : (sensitive : Bool) (m c : ℕ) → matches sensitive m c ≡ true → lower_case c ≡ lower_case m
unfolding matches
same_lower true m c t = let e : c ≡ m = grind (arith, nat_tests) in ap lower_case e
same_lower false m c t = grind (arith, nat_tests)

other_byte : (o : Option ℕ) (c : ℕ) → o ≢ Some c → are_same o (Some c) ≡ false
unfolding are_same
other_byte None c apart = refl
other_byte (Some s) c apart = elim (cases_eq c s) [ inl e ↦ absurd (apart (ap Some (sym e))) | inr ne ↦ grind (arith, nat_tests) ]

pub none_from_is_none : (o : Option Error) → IsNone o → o ≡ None
none_from_is_none None h = refl
none_from_is_none (Some x) h = absurd (false≢true (sym h))

-- the format's own radix
pub fits : (f : Format) → IsNone (fault f) → IsFit f f.mantissa_radix
fits f is_none =
    let valid = none_from_is_none (fault f) is_none in
    record {
      is_radix = valid_radix f valid;
      separator = λ s e. separator_no_digit f s s valid e refl;
      suffix_digit = λ m c e t. suffix_no_digit f m c valid e (same_lower f.case_sensitive_base_suffix m c t);
      suffix_separator = λ m c e t. other_byte f.digit_separator c (suffix_no_separator f m c valid e (same_lower f.case_sensitive_base_suffix m c t));
    }

-- the effective radix behind a literal prefix
fits_literal : (f : Format) (r : ℕ) → IsNone (fault f) → f.literal_prefixes ≡ true → IsRadix r → r ≤ 16 → IsFit f r
fits_literal f r is_none asked radix small =
    let valid = none_from_is_none (fault f) is_none in
    record {
      is_radix = radix;
      separator = λ s e. separator_no_literal_digit f s s r valid asked small e refl;
      suffix_digit = λ m c e t. suffix_no_literal_digit f m c r valid asked small e (same_lower f.case_sensitive_base_suffix m c t);
      suffix_separator = (fits f is_none).suffix_separator;
    }

fits_letter : (f : Format) (byte : Option ℕ) (r : ℕ) → IsNone (fault f) → f.literal_prefixes ≡ true → literal_radix f.case_sensitive_base_prefix byte ≡ Some r → IsFit f r
unfolding literal_radix
fits_letter f byte r valid asked found = by_letter (is_affix s (Some 120) byte) (is_affix s (Some 111) byte) (is_affix s (Some 98) byte) found
  where
    s : Bool
    s = f.case_sensitive_base_prefix

    fit : (n : ℕ) → IsRadix n → n ≤ 16 → Some n ≡ Some r → IsFit f r
    fit n radix small e = let same : n ≡ r = cc in subst (IsFit f) same (fits_literal f n valid asked radix small)

    by_letter : (x o b : Bool) → cond x (Some 16) (cond o (Some 8) (cond b (Some 2) None)) ≡ Some r → IsFit f r
    by_letter true o b e = fit 16 (record { low = omega arith; high = omega arith }) (omega arith) e
    by_letter false true b e = fit 8 (record { low = omega arith; high = omega arith }) (omega arith) e
    by_letter false false true e = fit 2 (record { low = omega arith; high = omega arith }) (omega arith) e
    by_letter false false false e = cc

-- the radix behind a prefix
pub fits_named : (f : Format) (byte : Option ℕ) (r : ℕ) → IsNone (fault f) → named_radix f byte ≡ Some r → IsFit f r
unfolding named_radix
fits_named f byte r valid named = by_own (is_affix f.case_sensitive_base_prefix f.base_prefix byte) f.literal_prefixes refl named
  where
    by_own : (own asked : Bool) → f.literal_prefixes ≡ asked → cond own (Some f.mantissa_radix) (cond asked (literal_radix f.case_sensitive_base_prefix byte) None) ≡ Some r → IsFit f r
    by_own true asked a e = let same : f.mantissa_radix ≡ r = cc in subst (IsFit f) same (fits f valid)
    by_own false true a e = fits_letter f byte r valid a e
    by_own false false a e = cc

pub fits_prefix : (f : Format) (text : List ℕ) (place r : ℕ) → IsNone (fault f) → prefix_radix f text place ≡ Some r → IsFit f r
unfolding prefix_radix
fits_prefix f text place r valid here = by_zero (are_same (Some 48) (slice_get text place)) here
  where
    by_zero : (zero : Bool) → cond zero (named_radix f (slice_get text (place + 1))) None ≡ Some r → IsFit f r
    by_zero true e = fits_named f (slice_get text (place + 1)) r valid e
    by_zero false e = cc

-- the effective radix of an octal zero
pub fits_octal : (f : Format) (text : List ℕ) (place : ℕ) → IsNone (fault f) → octal_zero_at f text place ≡ true → IsFit f 8
fits_octal f text place is_none here =
    let valid = none_from_is_none (fault f) is_none in
    let ten : f.mantissa_radix ≡ 10 = octal_zero_radix f valid (octal_asked f text place here) in
    let fit = fits f is_none in
    record {
      is_radix = record { low = omega arith; high = omega arith };
      separator = λ s e. digit_below f.mantissa_radix 8 s (omega arith) (fit.separator s e);
      suffix_digit = λ m c e t. digit_below f.mantissa_radix 8 c (omega arith) (fit.suffix_digit m c e t);
      suffix_separator = fit.suffix_separator;
    }
