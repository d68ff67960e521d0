-- What a format's validity says of its radix, and of the bytes that separator, prefix and suffix match. A byte
-- matches punctuation where it is the same but for ASCII case, and so in particular where it is that byte.
use Rattle.std.proofs.Common.{◌≡◌, ◌∙◌, ℕ, Bool, true, false, not, is_some, leb, Option, Some, None, if◌then◌else◌, refl, sym, ap, arith}
use Rattle.std.specs.Prelude.{◌==◌, ◌≢◌, ◌≤◌, ◌||◌, ◌&&◌, nat_lt}
use Rattle.std.proofs.lemmas.Bool.{eq-eqb, false≢true, ltb-false, ltb-true, or_parts}
use Rattle.std.proofs.lemmas.Bool.Decides.{nat_tests}
use Rattle.lexical_util.specs.declared.error.Error.{Error}
use Rattle.lexical_util.specs.Digit.{IsRadix, value_if_below, digit, digit_value, is_between}
use Rattle.lexical_util.specs.Format.{Format}
use Rattle.lexical_util.specs.Validity.{are_alike, fault, has_alike, has_unfit_literals, is_unfit, is_unfit_beside_literals, is_unfit_byte, lower_case}

-- the tests that the six rules make all fail
pub record PassesRules (format : Format) : Type 0 where
  pub radix : not (is_between 2 36 format.mantissa_radix) ≡ false
  pub separator : is_unfit format.mantissa_radix format.digit_separator ≡ false
  pub prefix : is_unfit format.mantissa_radix format.base_prefix ≡ false
  pub suffix : is_unfit format.mantissa_radix format.base_suffix ≡ false
  pub apart : has_alike format ≡ false
  pub literals : has_unfit_literals format ≡ false

-- a test that a fault hangs on fails where there is no fault
test_fails : (test : Bool) (error : Error) (rest : Option Error)
    → (if test then Some error else rest) ≡ None → (test ≡ false) × (rest ≡ None)
test_fails false error rest valid = (refl, valid)
test_fails true error rest valid = cc

pub passes_rules : (format : Format) → fault format ≡ None → PassesRules format
passes_rules format valid =
    let past_radix = test_fails _ _ _ valid in
    let past_separator = test_fails _ _ _ past_radix.1 in
    let past_prefix = test_fails _ _ _ past_separator.1 in
    let past_suffix = test_fails _ _ _ past_prefix.1 in
    let past_alike = test_fails _ _ _ past_suffix.1 in
    record {
      radix = past_radix.0;
      separator = past_separator.0;
      prefix = past_prefix.0;
      suffix = past_suffix.0;
      apart = past_alike.0;
      literals = (test_fails _ _ _ past_alike.1).0;
    }

-- letter case doesn't matter to a digit
digit_value-lower : (byte : ℕ) → digit_value (lower_case byte) ≡ digit_value byte
digit_value-lower byte = grind (arith, nat_tests)

pub digit-alike : (radix byte punctuation : ℕ) → lower_case byte ≡ lower_case punctuation → digit radix byte ≡ digit radix punctuation
digit-alike radix byte punctuation alike =
    ap (value_if_below radix) (sym (digit_value-lower byte) ∙ ap digit_value alike ∙ digit_value-lower punctuation)

none_from_is_some : (found : Option ℕ) → is_some found ≡ false → found ≡ None
none_from_is_some None h = refl
none_from_is_some (Some value) h = absurd (false≢true (sym h))

fit_byte_no_digit : (radix punctuation : ℕ) → is_unfit_byte radix punctuation ≡ false → digit radix punctuation ≡ None
fit_byte_no_digit radix punctuation fit =
    let not_high = (or_parts (leb 128 punctuation) _ fit).1 in
    let not_plus = (or_parts (punctuation == 43) _ not_high).1 in
    none_from_is_some _ (or_parts (punctuation == 45) _ not_plus).1

pub fit_no_digit : (radix : ℕ) (set : Option ℕ) (punctuation byte : ℕ) → is_unfit radix set ≡ false
    → set ≡ Some punctuation → lower_case byte ≡ lower_case punctuation → digit radix byte ≡ None
fit_no_digit radix set punctuation byte fit is_set alike =
    let fit' = rw is_set at fit in
    digit-alike radix byte punctuation alike ∙ fit_byte_no_digit radix punctuation fit'

pub not_alike : (set other : Option ℕ) (punctuation byte : ℕ) → are_alike set other ≡ false → other ≡ Some punctuation
    → lower_case byte ≡ lower_case punctuation → set ≢ Some byte
not_alike set other punctuation byte apart is_punctuation alike is_byte =
    let apart' = rw (is_byte, is_punctuation, alike) at apart in
    false≢true (sym apart' ∙ eq-eqb (lower_case punctuation) (lower_case punctuation) refl)

-- the radix of a valid format is from 2 to 36
pub valid_radix : (format : Format) → fault format ≡ None → IsRadix format.mantissa_radix
valid_radix format valid =
    let passes = (passes_rules format valid).radix in
    record { low = grind (arith, nat_tests); high = grind (arith, nat_tests) }

-- what matches the separator is no digit
pub separator_no_digit : (format : Format) (separator byte : ℕ) → fault format ≡ None
    → format.digit_separator ≡ Some separator
    → lower_case byte ≡ lower_case separator → digit format.mantissa_radix byte ≡ None
separator_no_digit format separator byte valid is_set alike =
    fit_no_digit _ _ separator byte (passes_rules format valid).separator is_set alike

-- what matches the suffix is no digit
pub suffix_no_digit : (format : Format) (suffix byte : ℕ) → fault format ≡ None → format.base_suffix ≡ Some suffix
    → lower_case byte ≡ lower_case suffix → digit format.mantissa_radix byte ≡ None
suffix_no_digit format suffix byte valid is_set alike =
    fit_no_digit _ _ suffix byte (passes_rules format valid).suffix is_set alike

-- what matches the suffix is not the separator
pub suffix_no_separator : (format : Format) (suffix byte : ℕ) → fault format ≡ None → format.base_suffix ≡ Some suffix
    → lower_case byte ≡ lower_case suffix → format.digit_separator ≢ Some byte
suffix_no_separator format suffix byte valid is_set alike =
    let rest = (or_parts (are_alike format.digit_separator format.base_prefix) _ (passes_rules format valid).apart).1 in
    let apart = (or_parts (are_alike format.digit_separator format.base_suffix) _ rest).0 in
    not_alike _ _ suffix byte apart is_set alike

-- ---- literal prefixes

-- a digit of a radix is one of each greater radix
pub digit_below : (most radix byte : ℕ) → radix ≤ most → digit most byte ≡ None → digit radix byte ≡ None
digit_below most radix byte small none = by_value (digit_value byte) none
  where
    by_value : (value : Option ℕ) → value_if_below most value ≡ None → value_if_below radix value ≡ None
    by_value None h = refl
    by_value (Some value) h = by_tests (nat_lt value most) (nat_lt value radix) refl refl h
      where
        by_tests : (wide narrow : Bool) → nat_lt value most ≡ wide → nat_lt value radix ≡ narrow
            → (if wide then Some value else None) ≡ None
            → (if narrow then Some value else None) ≡ None
        by_tests true narrow w n e = cc
        by_tests false true w n e =
            let less = ltb-true value radix n in
            let more = ltb-false value most w in
            absurd (omega arith)
        by_tests false false w n e = refl

fit_beside_literals : (set : Option ℕ) (punctuation byte : ℕ) → is_unfit_beside_literals set ≡ false
    → set ≡ Some punctuation → lower_case byte ≡ lower_case punctuation → digit 16 byte ≡ None
fit_beside_literals set punctuation byte fit is_set alike =
    let fit' = rw is_set at fit in
    digit-alike 16 byte punctuation alike ∙ none_from_is_some _ (or_parts (is_some (digit 16 punctuation)) _ fit').0

-- the separator and the suffix beside literal prefixes
pub literals_fit : (format : Format) → fault format ≡ None → format.literal_prefixes ≡ true
    → (is_unfit_beside_literals format.digit_separator ≡ false) × (is_unfit_beside_literals format.base_suffix ≡ false)
literals_fit format valid asked =
    let all : has_unfit_literals format ≡ false = (passes_rules format valid).literals in
    let beside = (or_parts ((format.literal_prefixes || format.literal_octal_zero)
    && not (format.mantissa_radix == 10)) _ all).1 in
    let rules = rw asked at beside in
    let past_prefix = (or_parts (is_some format.base_prefix) _ rules).1 in
    or_parts (is_unfit_beside_literals format.digit_separator) _ past_prefix

-- what matches the separator is no digit of the effective radix behind a literal prefix
pub separator_no_literal_digit : (format : Format) (separator byte radix : ℕ) → fault format ≡ None
    → format.literal_prefixes ≡ true → radix ≤ 16
    → format.digit_separator ≡ Some separator → lower_case byte ≡ lower_case separator → digit radix byte ≡ None
separator_no_literal_digit format separator byte radix valid asked small is_set alike =
    digit_below 16 radix byte small (fit_beside_literals _ separator byte
    (literals_fit format valid asked).0 is_set alike)

-- what matches the suffix is none either
pub suffix_no_literal_digit : (format : Format) (suffix byte radix : ℕ) → fault format ≡ None
    → format.literal_prefixes ≡ true → radix ≤ 16
    → format.base_suffix ≡ Some suffix → lower_case byte ≡ lower_case suffix → digit radix byte ≡ None
suffix_no_literal_digit format suffix byte radix valid asked small is_set alike =
    digit_below 16 radix byte small (fit_beside_literals _ suffix byte (literals_fit format valid asked).1 is_set alike)

-- ---- octal zeros

-- the radix beside octal zeros
pub octal_zero_radix : (format : Format) → fault format ≡ None → format.literal_octal_zero ≡ true
    → format.mantissa_radix ≡ 10
octal_zero_radix format valid asked =
    let radix = format.mantissa_radix in
    let all : has_unfit_literals format ≡ false = (passes_rules format valid).literals in
    let first = (or_parts ((format.literal_prefixes || format.literal_octal_zero) && not (radix == 10)) _ all).0 in
    let ten : (radix == 10) ≡ true = by_flags format.literal_prefixes format.literal_octal_zero
    (radix == 10) asked first in
    grind (arith, nat_tests)
  where
    by_flags : (prefixes zero ten : Bool) → zero ≡ true → ((prefixes || zero) && not ten) ≡ false → ten ≡ true
    by_flags prefixes false ten a e = cc
    by_flags prefixes true true a e = refl
    by_flags true true false a e = cc
    by_flags false true false a e = cc
