-- What the kind of a format says of its fields, and the other way round.
use Rattle.std.proofs.Common.{◌≡◌, ◌∙◌, ℕ, Bool, true, false, not, is_some, Option, Some, None, if◌then◌else◌, refl, sym, ap, subst, arith}
use Rattle.std.specs.Prelude.{◌==◌, ◌≢◌, ◌≤◌, ◌||◌, IsNone}
use Rattle.std.proofs.lemmas.Bool.{or_parts}
use Rattle.std.proofs.lemmas.Bool.Decides.{nat_tests}
use Rattle.lexical_util.specs.declared.error.Error.{Error}
use Rattle.lexical_util.specs.declared.error.Error.TheVariants.{InvalidMantissaRadix}
use Rattle.lexical_util.specs.declared.format.kind.FormatKind.{FormatKind}
use Rattle.lexical_util.specs.declared.format.kind.FormatKind.TheVariants.{Decimal, Plain, Other, Invalid}
use Rattle.lexical_util.specs.Digit.{is_between}
use Rattle.lexical_util.specs.Format.{Format}
use Rattle.lexical_util.specs.Kind.{is_punctuated, kind_of, valid_kind}
use Rattle.lexical_util.specs.Validity.{fault, has_alike, has_unfit_literals, is_unfit}

-- ---- the kind by the fault

abbrev kind_by : Format → Option Error → FormatKind
kind_by format broken = if is_some broken then Invalid else valid_kind format

pub kind_with : (format : Format) (broken : Option Error) → broken ≡ fault format → kind_of format ≡ (if is_some broken then Invalid else valid_kind format)
kind_with format broken is = ap (λ (o : Option Error). if is_some o then Invalid else valid_kind format) (sym is)

-- a valid format with punctuation
pub other_kind : (format : Format) → fault format ≡ None → is_punctuated format ≡ true → kind_of format ≡ Other
other_kind format valid punctuated = kind_with format None (sym valid) ∙ rw punctuated refl

-- ---- formats without punctuation

no_some : (set : Option ℕ) → is_some set ≡ false → set ≡ None
no_some None h = refl
no_some (Some byte) h = cc

-- The fields of a format without punctuation that requires no sign.
pub record HasNone (format : Format) : Type 0 where
  pub no_separator : format.digit_separator ≡ None
  pub no_prefix : format.base_prefix ≡ None
  pub no_suffix : format.base_suffix ≡ None
  pub no_literals : format.literal_prefixes ≡ false
  pub no_octal_zeros : format.literal_octal_zero ≡ false
  pub no_sign : format.required_mantissa_sign ≡ false

pub has_none : (format : Format) → is_punctuated format ≡ false → HasNone format
has_none format h =
    let separator = or_parts (is_some format.digit_separator) _ h in
    let prefix = or_parts (is_some format.base_prefix) _ separator.1 in
    let suffix = or_parts (is_some format.base_suffix) _ prefix.1 in
    let literals = or_parts format.literal_prefixes _ suffix.1 in
    let octal = or_parts format.literal_octal_zero _ literals.1 in
    record {
      no_separator = no_some format.digit_separator separator.0;
      no_prefix = no_some format.base_prefix prefix.0;
      no_suffix = no_some format.base_suffix suffix.0;
      no_literals = literals.0;
      no_octal_zeros = octal.0;
      no_sign = octal.1;
    }

-- such a format can break the rule on its radix alone
pub fault_is : (format : Format) → is_punctuated format ≡ false → fault format ≡ (if not (is_between 2 36 format.mantissa_radix) then Some InvalidMantissaRadix else None)
fault_is format h =
    let none = has_none format h in
    rw (none.no_separator, none.no_prefix, none.no_suffix, none.no_literals, none.no_octal_zeros) refl

pub kind_is : (format : Format) → is_punctuated format ≡ false → kind_of format ≡ (if not (is_between 2 36 format.mantissa_radix) then Invalid else (if format.mantissa_radix == 10 then Decimal else Plain))
kind_is format h =
    kind_with format _ (sym (fault_is format h)) ∙ by_radix (not (is_between 2 36 format.mantissa_radix)) ∙ rw h refl
  where
    by_radix : (outside : Bool) → kind_by format (if outside then Some InvalidMantissaRadix else None) ≡ (if outside then Invalid else valid_kind format)
    by_radix true = refl
    by_radix false = refl

pub decimal_kind : (format : Format) → is_punctuated format ≡ false → format.mantissa_radix ≡ 10 → kind_of format ≡ Decimal
decimal_kind format h ten = kind_is format h ∙ rw ten refl

pub outside_kind : (format : Format) → is_punctuated format ≡ false → is_between 2 36 format.mantissa_radix ≡ false → kind_of format ≡ Invalid
outside_kind format h outside = kind_is format h ∙ rw outside refl

pub plain_kind : (format : Format) → is_punctuated format ≡ false → is_between 2 36 format.mantissa_radix ≡ true → format.mantissa_radix ≢ 10 → kind_of format ≡ Plain
plain_kind format h within other =
    let no_ten : (format.mantissa_radix == 10) ≡ false = grind (arith, nat_tests) in
    kind_is format h ∙ rw (within, no_ten) refl

-- ---- what a kind says

by_no_fault : (broken : Option Error) (rest : FormatKind) → (if is_some broken then Invalid else rest) ≢ Invalid → broken ≡ None
by_no_fault None rest h = refl
by_no_fault (Some error) rest h = absurd (h refl)

pub fault_none : (kind : FormatKind) (fields format : Format) → kind ≡ kind_of fields → fields ≡ format → kind ≢ Invalid → fault format ≡ None
fault_none kind fields format is same other = by_no_fault (fault format) (valid_kind format) (λ e. other (is ∙ ap kind_of same ∙ e))

-- What the tests that make a kind were.
record Made (broken : Option Error) (punctuated ten : Bool) (kind : FormatKind) : Type 0 where
  valid : broken ≡ None
  tests : (if punctuated then Other else (if ten then Decimal else Plain)) ≡ kind

made : (broken : Option Error) (punctuated ten : Bool) (kind : FormatKind) → kind ≢ Invalid → (if is_some broken then Invalid else (if punctuated then Other else (if ten then Decimal else Plain))) ≡ kind → Made broken punctuated ten kind
made None punctuated ten kind other is = record { valid = refl; tests = is }
made (Some error) punctuated ten kind other is = absurd (other (sym is))

decimal_tests : (punctuated ten : Bool) → (if punctuated then Other else (if ten then Decimal else Plain)) ≡ Decimal → (punctuated ≡ false) × (ten ≡ true)
decimal_tests true ten is = cc
decimal_tests false true is = (refl, refl)
decimal_tests false false is = cc

plain_tests : (punctuated ten : Bool) → (if punctuated then Other else (if ten then Decimal else Plain)) ≡ Plain → punctuated ≡ false
plain_tests true ten is = cc
plain_tests false ten is = refl

pub valid_unless : (format : Format) → kind_of format ≢ Invalid → fault format ≡ None
valid_unless format other = by_no_fault (fault format) (valid_kind format) other

pub decimal_none : (format : Format) → kind_of format ≡ Decimal → HasNone format
decimal_none format is = has_none format (decimal_tests _ _ (made (fault format) (is_punctuated format) (format.mantissa_radix == 10) Decimal (λ e. cc) is).tests).0

pub decimal_radix : (format : Format) → kind_of format ≡ Decimal → format.mantissa_radix ≡ 10
decimal_radix format is =
    let ten : (format.mantissa_radix == 10) ≡ true = (decimal_tests _ _ (made (fault format) (is_punctuated format) (format.mantissa_radix == 10) Decimal (λ e. cc) is).tests).1 in
    grind (arith, nat_tests)

pub plain_none : (format : Format) → kind_of format ≡ Plain → HasNone format
plain_none format is = has_none format (plain_tests _ _ (made (fault format) (is_punctuated format) (format.mantissa_radix == 10) Plain (λ e. cc) is).tests)

-- an invalid format has a fault
pub invalid_fault : (format : Format) → kind_of format ≡ Invalid → is_some (fault format) ≡ true
invalid_fault format is = by_fault (fault format) (is_punctuated format) (format.mantissa_radix == 10) is
  where
    by_fault : (broken : Option Error) (punctuated ten : Bool) → (if is_some broken then Invalid else (if punctuated then Other else (if ten then Decimal else Plain))) ≡ Invalid → is_some broken ≡ true
    by_fault (Some error) punctuated ten is = refl
    by_fault None true ten is = cc
    by_fault None false true is = cc
    by_fault None false false is = cc
