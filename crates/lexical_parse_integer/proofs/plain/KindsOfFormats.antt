-- What the kind of a format says of it, and what the parsers answer by it.
use Rattle.std.proofs.Common.{◌≡◌, ◌∙◌, ℕ, List, refl, sym, ap, subst, Option, Some, None, Err, Result}
use Rattle.std.specs.Prelude.{IsNone}
use Rattle.lexical_util.specs.declared.error.Error.{Error}
use Rattle.lexical_util.specs.declared.format.kind.FormatKind.TheVariants.{Decimal, Plain, Other, Invalid}
use Rattle.lexical_util.specs.Format.{Format}
use Rattle.lexical_util.specs.Kind.{kind_of}
use Rattle.lexical_util.specs.Number.{IntegerType}
use Rattle.lexical_util.specs.Validity.{fault}
use Rattle.lexical_util.proofs.FormatKinds as kinds
use Rattle.lexical_parse_integer.specs.Grammar.{complete, complete_if_valid, if_valid, partial, partial_if_valid}
use Rattle.lexical_parse_integer.specs.Plain.{IsPlain}

-- ---- what a kind says

plain_from : (format : Format) → kinds.HasNone format → IsPlain format
plain_from format none = record {
  no_separator = none.no_separator;
  no_prefix = none.no_prefix;
  no_suffix = none.no_suffix;
  no_literals = none.no_literals;
  no_octal_zeros = none.no_octal_zeros;
  no_sign = none.no_sign;
}

none : (format : Format) → fault format ≡ None → IsNone (fault format)
none format e = subst IsNone (sym e) refl

pub decimal_is_plain : (format : Format) → kind_of format ≡ Decimal → IsPlain format
decimal_is_plain format is = plain_from format (kinds.decimal_none format is)

pub decimal_radix : (format : Format) → kind_of format ≡ Decimal → format.mantissa_radix ≡ 10
decimal_radix format is = kinds.decimal_radix format is

pub decimal_is_valid : (format : Format) → kind_of format ≡ Decimal → IsNone (fault format)
decimal_is_valid format is = none format (kinds.valid_unless format (λ e. let other : Decimal ≡ Invalid = sym is ∙ e in cc))

pub plain_is_plain : (format : Format) → kind_of format ≡ Plain → IsPlain format
plain_is_plain format is = plain_from format (kinds.plain_none format is)

pub plain_is_valid : (format : Format) → kind_of format ≡ Plain → IsNone (fault format)
plain_is_valid format is = none format (kinds.valid_unless format (λ e. let other : Plain ≡ Invalid = sym is ∙ e in cc))

pub other_is_valid : (format : Format) → kind_of format ≡ Other → IsNone (fault format)
other_is_valid format is = none format (kinds.valid_unless format (λ e. let other : Other ≡ Invalid = sym is ∙ e in cc))

pub plain_decimal : (format : Format) → IsPlain format → format.mantissa_radix ≡ 10 → kind_of format ≡ Decimal
plain_decimal format p ten = kinds.decimal_kind format (rw (p.no_separator, p.no_prefix, p.no_suffix, p.no_literals, p.no_octal_zeros, p.no_sign) refl) ten

-- ---- answers under formats that may be invalid

by_fault : {A : Type 0} → (o : Option Error) (answer : Result A Error) → IsNone o → answer ≡ if_valid o answer
by_fault None answer valid = refl
by_fault (Some e) answer valid = cc

pub valid_whole : (f : Format) (t : IntegerType) (text : List ℕ) → IsNone (fault f) → complete f t text ≡ complete_if_valid f t text
valid_whole f t text valid = by_fault (fault f) (complete f t text) valid

pub valid_front : (f : Format) (t : IntegerType) (text : List ℕ) → IsNone (fault f) → partial f t text ≡ partial_if_valid f t text
valid_front f t text valid = by_fault (fault f) (partial f t text) valid

pub refused : {A : Type 0} → (f : Format) (e : Error) (answer : Result A Error) → Some e ≡ fault f → Err e ≡ if_valid (fault f) answer
refused f e answer is = ap (λ (o : Option Error). if_valid o answer) is
