-- When the derived test calls two formats equal: where all their fields are.
-- Its lists of fields are written from tools/fields.txt, by `make docs`.
use Rattle.std.proofs.Common.{◌≡◌, ℕ, Bool, Option, Some, None, ◌&&◌, refl, ap, arith}
use Rattle.std.specs.Prelude.{◌==◌}
use Rattle.std.specs.Bool.{Decides}
use Rattle.std.specs.Cmp.{booleans_Decides}
use Rattle.std.specs.Option.{option_eq}
use Rattle.std.proofs.Math.Bool.{beq}
use Rattle.std.proofs.lemmas.Bool.Decides.{Decides-and, Decides-eqb, Decides-like}
use Rattle.lexical_util.specs.Format.{Format}

byte_Decides : (punctuation other : Option ℕ) → Decides (option_eq ◌==◌ punctuation other) (punctuation ≡ other)
byte_Decides None None = ((λ _. refl), (λ _. refl))
byte_Decides None (Some other) = ((λ e. cc), (λ e. cc))
byte_Decides (Some punctuation) None = ((λ e. cc), (λ e. cc))
byte_Decides (Some punctuation) (Some other) = Decides-like (punctuation == other) (ap Some) (λ e. cc) (Decides-eqb punctuation other)

both : {P Q : Type 0} {x y : Bool} → Decides x P → Decides y Q → Decides (x && y) (P × Q)
both {x = x} {y = y} = Decides-and x y

-- the fields of two formats are the same
abbrev HaveSameFields : Format → Format → Type 0
HaveSameFields format other =
    (format.mantissa_radix ≡ other.mantissa_radix)
    × ((format.case_sensitive_base_prefix ≡ other.case_sensitive_base_prefix)
    × ((format.case_sensitive_base_suffix ≡ other.case_sensitive_base_suffix)
    × ((format.required_integer_digits ≡ other.required_integer_digits)
    × ((format.required_mantissa_digits ≡ other.required_mantissa_digits)
    × ((format.no_positive_mantissa_sign ≡ other.no_positive_mantissa_sign)
    × ((format.required_mantissa_sign ≡ other.required_mantissa_sign)
    × ((format.no_integer_leading_zeros ≡ other.no_integer_leading_zeros)
    × ((format.integer_leading_digit_separator ≡ other.integer_leading_digit_separator)
    × ((format.integer_internal_digit_separator ≡ other.integer_internal_digit_separator)
    × ((format.integer_trailing_digit_separator ≡ other.integer_trailing_digit_separator)
    × ((format.integer_consecutive_digit_separator ≡ other.integer_consecutive_digit_separator)
    × ((format.integer_prefix_digit_separator ≡ other.integer_prefix_digit_separator)
    × ((format.literal_prefixes ≡ other.literal_prefixes)
    × ((format.literal_octal_zero ≡ other.literal_octal_zero)
    × ((format.digit_separator ≡ other.digit_separator)
    × ((format.base_prefix ≡ other.base_prefix)
    × ((format.base_suffix ≡ other.base_suffix))))))))))))))))))

same_from_fields : (format other : Format) → HaveSameFields format other → format ≡ other
same_from_fields format other same = grind arith

fields_from_same : (format other : Format) → format ≡ other → HaveSameFields format other
fields_from_same format other same = grind arith

-- the derived test, in the order of the struct's fields
abbrev pub format_eq : Format → Format → Bool
format_eq format other =
    (format.mantissa_radix == other.mantissa_radix)
    && (beq format.case_sensitive_base_prefix other.case_sensitive_base_prefix
    && (beq format.case_sensitive_base_suffix other.case_sensitive_base_suffix
    && (beq format.required_integer_digits other.required_integer_digits
    && (beq format.required_mantissa_digits other.required_mantissa_digits
    && (beq format.no_positive_mantissa_sign other.no_positive_mantissa_sign
    && (beq format.required_mantissa_sign other.required_mantissa_sign
    && (beq format.no_integer_leading_zeros other.no_integer_leading_zeros
    && (beq format.integer_leading_digit_separator other.integer_leading_digit_separator
    && (beq format.integer_internal_digit_separator other.integer_internal_digit_separator
    && (beq format.integer_trailing_digit_separator other.integer_trailing_digit_separator
    && (beq format.integer_consecutive_digit_separator other.integer_consecutive_digit_separator
    && (beq format.integer_prefix_digit_separator other.integer_prefix_digit_separator
    && (beq format.literal_prefixes other.literal_prefixes
    && (beq format.literal_octal_zero other.literal_octal_zero
    && (option_eq ◌==◌ format.digit_separator other.digit_separator
    && (option_eq ◌==◌ format.base_prefix other.base_prefix
    && (option_eq ◌==◌ format.base_suffix other.base_suffix)))))))))))))))))

-- it says whether two formats are equal
pub format_eq_decides : (format other : Format) → Decides (format_eq format other) (format ≡ other)
format_eq_decides format other =
    Decides-like _ (same_from_fields format other) (fields_from_same format other)
    (search (both, Decides-eqb, booleans_Decides, byte_Decides) depth 100)
