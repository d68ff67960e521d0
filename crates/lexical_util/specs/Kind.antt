-- The kinds of formats: which texts a format admits, as far as a parser asks before it reads.
use Rattle.std.specs.Prelude.{◌==◌, Bool, ◌||◌, is_some, if◌then◌else◌}
use Rattle.lexical_util.specs.declared.format.kind.FormatKind.{FormatKind}
use Rattle.lexical_util.specs.declared.format.kind.FormatKind.TheVariants.{Decimal, Plain, Other, Invalid}
use Rattle.lexical_util.specs.Format.{Format}
use Rattle.lexical_util.specs.Validity.{fault}

-- punctuation is set, or a sign is required
abbrev pub is_punctuated : Format → Bool
is_punctuated format =
    is_some format.digit_separator || (is_some format.base_prefix || (is_some format.base_suffix
    || (format.literal_prefixes || (format.literal_octal_zero || format.required_mantissa_sign))))

-- the kind of a valid format
abbrev pub valid_kind : Format → FormatKind
valid_kind format =
    if is_punctuated format then Other
    else (if format.mantissa_radix == 10 then Decimal else Plain)

-- the kind of a format, valid or not
abbrev pub kind_of : Format → FormatKind
kind_of format = if is_some (fault format) then Invalid else valid_kind format
