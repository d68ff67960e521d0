-- Which formats are valid, and which fault an invalid one has.
use Rattle.std.specs.Prelude.{◌==◌, ◌+◌, ℕ, Bool, false, ◌||◌, ◌&&◌, not, Option, Some, None, is_some, if◌then◌else◌, nat_le}
use Rattle.lexical_util.specs.Ascii.{capital_a, capital_z, letter_b, letter_o, letter_x, minus, plus}
use Rattle.lexical_util.specs.Digit.{digit, is_between}
use Rattle.lexical_util.specs.Format.{Format}
use Rattle.lexical_util.specs.declared.error.Error.{Error}
use Rattle.lexical_util.specs.declared.error.Error.TheVariants.{InvalidMantissaRadix, InvalidDigitSeparator, InvalidBasePrefix, InvalidBaseSuffix, InvalidPunctuation, InvalidLiteralPrefixes}

-- a byte that can't be punctuation: it is not ASCII, or it is `+`, `-` or a digit of the radix
abbrev pub is_unfit_byte : ℕ → ℕ → Bool
is_unfit_byte radix byte =
    nat_le 128 byte || ((byte == plus) || ((byte == minus) || is_some (digit radix byte)))

-- a separator, prefix or suffix is set, and to an unfit byte
abbrev pub is_unfit : ℕ → Option ℕ → Bool
is_unfit radix None = false
is_unfit radix (Some byte) = is_unfit_byte radix byte

-- an ASCII letter in lower case, and any other byte as it is
abbrev pub lower_case : ℕ → ℕ
lower_case byte = if is_between capital_a capital_z byte then byte + 32 else byte

-- both are set, and they are the same byte but for ASCII case
abbrev pub are_alike : Option ℕ → Option ℕ → Bool
are_alike None other = false
are_alike (Some byte) None = false
are_alike (Some byte) (Some other) = lower_case byte == lower_case other

-- two of separator, prefix and suffix are alike
abbrev pub has_alike : Format → Bool
has_alike format =
    are_alike format.digit_separator format.base_prefix
    || (are_alike format.digit_separator format.base_suffix
    || are_alike format.base_prefix format.base_suffix)

-- the byte is the letter of a literal prefix: `x`, `o` or `b`, in either case
abbrev pub is_literal_letter : ℕ → Bool
is_literal_letter byte =
    (lower_case byte == letter_x)
    || ((lower_case byte == letter_o) || (lower_case byte == letter_b))

-- a separator or suffix is set, and to a digit of radix 16 or the letter of a literal prefix
abbrev pub is_unfit_beside_literals : Option ℕ → Bool
is_unfit_beside_literals None = false
is_unfit_beside_literals (Some byte) = is_some (digit 16 byte) || is_literal_letter byte

-- literal prefixes or octal zeros are asked for beside another radix than 10, or literal prefixes beside a prefix of
-- the format's own, or an unfit separator or suffix
abbrev pub has_unfit_literals : Format → Bool
has_unfit_literals format =
    ((format.literal_prefixes || format.literal_octal_zero) && not (format.mantissa_radix == 10))
    || (format.literal_prefixes
    && (is_some format.base_prefix
    || (is_unfit_beside_literals format.digit_separator
    || is_unfit_beside_literals format.base_suffix)))

-- the first of the six rules that the format breaks, by its fault; none where the format is valid
abbrev pub fault : Format → Option Error
fault format =
    if not (is_between 2 36 format.mantissa_radix) then Some InvalidMantissaRadix
    else (if is_unfit format.mantissa_radix format.digit_separator then Some InvalidDigitSeparator
    else (if is_unfit format.mantissa_radix format.base_prefix then Some InvalidBasePrefix
    else (if is_unfit format.mantissa_radix format.base_suffix then Some InvalidBaseSuffix
    else (if has_alike format then Some InvalidPunctuation
    else (if has_unfit_literals format then Some InvalidLiteralPrefixes
    else None)))))
