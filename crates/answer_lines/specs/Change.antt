-- What a change does to the settings.
-- Its lists of fields are written from tools/fields.txt, by `make docs`.
use Rattle.std.specs.Prelude.{ℕ, Bool, Option}
use Rattle.lexical_util.specs.Format.{Format}
use Rattle.answer_lines.specs.Settings.{Settings}
use Rattle.answer_lines.specs.declared.field.Punctuation.{Punctuation}
use Rattle.answer_lines.specs.declared.field.Punctuation.TheVariants as punctuation
use Rattle.answer_lines.specs.declared.field.Flag.{Flag}
use Rattle.answer_lines.specs.declared.field.Flag.TheVariants as flag
use Rattle.answer_lines.specs.declared.field.Change.{Change}
use Rattle.answer_lines.specs.declared.field.Change.TheVariants as change

-- a format with one of its bytes set, or set to none
abbrev pub with_punctuation : Punctuation → Option ℕ → Format → Format
with_punctuation punctuation.DigitSeparator value format = record format { digit_separator = value }
with_punctuation punctuation.BasePrefix value format = record format { base_prefix = value }
with_punctuation punctuation.BaseSuffix value format = record format { base_suffix = value }

-- a format with one of its flags set to true or false
abbrev pub with_flag : Flag → Bool → Format → Format
with_flag flag.CaseSensitiveBasePrefix value format =
    record format { case_sensitive_base_prefix = value }
with_flag flag.CaseSensitiveBaseSuffix value format =
    record format { case_sensitive_base_suffix = value }
with_flag flag.RequiredIntegerDigits value format =
    record format { required_integer_digits = value }
with_flag flag.RequiredMantissaDigits value format =
    record format { required_mantissa_digits = value }
with_flag flag.NoPositiveMantissaSign value format =
    record format { no_positive_mantissa_sign = value }
with_flag flag.RequiredMantissaSign value format = record format { required_mantissa_sign = value }
with_flag flag.NoIntegerLeadingZeros value format =
    record format { no_integer_leading_zeros = value }
with_flag flag.IntegerLeadingDigitSeparator value format =
    record format { integer_leading_digit_separator = value }
with_flag flag.IntegerInternalDigitSeparator value format =
    record format { integer_internal_digit_separator = value }
with_flag flag.IntegerTrailingDigitSeparator value format =
    record format { integer_trailing_digit_separator = value }
with_flag flag.IntegerConsecutiveDigitSeparator value format =
    record format { integer_consecutive_digit_separator = value }
with_flag flag.IntegerPrefixDigitSeparator value format =
    record format { integer_prefix_digit_separator = value }
with_flag flag.LiteralPrefixes value format = record format { literal_prefixes = value }
with_flag flag.LiteralOctalZero value format = record format { literal_octal_zero = value }

-- the settings after a change: the named field has the value, and each other is as before
abbrev pub with_change : Change → Settings → Settings
with_change (change.MantissaRadix value) settings =
    record settings { format = record settings.format { mantissa_radix = value } }
with_change (change.Punctuation punctuation value) settings =
    record settings { format = with_punctuation punctuation value settings.format }
with_change (change.Flag flag value) settings =
    record settings { format = with_flag flag value settings.format }
with_change (change.RequiredDigits value) settings =
    record settings {
      format = record settings.format {
        required_integer_digits = value;
        required_mantissa_digits = value;
      };
    }
with_change (change.NoMultiDigit value) settings = record settings { no_multi_digit = value }
