-- What the settings come to: each field has the value that the last accepted `f` line after the last
-- `r` line gave it.
-- Its lists of fields are written from tools/fields.txt, by `make docs`.
use Rattle.std.specs.Prelude.{◌≡◌, ℕ, Bool, true, List, [], ◌∷◌, ◌++◌, codes, Option, None, Some, ◌||◌, fold, if◌then◌else◌}
use Rattle.std.specs.List.{after_last, filter_map}
use Rattle.std.specs.Str.{bytes_eq}
use Rattle.lexical_util.specs.Ascii.{line_feed}
use Rattle.lexical_util.specs.Format.{Format, standard}
use Rattle.answer_lines.specs.Command.{Command, command_in, parse_complete, parse_partial, list_tokens, change, reset}
use Rattle.answer_lines.specs.Field.{flag_name, punctuation_name}
use Rattle.answer_lines.specs.Output.{answer_to, answers_to, settings_after}
use Rattle.answer_lines.specs.Settings.{Settings, standard_settings}
use Rattle.answer_lines.specs.declared.field.Punctuation.{Punctuation}
use Rattle.answer_lines.specs.declared.field.Punctuation.TheVariants as punctuation
use Rattle.answer_lines.specs.declared.field.Flag.{Flag}
use Rattle.answer_lines.specs.declared.field.Flag.TheVariants as flag
use Rattle.answer_lines.specs.declared.field.Change.{Change}
use Rattle.answer_lines.specs.declared.field.Change.TheVariants as set

-- ---- fields

-- the value of a byte of punctuation in a format
abbrev pub punctuation_value : Punctuation → Format → Option ℕ
punctuation_value punctuation.DigitSeparator format = format.digit_separator
punctuation_value punctuation.BasePrefix format = format.base_prefix
punctuation_value punctuation.BaseSuffix format = format.base_suffix

-- the value of a flag in a format
abbrev pub flag_value : Flag → Format → Bool
flag_value flag.CaseSensitiveBasePrefix format = format.case_sensitive_base_prefix
flag_value flag.CaseSensitiveBaseSuffix format = format.case_sensitive_base_suffix
flag_value flag.RequiredIntegerDigits format = format.required_integer_digits
flag_value flag.RequiredMantissaDigits format = format.required_mantissa_digits
flag_value flag.NoPositiveMantissaSign format = format.no_positive_mantissa_sign
flag_value flag.RequiredMantissaSign format = format.required_mantissa_sign
flag_value flag.NoIntegerLeadingZeros format = format.no_integer_leading_zeros
flag_value flag.IntegerLeadingDigitSeparator format = format.integer_leading_digit_separator
flag_value flag.IntegerInternalDigitSeparator format = format.integer_internal_digit_separator
flag_value flag.IntegerTrailingDigitSeparator format = format.integer_trailing_digit_separator
flag_value flag.IntegerConsecutiveDigitSeparator format = format.integer_consecutive_digit_separator
flag_value flag.IntegerPrefixDigitSeparator format = format.integer_prefix_digit_separator
flag_value flag.LiteralPrefixes format = format.literal_prefixes
flag_value flag.LiteralOctalZero format = format.literal_octal_zero

-- ---- what a change gives a field

-- the radix that a change gives
abbrev pub radix_given : Change → Option ℕ
radix_given (set.MantissaRadix value) = Some value
radix_given (set.Punctuation punctuation value) = None
radix_given (set.Flag flag value) = None
radix_given (set.RequiredDigits value) = None
radix_given (set.NoMultiDigit value) = None

-- the value that a change gives a byte of punctuation
abbrev pub punctuation_given : Punctuation → Change → Option (Option ℕ)
punctuation_given punctuation (set.Punctuation other value) =
    if bytes_eq (punctuation_name punctuation) (punctuation_name other) then Some value else None
punctuation_given punctuation (set.MantissaRadix value) = None
punctuation_given punctuation (set.Flag flag value) = None
punctuation_given punctuation (set.RequiredDigits value) = None
punctuation_given punctuation (set.NoMultiDigit value) = None

-- whether `required_digits` sets a flag
abbrev pub is_required_digits : Flag → Bool
is_required_digits flag =
    bytes_eq (flag_name flag) (codes "required_integer_digits")
    || bytes_eq (flag_name flag) (codes "required_mantissa_digits")

-- the value that a change gives a flag
abbrev pub flag_given : Flag → Change → Option Bool
flag_given flag (set.Flag other value) =
    if bytes_eq (flag_name flag) (flag_name other) then Some value else None
flag_given flag (set.RequiredDigits value) = if is_required_digits flag then Some value else None
flag_given flag (set.MantissaRadix value) = None
flag_given flag (set.Punctuation punctuation value) = None
flag_given flag (set.NoMultiDigit value) = None

-- the value that a change gives the options' `no_multi_digit`
abbrev pub no_multi_digit_given : Change → Option Bool
no_multi_digit_given (set.NoMultiDigit value) = Some value
no_multi_digit_given (set.MantissaRadix value) = None
no_multi_digit_given (set.Punctuation punctuation value) = None
no_multi_digit_given (set.Flag flag value) = None
no_multi_digit_given (set.RequiredDigits value) = None

-- ---- what lines give

-- the change that a command makes
abbrev pub change_made : Option Command → Option Change
change_made None = None
change_made (Some (parse_complete type text)) = None
change_made (Some (parse_partial type text)) = None
change_made (Some (list_tokens text)) = None
change_made (Some (change asked)) = Some asked
change_made (Some reset) = None

-- whether a line is `r`
abbrev pub is_reset : List ℕ → Bool
is_reset line = bytes_eq line (codes "r")

-- the changes that the accepted `f` lines after the last `r` line make, in order
abbrev pub changes_since_reset : List (List ℕ) → List Change
changes_since_reset lines =
    filter_map (λ line. change_made (command_in line)) (after_last is_reset lines)

-- the last of a value and those behind it
abbrev pub last_of : {A : Type 0} → A → List A → A
last_of value [] = value
last_of value (next ∷ more) = last_of next more

-- each field has the value that the last of the changes to it gave, and where there is none the
-- standard one
pub record HoldsLastGiven (changes : List Change) (settings : Settings) : Type 0 where
  pub radix : settings.format.mantissa_radix
      ≡ last_of standard.mantissa_radix (filter_map radix_given changes)
  pub punctuation : (punctuation : Punctuation) → punctuation_value punctuation settings.format
      ≡ last_of (punctuation_value punctuation standard)
      (filter_map (punctuation_given punctuation) changes)
  pub flag : (flag : Flag) → flag_value flag settings.format
      ≡ last_of (flag_value flag standard) (filter_map (flag_given flag) changes)
  pub no_multi_digit : settings.no_multi_digit
      ≡ last_of true (filter_map no_multi_digit_given changes)

-- the settings that lines leave, which the line behind them is answered under
abbrev pub settings_left : List (List ℕ) → Settings
settings_left lines = fold settings_after standard_settings lines

-- the settings that these lines leave hold what was last given
abbrev pub LeavesLastGiven : List (List ℕ) → Type 0
LeavesLastGiven lines = HoldsLastGiven (changes_since_reset lines) (settings_left lines)

-- a line between others is answered under the settings that the lines before it leave
abbrev pub IsAnsweredInTurn : List (List ℕ) → List ℕ → List (List ℕ) → Type 0
IsAnsweredInTurn before line after =
    answers_to standard_settings (before ++ line ∷ after)
    ≡ answers_to standard_settings before
    ++ (answer_to (settings_left before) line ++ line_feed ∷ []
    ++ answers_to (settings_left (before ++ line ∷ [])) after)
