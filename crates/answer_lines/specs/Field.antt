-- The fields that an `f` line names, and the values that it has for them.
-- Its lists of fields are written from tools/fields.txt, by `make docs`.
use Rattle.std.specs.Prelude.{ℕ, Bool, true, false, List, [], ◌∷◌, codes, Option, None, Some, Result, Ok, Err, pos, negsuc, find, option_map, if◌then◌else◌}
use Rattle.std.specs.Str.{bytes_eq}
use lib.IntN.{ℤ}
use Rattle.lexical_util.specs.declared.error.Error.{Error}
use Rattle.lexical_util.specs.Format.{standard}
use Rattle.lexical_util.specs.Number.{integer_type}
use Rattle.lexical_parse_integer.specs.Grammar.{complete}
use Rattle.answer_lines.specs.declared.field.Punctuation.{Punctuation}
use Rattle.answer_lines.specs.declared.field.Punctuation.TheVariants as punctuation
use Rattle.answer_lines.specs.declared.field.Flag.{Flag}
use Rattle.answer_lines.specs.declared.field.Flag.TheVariants as flag
use Rattle.answer_lines.specs.declared.field.Field.{Field}
use Rattle.answer_lines.specs.declared.field.Field.TheVariants as field
use Rattle.answer_lines.specs.declared.field.Change.{Change}
use Rattle.answer_lines.specs.declared.field.Change.TheVariants as change

-- ---- names

-- the name of a field that is one byte or none
abbrev pub punctuation_name : Punctuation → List ℕ
punctuation_name punctuation.DigitSeparator = codes "digit_separator"
punctuation_name punctuation.BasePrefix = codes "base_prefix"
punctuation_name punctuation.BaseSuffix = codes "base_suffix"

-- the name of a field that is true or false
abbrev pub flag_name : Flag → List ℕ
flag_name flag.CaseSensitiveBasePrefix = codes "case_sensitive_base_prefix"
flag_name flag.CaseSensitiveBaseSuffix = codes "case_sensitive_base_suffix"
flag_name flag.RequiredIntegerDigits = codes "required_integer_digits"
flag_name flag.RequiredMantissaDigits = codes "required_mantissa_digits"
flag_name flag.NoPositiveMantissaSign = codes "no_positive_mantissa_sign"
flag_name flag.RequiredMantissaSign = codes "required_mantissa_sign"
flag_name flag.NoIntegerLeadingZeros = codes "no_integer_leading_zeros"
flag_name flag.IntegerLeadingDigitSeparator = codes "integer_leading_digit_separator"
flag_name flag.IntegerInternalDigitSeparator = codes "integer_internal_digit_separator"
flag_name flag.IntegerTrailingDigitSeparator = codes "integer_trailing_digit_separator"
flag_name flag.IntegerConsecutiveDigitSeparator = codes "integer_consecutive_digit_separator"
flag_name flag.IntegerPrefixDigitSeparator = codes "integer_prefix_digit_separator"
flag_name flag.LiteralPrefixes = codes "literal_prefixes"
flag_name flag.LiteralOctalZero = codes "literal_octal_zero"

-- the name of a field
abbrev pub field_name : Field → List ℕ
field_name field.MantissaRadix = codes "mantissa_radix"
field_name (field.Punctuation punctuation) = punctuation_name punctuation
field_name (field.Flag flag) = flag_name flag
field_name field.RequiredDigits = codes "required_digits"
field_name field.NoMultiDigit = codes "no_multi_digit"

-- every field
abbrev pub all_fields : List Field
all_fields =
    field.MantissaRadix
    ∷ field.Punctuation punctuation.DigitSeparator
    ∷ field.Punctuation punctuation.BasePrefix
    ∷ field.Punctuation punctuation.BaseSuffix
    ∷ field.Flag flag.CaseSensitiveBasePrefix
    ∷ field.Flag flag.CaseSensitiveBaseSuffix
    ∷ field.Flag flag.RequiredIntegerDigits
    ∷ field.Flag flag.RequiredMantissaDigits
    ∷ field.Flag flag.NoPositiveMantissaSign
    ∷ field.Flag flag.RequiredMantissaSign
    ∷ field.Flag flag.NoIntegerLeadingZeros
    ∷ field.Flag flag.IntegerLeadingDigitSeparator
    ∷ field.Flag flag.IntegerInternalDigitSeparator
    ∷ field.Flag flag.IntegerTrailingDigitSeparator
    ∷ field.Flag flag.IntegerConsecutiveDigitSeparator
    ∷ field.Flag flag.IntegerPrefixDigitSeparator
    ∷ field.Flag flag.LiteralPrefixes
    ∷ field.Flag flag.LiteralOctalZero
    ∷ field.RequiredDigits ∷ field.NoMultiDigit ∷ []

-- the field of a name
abbrev pub field_named : List ℕ → Option Field
field_named name = find (λ field. bytes_eq name (field_name field)) all_fields

-- ---- values

-- what `true` and `false` stand for
abbrev pub truth_in : List ℕ → Option Bool
truth_in text =
    if bytes_eq text (codes "true") then Some true
    else (if bytes_eq text (codes "false") then Some false
    else None)

-- the byte of a text of one byte
abbrev pub only_byte : List ℕ → Option ℕ
only_byte [] = None
only_byte (byte ∷ []) = Some byte
only_byte (byte ∷ next ∷ more) = None

-- no byte for `none`, and the byte of a text of one byte
abbrev pub punctuation_in : List ℕ → Option (Option ℕ)
punctuation_in text =
    if bytes_eq text (codes "none") then Some None else option_map Some (only_byte text)

-- the number that an answer of an unsigned type has
abbrev pub number_in : Result ℤ Error → Option ℕ
number_in (Ok (pos number)) = Some number
number_in (Ok (negsuc number)) = None
number_in (Err fault) = None

-- the `u8` that a whole text stands for under the standard format
abbrev pub radix_in : List ℕ → Option ℕ
radix_in text = number_in (complete standard (integer_type 8 false) text)

-- the change that sets a field to what a text stands for, where it stands for a value of that field
abbrev pub change_in : Field → List ℕ → Option Change
change_in field.MantissaRadix text = option_map change.MantissaRadix (radix_in text)
change_in (field.Punctuation punctuation) text =
    option_map (change.Punctuation punctuation) (punctuation_in text)
change_in (field.Flag flag) text = option_map (change.Flag flag) (truth_in text)
change_in field.RequiredDigits text = option_map change.RequiredDigits (truth_in text)
change_in field.NoMultiDigit text = option_map change.NoMultiDigit (truth_in text)
