-- A format as C writes it, byte by byte.
-- Its lists of fields are written from tools/fields.txt, by `make docs`.
use Rattle.std.specs.Prelude.{◌==◌, ℕ, Bool, true, ◌&&◌, not, nat_lt, List, [], ◌∷◌, Option, Some, None, if◌then◌else◌}
use Rattle.std.specs.Int.Bits.{bit_and}
use Rattle.lexical_util.specs.Format.{Format}
use Rattle.jadvolni.specs.declared.format.FormatFields.{FormatFields}

-- a flag is set by every byte but 0
abbrev pub flag : ℕ → Bool
flag byte = not (byte == 0)

-- whether the bit of this value is set in a byte
abbrev pub has_bit : ℕ → ℕ → Bool
has_bit bit byte = not (bit_and byte bit == 0)

-- a byte of punctuation: 0 is none, or the byte 0 itself if that is punctuation
abbrev pub punctuation : ℕ → Bool → Option ℕ
punctuation byte is_nul = if byte == 0 then (if is_nul then Some 0 else None) else Some byte

-- every one of the bytes is 0
abbrev pub are_zeros : List ℕ → Bool
are_zeros [] = true
are_zeros (byte ∷ bytes) = (byte == 0) && are_zeros bytes

-- the bits and bytes that are kept for later versions are 0
abbrev pub are_known : FormatFields → Bool
are_known fields = nat_lt fields.nul_is_punctuation 8 && are_zeros fields.reserved

-- the format that the fields stand for
abbrev pub format_of : FormatFields → Format
format_of fields = record {
  mantissa_radix = fields.mantissa_radix;
  digit_separator = punctuation fields.digit_separator (has_bit 1 fields.nul_is_punctuation);
  base_prefix = punctuation fields.base_prefix (has_bit 2 fields.nul_is_punctuation);
  base_suffix = punctuation fields.base_suffix (has_bit 4 fields.nul_is_punctuation);
  case_sensitive_base_prefix = flag fields.case_sensitive_base_prefix;
  case_sensitive_base_suffix = flag fields.case_sensitive_base_suffix;
  required_integer_digits = flag fields.required_integer_digits;
  required_mantissa_digits = flag fields.required_mantissa_digits;
  no_positive_mantissa_sign = flag fields.no_positive_mantissa_sign;
  required_mantissa_sign = flag fields.required_mantissa_sign;
  no_integer_leading_zeros = flag fields.no_integer_leading_zeros;
  integer_leading_digit_separator = flag fields.integer_leading_digit_separator;
  integer_internal_digit_separator = flag fields.integer_internal_digit_separator;
  integer_trailing_digit_separator = flag fields.integer_trailing_digit_separator;
  integer_consecutive_digit_separator = flag fields.integer_consecutive_digit_separator;
  integer_prefix_digit_separator = flag fields.integer_prefix_digit_separator;
  literal_prefixes = flag fields.literal_prefixes;
  literal_octal_zero = flag fields.literal_octal_zero;
}
