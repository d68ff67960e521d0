-- Formats, as contracts see them: the records of their fields.
-- Its lists of fields are written from tools/fields.txt, by `make docs`.
use Rattle.std.specs.Prelude.{ℕ, Bool, true, false, Option, None}

-- What a format says of the texts that it admits. `NumberFormat` has a getter for each field, which says what it does.
pub record Format : Type 0 where
  pub mantissa_radix : ℕ
  pub digit_separator : Option ℕ
  pub base_prefix : Option ℕ
  pub base_suffix : Option ℕ
  pub case_sensitive_base_prefix : Bool
  pub case_sensitive_base_suffix : Bool
  pub required_integer_digits : Bool
  pub required_mantissa_digits : Bool
  pub no_positive_mantissa_sign : Bool
  pub required_mantissa_sign : Bool
  pub no_integer_leading_zeros : Bool
  pub integer_leading_digit_separator : Bool
  pub integer_internal_digit_separator : Bool
  pub integer_trailing_digit_separator : Bool
  pub integer_consecutive_digit_separator : Bool
  pub integer_prefix_digit_separator : Bool
  pub literal_prefixes : Bool
  pub literal_octal_zero : Bool

-- radix 10, and a digit is required
abbrev pub standard : Format
standard = record {
  mantissa_radix = 10;
  digit_separator = None;
  base_prefix = None;
  base_suffix = None;
  case_sensitive_base_prefix = false;
  case_sensitive_base_suffix = false;
  required_integer_digits = false;
  required_mantissa_digits = true;
  no_positive_mantissa_sign = false;
  required_mantissa_sign = false;
  no_integer_leading_zeros = false;
  integer_leading_digit_separator = false;
  integer_internal_digit_separator = false;
  integer_trailing_digit_separator = false;
  integer_consecutive_digit_separator = false;
  integer_prefix_digit_separator = false;
  literal_prefixes = false;
  literal_octal_zero = false;
}

-- the integers of JSON: a digit is required, no plus is read, and no zero stands in front of another digit
abbrev pub json : Format
json = record standard {
  required_integer_digits = true;
  no_positive_mantissa_sign = true;
  no_integer_leading_zeros = true;
}
