-- Columns with what reading them does.
use Rattle.std.specs.Prelude.{◌≡◌, ℕ, codes, List, [], ◌∷◌, pos, ℤ}
use Rattle.std.proofs.Common.{refl}
use Rattle.lexical_parse_integer.specs.Computed.{grammar}
use Rattle.lexical_fields.specs.Columns.{answer_of, numbers_of}
use Rattle.jadvolni.specs.Columns.{column_call}
use Rattle.jadvolni.specs.Effect.{unsigned}
use Rattle.jadvolni.specs.declared.format.FormatFields.{FormatFields}

-- the standard format of another radix, as C writes it, with the last byte that is reserved
abbrev fields_of : ℕ → ℕ → FormatFields
fields_of radix reserved = record {
  mantissa_radix = radix;
  digit_separator = 0;
  base_prefix = 0;
  base_suffix = 0;
  case_sensitive_base_prefix = 0;
  case_sensitive_base_suffix = 0;
  required_integer_digits = 0;
  required_mantissa_digits = 1;
  no_positive_mantissa_sign = 0;
  required_mantissa_sign = 0;
  no_integer_leading_zeros = 0;
  integer_leading_digit_separator = 0;
  integer_internal_digit_separator = 0;
  integer_trailing_digit_separator = 0;
  integer_consecutive_digit_separator = 0;
  integer_prefix_digit_separator = 0;
  literal_prefixes = 0;
  literal_octal_zero = 0;
  nul_is_punctuation = 0;
  reserved = 0 ∷ 0 ∷ 0 ∷ 0 ∷ 0 ∷ 0 ∷ 0 ∷ 0 ∷ 0 ∷ 0 ∷ 0 ∷ 0 ∷ reserved ∷ [];
}

-- an array of three, with 77 at each place
abbrev before : List ℤ
before = pos 77 ∷ pos 77 ∷ pos 77 ∷ []

-- `12,7,` has two numbers, and the last place is as it was
two_numbers : column_call (fields_of 10 0) (unsigned 8) 44 (codes "12,7,") before
    ≡ record { status = 0; place = 5; count = 2; numbers = pos 12 ∷ pos 7 ∷ pos 77 ∷ [] }
unfolding grammar answer_of numbers_of
two_numbers = refl

-- the second field of `12,7x,1` has a fault at 4, and what was read before it stands
last_byte : column_call (fields_of 10 0) (unsigned 8) 44 (codes "12,7x,1") before
    ≡ record { status = 3; place = 4; count = 1; numbers = pos 12 ∷ pos 77 ∷ pos 77 ∷ [] }
unfolding grammar answer_of numbers_of
last_byte = refl

-- the fourth field of `1,2,3,x` has no room, and stands at 6
no_room : column_call (fields_of 10 0) (unsigned 8) 44 (codes "1,2,3,x") before
    ≡ record { status = 0; place = 6; count = 3; numbers = pos 1 ∷ pos 2 ∷ pos 3 ∷ [] }
unfolding grammar answer_of numbers_of
no_room = refl

-- under an invalid format nothing is read
invalid_format : column_call (fields_of 1 0) (unsigned 8) 44 (codes "1") before
    ≡ record { status = 8; place = 0; count = 0; numbers = before }
unfolding grammar answer_of numbers_of
invalid_format = refl

-- nor under one that this version doesn't know
unknown_field : column_call (fields_of 1 5) (unsigned 8) 44 (codes "1") before
    ≡ record { status = 64; place = 0; count = 0; numbers = before }
unknown_field = refl
