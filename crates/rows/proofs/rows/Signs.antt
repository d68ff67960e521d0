-- Test vectors: signs, and digits that are missing.
-- Written by tools/rows.py from tools/rows.txt: make rows writes it anew.
use Rattle.std.specs.Prelude.{[], ◌∷◌, codes, pos, Some, true, false, Ok, Err}
use Rattle.std.proofs.Common.{refl}
use Rattle.lexical_util.specs.declared.error.Error.TheVariants.{InvalidDigit, Empty, MissingSign, InvalidPositiveSign}
use Rattle.lexical_util.specs.Format.{standard}
use Rattle.lexical_parse_integer.specs.Computed.{grammar}
use Rattle.lexical_parse_integer.specs.Grammar.{complete, partial}
use Rattle.rows.proofs.Tables.{Answers, minus, u8, u16, u32, u64, u128, i8, i16, i32, i64, i128, usize, isize}

-- ---- a zero alone, for every type

zero_complete : Answers complete (
    (standard, u8, codes "0", Ok (pos 0)) ∷
    (standard, u16, codes "0", Ok (pos 0)) ∷
    (standard, u32, codes "0", Ok (pos 0)) ∷
    (standard, u64, codes "0", Ok (pos 0)) ∷
    (standard, u128, codes "0", Ok (pos 0)) ∷
    (standard, usize, codes "0", Ok (pos 0)) ∷
    (standard, i8, codes "0", Ok (pos 0)) ∷
    (standard, i16, codes "0", Ok (pos 0)) ∷
    (standard, i32, codes "0", Ok (pos 0)) ∷
    (standard, i64, codes "0", Ok (pos 0)) ∷
    (standard, i128, codes "0", Ok (pos 0)) ∷
    (standard, isize, codes "0", Ok (pos 0)) ∷
    [])
unfolding grammar
zero_complete = refl

-- ---- the complete parser asks for the whole text, for every type

a_byte_behind_the_digits_complete : Answers complete (
    (standard, u8, codes "1a", Err (InvalidDigit 1)) ∷
    (standard, u16, codes "1a", Err (InvalidDigit 1)) ∷
    (standard, u32, codes "1a", Err (InvalidDigit 1)) ∷
    (standard, u64, codes "1a", Err (InvalidDigit 1)) ∷
    (standard, u128, codes "1a", Err (InvalidDigit 1)) ∷
    (standard, usize, codes "1a", Err (InvalidDigit 1)) ∷
    (standard, i8, codes "1a", Err (InvalidDigit 1)) ∷
    (standard, i16, codes "1a", Err (InvalidDigit 1)) ∷
    (standard, i32, codes "1a", Err (InvalidDigit 1)) ∷
    (standard, i64, codes "1a", Err (InvalidDigit 1)) ∷
    (standard, i128, codes "1a", Err (InvalidDigit 1)) ∷
    (standard, isize, codes "1a", Err (InvalidDigit 1)) ∷
    [])
unfolding grammar
a_byte_behind_the_digits_complete = refl

-- ---- a minus is a sign for signed types

minus_for_signed_complete : Answers complete (
    (standard, i8, codes "-1", Ok (minus 1)) ∷
    (standard, i16, codes "-1", Ok (minus 1)) ∷
    (standard, i32, codes "-1", Ok (minus 1)) ∷
    (standard, i64, codes "-1", Ok (minus 1)) ∷
    (standard, i128, codes "-1", Ok (minus 1)) ∷
    (standard, isize, codes "-1", Ok (minus 1)) ∷
    [])
unfolding grammar
minus_for_signed_complete = refl

-- ---- a minus is no sign for unsigned types, and stops them at once

minus_for_unsigned_complete : Answers complete (
    (standard, u8, codes "-1", Err (InvalidDigit 0)) ∷
    (standard, u16, codes "-1", Err (InvalidDigit 0)) ∷
    (standard, u32, codes "-1", Err (InvalidDigit 0)) ∷
    (standard, u64, codes "-1", Err (InvalidDigit 0)) ∷
    (standard, u128, codes "-1", Err (InvalidDigit 0)) ∷
    (standard, usize, codes "-1", Err (InvalidDigit 0)) ∷
    -- also before a zero
    (standard, u8, codes "-0", Err (InvalidDigit 0)) ∷
    [])
unfolding grammar
minus_for_unsigned_complete = refl

minus_for_unsigned_partial : Answers partial (
    (standard, u8, codes "-1", Ok (pos 0, 0)) ∷
    (standard, u16, codes "-1", Ok (pos 0, 0)) ∷
    (standard, u32, codes "-1", Ok (pos 0, 0)) ∷
    (standard, u64, codes "-1", Ok (pos 0, 0)) ∷
    (standard, u128, codes "-1", Ok (pos 0, 0)) ∷
    (standard, usize, codes "-1", Ok (pos 0, 0)) ∷
    [])
unfolding grammar
minus_for_unsigned_partial = refl

-- ---- the partial parser reads sign and digits, and stops at the first other byte

signed_front_partial : Answers partial (
    (standard, u32, codes "12345", Ok (pos 12345, 5)) ∷
    (standard, u32, codes "+12345", Ok (pos 12345, 6)) ∷
    (standard, u32, codes "-12345", Ok (pos 0, 0)) ∷
    (standard, i32, codes "12345", Ok (pos 12345, 5)) ∷
    (standard, i32, codes "+12345", Ok (pos 12345, 6)) ∷
    (standard, i32, codes "-12345", Ok (minus 12345, 6)) ∷
    (standard, i32, codes "+123.45", Ok (pos 123, 4)) ∷
    (standard, u128, codes "12345", Ok (pos 12345, 5)) ∷
    (standard, u128, codes "+12345", Ok (pos 12345, 6)) ∷
    (standard, u128, codes "-12345", Ok (pos 0, 0)) ∷
    (standard, i128, codes "12345", Ok (pos 12345, 5)) ∷
    (standard, i128, codes "+12345", Ok (pos 12345, 6)) ∷
    (standard, i128, codes "-12345", Ok (minus 12345, 6)) ∷
    (standard, i128, codes "+123.45", Ok (pos 123, 4)) ∷
    (standard, i8, codes "1", Ok (pos 1, 1)) ∷
    (standard, i8, codes "1a", Ok (pos 1, 1)) ∷
    (standard, i8, codes "-1", Ok (minus 1, 2)) ∷
    (standard, i8, codes "-1a", Ok (minus 1, 2)) ∷
    [])
unfolding grammar
signed_front_partial = refl

-- ---- one sign is read, and a second one is no digit

one_sign_complete : Answers complete (
    (standard, i16, codes "+-0000", Err (InvalidDigit 1)) ∷
    (standard, i128, codes "+-0000", Err (InvalidDigit 1)) ∷
    -- the minus is read, and the plus stands where a digit is asked for
    (standard, i32, codes "-+1", Err (InvalidDigit 1)) ∷
    (standard, i32, codes "--1", Err (InvalidDigit 1)) ∷
    [])
unfolding grammar
one_sign_complete = refl

-- ---- a zero behind a minus is zero

negative_zero_complete : Answers complete (
    (standard, i32, codes "-0", Ok (pos 0)) ∷
    [])
unfolding grammar
negative_zero_complete = refl

negative_zero_partial : Answers partial (
    (standard, i32, codes "-0", Ok (pos 0, 2)) ∷
    [])
unfolding grammar
negative_zero_partial = refl

-- ---- a digit is asked for, and there is none

no_digit_complete : Answers complete (
    (standard, u8, codes "", Err (Empty 0)) ∷
    (standard, u8, codes "+", Err (Empty 1)) ∷
    (standard, i32, codes "+", Err (Empty 1)) ∷
    [])
unfolding grammar
no_digit_complete = refl

no_digit_partial : Answers partial (
    -- the text ends where a digit is asked for
    (standard, i32, codes "", Err (Empty 0)) ∷
    (standard, i32, codes "+", Err (Empty 1)) ∷
    -- another byte follows, and the format has no separator
    (standard, i32, codes "+a", Ok (pos 0, 1)) ∷
    (standard, i64, codes "x", Ok (pos 0, 0)) ∷
    [])
unfolding grammar
no_digit_partial = refl

-- ---- no digit is asked for

digits_optional_complete : Answers complete (
    (record standard { required_mantissa_digits = false }, i32, codes "", Ok (pos 0)) ∷
    (record standard { required_mantissa_digits = false }, i32, codes "+", Ok (pos 0)) ∷
    (record standard { required_mantissa_digits = false }, i32, codes "+a", Err (InvalidDigit 1)) ∷
    [])
unfolding grammar
digits_optional_complete = refl

digits_optional_partial : Answers partial (
    (record standard { required_mantissa_digits = false }, i32, codes "", Ok (pos 0, 0)) ∷
    (record standard { required_mantissa_digits = false }, i32, codes "+", Ok (pos 0, 1)) ∷
    (record standard { required_mantissa_digits = false }, i32, codes "+a", Ok (pos 0, 1)) ∷
    [])
unfolding grammar
digits_optional_partial = refl

-- ---- each of the two flags that ask for digits does so alone

integer_digits_alone_complete : Answers complete (
    -- required_integer_digits is set, required_mantissa_digits is not
    (record standard { required_integer_digits = true; required_mantissa_digits = false }, i32, codes "", Err (Empty 0)) ∷
    (record standard { required_integer_digits = true; required_mantissa_digits = false }, i32, codes "+", Err (Empty 1)) ∷
    -- the byte that is left over comes before the missing digit
    (record standard { required_integer_digits = true; required_mantissa_digits = false }, i32, codes "+a", Err (InvalidDigit 1)) ∷
    (record standard { required_integer_digits = true; required_mantissa_digits = false }, i32, codes "1", Ok (pos 1)) ∷
    [])
unfolding grammar
integer_digits_alone_complete = refl

integer_digits_alone_partial : Answers partial (
    (record standard { required_integer_digits = true; required_mantissa_digits = false }, i32, codes "", Err (Empty 0)) ∷
    (record standard { required_integer_digits = true; required_mantissa_digits = false }, i32, codes "+a", Ok (pos 0, 1)) ∷
    -- the format has a separator
    (record standard { required_integer_digits = true; required_mantissa_digits = false; digit_separator = Some 95 }, i32, codes "+a", Err (Empty 1)) ∷
    [])
unfolding grammar
integer_digits_alone_partial = refl

-- ---- a plus is refused

no_plus_complete : Answers complete (
    (record standard { no_positive_mantissa_sign = true }, i32, codes "+1", Err (InvalidPositiveSign 0)) ∷
    (record standard { no_positive_mantissa_sign = true }, i32, codes "-1", Ok (minus 1)) ∷
    (record standard { no_positive_mantissa_sign = true }, i32, codes "1", Ok (pos 1)) ∷
    [])
unfolding grammar
no_plus_complete = refl

no_plus_partial : Answers partial (
    (record standard { no_positive_mantissa_sign = true }, i32, codes "+1", Err (InvalidPositiveSign 0)) ∷
    [])
unfolding grammar
no_plus_partial = refl

-- ---- a sign is asked for

sign_required_complete : Answers complete (
    (record standard { required_mantissa_sign = true }, i32, codes "1", Err (MissingSign 0)) ∷
    (record standard { required_mantissa_sign = true }, i32, codes "", Err (MissingSign 0)) ∷
    (record standard { required_mantissa_sign = true }, u8, codes "", Err (MissingSign 0)) ∷
    (record standard { required_mantissa_sign = true }, u32, codes "-1", Err (MissingSign 0)) ∷
    (record standard { required_mantissa_sign = true }, i32, codes "-1", Ok (minus 1)) ∷
    (record standard { required_mantissa_sign = true }, i32, codes "+1", Ok (pos 1)) ∷
    [])
unfolding grammar
sign_required_complete = refl

sign_required_partial : Answers partial (
    (record standard { required_mantissa_sign = true }, i32, codes "1", Err (MissingSign 0)) ∷
    [])
unfolding grammar
sign_required_partial = refl

-- ---- a sign is asked for, and a plus is refused

minus_required_complete : Answers complete (
    (record standard { no_positive_mantissa_sign = true; required_mantissa_sign = true }, i32, codes "+1", Err (InvalidPositiveSign 0)) ∷
    (record standard { no_positive_mantissa_sign = true; required_mantissa_sign = true }, i32, codes "1", Err (MissingSign 0)) ∷
    (record standard { no_positive_mantissa_sign = true; required_mantissa_sign = true }, i32, codes "-1", Ok (minus 1)) ∷
    [])
unfolding grammar
minus_required_complete = refl

-- ---- the sign's fault comes before each other fault

sign_first_complete : Answers complete (
    (record standard { no_positive_mantissa_sign = true; base_prefix = Some 120 }, i32, codes "+0x", Err (InvalidPositiveSign 0)) ∷
    (record standard { no_positive_mantissa_sign = true; no_integer_leading_zeros = true }, i32, codes "+01", Err (InvalidPositiveSign 0)) ∷
    (record standard { no_positive_mantissa_sign = true }, u8, codes "+256", Err (InvalidPositiveSign 0)) ∷
    (record standard { no_positive_mantissa_sign = true }, i32, codes "+x", Err (InvalidPositiveSign 0)) ∷
    (record standard { no_positive_mantissa_sign = true }, i32, codes "+", Err (InvalidPositiveSign 0)) ∷
    (record standard { required_mantissa_sign = true; base_prefix = Some 120 }, i32, codes "0x", Err (MissingSign 0)) ∷
    (record standard { required_mantissa_sign = true; no_integer_leading_zeros = true }, i32, codes "01", Err (MissingSign 0)) ∷
    (record standard { required_mantissa_sign = true }, u8, codes "256", Err (MissingSign 0)) ∷
    [])
unfolding grammar
sign_first_complete = refl

sign_first_partial : Answers partial (
    (record standard { required_mantissa_sign = true }, u8, codes "256", Err (MissingSign 0)) ∷
    [])
unfolding grammar
sign_first_partial = refl
