-- Test vectors: separators beside signs, faults, and bytes of other kinds.
-- Written by tools/rows.py from tools/rows.txt: make rows writes it anew.
use Rattle.std.specs.Prelude.{[], ◌∷◌, codes, pos, Some, true, Ok, Err}
use Rattle.std.proofs.Common.{refl}
use Rattle.lexical_util.specs.declared.error.Error.TheVariants.{Overflow, Underflow, InvalidDigit, Empty, MissingSign, InvalidLeadingZeros}
use Rattle.lexical_util.specs.Format.{standard}
use Rattle.lexical_parse_integer.specs.Computed.{grammar}
use Rattle.lexical_parse_integer.specs.Grammar.{complete, partial}
use Rattle.rows.proofs.Tables.{Answers, u8, u16, u32, i8, i32, i64}

-- ---- separators are not skipped to find a sign

before_a_sign_complete : Answers complete (
    (standard, i64, codes "_-1234", Err (InvalidDigit 0)) ∷
    -- the separator passes, and the minus is no digit
    (record standard { digit_separator = Some 95; integer_leading_digit_separator = true }, i64, codes "_-1", Err (InvalidDigit 1)) ∷
    -- the first byte alone decides
    (record standard { digit_separator = Some 95; integer_leading_digit_separator = true; required_mantissa_sign = true }, i64, codes "_+1", Err (MissingSign 0)) ∷
    [])
unfolding grammar
before_a_sign_complete = refl

-- ---- a fault of the range stands at its digit's place in the text

range_faults_complete : Answers complete (
    (record standard { digit_separator = Some 95; integer_internal_digit_separator = true }, u8, codes "2_5_6", Err (Overflow 4)) ∷
    -- it comes before a byte that is left over
    (record standard { digit_separator = Some 95; integer_internal_digit_separator = true }, u8, codes "2_5_6x", Err (Overflow 4)) ∷
    (record standard { digit_separator = Some 95; integer_internal_digit_separator = true }, i8, codes "-1_2_9", Err (Underflow 5)) ∷
    (record standard { digit_separator = Some 95; integer_internal_digit_separator = true }, u8, codes "2_5_5", Ok (pos 255)) ∷
    [])
unfolding grammar
range_faults_complete = refl

-- ---- a separator is compared byte for byte, a letter too

letters_complete : Answers complete (
    (record standard { digit_separator = Some 120; integer_internal_digit_separator = true }, i32, codes "1x2", Ok (pos 12)) ∷
    -- `X` is another byte
    (record standard { digit_separator = Some 120; integer_internal_digit_separator = true }, i32, codes "1X2", Err (InvalidDigit 1)) ∷
    (record standard { digit_separator = Some 88; integer_internal_digit_separator = true }, i32, codes "1X2", Ok (pos 12)) ∷
    (record standard { digit_separator = Some 88; integer_internal_digit_separator = true }, i32, codes "1x2", Err (InvalidDigit 1)) ∷
    [])
unfolding grammar
letters_complete = refl

letters_partial : Answers partial (
    (record standard { digit_separator = Some 120; integer_internal_digit_separator = true }, i32, codes "1X2", Ok (pos 1, 1)) ∷
    [])
unfolding grammar
letters_partial = refl

-- ---- byte 0 separates as any other byte does; the text's end is no such byte, and a text with it is no UTF-16

byte_zero_complete : Answers complete (
    (record standard { digit_separator = Some 0; integer_trailing_digit_separator = true }, i32, codes "1\0", Ok (pos 1)) ∷
    -- the run is behind the last digit
    (record standard { digit_separator = Some 0; integer_internal_digit_separator = true }, i32, codes "1\0", Err (InvalidDigit 1)) ∷
    (record standard { digit_separator = Some 0; integer_internal_digit_separator = true }, i32, codes "1\02", Ok (pos 12)) ∷
    -- also what UTF-16 writes for 11, low byte first
    (record standard { digit_separator = Some 0; integer_internal_digit_separator = true; integer_trailing_digit_separator = true }, u16, codes "1\01\0", Ok (pos 11)) ∷
    -- in UTF-16 one letter, U+3131, and no number
    (record standard { digit_separator = Some 0; integer_internal_digit_separator = true; integer_trailing_digit_separator = true }, u16, codes "11", Ok (pos 11)) ∷
    (record standard { digit_separator = Some 0; integer_leading_digit_separator = true }, i32, codes "", Err (Empty 0)) ∷
    [])
unfolding grammar
byte_zero_complete = refl

byte_zero_partial : Answers partial (
    (record standard { digit_separator = Some 0; integer_trailing_digit_separator = true }, i32, codes "1\0", Ok (pos 1, 2)) ∷
    (record standard { digit_separator = Some 0; integer_trailing_digit_separator = true }, i32, codes "1", Ok (pos 1, 1)) ∷
    -- the run is of two
    (record standard { digit_separator = Some 0; integer_trailing_digit_separator = true }, i32, codes "1\0\0", Ok (pos 1, 1)) ∷
    (record standard { digit_separator = Some 0; integer_trailing_digit_separator = true; integer_consecutive_digit_separator = true }, i32, codes "1\0\0", Ok (pos 1, 3)) ∷
    (record standard { digit_separator = Some 0; integer_leading_digit_separator = true }, i32, codes "\0", Err (Empty 1)) ∷
    [])
unfolding grammar
byte_zero_partial = refl

-- ---- a long run passes as a short one does, or not at all

ten_in_a_row_complete : Answers complete (
    (record standard { digit_separator = Some 95; integer_internal_digit_separator = true; integer_consecutive_digit_separator = true }, i64, codes "1__________2", Ok (pos 12)) ∷
    (record standard { digit_separator = Some 95; integer_internal_digit_separator = true }, i64, codes "1__________2", Err (InvalidDigit 1)) ∷
    [])
unfolding grammar
ten_in_a_row_complete = refl

ten_in_a_row_partial : Answers partial (
    (record standard { digit_separator = Some 95; integer_internal_digit_separator = true; integer_consecutive_digit_separator = true }, i64, codes "1__________2", Ok (pos 12, 12)) ∷
    (record standard { digit_separator = Some 95; integer_internal_digit_separator = true }, i64, codes "1__________2", Ok (pos 1, 1)) ∷
    [])
unfolding grammar
ten_in_a_row_partial = refl

-- ---- a separator that is a digit of the next radix is none of the numeral's digits

digits_that_separate_complete : Answers complete (
    -- 1 * 8 + 1
    (record standard { mantissa_radix = 8; digit_separator = Some 56; integer_internal_digit_separator = true }, u32, codes "181", Ok (pos 9)) ∷
    -- the 8 passes, and the zeros are digits
    (record standard { mantissa_radix = 8; digit_separator = Some 56; integer_leading_digit_separator = true; no_integer_leading_zeros = true }, i32, codes "800", Err (InvalidLeadingZeros 1)) ∷
    [])
unfolding grammar
digits_that_separate_complete = refl

-- ---- a digit beside a separator is one of the effective radix

great_radix_complete : Answers complete (
    -- 1 * 16 + 15
    (record standard { mantissa_radix = 16; base_prefix = Some 120; digit_separator = Some 95; integer_internal_digit_separator = true }, i32, codes "0x1_F", Ok (pos 31)) ∷
    -- `F` is no digit of radix 10, so the run is behind the last digit
    (record standard { base_prefix = Some 120; digit_separator = Some 95; integer_internal_digit_separator = true }, i32, codes "0x1_F", Err (InvalidDigit 3)) ∷
    [])
unfolding grammar
great_radix_complete = refl
