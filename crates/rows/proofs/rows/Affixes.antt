-- Test vectors: prefixes and suffixes.
-- Written by tools/rows.py from tools/rows.txt: make rows writes it anew.
use Rattle.std.specs.Prelude.{[], ◌∷◌, codes, pos, Some, true, false, Ok, Err}
use Rattle.std.proofs.Common.{refl}
use Rattle.lexical_util.specs.declared.error.Error.TheVariants.{Overflow, InvalidDigit, Empty, MissingSign}
use Rattle.lexical_util.specs.Format.{standard}
use Rattle.lexical_parse_integer.specs.Computed.{grammar}
use Rattle.lexical_parse_integer.specs.Grammar.{complete, partial}
use Rattle.rows.proofs.Tables.{Answers, minus, u8, u32, u64, i8, i32, i64}

-- ---- a zero and the prefix, directly behind the sign, in either case

prefix_complete : Answers complete (
    (record standard { base_prefix = Some 120 }, i32, codes "0x", Err (Empty 2)) ∷
    (record standard { base_prefix = Some 120 }, i32, codes "-0x", Err (Empty 3)) ∷
    (record standard { base_prefix = Some 120 }, i32, codes "-0x1", Ok (minus 1)) ∷
    (record standard { base_prefix = Some 120 }, i32, codes "0x12", Ok (pos 12)) ∷
    (record standard { base_prefix = Some 120 }, i32, codes "0X12", Ok (pos 12)) ∷
    (record standard { base_prefix = Some 120 }, i32, codes "0x-12", Err (InvalidDigit 2)) ∷
    (record standard { base_prefix = Some 120 }, i32, codes "00x1", Err (InvalidDigit 2)) ∷
    (record standard { base_prefix = Some 120 }, i32, codes "12", Ok (pos 12)) ∷
    (record standard { base_prefix = Some 120 }, i32, codes "012", Ok (pos 12)) ∷
    (record standard { base_prefix = Some 120 }, i32, codes "-0x12", Ok (minus 12)) ∷
    (record standard { base_prefix = Some 120 }, i32, codes "-0x012", Ok (minus 12)) ∷
    (record standard { base_prefix = Some 120 }, i32, codes "-0x012h", Err (InvalidDigit 6)) ∷
    (record standard { base_prefix = Some 120 }, i32, codes "-0x012h ", Err (InvalidDigit 6)) ∷
    (record standard { mantissa_radix = 16; base_prefix = Some 120 }, u8, codes "0x1F", Ok (pos 31)) ∷
    -- one prefix is read
    (record standard { base_prefix = Some 120 }, i32, codes "0x0x1", Err (InvalidDigit 3)) ∷
    -- the zero is part of it
    (record standard { base_prefix = Some 120 }, i32, codes "x1", Err (InvalidDigit 0)) ∷
    -- no other digit is
    (record standard { base_prefix = Some 120 }, i32, codes "1x2", Err (InvalidDigit 1)) ∷
    [])
unfolding grammar
prefix_complete = refl

prefix_partial : Answers partial (
    (record standard { base_prefix = Some 120 }, i32, codes "-0x012h", Ok (minus 12, 6)) ∷
    (record standard { base_prefix = Some 120 }, i32, codes "-0x012h ", Ok (minus 12, 6)) ∷
    (record standard { base_prefix = Some 120 }, i32, codes "1x2", Ok (pos 1, 1)) ∷
    [])
unfolding grammar
prefix_partial = refl

-- ---- nothing behind the prefix is a fault, also where no digit is asked for

prefix_without_digits_complete : Answers complete (
    (record standard { base_prefix = Some 120; required_mantissa_digits = false }, i32, codes "0x", Err (Empty 2)) ∷
    (record standard { base_prefix = Some 120; required_mantissa_digits = false }, i32, codes "0xg", Err (InvalidDigit 2)) ∷
    (record standard { base_prefix = Some 120; required_mantissa_digits = false }, i32, codes "+", Ok (pos 0)) ∷
    [])
unfolding grammar
prefix_without_digits_complete = refl

prefix_without_digits_partial : Answers partial (
    (record standard { base_prefix = Some 120; required_mantissa_digits = false }, i32, codes "0x", Err (Empty 2)) ∷
    (record standard { base_prefix = Some 120; required_mantissa_digits = false }, i32, codes "0xg", Ok (pos 0, 2)) ∷
    -- a digit is asked for, but another byte follows
    (record standard { base_prefix = Some 120 }, i32, codes "0xg", Ok (pos 0, 2)) ∷
    [])
unfolding grammar
prefix_without_digits_partial = refl

-- ---- the prefix in its case alone

prefix_case_complete : Answers complete (
    (record standard { base_prefix = Some 120; case_sensitive_base_prefix = true }, i32, codes "0x12", Ok (pos 12)) ∷
    (record standard { base_prefix = Some 120; case_sensitive_base_prefix = true }, i32, codes "0X12", Err (InvalidDigit 1)) ∷
    (record standard { base_prefix = Some 88 }, i32, codes "0x12", Ok (pos 12)) ∷
    (record standard { base_prefix = Some 88 }, i32, codes "0X12", Ok (pos 12)) ∷
    (record standard { base_prefix = Some 88; case_sensitive_base_prefix = true }, i32, codes "0X12", Ok (pos 12)) ∷
    (record standard { base_prefix = Some 88; case_sensitive_base_prefix = true }, i32, codes "0x12", Err (InvalidDigit 1)) ∷
    -- letters alone have two cases
    (record standard { base_prefix = Some 91 }, i32, codes "0{12", Err (InvalidDigit 1)) ∷
    [])
unfolding grammar
prefix_case_complete = refl

-- ---- separators do not stand within a prefix or before it

prefix_and_separators_complete : Answers complete (
    (record standard { base_prefix = Some 120; digit_separator = Some 95; integer_internal_digit_separator = true }, i64, codes "0_x1", Err (InvalidDigit 1)) ∷
    -- the zero is a digit, and the separator behind it passes
    (record standard { base_prefix = Some 120; digit_separator = Some 95; integer_internal_digit_separator = true; integer_leading_digit_separator = true; integer_trailing_digit_separator = true; integer_consecutive_digit_separator = true }, i64, codes "0_x1", Err (InvalidDigit 2)) ∷
    (record standard { base_prefix = Some 120; digit_separator = Some 95; integer_leading_digit_separator = true }, i64, codes "_0x1", Err (InvalidDigit 2)) ∷
    (record standard { base_prefix = Some 120; digit_separator = Some 95; integer_leading_digit_separator = true }, i64, codes "+_0x1", Err (InvalidDigit 3)) ∷
    (record standard { base_prefix = Some 120; digit_separator = Some 95; integer_leading_digit_separator = true }, i64, codes "0x_1", Ok (pos 1)) ∷
    (record standard { base_prefix = Some 120; digit_separator = Some 95; integer_internal_digit_separator = true }, i64, codes "0x_1", Err (InvalidDigit 2)) ∷
    (record standard { base_prefix = Some 120; digit_separator = Some 95; integer_leading_digit_separator = true }, i32, codes "0x_", Err (Empty 3)) ∷
    -- nothing stands behind the prefix, with a separator byte too
    (record standard { base_prefix = Some 120; digit_separator = Some 95; integer_internal_digit_separator = true }, i32, codes "0x", Err (Empty 2)) ∷
    (record standard { required_mantissa_sign = true; digit_separator = Some 95; integer_internal_digit_separator = true; base_prefix = Some 100 }, u64, codes "+0d12_3_4", Ok (pos 1234)) ∷
    (record standard { required_mantissa_sign = true; digit_separator = Some 95; integer_internal_digit_separator = true; base_prefix = Some 100 }, u64, codes "+12_3_4", Ok (pos 1234)) ∷
    (record standard { required_mantissa_sign = true; digit_separator = Some 95; integer_internal_digit_separator = true; base_prefix = Some 100 }, u64, codes "-1", Err (MissingSign 0)) ∷
    [])
unfolding grammar
prefix_and_separators_complete = refl

prefix_and_separators_partial : Answers partial (
    (record standard { base_prefix = Some 120; digit_separator = Some 95; integer_internal_digit_separator = true; integer_leading_digit_separator = true; integer_trailing_digit_separator = true; integer_consecutive_digit_separator = true }, i64, codes "0_x1", Ok (pos 0, 2)) ∷
    (record standard { base_prefix = Some 120; digit_separator = Some 95; integer_internal_digit_separator = true }, i64, codes "0x_1", Err (Empty 2)) ∷
    (record standard { base_prefix = Some 120; digit_separator = Some 95; integer_internal_digit_separator = true }, i32, codes "0x", Err (Empty 2)) ∷
    [])
unfolding grammar
prefix_and_separators_partial = refl

-- ---- one suffix behind the digits, in either case

suffix_complete : Answers complete (
    (record standard { base_suffix = Some 104 }, i32, codes "h", Err (InvalidDigit 0)) ∷
    (record standard { base_suffix = Some 104 }, i32, codes "-h", Err (InvalidDigit 1)) ∷
    (record standard { base_suffix = Some 104 }, i32, codes "-1h", Ok (minus 1)) ∷
    (record standard { base_suffix = Some 104 }, i32, codes "12", Ok (pos 12)) ∷
    (record standard { base_suffix = Some 104 }, i32, codes "0h", Ok (pos 0)) ∷
    (record standard { base_suffix = Some 104 }, i32, codes "00h", Ok (pos 0)) ∷
    (record standard { base_suffix = Some 104 }, i32, codes "12h", Ok (pos 12)) ∷
    (record standard { base_suffix = Some 104 }, i32, codes "12H", Ok (pos 12)) ∷
    (record standard { base_suffix = Some 104 }, i32, codes "012h", Ok (pos 12)) ∷
    (record standard { base_suffix = Some 104 }, i32, codes "-12h", Ok (minus 12)) ∷
    (record standard { base_suffix = Some 104 }, i32, codes "-012", Ok (minus 12)) ∷
    (record standard { base_suffix = Some 104 }, i32, codes "1hh", Err (InvalidDigit 2)) ∷
    (record standard { base_suffix = Some 104 }, i32, codes "12 x", Err (InvalidDigit 2)) ∷
    (record standard { base_suffix = Some 104 }, i32, codes "0x12", Err (InvalidDigit 1)) ∷
    (record standard { base_suffix = Some 104 }, i32, codes "0x-12", Err (InvalidDigit 1)) ∷
    (record standard { base_suffix = Some 104 }, i32, codes "-0x012h", Err (InvalidDigit 2)) ∷
    (record standard { base_suffix = Some 104 }, i32, codes "-0x012h ", Err (InvalidDigit 2)) ∷
    (record standard { base_suffix = Some 104 }, u8, codes "256h", Err (Overflow 2)) ∷
    (record standard { base_suffix = Some 104 }, u8, codes "-1h", Err (InvalidDigit 0)) ∷
    [])
unfolding grammar
suffix_complete = refl

suffix_partial : Answers partial (
    (record standard { base_suffix = Some 104 }, i32, codes "-0x012h", Ok (pos 0, 2)) ∷
    (record standard { base_suffix = Some 104 }, i32, codes "-0x012h ", Ok (pos 0, 2)) ∷
    (record standard { base_suffix = Some 104 }, i32, codes "12hx", Ok (pos 12, 3)) ∷
    (record standard { base_suffix = Some 104 }, i8, codes "1hx", Ok (pos 1, 2)) ∷
    -- no digit before it
    (record standard { base_suffix = Some 104 }, i32, codes "h", Ok (pos 0, 0)) ∷
    [])
unfolding grammar
suffix_partial = refl

-- ---- the suffix in its case alone

suffix_case_complete : Answers complete (
    (record standard { base_suffix = Some 104; case_sensitive_base_suffix = true }, i32, codes "1H", Err (InvalidDigit 1)) ∷
    (record standard { base_suffix = Some 104; case_sensitive_base_suffix = true }, i32, codes "1h", Ok (pos 1)) ∷
    (record standard { base_suffix = Some 72 }, i32, codes "1h", Ok (pos 1)) ∷
    (record standard { base_suffix = Some 72; case_sensitive_base_suffix = true }, i32, codes "1H", Ok (pos 1)) ∷
    (record standard { base_suffix = Some 72; case_sensitive_base_suffix = true }, i32, codes "1h", Err (InvalidDigit 1)) ∷
    -- letters alone have two cases
    (record standard { base_suffix = Some 91 }, i32, codes "1{", Err (InvalidDigit 1)) ∷
    (record standard { base_suffix = Some 91 }, i32, codes "1[", Ok (pos 1)) ∷
    [])
unfolding grammar
suffix_case_complete = refl

-- ---- the letters are those from a to z, and the bytes beside them have one case

suffix_letters_complete : Answers complete (
    (record standard { base_suffix = Some 97 }, i32, codes "1A", Ok (pos 1)) ∷
    (record standard { base_suffix = Some 122 }, i32, codes "1Z", Ok (pos 1)) ∷
    (record standard { base_suffix = Some 90 }, i32, codes "1z", Ok (pos 1)) ∷
    (record standard { base_suffix = Some 64 }, i32, codes "1`", Err (InvalidDigit 1)) ∷
    (record standard { base_suffix = Some 64 }, i32, codes "1@", Ok (pos 1)) ∷
    (record standard { base_suffix = Some 96 }, i32, codes "1@", Err (InvalidDigit 1)) ∷
    [])
unfolding grammar
suffix_letters_complete = refl

-- ---- a suffix that is a digit of the next radix, and one behind the greatest digit

suffix_and_digits_complete : Answers complete (
    (record standard { mantissa_radix = 8; base_suffix = Some 56 }, u32, codes "18", Ok (pos 1)) ∷
    -- no digit of radix 8 before it
    (record standard { mantissa_radix = 8; base_suffix = Some 56 }, u32, codes "8", Err (InvalidDigit 0)) ∷
    (record standard { base_suffix = Some 104 }, i32, codes "9h", Ok (pos 9)) ∷
    [])
unfolding grammar
suffix_and_digits_complete = refl

suffix_and_digits_partial : Answers partial (
    (record standard { mantissa_radix = 8; base_suffix = Some 56 }, u32, codes "18", Ok (pos 1, 2)) ∷
    (record standard { mantissa_radix = 8; base_suffix = Some 56 }, u32, codes "8", Ok (pos 0, 0)) ∷
    [])
unfolding grammar
suffix_and_digits_partial = refl

-- ---- the suffix is read wherever the digits end, and more may follow it

suffix_behind_many_digits_complete : Answers complete (
    -- sixteen digits
    (record standard { base_suffix = Some 104 }, u64, codes "1234567812345678h", Ok (pos 1234567812345678)) ∷
    (record standard { base_suffix = Some 104 }, u64, codes "1234567812345678hx", Err (InvalidDigit 17)) ∷
    (record standard { base_suffix = Some 104 }, u64, codes "123456781234567hx", Err (InvalidDigit 16)) ∷
    [])
unfolding grammar
suffix_behind_many_digits_complete = refl

suffix_behind_many_digits_partial : Answers partial (
    (record standard { base_suffix = Some 104 }, u64, codes "1234567812345678hx", Ok (pos 1234567812345678, 17)) ∷
    -- fifteen digits, the suffix is the sixteenth byte
    (record standard { base_suffix = Some 104 }, u64, codes "123456781234567hx", Ok (pos 123456781234567, 16)) ∷
    (record standard { base_suffix = Some 104 }, u64, codes "12345678123456781hx", Ok (pos 12345678123456781, 18)) ∷
    (record standard { base_suffix = Some 104 }, i64, codes "12345678123456hx", Ok (pos 12345678123456, 15)) ∷
    (record standard { base_suffix = Some 104 }, i32, codes "123456hx", Ok (pos 123456, 7)) ∷
    (record standard { base_suffix = Some 104 }, u32, codes "1234567hx", Ok (pos 1234567, 8)) ∷
    (record standard { base_suffix = Some 104 }, u32, codes "12345678hx", Ok (pos 12345678, 9)) ∷
    (record standard { base_suffix = Some 104 }, u8, codes "12hx", Ok (pos 12, 3)) ∷
    (record standard { base_prefix = Some 120; base_suffix = Some 104 }, u64, codes "+0x123456781234567hx", Ok (pos 123456781234567, 19)) ∷
    [])
unfolding grammar
suffix_behind_many_digits_partial = refl

-- ---- the suffix is sought behind trailing separators, and needs a digit

suffix_and_separators_complete : Answers complete (
    (record standard { base_suffix = Some 104; digit_separator = Some 95; integer_leading_digit_separator = true }, i32, codes "_h", Err (InvalidDigit 1)) ∷
    (record standard { base_suffix = Some 104; digit_separator = Some 95; integer_trailing_digit_separator = true }, i64, codes "1_h", Ok (pos 1)) ∷
    (record standard { base_suffix = Some 104; digit_separator = Some 95; integer_internal_digit_separator = true }, i64, codes "1_h", Err (InvalidDigit 1)) ∷
    [])
unfolding grammar
suffix_and_separators_complete = refl

suffix_and_separators_partial : Answers partial (
    -- the separator passes, and is no digit
    (record standard { base_suffix = Some 104; digit_separator = Some 95; integer_leading_digit_separator = true }, i32, codes "_h", Err (Empty 1)) ∷
    (record standard { base_suffix = Some 104; digit_separator = Some 95; integer_trailing_digit_separator = true }, i64, codes "1_h", Ok (pos 1, 3)) ∷
    -- `h` is no digit, so the run is behind the last digit
    (record standard { base_suffix = Some 104; digit_separator = Some 95; integer_internal_digit_separator = true }, i64, codes "1_h", Ok (pos 1, 1)) ∷
    -- nothing is read behind the suffix
    (record standard { base_suffix = Some 104; digit_separator = Some 95; integer_trailing_digit_separator = true }, i64, codes "1h_", Ok (pos 1, 2)) ∷
    (record standard { base_suffix = Some 104; digit_separator = Some 95; integer_internal_digit_separator = true }, i64, codes "1_2h", Ok (pos 12, 4)) ∷
    [])
unfolding grammar
suffix_and_separators_partial = refl

-- ---- both are set

prefix_and_suffix_complete : Answers complete (
    (record standard { base_prefix = Some 120; base_suffix = Some 104 }, i32, codes "+3h", Ok (pos 3)) ∷
    (record standard { base_prefix = Some 120; base_suffix = Some 104 }, i32, codes "+0x3", Ok (pos 3)) ∷
    (record standard { base_prefix = Some 120; base_suffix = Some 104 }, i32, codes "+0x3h", Ok (pos 3)) ∷
    (record standard { base_prefix = Some 120; base_suffix = Some 104 }, i32, codes "+0x3h ", Err (InvalidDigit 5)) ∷
    (record standard { base_prefix = Some 120; base_suffix = Some 104 }, i32, codes "+h", Err (InvalidDigit 1)) ∷
    (record standard { base_prefix = Some 120; base_suffix = Some 104 }, i32, codes "+0xh", Err (InvalidDigit 3)) ∷
    (record standard { base_prefix = Some 120; base_suffix = Some 104 }, i32, codes "+0x", Err (Empty 3)) ∷
    (record standard { base_prefix = Some 120; base_suffix = Some 104 }, i32, codes "0h", Ok (pos 0)) ∷
    (record standard { base_prefix = Some 120; base_suffix = Some 104 }, i32, codes "00h", Ok (pos 0)) ∷
    [])
unfolding grammar
prefix_and_suffix_complete = refl

prefix_and_suffix_partial : Answers partial (
    (record standard { base_prefix = Some 120; base_suffix = Some 104 }, i32, codes "0h", Ok (pos 0, 2)) ∷
    (record standard { base_prefix = Some 120; base_suffix = Some 104 }, i32, codes "00h", Ok (pos 0, 3)) ∷
    (record standard { base_prefix = Some 120; base_suffix = Some 104 }, i32, codes "0x", Err (Empty 2)) ∷
    [])
unfolding grammar
prefix_and_suffix_partial = refl
