-- Test vectors: a zero in front that makes a numeral octal.
-- Written by tools/rows.py from tools/rows.txt: make rows writes it anew.
use Rattle.std.specs.Prelude.{[], ◌∷◌, codes, pos, Some, true, false, Ok, Err}
use Rattle.std.proofs.Common.{refl}
use Rattle.lexical_util.specs.declared.error.Error.TheVariants.{Overflow, Underflow, InvalidDigit, Empty, MissingSign, InvalidPositiveSign, InvalidLeadingZeros}
use Rattle.lexical_util.specs.Format.{standard}
use Rattle.lexical_parse_integer.specs.Computed.{grammar}
use Rattle.lexical_parse_integer.specs.Grammar.{complete, partial}
use Rattle.rows.proofs.Tables.{Answers, minus, u8, u32, u64, u128, i8, i32, i64}

-- ---- a zero in front makes 8 the effective radix, and is the numeral's first digit

octal_zero_complete : Answers complete (
    -- 7 * 64 + 7 * 8 + 7
    (record standard { literal_octal_zero = true }, u32, codes "0777", Ok (pos 511)) ∷
    (record standard { literal_octal_zero = true }, u32, codes "0", Ok (pos 0)) ∷
    (record standard { literal_octal_zero = true }, u32, codes "00", Ok (pos 0)) ∷
    (record standard { literal_octal_zero = true }, u32, codes "007", Ok (pos 7)) ∷
    (record standard { literal_octal_zero = true }, u32, codes "010", Ok (pos 8)) ∷
    (record standard { literal_octal_zero = true }, u32, codes "10", Ok (pos 10)) ∷
    (record standard { literal_octal_zero = true }, u32, codes "777", Ok (pos 777)) ∷
    (record standard { literal_octal_zero = true }, u32, codes "1077", Ok (pos 1077)) ∷
    (record standard { literal_octal_zero = true }, i32, codes "-0777", Ok (minus 511)) ∷
    (record standard { literal_octal_zero = true }, i32, codes "+010", Ok (pos 8)) ∷
    (record standard { literal_octal_zero = true }, i32, codes "-0", Ok (pos 0)) ∷
    (record standard { literal_octal_zero = true }, u32, codes "08", Err (InvalidDigit 1)) ∷
    (record standard { literal_octal_zero = true }, u32, codes "0781", Err (InvalidDigit 2)) ∷
    (record standard { literal_octal_zero = true }, u32, codes "0a", Err (InvalidDigit 1)) ∷
    (record standard { literal_octal_zero = true }, u32, codes "", Err (Empty 0)) ∷
    (record standard { literal_octal_zero = true }, u32, codes "a", Err (InvalidDigit 0)) ∷
    [])
unfolding grammar
octal_zero_complete = refl

octal_zero_partial : Answers partial (
    (record standard { literal_octal_zero = true }, u32, codes "08", Ok (pos 0, 1)) ∷
    (record standard { literal_octal_zero = true }, u64, codes "0789", Ok (pos 7, 2)) ∷
    -- 1234567 in radix 8
    (record standard { literal_octal_zero = true }, u64, codes "012345678", Ok (pos 342391, 8)) ∷
    (record standard { literal_octal_zero = true }, u32, codes "0;", Ok (pos 0, 1)) ∷
    [])
unfolding grammar
octal_zero_partial = refl

-- ---- a separator behind the zero is judged as one behind any digit

octal_zero_beside_separators_complete : Answers complete (
    (record standard { literal_octal_zero = true; digit_separator = Some 95; integer_internal_digit_separator = true }, u32, codes "0_7", Ok (pos 7)) ∷
    (record standard { literal_octal_zero = true; digit_separator = Some 95; integer_internal_digit_separator = true }, u32, codes "0_17", Ok (pos 15)) ∷
    (record standard { literal_octal_zero = true; digit_separator = Some 95; integer_internal_digit_separator = true }, u32, codes "01_7", Ok (pos 15)) ∷
    (record standard { literal_octal_zero = true; digit_separator = Some 39; integer_internal_digit_separator = true }, u32, codes "0'17", Ok (pos 15)) ∷
    (record standard { literal_octal_zero = true; digit_separator = Some 97; integer_internal_digit_separator = true }, u32, codes "0a17", Ok (pos 15)) ∷
    (record standard { literal_octal_zero = true; digit_separator = Some 95 }, u32, codes "0_17", Err (InvalidDigit 1)) ∷
    (record standard { literal_octal_zero = true; digit_separator = Some 95; integer_internal_digit_separator = true }, u32, codes "0_8", Err (InvalidDigit 1)) ∷
    -- 8 is no digit of radix 8
    (record standard { literal_octal_zero = true; digit_separator = Some 95; integer_internal_digit_separator = true; integer_trailing_digit_separator = true }, u32, codes "0_8", Err (InvalidDigit 2)) ∷
    (record standard { literal_octal_zero = true; digit_separator = Some 95; integer_trailing_digit_separator = true }, u32, codes "0_", Ok (pos 0)) ∷
    (record standard { literal_octal_zero = true; digit_separator = Some 95; integer_internal_digit_separator = true }, u32, codes "0__17", Err (InvalidDigit 1)) ∷
    (record standard { literal_octal_zero = true; digit_separator = Some 95; integer_internal_digit_separator = true; integer_consecutive_digit_separator = true }, u32, codes "0__17", Ok (pos 15)) ∷
    -- the zero doesn't stand at the start
    (record standard { literal_octal_zero = true; digit_separator = Some 95; integer_leading_digit_separator = true }, u32, codes "_017", Ok (pos 17)) ∷
    (record standard { literal_octal_zero = true; digit_separator = Some 95; integer_internal_digit_separator = true }, u32, codes "1_0", Ok (pos 10)) ∷
    (record standard { literal_octal_zero = true; integer_internal_digit_separator = true }, u32, codes "0_17", Err (InvalidDigit 1)) ∷
    -- the zero is a digit, and no prefix
    (record standard { literal_octal_zero = true; digit_separator = Some 95; integer_prefix_digit_separator = true }, u32, codes "0_7", Err (InvalidDigit 1)) ∷
    [])
unfolding grammar
octal_zero_beside_separators_complete = refl

octal_zero_beside_separators_partial : Answers partial (
    (record standard { literal_octal_zero = true; digit_separator = Some 95 }, u32, codes "0_17", Ok (pos 0, 1)) ∷
    [])
unfolding grammar
octal_zero_beside_separators_partial = refl

-- ---- a prefix is a prefix and nothing else

octal_zero_beside_prefixes_complete : Answers complete (
    (record standard { literal_octal_zero = true; literal_prefixes = true }, u32, codes "0x1F", Ok (pos 31)) ∷
    (record standard { literal_octal_zero = true; literal_prefixes = true }, u32, codes "0o17", Ok (pos 15)) ∷
    (record standard { literal_octal_zero = true; literal_prefixes = true }, u32, codes "0b11", Ok (pos 3)) ∷
    (record standard { literal_octal_zero = true; literal_prefixes = true }, u32, codes "017", Ok (pos 15)) ∷
    (record standard { literal_octal_zero = true; literal_prefixes = true }, u32, codes "0", Ok (pos 0)) ∷
    (record standard { literal_octal_zero = true; literal_prefixes = true }, u32, codes "0x017", Ok (pos 23)) ∷
    (record standard { literal_octal_zero = true; literal_prefixes = true }, u32, codes "00x1", Err (InvalidDigit 2)) ∷
    (record standard { literal_octal_zero = true; literal_prefixes = true }, u32, codes "0x", Err (Empty 2)) ∷
    (record standard { literal_octal_zero = true; base_prefix = Some 120 }, u32, codes "0x17", Ok (pos 17)) ∷
    (record standard { literal_octal_zero = true; base_prefix = Some 120 }, i32, codes "-0x017", Ok (minus 17)) ∷
    (record standard { literal_octal_zero = true; base_prefix = Some 120 }, u32, codes "017", Ok (pos 15)) ∷
    (record standard { literal_octal_zero = true; base_prefix = Some 120; case_sensitive_base_prefix = true }, u32, codes "0X17", Err (InvalidDigit 1)) ∷
    (record standard { literal_octal_zero = true; literal_prefixes = true; digit_separator = Some 95; integer_internal_digit_separator = true; integer_prefix_digit_separator = true }, u32, codes "0x_1F", Ok (pos 31)) ∷
    (record standard { literal_octal_zero = true; literal_prefixes = true; digit_separator = Some 95; integer_internal_digit_separator = true; integer_prefix_digit_separator = true }, u32, codes "0x_017", Ok (pos 23)) ∷
    (record standard { literal_octal_zero = true; literal_prefixes = true; digit_separator = Some 95; integer_internal_digit_separator = true; integer_prefix_digit_separator = true }, u32, codes "0_600", Ok (pos 384)) ∷
    (record standard { literal_octal_zero = true; literal_prefixes = true; digit_separator = Some 95; integer_internal_digit_separator = true; integer_prefix_digit_separator = true }, u32, codes "_1", Err (InvalidDigit 0)) ∷
    [])
unfolding grammar
octal_zero_beside_prefixes_complete = refl

-- ---- the rule on leading zeros doesn't apply, a suffix may follow, and signs are as ever

octal_zero_beside_others_complete : Answers complete (
    (record standard { literal_octal_zero = true; no_integer_leading_zeros = true }, u32, codes "017", Ok (pos 15)) ∷
    (record standard { literal_octal_zero = true; no_integer_leading_zeros = true }, u32, codes "00", Ok (pos 0)) ∷
    (record standard { literal_octal_zero = true; no_integer_leading_zeros = true }, i32, codes "-01", Ok (minus 1)) ∷
    (record standard { literal_octal_zero = true; digit_separator = Some 95; integer_leading_digit_separator = true; no_integer_leading_zeros = true }, u32, codes "_017", Err (InvalidLeadingZeros 1)) ∷
    (record standard { literal_octal_zero = true; digit_separator = Some 95; integer_internal_digit_separator = true; no_integer_leading_zeros = true }, u32, codes "0_17", Ok (pos 15)) ∷
    (record standard { literal_octal_zero = true; base_suffix = Some 104 }, u32, codes "017h", Ok (pos 15)) ∷
    (record standard { literal_octal_zero = true; base_suffix = Some 104 }, u32, codes "0h", Ok (pos 0)) ∷
    (record standard { literal_octal_zero = true; required_mantissa_sign = true }, i32, codes "017", Err (MissingSign 0)) ∷
    (record standard { literal_octal_zero = true; required_mantissa_sign = true }, i32, codes "+017", Ok (pos 15)) ∷
    (record standard { literal_octal_zero = true; no_positive_mantissa_sign = true }, i32, codes "+017", Err (InvalidPositiveSign 0)) ∷
    (record standard { literal_octal_zero = true }, u32, codes "-017", Err (InvalidDigit 0)) ∷
    (record standard { literal_octal_zero = true; required_mantissa_digits = false }, u32, codes "", Ok (pos 0)) ∷
    [])
unfolding grammar
octal_zero_beside_others_complete = refl

octal_zero_beside_others_partial : Answers partial (
    (record standard { literal_octal_zero = true; base_suffix = Some 104 }, u32, codes "018h", Ok (pos 1, 2)) ∷
    [])
unfolding grammar
octal_zero_beside_others_partial = refl

-- ---- values at the ends of the types in radix 8, and outside of them

octal_ends_complete : Answers complete (
    (record standard { literal_octal_zero = true }, u8, codes "0377", Ok (pos 255)) ∷
    (record standard { literal_octal_zero = true }, u8, codes "0400", Err (Overflow 3)) ∷
    (record standard { literal_octal_zero = true }, u8, codes "000377", Ok (pos 255)) ∷
    (record standard { literal_octal_zero = true }, i8, codes "0177", Ok (pos 127)) ∷
    (record standard { literal_octal_zero = true }, i8, codes "0200", Err (Overflow 3)) ∷
    (record standard { literal_octal_zero = true }, i8, codes "-0200", Ok (minus 128)) ∷
    (record standard { literal_octal_zero = true }, i8, codes "-0201", Err (Underflow 4)) ∷
    (record standard { literal_octal_zero = true }, u8, codes "04008", Err (Overflow 3)) ∷
    (record standard { literal_octal_zero = true }, u32, codes "037777777777", Ok (pos 4294967295)) ∷
    (record standard { literal_octal_zero = true }, u32, codes "040000000000", Err (Overflow 11)) ∷
    (record standard { literal_octal_zero = true }, u64, codes "01777777777777777777777", Ok (pos 18446744073709551615)) ∷
    (record standard { literal_octal_zero = true }, u64, codes "02000000000000000000000", Err (Overflow 22)) ∷
    (record standard { literal_octal_zero = true }, i64, codes "-01000000000000000000000", Ok (minus 9223372036854775808)) ∷
    (record standard { literal_octal_zero = true }, u128, codes "03777777777777777777777777777777777777777777", Ok (pos 340282366920938463463374607431768211455)) ∷
    [])
unfolding grammar
octal_ends_complete = refl
