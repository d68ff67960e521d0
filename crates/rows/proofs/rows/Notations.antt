-- Test vectors: literals of languages, from the texts of their references.
-- Written by tools/rows.py from tools/rows.txt: make rows writes it anew.
use Rattle.std.specs.Prelude.{[], ◌∷◌, codes, pos, Some, true, Ok, Err}
use Rattle.std.proofs.Common.{refl}
use Rattle.lexical_util.specs.declared.error.Error.TheVariants.{Overflow, Underflow, InvalidDigit, Empty, InvalidPositiveSign, InvalidLeadingZeros}
use Rattle.lexical_util.specs.Format.{standard}
use Rattle.lexical_parse_integer.specs.Computed.{grammar}
use Rattle.lexical_parse_integer.specs.Grammar.{complete}
use Rattle.rows.proofs.Tables.{Answers, minus, u64, i64}

-- ---- C23, 6.4.4.1

of_c_complete : Answers complete (
    (record standard { no_positive_mantissa_sign = true; literal_prefixes = true; digit_separator = Some 39; integer_internal_digit_separator = true; literal_octal_zero = true }, u64, codes "00", Ok (pos 0)) ∷
    (record standard { no_positive_mantissa_sign = true; literal_prefixes = true; digit_separator = Some 39; integer_internal_digit_separator = true; literal_octal_zero = true }, u64, codes "7", Ok (pos 7)) ∷
    (record standard { no_positive_mantissa_sign = true; literal_prefixes = true; digit_separator = Some 39; integer_internal_digit_separator = true; literal_octal_zero = true }, u64, codes "0'777", Ok (pos 511)) ∷
    (record standard { no_positive_mantissa_sign = true; literal_prefixes = true; digit_separator = Some 39; integer_internal_digit_separator = true; literal_octal_zero = true }, u64, codes "0xDEADbeef", Ok (pos 3735928559)) ∷
    (record standard { no_positive_mantissa_sign = true; literal_prefixes = true; digit_separator = Some 39; integer_internal_digit_separator = true; literal_octal_zero = true }, u64, codes "0b1010", Ok (pos 10)) ∷
    (record standard { no_positive_mantissa_sign = true; literal_prefixes = true; digit_separator = Some 39; integer_internal_digit_separator = true; literal_octal_zero = true }, u64, codes "0B1'1", Ok (pos 3)) ∷
    (record standard { no_positive_mantissa_sign = true; literal_prefixes = true; digit_separator = Some 39; integer_internal_digit_separator = true; literal_octal_zero = true }, u64, codes "18446744073709551615", Ok (pos 18446744073709551615)) ∷
    (record standard { no_positive_mantissa_sign = true; literal_prefixes = true; digit_separator = Some 39; integer_internal_digit_separator = true; literal_octal_zero = true }, u64, codes "01777777777777777777777", Ok (pos 18446744073709551615)) ∷
    (record standard { no_positive_mantissa_sign = true; literal_prefixes = true; digit_separator = Some 39; integer_internal_digit_separator = true; literal_octal_zero = true }, u64, codes "", Err (Empty 0)) ∷
    (record standard { no_positive_mantissa_sign = true; literal_prefixes = true; digit_separator = Some 39; integer_internal_digit_separator = true; literal_octal_zero = true }, u64, codes "0x", Err (Empty 2)) ∷
    (record standard { no_positive_mantissa_sign = true; literal_prefixes = true; digit_separator = Some 39; integer_internal_digit_separator = true; literal_octal_zero = true }, u64, codes "0x'1", Err (InvalidDigit 2)) ∷
    (record standard { no_positive_mantissa_sign = true; literal_prefixes = true; digit_separator = Some 39; integer_internal_digit_separator = true; literal_octal_zero = true }, u64, codes "1''0", Err (InvalidDigit 1)) ∷
    (record standard { no_positive_mantissa_sign = true; literal_prefixes = true; digit_separator = Some 39; integer_internal_digit_separator = true; literal_octal_zero = true }, u64, codes "1'", Err (InvalidDigit 1)) ∷
    (record standard { no_positive_mantissa_sign = true; literal_prefixes = true; digit_separator = Some 39; integer_internal_digit_separator = true; literal_octal_zero = true }, u64, codes "'1", Err (InvalidDigit 0)) ∷
    (record standard { no_positive_mantissa_sign = true; literal_prefixes = true; digit_separator = Some 39; integer_internal_digit_separator = true; literal_octal_zero = true }, u64, codes "+1", Err (InvalidPositiveSign 0)) ∷
    [])
unfolding grammar
of_c_complete = refl

-- ---- the Python reference, 2.4.5

of_python_complete : Answers complete (
    (record standard { no_positive_mantissa_sign = true; literal_prefixes = true; digit_separator = Some 95; integer_internal_digit_separator = true; integer_prefix_digit_separator = true; no_integer_leading_zeros = true }, u64, codes "0", Ok (pos 0)) ∷
    (record standard { no_positive_mantissa_sign = true; literal_prefixes = true; digit_separator = Some 95; integer_internal_digit_separator = true; integer_prefix_digit_separator = true; no_integer_leading_zeros = true }, u64, codes "100_000_000", Ok (pos 100000000)) ∷
    (record standard { no_positive_mantissa_sign = true; literal_prefixes = true; digit_separator = Some 95; integer_internal_digit_separator = true; integer_prefix_digit_separator = true; no_integer_leading_zeros = true }, u64, codes "0o177", Ok (pos 127)) ∷
    (record standard { no_positive_mantissa_sign = true; literal_prefixes = true; digit_separator = Some 95; integer_internal_digit_separator = true; integer_prefix_digit_separator = true; no_integer_leading_zeros = true }, u64, codes "0xdead_beef", Ok (pos 3735928559)) ∷
    (record standard { no_positive_mantissa_sign = true; literal_prefixes = true; digit_separator = Some 95; integer_internal_digit_separator = true; integer_prefix_digit_separator = true; no_integer_leading_zeros = true }, u64, codes "0X_1F", Ok (pos 31)) ∷
    (record standard { no_positive_mantissa_sign = true; literal_prefixes = true; digit_separator = Some 95; integer_internal_digit_separator = true; integer_prefix_digit_separator = true; no_integer_leading_zeros = true }, u64, codes "0b_1110_0101", Ok (pos 229)) ∷
    (record standard { no_positive_mantissa_sign = true; literal_prefixes = true; digit_separator = Some 95; integer_internal_digit_separator = true; integer_prefix_digit_separator = true; no_integer_leading_zeros = true }, u64, codes "0x_00", Ok (pos 0)) ∷
    (record standard { no_positive_mantissa_sign = true; literal_prefixes = true; digit_separator = Some 95; integer_internal_digit_separator = true; integer_prefix_digit_separator = true; no_integer_leading_zeros = true }, u64, codes "", Err (Empty 0)) ∷
    (record standard { no_positive_mantissa_sign = true; literal_prefixes = true; digit_separator = Some 95; integer_internal_digit_separator = true; integer_prefix_digit_separator = true; no_integer_leading_zeros = true }, u64, codes "_1", Err (InvalidDigit 0)) ∷
    (record standard { no_positive_mantissa_sign = true; literal_prefixes = true; digit_separator = Some 95; integer_internal_digit_separator = true; integer_prefix_digit_separator = true; no_integer_leading_zeros = true }, u64, codes "1_", Err (InvalidDigit 1)) ∷
    (record standard { no_positive_mantissa_sign = true; literal_prefixes = true; digit_separator = Some 95; integer_internal_digit_separator = true; integer_prefix_digit_separator = true; no_integer_leading_zeros = true }, u64, codes "1__0", Err (InvalidDigit 1)) ∷
    (record standard { no_positive_mantissa_sign = true; literal_prefixes = true; digit_separator = Some 95; integer_internal_digit_separator = true; integer_prefix_digit_separator = true; no_integer_leading_zeros = true }, u64, codes "0x__1", Err (InvalidDigit 2)) ∷
    (record standard { no_positive_mantissa_sign = true; literal_prefixes = true; digit_separator = Some 95; integer_internal_digit_separator = true; integer_prefix_digit_separator = true; no_integer_leading_zeros = true }, u64, codes "0x1_", Err (InvalidDigit 3)) ∷
    (record standard { no_positive_mantissa_sign = true; literal_prefixes = true; digit_separator = Some 95; integer_internal_digit_separator = true; integer_prefix_digit_separator = true; no_integer_leading_zeros = true }, u64, codes "0_x1", Err (InvalidDigit 1)) ∷
    (record standard { no_positive_mantissa_sign = true; literal_prefixes = true; digit_separator = Some 95; integer_internal_digit_separator = true; integer_prefix_digit_separator = true; no_integer_leading_zeros = true }, u64, codes "0_7", Err (InvalidLeadingZeros 0)) ∷
    (record standard { no_positive_mantissa_sign = true; literal_prefixes = true; digit_separator = Some 95; integer_internal_digit_separator = true; integer_prefix_digit_separator = true; no_integer_leading_zeros = true }, u64, codes "0x", Err (Empty 2)) ∷
    (record standard { no_positive_mantissa_sign = true; literal_prefixes = true; digit_separator = Some 95; integer_internal_digit_separator = true; integer_prefix_digit_separator = true; no_integer_leading_zeros = true }, u64, codes "-1", Err (InvalidDigit 0)) ∷
    [])
unfolding grammar
of_python_complete = refl

-- ---- TOML v1.0.0, "Integer"

of_toml_complete : Answers complete (
    (record standard { literal_prefixes = true; digit_separator = Some 95; integer_internal_digit_separator = true; case_sensitive_base_prefix = true; no_integer_leading_zeros = true }, i64, codes "42", Ok (pos 42)) ∷
    (record standard { literal_prefixes = true; digit_separator = Some 95; integer_internal_digit_separator = true; case_sensitive_base_prefix = true; no_integer_leading_zeros = true }, i64, codes "0", Ok (pos 0)) ∷
    (record standard { literal_prefixes = true; digit_separator = Some 95; integer_internal_digit_separator = true; case_sensitive_base_prefix = true; no_integer_leading_zeros = true }, i64, codes "+0", Ok (pos 0)) ∷
    (record standard { literal_prefixes = true; digit_separator = Some 95; integer_internal_digit_separator = true; case_sensitive_base_prefix = true; no_integer_leading_zeros = true }, i64, codes "-0", Ok (pos 0)) ∷
    (record standard { literal_prefixes = true; digit_separator = Some 95; integer_internal_digit_separator = true; case_sensitive_base_prefix = true; no_integer_leading_zeros = true }, i64, codes "-17", Ok (minus 17)) ∷
    (record standard { literal_prefixes = true; digit_separator = Some 95; integer_internal_digit_separator = true; case_sensitive_base_prefix = true; no_integer_leading_zeros = true }, i64, codes "1_000", Ok (pos 1000)) ∷
    (record standard { literal_prefixes = true; digit_separator = Some 95; integer_internal_digit_separator = true; case_sensitive_base_prefix = true; no_integer_leading_zeros = true }, i64, codes "53_49_221", Ok (pos 5349221)) ∷
    (record standard { literal_prefixes = true; digit_separator = Some 95; integer_internal_digit_separator = true; case_sensitive_base_prefix = true; no_integer_leading_zeros = true }, i64, codes "1_2_3_4_5", Ok (pos 12345)) ∷
    (record standard { literal_prefixes = true; digit_separator = Some 95; integer_internal_digit_separator = true; case_sensitive_base_prefix = true; no_integer_leading_zeros = true }, i64, codes "0xDEADBEEF", Ok (pos 3735928559)) ∷
    (record standard { literal_prefixes = true; digit_separator = Some 95; integer_internal_digit_separator = true; case_sensitive_base_prefix = true; no_integer_leading_zeros = true }, i64, codes "0o01234567", Ok (pos 342391)) ∷
    (record standard { literal_prefixes = true; digit_separator = Some 95; integer_internal_digit_separator = true; case_sensitive_base_prefix = true; no_integer_leading_zeros = true }, i64, codes "0b11010110", Ok (pos 214)) ∷
    (record standard { literal_prefixes = true; digit_separator = Some 95; integer_internal_digit_separator = true; case_sensitive_base_prefix = true; no_integer_leading_zeros = true }, i64, codes "", Err (Empty 0)) ∷
    (record standard { literal_prefixes = true; digit_separator = Some 95; integer_internal_digit_separator = true; case_sensitive_base_prefix = true; no_integer_leading_zeros = true }, i64, codes "-00", Err (InvalidLeadingZeros 1)) ∷
    (record standard { literal_prefixes = true; digit_separator = Some 95; integer_internal_digit_separator = true; case_sensitive_base_prefix = true; no_integer_leading_zeros = true }, i64, codes "1__000", Err (InvalidDigit 1)) ∷
    (record standard { literal_prefixes = true; digit_separator = Some 95; integer_internal_digit_separator = true; case_sensitive_base_prefix = true; no_integer_leading_zeros = true }, i64, codes "1_", Err (InvalidDigit 1)) ∷
    (record standard { literal_prefixes = true; digit_separator = Some 95; integer_internal_digit_separator = true; case_sensitive_base_prefix = true; no_integer_leading_zeros = true }, i64, codes "_1", Err (InvalidDigit 0)) ∷
    (record standard { literal_prefixes = true; digit_separator = Some 95; integer_internal_digit_separator = true; case_sensitive_base_prefix = true; no_integer_leading_zeros = true }, i64, codes "0x_1", Err (InvalidDigit 2)) ∷
    (record standard { literal_prefixes = true; digit_separator = Some 95; integer_internal_digit_separator = true; case_sensitive_base_prefix = true; no_integer_leading_zeros = true }, i64, codes "0X1", Err (InvalidDigit 1)) ∷
    (record standard { literal_prefixes = true; digit_separator = Some 95; integer_internal_digit_separator = true; case_sensitive_base_prefix = true; no_integer_leading_zeros = true }, i64, codes "9223372036854775808", Err (Overflow 18)) ∷
    (record standard { literal_prefixes = true; digit_separator = Some 95; integer_internal_digit_separator = true; case_sensitive_base_prefix = true; no_integer_leading_zeros = true }, i64, codes "-9223372036854775809", Err (Underflow 19)) ∷
    [])
unfolding grammar
of_toml_complete = refl
