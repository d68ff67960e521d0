-- Test vectors: prefixes by which the text chooses its radix.
-- Written by tools/rows.py from tools/rows.txt: make rows writes it anew.
use Rattle.std.specs.Prelude.{[], ◌∷◌, codes, pos, Some, true, Ok, Err}
use Rattle.std.proofs.Common.{refl}
use Rattle.lexical_util.specs.declared.error.Error.TheVariants.{Overflow, Underflow, InvalidDigit, Empty, InvalidLeadingZeros}
use Rattle.lexical_util.specs.Format.{standard}
use Rattle.lexical_parse_integer.specs.Computed.{grammar}
use Rattle.lexical_parse_integer.specs.Grammar.{complete, partial}
use Rattle.rows.proofs.Tables.{Answers, minus, u8, u32, u64, i8, i32}

-- ---- 16 behind 0x, 8 behind 0o and 2 behind 0b, in either case

literal_radix_complete : Answers complete (
    (record standard { literal_prefixes = true }, u32, codes "0x1F", Ok (pos 31)) ∷
    (record standard { literal_prefixes = true }, u32, codes "0X1f", Ok (pos 31)) ∷
    (record standard { literal_prefixes = true }, u32, codes "0o17", Ok (pos 15)) ∷
    (record standard { literal_prefixes = true }, u32, codes "0O17", Ok (pos 15)) ∷
    (record standard { literal_prefixes = true }, u32, codes "0b101", Ok (pos 5)) ∷
    (record standard { literal_prefixes = true }, u32, codes "0B101", Ok (pos 5)) ∷
    (record standard { literal_prefixes = true }, u32, codes "017", Ok (pos 17)) ∷
    -- the zero is part of the prefix
    (record standard { literal_prefixes = true }, u32, codes "1x2", Err (InvalidDigit 1)) ∷
    (record standard { literal_prefixes = true }, u32, codes "0", Ok (pos 0)) ∷
    (record standard { literal_prefixes = true }, i32, codes "-0b101", Ok (minus 5)) ∷
    (record standard { literal_prefixes = true }, i32, codes "+0o10", Ok (pos 8)) ∷
    [])
unfolding grammar
literal_radix_complete = refl

literal_radix_partial : Answers partial (
    (record standard { literal_prefixes = true }, u64, codes "0x1F;", Ok (pos 31, 4)) ∷
    (record standard { literal_prefixes = true }, u64, codes "0b12345678", Ok (pos 1, 3)) ∷
    [])
unfolding grammar
literal_radix_partial = refl

-- ---- the small letters alone

literal_case_complete : Answers complete (
    (record standard { literal_prefixes = true; case_sensitive_base_prefix = true }, u32, codes "0B101", Err (InvalidDigit 1)) ∷
    (record standard { literal_prefixes = true; case_sensitive_base_prefix = true }, u32, codes "0X1F", Err (InvalidDigit 1)) ∷
    (record standard { literal_prefixes = true; case_sensitive_base_prefix = true }, u32, codes "0O17", Err (InvalidDigit 1)) ∷
    (record standard { literal_prefixes = true; case_sensitive_base_prefix = true }, u32, codes "0b101", Ok (pos 5)) ∷
    (record standard { literal_prefixes = true; case_sensitive_base_prefix = true }, u32, codes "0x1F", Ok (pos 31)) ∷
    [])
unfolding grammar
literal_case_complete = refl

-- ---- the effective radix decides which bytes are digits, and which values leave the type

literal_faults_complete : Answers complete (
    (record standard { literal_prefixes = true }, u32, codes "0x", Err (Empty 2)) ∷
    (record standard { literal_prefixes = true }, i32, codes "-0x", Err (Empty 3)) ∷
    (record standard { literal_prefixes = true }, u32, codes "0xg", Err (InvalidDigit 2)) ∷
    (record standard { literal_prefixes = true }, u32, codes "0b2", Err (InvalidDigit 2)) ∷
    (record standard { literal_prefixes = true }, u32, codes "0o8", Err (InvalidDigit 2)) ∷
    (record standard { literal_prefixes = true }, u32, codes "00x1", Err (InvalidDigit 2)) ∷
    (record standard { literal_prefixes = true }, i8, codes "-0x80", Ok (minus 128)) ∷
    (record standard { literal_prefixes = true }, i8, codes "-0x81", Err (Underflow 4)) ∷
    (record standard { literal_prefixes = true }, u8, codes "0x100", Err (Overflow 4)) ∷
    (record standard { literal_prefixes = true }, u8, codes "0b100000000", Err (Overflow 10)) ∷
    (record standard { literal_prefixes = true }, u64, codes "0b1111111111111111111111111111111111111111111111111111111111111111", Ok (pos 18446744073709551615)) ∷
    (standard, u32, codes "0x1F", Err (InvalidDigit 1)) ∷
    [])
unfolding grammar
literal_faults_complete = refl

literal_faults_partial : Answers partial (
    (record standard { literal_prefixes = true }, u32, codes "0xg", Ok (pos 0, 2)) ∷
    [])
unfolding grammar
literal_faults_partial = refl

-- ---- zeros behind a literal prefix are allowed, and separators are judged in the effective radix

literals_beside_others_complete : Answers complete (
    (record standard { literal_prefixes = true; no_integer_leading_zeros = true }, u32, codes "0x01", Ok (pos 1)) ∷
    (record standard { literal_prefixes = true; no_integer_leading_zeros = true }, u32, codes "01", Err (InvalidLeadingZeros 0)) ∷
    (record standard { literal_prefixes = true; digit_separator = Some 95; integer_internal_digit_separator = true }, u8, codes "0xF_F", Ok (pos 255)) ∷
    (record standard { literal_prefixes = true; digit_separator = Some 95; integer_internal_digit_separator = true }, u32, codes "0x1_F", Ok (pos 31)) ∷
    (record standard { literal_prefixes = true; digit_separator = Some 95; integer_internal_digit_separator = true }, u32, codes "0x_1", Err (InvalidDigit 2)) ∷
    (record standard { literal_prefixes = true; digit_separator = Some 95; integer_leading_digit_separator = true }, u32, codes "0x_1", Ok (pos 1)) ∷
    -- 1 * 2 + 1
    (record standard { literal_prefixes = true; digit_separator = Some 95; integer_internal_digit_separator = true }, i32, codes "-0b1_1", Ok (minus 3)) ∷
    (record standard { literal_prefixes = true; base_suffix = Some 117 }, u32, codes "0x1Fu", Ok (pos 31)) ∷
    (record standard { literal_prefixes = true; base_suffix = Some 117 }, u32, codes "0xu", Err (InvalidDigit 2)) ∷
    [])
unfolding grammar
literals_beside_others_complete = refl

literals_beside_others_partial : Answers partial (
    (record standard { literal_prefixes = true; digit_separator = Some 95; integer_internal_digit_separator = true }, u32, codes "0o1_8", Ok (pos 1, 3)) ∷
    [])
unfolding grammar
literals_beside_others_partial = refl
