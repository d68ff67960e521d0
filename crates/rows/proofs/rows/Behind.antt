-- Test vectors: separators directly behind a prefix.
-- Written by tools/rows.py from tools/rows.txt: make rows writes it anew.
use Rattle.std.specs.Prelude.{[], ◌∷◌, codes, pos, Some, true, false, Ok, Err}
use Rattle.std.proofs.Common.{refl}
use Rattle.lexical_util.specs.declared.error.Error.TheVariants.{Overflow, Underflow, InvalidDigit, Empty, InvalidLeadingZeros}
use Rattle.lexical_util.specs.Format.{standard}
use Rattle.lexical_parse_integer.specs.Computed.{grammar}
use Rattle.lexical_parse_integer.specs.Grammar.{complete, partial}
use Rattle.rows.proofs.Tables.{Answers, minus, u8, u32, u64, i8, i32}

-- ---- a run behind a prefix passes by its own flag, and elsewhere that flag changes nothing

behind_prefix_complete : Answers complete (
    (record standard { literal_prefixes = true; digit_separator = Some 95; integer_prefix_digit_separator = true }, u32, codes "0x_1F", Ok (pos 31)) ∷
    (record standard { literal_prefixes = true; digit_separator = Some 95; integer_prefix_digit_separator = true }, u32, codes "0o_17", Ok (pos 15)) ∷
    (record standard { literal_prefixes = true; digit_separator = Some 95; integer_prefix_digit_separator = true }, u32, codes "0B_101", Ok (pos 5)) ∷
    (record standard { mantissa_radix = 16; base_prefix = Some 120; digit_separator = Some 95; integer_prefix_digit_separator = true }, u32, codes "0x_1F", Ok (pos 31)) ∷
    (record standard { base_prefix = Some 120; digit_separator = Some 95; integer_prefix_digit_separator = true }, i32, codes "-0x_12", Ok (minus 12)) ∷
    (record standard { base_prefix = Some 120; digit_separator = Some 95; integer_prefix_digit_separator = true }, i32, codes "+0X_12", Ok (pos 12)) ∷
    (record standard { literal_prefixes = true; digit_separator = Some 95; integer_prefix_digit_separator = true }, u32, codes "0x1F", Ok (pos 31)) ∷
    (record standard { literal_prefixes = true; digit_separator = Some 95; integer_prefix_digit_separator = true }, u32, codes "_1", Err (InvalidDigit 0)) ∷
    (record standard { literal_prefixes = true; digit_separator = Some 95; integer_prefix_digit_separator = true }, i32, codes "-_1", Err (InvalidDigit 1)) ∷
    -- no prefix stands there
    (record standard { base_prefix = Some 120; digit_separator = Some 95; integer_prefix_digit_separator = true }, i32, codes "_0x1", Err (InvalidDigit 0)) ∷
    (record standard { literal_prefixes = true; digit_separator = Some 95; integer_prefix_digit_separator = true }, u32, codes "1_", Err (InvalidDigit 1)) ∷
    (record standard { literal_prefixes = true; digit_separator = Some 95; integer_prefix_digit_separator = true }, u32, codes "1_1", Err (InvalidDigit 1)) ∷
    (record standard { literal_prefixes = true; digit_separator = Some 95; integer_prefix_digit_separator = true }, u32, codes "0_1", Err (InvalidDigit 1)) ∷
    (record standard { literal_prefixes = true; digit_separator = Some 95; integer_prefix_digit_separator = true }, u32, codes "0x1_F", Err (InvalidDigit 3)) ∷
    (record standard { literal_prefixes = true; digit_separator = Some 95; integer_prefix_digit_separator = true }, u32, codes "0x_1_F", Err (InvalidDigit 4)) ∷
    (record standard { literal_prefixes = true; digit_separator = Some 95; integer_prefix_digit_separator = true }, u32, codes "0x1_", Err (InvalidDigit 3)) ∷
    -- no separator is set
    (record standard { literal_prefixes = true; integer_prefix_digit_separator = true }, u32, codes "0x_1", Err (InvalidDigit 2)) ∷
    -- no prefix is
    (record standard { digit_separator = Some 95; integer_prefix_digit_separator = true }, u32, codes "0x_1", Err (InvalidDigit 1)) ∷
    (record standard { digit_separator = Some 95; integer_prefix_digit_separator = true }, i32, codes "-_1", Err (InvalidDigit 1)) ∷
    [])
unfolding grammar
behind_prefix_complete = refl

behind_prefix_partial : Answers partial (
    (record standard { literal_prefixes = true; digit_separator = Some 95; integer_prefix_digit_separator = true }, u64, codes "0x_1F;", Ok (pos 31, 5)) ∷
    (record standard { literal_prefixes = true; digit_separator = Some 95; integer_prefix_digit_separator = true }, u64, codes "0x1_F", Ok (pos 1, 3)) ∷
    [])
unfolding grammar
behind_prefix_partial = refl

-- ---- the other flags on separators stay what they are

behind_prefix_beside_flags_complete : Answers complete (
    (record standard { literal_prefixes = true; digit_separator = Some 95; integer_internal_digit_separator = true; integer_prefix_digit_separator = true }, u32, codes "0x_1_F", Ok (pos 31)) ∷
    (record standard { literal_prefixes = true; digit_separator = Some 95; integer_internal_digit_separator = true; integer_prefix_digit_separator = true }, u32, codes "_1", Err (InvalidDigit 0)) ∷
    (record standard { literal_prefixes = true; digit_separator = Some 95; integer_internal_digit_separator = true; integer_prefix_digit_separator = true }, u32, codes "0x_1_", Err (InvalidDigit 4)) ∷
    (record standard { literal_prefixes = true; digit_separator = Some 95; integer_internal_digit_separator = true }, u32, codes "0x_1F", Err (InvalidDigit 2)) ∷
    (record standard { literal_prefixes = true; digit_separator = Some 95; integer_leading_digit_separator = true; integer_prefix_digit_separator = true }, u32, codes "_1", Ok (pos 1)) ∷
    (record standard { literal_prefixes = true; digit_separator = Some 95; integer_leading_digit_separator = true; integer_prefix_digit_separator = true }, u32, codes "0x_1", Ok (pos 1)) ∷
    (record standard { literal_prefixes = true; digit_separator = Some 95; integer_trailing_digit_separator = true; integer_prefix_digit_separator = true }, u32, codes "0x_1_", Ok (pos 1)) ∷
    (record standard { literal_prefixes = true; digit_separator = Some 95; integer_trailing_digit_separator = true }, u32, codes "0x_1_", Err (InvalidDigit 2)) ∷
    (record standard { literal_prefixes = true; digit_separator = Some 95; integer_prefix_digit_separator = true }, u32, codes "0x__1", Err (InvalidDigit 2)) ∷
    (record standard { literal_prefixes = true; digit_separator = Some 95; integer_consecutive_digit_separator = true; integer_prefix_digit_separator = true }, u32, codes "0x__1", Ok (pos 1)) ∷
    (record standard { literal_prefixes = true; digit_separator = Some 95; integer_consecutive_digit_separator = true; integer_prefix_digit_separator = true }, u32, codes "0x1__F", Err (InvalidDigit 3)) ∷
    [])
unfolding grammar
behind_prefix_beside_flags_complete = refl

-- ---- a run with no digit beside it passes behind a prefix as it does under the leading flag

behind_prefix_no_digit_complete : Answers complete (
    (record standard { literal_prefixes = true; digit_separator = Some 95; integer_prefix_digit_separator = true }, u32, codes "0x_", Err (Empty 3)) ∷
    (record standard { literal_prefixes = true; digit_separator = Some 95; integer_prefix_digit_separator = true; required_mantissa_digits = false }, u32, codes "0x_", Ok (pos 0)) ∷
    (record standard { literal_prefixes = true; digit_separator = Some 95; integer_prefix_digit_separator = true }, u32, codes "0x_g", Err (InvalidDigit 3)) ∷
    (record standard { literal_prefixes = true; digit_separator = Some 95; integer_prefix_digit_separator = true }, u32, codes "0b_2", Err (InvalidDigit 3)) ∷
    (record standard { literal_prefixes = true; digit_separator = Some 95; integer_prefix_digit_separator = true; required_mantissa_digits = false }, u32, codes "_", Err (InvalidDigit 0)) ∷
    (record standard { literal_prefixes = true; digit_separator = Some 95; integer_prefix_digit_separator = true; required_mantissa_digits = false }, i32, codes "-_", Err (InvalidDigit 1)) ∷
    (record standard { literal_prefixes = true; digit_separator = Some 95; integer_prefix_digit_separator = true }, u32, codes "0x", Err (Empty 2)) ∷
    (record standard { literal_prefixes = true; digit_separator = Some 95; integer_leading_digit_separator = true }, u32, codes "0x_", Err (Empty 3)) ∷
    [])
unfolding grammar
behind_prefix_no_digit_complete = refl

behind_prefix_no_digit_partial : Answers partial (
    (record standard { literal_prefixes = true; digit_separator = Some 95; integer_prefix_digit_separator = true }, u32, codes "0x_", Err (Empty 3)) ∷
    (record standard { literal_prefixes = true; digit_separator = Some 95; integer_prefix_digit_separator = true; required_mantissa_digits = false }, u32, codes "0x_g", Ok (pos 0, 3)) ∷
    (record standard { literal_prefixes = true; digit_separator = Some 95; integer_prefix_digit_separator = true }, u32, codes "0b_2", Err (Empty 3)) ∷
    [])
unfolding grammar
behind_prefix_no_digit_partial = refl

-- ---- zeros, a suffix, and the ends of types

behind_prefix_beside_others_complete : Answers complete (
    (record standard { literal_prefixes = true; digit_separator = Some 95; integer_prefix_digit_separator = true; no_integer_leading_zeros = true }, u32, codes "0x_01", Ok (pos 1)) ∷
    (record standard { literal_prefixes = true; digit_separator = Some 95; integer_prefix_digit_separator = true; no_integer_leading_zeros = true }, u32, codes "01", Err (InvalidLeadingZeros 0)) ∷
    (record standard { literal_prefixes = true; digit_separator = Some 95; integer_prefix_digit_separator = true; base_suffix = Some 117 }, u32, codes "0x_1Fu", Ok (pos 31)) ∷
    (record standard { literal_prefixes = true; digit_separator = Some 95; integer_prefix_digit_separator = true; base_suffix = Some 117 }, u32, codes "0x_u", Err (InvalidDigit 3)) ∷
    (record standard { literal_prefixes = true; digit_separator = Some 95; integer_prefix_digit_separator = true }, i8, codes "-0x_80", Ok (minus 128)) ∷
    (record standard { literal_prefixes = true; digit_separator = Some 95; integer_prefix_digit_separator = true }, i8, codes "-0x_81", Err (Underflow 5)) ∷
    (record standard { literal_prefixes = true; digit_separator = Some 95; integer_prefix_digit_separator = true }, u8, codes "0x_100", Err (Overflow 5)) ∷
    (record standard { literal_prefixes = true; digit_separator = Some 95; integer_prefix_digit_separator = true }, u8, codes "0x_FF", Ok (pos 255)) ∷
    [])
unfolding grammar
behind_prefix_beside_others_complete = refl

behind_prefix_beside_others_partial : Answers partial (
    (record standard { base_prefix = Some 120; digit_separator = Some 95; integer_prefix_digit_separator = true; base_suffix = Some 104 }, u32, codes "0x_1hh", Ok (pos 1, 5)) ∷
    [])
unfolding grammar
behind_prefix_beside_others_partial = refl
