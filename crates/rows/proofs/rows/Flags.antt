-- Test vectors: separators, by the flags that are set.
-- Written by tools/rows.py from tools/rows.txt: make rows writes it anew.
use Rattle.std.specs.Prelude.{[], ◌∷◌, codes, pos, Some, true, false, Ok, Err}
use Rattle.std.proofs.Common.{refl}
use Rattle.lexical_util.specs.declared.error.Error.TheVariants.{InvalidDigit, Empty}
use Rattle.lexical_util.specs.Format.{standard}
use Rattle.lexical_parse_integer.specs.Computed.{grammar}
use Rattle.lexical_parse_integer.specs.Grammar.{complete, partial}
use Rattle.rows.proofs.Tables.{Answers, u64, i32, i64}

-- ---- a separator without a flag never passes, but the format has one

no_flag_complete : Answers complete (
    (record standard { digit_separator = Some 95 }, i64, codes "1_2", Err (InvalidDigit 1)) ∷
    (record standard { digit_separator = Some 95 }, i64, codes "x", Err (InvalidDigit 0)) ∷
    (record standard { digit_separator = Some 95 }, i64, codes "12", Ok (pos 12)) ∷
    [])
unfolding grammar
no_flag_complete = refl

no_flag_partial : Answers partial (
    (record standard { digit_separator = Some 95 }, i64, codes "1_2", Ok (pos 1, 1)) ∷
    -- no digit, and the format has a separator; without one the answer is Ok(0, 0)
    (record standard { digit_separator = Some 95 }, i64, codes "x", Err (Empty 0)) ∷
    (record standard { digit_separator = Some 95 }, i64, codes "_", Err (Empty 0)) ∷
    (record standard { digit_separator = Some 95; required_mantissa_digits = false }, i64, codes "x", Ok (pos 0, 0)) ∷
    [])
unfolding grammar
no_flag_partial = refl

-- ---- flags without a separator have no effect

flags_alone_partial : Answers partial (
    -- `_` is a byte like any other
    (record standard { integer_internal_digit_separator = true; integer_leading_digit_separator = true; integer_trailing_digit_separator = true; integer_consecutive_digit_separator = true }, i64, codes "1_2", Ok (pos 1, 1)) ∷
    (record standard { integer_internal_digit_separator = true; integer_leading_digit_separator = true; integer_trailing_digit_separator = true; integer_consecutive_digit_separator = true }, i64, codes "x", Ok (pos 0, 0)) ∷
    [])
unfolding grammar
flags_alone_partial = refl

flags_alone_complete : Answers complete (
    (record standard { integer_internal_digit_separator = true; integer_leading_digit_separator = true; integer_trailing_digit_separator = true; integer_consecutive_digit_separator = true }, i64, codes "_1", Err (InvalidDigit 0)) ∷
    [])
unfolding grammar
flags_alone_complete = refl

-- ---- a run between two digits passes

internal_partial : Answers partial (
    (record standard { digit_separator = Some 95; integer_internal_digit_separator = true }, i64, codes "", Err (Empty 0)) ∷
    (record standard { digit_separator = Some 95; integer_internal_digit_separator = true }, i64, codes "_", Err (Empty 0)) ∷
    (record standard { digit_separator = Some 95; integer_internal_digit_separator = true }, i64, codes "+_", Err (Empty 1)) ∷
    (record standard { digit_separator = Some 95; integer_internal_digit_separator = true }, i64, codes "_1_23", Err (Empty 0)) ∷
    (record standard { digit_separator = Some 95; integer_internal_digit_separator = true }, i64, codes "+_1_23", Err (Empty 1)) ∷
    (record standard { digit_separator = Some 95; integer_internal_digit_separator = true }, i64, codes "1__1_23", Ok (pos 1, 1)) ∷
    (record standard { digit_separator = Some 95; integer_internal_digit_separator = true }, i64, codes "1_1", Ok (pos 11, 3)) ∷
    (record standard { digit_separator = Some 95; integer_internal_digit_separator = true }, i64, codes "1_1_", Ok (pos 11, 3)) ∷
    (record standard { digit_separator = Some 95; integer_internal_digit_separator = true }, i64, codes "_11_", Err (Empty 0)) ∷
    (record standard { digit_separator = Some 95; integer_internal_digit_separator = true }, i64, codes "_+1_23", Err (Empty 0)) ∷
    (record standard { digit_separator = Some 95; integer_internal_digit_separator = true }, i64, codes "+123_", Ok (pos 123, 4)) ∷
    (record standard { digit_separator = Some 95; integer_internal_digit_separator = true }, i64, codes "+123__", Ok (pos 123, 4)) ∷
    (record standard { digit_separator = Some 95; integer_internal_digit_separator = true }, i64, codes "_1_", Err (Empty 0)) ∷
    (record standard { digit_separator = Some 95; integer_internal_digit_separator = true }, i64, codes "1_1_23", Ok (pos 1123, 6)) ∷
    (record standard { digit_separator = Some 95; integer_internal_digit_separator = true }, i64, codes "1__2", Ok (pos 1, 1)) ∷
    (record standard { digit_separator = Some 95; integer_internal_digit_separator = true }, i64, codes "1_1__23", Ok (pos 11, 3)) ∷
    (record standard { digit_separator = Some 95; integer_internal_digit_separator = true }, i64, codes "1_1_23_", Ok (pos 1123, 6)) ∷
    (record standard { digit_separator = Some 95; integer_internal_digit_separator = true }, i64, codes "1_1_23.", Ok (pos 1123, 6)) ∷
    [])
unfolding grammar
internal_partial = refl

internal_complete : Answers complete (
    (record standard { digit_separator = Some 95; integer_internal_digit_separator = true }, i64, codes "_1_", Err (InvalidDigit 0)) ∷
    (record standard { digit_separator = Some 95; integer_internal_digit_separator = true }, i32, codes "3_1", Ok (pos 31)) ∷
    (record standard { digit_separator = Some 95; integer_internal_digit_separator = true }, i32, codes "_31", Err (InvalidDigit 0)) ∷
    (record standard { digit_separator = Some 95; integer_internal_digit_separator = true }, i32, codes "31_", Err (InvalidDigit 2)) ∷
    [])
unfolding grammar
internal_complete = refl

-- ---- a run before the first digit passes

leading_partial : Answers partial (
    (record standard { digit_separator = Some 95; integer_leading_digit_separator = true }, i64, codes "", Err (Empty 0)) ∷
    (record standard { digit_separator = Some 95; integer_leading_digit_separator = true }, i64, codes "_", Err (Empty 1)) ∷
    (record standard { digit_separator = Some 95; integer_leading_digit_separator = true }, i64, codes "+_", Err (Empty 2)) ∷
    (record standard { digit_separator = Some 95; integer_leading_digit_separator = true }, i64, codes "_1_23", Ok (pos 1, 2)) ∷
    (record standard { digit_separator = Some 95; integer_leading_digit_separator = true }, i64, codes "+_1_23", Ok (pos 1, 3)) ∷
    (record standard { digit_separator = Some 95; integer_leading_digit_separator = true }, i64, codes "1__1_23", Ok (pos 1, 1)) ∷
    (record standard { digit_separator = Some 95; integer_leading_digit_separator = true }, i64, codes "1_1", Ok (pos 1, 1)) ∷
    (record standard { digit_separator = Some 95; integer_leading_digit_separator = true }, i64, codes "1_1_", Ok (pos 1, 1)) ∷
    (record standard { digit_separator = Some 95; integer_leading_digit_separator = true }, i64, codes "_11_", Ok (pos 11, 3)) ∷
    (record standard { digit_separator = Some 95; integer_leading_digit_separator = true }, i64, codes "_+1_23", Err (Empty 1)) ∷
    (record standard { digit_separator = Some 95; integer_leading_digit_separator = true }, i64, codes "+123_", Ok (pos 123, 4)) ∷
    (record standard { digit_separator = Some 95; integer_leading_digit_separator = true }, i64, codes "+123__", Ok (pos 123, 4)) ∷
    [])
unfolding grammar
leading_partial = refl

leading_complete : Answers complete (
    (record standard { digit_separator = Some 95; integer_leading_digit_separator = true }, i32, codes "3_1", Err (InvalidDigit 1)) ∷
    (record standard { digit_separator = Some 95; integer_leading_digit_separator = true }, i32, codes "_31", Ok (pos 31)) ∷
    (record standard { digit_separator = Some 95; integer_leading_digit_separator = true }, i32, codes "31_", Err (InvalidDigit 2)) ∷
    [])
unfolding grammar
leading_complete = refl

-- ---- a run behind the last digit passes

trailing_partial : Answers partial (
    (record standard { digit_separator = Some 95; integer_trailing_digit_separator = true }, i64, codes "", Err (Empty 0)) ∷
    (record standard { digit_separator = Some 95; integer_trailing_digit_separator = true }, i64, codes "_", Err (Empty 1)) ∷
    (record standard { digit_separator = Some 95; integer_trailing_digit_separator = true }, i64, codes "+_", Err (Empty 2)) ∷
    (record standard { digit_separator = Some 95; integer_trailing_digit_separator = true }, i64, codes "_1_23", Err (Empty 0)) ∷
    (record standard { digit_separator = Some 95; integer_trailing_digit_separator = true }, i64, codes "+_1_23", Err (Empty 1)) ∷
    (record standard { digit_separator = Some 95; integer_trailing_digit_separator = true }, i64, codes "1__1_23", Ok (pos 1, 1)) ∷
    (record standard { digit_separator = Some 95; integer_trailing_digit_separator = true }, i64, codes "1_1", Ok (pos 1, 1)) ∷
    (record standard { digit_separator = Some 95; integer_trailing_digit_separator = true }, i64, codes "1_1_", Ok (pos 1, 1)) ∷
    (record standard { digit_separator = Some 95; integer_trailing_digit_separator = true }, i64, codes "_11_", Err (Empty 0)) ∷
    (record standard { digit_separator = Some 95; integer_trailing_digit_separator = true }, i64, codes "_+1_23", Err (Empty 1)) ∷
    (record standard { digit_separator = Some 95; integer_trailing_digit_separator = true }, i64, codes "+123_", Ok (pos 123, 5)) ∷
    (record standard { digit_separator = Some 95; integer_trailing_digit_separator = true }, i64, codes "+123__", Ok (pos 123, 4)) ∷
    [])
unfolding grammar
trailing_partial = refl

trailing_complete : Answers complete (
    (record standard { digit_separator = Some 95; integer_trailing_digit_separator = true }, i32, codes "3_1", Err (InvalidDigit 1)) ∷
    (record standard { digit_separator = Some 95; integer_trailing_digit_separator = true }, i32, codes "_31", Err (InvalidDigit 0)) ∷
    (record standard { digit_separator = Some 95; integer_trailing_digit_separator = true }, i32, codes "31_", Ok (pos 31)) ∷
    [])
unfolding grammar
trailing_complete = refl

-- ---- all runs but those behind the last digit

internal_and_leading_partial : Answers partial (
    (record standard { digit_separator = Some 95; integer_internal_digit_separator = true; integer_leading_digit_separator = true }, i64, codes "", Err (Empty 0)) ∷
    (record standard { digit_separator = Some 95; integer_internal_digit_separator = true; integer_leading_digit_separator = true }, i64, codes "_", Err (Empty 1)) ∷
    (record standard { digit_separator = Some 95; integer_internal_digit_separator = true; integer_leading_digit_separator = true }, i64, codes "+_", Err (Empty 2)) ∷
    (record standard { digit_separator = Some 95; integer_internal_digit_separator = true; integer_leading_digit_separator = true }, i64, codes "_1_23", Ok (pos 123, 5)) ∷
    (record standard { digit_separator = Some 95; integer_internal_digit_separator = true; integer_leading_digit_separator = true }, i64, codes "+_1_23", Ok (pos 123, 6)) ∷
    (record standard { digit_separator = Some 95; integer_internal_digit_separator = true; integer_leading_digit_separator = true }, i64, codes "1__1_23", Ok (pos 1, 1)) ∷
    (record standard { digit_separator = Some 95; integer_internal_digit_separator = true; integer_leading_digit_separator = true }, i64, codes "1_1", Ok (pos 11, 3)) ∷
    (record standard { digit_separator = Some 95; integer_internal_digit_separator = true; integer_leading_digit_separator = true }, i64, codes "1_1_", Ok (pos 11, 3)) ∷
    (record standard { digit_separator = Some 95; integer_internal_digit_separator = true; integer_leading_digit_separator = true }, i64, codes "_11_", Ok (pos 11, 3)) ∷
    (record standard { digit_separator = Some 95; integer_internal_digit_separator = true; integer_leading_digit_separator = true }, i64, codes "_+1_23", Err (Empty 1)) ∷
    (record standard { digit_separator = Some 95; integer_internal_digit_separator = true; integer_leading_digit_separator = true }, i64, codes "+123_", Ok (pos 123, 4)) ∷
    (record standard { digit_separator = Some 95; integer_internal_digit_separator = true; integer_leading_digit_separator = true }, i64, codes "+123__", Ok (pos 123, 4)) ∷
    [])
unfolding grammar
internal_and_leading_partial = refl

-- ---- all runs but those before the first digit

internal_and_trailing_partial : Answers partial (
    (record standard { digit_separator = Some 95; integer_internal_digit_separator = true; integer_trailing_digit_separator = true }, i64, codes "", Err (Empty 0)) ∷
    (record standard { digit_separator = Some 95; integer_internal_digit_separator = true; integer_trailing_digit_separator = true }, i64, codes "_", Err (Empty 1)) ∷
    (record standard { digit_separator = Some 95; integer_internal_digit_separator = true; integer_trailing_digit_separator = true }, i64, codes "+_", Err (Empty 2)) ∷
    (record standard { digit_separator = Some 95; integer_internal_digit_separator = true; integer_trailing_digit_separator = true }, i64, codes "_1_23", Err (Empty 0)) ∷
    (record standard { digit_separator = Some 95; integer_internal_digit_separator = true; integer_trailing_digit_separator = true }, i64, codes "+_1_23", Err (Empty 1)) ∷
    (record standard { digit_separator = Some 95; integer_internal_digit_separator = true; integer_trailing_digit_separator = true }, i64, codes "1__1_23", Ok (pos 1, 1)) ∷
    (record standard { digit_separator = Some 95; integer_internal_digit_separator = true; integer_trailing_digit_separator = true }, i64, codes "1_1", Ok (pos 11, 3)) ∷
    (record standard { digit_separator = Some 95; integer_internal_digit_separator = true; integer_trailing_digit_separator = true }, i64, codes "1_1_", Ok (pos 11, 4)) ∷
    (record standard { digit_separator = Some 95; integer_internal_digit_separator = true; integer_trailing_digit_separator = true }, i64, codes "_11_", Err (Empty 0)) ∷
    (record standard { digit_separator = Some 95; integer_internal_digit_separator = true; integer_trailing_digit_separator = true }, i64, codes "_+1_23", Err (Empty 1)) ∷
    (record standard { digit_separator = Some 95; integer_internal_digit_separator = true; integer_trailing_digit_separator = true }, i64, codes "+123_", Ok (pos 123, 5)) ∷
    (record standard { digit_separator = Some 95; integer_internal_digit_separator = true; integer_trailing_digit_separator = true }, i64, codes "+123__", Ok (pos 123, 4)) ∷
    [])
unfolding grammar
internal_and_trailing_partial = refl

-- ---- all runs but those between two digits

leading_and_trailing_partial : Answers partial (
    (record standard { digit_separator = Some 95; integer_leading_digit_separator = true; integer_trailing_digit_separator = true }, i64, codes "", Err (Empty 0)) ∷
    (record standard { digit_separator = Some 95; integer_leading_digit_separator = true; integer_trailing_digit_separator = true }, i64, codes "_", Err (Empty 1)) ∷
    (record standard { digit_separator = Some 95; integer_leading_digit_separator = true; integer_trailing_digit_separator = true }, i64, codes "+_", Err (Empty 2)) ∷
    (record standard { digit_separator = Some 95; integer_leading_digit_separator = true; integer_trailing_digit_separator = true }, i64, codes "_1_23", Ok (pos 1, 2)) ∷
    (record standard { digit_separator = Some 95; integer_leading_digit_separator = true; integer_trailing_digit_separator = true }, i64, codes "+_1_23", Ok (pos 1, 3)) ∷
    (record standard { digit_separator = Some 95; integer_leading_digit_separator = true; integer_trailing_digit_separator = true }, i64, codes "1__1_23", Ok (pos 1, 1)) ∷
    (record standard { digit_separator = Some 95; integer_leading_digit_separator = true; integer_trailing_digit_separator = true }, i64, codes "1_1", Ok (pos 1, 1)) ∷
    (record standard { digit_separator = Some 95; integer_leading_digit_separator = true; integer_trailing_digit_separator = true }, i64, codes "1_1_", Ok (pos 1, 1)) ∷
    (record standard { digit_separator = Some 95; integer_leading_digit_separator = true; integer_trailing_digit_separator = true }, i64, codes "_11_", Ok (pos 11, 4)) ∷
    (record standard { digit_separator = Some 95; integer_leading_digit_separator = true; integer_trailing_digit_separator = true }, i64, codes "_+1_23", Err (Empty 1)) ∷
    (record standard { digit_separator = Some 95; integer_leading_digit_separator = true; integer_trailing_digit_separator = true }, i64, codes "+123_", Ok (pos 123, 5)) ∷
    (record standard { digit_separator = Some 95; integer_leading_digit_separator = true; integer_trailing_digit_separator = true }, i64, codes "+123__", Ok (pos 123, 4)) ∷
    [])
unfolding grammar
leading_and_trailing_partial = refl

-- ---- the same where no digit is asked for

leading_and_trailing_without_digits_partial : Answers partial (
    (record standard { digit_separator = Some 95; integer_leading_digit_separator = true; integer_trailing_digit_separator = true; required_mantissa_digits = false }, i64, codes "", Ok (pos 0, 0)) ∷
    (record standard { digit_separator = Some 95; integer_leading_digit_separator = true; integer_trailing_digit_separator = true; required_mantissa_digits = false }, i64, codes "_", Ok (pos 0, 1)) ∷
    (record standard { digit_separator = Some 95; integer_leading_digit_separator = true; integer_trailing_digit_separator = true; required_mantissa_digits = false }, i64, codes "+_", Ok (pos 0, 2)) ∷
    (record standard { digit_separator = Some 95; integer_leading_digit_separator = true; integer_trailing_digit_separator = true; required_mantissa_digits = false }, i64, codes "_1_23", Ok (pos 1, 2)) ∷
    (record standard { digit_separator = Some 95; integer_leading_digit_separator = true; integer_trailing_digit_separator = true; required_mantissa_digits = false }, i64, codes "+_1_23", Ok (pos 1, 3)) ∷
    (record standard { digit_separator = Some 95; integer_leading_digit_separator = true; integer_trailing_digit_separator = true; required_mantissa_digits = false }, i64, codes "1__1_23", Ok (pos 1, 1)) ∷
    (record standard { digit_separator = Some 95; integer_leading_digit_separator = true; integer_trailing_digit_separator = true; required_mantissa_digits = false }, i64, codes "1_1", Ok (pos 1, 1)) ∷
    (record standard { digit_separator = Some 95; integer_leading_digit_separator = true; integer_trailing_digit_separator = true; required_mantissa_digits = false }, i64, codes "1_1_", Ok (pos 1, 1)) ∷
    (record standard { digit_separator = Some 95; integer_leading_digit_separator = true; integer_trailing_digit_separator = true; required_mantissa_digits = false }, i64, codes "_11_", Ok (pos 11, 4)) ∷
    (record standard { digit_separator = Some 95; integer_leading_digit_separator = true; integer_trailing_digit_separator = true; required_mantissa_digits = false }, i64, codes "_+1_23", Ok (pos 0, 1)) ∷
    (record standard { digit_separator = Some 95; integer_leading_digit_separator = true; integer_trailing_digit_separator = true; required_mantissa_digits = false }, i64, codes "+123_", Ok (pos 123, 5)) ∷
    (record standard { digit_separator = Some 95; integer_leading_digit_separator = true; integer_trailing_digit_separator = true; required_mantissa_digits = false }, i64, codes "+123__", Ok (pos 123, 4)) ∷
    [])
unfolding grammar
leading_and_trailing_without_digits_partial = refl

-- ---- a run of one separator passes everywhere, a longer one nowhere

anywhere_one_at_a_time_complete : Answers complete (
    (record standard { digit_separator = Some 95; integer_internal_digit_separator = true; integer_leading_digit_separator = true; integer_trailing_digit_separator = true }, u64, codes "_-1234", Err (InvalidDigit 1)) ∷
    (record standard { digit_separator = Some 95; integer_internal_digit_separator = true; integer_leading_digit_separator = true; integer_trailing_digit_separator = true }, i64, codes "_-1234", Err (InvalidDigit 1)) ∷
    (record standard { digit_separator = Some 95; integer_internal_digit_separator = true; integer_leading_digit_separator = true; integer_trailing_digit_separator = true }, i64, codes "__1__234__", Err (InvalidDigit 0)) ∷
    (record standard { digit_separator = Some 95; integer_internal_digit_separator = true; integer_leading_digit_separator = true; integer_trailing_digit_separator = true }, i64, codes "__", Err (InvalidDigit 0)) ∷
    (record standard { digit_separator = Some 95; integer_internal_digit_separator = true; integer_leading_digit_separator = true; integer_trailing_digit_separator = true }, i64, codes "_1_2_", Ok (pos 12)) ∷
    [])
unfolding grammar
anywhere_one_at_a_time_complete = refl

anywhere_one_at_a_time_partial : Answers partial (
    (record standard { digit_separator = Some 95; integer_internal_digit_separator = true; integer_leading_digit_separator = true; integer_trailing_digit_separator = true }, i64, codes "__", Err (Empty 0)) ∷
    [])
unfolding grammar
anywhere_one_at_a_time_partial = refl

-- ---- a run of two and more passes as a whole or not at all

consecutive_complete : Answers complete (
    (record standard { digit_separator = Some 95; integer_internal_digit_separator = true; integer_consecutive_digit_separator = true }, i32, codes "3__1", Ok (pos 31)) ∷
    (record standard { digit_separator = Some 95; integer_internal_digit_separator = true; integer_consecutive_digit_separator = true }, i32, codes "3_1", Ok (pos 31)) ∷
    (record standard { digit_separator = Some 95; integer_internal_digit_separator = true; integer_consecutive_digit_separator = true }, i32, codes "_31", Err (InvalidDigit 0)) ∷
    (record standard { digit_separator = Some 95; integer_internal_digit_separator = true; integer_consecutive_digit_separator = true }, i32, codes "31_", Err (InvalidDigit 2)) ∷
    (record standard { digit_separator = Some 95; integer_internal_digit_separator = true; integer_trailing_digit_separator = true; integer_consecutive_digit_separator = true }, i64, codes "^-1234", Err (InvalidDigit 0)) ∷
    (record standard { digit_separator = Some 95; integer_internal_digit_separator = true; integer_trailing_digit_separator = true; integer_consecutive_digit_separator = true }, i64, codes "_-1234", Err (InvalidDigit 1)) ∷
    (record standard { digit_separator = Some 95; integer_internal_digit_separator = true; integer_trailing_digit_separator = true; integer_consecutive_digit_separator = true }, i64, codes "_1234", Err (InvalidDigit 0)) ∷
    (record standard { digit_separator = Some 95; integer_internal_digit_separator = true; integer_trailing_digit_separator = true; integer_consecutive_digit_separator = true }, i64, codes "X1234", Err (InvalidDigit 0)) ∷
    [])
unfolding grammar
consecutive_complete = refl

consecutive_partial : Answers partial (
    (record standard { digit_separator = Some 95; integer_internal_digit_separator = true; integer_consecutive_digit_separator = true }, i64, codes "1___2", Ok (pos 12, 5)) ∷
    (record standard { digit_separator = Some 95; integer_internal_digit_separator = true; integer_consecutive_digit_separator = true }, i64, codes "1__", Ok (pos 1, 1)) ∷
    [])
unfolding grammar
consecutive_partial = refl

-- ---- every run passes, but it is no digit

all_flags_complete : Answers complete (
    (record standard { digit_separator = Some 95; integer_internal_digit_separator = true; integer_leading_digit_separator = true; integer_trailing_digit_separator = true; integer_consecutive_digit_separator = true }, i64, codes "__1__234__", Ok (pos 1234)) ∷
    (record standard { digit_separator = Some 95; integer_internal_digit_separator = true; integer_leading_digit_separator = true; integer_trailing_digit_separator = true; integer_consecutive_digit_separator = true }, i64, codes "___", Err (Empty 3)) ∷
    [])
unfolding grammar
all_flags_complete = refl

all_flags_partial : Answers partial (
    (record standard { digit_separator = Some 95; integer_internal_digit_separator = true; integer_leading_digit_separator = true; integer_trailing_digit_separator = true; integer_consecutive_digit_separator = true }, i64, codes "___", Err (Empty 3)) ∷
    [])
unfolding grammar
all_flags_partial = refl
