-- Test vectors: leading zeros, and the integers of JSON.
-- Written by tools/rows.py from tools/rows.txt: make rows writes it anew.
use Rattle.std.specs.Prelude.{[], ◌∷◌, codes, pos, Some, true, Ok, Err}
use Rattle.std.proofs.Common.{refl}
use Rattle.lexical_util.specs.declared.error.Error.TheVariants.{InvalidDigit, Empty, InvalidPositiveSign, InvalidLeadingZeros}
use Rattle.lexical_util.specs.Format.{standard, json}
use Rattle.lexical_parse_integer.specs.Computed.{grammar}
use Rattle.lexical_parse_integer.specs.Grammar.{complete, partial}
use Rattle.rows.proofs.Tables.{Answers, minus, u8, u64, i32, i64}

-- ---- zeros in front are digits like others

leading_zeros_allowed_complete : Answers complete (
    (standard, u8, codes "007", Ok (pos 7)) ∷
    [])
unfolding grammar
leading_zeros_allowed_complete = refl

leading_zeros_allowed_partial : Answers partial (
    (standard, i32, codes "00", Ok (pos 0, 2)) ∷
    [])
unfolding grammar
leading_zeros_allowed_partial = refl

-- ---- a zero before another digit is refused, at the first zero's place

no_leading_zeros_complete : Answers complete (
    (record standard { no_integer_leading_zeros = true }, i32, codes "0", Ok (pos 0)) ∷
    (record standard { no_integer_leading_zeros = true }, i32, codes "1", Ok (pos 1)) ∷
    (record standard { no_integer_leading_zeros = true }, i32, codes "10", Ok (pos 10)) ∷
    (record standard { no_integer_leading_zeros = true }, i32, codes "01", Err (InvalidLeadingZeros 0)) ∷
    (record standard { no_integer_leading_zeros = true }, i32, codes "010", Err (InvalidLeadingZeros 0)) ∷
    (record standard { no_integer_leading_zeros = true }, i32, codes "-00", Err (InvalidLeadingZeros 1)) ∷
    -- one zero alone, and a byte behind it
    (record standard { no_integer_leading_zeros = true }, i32, codes "0x", Err (InvalidDigit 1)) ∷
    -- it comes before the fault of the range
    (record standard { no_integer_leading_zeros = true }, u8, codes "0999", Err (InvalidLeadingZeros 0)) ∷
    (record standard { no_integer_leading_zeros = true }, u64, codes "0123456789", Err (InvalidLeadingZeros 0)) ∷
    [])
unfolding grammar
no_leading_zeros_complete = refl

no_leading_zeros_partial : Answers partial (
    (record standard { no_integer_leading_zeros = true }, i32, codes "0", Ok (pos 0, 1)) ∷
    (record standard { no_integer_leading_zeros = true }, i32, codes "0x", Ok (pos 0, 1)) ∷
    (record standard { no_integer_leading_zeros = true }, i32, codes "01", Err (InvalidLeadingZeros 0)) ∷
    [])
unfolding grammar
no_leading_zeros_partial = refl

-- ---- a zero before a point is alone

no_leading_zeros_in_fractions_complete : Answers complete (
    (record standard { required_integer_digits = true; no_integer_leading_zeros = true }, i64, codes "1.1", Err (InvalidDigit 1)) ∷
    (record standard { required_integer_digits = true; no_integer_leading_zeros = true }, i64, codes "1.1.0", Err (InvalidDigit 1)) ∷
    (record standard { required_integer_digits = true; no_integer_leading_zeros = true }, i64, codes "0.1", Err (InvalidDigit 1)) ∷
    (record standard { required_integer_digits = true; no_integer_leading_zeros = true }, i64, codes "0.1.0", Err (InvalidDigit 1)) ∷
    (record standard { required_integer_digits = true; no_integer_leading_zeros = true }, i64, codes "01.1", Err (InvalidLeadingZeros 0)) ∷
    (record standard { required_integer_digits = true; no_integer_leading_zeros = true }, i64, codes "00.1", Err (InvalidLeadingZeros 0)) ∷
    [])
unfolding grammar
no_leading_zeros_in_fractions_complete = refl

no_leading_zeros_in_fractions_partial : Answers partial (
    (record standard { required_integer_digits = true; no_integer_leading_zeros = true }, i64, codes "1.1", Ok (pos 1, 1)) ∷
    (record standard { required_integer_digits = true; no_integer_leading_zeros = true }, i64, codes "1.1.0", Ok (pos 1, 1)) ∷
    (record standard { required_integer_digits = true; no_integer_leading_zeros = true }, i64, codes "0.1", Ok (pos 0, 1)) ∷
    (record standard { required_integer_digits = true; no_integer_leading_zeros = true }, i64, codes "0.1.0", Ok (pos 0, 1)) ∷
    (record standard { required_integer_digits = true; no_integer_leading_zeros = true }, i64, codes "10.1", Ok (pos 10, 2)) ∷
    (record standard { required_integer_digits = true; no_integer_leading_zeros = true }, i64, codes "11.1", Ok (pos 11, 2)) ∷
    [])
unfolding grammar
no_leading_zeros_in_fractions_partial = refl

-- ---- zeros behind a prefix are allowed, and a suffix is no digit

no_leading_zeros_and_affixes_complete : Answers complete (
    (record standard { base_prefix = Some 120; no_integer_leading_zeros = true }, i32, codes "-0x012", Ok (minus 12)) ∷
    -- there is no prefix
    (record standard { base_prefix = Some 120; no_integer_leading_zeros = true }, i32, codes "012", Err (InvalidLeadingZeros 0)) ∷
    (record standard { base_prefix = Some 120; no_integer_leading_zeros = true }, i32, codes "01", Err (InvalidLeadingZeros 0)) ∷
    (record standard { base_suffix = Some 104; no_integer_leading_zeros = true }, i32, codes "0h", Ok (pos 0)) ∷
    (record standard { base_suffix = Some 104; no_integer_leading_zeros = true }, i32, codes "00h", Err (InvalidLeadingZeros 0)) ∷
    [])
unfolding grammar
no_leading_zeros_and_affixes_complete = refl

no_leading_zeros_and_affixes_partial : Answers partial (
    (record standard { base_prefix = Some 120; no_integer_leading_zeros = true }, i32, codes "01", Err (InvalidLeadingZeros 0)) ∷
    (record standard { base_suffix = Some 104; no_integer_leading_zeros = true }, i32, codes "0h", Ok (pos 0, 2)) ∷
    [])
unfolding grammar
no_leading_zeros_and_affixes_partial = refl

-- ---- the digits of the whole numeral count, and separators do not

no_leading_zeros_and_separators_complete : Answers complete (
    (record standard { digit_separator = Some 95; integer_internal_digit_separator = true; integer_leading_digit_separator = true; no_integer_leading_zeros = true }, i64, codes "_0_0", Err (InvalidLeadingZeros 1)) ∷
    (record standard { digit_separator = Some 95; integer_internal_digit_separator = true; integer_leading_digit_separator = true; no_integer_leading_zeros = true }, i64, codes "_1_0", Ok (pos 10)) ∷
    (record standard { digit_separator = Some 95; integer_internal_digit_separator = true; integer_leading_digit_separator = true; integer_trailing_digit_separator = true; integer_consecutive_digit_separator = true; no_integer_leading_zeros = true }, i64, codes "0__", Ok (pos 0)) ∷
    (record standard { digit_separator = Some 95; integer_internal_digit_separator = true; no_integer_leading_zeros = true }, i64, codes "0_1", Err (InvalidLeadingZeros 0)) ∷
    -- the separator does not pass, so the zero is alone
    (record standard { digit_separator = Some 95; no_integer_leading_zeros = true }, i64, codes "0_1", Err (InvalidDigit 1)) ∷
    [])
unfolding grammar
no_leading_zeros_and_separators_complete = refl

no_leading_zeros_and_separators_partial : Answers partial (
    (record standard { digit_separator = Some 95; no_integer_leading_zeros = true }, i64, codes "0_1", Ok (pos 0, 1)) ∷
    [])
unfolding grammar
no_leading_zeros_and_separators_partial = refl

-- ---- no plus, no leading zero, and a digit is asked for

json_integers_complete : Answers complete (
    (json, i32, codes "12", Ok (pos 12)) ∷
    (json, i32, codes "-12", Ok (minus 12)) ∷
    (json, i32, codes "012", Err (InvalidLeadingZeros 0)) ∷
    (json, i32, codes "-012", Err (InvalidLeadingZeros 1)) ∷
    (json, i32, codes "-01", Err (InvalidLeadingZeros 1)) ∷
    (json, i32, codes "+1234", Err (InvalidPositiveSign 0)) ∷
    (json, u64, codes "+1234", Err (InvalidPositiveSign 0)) ∷
    (json, i32, codes "-0", Ok (pos 0)) ∷
    (json, i32, codes "", Err (Empty 0)) ∷
    (json, i32, codes "-", Err (Empty 1)) ∷
    [])
unfolding grammar
json_integers_complete = refl

json_integers_partial : Answers partial (
    (json, i32, codes "0", Ok (pos 0, 1)) ∷
    [])
unfolding grammar
json_integers_partial = refl
