-- Test vectors: the integers of Python, Ruby, JavaScript and Julia.
-- Written by tools/rows.py from tools/languages.txt: make rows writes it anew.
use Rattle.std.specs.Prelude.{◌≡◌, [], ◌∷◌, codes, pos, Some, true, Ok, Err}
use Rattle.std.proofs.Common.{refl}
use Rattle.lexical_util.specs.declared.error.Error.TheVariants.{InvalidDigit, Empty, InvalidPositiveSign, InvalidLeadingZeros}
use Rattle.lexical_util.specs.Format.{standard}
use Rattle.lexical_parse_integer.specs.Computed.{grammar}
use Rattle.lexical_parse_integer.specs.Grammar.{complete}
use Rattle.lexical_formats.specs.Names.{format_named}
use Rattle.rows.proofs.Tables.{Answers, minus, u32, u64, i32}
use Rattle.lexical_formats.specs.Languages.{javascript, julia, python, ruby}

-- ---- Python 3

python_fields : (python ≡ record standard { no_positive_mantissa_sign = true; literal_prefixes = true; digit_separator = Some 95; integer_internal_digit_separator = true; integer_prefix_digit_separator = true; no_integer_leading_zeros = true })
    × (format_named (codes "python") ≡ Some python)
python_fields = (refl, refl)

python_complete : Answers complete (
    (python, u32, codes "1_000", Ok (pos 1000)) ∷
    (python, u32, codes "0", Ok (pos 0)) ∷
    (python, u32, codes "0x_1F", Ok (pos 31)) ∷
    (python, u32, codes "0o17", Ok (pos 15)) ∷
    (python, u32, codes "0B_1_01", Ok (pos 5)) ∷
    (python, u32, codes "0XdeadBEEF", Ok (pos 3735928559)) ∷
    (python, u32, codes "0777", Err (InvalidLeadingZeros 0)) ∷
    (python, u32, codes "0_1", Err (InvalidLeadingZeros 0)) ∷
    (python, u32, codes "1__0", Err (InvalidDigit 1)) ∷
    (python, u32, codes "1_", Err (InvalidDigit 1)) ∷
    (python, u32, codes "_1", Err (InvalidDigit 0)) ∷
    (python, u32, codes "0x", Err (Empty 2)) ∷
    (python, u32, codes "0x__1", Err (InvalidDigit 2)) ∷
    (python, u32, codes "+1", Err (InvalidPositiveSign 0)) ∷
    (python, u32, codes "1L", Err (InvalidDigit 1)) ∷
    -- unlike: 0
    (python, u32, codes "00", Err (InvalidLeadingZeros 0)) ∷
    -- unlike: 0
    (python, u32, codes "0_0", Err (InvalidLeadingZeros 0)) ∷
    [])
unfolding grammar
python_complete = refl

-- ---- Ruby

ruby_fields : (ruby ≡ record standard { literal_prefixes = true; digit_separator = Some 95; integer_internal_digit_separator = true; literal_octal_zero = true })
    × (format_named (codes "ruby") ≡ Some ruby)
ruby_fields = (refl, refl)

ruby_complete : Answers complete (
    (ruby, i32, codes "+1_000", Ok (pos 1000)) ∷
    (ruby, i32, codes "-0", Ok (pos 0)) ∷
    (ruby, i32, codes "0777", Ok (pos 511)) ∷
    (ruby, i32, codes "0_7", Ok (pos 7)) ∷
    (ruby, i32, codes "00", Ok (pos 0)) ∷
    (ruby, i32, codes "-0x1_F", Ok (minus 31)) ∷
    (ruby, i32, codes "0O17", Ok (pos 15)) ∷
    (ruby, i32, codes "0b1_01", Ok (pos 5)) ∷
    (ruby, i32, codes "1__0", Err (InvalidDigit 1)) ∷
    (ruby, i32, codes "1_", Err (InvalidDigit 1)) ∷
    (ruby, i32, codes "_1", Err (InvalidDigit 0)) ∷
    (ruby, i32, codes "0_", Err (InvalidDigit 1)) ∷
    (ruby, i32, codes "08", Err (InvalidDigit 1)) ∷
    (ruby, i32, codes "0x", Err (Empty 2)) ∷
    (ruby, i32, codes "0x_1", Err (InvalidDigit 2)) ∷
    -- unlike: 10
    (ruby, i32, codes "0d10", Err (InvalidDigit 1)) ∷
    [])
unfolding grammar
ruby_complete = refl

-- ---- JavaScript, in strict mode and in modules

javascript_fields : (javascript ≡ record standard { no_positive_mantissa_sign = true; literal_prefixes = true; digit_separator = Some 95; integer_internal_digit_separator = true; base_suffix = Some 110; case_sensitive_base_suffix = true; no_integer_leading_zeros = true })
    × (format_named (codes "javascript") ≡ Some javascript)
javascript_fields = (refl, refl)

javascript_complete : Answers complete (
    (javascript, u64, codes "1_000", Ok (pos 1000)) ∷
    (javascript, u64, codes "0", Ok (pos 0)) ∷
    (javascript, u64, codes "0x1_F", Ok (pos 31)) ∷
    (javascript, u64, codes "0O17", Ok (pos 15)) ∷
    (javascript, u64, codes "0b1_01", Ok (pos 5)) ∷
    (javascript, u64, codes "10n", Ok (pos 10)) ∷
    (javascript, u64, codes "0x1Fn", Ok (pos 31)) ∷
    (javascript, u64, codes "00", Err (InvalidLeadingZeros 0)) ∷
    (javascript, u64, codes "0777", Err (InvalidLeadingZeros 0)) ∷
    (javascript, u64, codes "0_1", Err (InvalidLeadingZeros 0)) ∷
    (javascript, u64, codes "1__0", Err (InvalidDigit 1)) ∷
    (javascript, u64, codes "1_", Err (InvalidDigit 1)) ∷
    (javascript, u64, codes "0x_1", Err (InvalidDigit 2)) ∷
    (javascript, u64, codes "1_n", Err (InvalidDigit 1)) ∷
    (javascript, u64, codes "1N", Err (InvalidDigit 1)) ∷
    (javascript, u64, codes "+1", Err (InvalidPositiveSign 0)) ∷
    -- unlike: 1000
    (javascript, u64, codes "1e3", Err (InvalidDigit 1)) ∷
    -- unlike: 9007199254740992
    (javascript, u64, codes "9007199254740993", Ok (pos 9007199254740993)) ∷
    [])
unfolding grammar
javascript_complete = refl

-- ---- Julia

julia_fields : (julia ≡ record standard { no_positive_mantissa_sign = true; literal_prefixes = true; digit_separator = Some 95; integer_internal_digit_separator = true; case_sensitive_base_prefix = true })
    × (format_named (codes "julia") ≡ Some julia)
julia_fields = (refl, refl)

julia_complete : Answers complete (
    (julia, u32, codes "1_000", Ok (pos 1000)) ∷
    (julia, u32, codes "007", Ok (pos 7)) ∷
    (julia, u32, codes "0_1", Ok (pos 1)) ∷
    (julia, u32, codes "0x1_F", Ok (pos 31)) ∷
    (julia, u32, codes "0o17", Ok (pos 15)) ∷
    (julia, u32, codes "0b1_01", Ok (pos 5)) ∷
    (julia, u32, codes "1__0", Err (InvalidDigit 1)) ∷
    (julia, u32, codes "1_", Err (InvalidDigit 1)) ∷
    (julia, u32, codes "_1", Err (InvalidDigit 0)) ∷
    (julia, u32, codes "0x_1", Err (InvalidDigit 2)) ∷
    (julia, u32, codes "0X1F", Err (InvalidDigit 1)) ∷
    (julia, u32, codes "0x", Err (Empty 2)) ∷
    -- unlike: 1
    (julia, u32, codes "+1", Err (InvalidPositiveSign 0)) ∷
    -- unlike: 254, of type UInt8
    (julia, i32, codes "-0x2", Ok (minus 2)) ∷
    [])
unfolding grammar
julia_complete = refl
