-- Test vectors: formats, and the fault of the first rule that one breaks.
-- Written by tools/rows.py from tools/rows.txt: make rows writes it anew.
use Rattle.std.specs.Prelude.{[], ◌∷◌, codes, Some, None, true, Err}
use Rattle.std.proofs.Common.{refl}
use Rattle.lexical_util.specs.declared.error.Error.TheVariants.{InvalidMantissaRadix, InvalidDigitSeparator, InvalidBasePrefix, InvalidBaseSuffix, InvalidPunctuation, InvalidLiteralPrefixes}
use Rattle.lexical_util.specs.Format.{standard, json}
use Rattle.lexical_parse_integer.specs.Computed.{grammar}
use Rattle.lexical_parse_integer.specs.Grammar.{complete_if_valid, partial_if_valid}
use Rattle.rows.proofs.Tables.{Answers, FaultsAre, u8, i32}

-- ---- a radix is one from 2 to 36, and this rule is the first

broken_radix_fault : FaultsAre (
    (record standard { mantissa_radix = 0 }, Some InvalidMantissaRadix) ∷
    (record standard { mantissa_radix = 1 }, Some InvalidMantissaRadix) ∷
    (record standard { mantissa_radix = 37 }, Some InvalidMantissaRadix) ∷
    (record standard { mantissa_radix = 1; digit_separator = Some 43 }, Some InvalidMantissaRadix) ∷
    (record standard { mantissa_radix = 37; base_prefix = Some 43 }, Some InvalidMantissaRadix) ∷
    (record standard { mantissa_radix = 0; base_suffix = Some 45 }, Some InvalidMantissaRadix) ∷
    (record standard { mantissa_radix = 1; base_prefix = Some 120; base_suffix = Some 88 }, Some InvalidMantissaRadix) ∷
    [])
unfolding grammar
broken_radix_fault = refl

broken_radix_complete_if_valid : Answers complete_if_valid (
    (record standard { mantissa_radix = 1 }, u8, codes "0", Err InvalidMantissaRadix) ∷
    [])
unfolding grammar
broken_radix_complete_if_valid = refl

broken_radix_partial_if_valid : Answers partial_if_valid (
    (record standard { mantissa_radix = 1 }, u8, codes "0", Err InvalidMantissaRadix) ∷
    [])
unfolding grammar
broken_radix_partial_if_valid = refl

-- ---- a separator is ASCII, no sign, and no digit of the radix

broken_separator_fault : FaultsAre (
    (record standard { digit_separator = Some 128 }, Some InvalidDigitSeparator) ∷
    (record standard { digit_separator = Some 255 }, Some InvalidDigitSeparator) ∷
    (record standard { digit_separator = Some 43 }, Some InvalidDigitSeparator) ∷
    (record standard { digit_separator = Some 45 }, Some InvalidDigitSeparator) ∷
    (record standard { digit_separator = Some 53 }, Some InvalidDigitSeparator) ∷
    (record standard { mantissa_radix = 16; digit_separator = Some 97 }, Some InvalidDigitSeparator) ∷
    (record standard { mantissa_radix = 16; digit_separator = Some 70 }, Some InvalidDigitSeparator) ∷
    (record standard { digit_separator = Some 43; base_suffix = Some 45 }, Some InvalidDigitSeparator) ∷
    (record standard { digit_separator = Some 43; base_prefix = Some 48 }, Some InvalidDigitSeparator) ∷
    (record standard { digit_separator = Some 53; base_prefix = Some 120; base_suffix = Some 88 }, Some InvalidDigitSeparator) ∷
    [])
unfolding grammar
broken_separator_fault = refl

-- ---- so is a prefix

broken_prefix_fault : FaultsAre (
    (record standard { base_prefix = Some 48 }, Some InvalidBasePrefix) ∷
    (record standard { base_prefix = Some 57 }, Some InvalidBasePrefix) ∷
    (record standard { base_prefix = Some 255 }, Some InvalidBasePrefix) ∷
    (record standard { base_prefix = Some 45; base_suffix = Some 57 }, Some InvalidBasePrefix) ∷
    (record standard { base_prefix = Some 48; digit_separator = Some 120; base_suffix = Some 88 }, Some InvalidBasePrefix) ∷
    [])
unfolding grammar
broken_prefix_fault = refl

-- ---- so is a suffix

broken_suffix_fault : FaultsAre (
    (record standard { base_suffix = Some 57 }, Some InvalidBaseSuffix) ∷
    (record standard { base_suffix = Some 255 }, Some InvalidBaseSuffix) ∷
    (record standard { base_suffix = Some 57; digit_separator = Some 95; base_prefix = Some 95 }, Some InvalidBaseSuffix) ∷
    [])
unfolding grammar
broken_suffix_fault = refl

-- ---- no two of separator, prefix and suffix are one byte, in either case

broken_punctuation_fault : FaultsAre (
    (record standard { base_prefix = Some 120; base_suffix = Some 88 }, Some InvalidPunctuation) ∷
    (record standard { digit_separator = Some 95; base_prefix = Some 95 }, Some InvalidPunctuation) ∷
    (record standard { digit_separator = Some 120; base_suffix = Some 88 }, Some InvalidPunctuation) ∷
    (record standard { digit_separator = Some 120; base_prefix = Some 88 }, Some InvalidPunctuation) ∷
    (record standard { base_prefix = Some 65; base_suffix = Some 97 }, Some InvalidPunctuation) ∷
    (record standard { base_prefix = Some 122; base_suffix = Some 90 }, Some InvalidPunctuation) ∷
    -- also where other fields tell the cases apart
    (record standard { base_prefix = Some 120; base_suffix = Some 88; case_sensitive_base_prefix = true; case_sensitive_base_suffix = true }, Some InvalidPunctuation) ∷
    (record standard { digit_separator = Some 120; base_prefix = Some 120 }, Some InvalidPunctuation) ∷
    (record standard { digit_separator = Some 120; base_suffix = Some 120 }, Some InvalidPunctuation) ∷
    (record standard { base_prefix = Some 120; base_suffix = Some 120 }, Some InvalidPunctuation) ∷
    (record standard { digit_separator = Some 88; base_prefix = Some 120 }, Some InvalidPunctuation) ∷
    (record standard { digit_separator = Some 88; base_suffix = Some 120 }, Some InvalidPunctuation) ∷
    (record standard { base_prefix = Some 88; base_suffix = Some 120 }, Some InvalidPunctuation) ∷
    (record standard { digit_separator = Some 95; base_suffix = Some 95 }, Some InvalidPunctuation) ∷
    (record standard { base_prefix = Some 95; base_suffix = Some 95 }, Some InvalidPunctuation) ∷
    [])
unfolding grammar
broken_punctuation_fault = refl

-- ---- literal prefixes ask for radix 10, no prefix of the format's own, and for a separator and a suffix that can't be taken for a part of them

broken_literals_fault : FaultsAre (
    (record standard { literal_prefixes = true; mantissa_radix = 16 }, Some InvalidLiteralPrefixes) ∷
    (record standard { literal_prefixes = true; mantissa_radix = 2 }, Some InvalidLiteralPrefixes) ∷
    (record standard { literal_prefixes = true; base_prefix = Some 100 }, Some InvalidLiteralPrefixes) ∷
    (record standard { literal_prefixes = true; base_prefix = Some 120 }, Some InvalidLiteralPrefixes) ∷
    (record standard { literal_prefixes = true; base_suffix = Some 102 }, Some InvalidLiteralPrefixes) ∷
    (record standard { literal_prefixes = true; base_suffix = Some 70 }, Some InvalidLiteralPrefixes) ∷
    (record standard { literal_prefixes = true; base_suffix = Some 88 }, Some InvalidLiteralPrefixes) ∷
    (record standard { literal_prefixes = true; base_suffix = Some 111 }, Some InvalidLiteralPrefixes) ∷
    (record standard { literal_prefixes = true; base_suffix = Some 79 }, Some InvalidLiteralPrefixes) ∷
    (record standard { literal_prefixes = true; base_suffix = Some 98 }, Some InvalidLiteralPrefixes) ∷
    (record standard { literal_prefixes = true; digit_separator = Some 97 }, Some InvalidLiteralPrefixes) ∷
    (record standard { literal_prefixes = true; digit_separator = Some 88 }, Some InvalidLiteralPrefixes) ∷
    (record standard { literal_prefixes = true; base_prefix = Some 120; base_suffix = Some 88 }, Some InvalidPunctuation) ∷
    (record standard { literal_prefixes = true; mantissa_radix = 37; base_prefix = Some 100 }, Some InvalidMantissaRadix) ∷
    (record standard { literal_prefixes = true; digit_separator = Some 95; base_suffix = Some 117 }, None) ∷
    (record standard { literal_prefixes = true }, None) ∷
    (record standard { literal_prefixes = true; digit_separator = Some 103; base_suffix = Some 121 }, None) ∷
    (record standard { digit_separator = Some 95; integer_prefix_digit_separator = true }, None) ∷
    [])
unfolding grammar
broken_literals_fault = refl

-- ---- octal zeros ask for radix 10, and for nothing else

broken_octal_zeros_fault : FaultsAre (
    (record standard { literal_octal_zero = true }, None) ∷
    (record standard { literal_octal_zero = true; literal_prefixes = true }, None) ∷
    (record standard { literal_octal_zero = true; base_prefix = Some 120; digit_separator = Some 95; base_suffix = Some 104 }, None) ∷
    (record standard { literal_octal_zero = true; digit_separator = Some 97; base_suffix = Some 98 }, None) ∷
    (record standard { literal_octal_zero = true; base_prefix = Some 111 }, None) ∷
    (record standard { literal_octal_zero = true; mantissa_radix = 8 }, Some InvalidLiteralPrefixes) ∷
    (record standard { literal_octal_zero = true; mantissa_radix = 9 }, Some InvalidLiteralPrefixes) ∷
    (record standard { literal_octal_zero = true; mantissa_radix = 11 }, Some InvalidLiteralPrefixes) ∷
    (record standard { literal_octal_zero = true; mantissa_radix = 16 }, Some InvalidLiteralPrefixes) ∷
    (record standard { literal_octal_zero = true; literal_prefixes = true; mantissa_radix = 16 }, Some InvalidLiteralPrefixes) ∷
    (record standard { literal_octal_zero = true; literal_prefixes = true; base_suffix = Some 98 }, Some InvalidLiteralPrefixes) ∷
    (record standard { literal_octal_zero = true; literal_prefixes = true; base_prefix = Some 100 }, Some InvalidLiteralPrefixes) ∷
    (record standard { literal_octal_zero = true; mantissa_radix = 16; base_prefix = Some 120; base_suffix = Some 88 }, Some InvalidPunctuation) ∷
    (record standard { literal_octal_zero = true; mantissa_radix = 37 }, Some InvalidMantissaRadix) ∷
    (record standard { literal_octal_zero = true; mantissa_radix = 37; base_prefix = Some 100 }, Some InvalidMantissaRadix) ∷
    (record standard { literal_octal_zero = true; digit_separator = Some 97; base_prefix = Some 120; base_suffix = Some 111 }, None) ∷
    (record standard { literal_octal_zero = true; mantissa_radix = 16; base_suffix = Some 102 }, Some InvalidBaseSuffix) ∷
    [])
unfolding grammar
broken_octal_zeros_fault = refl

-- ---- each of these bytes is no separator, no prefix and no suffix

unfit_bytes_fault : FaultsAre (
    (record standard { digit_separator = Some 48 }, Some InvalidDigitSeparator) ∷
    (record standard { digit_separator = Some 57 }, Some InvalidDigitSeparator) ∷
    (record standard { mantissa_radix = 16; digit_separator = Some 102 }, Some InvalidDigitSeparator) ∷
    (record standard { base_prefix = Some 53 }, Some InvalidBasePrefix) ∷
    (record standard { base_prefix = Some 43 }, Some InvalidBasePrefix) ∷
    (record standard { base_prefix = Some 45 }, Some InvalidBasePrefix) ∷
    (record standard { base_prefix = Some 128 }, Some InvalidBasePrefix) ∷
    (record standard { mantissa_radix = 16; base_prefix = Some 97 }, Some InvalidBasePrefix) ∷
    (record standard { mantissa_radix = 16; base_prefix = Some 70 }, Some InvalidBasePrefix) ∷
    (record standard { mantissa_radix = 16; base_prefix = Some 102 }, Some InvalidBasePrefix) ∷
    (record standard { base_suffix = Some 48 }, Some InvalidBaseSuffix) ∷
    (record standard { base_suffix = Some 53 }, Some InvalidBaseSuffix) ∷
    (record standard { base_suffix = Some 43 }, Some InvalidBaseSuffix) ∷
    (record standard { base_suffix = Some 45 }, Some InvalidBaseSuffix) ∷
    (record standard { base_suffix = Some 128 }, Some InvalidBaseSuffix) ∷
    (record standard { mantissa_radix = 16; base_suffix = Some 97 }, Some InvalidBaseSuffix) ∷
    (record standard { mantissa_radix = 16; base_suffix = Some 70 }, Some InvalidBaseSuffix) ∷
    (record standard { mantissa_radix = 16; base_suffix = Some 102 }, Some InvalidBaseSuffix) ∷
    -- no digit of radix 10
    (record standard { digit_separator = Some 97 }, None) ∷
    (record standard { digit_separator = Some 70 }, None) ∷
    (record standard { digit_separator = Some 102 }, None) ∷
    [])
unfolding grammar
unfit_bytes_fault = refl

-- ---- of two broken rules the first is the fault

further_broken_rules_fault : FaultsAre (
    (record standard { mantissa_radix = 128 }, Some InvalidMantissaRadix) ∷
    (record standard { mantissa_radix = 255 }, Some InvalidMantissaRadix) ∷
    (record standard { base_prefix = Some 0; base_suffix = Some 0 }, Some InvalidPunctuation) ∷
    (record standard { digit_separator = Some 43; base_prefix = Some 43 }, Some InvalidDigitSeparator) ∷
    (record standard { base_prefix = Some 45; base_suffix = Some 45 }, Some InvalidBasePrefix) ∷
    (record standard { literal_prefixes = true; digit_separator = Some 66 }, Some InvalidLiteralPrefixes) ∷
    (record standard { literal_prefixes = true; mantissa_radix = 37 }, Some InvalidMantissaRadix) ∷
    (record standard { literal_prefixes = true; digit_separator = Some 53 }, Some InvalidDigitSeparator) ∷
    (record standard { literal_prefixes = true; digit_separator = Some 128; base_prefix = Some 100 }, Some InvalidDigitSeparator) ∷
    (record standard { literal_prefixes = true; base_prefix = Some 48 }, Some InvalidBasePrefix) ∷
    (record standard { literal_prefixes = true; base_suffix = Some 57 }, Some InvalidBaseSuffix) ∷
    (record standard { literal_prefixes = true; base_prefix = Some 120; base_suffix = Some 43 }, Some InvalidBaseSuffix) ∷
    (record standard { literal_prefixes = true; digit_separator = Some 95; base_suffix = Some 95 }, Some InvalidPunctuation) ∷
    (record standard { literal_prefixes = true; digit_separator = Some 111; base_prefix = Some 79 }, Some InvalidPunctuation) ∷
    [])
unfolding grammar
further_broken_rules_fault = refl

-- ---- formats that break no rule

valid_fault : FaultsAre (
    (standard, None) ∷
    (json, None) ∷
    (record standard { mantissa_radix = 2 }, None) ∷
    (record standard { mantissa_radix = 36 }, None) ∷
    (record standard { digit_separator = Some 0 }, None) ∷
    (record standard { integer_internal_digit_separator = true }, None) ∷
    -- 9 is no digit of radix 9
    (record standard { mantissa_radix = 9; digit_separator = Some 57 }, None) ∷
    (record standard { mantissa_radix = 8; base_prefix = Some 56 }, None) ∷
    (record standard { mantissa_radix = 8; base_suffix = Some 56 }, None) ∷
    (record standard { base_prefix = Some 120; base_suffix = Some 104; digit_separator = Some 95 }, None) ∷
    [])
unfolding grammar
valid_fault = refl

-- ---- any ASCII byte but the signs and the digits, also one that doesn't show

valid_punctuation_fault : FaultsAre (
    (record standard { digit_separator = Some 127 }, None) ∷
    -- a space
    (record standard { digit_separator = Some 32 }, None) ∷
    (record standard { digit_separator = Some 44 }, None) ∷
    (record standard { digit_separator = Some 46 }, None) ∷
    -- a tab
    (record standard { digit_separator = Some 9 }, None) ∷
    -- letters alone have two cases
    (record standard { base_prefix = Some 91; base_suffix = Some 123 }, None) ∷
    (record standard { base_prefix = Some 64; base_suffix = Some 96 }, None) ∷
    (record standard { mantissa_radix = 16; digit_separator = Some 103 }, None) ∷
    (record standard { digit_separator = Some 120; base_prefix = Some 121 }, None) ∷
    (record standard { digit_separator = Some 120; base_suffix = Some 121 }, None) ∷
    (record standard { base_prefix = Some 120; base_suffix = Some 121 }, None) ∷
    (record standard { digit_separator = Some 91; base_prefix = Some 123 }, None) ∷
    (record standard { digit_separator = Some 91; base_suffix = Some 123 }, None) ∷
    (record standard { digit_separator = Some 95; base_prefix = Some 127 }, None) ∷
    (record standard { digit_separator = Some 95; base_suffix = Some 127 }, None) ∷
    (record standard { base_prefix = Some 95; base_suffix = Some 127 }, None) ∷
    (record standard { digit_separator = Some 64; base_prefix = Some 96 }, None) ∷
    (record standard { digit_separator = Some 64; base_suffix = Some 96 }, None) ∷
    [])
unfolding grammar
valid_punctuation_fault = refl

-- ---- an invalid format is refused before any byte is judged

refused_formats_complete_if_valid : Answers complete_if_valid (
    (record standard { mantissa_radix = 37; base_prefix = Some 43 }, u8, codes "256", Err InvalidMantissaRadix) ∷
    (record standard { digit_separator = Some 43; base_prefix = Some 48 }, u8, codes "+", Err InvalidDigitSeparator) ∷
    (record standard { base_prefix = Some 45; base_suffix = Some 57; no_positive_mantissa_sign = true }, i32, codes "+1", Err InvalidBasePrefix) ∷
    (record standard { base_suffix = Some 57; digit_separator = Some 95; base_prefix = Some 95; required_mantissa_sign = true }, i32, codes "1", Err InvalidBaseSuffix) ∷
    (record standard { base_prefix = Some 120; base_suffix = Some 88 }, i32, codes "0x", Err InvalidPunctuation) ∷
    [])
unfolding grammar
refused_formats_complete_if_valid = refl

refused_formats_partial_if_valid : Answers partial_if_valid (
    (record standard { mantissa_radix = 37; base_prefix = Some 43 }, u8, codes "256", Err InvalidMantissaRadix) ∷
    (record standard { digit_separator = Some 43; base_prefix = Some 48 }, u8, codes "+", Err InvalidDigitSeparator) ∷
    (record standard { base_prefix = Some 45; base_suffix = Some 57; no_positive_mantissa_sign = true }, i32, codes "+1", Err InvalidBasePrefix) ∷
    (record standard { base_suffix = Some 57; digit_separator = Some 95; base_prefix = Some 95; required_mantissa_sign = true }, i32, codes "1", Err InvalidBaseSuffix) ∷
    (record standard { base_prefix = Some 120; base_suffix = Some 88 }, i32, codes "0x", Err InvalidPunctuation) ∷
    [])
unfolding grammar
refused_formats_partial_if_valid = refl
