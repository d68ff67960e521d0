-- Test vectors: radixes from 2 to 36.
-- Written by tools/rows.py from tools/rows.txt: make rows writes it anew.
use Rattle.std.specs.Prelude.{[], ◌∷◌, codes, pos, Ok, Err}
use Rattle.std.proofs.Common.{refl}
use Rattle.lexical_util.specs.declared.error.Error.TheVariants.{Overflow, InvalidDigit}
use Rattle.lexical_util.specs.Format.{standard}
use Rattle.lexical_parse_integer.specs.Computed.{grammar}
use Rattle.lexical_parse_integer.specs.Grammar.{complete, partial}
use Rattle.rows.proofs.Tables.{Answers, minus, u8, u32, u64, i8, i32}

-- ---- digits end at the first that the radix has not

five_digits_partial : Answers partial (
    (record standard { mantissa_radix = 4 }, u32, codes "12345", Ok (pos 27, 3)) ∷
    (record standard { mantissa_radix = 6 }, u32, codes "12345", Ok (pos 1865, 5)) ∷
    (record standard { mantissa_radix = 8 }, u32, codes "12345", Ok (pos 5349, 5)) ∷
    -- 9 is no digit of radix 9, so that no word of four is taken
    (record standard { mantissa_radix = 9 }, u32, codes "1239", Ok (pos 102, 3)) ∷
    (record standard { mantissa_radix = 10 }, u32, codes "12345", Ok (pos 12345, 5)) ∷
    (record standard { mantissa_radix = 12 }, u32, codes "12345", Ok (pos 24677, 5)) ∷
    (record standard { mantissa_radix = 16 }, u32, codes "12345", Ok (pos 74565, 5)) ∷
    (record standard { mantissa_radix = 24 }, u32, codes "12345", Ok (pos 361253, 5)) ∷
    (record standard { mantissa_radix = 32 }, u32, codes "12345", Ok (pos 1117317, 5)) ∷
    [])
unfolding grammar
five_digits_partial = refl

-- ---- one value in every radix

thirty_seven_complete : Answers complete (
    (record standard { mantissa_radix = 2 }, u32, codes "100101", Ok (pos 37)) ∷
    (record standard { mantissa_radix = 3 }, u32, codes "1101", Ok (pos 37)) ∷
    (record standard { mantissa_radix = 4 }, u32, codes "211", Ok (pos 37)) ∷
    (record standard { mantissa_radix = 5 }, u32, codes "122", Ok (pos 37)) ∷
    (record standard { mantissa_radix = 6 }, u32, codes "101", Ok (pos 37)) ∷
    (record standard { mantissa_radix = 7 }, u32, codes "52", Ok (pos 37)) ∷
    (record standard { mantissa_radix = 8 }, u32, codes "45", Ok (pos 37)) ∷
    (record standard { mantissa_radix = 9 }, u32, codes "41", Ok (pos 37)) ∷
    (record standard { mantissa_radix = 10 }, u32, codes "37", Ok (pos 37)) ∷
    (record standard { mantissa_radix = 11 }, u32, codes "34", Ok (pos 37)) ∷
    (record standard { mantissa_radix = 12 }, u32, codes "31", Ok (pos 37)) ∷
    (record standard { mantissa_radix = 13 }, u32, codes "2B", Ok (pos 37)) ∷
    (record standard { mantissa_radix = 14 }, u32, codes "29", Ok (pos 37)) ∷
    (record standard { mantissa_radix = 15 }, u32, codes "27", Ok (pos 37)) ∷
    (record standard { mantissa_radix = 16 }, u32, codes "25", Ok (pos 37)) ∷
    (record standard { mantissa_radix = 17 }, u32, codes "23", Ok (pos 37)) ∷
    (record standard { mantissa_radix = 18 }, u32, codes "21", Ok (pos 37)) ∷
    (record standard { mantissa_radix = 19 }, u32, codes "1I", Ok (pos 37)) ∷
    (record standard { mantissa_radix = 20 }, u32, codes "1H", Ok (pos 37)) ∷
    (record standard { mantissa_radix = 21 }, u32, codes "1G", Ok (pos 37)) ∷
    (record standard { mantissa_radix = 22 }, u32, codes "1F", Ok (pos 37)) ∷
    (record standard { mantissa_radix = 23 }, u32, codes "1E", Ok (pos 37)) ∷
    (record standard { mantissa_radix = 24 }, u32, codes "1D", Ok (pos 37)) ∷
    (record standard { mantissa_radix = 25 }, u32, codes "1C", Ok (pos 37)) ∷
    (record standard { mantissa_radix = 26 }, u32, codes "1B", Ok (pos 37)) ∷
    (record standard { mantissa_radix = 27 }, u32, codes "1A", Ok (pos 37)) ∷
    (record standard { mantissa_radix = 28 }, u32, codes "19", Ok (pos 37)) ∷
    (record standard { mantissa_radix = 29 }, u32, codes "18", Ok (pos 37)) ∷
    (record standard { mantissa_radix = 30 }, u32, codes "17", Ok (pos 37)) ∷
    (record standard { mantissa_radix = 31 }, u32, codes "16", Ok (pos 37)) ∷
    (record standard { mantissa_radix = 32 }, u32, codes "15", Ok (pos 37)) ∷
    (record standard { mantissa_radix = 33 }, u32, codes "14", Ok (pos 37)) ∷
    (record standard { mantissa_radix = 34 }, u32, codes "13", Ok (pos 37)) ∷
    (record standard { mantissa_radix = 35 }, u32, codes "12", Ok (pos 37)) ∷
    (record standard { mantissa_radix = 36 }, u32, codes "11", Ok (pos 37)) ∷
    [])
unfolding grammar
thirty_seven_complete = refl

-- ---- digits of radix 2 and of radix 12

binary_and_duodecimal_complete : Answers complete (
    (record standard { mantissa_radix = 2 }, i32, codes "11", Ok (pos 3)) ∷
    (record standard { mantissa_radix = 2 }, i32, codes "-11", Ok (minus 3)) ∷
    (record standard { mantissa_radix = 2 }, u64, codes "10011010010", Ok (pos 1234)) ∷
    (record standard { mantissa_radix = 2 }, u8, codes "100000000", Err (Overflow 8)) ∷
    (record standard { mantissa_radix = 12 }, u64, codes "86A", Ok (pos 1234)) ∷
    [])
unfolding grammar
binary_and_duodecimal_complete = refl

binary_and_duodecimal_partial : Answers partial (
    (record standard { mantissa_radix = 12 }, u64, codes "86A", Ok (pos 1234, 3)) ∷
    [])
unfolding grammar
binary_and_duodecimal_partial = refl

-- ---- two digits fill a byte in radix 16, and less than two in radix 36

ends_in_great_radixes_complete : Answers complete (
    (record standard { mantissa_radix = 16 }, u8, codes "FF", Ok (pos 255)) ∷
    (record standard { mantissa_radix = 16 }, i8, codes "7F", Ok (pos 127)) ∷
    (record standard { mantissa_radix = 16 }, i8, codes "80", Err (Overflow 1)) ∷
    (record standard { mantissa_radix = 16 }, i8, codes "-80", Ok (minus 128)) ∷
    (record standard { mantissa_radix = 36 }, u8, codes "73", Ok (pos 255)) ∷
    (record standard { mantissa_radix = 36 }, u8, codes "74", Err (Overflow 1)) ∷
    [])
unfolding grammar
ends_in_great_radixes_complete = refl

-- ---- the bytes just outside of the digits and of the letters are no digits

beside_digits_and_letters_partial : Answers partial (
    -- before `0`
    (record standard { mantissa_radix = 36 }, u32, codes "1/", Ok (pos 1, 1)) ∷
    -- behind `9`
    (record standard { mantissa_radix = 36 }, u32, codes "1:", Ok (pos 1, 1)) ∷
    -- before `A`
    (record standard { mantissa_radix = 36 }, u32, codes "1@", Ok (pos 1, 1)) ∷
    -- behind `Z`
    (record standard { mantissa_radix = 36 }, u32, codes "1[", Ok (pos 1, 1)) ∷
    -- before `a`
    (record standard { mantissa_radix = 36 }, u32, codes "1`", Ok (pos 1, 1)) ∷
    -- behind `z`
    (record standard { mantissa_radix = 36 }, u32, codes "1{", Ok (pos 1, 1)) ∷
    [])
unfolding grammar
beside_digits_and_letters_partial = refl

beside_digits_and_letters_complete : Answers complete (
    (record standard { mantissa_radix = 36 }, u32, codes "@", Err (InvalidDigit 0)) ∷
    [])
unfolding grammar
beside_digits_and_letters_complete = refl

-- ---- a digit of the next radix alone ends the numeral, also before one that is a digit

digits_of_the_next_radix_partial : Answers partial (
    -- 1 * 8 + 2
    (record standard { mantissa_radix = 8 }, u32, codes "1281", Ok (pos 10, 2)) ∷
    [])
unfolding grammar
digits_of_the_next_radix_partial = refl

digits_of_the_next_radix_complete : Answers complete (
    (record standard { mantissa_radix = 8 }, u32, codes "1281", Err (InvalidDigit 2)) ∷
    [])
unfolding grammar
digits_of_the_next_radix_complete = refl
