-- Test vectors: values at the ends of the types, and outside of them.
-- Written by tools/rows.py from tools/rows.txt: make rows writes it anew.
use Rattle.std.specs.Prelude.{[], ◌∷◌, codes, pos, Ok, Err}
use Rattle.std.proofs.Common.{refl}
use Rattle.lexical_util.specs.declared.error.Error.TheVariants.{Overflow, Underflow, Empty}
use Rattle.lexical_util.specs.Format.{standard}
use Rattle.lexical_parse_integer.specs.Computed.{grammar}
use Rattle.lexical_parse_integer.specs.Grammar.{complete, partial}
use Rattle.rows.proofs.Tables.{Answers, minus, u8, u16, u32, u64, u128, i8, i16, i32, i64, i128, usize, isize}

-- ---- the greatest value of each unsigned type, the next one, and zero

unsigned_ends_complete : Answers complete (
    (standard, u8, codes "255", Ok (pos 255)) ∷
    (standard, u8, codes "256", Err (Overflow 2)) ∷
    (standard, u8, codes "0", Ok (pos 0)) ∷
    (standard, u16, codes "65535", Ok (pos 65535)) ∷
    (standard, u16, codes "65536", Err (Overflow 4)) ∷
    (standard, u16, codes "0", Ok (pos 0)) ∷
    (standard, u32, codes "4294967295", Ok (pos 4294967295)) ∷
    (standard, u32, codes "4294967296", Err (Overflow 9)) ∷
    (standard, u32, codes "0", Ok (pos 0)) ∷
    (standard, u64, codes "18446744073709551615", Ok (pos 18446744073709551615)) ∷
    (standard, u64, codes "18446744073709551616", Err (Overflow 19)) ∷
    (standard, u64, codes "0", Ok (pos 0)) ∷
    (standard, u128, codes "340282366920938463463374607431768211455", Ok (pos 340282366920938463463374607431768211455)) ∷
    (standard, u128, codes "340282366920938463463374607431768211456", Err (Overflow 38)) ∷
    (standard, u128, codes "0", Ok (pos 0)) ∷
    (standard, usize, codes "18446744073709551615", Ok (pos 18446744073709551615)) ∷
    (standard, usize, codes "18446744073709551616", Err (Overflow 19)) ∷
    (standard, usize, codes "0", Ok (pos 0)) ∷
    [])
unfolding grammar
unsigned_ends_complete = refl

-- ---- the greatest and the least value of each signed type, and the next ones

signed_ends_complete : Answers complete (
    (standard, i8, codes "127", Ok (pos 127)) ∷
    (standard, i8, codes "128", Err (Overflow 2)) ∷
    (standard, i8, codes "-128", Ok (minus 128)) ∷
    (standard, i8, codes "-129", Err (Underflow 3)) ∷
    (standard, i16, codes "32767", Ok (pos 32767)) ∷
    (standard, i16, codes "32768", Err (Overflow 4)) ∷
    (standard, i16, codes "-32768", Ok (minus 32768)) ∷
    (standard, i16, codes "-32769", Err (Underflow 5)) ∷
    (standard, i32, codes "2147483647", Ok (pos 2147483647)) ∷
    (standard, i32, codes "2147483648", Err (Overflow 9)) ∷
    (standard, i32, codes "-2147483648", Ok (minus 2147483648)) ∷
    (standard, i32, codes "-2147483649", Err (Underflow 10)) ∷
    (standard, i64, codes "9223372036854775807", Ok (pos 9223372036854775807)) ∷
    (standard, i64, codes "9223372036854775808", Err (Overflow 18)) ∷
    (standard, i64, codes "-9223372036854775808", Ok (minus 9223372036854775808)) ∷
    (standard, i64, codes "-9223372036854775809", Err (Underflow 19)) ∷
    (standard, i128, codes "170141183460469231731687303715884105727", Ok (pos 170141183460469231731687303715884105727)) ∷
    (standard, i128, codes "170141183460469231731687303715884105728", Err (Overflow 38)) ∷
    (standard, i128, codes "-170141183460469231731687303715884105728", Ok (minus 170141183460469231731687303715884105728)) ∷
    (standard, i128, codes "-170141183460469231731687303715884105729", Err (Underflow 39)) ∷
    (standard, isize, codes "9223372036854775807", Ok (pos 9223372036854775807)) ∷
    (standard, isize, codes "9223372036854775808", Err (Overflow 18)) ∷
    (standard, isize, codes "-9223372036854775808", Ok (minus 9223372036854775808)) ∷
    (standard, isize, codes "-9223372036854775809", Err (Underflow 19)) ∷
    [])
unfolding grammar
signed_ends_complete = refl

-- ---- the greatest value of a signed type and the next one are values of the unsigned type of that width

signed_ends_in_unsigned_complete : Answers complete (
    (standard, u8, codes "127", Ok (pos 127)) ∷
    (standard, u8, codes "128", Ok (pos 128)) ∷
    (standard, u16, codes "32767", Ok (pos 32767)) ∷
    (standard, u16, codes "32768", Ok (pos 32768)) ∷
    (standard, u32, codes "2147483647", Ok (pos 2147483647)) ∷
    (standard, u32, codes "2147483648", Ok (pos 2147483648)) ∷
    (standard, u64, codes "9223372036854775807", Ok (pos 9223372036854775807)) ∷
    (standard, u64, codes "9223372036854775808", Ok (pos 9223372036854775808)) ∷
    (standard, u128, codes "170141183460469231731687303715884105727", Ok (pos 170141183460469231731687303715884105727)) ∷
    (standard, u128, codes "170141183460469231731687303715884105728", Ok (pos 170141183460469231731687303715884105728)) ∷
    (standard, usize, codes "9223372036854775807", Ok (pos 9223372036854775807)) ∷
    (standard, usize, codes "9223372036854775808", Ok (pos 9223372036854775808)) ∷
    [])
unfolding grammar
signed_ends_in_unsigned_complete = refl

-- ---- the greatest value of an unsigned type is outside of the signed type of that width

unsigned_ends_in_signed_complete : Answers complete (
    (standard, i8, codes "255", Err (Overflow 2)) ∷
    (standard, i16, codes "65535", Err (Overflow 4)) ∷
    (standard, i32, codes "4294967295", Err (Overflow 9)) ∷
    (standard, i64, codes "18446744073709551615", Err (Overflow 19)) ∷
    (standard, i128, codes "340282366920938463463374607431768211455", Err (Overflow 38)) ∷
    (standard, isize, codes "18446744073709551615", Err (Overflow 19)) ∷
    [])
unfolding grammar
unsigned_ends_in_signed_complete = refl

-- ---- values a little or far beyond the end, of as many digits as the greatest value has

just_outside_complete : Answers complete (
    (standard, u8, codes "354", Err (Overflow 2)) ∷
    (standard, u8, codes "355", Err (Overflow 2)) ∷
    (standard, u8, codes "356", Err (Overflow 2)) ∷
    (standard, u8, codes "357", Err (Overflow 2)) ∷
    (standard, u8, codes "358", Err (Overflow 2)) ∷
    (standard, u8, codes "510", Err (Overflow 2)) ∷
    (standard, u8, codes "511", Err (Overflow 2)) ∷
    (standard, u8, codes "512", Err (Overflow 2)) ∷
    (standard, u8, codes "513", Err (Overflow 2)) ∷
    (standard, u8, codes "514", Err (Overflow 2)) ∷
    (standard, u8, codes "612", Err (Overflow 2)) ∷
    (standard, u8, codes "999", Err (Overflow 2)) ∷
    (standard, u8, codes "1000", Err (Overflow 3)) ∷
    (standard, u32, codes "5294967294", Err (Overflow 9)) ∷
    (standard, u32, codes "5294967295", Err (Overflow 9)) ∷
    (standard, u32, codes "5294967296", Err (Overflow 9)) ∷
    [])
unfolding grammar
just_outside_complete = refl

-- ---- a fault of the range stands at the first digit that overflows, whatever follows it

later_bytes_complete : Answers complete (
    (standard, u8, codes "2566", Err (Overflow 2)) ∷
    (standard, u8, codes "2566x", Err (Overflow 2)) ∷
    (standard, u8, codes "0999", Err (Overflow 3)) ∷
    (standard, i64, codes "406260572150672006000066000000060060007667760000000000000000000", Err (Overflow 19)) ∷
    (standard, i64, codes "406260572150672006000066000000060060007667760000000000000000000+00000006766767766666767665670000000000000000000000666", Err (Overflow 19)) ∷
    [])
unfolding grammar
later_bytes_complete = refl

later_bytes_partial : Answers partial (
    (standard, u8, codes "2567", Err (Overflow 2)) ∷
    (standard, u8, codes "256abc", Err (Overflow 2)) ∷
    (standard, u8, codes "2566x", Err (Overflow 2)) ∷
    (standard, u64, codes "18446744073709551616", Err (Overflow 19)) ∷
    (standard, u64, codes "18446744073709551616 }, {\"Key\", \"Value\"}}", Err (Overflow 19)) ∷
    [])
unfolding grammar
later_bytes_partial = refl

-- ---- numbers of more digits than the greatest, behind a sign and behind zeros

further_digits_complete : Answers complete (
    (standard, i8, codes "-1000", Err (Underflow 4)) ∷
    (standard, u8, codes "+256", Err (Overflow 3)) ∷
    (standard, u16, codes "100000", Err (Overflow 5)) ∷
    (standard, u64, codes "100000000000000000000", Err (Overflow 20)) ∷
    -- -10^18 is an i64, and -10^19 isn't: 19 zeros behind the 1
    (standard, i64, codes "-100000000000000000000", Err (Underflow 20)) ∷
    (standard, u64, codes "000018446744073709551615", Ok (pos 18446744073709551615)) ∷
    (standard, u64, codes "000018446744073709551616", Err (Overflow 23)) ∷
    [])
unfolding grammar
further_digits_complete = refl

-- ---- each beginning of a text that leaves the type at its last byte

beginnings_complete : Answers complete (
    (standard, i8, codes "", Err (Empty 0)) ∷
    (standard, i8, codes "-", Err (Empty 1)) ∷
    (standard, i8, codes "-1", Ok (minus 1)) ∷
    (standard, i8, codes "-12", Ok (minus 12)) ∷
    (standard, i8, codes "-129", Err (Underflow 3)) ∷
    [])
unfolding grammar
beginnings_complete = refl

-- ---- the least value of a type in radix 2, and letters in either case

shortest_numerals_complete : Answers complete (
    (record standard { mantissa_radix = 2 }, i8, codes "-10000000", Ok (minus 128)) ∷
    -- 35 * 36 + 35
    (record standard { mantissa_radix = 36 }, u16, codes "zZ", Ok (pos 1295)) ∷
    [])
unfolding grammar
shortest_numerals_complete = refl

-- ---- zeros before the first digit change no value

zeros_in_front_complete : Answers complete (
    (standard, i8, codes "-128", Ok (minus 128)) ∷
    (standard, i8, codes "-00128", Ok (minus 128)) ∷
    [])
unfolding grammar
zeros_in_front_complete = refl

-- ---- as many digits as a number of 128 bits can have

ends_of_many_digits_complete : Answers complete (
    (record standard { mantissa_radix = 2 }, u128, codes "11111111111111111111111111111111111111111111111111111111111111111111111111111111111111111111111111111111111111111111111111111111", Ok (pos 340282366920938463463374607431768211455)) ∷
    -- the number of 129 digits is two to the power of 128
    (record standard { mantissa_radix = 2 }, u128, codes "100000000000000000000000000000000000000000000000000000000000000000000000000000000000000000000000000000000000000000000000000000000", Err (Overflow 128)) ∷
    (record standard { mantissa_radix = 2 }, i128, codes "10000000000000000000000000000000000000000000000000000000000000000000000000000000000000000000000000000000000000000000000000000000", Err (Overflow 127)) ∷
    (record standard { mantissa_radix = 2 }, i128, codes "-10000000000000000000000000000000000000000000000000000000000000000000000000000000000000000000000000000000000000000000000000000000", Ok (minus 170141183460469231731687303715884105728)) ∷
    [])
unfolding grammar
ends_of_many_digits_complete = refl
