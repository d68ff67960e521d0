-- Test vectors: the integers of C, and of languages that write them as C does.
-- Written by tools/rows.py from tools/languages.txt: make rows writes it anew.
use Rattle.std.specs.Prelude.{◌≡◌, [], ◌∷◌, codes, pos, Some, true, Ok, Err}
use Rattle.std.proofs.Common.{refl}
use Rattle.lexical_util.specs.declared.error.Error.TheVariants.{Overflow, InvalidDigit, Empty, InvalidPositiveSign, InvalidLeadingZeros}
use Rattle.lexical_util.specs.Format.{standard}
use Rattle.lexical_parse_integer.specs.Computed.{grammar}
use Rattle.lexical_parse_integer.specs.Grammar.{complete}
use Rattle.lexical_formats.specs.Names.{format_named}
use Rattle.rows.proofs.Tables.{Answers, minus, u32, u64, i32, i64}
use Rattle.lexical_formats.specs.Languages.{c, c23, c_decimal, c_hexadecimal, c_octal, cpp14, csharp, java, kotlin}

-- ---- C, up to C17

c_fields : (c ≡ record standard { no_positive_mantissa_sign = true; literal_prefixes = true; literal_octal_zero = true })
    × (format_named (codes "c") ≡ Some c)
c_fields = (refl, refl)

c_complete : Answers complete (
    (c, u32, codes "0", Ok (pos 0)) ∷
    (c, u32, codes "511", Ok (pos 511)) ∷
    (c, u32, codes "0777", Ok (pos 511)) ∷
    (c, u32, codes "00", Ok (pos 0)) ∷
    (c, u32, codes "0x1FF", Ok (pos 511)) ∷
    (c, u32, codes "0X01ff", Ok (pos 511)) ∷
    (c, u32, codes "08", Err (InvalidDigit 1)) ∷
    (c, u32, codes "0x", Err (Empty 2)) ∷
    (c, u32, codes "1'000", Err (InvalidDigit 1)) ∷
    (c, u32, codes "1_000", Err (InvalidDigit 1)) ∷
    (c, u32, codes "+1", Err (InvalidPositiveSign 0)) ∷
    (c, u32, codes "-1", Err (InvalidDigit 0)) ∷
    -- unlike: no constant
    (c, u32, codes "0o17", Ok (pos 15)) ∷
    -- unlike: no constant of C17
    (c, u32, codes "0b1", Ok (pos 1)) ∷
    -- unlike: 1, of type unsigned int
    (c, u32, codes "1u", Err (InvalidDigit 1)) ∷
    -- unlike: 1
    (c, i64, codes "-0xFFFFFFFF", Ok (minus 4294967295)) ∷
    [])
unfolding grammar
c_complete = refl

-- ---- C, decimal constants

c_decimal_fields : (c_decimal ≡ record standard { no_positive_mantissa_sign = true; no_integer_leading_zeros = true })
    × (format_named (codes "c_decimal") ≡ Some c_decimal)
c_decimal_fields = (refl, refl)

c_decimal_complete : Answers complete (
    (c_decimal, u64, codes "0", Ok (pos 0)) ∷
    (c_decimal, u64, codes "7", Ok (pos 7)) ∷
    (c_decimal, u64, codes "1000", Ok (pos 1000)) ∷
    (c_decimal, u64, codes "18446744073709551615", Ok (pos 18446744073709551615)) ∷
    (c_decimal, u64, codes "00", Err (InvalidLeadingZeros 0)) ∷
    (c_decimal, u64, codes "0777", Err (InvalidLeadingZeros 0)) ∷
    (c_decimal, u64, codes "0x1", Err (InvalidDigit 1)) ∷
    (c_decimal, u64, codes "1_0", Err (InvalidDigit 1)) ∷
    (c_decimal, u64, codes "+1", Err (InvalidPositiveSign 0)) ∷
    (c_decimal, u64, codes "", Err (Empty 0)) ∷
    -- unlike: 1, of type long
    (c_decimal, u64, codes "1L", Err (InvalidDigit 1)) ∷
    [])
unfolding grammar
c_decimal_complete = refl

-- ---- C, octal constants

c_octal_fields : (c_octal ≡ record standard { no_positive_mantissa_sign = true; mantissa_radix = 8 })
    × (format_named (codes "c_octal") ≡ Some c_octal)
c_octal_fields = (refl, refl)

c_octal_complete : Answers complete (
    (c_octal, u64, codes "0", Ok (pos 0)) ∷
    (c_octal, u64, codes "0777", Ok (pos 511)) ∷
    (c_octal, u64, codes "00", Ok (pos 0)) ∷
    (c_octal, u64, codes "01777777777777777777777", Ok (pos 18446744073709551615)) ∷
    (c_octal, u64, codes "02000000000000000000000", Err (Overflow 22)) ∷
    (c_octal, u64, codes "08", Err (InvalidDigit 1)) ∷
    (c_octal, u64, codes "0x1", Err (InvalidDigit 1)) ∷
    (c_octal, u64, codes "0_7", Err (InvalidDigit 1)) ∷
    (c_octal, u64, codes "+07", Err (InvalidPositiveSign 0)) ∷
    -- unlike: a decimal constant, 777
    (c_octal, u64, codes "777", Ok (pos 511)) ∷
    -- unlike: 7, of type unsigned int
    (c_octal, u64, codes "07u", Err (InvalidDigit 2)) ∷
    -- unlike: 1
    (c_octal, i64, codes "-037777777777", Ok (minus 4294967295)) ∷
    [])
unfolding grammar
c_octal_complete = refl

-- ---- C, hexadecimal constants

c_hexadecimal_fields : (c_hexadecimal ≡ record standard { no_positive_mantissa_sign = true; mantissa_radix = 16; base_prefix = Some 120 })
    × (format_named (codes "c_hexadecimal") ≡ Some c_hexadecimal)
c_hexadecimal_fields = (refl, refl)

c_hexadecimal_complete : Answers complete (
    (c_hexadecimal, u64, codes "0x1FF", Ok (pos 511)) ∷
    (c_hexadecimal, u64, codes "0X1ff", Ok (pos 511)) ∷
    (c_hexadecimal, u64, codes "0x0", Ok (pos 0)) ∷
    (c_hexadecimal, u64, codes "0xDEADbeef", Ok (pos 3735928559)) ∷
    (c_hexadecimal, u64, codes "0x", Err (Empty 2)) ∷
    (c_hexadecimal, u64, codes "0xG", Err (InvalidDigit 2)) ∷
    (c_hexadecimal, u64, codes "0x1_F", Err (InvalidDigit 3)) ∷
    (c_hexadecimal, u64, codes "0x0x1", Err (InvalidDigit 3)) ∷
    (c_hexadecimal, u64, codes "+0x1", Err (InvalidPositiveSign 0)) ∷
    -- unlike: no constant
    (c_hexadecimal, u64, codes "1FF", Ok (pos 511)) ∷
    -- unlike: a decimal constant, 10
    (c_hexadecimal, u64, codes "10", Ok (pos 16)) ∷
    -- unlike: a binary constant of C23, 1
    (c_hexadecimal, u64, codes "0b1", Ok (pos 177)) ∷
    -- unlike: 1, of type unsigned int
    (c_hexadecimal, u64, codes "0x1u", Err (InvalidDigit 3)) ∷
    -- unlike: 1
    (c_hexadecimal, i64, codes "-0xFFFFFFFF", Ok (minus 4294967295)) ∷
    [])
unfolding grammar
c_hexadecimal_complete = refl

-- ---- C23

c23_fields : (c23 ≡ record standard { no_positive_mantissa_sign = true; literal_prefixes = true; digit_separator = Some 39; integer_internal_digit_separator = true; literal_octal_zero = true })
    × (format_named (codes "c23") ≡ Some c23)
c23_fields = (refl, refl)

c23_complete : Answers complete (
    (c23, u32, codes "1'000", Ok (pos 1000)) ∷
    (c23, u32, codes "0'777", Ok (pos 511)) ∷
    (c23, u32, codes "0x1'FF", Ok (pos 511)) ∷
    (c23, u32, codes "0b1'01", Ok (pos 5)) ∷
    (c23, u32, codes "00", Ok (pos 0)) ∷
    (c23, u32, codes "1''000", Err (InvalidDigit 1)) ∷
    (c23, u32, codes "1'", Err (InvalidDigit 1)) ∷
    (c23, u32, codes "'1", Err (InvalidDigit 0)) ∷
    (c23, u32, codes "0x'1", Err (InvalidDigit 2)) ∷
    (c23, u32, codes "0'8", Err (InvalidDigit 1)) ∷
    (c23, u32, codes "+1", Err (InvalidPositiveSign 0)) ∷
    -- unlike: no constant
    (c23, u32, codes "0o17", Ok (pos 15)) ∷
    -- unlike: 1, of type _BitInt(2)
    (c23, u32, codes "1wb", Err (InvalidDigit 1)) ∷
    -- unlike: 1
    (c23, i64, codes "-0xFFFF'FFFF", Ok (minus 4294967295)) ∷
    [])
unfolding grammar
c23_complete = refl

-- ---- C++14 and later

cpp14_fields : (cpp14 ≡ record standard { no_positive_mantissa_sign = true; literal_prefixes = true; digit_separator = Some 39; integer_internal_digit_separator = true; literal_octal_zero = true })
    × (format_named (codes "cpp14") ≡ Some cpp14)
cpp14_fields = (refl, refl)

cpp14_complete : Answers complete (
    (cpp14, u32, codes "1'0'0", Ok (pos 100)) ∷
    (cpp14, u32, codes "0'10", Ok (pos 8)) ∷
    (cpp14, u32, codes "0'0", Ok (pos 0)) ∷
    (cpp14, u32, codes "0B0'1", Ok (pos 1)) ∷
    (cpp14, u32, codes "0X1'f", Ok (pos 31)) ∷
    (cpp14, u32, codes "1'000'", Err (InvalidDigit 5)) ∷
    (cpp14, u32, codes "0b'1", Err (InvalidDigit 2)) ∷
    (cpp14, u32, codes "0x1''F", Err (InvalidDigit 3)) ∷
    (cpp14, u32, codes "09", Err (InvalidDigit 1)) ∷
    (cpp14, u32, codes "1_0", Err (InvalidDigit 1)) ∷
    (cpp14, u32, codes "-1", Err (InvalidDigit 0)) ∷
    -- unlike: no literal
    (cpp14, u32, codes "0o7", Ok (pos 7)) ∷
    -- unlike: 1, of type unsigned long
    (cpp14, u32, codes "1ul", Err (InvalidDigit 1)) ∷
    -- unlike: 1
    (cpp14, i64, codes "-0xFFFF'FFFF", Ok (minus 4294967295)) ∷
    [])
unfolding grammar
cpp14_complete = refl

-- ---- C#

csharp_fields : (csharp ≡ record standard { no_positive_mantissa_sign = true; literal_prefixes = true; digit_separator = Some 95; integer_internal_digit_separator = true; integer_consecutive_digit_separator = true; integer_prefix_digit_separator = true })
    × (format_named (codes "csharp") ≡ Some csharp)
csharp_fields = (refl, refl)

csharp_complete : Answers complete (
    (csharp, u32, codes "1__000", Ok (pos 1000)) ∷
    (csharp, u32, codes "0777", Ok (pos 777)) ∷
    (csharp, u32, codes "00", Ok (pos 0)) ∷
    (csharp, u32, codes "0_1", Ok (pos 1)) ∷
    (csharp, u32, codes "0x_1F", Ok (pos 31)) ∷
    (csharp, u32, codes "0X1__F", Ok (pos 31)) ∷
    (csharp, u32, codes "0b__1_0", Ok (pos 2)) ∷
    (csharp, u32, codes "1_", Err (InvalidDigit 1)) ∷
    (csharp, u32, codes "_1", Err (InvalidDigit 0)) ∷
    (csharp, u32, codes "0x", Err (Empty 2)) ∷
    (csharp, u32, codes "0x_", Err (Empty 3)) ∷
    (csharp, u32, codes "0x1_", Err (InvalidDigit 3)) ∷
    (csharp, u32, codes "0b2", Err (InvalidDigit 2)) ∷
    (csharp, u32, codes "+1", Err (InvalidPositiveSign 0)) ∷
    -- unlike: no literal
    (csharp, u32, codes "0o17", Ok (pos 15)) ∷
    -- unlike: 1, of type ulong
    (csharp, u32, codes "1UL", Err (InvalidDigit 1)) ∷
    [])
unfolding grammar
csharp_complete = refl

-- ---- Java

java_fields : (java ≡ record standard { no_positive_mantissa_sign = true; literal_prefixes = true; digit_separator = Some 95; integer_internal_digit_separator = true; base_suffix = Some 108; integer_consecutive_digit_separator = true; literal_octal_zero = true })
    × (format_named (codes "java") ≡ Some java)
java_fields = (refl, refl)

java_complete : Answers complete (
    (java, u32, codes "1__000", Ok (pos 1000)) ∷
    (java, u32, codes "0777", Ok (pos 511)) ∷
    (java, u32, codes "0_7", Ok (pos 7)) ∷
    (java, u32, codes "00", Ok (pos 0)) ∷
    (java, u32, codes "0x1_F", Ok (pos 31)) ∷
    (java, u32, codes "0B1__01", Ok (pos 5)) ∷
    (java, i64, codes "1L", Ok (pos 1)) ∷
    (java, i64, codes "0xFl", Ok (pos 15)) ∷
    (java, u32, codes "1_", Err (InvalidDigit 1)) ∷
    (java, u32, codes "_1", Err (InvalidDigit 0)) ∷
    (java, u32, codes "0_", Err (InvalidDigit 1)) ∷
    (java, u32, codes "08", Err (InvalidDigit 1)) ∷
    (java, u32, codes "0_8", Err (InvalidDigit 1)) ∷
    (java, u32, codes "0x_1", Err (InvalidDigit 2)) ∷
    (java, u32, codes "1_L", Err (InvalidDigit 1)) ∷
    (java, u32, codes "1LL", Err (InvalidDigit 2)) ∷
    (java, u32, codes "+1", Err (InvalidPositiveSign 0)) ∷
    -- unlike: no literal
    (java, u32, codes "0o17", Ok (pos 15)) ∷
    -- unlike: -1
    (java, i32, codes "0xFFFFFFFF", Err (Overflow 9)) ∷
    [])
unfolding grammar
java_complete = refl

-- ---- Kotlin

kotlin_fields : (kotlin ≡ record standard { no_positive_mantissa_sign = true; literal_prefixes = true; digit_separator = Some 95; integer_internal_digit_separator = true; base_suffix = Some 76; case_sensitive_base_suffix = true; integer_consecutive_digit_separator = true; no_integer_leading_zeros = true })
    × (format_named (codes "kotlin") ≡ Some kotlin)
kotlin_fields = (refl, refl)

kotlin_complete : Answers complete (
    (kotlin, u32, codes "1__000", Ok (pos 1000)) ∷
    (kotlin, u32, codes "0", Ok (pos 0)) ∷
    (kotlin, u32, codes "0x1_F", Ok (pos 31)) ∷
    (kotlin, u32, codes "0B1__01", Ok (pos 5)) ∷
    (kotlin, i64, codes "1L", Ok (pos 1)) ∷
    (kotlin, i64, codes "0x0FL", Ok (pos 15)) ∷
    (kotlin, u32, codes "00", Err (InvalidLeadingZeros 0)) ∷
    (kotlin, u32, codes "0777", Err (InvalidLeadingZeros 0)) ∷
    (kotlin, u32, codes "0_1", Err (InvalidLeadingZeros 0)) ∷
    (kotlin, u32, codes "1_", Err (InvalidDigit 1)) ∷
    (kotlin, u32, codes "_1", Err (InvalidDigit 0)) ∷
    (kotlin, u32, codes "0x_1", Err (InvalidDigit 2)) ∷
    (kotlin, i64, codes "1l", Err (InvalidDigit 1)) ∷
    (kotlin, u32, codes "+1", Err (InvalidPositiveSign 0)) ∷
    -- unlike: no literal
    (kotlin, u32, codes "0o17", Ok (pos 15)) ∷
    -- unlike: 1, of type UInt
    (kotlin, u32, codes "1u", Err (InvalidDigit 1)) ∷
    [])
unfolding grammar
kotlin_complete = refl
