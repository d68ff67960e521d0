-- The integers of programming languages, of assemblers and of data formats: a format for each.
use Rattle.std.specs.Prelude.{ℕ, true, false, Some}
use Rattle.lexical_util.specs.Ascii.{letter_x, underscore}
use Rattle.lexical_util.specs.Format.{Format, standard}

-- ---- bytes

-- b'\''
abbrev pub apostrophe : ℕ
apostrophe = 39

-- b'L'
abbrev pub capital_l : ℕ
capital_l = 76

-- b'h'
abbrev pub letter_h : ℕ
letter_h = 104

-- b'l'
abbrev pub letter_l : ℕ
letter_l = 108

-- b'n'
abbrev pub letter_n : ℕ
letter_n = 110

-- ---- what many of them have in common

-- no plus is read: it is an operator of the language, and no part of the literal
abbrev pub without_plus : Format
without_plus = record standard { no_positive_mantissa_sign = true }

-- the text chooses its radix by `0x`, `0o` or `0b`
abbrev pub with_prefixes : Format
with_prefixes = record without_plus { literal_prefixes = true }

-- with prefixes, and with a separator between digits, one at a time
abbrev pub by_separator : ℕ → Format
by_separator separator =
    record with_prefixes {
      digit_separator = Some separator;
      integer_internal_digit_separator = true;
    }

-- with prefixes, and with `_` among and after the digits, as many as one likes
abbrev pub any_groups : Format
any_groups =
    record (by_separator underscore) {
      integer_trailing_digit_separator = true;
      integer_consecutive_digit_separator = true;
    }

-- a sign is a part of the text, which chooses its radix by `0x`, `0o` or `0b`
abbrev pub own_sign : Format
own_sign = record standard { literal_prefixes = true }

-- digits, with `_` between them, one at a time
abbrev pub underscored_digits : Format
underscored_digits =
    record without_plus {
      digit_separator = Some underscore;
      integer_internal_digit_separator = true;
    }

-- ---- C, and languages that write as C does

-- C up to C17: `511`, `0777`, `0x1FF`
abbrev pub c : Format
c = record with_prefixes { literal_octal_zero = true }

-- the decimal constants of C: `511`
abbrev pub c_decimal : Format
c_decimal = record without_plus { no_integer_leading_zeros = true }

-- the octal constants of C: `0777`
abbrev pub c_octal : Format
c_octal = record without_plus { mantissa_radix = 8 }

-- the hexadecimal constants of C: `0x1FF`
abbrev pub c_hexadecimal : Format
c_hexadecimal = record without_plus { mantissa_radix = 16; base_prefix = Some letter_x }

-- C23: `1'000`, `0'777`, `0x1'FF`, `0b1'01`
abbrev pub c23 : Format
c23 = record (by_separator apostrophe) { literal_octal_zero = true }

-- C++14 and later: the same texts as C23
abbrev pub cpp14 : Format
cpp14 = c23

-- C#: `1__000`, `0x_1FF`, `0b1_01`, and a leading zero means nothing
abbrev pub csharp : Format
csharp =
    record (by_separator underscore) {
      integer_consecutive_digit_separator = true;
      integer_prefix_digit_separator = true;
    }

-- Java: `1__000L`, `0_777`, `0x1_FF`, `0b1_01`
abbrev pub java : Format
java =
    record (by_separator underscore) {
      base_suffix = Some letter_l;
      integer_consecutive_digit_separator = true;
      literal_octal_zero = true;
    }

-- Kotlin: `1__000L`, `0x1_FF`, `0b1_01`, and no zero before another digit
abbrev pub kotlin : Format
kotlin =
    record (by_separator underscore) {
      base_suffix = Some capital_l;
      case_sensitive_base_suffix = true;
      integer_consecutive_digit_separator = true;
      no_integer_leading_zeros = true;
    }

-- ---- compiled languages

-- Rust: `1__000_`, `0x_1FF_`, `0o777`, `0b1_01`
abbrev pub rust : Format
rust =
    record any_groups {
      case_sensitive_base_prefix = true;
      integer_prefix_digit_separator = true;
    }

-- Go: `1_000`, `0_777`, `0x_1FF`, `0o_777`, `0b_1_01`
abbrev pub go : Format
go =
    record (by_separator underscore) {
      integer_prefix_digit_separator = true;
      literal_octal_zero = true;
    }

-- Swift: `1__000_`, `0x1FF_`, `0o777`, `0b1_01`
abbrev pub swift : Format
swift = record any_groups { case_sensitive_base_prefix = true }

-- the decimal literals of Ada, without exponent: `1_000`
abbrev pub ada : Format
ada = underscored_digits

-- the decimal literals of VHDL, without exponent: `1_000`
abbrev pub vhdl : Format
vhdl = ada

-- the hexadecimal numbers of assemblers: `0FFh`
abbrev pub assembler_hexadecimal : Format
assembler_hexadecimal = record without_plus { mantissa_radix = 16; base_suffix = Some letter_h }

-- ---- scripting languages

-- Python 3: `1_000`, `0x_1FF`, `0o777`, `0b_1_01`, and no zero before another digit
abbrev pub python : Format
python =
    record (by_separator underscore) {
      integer_prefix_digit_separator = true;
      no_integer_leading_zeros = true;
    }

-- Ruby: `+1_000`, `0_777`, `0x1_FF`, `0o777`, `0b1_01`
abbrev pub ruby : Format
ruby =
    record (by_separator underscore) {
      no_positive_mantissa_sign = false;
      literal_octal_zero = true;
    }

-- JavaScript in strict mode: `1_000`, `1_000n`, `0x1_FF`, and no zero before another digit
abbrev pub javascript : Format
javascript =
    record (by_separator underscore) {
      base_suffix = Some letter_n;
      case_sensitive_base_suffix = true;
      no_integer_leading_zeros = true;
    }

-- Julia: `1_000`, `0x1_FF`, `0o777`, `0b1_01`
abbrev pub julia : Format
julia = record (by_separator underscore) { case_sensitive_base_prefix = true }

-- ---- functional languages

-- Haskell with NumericUnderscores and BinaryLiterals: `1__000`, `0x_1FF`, `0o777`, `0b_1_01`
abbrev pub haskell : Format
haskell =
    record (by_separator underscore) {
      integer_consecutive_digit_separator = true;
      integer_prefix_digit_separator = true;
    }

-- OCaml: `1__000_`, `0x1FF_`, `0o777`, `0b1_01`
abbrev pub ocaml : Format
ocaml = any_groups

-- ---- data

-- JSON5: `+511`, `0x1FF`, and no zero before another digit
abbrev pub json5 : Format
json5 = record own_sign { no_integer_leading_zeros = true }

-- TOML: `+1_000`, `0x1_FF`, `0o777`, `0b1_01`, and no zero before another digit
abbrev pub toml : Format
toml =
    record (by_separator underscore) {
      no_positive_mantissa_sign = false;
      case_sensitive_base_prefix = true;
      no_integer_leading_zeros = true;
    }

-- the core schema of YAML 1.2: `+0511`, `0x1FF`, `0o777`
abbrev pub yaml : Format
yaml = record own_sign { case_sensitive_base_prefix = true }

-- SQL up to SQL:2016: `+0511`
abbrev pub sql : Format
sql = standard

-- SQL:2023: `+1_000`, `0x_1FF`, `0o777`, `0b_1_01`
abbrev pub sql_2023 : Format
sql_2023 =
    record (by_separator underscore) {
      no_positive_mantissa_sign = false;
      integer_prefix_digit_separator = true;
    }
