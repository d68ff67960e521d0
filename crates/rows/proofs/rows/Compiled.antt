-- Test vectors: the integers of Rust, Go, Swift, Ada and VHDL, and of assemblers.
-- Written by tools/rows.py from tools/languages.txt: make rows writes it anew.
use Rattle.std.specs.Prelude.{◌≡◌, [], ◌∷◌, codes, pos, Some, true, Ok, Err}
use Rattle.std.proofs.Common.{refl}
use Rattle.lexical_util.specs.declared.error.Error.TheVariants.{InvalidDigit, Empty, InvalidPositiveSign}
use Rattle.lexical_util.specs.Format.{standard}
use Rattle.lexical_parse_integer.specs.Computed.{grammar}
use Rattle.lexical_parse_integer.specs.Grammar.{complete}
use Rattle.lexical_formats.specs.Names.{format_named}
use Rattle.rows.proofs.Tables.{Answers, minus, u32, i32}
use Rattle.lexical_formats.specs.Languages.{ada, assembler_hexadecimal, go, rust, swift, vhdl}

-- ---- Rust

rust_fields : (rust ≡ record standard { no_positive_mantissa_sign = true; literal_prefixes = true; digit_separator = Some 95; integer_internal_digit_separator = true; integer_trailing_digit_separator = true; integer_consecutive_digit_separator = true; case_sensitive_base_prefix = true; integer_prefix_digit_separator = true })
    × (format_named (codes "rust") ≡ Some rust)
rust_fields = (refl, refl)

rust_complete : Answers complete (
    (rust, u32, codes "1__0", Ok (pos 10)) ∷
    (rust, u32, codes "1_", Ok (pos 1)) ∷
    (rust, u32, codes "0_1", Ok (pos 1)) ∷
    (rust, u32, codes "00", Ok (pos 0)) ∷
    (rust, u32, codes "0777", Ok (pos 777)) ∷
    (rust, u32, codes "0x_1F", Ok (pos 31)) ∷
    (rust, u32, codes "0o__7", Ok (pos 7)) ∷
    (rust, u32, codes "0b1__", Ok (pos 1)) ∷
    (rust, u32, codes "_1", Err (InvalidDigit 0)) ∷
    (rust, u32, codes "0x", Err (Empty 2)) ∷
    (rust, u32, codes "0x_", Err (Empty 3)) ∷
    (rust, u32, codes "0X1F", Err (InvalidDigit 1)) ∷
    (rust, u32, codes "0b2", Err (InvalidDigit 2)) ∷
    (rust, u32, codes "+1", Err (InvalidPositiveSign 0)) ∷
    (rust, u32, codes "-1", Err (InvalidDigit 0)) ∷
    -- unlike: 1, of type u8
    (rust, u32, codes "1u8", Err (InvalidDigit 1)) ∷
    [])
unfolding grammar
rust_complete = refl

-- ---- Go

go_fields : (go ≡ record standard { no_positive_mantissa_sign = true; literal_prefixes = true; digit_separator = Some 95; integer_internal_digit_separator = true; integer_prefix_digit_separator = true; literal_octal_zero = true })
    × (format_named (codes "go") ≡ Some go)
go_fields = (refl, refl)

go_complete : Answers complete (
    (go, u32, codes "1_000", Ok (pos 1000)) ∷
    (go, u32, codes "0777", Ok (pos 511)) ∷
    (go, u32, codes "0_7", Ok (pos 7)) ∷
    (go, u32, codes "00", Ok (pos 0)) ∷
    (go, u32, codes "0x_1F", Ok (pos 31)) ∷
    (go, u32, codes "0O_17", Ok (pos 15)) ∷
    (go, u32, codes "0B1_1", Ok (pos 3)) ∷
    (go, u32, codes "1__0", Err (InvalidDigit 1)) ∷
    (go, u32, codes "1_", Err (InvalidDigit 1)) ∷
    (go, u32, codes "_1", Err (InvalidDigit 0)) ∷
    (go, u32, codes "08", Err (InvalidDigit 1)) ∷
    (go, u32, codes "0_8", Err (InvalidDigit 1)) ∷
    (go, u32, codes "0x_", Err (Empty 3)) ∷
    (go, u32, codes "0x__1", Err (InvalidDigit 2)) ∷
    (go, u32, codes "+1", Err (InvalidPositiveSign 0)) ∷
    (go, u32, codes "1i", Err (InvalidDigit 1)) ∷
    [])
unfolding grammar
go_complete = refl

-- ---- Swift

swift_fields : (swift ≡ record standard { no_positive_mantissa_sign = true; literal_prefixes = true; digit_separator = Some 95; integer_internal_digit_separator = true; integer_trailing_digit_separator = true; integer_consecutive_digit_separator = true; case_sensitive_base_prefix = true })
    × (format_named (codes "swift") ≡ Some swift)
swift_fields = (refl, refl)

swift_complete : Answers complete (
    (swift, u32, codes "1__0", Ok (pos 10)) ∷
    (swift, u32, codes "1_", Ok (pos 1)) ∷
    (swift, u32, codes "00", Ok (pos 0)) ∷
    (swift, u32, codes "0777", Ok (pos 777)) ∷
    (swift, u32, codes "0x1_F", Ok (pos 31)) ∷
    (swift, u32, codes "0o17_", Ok (pos 15)) ∷
    (swift, i32, codes "-0b11", Ok (minus 3)) ∷
    (swift, u32, codes "_1", Err (InvalidDigit 0)) ∷
    (swift, u32, codes "0x_1F", Err (InvalidDigit 2)) ∷
    (swift, u32, codes "0X1F", Err (InvalidDigit 1)) ∷
    (swift, u32, codes "0x", Err (Empty 2)) ∷
    (swift, u32, codes "0b2", Err (InvalidDigit 2)) ∷
    (swift, u32, codes "1u", Err (InvalidDigit 1)) ∷
    (swift, i32, codes "+1", Err (InvalidPositiveSign 0)) ∷
    [])
unfolding grammar
swift_complete = refl

-- ---- Ada, decimal literals

ada_fields : (ada ≡ record standard { no_positive_mantissa_sign = true; digit_separator = Some 95; integer_internal_digit_separator = true })
    × (format_named (codes "ada") ≡ Some ada)
ada_fields = (refl, refl)

ada_complete : Answers complete (
    (ada, u32, codes "1_000", Ok (pos 1000)) ∷
    (ada, u32, codes "0", Ok (pos 0)) ∷
    (ada, u32, codes "007", Ok (pos 7)) ∷
    (ada, u32, codes "0_1", Ok (pos 1)) ∷
    (ada, u32, codes "1__0", Err (InvalidDigit 1)) ∷
    (ada, u32, codes "1_", Err (InvalidDigit 1)) ∷
    (ada, u32, codes "_1", Err (InvalidDigit 0)) ∷
    (ada, u32, codes "0x1", Err (InvalidDigit 1)) ∷
    (ada, u32, codes "+1", Err (InvalidPositiveSign 0)) ∷
    (ada, u32, codes "-1", Err (InvalidDigit 0)) ∷
    -- unlike: 1000
    (ada, u32, codes "1E3", Err (InvalidDigit 1)) ∷
    -- unlike: 255
    (ada, u32, codes "16#FF#", Err (InvalidDigit 2)) ∷
    [])
unfolding grammar
ada_complete = refl

-- ---- VHDL, decimal literals

vhdl_fields : (vhdl ≡ record standard { no_positive_mantissa_sign = true; digit_separator = Some 95; integer_internal_digit_separator = true })
    × (format_named (codes "vhdl") ≡ Some vhdl)
vhdl_fields = (refl, refl)

vhdl_complete : Answers complete (
    (vhdl, u32, codes "1_0_0", Ok (pos 100)) ∷
    (vhdl, u32, codes "00", Ok (pos 0)) ∷
    (vhdl, u32, codes "42", Ok (pos 42)) ∷
    (vhdl, u32, codes "0_42", Ok (pos 42)) ∷
    (vhdl, u32, codes "4__2", Err (InvalidDigit 1)) ∷
    (vhdl, u32, codes "42_", Err (InvalidDigit 2)) ∷
    (vhdl, u32, codes "_42", Err (InvalidDigit 0)) ∷
    (vhdl, u32, codes "0x2A", Err (InvalidDigit 1)) ∷
    (vhdl, u32, codes "+42", Err (InvalidPositiveSign 0)) ∷
    -- unlike: 40
    (vhdl, u32, codes "4E1", Err (InvalidDigit 1)) ∷
    [])
unfolding grammar
vhdl_complete = refl

-- ---- assemblers, hexadecimal numbers with an `h`

assembler_hexadecimal_fields : (assembler_hexadecimal ≡ record standard { no_positive_mantissa_sign = true; mantissa_radix = 16; base_suffix = Some 104 })
    × (format_named (codes "assembler_hexadecimal") ≡ Some assembler_hexadecimal)
assembler_hexadecimal_fields = (refl, refl)

assembler_hexadecimal_complete : Answers complete (
    (assembler_hexadecimal, u32, codes "0FFh", Ok (pos 255)) ∷
    (assembler_hexadecimal, u32, codes "0ffH", Ok (pos 255)) ∷
    (assembler_hexadecimal, u32, codes "10h", Ok (pos 16)) ∷
    (assembler_hexadecimal, u32, codes "0h", Ok (pos 0)) ∷
    (assembler_hexadecimal, u32, codes "h", Err (InvalidDigit 0)) ∷
    (assembler_hexadecimal, u32, codes "0xFFh", Err (InvalidDigit 1)) ∷
    (assembler_hexadecimal, u32, codes "0FFhh", Err (InvalidDigit 4)) ∷
    (assembler_hexadecimal, u32, codes "0FF_FFh", Err (InvalidDigit 3)) ∷
    (assembler_hexadecimal, u32, codes "0Gh", Err (InvalidDigit 1)) ∷
    (assembler_hexadecimal, u32, codes "+1h", Err (InvalidPositiveSign 0)) ∷
    -- unlike: a name
    (assembler_hexadecimal, u32, codes "FFh", Ok (pos 255)) ∷
    -- unlike: 10
    (assembler_hexadecimal, u32, codes "10", Ok (pos 16)) ∷
    -- unlike: 3
    (assembler_hexadecimal, u32, codes "11b", Ok (pos 283)) ∷
    [])
unfolding grammar
assembler_hexadecimal_complete = refl
