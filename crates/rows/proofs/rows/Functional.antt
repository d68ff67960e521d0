-- Test vectors: the integers of Haskell and OCaml.
-- Written by tools/rows.py from tools/languages.txt: make rows writes it anew.
use Rattle.std.specs.Prelude.{◌≡◌, [], ◌∷◌, codes, pos, Some, true, Ok, Err}
use Rattle.std.proofs.Common.{refl}
use Rattle.lexical_util.specs.declared.error.Error.TheVariants.{InvalidDigit, Empty, InvalidPositiveSign}
use Rattle.lexical_util.specs.Format.{standard}
use Rattle.lexical_parse_integer.specs.Computed.{grammar}
use Rattle.lexical_parse_integer.specs.Grammar.{complete}
use Rattle.lexical_formats.specs.Names.{format_named}
use Rattle.rows.proofs.Tables.{Answers, minus, u32, i32, i64}
use Rattle.lexical_formats.specs.Languages.{haskell, ocaml}

-- ---- Haskell, with NumericUnderscores and BinaryLiterals

haskell_fields : (haskell ≡ record standard { no_positive_mantissa_sign = true; literal_prefixes = true; digit_separator = Some 95; integer_internal_digit_separator = true; integer_consecutive_digit_separator = true; integer_prefix_digit_separator = true })
    × (format_named (codes "haskell") ≡ Some haskell)
haskell_fields = (refl, refl)

haskell_complete : Answers complete (
    (haskell, u32, codes "1__000", Ok (pos 1000)) ∷
    (haskell, u32, codes "0777", Ok (pos 777)) ∷
    (haskell, u32, codes "00", Ok (pos 0)) ∷
    (haskell, u32, codes "0_1", Ok (pos 1)) ∷
    (haskell, u32, codes "0x_1F", Ok (pos 31)) ∷
    (haskell, u32, codes "0O17", Ok (pos 15)) ∷
    (haskell, u32, codes "0b__1_0", Ok (pos 2)) ∷
    (haskell, u32, codes "1_", Err (InvalidDigit 1)) ∷
    (haskell, u32, codes "_1", Err (InvalidDigit 0)) ∷
    (haskell, u32, codes "0_x1", Err (InvalidDigit 1)) ∷
    (haskell, u32, codes "0xff_", Err (InvalidDigit 4)) ∷
    (haskell, u32, codes "0x", Err (Empty 2)) ∷
    (haskell, u32, codes "0x_", Err (Empty 3)) ∷
    (haskell, u32, codes "+1", Err (InvalidPositiveSign 0)) ∷
    (haskell, u32, codes "-1", Err (InvalidDigit 0)) ∷
    [])
unfolding grammar
haskell_complete = refl

-- ---- OCaml

ocaml_fields : (ocaml ≡ record standard { no_positive_mantissa_sign = true; literal_prefixes = true; digit_separator = Some 95; integer_internal_digit_separator = true; integer_trailing_digit_separator = true; integer_consecutive_digit_separator = true })
    × (format_named (codes "ocaml") ≡ Some ocaml)
ocaml_fields = (refl, refl)

ocaml_complete : Answers complete (
    (ocaml, i32, codes "1__0", Ok (pos 10)) ∷
    (ocaml, i32, codes "1_", Ok (pos 1)) ∷
    (ocaml, i32, codes "00", Ok (pos 0)) ∷
    (ocaml, i32, codes "0777", Ok (pos 777)) ∷
    (ocaml, i32, codes "-1", Ok (minus 1)) ∷
    (ocaml, i32, codes "0x1_F_", Ok (pos 31)) ∷
    (ocaml, i32, codes "0O17", Ok (pos 15)) ∷
    (ocaml, i32, codes "0b1__", Ok (pos 1)) ∷
    (ocaml, i32, codes "_1", Err (InvalidDigit 0)) ∷
    (ocaml, i32, codes "0x_1", Err (InvalidDigit 2)) ∷
    (ocaml, i32, codes "0x", Err (Empty 2)) ∷
    (ocaml, i32, codes "0b2", Err (InvalidDigit 2)) ∷
    (ocaml, i32, codes "+1", Err (InvalidPositiveSign 0)) ∷
    -- unlike: 1, of type int64
    (ocaml, i32, codes "1L", Err (InvalidDigit 1)) ∷
    -- unlike: -1
    (ocaml, i64, codes "0x7FFFFFFFFFFFFFFF", Ok (pos 9223372036854775807)) ∷
    -- unlike: no literal
    (ocaml, i64, codes "4611686018427387904", Ok (pos 4611686018427387904)) ∷
    [])
unfolding grammar
ocaml_complete = refl
