-- Sources and their tokens, under the format of literals and under others.
use Rattle.std.specs.Prelude.{◌≡◌, ℕ, List, [], ◌∷◌, map, codes, true, Some, Ok, Err}
use Rattle.std.proofs.Common.{refl}
use Rattle.lexical_util.specs.declared.error.Error.TheVariants.{Empty, InvalidMantissaRadix}
use Rattle.lexical_util.specs.Format.{Format, standard}
use Rattle.lexical_parse_integer.specs.Computed.{grammar}
use Rattle.lexical_literals.specs.Literals.{literal_in_front_if_valid}
use Rattle.lexical_literals.specs.Tokens.{literals, number_of, tokens_if_valid, tokens_under}
use Rattle.lexical_literals.specs.declared.Kind.{Kind}
use Rattle.lexical_literals.specs.declared.Kind.TheVariants.{Number, Word, Byte, Fault}
use Rattle.library_tests.proofs.Tables.{Reads}

-- what each token is, where it starts and stops, and its bytes
abbrev spans : Format → List ℕ → List (Kind × ℕ × ℕ × List ℕ)
spans format source =
    map (λ token. (token.kind, token.start, token.stop, token.text)) (tokens_under format source)

blanks_and_line_ends_are_skipped : Reads (spans literals) (
    (codes "\r\n1\t\r\n 2\n", (Number 1, 2, 3, codes "1") ∷ (Number 2, 7, 8, codes "2") ∷ []) ∷
    [])
unfolding grammar number_of
blanks_and_line_ends_are_skipped = refl

zeros_are_decimal_and_prefixes_of_either_case : Reads (spans literals) ((
  codes "0078 0B102 0X1f",
  (Number 78, 0, 4, codes "0078") ∷ (Number 2, 5, 9, codes "0B10") ∷ (Number 2, 9, 10, codes "2")
      ∷ (Number 31, 11, 15, codes "0X1f") ∷ [],
) ∷
    [])
unfolding grammar number_of
zeros_are_decimal_and_prefixes_of_either_case = refl

-- as in C++14: octal behind a zero, hexadecimal behind `0x`, and `'` between digits
abbrev like_c : Format
like_c = record standard {
  digit_separator = Some 39;
  integer_internal_digit_separator = true;
  literal_prefixes = true;
  literal_octal_zero = true;
}

numbers_of_c : Reads (spans like_c) ((
  codes "1'000 0777 0x1'F",
  (Number 1000, 0, 5, codes "1'000") ∷ (Number 511, 6, 10, codes "0777")
      ∷ (Number 31, 11, 16, codes "0x1'F") ∷ [],
) ∷ (
  codes "1''2 'a' 089u",
  (Number 1, 0, 1, codes "1") ∷ (Byte, 1, 2, codes "'") ∷ (Byte, 2, 3, codes "'") ∷ (Number 2, 3, 4, codes "2")
      ∷ (Byte, 5, 6, codes "'") ∷ (Word, 6, 7, codes "a") ∷ (Byte, 7, 8, codes "'") ∷ (Number 0, 9, 10, codes "0")
      ∷ (Number 89, 10, 12, codes "89") ∷ (Word, 12, 13, codes "u") ∷ [],
) ∷ (
  codes "0x'1",
  (Fault (Empty 2), 0, 2, codes "0x") ∷ (Byte, 2, 3, codes "'") ∷ (Number 1, 3, 4, codes "1") ∷ [],
) ∷
    [])
unfolding grammar number_of
numbers_of_c = refl

-- as an assembler has them: a hexadecimal number begins with a digit and ends with `h`
numbers_with_a_suffix : Reads (spans (record standard { mantissa_radix = 16; base_suffix = Some 104 })) ((
  codes "0FFh,1H h",
  (Number 255, 0, 4, codes "0FFh") ∷ (Byte, 4, 5, codes ",") ∷ (Number 1, 5, 7, codes "1H")
      ∷ (Word, 8, 9, codes "h") ∷ [],
) ∷
    [])
unfolding grammar number_of
numbers_with_a_suffix = refl

a_wrong_format_is_told_first : tokens_if_valid (record standard { mantissa_radix = 1 }) (codes "0") ≡ Err InvalidMantissaRadix
a_wrong_format_is_told_first = refl

-- ---- literals

-- a plus is a part of the number, which may have 128 bits
a_plus_and_128_bits_are_read : literal_in_front_if_valid literals (codes "+340282366920938463463374607431768211455u")
    ≡ Ok (record { value = 340282366920938463463374607431768211455; number_stop = 40; stop = 41 })
unfolding grammar
a_plus_and_128_bits_are_read = refl
