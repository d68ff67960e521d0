-- Worked literals: the value, where the number ends, and where the suffix does.
use Rattle.std.proofs.Common.{◌≡◌, ℕ, List, Some, Ok, Err, Result, codes, refl}
use Rattle.lexical_util.specs.declared.error.Error.{Error}
use Rattle.lexical_util.specs.declared.error.Error.TheVariants.{Empty, InvalidMantissaRadix}
use Rattle.lexical_util.specs.Format.{Format, standard}
use Rattle.lexical_parse_integer.specs.Answer.{view_of}
use Rattle.lexical_parse_integer.specs.Computed.{grammar}
use Rattle.lexical_literals.specs.Literals.{literal_in_front_if_valid}
use Rattle.lexical_literals.specs.Tokens.{literals}

-- the parts of the literal that a text begins with
abbrev parts : Format → List ℕ → Result (ℕ × ℕ × ℕ) Error
parts format text =
    view_of (λ found. (found.value, found.number_stop, found.stop)) (literal_in_front_if_valid format text)

suffix_of_letters_and_digits : parts literals (codes "1u32+2") ≡ Ok (1, 1, 4)
unfolding grammar
suffix_of_letters_and_digits = refl

suffix_behind_groups : parts literals (codes "1_000i64;") ≡ Ok (1000, 5, 8)
unfolding grammar
suffix_behind_groups = refl

-- letters that are digits of the number belong to it
suffix_behind_hexadecimal : parts literals (codes "0xFFull") ≡ Ok (255, 4, 7)
unfolding grammar
suffix_behind_hexadecimal = refl

no_suffix : parts literals (codes "0xFFf") ≡ Ok (4095, 5, 5)
unfolding grammar
no_suffix = refl

-- what no language has as an integer is a number and a suffix that it doesn't have, or more bytes behind
exponent : parts literals (codes "1e5") ≡ Ok (1, 1, 3)
unfolding grammar
exponent = refl

wrong_digit : parts literals (codes "0b102") ≡ Ok (2, 4, 5)
unfolding grammar
wrong_digit = refl

fraction : parts literals (codes "1.5") ≡ Ok (1, 1, 1)
unfolding grammar
fraction = refl

sign_behind : parts literals (codes "0x1e+1") ≡ Ok (30, 4, 4)
unfolding grammar
sign_behind = refl

-- a suffix of the format's own is a part of the number
own_suffix : parts (record standard { base_suffix = Some 108 }) (codes "1Lu") ≡ Ok (1, 2, 3)
unfolding grammar
own_suffix = refl

-- ---- no literal

letters_alone : parts literals (codes "u32") ≡ Err (Empty 0)
unfolding grammar
letters_alone = refl

no_digit_behind_the_prefix : parts literals (codes "0xu") ≡ Err (Empty 2)
unfolding grammar
no_digit_behind_the_prefix = refl

invalid_format : parts (record standard { mantissa_radix = 37 }) (codes "1u") ≡ Err InvalidMantissaRadix
unfolding grammar
invalid_format = refl
