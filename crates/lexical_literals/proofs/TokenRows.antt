-- Worked sources and their tokens.
use Rattle.std.proofs.Common.{◌≡◌, ℕ, true, List, [], ◌∷◌, Some, codes, map, refl}
use Rattle.lexical_util.specs.Ascii.{underscore}
use Rattle.lexical_util.specs.declared.error.Error.TheVariants.{Overflow, Empty, InvalidLeadingZeros, MissingSign}
use Rattle.lexical_util.specs.Format.{Format, json, standard}
use Rattle.lexical_parse_integer.specs.Computed.{grammar}
use Rattle.lexical_literals.specs.Tokens.{number_of, tokens, tokens_under}
use Rattle.lexical_literals.specs.declared.Kind.{Kind}
use Rattle.lexical_literals.specs.declared.Kind.TheVariants.{Number, Word, Byte, Fault}

-- what each token is, and where it starts and stops
abbrev spans : List ℕ → List (Kind × ℕ × ℕ)
spans source = map (λ token. (token.kind, token.start, token.stop)) (tokens source)

nothing : spans [] ≡ []
nothing = refl

blanks : spans (codes "  ") ≡ []
blanks = refl

zeros_in_front : spans (codes "007") ≡ (Number 7, 0, 3) ∷ []
unfolding grammar number_of
zeros_in_front = refl

separator : spans (codes "1_000") ≡ (Number 1000, 0, 5) ∷ []
unfolding grammar number_of
separator = refl

separators : spans (codes "1__2") ≡ (Number 12, 0, 4) ∷ []
unfolding grammar number_of
separators = refl

underscore_first : spans (codes "_1") ≡ (Word, 0, 2) ∷ []
unfolding grammar number_of
underscore_first = refl

word_and_number : spans (codes "a_1 9") ≡ (Word, 0, 3) ∷ (Number 9, 4, 5) ∷ []
unfolding grammar number_of
word_and_number = refl

underscore_behind : spans (codes "1_") ≡ (Number 1, 0, 1) ∷ (Word, 1, 2) ∷ []
unfolding grammar number_of
underscore_behind = refl

word_behind : spans (codes "12abc") ≡ (Number 12, 0, 2) ∷ (Word, 2, 5) ∷ []
unfolding grammar number_of
word_behind = refl

no_digit : spans (codes "0x") ≡ (Fault (Empty 2), 0, 2) ∷ []
unfolding grammar number_of
no_digit = refl

no_hexadecimal_digit : spans (codes "0xg") ≡ (Fault (Empty 2), 0, 3) ∷ []
unfolding grammar number_of
no_hexadecimal_digit = refl

separator_before_the_digits : spans (codes "0x_1") ≡ (Fault (Empty 2), 0, 4) ∷ []
unfolding grammar number_of
separator_before_the_digits = refl

plus : spans (codes "+1") ≡ (Byte, 0, 1) ∷ (Number 1, 1, 2) ∷ []
unfolding grammar number_of
plus = refl

minus : spans (codes "-5") ≡ (Byte, 0, 1) ∷ (Number 5, 1, 2) ∷ []
unfolding grammar number_of
minus = refl

binary_and_octal : spans (codes "0b102 0o8") ≡ (Number 2, 0, 4) ∷ (Number 2, 4, 5) ∷ (Fault (Empty 2), 6, 9) ∷ []
unfolding grammar number_of
binary_and_octal = refl

statement : spans (codes "x1 = 0x1F + 12_3;")
    ≡ (Word, 0, 2) ∷ (Byte, 3, 4) ∷ (Number 31, 5, 9) ∷ (Byte, 10, 11) ∷ (Number 123, 12, 16)
    ∷ (Byte, 16, 17) ∷ []
unfolding grammar number_of
statement = refl

too_great : spans (codes "340282366920938463463374607431768211456") ≡ (Fault (Overflow 38), 0, 39) ∷ []
unfolding grammar number_of
too_great = refl

other_bytes : spans (195 ∷ 169 ∷ []) ≡ (Byte, 0, 1) ∷ (Byte, 1, 2) ∷ []
other_bytes = refl

-- ---- under other formats

-- kinds and places of a source's tokens under a format
abbrev spans_under : Format → List ℕ → List (Kind × ℕ × ℕ)
spans_under format source =
    map (λ token. (token.kind, token.start, token.stop)) (tokens_under format source)

letters_are_digits : spans_under (record standard { mantissa_radix = 16 }) (codes "fox 1G")
    ≡ (Number 15, 0, 1) ∷ (Word, 1, 3) ∷ (Number 1, 4, 5) ∷ (Word, 5, 6) ∷ []
unfolding grammar number_of
letters_are_digits = refl

digits_begin_words : spans_under (record standard { mantissa_radix = 2 }) (codes "102 9")
    ≡ (Number 2, 0, 2) ∷ (Word, 2, 3) ∷ (Word, 4, 5) ∷ []
unfolding grammar number_of
digits_begin_words = refl

json_zeros : spans_under json (codes "-12,007")
    ≡ (Byte, 0, 1) ∷ (Number 12, 1, 3) ∷ (Byte, 3, 4) ∷ (Fault (InvalidLeadingZeros 0), 4, 7) ∷ []
unfolding grammar number_of
json_zeros = refl

octal_zeros : spans_under (record standard { literal_octal_zero = true }) (codes "0777 089")
    ≡ (Number 511, 0, 4) ∷ (Number 0, 5, 6) ∷ (Number 89, 6, 8) ∷ []
unfolding grammar number_of
octal_zeros = refl

separator_in_front : spans_under (record standard
    { digit_separator = Some underscore; integer_leading_digit_separator = true }) (codes "_1 2")
    ≡ (Word, 0, 2) ∷ (Number 2, 3, 4) ∷ []
unfolding grammar number_of
separator_in_front = refl

sign_required : spans_under (record standard { required_mantissa_sign = true }) (codes "+12")
    ≡ (Byte, 0, 1) ∷ (Fault (MissingSign 0), 1, 3) ∷ []
unfolding grammar number_of
sign_required = refl
