-- Worked literals with types: the value, the entry, where the number ends and where the suffix does; and the faults.
use Rattle.std.proofs.Common.{◌≡◌, ℕ, true, List, [], ◌∷◌, Some, Ok, Err, Result, codes, refl}
use Rattle.lexical_util.specs.declared.error.Error.TheVariants.{Empty, InvalidDigit, InvalidMantissaRadix, InvalidPositiveSign, Overflow}
use Rattle.lexical_util.specs.Format.{Format, standard}
use Rattle.lexical_parse_integer.specs.Answer.{view_of}
use Rattle.lexical_parse_integer.specs.Computed.{grammar}
use Rattle.lexical_literals.specs.Tokens.{literals}
use Rattle.lexical_literals.specs.TypedLiterals.{SuffixView, entry_of, number_stop, typed_literal_if_valid}
use Rattle.lexical_literals.specs.declared.suffixes.IntegerKind.{IntegerKind}
use Rattle.lexical_literals.specs.declared.suffixes.IntegerKind.TheVariants.{U8, U64, I8, I32, I64}
use Rattle.lexical_literals.specs.declared.typed.LiteralError.{LiteralError}
use Rattle.lexical_literals.specs.declared.typed.LiteralError.TheVariants.{Number, UnknownSuffix}

-- an entry, by its parts
abbrev names : List ℕ → IntegerKind → SuffixView
names text kind = record { text = text; kind = kind }

-- a table with a type for literals without a suffix, and one without
abbrev table : List SuffixView
table = names (codes "u8") U8 ∷ names (codes "i8") I8 ∷ names (codes "i64") I64
    ∷ names [] I32 ∷ names (codes "ull") U64 ∷ names (codes "u8") U64 ∷ []

abbrev strict : List SuffixView
strict = names (codes "u8") U8 ∷ []

-- the parts of the literal that a text begins with
abbrev parts : Format → List SuffixView → List ℕ → Result (ℕ × IntegerKind × ℕ × ℕ × ℕ) LiteralError
parts format entries text = view_of
    (λ found. (found.value, found.kind, found.entry, found.number_stop, found.stop))
    (typed_literal_if_valid format entries text)

-- ---- literals

greatest : parts literals table (codes "255u8;") ≡ Ok (255, U8, 0, 3, 5)
unfolding grammar number_stop
greatest = refl

behind_groups : parts literals table (codes "1_000i64;") ≡ Ok (1000, I64, 2, 5, 8)
unfolding grammar number_stop
behind_groups = refl

hexadecimal : parts literals table (codes "0xFFull") ≡ Ok (255, U64, 4, 4, 7)
unfolding grammar number_stop
hexadecimal = refl

-- the entry of the empty suffix has the type of a literal without one, also before other bytes
no_suffix : parts literals table (codes "7") ≡ Ok (7, I32, 3, 1, 1)
unfolding grammar number_stop
no_suffix = refl

point_behind : parts literals table (codes "1.5") ≡ Ok (1, I32, 3, 1, 1)
unfolding grammar number_stop
point_behind = refl

-- of two entries with one suffix the first is taken, here `u8` as 8 bits
first_of_two : entry_of (codes "u8") table ≡ Some (0, U8)
first_of_two = refl

plus_in_front : parts standard table (codes "+5u8") ≡ Ok (5, U8, 0, 2, 4)
unfolding grammar number_stop
plus_in_front = refl

-- the format's own suffix is a part of the number
own_suffix : parts (record standard { base_suffix = Some 108 }) table (codes "1Lu8") ≡ Ok (1, U8, 0, 2, 4)
unfolding grammar number_stop
own_suffix = refl

-- ---- the range is that of the suffix's type

too_great_for_u8 : parts literals table (codes "300u8") ≡ Err (Number (Overflow 2))
unfolding grammar number_stop
too_great_for_u8 = refl

too_great_behind_a_prefix : parts literals table (codes "0x1_00u8") ≡ Err (Number (Overflow 5))
unfolding grammar number_stop
too_great_behind_a_prefix = refl

too_great_for_i8 : parts literals table (codes "128i8") ≡ Err (Number (Overflow 2))
unfolding grammar number_stop
too_great_for_i8 = refl

too_great_for_the_default : parts literals table (codes "2147483648") ≡ Err (Number (Overflow 9))
unfolding grammar number_stop
too_great_for_the_default = refl

-- also where 128 bits have no room for the number
too_great_for_all : parts literals table (codes "340282366920938463463374607431768211456u8")
    ≡ Err (Number (Overflow 2))
unfolding grammar number_stop
too_great_for_all = refl

-- ---- wrong digits and suffixes

unknown_behind_a_great_number : parts literals table (codes "340282366920938463463374607431768211456x;")
    ≡ Err (UnknownSuffix 39)
unfolding grammar number_stop
unknown_behind_a_great_number = refl

digit_beyond_the_radix : parts literals table (codes "0b102") ≡ Err (Number (InvalidDigit 4))
unfolding grammar number_stop
digit_beyond_the_radix = refl

digit_before_a_suffix : parts literals table (codes "0o78u8") ≡ Err (Number (InvalidDigit 3))
unfolding grammar number_stop
digit_before_a_suffix = refl

letters : parts literals table (codes "12abc") ≡ Err (UnknownSuffix 2)
unfolding grammar number_stop
letters = refl

exponent : parts literals table (codes "1e5") ≡ Err (UnknownSuffix 1)
unfolding grammar number_stop
exponent = refl

-- a part of a suffix is none, nor is one in another case
longer : parts literals table (codes "1u80") ≡ Err (UnknownSuffix 1)
unfolding grammar number_stop
longer = refl

shorter : parts literals table (codes "1ul") ≡ Err (UnknownSuffix 1)
unfolding grammar number_stop
shorter = refl

other_case : parts literals table (codes "1U8") ≡ Err (UnknownSuffix 1)
unfolding grammar number_stop
other_case = refl

underscore_alone : parts literals table (codes "1_") ≡ Err (UnknownSuffix 1)
unfolding grammar number_stop
underscore_alone = refl

-- without an entry for it the empty suffix is unknown where it would begin
suffix_is_asked_for : parts literals strict (codes "12 ") ≡ Err (UnknownSuffix 2)
unfolding grammar number_stop
suffix_is_asked_for = refl

no_table : parts literals [] (codes "12u8") ≡ Err (UnknownSuffix 2)
unfolding grammar number_stop
no_table = refl

-- an unknown suffix comes before the range
unknown_before_range : parts literals strict (codes "300x") ≡ Err (UnknownSuffix 3)
unfolding grammar number_stop
unknown_before_range = refl

-- ---- no number

letters_alone : parts literals table (codes "u8") ≡ Err (Number (Empty 0))
unfolding grammar number_stop
letters_alone = refl

minus_in_front : parts literals table (codes "-5i8") ≡ Err (Number (Empty 0))
unfolding grammar number_stop
minus_in_front = refl

plus_refused : parts (record standard { no_positive_mantissa_sign = true }) table (codes "+5u8")
    ≡ Err (Number (InvalidPositiveSign 0))
unfolding grammar number_stop
plus_refused = refl

no_digit_behind_the_prefix : parts literals table (codes "0xu8") ≡ Err (Number (Empty 2))
unfolding grammar number_stop
no_digit_behind_the_prefix = refl

invalid_format : parts (record standard { mantissa_radix = 37 }) table (codes "1u8")
    ≡ Err (Number InvalidMantissaRadix)
unfolding grammar number_stop
invalid_format = refl
