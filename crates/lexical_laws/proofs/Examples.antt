-- The laws at examples: their premises can be met, and without them they fail.
use Rattle.std.proofs.Common.{◌≡◌, ℕ, true, false, List, [], ◌∷◌, codes, map, refl, Some, Ok, Err, inl}
use Rattle.std.proofs.Math.IntN.{pos, negsuc}
use Rattle.lexical_util.specs.declared.error.Error.TheVariants.{Empty, InvalidDigit, InvalidLeadingZeros, Overflow}
use Rattle.lexical_util.specs.Format.{Format, json, standard}
use Rattle.lexical_util.specs.Number.{IntegerType, integer_type}
use Rattle.lexical_parse_integer.specs.Computed.{grammar}
use Rattle.lexical_parse_integer.specs.Grammar.{complete, partial}
use Rattle.lexical_parse_integer.specs.Fronts.{number_in_front}
use Rattle.lexical_literals.specs.Tokens.{literals, number_of, tokens_under}
use Rattle.lexical_literals.specs.declared.Kind.{Kind}
use Rattle.lexical_literals.specs.declared.Kind.TheVariants.{Fault, Number}
use Rattle.lexical_laws.specs.Integer.{IsInteger}
use Rattle.lexical_laws.specs.Integer.IsPrefix.{no_prefix}
use Rattle.lexical_laws.specs.Integer.IsSign.{no_sign as none}
use Rattle.lexical_laws.specs.Integer.IsSuffix.{a_suffix}
use Rattle.lexical_laws.specs.Keeping.{AdmitsMore, without_separators}
use Rattle.lexical_laws.proofs.ReadIsMade.{read_is_integer}

abbrev u8 : IntegerType
u8 = integer_type 8 false

abbrev u16 : IntegerType
u16 = integer_type 16 false

abbrev i16 : IntegerType
i16 = integer_type 16 true

-- radix 16, the prefix `x`, and `_` between digits
abbrev hexadecimal : Format
hexadecimal = record standard { mantissa_radix = 16; base_prefix = Some 120; digit_separator = Some 95; integer_internal_digit_separator = true }

-- ---- integers: `-0x1_F` is a minus, `0x` and the body `1_F`
minus_31 : IsInteger hexadecimal i16 (45 ∷ 48 ∷ 120 ∷ 49 ∷ 95 ∷ 70 ∷ []) (negsuc 30)
unfolding grammar
minus_31 = read_is_integer hexadecimal i16 _ (negsuc 30) refl refl

-- a format whose suffix is a digit is invalid: `11` is the digit 1 with a suffix, and is read as two digits
abbrev closed_by_one : Format
closed_by_one = record standard { base_suffix = Some 49 }

eleven : IsInteger closed_by_one u8 (49 ∷ 49 ∷ []) (pos 1) × (complete closed_by_one u8 (49 ∷ 49 ∷ []) ≡ Ok (pos 11))
unfolding grammar
eleven = (
  record {
    sign = [];
    prefix = [];
    body = 49 ∷ [];
    suffix = 49 ∷ [];
    is_negative = false;
    radix = 10;
    digits = 1 ∷ [];
    parts = refl;
    sign_may = none refl;
    prefix_may = no_prefix;
    body_may = record {
      bytes = refl;
      runs = λ before behind count run. (let none' = run.is_set in cc);
      single = λ before behind count run. (let none' = run.is_set in cc);
    };
    suffix_may = a_suffix 49 (λ e. (cc)) refl;
    enough = λ on e. (cc);
    zeros = λ on bare octal digit rest e. (cc);
    worth = refl;
    fits = refl;
  },
  refl,
)

-- ---- types: `300` is a value of `u16`, and leaves `u8` with its last digit

three_hundred : (complete standard u16 (51 ∷ 48 ∷ 48 ∷ []) ≡ Ok (pos 300)) × (complete standard u8 (51 ∷ 48 ∷ 48 ∷ []) ≡ Err (Overflow 2))
unfolding grammar
three_hundred = (refl, refl)

-- an unsigned type has 0, and reads no `-0`
minus_zero : (complete standard i16 (45 ∷ 48 ∷ []) ≡ Ok (pos 0)) × (complete standard u8 (45 ∷ 48 ∷ []) ≡ Err (InvalidDigit 0))
unfolding grammar
minus_zero = (refl, refl)

-- ---- relaxing: a separator between digits and a prefix may come in

abbrev grouped : Format
grouped = record standard { digit_separator = Some 95; integer_internal_digit_separator = true; base_prefix = Some 120 }

grouped_admits_more : AdmitsMore standard grouped
grouped_admits_more = record {
  radix = refl;
  literals = refl;
  octal = refl;
  separator = inl refl;
  prefix = inl refl;
  suffix = inl refl;
  leading = λ e. e;
  internal = λ e. refl;
  trailing = λ e. e;
  consecutive = λ e. e;
  behind_prefix = λ e. e;
  prefix_case = λ e. e;
  suffix_case = λ e. e;
  integer_digits = λ e. e;
  mantissa_digits = λ e. e;
  no_plus = λ e. e;
  sign = λ e. e;
  no_zeros = λ e. e;
}

ten_stays : (complete standard u8 (49 ∷ 48 ∷ []) ≡ Ok (pos 10)) × (complete grouped u8 (49 ∷ 48 ∷ []) ≡ Ok (pos 10))
unfolding grammar
ten_stays = (refl, refl)

-- octal zeros give digits another worth
abbrev octal : Format
octal = record standard { literal_octal_zero = true }

ten_changes : (complete standard u8 (48 ∷ 49 ∷ 48 ∷ []) ≡ Ok (pos 10)) × (complete octal u8 (48 ∷ 49 ∷ 48 ∷ []) ≡ Ok (pos 8))
unfolding grammar
ten_changes = (refl, refl)

-- ---- dead places: whatever follows `1x`, it is no integer

one_x : (complete standard u8 (49 ∷ 120 ∷ []) ≡ Err (InvalidDigit 1)) × (complete standard u8 (49 ∷ 120 ∷ 50 ∷ []) ≡ Err (InvalidDigit 1))
unfolding grammar
one_x = (refl, refl)

-- with a separator `0_` can go on as `0_0`, and under the zero rule a lone zero passes
mended : (complete grouped u8 (48 ∷ 95 ∷ []) ≡ Err (InvalidDigit 1)) × (complete grouped u8 (48 ∷ 95 ∷ 48 ∷ []) ≡ Ok (pos 0))
unfolding grammar
mended = (refl, refl)

lone_zero : (complete json u8 (48 ∷ 49 ∷ []) ≡ Err (InvalidLeadingZeros 0)) × (complete json u8 (48 ∷ []) ≡ Ok (pos 0))
unfolding grammar
lone_zero = (refl, refl)

-- ---- separators: `1_0` and `10`

one_zero : (complete grouped u8 (49 ∷ 95 ∷ 48 ∷ []) ≡ Ok (pos 10)) × (complete grouped u8 (without_separators grouped (49 ∷ 95 ∷ 48 ∷ [])) ≡ Ok (pos 10))
unfolding grammar
one_zero = (refl, refl)

-- under octal zeros a separator keeps `09` in radix 10, and where no digit is asked for it makes `0x_` a value
abbrev leading_octal : Format
leading_octal = record octal { digit_separator = Some 95; integer_leading_digit_separator = true }

nine : (complete leading_octal u8 (95 ∷ 48 ∷ 57 ∷ []) ≡ Ok (pos 9)) × (complete leading_octal u8 (48 ∷ 57 ∷ []) ≡ Err (InvalidDigit 1))
unfolding grammar
nine = (refl, refl)

abbrev optional : Format
optional = record standard { digit_separator = Some 95; integer_leading_digit_separator = true; base_prefix = Some 120; required_mantissa_digits = false }

lone_prefix : (complete optional u8 (48 ∷ 120 ∷ 95 ∷ []) ≡ Ok (pos 0)) × (complete optional u8 (48 ∷ 120 ∷ []) ≡ Err (Empty 2))
unfolding grammar
lone_prefix = (refl, refl)

-- ---- JSON's texts: `-12` is what is printed of -12, and `-0` is read too

minus_twelve : (complete json i16 (45 ∷ 49 ∷ 50 ∷ []) ≡ Ok (negsuc 11)) × (complete json i16 (45 ∷ 48 ∷ []) ≡ Ok (pos 0))
unfolding grammar
minus_twelve = (refl, refl)

-- under the standard format `+7` is 7, which is printed otherwise
plus_seven : complete standard u8 (43 ∷ 55 ∷ []) ≡ Ok (pos 7)
unfolding grammar
plus_seven = refl

-- ---- letter case: `0xFf` and `0XfF` are 255

two_five_five : (complete hexadecimal u8 (48 ∷ 120 ∷ 70 ∷ 102 ∷ []) ≡ Ok (pos 255)) × (complete hexadecimal u8 (48 ∷ 88 ∷ 102 ∷ 70 ∷ []) ≡ Ok (pos 255))
unfolding grammar
two_five_five = (refl, refl)

-- a letter as a separator is compared exactly: `1x0` is 10, and `1X0` no integer
abbrev parted_by_x : Format
parted_by_x = record standard { digit_separator = Some 120; integer_internal_digit_separator = true }

one_x_zero : (complete parted_by_x u8 (49 ∷ 120 ∷ 48 ∷ []) ≡ Ok (pos 10)) × (complete parted_by_x u8 (49 ∷ 88 ∷ 48 ∷ []) ≡ Err (InvalidDigit 1))
unfolding grammar
one_x_zero = (refl, refl)

-- ---- fronts: of `12x` the front `12` is read

twelve : (number_in_front standard u8 (49 ∷ 50 ∷ 120 ∷ []) ≡ Ok (pos 12, 2)) × (complete standard u8 (49 ∷ 50 ∷ []) ≡ Ok (pos 12))
unfolding grammar
twelve = (refl, refl)

-- a fault comes before the longest front
too_great : (number_in_front standard u8 (50 ∷ 53 ∷ 54 ∷ []) ≡ Err (Overflow 2)) × (complete standard u8 (50 ∷ 53 ∷ []) ≡ Ok (pos 25))
unfolding grammar
too_great = (refl, refl)

-- where separators may trail alone, a longer front may be an integer
abbrev trailing : Format
trailing = record standard { digit_separator = Some 95; integer_trailing_digit_separator = true }

one_trails : (number_in_front trailing u8 (49 ∷ 95 ∷ 50 ∷ []) ≡ Ok (pos 1, 1)) × (complete trailing u8 (49 ∷ 95 ∷ []) ≡ Ok (pos 1))
unfolding grammar
one_trails = (refl, refl)

-- ---- foreign bytes: `12;3` is read as `12` is

twelve_alone : (partial standard u8 (49 ∷ 50 ∷ 59 ∷ 51 ∷ []) ≡ Ok (pos 12, 2)) × (partial standard u8 (49 ∷ 50 ∷ []) ≡ Ok (pos 12, 2))
unfolding grammar
twelve_alone = (refl, refl)

-- where the end is missing, a byte behind it may count
abbrev prefixed : Format
prefixed = record standard { base_prefix = Some 120 }

missing_end : (partial prefixed u8 (48 ∷ 120 ∷ []) ≡ Err (Empty 2)) × (partial prefixed u8 (48 ∷ 120 ∷ 59 ∷ []) ≡ Ok (pos 0, 2))
unfolding grammar
missing_end = (refl, refl)

-- ---- tokens: those of two sources put together at a line feed are those of both

-- what each token is, and where it starts and stops
abbrev spans : Format → List ℕ → List (Kind × ℕ × ℕ)
spans format source = map (λ token. (token.kind, token.start, token.stop)) (tokens_under format source)

-- `0x` is the same fault in front of more, and the number behind it stands three bytes later
lines_apart : (spans literals (codes "0x") ≡ (Fault (Empty 2), 0, 2) ∷ []) × (spans literals (codes "0x\n1") ≡ (Fault (Empty 2), 0, 2) ∷ (Number 1, 3, 4) ∷ [])
unfolding grammar number_of
lines_apart = (refl, refl)

-- with a prefix and no separator it is a fault at the end of a source alone
prefix_at_the_end : (spans prefixed (codes "0x") ≡ (Fault (Empty 2), 0, 2) ∷ []) × (spans prefixed (codes "0x\n1") ≡ (Number 0, 0, 2) ∷ (Number 1, 3, 4) ∷ [])
unfolding grammar number_of
prefix_at_the_end = (refl, refl)

-- a line feed that separates digits parts no tokens
abbrev parted_by_lines : Format
parted_by_lines = record standard { digit_separator = Some 10; integer_internal_digit_separator = true }

number_over_lines : spans parted_by_lines (codes "1\n2") ≡ (Number 12, 0, 3) ∷ []
unfolding grammar number_of
number_over_lines = refl
