-- The laws at examples: their premises can be met, and without them they fail. For the tests of laws in `library_tests`.
use Rattle.std.proofs.Common.{◌≡◌, ℕ, zero, suc, true, false, List, [], ◌∷◌, ◌++◌, refl, arith, None, Some, IsSome, Ok, Err, codes, inr}
use Rattle.std.proofs.Math.IntN.{pos, negsuc}
use Rattle.std.specs.Prelude.{replicate}
use Rattle.std.specs.Fmt.{digits, signed_decimal}
use Rattle.lexical_util.specs.declared.error.Error.TheVariants.{Empty, InvalidDigit, InvalidLeadingZeros, InvalidPositiveSign, Overflow, Underflow}
use Rattle.lexical_util.specs.Format.{Format, json, standard}
use Rattle.lexical_util.specs.Number.{IntegerType, integer_type, is_number, overflow_digits}
use Rattle.lexical_parse_integer.specs.Computed.{grammar}
use Rattle.lexical_parse_integer.specs.Grammar.{complete, partial}
use Rattle.lexical_parse_integer.specs.Head.{head_of, sign}
use Rattle.lexical_parse_integer.specs.Laws.{IsNumeralOf, IsSettledAt, PadsZeros, SameFront, WritesShortest, with_radix}
use Rattle.lexical_parse_integer.specs.Numeral.{digit_count, numeral_in}
use Rattle.lexical_parse_integer.specs.Runs.{are_same, begin_of, digit_at, end_of, run_begin, run_stop, separator_at}
use Rattle.lexical_parse_integer.specs.Seeking.{HasNoDigit}
use Rattle.lexical_parse_integer.specs.Stops.{stops_after_digit}
use Rattle.lexical_parse_integer.specs.Turns.{HasFewTurns}
use Rattle.lexical_parse_integer.proofs.theorems.Locality.{is_local}
use Rattle.lexical_parse_integer.proofs.theorems.ReadBack.{digits_text, numeral_text, printed_is, reads_numerals, shortest_if}
use Rattle.lexical_parse_integer.proofs.theorems.ZerosInFront.{reads_padded}

abbrev u8 : IntegerType
u8 = integer_type 8 false

abbrev i8 : IntegerType
i8 = integer_type 8 true

abbrev i16 : IntegerType
i16 = integer_type 16 true

-- separator `_`, between digits
abbrev internal : Format
internal = record standard { digit_separator = Some 95; integer_internal_digit_separator = true }

-- separator `_`, behind the digits
abbrev trailing : Format
trailing = record standard { digit_separator = Some 95; integer_trailing_digit_separator = true }

-- ---- runs and ends: in `1__2` the run at place 2 goes from 1 to before 3; two in a row don't pass
run_of_two : (run_begin internal (49 ∷ 95 ∷ 95 ∷ 50 ∷ []) 0 2 ≡ 1) × (run_stop internal (49 ∷ 95 ∷ 95 ∷ 50 ∷ []) 2 ≡ 3)
unfolding begin_of separator_at are_same
run_of_two = (refl, refl)

two_end : (end_of internal false 10 (49 ∷ 95 ∷ 95 ∷ 50 ∷ []) 0 ≡ 1) × (end_of internal false 10 (49 ∷ 95 ∷ 50 ∷ []) 0 ≡ 3)
unfolding grammar
two_end = (refl, refl)

-- ---- range faults: the last digit of `256` leaves `u8`, within the text; a fault of missing digits may stand at its end
last_digit_leaves : (partial standard u8 (50 ∷ 53 ∷ 54 ∷ []) ≡ Err (Overflow 2)) × (complete standard u8 (50 ∷ 53 ∷ 54 ∷ []) ≡ Err (Overflow 2))
unfolding grammar
last_digit_leaves = (refl, refl)

missing_at_end : partial standard u8 [] ≡ Err (Empty 0)
unfolding grammar
missing_at_end = refl

-- ---- the front's end: `1x` begins with a digit, and `x` with none, so that its front is empty
full_front : (digit_at 10 (49 ∷ 120 ∷ []) 0 ≡ Some 1) × (partial standard u8 (49 ∷ 120 ∷ []) ≡ Ok (pos 1, 1))
unfolding grammar
full_front = (refl, refl)

empty_front : (digit_at 10 (120 ∷ []) 0 ≡ None) × (partial standard u8 (120 ∷ []) ≡ Ok (pos 0, 0))
unfolding grammar
empty_front = (refl, refl)

-- ---- wider types: `12x` is read alike as `i8` and `i16`; an unsigned type reads no minus
wider_front : (partial standard i8 (49 ∷ 50 ∷ 120 ∷ []) ≡ Ok (pos 12, 2)) × (partial standard i16 (49 ∷ 50 ∷ 120 ∷ []) ≡ Ok (pos 12, 2))
unfolding grammar
wider_front = (refl, refl)

other_signs : (partial standard i8 (45 ∷ 48 ∷ []) ≡ Ok (pos 0, 2)) × (partial standard (integer_type 16 false) (45 ∷ 48 ∷ []) ≡ Ok (pos 0, 0))
unfolding grammar
other_signs = (refl, refl)

-- ---- the front's digits: `1x` stops after a digit, and `+a` after none; behind the trailing separator of `1_` there is
-- none though a digit was read
after_digit : (partial standard u8 (49 ∷ 120 ∷ []) ≡ Ok (pos 1, 1)) × (stops_after_digit 10 (49 ∷ 120 ∷ []) 1 ≡ true)
unfolding grammar
after_digit = (refl, refl)

after_none : (partial standard u8 (43 ∷ 97 ∷ []) ≡ Ok (pos 0, 1)) × (stops_after_digit 10 (43 ∷ 97 ∷ []) 1 ≡ false)
unfolding grammar
after_none = (refl, refl)

after_separator : (partial trailing u8 (49 ∷ 95 ∷ []) ≡ Ok (pos 1, 2)) × (stops_after_digit 10 (49 ∷ 95 ∷ []) 2 ≡ false)
unfolding grammar
after_separator = (refl, refl)

-- ---- complete and partial: each of the sentences has a text

-- `12`
all_read : (partial standard u8 (49 ∷ 50 ∷ []) ≡ Ok (pos 12, 2)) × (complete standard u8 (49 ∷ 50 ∷ []) ≡ Ok (pos 12))
unfolding grammar
all_read = (refl, refl)

-- `1x`
left_over : (partial standard u8 (49 ∷ 120 ∷ []) ≡ Ok (pos 1, 1)) × (complete standard u8 (49 ∷ 120 ∷ []) ≡ Err (InvalidDigit 1))
unfolding grammar
left_over = (refl, refl)

-- `256x`
too_great : (partial standard u8 (50 ∷ 53 ∷ 54 ∷ 120 ∷ []) ≡ Err (Overflow 2)) × (complete standard u8 (50 ∷ 53 ∷ 54 ∷ 120 ∷ []) ≡ Err (Overflow 2))
unfolding grammar
too_great = (refl, refl)

-- `+`
nothing : (partial standard u8 (43 ∷ []) ≡ Err (Empty 1)) × (complete standard u8 (43 ∷ []) ≡ Err (Empty 1))
unfolding grammar
nothing = (refl, refl)

-- `_1`: with a separator, digits can be missing before the end
nothing_before : (partial internal u8 (95 ∷ 49 ∷ []) ≡ Err (Empty 0)) × (complete internal u8 (95 ∷ 49 ∷ []) ≡ Err (InvalidDigit 0))
unfolding grammar
nothing_before = (refl, refl)

-- ---- locality: `12,3` and `12,x` share `12,`
comma : IsSettledAt 4 2 (partial standard u8 (49 ∷ 50 ∷ 44 ∷ 51 ∷ []))
unfolding grammar
comma = (refl, omega arith)

comma_same : partial standard u8 (49 ∷ 50 ∷ 44 ∷ 120 ∷ []) ≡ partial standard u8 (49 ∷ 50 ∷ 44 ∷ 51 ∷ [])
comma_same = is_local standard u8 refl refl (49 ∷ 50 ∷ 44 ∷ 51 ∷ []) (49 ∷ 50 ∷ 44 ∷ 120 ∷ []) 2 comma refl

-- `256` and `25679` share the first digit that overflows
leaves : IsSettledAt 3 2 (partial standard u8 (50 ∷ 53 ∷ 54 ∷ []))
unfolding grammar
leaves = refl

leaves_same : partial standard u8 (50 ∷ 53 ∷ 54 ∷ 55 ∷ 57 ∷ []) ≡ partial standard u8 (50 ∷ 53 ∷ 54 ∷ [])
leaves_same = is_local standard u8 refl refl (50 ∷ 53 ∷ 54 ∷ []) (50 ∷ 53 ∷ 54 ∷ 55 ∷ 57 ∷ []) 2 leaves refl

-- the byte at the place counts: `1,` and `12` share one byte
one_less : (partial standard u8 (49 ∷ 44 ∷ []) ≡ Ok (pos 1, 1)) × (partial standard u8 (49 ∷ 50 ∷ []) ≡ Ok (pos 12, 2))
unfolding grammar
one_less = (refl, refl)

-- an answer at the end isn't settled: `12` and `123`
at_end : IsSettledAt 2 2 (partial standard u8 (49 ∷ 50 ∷ [])) → ⊥
unfolding grammar
at_end h = omega arith

-- with a separator a later byte can matter: of `1_,` the front is `1`, and of `1_2` it is all
separated_differ : (partial internal u8 (49 ∷ 95 ∷ 44 ∷ []) ≡ Ok (pos 1, 1)) × (partial internal u8 (49 ∷ 95 ∷ 50 ∷ []) ≡ Ok (pos 12, 3)) × SameFront 2 (49 ∷ 95 ∷ 44 ∷ []) (49 ∷ 95 ∷ 50 ∷ [])
unfolding grammar
separated_differ = (refl, refl, refl)

-- ---- numerals: `-fF` in radix 16 is -255
minus_ff : IsNumeralOf 16 (negsuc 254) (45 ∷ 102 ∷ 70 ∷ [])
minus_ff = (102 ∷ 70 ∷ [], refl, shortest_if 16 255 (102 ∷ 70 ∷ []) (omega arith) (record { digits = 15 ∷ 15 ∷ []; bytes = refl; some = omega arith; worth = refl }) (inr (λ e. cc)))

minus_ff_read : complete (with_radix 16) i16 (45 ∷ 102 ∷ 70 ∷ []) ≡ Ok (negsuc 254)
minus_ff_read = reads_numerals 16 i16 (omega arith) (negsuc 254) (45 ∷ 102 ∷ 70 ∷ []) refl minus_ff

-- the text that is made for it
minus_ff_text : numeral_text 16 (negsuc 254) ≡ 45 ∷ 102 ∷ 102 ∷ []
unfolding numeral_text digits_text
minus_ff_text = refl

-- what std prints
minus_ten : signed_decimal (negsuc 9) ≡ 45 ∷ 49 ∷ 48 ∷ []
unfolding digits
minus_ten = refl

minus_ten_read : complete standard i8 (45 ∷ 49 ∷ 48 ∷ []) ≡ Ok (negsuc 9)
minus_ten_read = reads_numerals 10 i8 (omega arith) (negsuc 9) (45 ∷ 49 ∷ 48 ∷ []) refl (rw minus_ten at (printed_is i8 (negsuc 9) (omega arith) refl))

-- `0ff` isn't the shortest
not_shortest : WritesShortest 16 255 (48 ∷ 102 ∷ 102 ∷ []) → ⊥
not_shortest w =
    let short = w.shortest (102 ∷ 102 ∷ []) (record { digits = 15 ∷ 15 ∷ []; bytes = refl; some = omega arith; worth = refl }) in
    omega arith

-- a number outside the type has a numeral too, but isn't read: `-129` as `i8`
minus_129 : (is_number i8 (negsuc 128) ≡ false) × (complete standard i8 (45 ∷ 49 ∷ 50 ∷ 57 ∷ []) ≡ Err (Underflow 3))
unfolding grammar
minus_129 = (refl, refl)

-- ---- zeros in front: `-7` and `-007`
none_before_7 : HasNoDigit 10 (45 ∷ 55 ∷ []) 0 1
unfolding digit_at
none_before_7 zero low high = refl
none_before_7 (suc k) low high = absurd (omega arith)

seven_there : IsSome (digit_at 10 (45 ∷ 55 ∷ []) 1)
unfolding digit_at
seven_there = refl

padded : PadsZeros (45 ∷ 55 ∷ []) (45 ∷ 48 ∷ 48 ∷ 55 ∷ [])
padded = record { front = 45 ∷ []; rest = 55 ∷ []; zeros = 2; text_is = refl; padded_is = refl; no_digit_before = none_before_7; digit_behind = seven_there }

minus_seven : complete standard i16 (45 ∷ 55 ∷ []) ≡ Ok (negsuc 6)
unfolding grammar
minus_seven = refl

padded_read : complete standard i16 (45 ∷ 48 ∷ 48 ∷ 55 ∷ []) ≡ Ok (negsuc 6)
padded_read = reads_padded i16 (45 ∷ 55 ∷ []) (45 ∷ 48 ∷ 48 ∷ 55 ∷ []) (negsuc 6) padded minus_seven

-- zeros in front of the sign don't pad, and `0-7` isn't read
zero_minus : complete standard i16 (48 ∷ 45 ∷ 55 ∷ []) ≡ Err (InvalidDigit 1)
unfolding grammar
zero_minus = refl

no_digit_first : IsSome (digit_at 10 (45 ∷ 55 ∷ []) 0) → ⊥
unfolding digit_at
no_digit_first h = cc

not_padded_by : (front rest : List ℕ) (n : ℕ) → ◌≡◌ {A = List ℕ} (45 ∷ 55 ∷ []) (front ++ rest) → ◌≡◌ {A = List ℕ} (48 ∷ 45 ∷ 55 ∷ []) (front ++ (replicate n 48 ++ rest)) → front ≡ []
not_padded_by [] rest n text padded = refl
not_padded_by (c ∷ cs) rest n text padded =
    let a : 45 ≡ c = cc in
    let b : 48 ≡ c = cc in
    absurd (omega arith)

not_padded : PadsZeros (45 ∷ 55 ∷ []) (48 ∷ 45 ∷ 55 ∷ []) → ⊥
not_padded p =
    let none = not_padded_by p.front p.rest p.zeros p.text_is p.padded_is in
    let there = p.digit_behind in
    no_digit_first (rw none at there)

-- a format that forbids leading zeros refuses them: `7` and `07` as JSON
seven_json : (complete json i16 (55 ∷ []) ≡ Ok (pos 7)) × (complete json i16 (48 ∷ 55 ∷ []) ≡ Err (InvalidLeadingZeros 0))
unfolding grammar
seven_json = (refl, refl)

-- ---- turns: the head of `12345678` is read in radix 10, and its eight digits have room in 64 bits
pub eight_digits : (head_of standard (integer_type 64 false) (codes "12345678") ≡ Ok (record { is_negative = false; is_prefixed = false; is_octal = false; start = 0; radix = 10 })) × (digit_count (numeral_in standard false 10 (codes "12345678") 0) ≡ 8) × (overflow_digits (integer_type 64 false) 10 ≡ 16)
unfolding grammar
eight_digits = (refl, refl, refl)

-- a plus that is forbidden is a fault of the sign
pub plus_forbidden : head_of json (integer_type 64 false) (codes "+1") ≡ Err (InvalidPositiveSign 0)
unfolding head_of sign
plus_forbidden = refl

-- in radix 16 any number of turns is few: nothing is promised there
any_in_radix_16 : (turns : ℕ) → HasFewTurns (with_radix 16) (integer_type 64 false) (49 ∷ []) turns
unfolding grammar
any_in_radix_16 turns = λ ten. absurd (omega arith)
