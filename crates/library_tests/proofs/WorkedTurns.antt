-- How many turns some texts take: an upper bound by words, and one turn for each digit where digits
-- are taken one by one.
use Rattle.std.proofs.Common.{◌≡◌, ◌≤◌, ◌∙◌, ℕ, List, Result, Ok, Err, OnOk, Some, codes, false, true, refl, lit≤}
use Rattle.std.proofs.lemmas.Result.{MatchResult-at_ok}
use Rattle.lexical_util.specs.Format.{Format, standard}
use Rattle.lexical_util.specs.Number.{IntegerType, integer_type}
use Rattle.lexical_parse_integer.specs.Computed.{grammar}
use Rattle.lexical_parse_integer.specs.CursorView.{CursorView}
use Rattle.lexical_parse_integer.specs.Head.{Head}
use Rattle.lexical_parse_integer.specs.Numeral.{digit_count, numeral_in}
use Rattle.lexical_parse_integer.specs.Reading.{StandsAtStop}
use Rattle.lexical_parse_integer.specs.Turns.{HasFewTurns, digits_per_word}

-- by the bound in contracts a parse by words takes at most `most` turns
abbrev pub Takes : Format → IntegerType → List ℕ → ℕ → Type 0
Takes format type text most = (turns : ℕ) → HasFewTurns format type text turns → turns ≤ most

-- two words of four
eight_of_u32 : Takes standard (integer_type 32 false) (codes "12345678") 2
unfolding grammar digits_per_word
eight_of_u32 turns few = few (lit≤ tt)

-- a word of four and three digits, which have room, and two that are tested
nine_of_i32 : Takes standard (integer_type 32 true) (codes "123456789") 6
unfolding grammar digits_per_word
nine_of_i32 turns few = few (lit≤ tt)

-- seven digits are no word of eight
seven_of_u64 : Takes standard (integer_type 64 false) (codes "1234567") 7
unfolding grammar digits_per_word
seven_of_u64 turns few = few (lit≤ tt)

-- two words of eight
sixteen_of_u64 : Takes standard (integer_type 64 false) (codes "1234567812345678") 2
unfolding grammar digits_per_word
sixteen_of_u64 turns few = few (lit≤ tt)

-- sixteen have room, and four are tested
twenty_of_u64 : Takes standard (integer_type 64 false) (codes "12345678901234567890") 6
unfolding grammar digits_per_word
twenty_of_u64 turns few = few (lit≤ tt)

-- behind a sign fifteen have room: a word, seven digits, and one that is tested
sixteen_of_i64 : Takes standard (integer_type 64 true) (codes "1234567812345678") 9
unfolding grammar digits_per_word
sixteen_of_i64 turns few = few (lit≤ tt)

-- four words of eight
thirty_two_of_u128 : Takes standard (integer_type 128 false) (codes "12345678123456781234567812345678") 4
unfolding grammar digits_per_word
thirty_two_of_u128 turns few = few (lit≤ tt)

-- a word and four digits, whatever follows them
twelve_before_a_brace : Takes standard (integer_type 64 false) (codes "123456789012}                    ") 5
unfolding grammar digits_per_word
twelve_before_a_brace turns few = few (lit≤ tt)

-- a word of four and one
five_before_a_letter : Takes standard (integer_type 32 true) (codes "12345x") 2
unfolding grammar digits_per_word
five_before_a_letter turns few = few (lit≤ tt)

-- one word
eight_before_a_comma : Takes standard (integer_type 64 false) (codes "12345678, 9") 1
unfolding grammar digits_per_word
eight_before_a_comma turns few = few (lit≤ tt)

-- the first zero alone is taken, since it may not lead
eight_zeros : Takes (record standard { no_integer_leading_zeros = true }) (integer_type 64 false) (codes "00000000") 1
unfolding grammar digits_per_word
eight_zeros turns few = few (lit≤ tt)

-- in radix 2, which the text chooses, sixteen have room
sixty_four_binary : Takes (record standard { literal_prefixes = true }) (integer_type 64 false)
    (codes "0b1111111111111111111111111111111111111111111111111111111111111111") 50
unfolding grammar digits_per_word
sixty_four_binary turns few = few (lit≤ tt)

-- one word behind a sign
minus_eight_of_i64 : Takes standard (integer_type 64 true) (codes "-12345678") 1
unfolding grammar digits_per_word
minus_eight_of_i64 turns few = few (lit≤ tt)

-- thirty-two have room, and thirty-three are tested
sixty_five_of_u128 : Takes standard (integer_type 128 false)
    (codes "00000000000000000000000000123456789012345678901234567890123456789") 37
unfolding grammar digits_per_word
sixty_five_of_u128 turns few = few (lit≤ tt)

-- two words of eight
sixteen_octal : Takes (record standard { mantissa_radix = 8 }) (integer_type 64 false) (codes "1234567012345670") 2
unfolding grammar digits_per_word
sixteen_octal turns few = few (lit≤ tt)

-- a word and three digits
eleven_ternary : Takes (record standard { mantissa_radix = 3 }) (integer_type 64 false) (codes "12012012012") 4
unfolding grammar digits_per_word
eleven_ternary turns few = few (lit≤ tt)

-- a byte that is no digit of the radix takes no turn
two_before_an_eight : Takes (record standard { mantissa_radix = 8 }) (integer_type 32 false) (codes "1281") 2
unfolding grammar digits_per_word
two_before_an_eight turns few = few (lit≤ tt)

-- behind a sign seven have room: a word of four, three digits, and one that is tested
eight_in_radix_nine : Takes (record standard { mantissa_radix = 9 }) (integer_type 32 true) (codes "12345678") 5
unfolding grammar digits_per_word
eight_in_radix_nine turns few = few (lit≤ tt)

-- a suffix takes no turn
eight_before_a_suffix : Takes (record standard { base_suffix = Some 104 }) (integer_type 64 false)
    (codes "12345678h") 1
unfolding grammar digits_per_word
eight_before_a_suffix turns few = few (lit≤ tt)

-- nor do a sign and a prefix
eight_behind_a_prefix : Takes (record standard { base_prefix = Some 120 }) (integer_type 64 true)
    (codes "+0x12345678") 1
unfolding grammar digits_per_word
eight_behind_a_prefix turns few = few (lit≤ tt)

-- nor a prefix by which the text chooses radix 8
sixteen_behind_a_literal_prefix : Takes (record standard { literal_prefixes = true }) (integer_type 64 false)
    (codes "0o1234567012345670") 2
unfolding grammar digits_per_word
sixteen_behind_a_literal_prefix turns few = few (lit≤ tt)

-- what two facts of a success give
both : {T E P Q R : Type 0} (answer : Result T E) → (P → Q → R) → OnOk answer P → OnOk answer Q → OnOk answer R
both (Ok x) joined p q = joined p q
both (Err e) joined p q = tt

sixteen_one_by_one-digits : (cursor : CursorView)
    → StandsAtStop standard (integer_type 64 false) (codes "1234567812345678") cursor
    → cursor.digits ≡ 16
unfolding grammar
sixteen_one_by_one-digits cursor stop =
    stop.all_digits ∙ MatchResult-at_ok
    (λ (head : Head). digit_count (numeral_in standard head.is_prefixed head.radix (codes "1234567812345678") head.start) ≡ 16) (λ e. e ≡ e) stop.head stop.head_is refl

pub sixteen_one_by_one : {T E : Type 0} (answer : Result T E) (cursor : CursorView)
    → OnOk answer (StandsAtStop standard (integer_type 64 false) (codes "1234567812345678") cursor)
    → OnOk answer (cursor.turns ≡ cursor.digits) → OnOk answer (cursor.turns ≡ 16)
sixteen_one_by_one answer cursor stop each =
    both answer (λ stop each. each ∙ sixteen_one_by_one-digits cursor stop) stop each

three_one_by_one-digits : (cursor : CursorView)
    → StandsAtStop standard (integer_type 8 false) (codes "255.5") cursor → cursor.digits ≡ 3
unfolding grammar
three_one_by_one-digits cursor stop =
    stop.all_digits ∙ MatchResult-at_ok
    (λ (head : Head). digit_count (numeral_in standard head.is_prefixed head.radix (codes "255.5") head.start) ≡ 3)
    (λ e. e ≡ e) stop.head stop.head_is refl

pub three_one_by_one : {T E : Type 0} (answer : Result T E) (cursor : CursorView)
    → OnOk answer (StandsAtStop standard (integer_type 8 false) (codes "255.5") cursor)
    → OnOk answer (cursor.turns ≡ cursor.digits) → OnOk answer (cursor.turns ≡ 3)
three_one_by_one answer cursor stop each =
    both answer (λ stop each. each ∙ three_one_by_one-digits cursor stop) stop each
