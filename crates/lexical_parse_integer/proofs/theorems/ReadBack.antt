-- Numerals are read back, and each number has one: for `numeral` and `numerals`.
use Rattle.std.proofs.Common.{◌≡◌, ◌≢◌, ℕ, zero, suc, ◌+◌, ◌-◌, ◌*◌, ◌^◌, ◌<◌, ◌≤◌, Bool, true, false, List, [], ◌∷◌, length, get_or, map, refl, sym, ap, ◌∙◌, arith, ◌⊎◌, Option, Some, None, is_some, Ok, Result, inl, inr, cond}
use Rattle.std.proofs.Math.IntN.{ℤ, pos, negsuc}
use Rattle.std.proofs.Math.Nat.{pow-zero, pow-suc, mul-le-mul_right, pow-le-pow_right}
use Rattle.std.proofs.lemmas.Bool.{lt-ltb, ltb-true, ne_eqb, and_parts, cases_lt}
use Rattle.std.proofs.lemmas.Bool.Decides.{nat_tests}
use Rattle.std.proofs.lemmas.Fmt.{decimal_is_IsNumeral_wide, length-decimal-le_wide}
use Rattle.std.proofs.lemmas.List.{length-map}
use Rattle.std.proofs.lemmas.Int.Digits.{number_digits_of, all_below_base_digits_of, length-digits_of-le, number_lt, digits_value_is}
use Rattle.std.specs.Prelude.{◌==◌, nat_lt, option_and_then, slice_get}
use Rattle.std.specs.Char.{digit_char, digit_value as char_value}
use Rattle.std.specs.Fmt.{decimal, signed_decimal}
use Rattle.std.specs.Str.Parse.{AllDigits}
use Rattle.std.specs.Int.Digits.{digits_of, number_from_digits, number_from_digits_after, AllBelowBase}
use Rattle.lexical_util.specs.declared.error.Error.{Error}
use Rattle.lexical_util.specs.Digit.{value_if_below, digit, digit_value}
use Rattle.lexical_util.specs.Format.{Format}
use Rattle.lexical_util.specs.Number.{IntegerType, IsNumber, is_number, number_limit}
use Rattle.lexical_parse_integer.specs.Grammar.{complete}
use Rattle.lexical_parse_integer.specs.Head.{sign}
use Rattle.lexical_parse_integer.specs.Laws.{IsNumeralOf, ReadsNumerals, Writes, WritesShortest, with_radix}
use Rattle.lexical_parse_integer.specs.Runs.{digit_at}
use Rattle.lexical_digits.specs.Value.{positional_value, with_sign}
use Rattle.lexical_parse_integer.proofs.theorems.DigitTexts.{digits_read, rest_value}
use Rattle.lexical_parse_integer.proofs.grammar.DigitsInARow.{has_digit, row}
use Rattle.lexical_parse_integer.proofs.grammar.Stretches.{HoldsBetween}
use Rattle.lexical_digits.proofs.DigitValues.{HaveDigits, digits_size, digit_below}

-- ---- digits that stand in a text

-- from start on a text goes on with these bytes to its end
pub record GoesOnWith (text : List ℕ) (start : ℕ) (bytes : List ℕ) : Type 0 where
  pub at : (k : ℕ) → slice_get text (start + k) ≡ slice_get bytes k
  pub size : length text ≡ start + length bytes

pub digit_there : (r : ℕ) (bytes ds : List ℕ) (k : ℕ) → HaveDigits r bytes ds → k < length ds → option_and_then (λ byte. digit r byte) (slice_get bytes k) ≡ Some (get_or ds k 0)
digit_there r [] [] k all l = absurd (omega arith)
digit_there r [] (d ∷ ds) k all l = cc
digit_there r (c ∷ cs) [] k all l = cc
digit_there r (c ∷ cs) (d ∷ ds) zero all l = cc
digit_there r (c ∷ cs) (d ∷ ds) (suc k) all l =
    let more : map (λ byte. digit r byte) cs ≡ map Some ds = cc in
    digit_there r cs ds k more (omega arith)

pub digit_at_there : (r : ℕ) (text bytes ds : List ℕ) (start k : ℕ) → GoesOnWith text start bytes → HaveDigits r bytes ds → k < length ds → digit_at r text (start + k) ≡ Some (get_or ds k 0)
unfolding digit_at
digit_at_there r text bytes ds start k on all l = ap (option_and_then (λ byte. digit r byte)) (on.at k) ∙ digit_there r bytes ds k all l

-- the row of digits that stand there
pub row_is : (r : ℕ) (text ds : List ℕ) (start : ℕ) → ((k : ℕ) → k < length ds → digit_at r text (start + k) ≡ Some (get_or ds k 0)) → row r text start (length ds) ≡ ds
row_is r text [] start at = refl
row_is r text (d ∷ ds) start at =
    let here : digit_at r text start ≡ Some d = ap (digit_at r text) (let e : start ≡ start + 0 = omega arith in e) ∙ at 0 (omega arith) in
    let rest : row r text (start + 1) (length ds) ≡ ds = row_is r text ds (start + 1) (λ k l. ap (digit_at r text) (let e : start + 1 + k ≡ start + suc k = omega arith in e) ∙ at (suc k) (omega arith)) in
    rw here (ap (λ es. d ∷ es) rest)

pub all_there : (r : ℕ) (text bytes ds : List ℕ) (start : ℕ) → GoesOnWith text start bytes → HaveDigits r bytes ds → HoldsBetween (has_digit r text) start (length text)
all_there r text bytes ds start on all k low high =
    let size = digits_size r bytes ds all in
    let at = digit_at_there r text bytes ds start (k - start) on all (omega (arith, on.size)) in
    let same : start + (k - start) ≡ k = omega arith in
    ap is_some (ap (digit_at r text) (sym same) ∙ at)

pub rest_is : (r : ℕ) (text bytes ds : List ℕ) (start : ℕ) → GoesOnWith text start bytes → HaveDigits r bytes ds → rest_value r text start ≡ positional_value r ds
rest_is r text bytes ds start on all =
    let size = digits_size r bytes ds all in
    let count : length text - start ≡ length ds = omega (arith, on.size) in
    ap (λ (n : ℕ). positional_value r (row r text start n)) count ∙ ap (positional_value r) (row_is r text ds start (λ k l. digit_at_there r text bytes ds start k on all l))

-- digits alone behind the sign are read
written_read : (r : ℕ) (t : IntegerType) (n : ℕ) (text bytes : List ℕ) (s : Bool × ℕ) → 1 ≤ r → sign (with_radix r) t text ≡ Ok s → GoesOnWith text s.1 bytes → Writes r n bytes → is_number t (with_sign s.0 n) ≡ true → complete (with_radix r) t text ≡ Ok (with_sign s.0 n)
written_read r t n text bytes s positive sign_is on writes fits =
    let value : rest_value r text s.1 ≡ n = rest_is r text bytes writes.digits s.1 on writes.bytes ∙ writes.worth in
    digits_read r t text s positive sign_is (omega (arith, on.size, writes.some)) (all_there r text bytes writes.digits s.1 on writes.bytes) (ap (λ (m : ℕ). is_number t (with_sign s.0 m)) value ∙ fits)
    ∙ ap (λ (m : ℕ). Ok (with_sign s.0 m)) value

-- ---- the sign of a text that begins with a digit, and of one with a minus

pub no_sign_byte : (r c d : ℕ) → digit r c ≡ Some d → ((c == 43) ≡ false) × ((c == 45) ≡ false)
no_sign_byte r c d is = (
  ne_eqb c 43 (λ e. let none : digit r c ≡ None = ap (λ (b : ℕ). digit r b) e in cc),
  ne_eqb c 45 (λ e. let none : digit r c ≡ None = ap (λ (b : ℕ). digit r b) e in cc),
)

pub sign_of_digit : (r : ℕ) (t : IntegerType) (c d : ℕ) (cs : List ℕ) → digit r c ≡ Some d → sign (with_radix r) t (c ∷ cs) ≡ Ok (false, 0)
unfolding sign
sign_of_digit r t c d cs is =
    let none = no_sign_byte r c d is in
    rw (none.0, none.1) refl

sign_of_minus : (r : ℕ) (t : IntegerType) (cs : List ℕ) → t.is_signed ≡ true → sign (with_radix r) t (45 ∷ cs) ≡ Ok (true, 1)
unfolding sign
sign_of_minus r t cs is_signed = rw is_signed refl

-- ---- the law

pub first_digit : (r c : ℕ) (cs ds : List ℕ) → HaveDigits r (c ∷ cs) ds → (d : ℕ) × (digit r c ≡ Some d)
first_digit r c cs [] all = cc
first_digit r c cs (d ∷ ds) all = (d, cc)

pub from_first : (text : List ℕ) → GoesOnWith text 0 text
from_first text = record { at = λ k. ap (slice_get text) (omega arith); size = omega arith }

pub from_second : (c : ℕ) (bytes : List ℕ) → GoesOnWith (c ∷ bytes) 1 bytes
from_second c bytes = record { at = λ k. ap (slice_get (c ∷ bytes)) (let e : 1 + k ≡ suc k = omega arith in e); size = omega arith }

unsigned_read : (r : ℕ) (t : IntegerType) (n : ℕ) (text : List ℕ) → 1 ≤ r → IsNumber t (pos n) → Writes r n text → complete (with_radix r) t text ≡ Ok (pos n)
unsigned_read r t n [] positive fits writes = absurd (let some = writes.some in omega arith)
unsigned_read r t n (c ∷ cs) positive fits writes =
    let first = first_digit r c cs writes.digits writes.bytes in
    written_read r t n (c ∷ cs) (c ∷ cs) (false, 0) positive (sign_of_digit r t c first.0 cs first.1) (from_first (c ∷ cs)) writes fits

negative_read : (r : ℕ) (t : IntegerType) (n : ℕ) (bytes : List ℕ) → 1 ≤ r → IsNumber t (negsuc n) → Writes r (suc n) bytes → complete (with_radix r) t (45 ∷ bytes) ≡ Ok (negsuc n)
negative_read r t n bytes positive fits writes =
    let both = and_parts t.is_signed (nat_lt n (number_limit t)) fits in
    written_read r t (suc n) (45 ∷ bytes) bytes (true, 1) positive (sign_of_minus r t bytes both.0) (from_second 45 bytes) writes fits

pub reads_numerals : (r : ℕ) (t : IntegerType) → 2 ≤ r → ReadsNumerals r t
reads_numerals r t low (pos n) text fits numeral = unsigned_read r t n text (omega arith) fits numeral.writes
reads_numerals r t low (negsuc n) text fits numeral = ap (complete (with_radix r) t) numeral.1 ∙ negative_read r t n numeral.0 (omega arith) fits numeral.2.writes

-- the law, at an answer that a call gave
pub answer_read : (r : ℕ) (t : IntegerType) (text : List ℕ) (f : Format) (answer : Result ℤ Error) → 2 ≤ r → f ≡ with_radix r → answer ≡ complete f t text → (v : ℤ) → IsNumber t v → IsNumeralOf r v text → answer ≡ Ok v
answer_read r t text f answer low same is v fits numeral = is ∙ ap (λ (g : Format). complete g t text) same ∙ reads_numerals r t low v text fits numeral

-- ---- each number has a numeral

number_after : (r n : ℕ) (ds : List ℕ) → number_from_digits_after r n ds ≡ n * r ^ length ds + positional_value r ds
number_after r n [] = rw pow-zero (omega arith)
number_after r n (d ∷ ds) =
    let rest = number_after r (n * r + d) ds in
    let power : r ^ suc (length ds) ≡ r ^ length ds * r = pow-suc r (length ds) in
    omega (arith, ap (λ w. n * w) power)

pub number_is : (r : ℕ) (ds : List ℕ) → number_from_digits r ds ≡ positional_value r ds
number_is r ds = let e = number_after r 0 ds in omega arith

digit_char_value : (d : ℕ) → d < 36 → digit_value (digit_char d) ≡ Some d
digit_char_value d small = grind (arith, nat_tests)

digit_char_digit : (r d : ℕ) → d < r → r ≤ 36 → digit r (digit_char d) ≡ Some d
digit_char_digit r d low small =
    let yes : nat_lt d r ≡ true = lt-ltb d r low in
    ap (value_if_below r) (digit_char_value d (omega arith)) ∙ rw yes refl

chars_digits : (r : ℕ) (ds : List ℕ) → r ≤ 36 → AllBelowBase r ds → HaveDigits r (map digit_char ds) ds
chars_digits r [] small all = refl
chars_digits r (d ∷ ds) small all =
    let here = digit_char_digit r d all.0 small in
    let rest = chars_digits r ds small all.1 in
    cc

unfoldable pub digits_text : ℕ → ℕ → List ℕ
digits_text r zero = 48 ∷ []
digits_text r (suc n) = map digit_char (digits_of r (suc n))

digits_some : (r n : ℕ) → 2 ≤ r → 0 < length (digits_of r (suc n))
digits_some r n low = by_list (digits_of r (suc n)) (number_digits_of r (suc n) low)
  where
    by_list : (ds : List ℕ) → number_from_digits r ds ≡ suc n → 0 < length ds
    by_list [] h = absurd (omega arith)
    by_list (d ∷ ds) h = omega arith

all_below : (r : ℕ) (bytes ds : List ℕ) → HaveDigits r bytes ds → AllBelowBase r ds
all_below r [] [] all = tt
all_below r [] (d ∷ ds) all = cc
all_below r (c ∷ cs) [] all = cc
all_below r (c ∷ cs) (d ∷ ds) all =
    let here : digit r c ≡ Some d = cc in
    let more : map (λ byte. digit r byte) cs ≡ map Some ds = cc in
    (digit_below r (digit_value c) d here, all_below r cs ds more)

-- the number is below a power of the radix
writes_below : (r n : ℕ) (text : List ℕ) → Writes r n text → n < r ^ length text
writes_below r n text writes =
    let low = number_lt r writes.digits (all_below r text writes.digits writes.bytes) in
    let size = digits_size r text writes.digits writes.bytes in
    let power : r ^ length writes.digits ≡ r ^ length text = ap (λ k. r ^ k) (sym size) in
    omega (arith, number_is r writes.digits, writes.worth)

pub digit_zero : (r : ℕ) → 2 ≤ r → digit r 48 ≡ Some 0
digit_zero r low = let t : nat_lt 0 r ≡ true = lt-ltb 0 r (omega arith) in rw t refl

pub digits_text_is : (r n : ℕ) → 2 ≤ r → r ≤ 36 → WritesShortest r n (digits_text r n)
unfolding digits_text
digits_text_is r zero low small = record {
  writes = record { digits = 0 ∷ []; bytes = ap (λ o. o ∷ []) (digit_zero r low); some = omega arith; worth = rw pow-zero (omega arith) };
  shortest = λ other writes. let some = writes.some in omega arith;
}
digits_text_is r (suc n) low small =
    let ds : List ℕ = digits_of r (suc n) in
    let size = length-map ds digit_char in
    record {
      writes = record {
        digits = ds;
        bytes = chars_digits r ds small (all_below_base_digits_of r (suc n) low);
        some = let some = digits_some r n low in omega arith;
        worth = sym (number_is r ds) ∙ number_digits_of r (suc n) low;
      };
      shortest = λ other writes. let short = length-digits_of-le r (length other) (suc n) low (writes_below r (suc n) other writes) in omega arith;
    }

unfoldable pub numeral_text : ℕ → ℤ → List ℕ
numeral_text r (pos n) = digits_text r n
numeral_text r (negsuc n) = 45 ∷ digits_text r (suc n)

pub numeral_text_is : (r : ℕ) (v : ℤ) → 2 ≤ r → r ≤ 36 → IsNumeralOf r v (numeral_text r v)
unfolding numeral_text
numeral_text_is r (pos n) low small = digits_text_is r n low small
numeral_text_is r (negsuc n) low small = (digits_text r (suc n), refl, digits_text_is r (suc n) low small)

-- ---- the test of a shortest numeral: it is one digit, or its first digit isn't 0

positional_value-low : (r d : ℕ) (ds : List ℕ) → 1 ≤ d → r ^ length ds ≤ positional_value r (d ∷ ds)
positional_value-low r d ds some =
    let more = mul-le-mul_right (r ^ length ds) some in
    omega arith

-- a digit 0 is the byte `0`
zero_byte : (c : ℕ) → digit_value c ≡ Some 0 → c ≡ 48
zero_byte c h = grind (arith, nat_tests)

zero_digit : (r c : ℕ) (o : Option ℕ) → digit_value c ≡ o → value_if_below r o ≡ Some 0 → c ≡ 48
zero_digit r c None is e = cc
zero_digit r c (Some v) is e = by_test (nat_lt v r) e
  where
    by_test : (b : Bool) → cond b (Some v) None ≡ Some 0 → c ≡ 48
    by_test true h = zero_byte c (is ∙ (cc))
    by_test false h = cc

first_some : (r c d : ℕ) → digit r c ≡ Some d → c ≢ 48 → 1 ≤ d
first_some r c zero is other = absurd (other (zero_digit r c (digit_value c) refl is))
first_some r c (suc d) is other = omega arith

-- a text whose first byte isn't `0` is worth at least a power of the radix
no_zero_high : (r n c : ℕ) (cs ds : List ℕ) → HaveDigits r (c ∷ cs) ds → positional_value r ds ≡ n → c ≢ 48 → r ^ length cs ≤ n
no_zero_high r n c cs [] all worth other = cc
no_zero_high r n c cs (d ∷ ds) all worth other =
    let here : digit r c ≡ Some d = cc in
    let more : HaveDigits r cs ds = cc in
    let size : r ^ length cs ≡ r ^ length ds = ap (λ k. r ^ k) (digits_size r cs ds more) in
    let high = positional_value-low r d ds (first_some r c d here other) in
    omega arith

shortest_than : (r n : ℕ) (text other : List ℕ) → 2 ≤ r → Writes r n text → Writes r n other → (length text ≡ 1) ⊎ (slice_get text 0 ≢ Some 48) → length text ≤ length other
shortest_than r n text other low writes others (inl one) = let some = others.some in omega arith
shortest_than r n [] other low writes others (inr first) = let some = writes.some in absurd (omega arith)
shortest_than r n (c ∷ cs) other low writes others (inr first) = by_size (cases_lt (length other) (length (c ∷ cs)))
  where
    by_size : (length other < length (c ∷ cs)) ⊎ (length (c ∷ cs) ≤ length other) → length (c ∷ cs) ≤ length other
    by_size (inr l) = l
    by_size (inl l) =
        let top = writes_below r n other others in
        let power : r ^ length other ≤ r ^ length cs = pow-le-pow_right (omega arith) (omega arith) in
        let high = no_zero_high r n c cs writes.digits writes.bytes writes.worth (λ e. first (ap Some e)) in
        absurd (omega arith)

pub shortest_if : (r n : ℕ) (text : List ℕ) → 2 ≤ r → Writes r n text → (length text ≡ 1) ⊎ (slice_get text 0 ≢ Some 48) → WritesShortest r n text
shortest_if r n text low writes first = record { writes = writes; shortest = λ other others. shortest_than r n text other low writes others first }

-- ---- what std prints of a number in radix 10 is its numeral

char_digit : (c : ℕ) → char_value c < 10 → digit 10 c ≡ Some (char_value c)
char_digit c low = grind (arith, nat_tests)

printed_digits : (cs : List ℕ) → AllDigits 10 cs → HaveDigits 10 cs (map char_value cs)
printed_digits [] all = refl
printed_digits (c ∷ cs) all =
    let here = char_digit c all.0 in
    let rest = printed_digits cs all.1 in
    cc

decimal_is : (n : ℕ) → n < 10 ^ 64 → WritesShortest 10 n (decimal n)
decimal_is n small =
    let told = decimal_is_IsNumeral_wide n small in
    let some = told.0.0 in
    record {
      writes = record {
        digits = map char_value (decimal n);
        bytes = printed_digits (decimal n) told.0.1;
        some = some;
        worth = sym (number_is 10 (map char_value (decimal n))) ∙ sym (digits_value_is 10 (decimal n)) ∙ told.1;
      };
      shortest = λ other writes. length-decimal-le_wide (length other) n writes.some (writes_below 10 n other writes) small;
    }

limit_small : (t : IntegerType) → t.bits ≤ 128 → number_limit t ≤ 2 ^ 128
limit_small t low = pow-le-pow_right (omega arith) (by_sign t.is_signed)
  where
    by_sign : (b : Bool) → cond b (t.bits - 1) t.bits ≤ 128
    by_sign true = omega arith
    by_sign false = low

pub printed_is : (t : IntegerType) (v : ℤ) → t.bits ≤ 128 → IsNumber t v → IsNumeralOf 10 v (signed_decimal v)
printed_is t (pos n) low fits =
    let limit = limit_small t low in
    let value_if_below = ltb-true n (number_limit t) fits in
    decimal_is n (omega arith)
printed_is t (negsuc n) low fits =
    let limit = limit_small t low in
    let both = and_parts t.is_signed (nat_lt n (number_limit t)) fits in
    let value_if_below = ltb-true n (number_limit t) both.1 in
    (decimal (suc n), refl, decimal_is (suc n) (omega arith))
