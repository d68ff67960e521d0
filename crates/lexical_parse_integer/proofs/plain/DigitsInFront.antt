-- Digits alone at the front of a text, behind an optional minus, under formats without punctuation.
use Rattle.std.proofs.Common.{slice_get, ◌≡◌, ℕ, zero, suc, ◌+◌, ◌-◌, ◌<◌, ◌≤◌, Bool, true, false, ◌&&◌, not, List, [], ◌∷◌, length, get_or, map, take, drop, refl, sym, ap, ◌∙◌, subst, arith, Option, Some, None, Ok, Err, Result, ◌*◌, ◌^◌}
use Rattle.std.specs.Prelude.{◌==◌, nat_le, is_some, slice_index, ℤ, neg_ℤ, if◌then◌else◌, IsNone, slice_range}
use Rattle.std.specs.Option.{option_and_then, unwrap_or}
use Rattle.std.proofs.Math.Bool.{and-false, and-true}
use Rattle.std.proofs.lemmas.Bool.{le-leb, le-ltb, lt-ltb, ne_eqb}
use Rattle.std.proofs.Math.Seq.{take-length}
use Rattle.std.proofs.lemmas.List.{length-take-le, get_or-drop, length-drop}
use Rattle.std.proofs.lemmas.List.FromFn.{length-map-range_with_len}
use mir.Val.{bool_byte}
use Rattle.lexical_util.specs.declared.error.Error.{Error}
use Rattle.lexical_util.specs.declared.error.Error.TheVariants.{InvalidDigit, InvalidLeadingZeros}
use Rattle.lexical_util.specs.Digit.{digit}
use Rattle.lexical_util.specs.Format.{Format}
use Rattle.lexical_util.specs.Number.{IntegerType, IsNumber, is_number}
use Rattle.lexical_util.specs.Validity.{fault}
use Rattle.lexical_parse_integer.specs.Grammar.{complete, fault_if, if_valid, partial, partial_if_valid, range_fault, zero_fault}
use Rattle.lexical_parse_integer.specs.Head.{Head, sign}
use Rattle.lexical_parse_integer.specs.Numeral.{Numeral, digit_count, numeral_value}
use Rattle.lexical_parse_integer.specs.Plain.{BeginsWith, IsBehind, IsPlain, keeps_zero_rule}
use Rattle.lexical_digits.specs.WrittenNumbers.{StandsFor, WritesDecimal, WritesFirst}
use Rattle.lexical_parse_integer.specs.Runs.{digit_at}
use Rattle.lexical_digits.specs.Value.{positional_value, with_sign}
use Rattle.lexical_parse_integer.proofs.theorems.DigitTexts.{head_is, stop_plain, take_row}
use Rattle.lexical_parse_integer.proofs.grammar.FrontValues.{fitting_fault}
use Rattle.lexical_parse_integer.proofs.grammar.DigitsInARow.{EndsRow, has_digit, row, row_numeral}
use Rattle.lexical_digits.proofs.DigitValues.{HaveDigits, digits_size}
use Rattle.lexical_parse_integer.proofs.theorems.ReadBack.{digit_there, first_digit, row_is}
use Rattle.lexical_parse_integer.proofs.grammar.Stretches.{HoldsBetween}
use Rattle.lexical_parse_integer.proofs.plain.DigitsAlone.{sign_of_digit_under, sign_of_minus_under}
use Rattle.lexical_parse_integer.proofs.plain.DigitsByTable.{rule_in}
use Rattle.lexical_digits.proofs.LongNumbers.{stands}
use Rattle.lexical_parse_integer.proofs.theorems.CompleteByPartial.{complete_is_completion, sign_within}
use Rattle.lexical_parse_integer.specs.Laws.{completion_of}
use Rattle.lexical_parse_integer.proofs.theorems.SettledAnswers.{partial_by, partial_row}
use Rattle.lexical_parse_integer.proofs.grammar.RangeOfFronts.{shorter_fronts_fit}
use Rattle.lexical_digits.proofs.WordsInFront.{joined, reaches, rest_is}

-- `n` digits stand behind the sign, and none behind these
pub front_read_under : (f : Format) (t : IntegerType) (text : List ℕ) (s : Bool × ℕ) (n : ℕ) → IsPlain f → 1 ≤ f.mantissa_radix → sign f t text ≡ Ok s → 0 < n → s.1 + n ≤ length text →
    HoldsBetween (has_digit f.mantissa_radix text) s.1 (s.1 + n) → (s.1 + n < length text → has_digit f.mantissa_radix text (s.1 + n) ≡ false) →
    zero_fault f false (row_numeral f text s.1 f.mantissa_radix n) ≡ None →
    is_number t (with_sign s.0 (positional_value f.mantissa_radix (row f.mantissa_radix text s.1 n))) ≡ true →
    partial f t text ≡ Ok (with_sign s.0 (positional_value f.mantissa_radix (row f.mantissa_radix text s.1 n)), s.1 + n)
front_read_under f t text s n plain positive sign_is some within all stops no_zeros fits =
    let r : ℕ = f.mantissa_radix in
    let h : Head = record { is_negative = s.0; is_prefixed = false; is_octal = false; start = s.1; radix = r } in
    let x : Numeral = row_numeral f text s.1 r n in
    let ends : EndsRow r text s.1 (s.1 + n) = record { low = omega arith; high = within; holds = all; fails = stops } in
    let count : digit_count x ≡ n = length-map-range_with_len (λ place. unwrap_or (digit_at r text place) 0) s.1 n in
    let value : numeral_value s.0 x ≡ with_sign s.0 (positional_value r (row r text s.1 n)) = ap (λ (ds : List ℕ). with_sign s.0 (positional_value r ds)) (take_row r text s.1 n) in
    let fit = shorter_fronts_fit t s.0 x (digit_count x) positive (ap (is_number t) value ∙ fits) in
    let no_range : range_fault t s.0 x ≡ None = fitting_fault t s.0 x fit in
    let stop : x.stop ≡ s.1 + n = stop_plain f text s.1 r n plain.no_suffix in
    let digits_there : (digit_count x == 0) ≡ false = ne_eqb (digit_count x) 0 (λ e. omega arith) in
    let zeros : zero_fault f false x ≡ None = no_zeros in
    let answer : partial_by f t text h x ≡ Ok (numeral_value s.0 x, x.stop) = rw (zeros, no_range, digits_there, and-false) refl in
    partial_row f t text h n plain.no_separator (head_is f t text s plain.no_prefix plain.no_literals plain.no_octal_zeros sign_is) (omega arith) ends ∙ answer
    ∙ ap (λ (z : ℤ). Ok (z, x.stop)) value ∙ ap (λ (k : ℕ). Ok (with_sign s.0 (positional_value r (row r text s.1 n)), k)) stop

-- ---- the places of digits that stand behind the sign

slice_get-take : (n k : ℕ) (bytes : List ℕ) → k < n → slice_get (take n bytes) k ≡ slice_get bytes k
slice_get-take zero k bytes low = absurd (omega arith)
slice_get-take (suc n) k [] low = refl
slice_get-take (suc n) zero (b ∷ bs) low = refl
slice_get-take (suc n) (suc k) (b ∷ bs) low = slice_get-take n k bs (omega arith)

slice_get_there : (bytes : List ℕ) (k : ℕ) → k < length bytes → slice_get bytes k ≡ Some (get_or bytes k 0)
slice_get_there [] k low = absurd (omega arith)
slice_get_there (b ∷ bs) zero low = refl
slice_get_there (b ∷ bs) (suc k) low = slice_get_there bs k (omega arith)

-- the digits stand from a place on
abbrev pub StandsFrom : ℕ → List ℕ → List ℕ → Type 0
StandsFrom start text digits = (k : ℕ) → slice_get text (start + k) ≡ slice_get digits k

pub at_front : (r : ℕ) (text digits ds : List ℕ) (start n k : ℕ) → StandsFrom start text digits → HaveDigits r (take n digits) ds → k < length ds → k < n → digit_at r text (start + k) ≡ Some (get_or ds k 0)
unfolding digit_at
at_front r text digits ds start n k on all l low = ap (option_and_then (λ byte. digit r byte)) (on k ∙ sym (slice_get-take n k digits low)) ∙ digit_there r (take n digits) ds k all l

pub at_stop : (r : ℕ) (text digits : List ℕ) (start n : ℕ) → StandsFrom start text digits → n < length digits → is_some (digit r (get_or digits n 0)) ≡ false → has_digit r text (start + n) ≡ false
unfolding digit_at
at_stop r text digits start n on low none = ap (λ (o : Option ℕ). is_some (option_and_then (λ byte. digit r byte) o)) (on n ∙ slice_get_there digits n low) ∙ none

pub front_between : (r : ℕ) (text digits ds : List ℕ) (start n : ℕ) → StandsFrom start text digits → HaveDigits r (take n digits) ds → length ds ≡ n → HoldsBetween (has_digit r text) start (start + n)
front_between r text digits ds start n on all size j low high =
    let place : start + (j - start) ≡ j = omega arith in
    subst (λ (p : ℕ). has_digit r text p ≡ true) place (ap is_some (at_front r text digits ds start n (j - start) on all (omega arith) (omega arith)))

-- digits behind a sign at the front, by their values
pub values_in_front : (f : Format) (t : IntegerType) (text digits ds : List ℕ) (s : Bool × ℕ) (n : ℕ) → IsPlain f → 1 ≤ f.mantissa_radix → sign f t text ≡ Ok s → StandsFrom s.1 text digits → length text ≡ s.1 + length digits →
    HaveDigits f.mantissa_radix (take n digits) ds → 0 < n → n ≤ length digits → (n < length digits → is_some (digit f.mantissa_radix (get_or digits n 0)) ≡ false) →
    ((f.no_integer_leading_zeros && nat_le 2 (length ds)) && (slice_index ds 0 == 0)) ≡ false →
    is_number t (with_sign s.0 (positional_value f.mantissa_radix ds)) ≡ true → partial f t text ≡ Ok (with_sign s.0 (positional_value f.mantissa_radix ds), s.1 + n)
values_in_front f t text digits ds s n plain positive sign_is on size all some within stops rule fits =
    let r : ℕ = f.mantissa_radix in
    let taken : length (take n digits) ≡ n = length-take-le n digits within in
    let count : length ds ≡ n = let e = digits_size r (take n digits) ds all in omega arith in
    let same : row r text s.1 n ≡ ds = ap (row r text s.1) (sym count) ∙ row_is r text ds s.1 (λ k l. at_front r text digits ds s.1 n k on all l (omega arith)) in
    let no_zeros : zero_fault f false (row_numeral f text s.1 r n) ≡ None = zeros_told f (row r text s.1 n) ds _ same rule in
    front_read_under f t text s n plain positive sign_is some (omega arith) (front_between r text digits ds s.1 n on all count) (λ l. at_stop r text digits s.1 n on (omega arith) (stops (omega arith))) no_zeros
    (ap (λ (es : List ℕ). is_number t (with_sign s.0 (positional_value r es))) same ∙ fits)
    ∙ ap (λ (es : List ℕ). Ok (with_sign s.0 (positional_value r es), s.1 + n)) same
  where
    zeros_told : (f : Format) (es ds : List ℕ) (place : ℕ) → es ≡ ds → ((f.no_integer_leading_zeros && nat_le 2 (length ds)) && (slice_index ds 0 == 0)) ≡ false →
        fault_if (((f.no_integer_leading_zeros && not false) && nat_le 2 (length es)) && (slice_index es 0 == 0)) (InvalidLeadingZeros place) ≡ None
    zeros_told f es ds place same rule =
        let told : (((f.no_integer_leading_zeros && not false) && nat_le 2 (length es)) && (slice_index es 0 == 0)) ≡ false = rw (same, and-true f.no_integer_leading_zeros) rule in
        ap (λ (b : Bool). fault_if b (InvalidLeadingZeros place)) told

-- digits at the front, behind a minus where the number is negative
pub front_digits_read : (f : Format) (t : IntegerType) (b : Bool) (text digits ds : List ℕ) (n : ℕ) → IsPlain f → 1 ≤ f.mantissa_radix → IsBehind b t text digits → HaveDigits f.mantissa_radix (take n digits) ds → 0 < n → n ≤ length digits →
    (n < length digits → is_some (digit f.mantissa_radix (get_or digits n 0)) ≡ false) → ((f.no_integer_leading_zeros && nat_le 2 (length ds)) && (slice_index ds 0 == 0)) ≡ false →
    is_number t (with_sign b (positional_value f.mantissa_radix ds)) ≡ true → partial f t text ≡ Ok (with_sign b (positional_value f.mantissa_radix ds), bool_byte b + n)
front_digits_read f t b text [] ds n plain positive behind all some within stops rule fits = absurd (omega arith)
front_digits_read f t b text (c ∷ cs) ds zero plain positive behind all some within stops rule fits = absurd (omega arith)
front_digits_read f t false text (c ∷ cs) ds (suc n) plain positive behind all some within stops rule fits =
    let first = first_digit f.mantissa_radix c (take n cs) ds all in
    let same : text ≡ c ∷ cs = behind in
    rw same (values_in_front f t (c ∷ cs) (c ∷ cs) ds (false, 0) (suc n) plain positive (sign_of_digit_under f t f.mantissa_radix c first.0 cs plain.no_sign first.1) (λ k. ap (slice_get (c ∷ cs)) (omega arith)) (omega arith) all some within stops rule fits)
front_digits_read f t true text (c ∷ cs) ds (suc n) plain positive behind all some within stops rule fits =
    let same : text ≡ 45 ∷ (c ∷ cs) = behind.0 in
    rw same (values_in_front f t (45 ∷ (c ∷ cs)) (c ∷ cs) ds (true, 1) (suc n) plain positive (sign_of_minus_under f t (c ∷ cs) behind.1) (λ k. ap (slice_get (45 ∷ (c ∷ cs))) (let e : 1 + k ≡ suc k = omega arith in e)) (omega arith) all some within stops rule fits)

-- ---- what the parts of the code say

-- decimal digits at the front of what stands behind the minus, whose place counts it
pub begins_read : (f : Format) (t : IntegerType) (is_negative : Bool) (text digits : List ℕ) (value : ℤ) (count start : ℕ) → IsPlain f → f.mantissa_radix ≡ 10 → IsBehind is_negative t text digits → start ≡ bool_byte is_negative → BeginsWith f t is_negative digits value count →
    partial f t text ≡ Ok (value, start + count)
begins_read f t is_negative text digits value count start plain ten behind at b =
    let w = b.stands.writes in
    let bytes : List ℕ = take count digits in
    let all : HaveDigits 10 bytes w.values = ap (map (λ byte. digit 10 byte)) (sym (take-length bytes)) ∙ w.digits in
    let here : HaveDigits f.mantissa_radix bytes w.values = subst (λ (n : ℕ). HaveDigits n bytes w.values) (sym ten) all in
    let value_is : with_sign is_negative (positional_value f.mantissa_radix w.values) ≡ value = ap (λ (n : ℕ). with_sign is_negative (positional_value n w.values)) ten ∙ ap (λ (z : ℤ). if is_negative then neg_ℤ z else z) (sym w.worth) ∙ sym b.stands.worth in
    let stops : (count < length digits → is_some (digit f.mantissa_radix (get_or digits count 0)) ≡ false) = λ l. ap (λ (n : ℕ). is_some (digit n (get_or digits count 0))) ten ∙ b.stops l in
    front_digits_read f t is_negative text digits w.values count plain (omega arith) behind here b.some b.within stops (rule_in f 10 bytes w.values all b.rule) (ap (is_number t) value_is ∙ b.stands.fits)
    ∙ ap (λ (z : ℤ). Ok (z, bool_byte is_negative + count)) value_is ∙ ap (λ (k : ℕ). Ok (value, k + count)) (sym at)

-- what stands from a place on
pub from_place : (start : ℕ) (text : List ℕ) → StandsFrom start text (drop start text)
from_place zero text k = let e : 0 + k ≡ k = omega arith in ap (slice_get text) e
from_place (suc n) [] k = refl
from_place (suc n) (b ∷ bs) k = let e : suc n + k ≡ suc (n + k) = omega arith in ap (slice_get (b ∷ bs)) e ∙ from_place n bs k

-- digits at the front are read behind any sign
pub signed_read : (f : Format) (t : IntegerType) (text : List ℕ) (s : Bool × ℕ) (value : ℤ) (count : ℕ) → IsPlain f → f.mantissa_radix ≡ 10 → sign f t text ≡ Ok s → BeginsWith f t s.0 (slice_range text s.1 (length text)) value count → partial f t text ≡ Ok (value, s.1 + count)
signed_read f t text s value count plain ten sign_is begins =
    let within = sign_within f t text s sign_is in
    let size = length-drop s.1 text in
    let digits : List ℕ = drop s.1 text in
    let b : BeginsWith f t s.0 digits value count = subst (λ (ds : List ℕ). BeginsWith f t s.0 ds value count) (rest_is text s.1) begins in
    let w = b.stands.writes in
    let bytes : List ℕ = take count digits in
    let all : HaveDigits 10 bytes w.values = ap (map (λ byte. digit 10 byte)) (sym (take-length bytes)) ∙ w.digits in
    let here : HaveDigits f.mantissa_radix bytes w.values = subst (λ (n : ℕ). HaveDigits n bytes w.values) (sym ten) all in
    let value_is : with_sign s.0 (positional_value f.mantissa_radix w.values) ≡ value = ap (λ (n : ℕ). with_sign s.0 (positional_value n w.values)) ten ∙ ap (λ (z : ℤ). if s.0 then neg_ℤ z else z) (sym w.worth) ∙ sym b.stands.worth in
    let stops : (count < length digits → is_some (digit f.mantissa_radix (get_or digits count 0)) ≡ false) = λ l. ap (λ (n : ℕ). is_some (digit n (get_or digits count 0))) ten ∙ b.stops l in
    values_in_front f t text digits w.values s count plain (omega arith) sign_is (from_place s.1 text) (omega arith) here b.some b.within stops (rule_in f 10 bytes w.values all b.rule) (ap (is_number t) value_is ∙ b.stands.fits)
    ∙ ap (λ (z : ℤ). Ok (z, s.1 + count)) value_is

-- a byte after the front's digits is an invalid digit
pub byte_after : (f : Format) (t : IntegerType) (text : List ℕ) (value : ℤ) (place : ℕ) → partial f t text ≡ Ok (value, place) → place < length text → complete f t text ≡ Err (InvalidDigit place)
byte_after f t text value place is more =
    let test = lt-ltb place (length text) more in
    complete_is_completion f t text ∙ ap (completion_of (length text)) is ∙ (rw test refl)

-- a front without a byte after it is the text
pub none_after : (f : Format) (t : IntegerType) (text : List ℕ) (value : ℤ) (place : ℕ) → partial f t text ≡ Ok (value, place) → length text ≤ place → complete f t text ≡ Ok value
none_after f t text value place is all =
    let test = le-ltb place (length text) all in
    complete_is_completion f t text ∙ ap (completion_of (length text)) is ∙ (rw test refl)

sign_of_plus : (f : Format) (t : IntegerType) (cs : List ℕ) → f.no_positive_mantissa_sign ≡ false → sign f t (43 ∷ cs) ≡ Ok (false, 1)
unfolding sign
sign_of_plus f t cs allowed = rw allowed refl

-- digits behind a plus that stand for a number are read as that
pub plus_read : (f : Format) (t : IntegerType) (text : List ℕ) (value : ℤ) → IsPlain f → f.mantissa_radix ≡ 10 → f.no_positive_mantissa_sign ≡ false → 1 < length text → get_or text 0 0 ≡ 43 →
    keeps_zero_rule f (slice_range text 1 (length text)) ≡ true → StandsFor t 10 false (slice_range text 1 (length text)) value → complete f t text ≡ Ok value
plus_read f t [] value plain ten allowed some is_plus rule s = absurd (omega arith)
plus_read f t (b ∷ cs) value plain ten allowed some is_plus rule s =
    let digits : List ℕ = slice_range (b ∷ cs) 1 (length (b ∷ cs)) in
    let size : length digits ≡ length cs = ap length (rest_is (b ∷ cs) 1) in
    let all : take (length cs) digits ≡ digits = ap (λ (n : ℕ). take n digits) (sym size) ∙ take-length digits in
    let begins : BeginsWith f t false digits value (length cs) = record {
      some = omega arith;
      within = omega arith;
      stops = λ l. absurd (omega (arith, l, size));
      rule = ap (keeps_zero_rule f) all ∙ rule;
      stands = subst (λ (bytes : List ℕ). StandsFor t 10 false bytes value) (sym all) s;
    } in
    let sign_is : sign f t (b ∷ cs) ≡ Ok (false, 1) = ap (λ (c : ℕ). sign f t (c ∷ cs)) is_plus ∙ sign_of_plus f t cs allowed in
    none_after f t (b ∷ cs) value (1 + length cs) (signed_read f t (b ∷ cs) (false, 1) value (length cs) plain ten sign_is begins) (omega arith)

-- more digits keep the zero rule where the first ones do
pub longer_rule : (f : Format) (k m : ℕ) (digits : List ℕ) → 2 ≤ k → k ≤ m → m ≤ length digits → keeps_zero_rule f (take k digits) ≡ true → keeps_zero_rule f (take m digits) ≡ true
longer_rule f k m [] two more within rule = absurd (omega arith)
longer_rule f zero m (b ∷ bs) two more within rule = absurd (omega arith)
longer_rule f (suc k) zero (b ∷ bs) two more within rule = absurd (omega arith)
longer_rule f (suc k) (suc m) (b ∷ bs) two more within rule =
    let few = length-take-le k bs (omega arith) in
    let many = length-take-le m bs (omega arith) in
    let before : nat_le 2 (length (b ∷ take k bs)) ≡ true = le-leb 2 (length (b ∷ take k bs)) (omega arith) in
    let behind : nat_le 2 (length (b ∷ take m bs)) ≡ true = le-leb 2 (length (b ∷ take m bs)) (omega arith) in
    rw behind (rw before at rule)

-- the answer where the format is valid
pub front_answered_if_valid : (f : Format) (t : IntegerType) (text : List ℕ) (found : ℤ × ℕ) → IsNone (fault f) → partial f t text ≡ Ok found → Ok found ≡ partial_if_valid f t text
front_answered_if_valid f t text found valid is = sym (by_fault (fault f) (partial f t text) valid ∙ is)
  where
    by_fault : (o : Option Error) (answer : Result (ℤ × ℕ) Error) → IsNone o → if_valid o answer ≡ answer
    by_fault None answer none = refl
    by_fault (Some e) answer none = cc

-- a front of such digits
pub joined_begin : (f : Format) (t : IntegerType) (is_negative : Bool) (digits : List ℕ) (value : ℤ) (j count a b : ℕ) → 8 ≤ j → j ≤ length digits → WritesDecimal 0 (take j digits) a → WritesFirst (slice_range digits j (length digits)) b count → count < 8 →
    keeps_zero_rule f (take 8 digits) ≡ true → value ≡ with_sign is_negative (a * 10 ^ count + b) → IsNumber t value → BeginsWith f t is_negative digits value (j + count)
joined_begin f t is_negative digits value j count a b some within w v few rule worth fits =
    let size : length (slice_range digits j (length digits)) ≡ length digits - j = ap length (rest_is digits j) ∙ length-drop j digits in
    let all = reaches digits j b count v within in
    record {
      some = omega arith;
      within = all;
      stops = λ less.
          let byte : get_or (slice_range digits j (length digits)) count 0 ≡ get_or digits (j + count) 0 = ap (λ (bs : List ℕ). get_or bs count 0) (rest_is digits j) ∙ get_or-drop j digits count 0 in
          subst (λ n. IsNone (digit 10 n)) byte (v.stops few (omega arith));
      rule = longer_rule f 8 (j + count) digits (omega arith) (omega arith) all rule;
      stands = stands t is_negative (take (j + count) digits) (a * 10 ^ count + b) value (joined j count a b digits w v) worth fits;
    }

-- a front of the first word alone
pub first_begin : (f : Format) (t : IntegerType) (is_negative : Bool) (digits : List ℕ) (value : ℤ) (count a : ℕ) → 1 ≤ count → WritesFirst digits a count → count < 8 → keeps_zero_rule f (take count digits) ≡ true → value ≡ with_sign is_negative a → IsNumber t value →
    BeginsWith f t is_negative digits value count
first_begin f t is_negative digits value count a some w few rule worth fits = record {
  some = some;
  within = w.within;
  stops = w.stops few;
  rule = rule;
  stands = stands t is_negative (take count digits) a value w.writes worth fits;
}
