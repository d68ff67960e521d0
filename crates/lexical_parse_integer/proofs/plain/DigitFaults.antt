-- Digits at the front of a text, and the byte behind them: for the answers of `algorithm::plain::faults`.
use Rattle.std.proofs.Common.{◌≡◌, ◌≢◌, ℕ, zero, suc, ◌+◌, ◌-◌, ◌^◌, ◌<◌, ◌≤◌, ◌&&◌, not, Bool, true, false, List, [], ◌∷◌, length, get_or, take, refl, sym, ap, ◌∙◌, subst, arith, Ok, Err, inl, inr, pos}
use Rattle.std.specs.Prelude.{◌==◌, slice_index, slice_range, ℤ, IsNone, is_some, nat_le, nat_lt}
use Rattle.std.proofs.Math.Bool.{and-false}
use Rattle.std.proofs.lemmas.Bool.{cases_lt, false≢true, le-ltb, lt-ltb, ne_eqb}
use Rattle.std.proofs.lemmas.Bool.Decides.{nat_tests}
use Rattle.std.proofs.lemmas.List.{get_or-drop, length-drop, length-take-le}
use Rattle.lexical_util.specs.declared.error.Error.TheVariants.{Empty, InvalidDigit}
use Rattle.lexical_util.specs.Digit.{digit}
use Rattle.lexical_util.specs.Format.{Format}
use Rattle.lexical_util.specs.Number.{HasRoom, IntegerType, IsNumber}
use Rattle.lexical_digits.specs.Value.{with_sign}
use Rattle.lexical_digits.specs.Words.{AreDigits, word_value}
use Rattle.lexical_digits.specs.WrittenNumbers.{StandsFor, WritesFirst}
use Rattle.lexical_digits.proofs.LongNumbers.{stands}
use Rattle.lexical_digits.proofs.RadixFronts.{few_fit}
use Rattle.lexical_digits.proofs.ShiftedWords.{writes_text}
use Rattle.lexical_digits.proofs.WordsInFront.{joined, rest_is}
use Rattle.lexical_digits.proofs.WordsOfDigits.{digits_below, raised_none}
use Rattle.lexical_parse_integer.specs.Grammar.{complete, digits_required, range_fault}
use Rattle.lexical_parse_integer.specs.Head.{sign}
use Rattle.lexical_parse_integer.specs.Plain.{BeginsWith, IsPlain, keeps_zero_rule}
use Rattle.lexical_parse_integer.proofs.punctuated.PunctuatedAnswers.{signed_minus}
use Rattle.lexical_parse_integer.proofs.grammar.DigitsInARow.{EndsRow, has_digit, row_numeral}
use Rattle.lexical_parse_integer.proofs.grammar.NumeralEnd.{digit_at_past}
use Rattle.lexical_parse_integer.proofs.plain.DigitsInFront.{StandsFrom, at_stop, byte_after, from_place, none_after, signed_read}
use Rattle.lexical_parse_integer.proofs.theorems.DigitTexts.{complete_by, complete_row, head_is}
use Rattle.lexical_parse_integer.proofs.theorems.CompleteByPartial.{sign_within}

-- ---- how many digits stand in front

pub first_digits : (text : List ℕ) (n count : ℕ) → WritesFirst text n count → AreDigits 10 (take count text)
first_digits text n count w = subst (λ (bs : List ℕ). AreDigits 10 bs) (raised_none (take count text)) w.writes.digits

pub more_digits : (text : List ℕ) (j n count : ℕ) → AreDigits 10 (take j text) → WritesFirst (slice_range text j (length text)) n count → AreDigits 10 (take (j + count) text)
more_digits text j n count all w =
    let both = joined j count (word_value 10 (take j text)) n text (writes_text (take j text) (word_value 10 (take j text)) all refl) w in
    subst (λ (bs : List ℕ). AreDigits 10 bs) (raised_none (take (j + count) text)) both.digits

pub none_behind : (text : List ℕ) (j n count : ℕ) → j ≤ length text → WritesFirst (slice_range text j (length text)) n count → count < 8 → j + count < length text → IsNone (digit 10 (get_or text (j + count) 0))
none_behind text j n count within w few more =
    let size : length (slice_range text j (length text)) ≡ length text - j = ap length (rest_is text j) ∙ length-drop j text in
    let byte : get_or (slice_range text j (length text)) count 0 ≡ get_or text (j + count) 0 = ap (λ (bs : List ℕ). get_or bs count 0) (rest_is text j) ∙ get_or-drop j text count 0 in
    subst (λ k. IsNone (digit 10 k)) byte (w.stops few (omega arith))

-- digits keep the zero rule where a format that has it sees no zero in front of them
pub nonzero_from : (f : Format) (text : List ℕ) (start : ℕ) → (f.no_integer_leading_zeros ≡ true → slice_index text start ≢ 48) → keeps_zero_rule f (slice_range text start (length text)) ≡ true
nonzero_from f text start other =
    let place : start + 0 ≡ start = omega arith in
    let first : slice_index (slice_range text start (length text)) 0 ≡ slice_index text start = ap (λ (bs : List ℕ). get_or bs 0 0) (rest_is text start) ∙ get_or-drop start text 0 0 ∙ ap (λ (k : ℕ). get_or text k 0) place in
    by_flag f.no_integer_leading_zeros _ (slice_index (slice_range text start (length text)) 0 == 48)
    (λ asked. ne_eqb (slice_index (slice_range text start (length text)) 0) 48 (subst (λ (k : ℕ). k ≢ 48) (sym first) (other asked)))
  where
    by_flag : (flag more zero_first : Bool) → (flag ≡ true → zero_first ≡ false) → not ((flag && more) && zero_first) ≡ true
    by_flag false more zero_first other = refl
    by_flag true more zero_first other = rw (other refl, and-false more) refl

-- fewer digits keep the zero rule too
pub fewer_keep : (f : Format) (k : ℕ) (digits : List ℕ) → 1 ≤ k → k ≤ length digits → keeps_zero_rule f digits ≡ true → keeps_zero_rule f (take k digits) ≡ true
fewer_keep f zero digits some within rule = absurd (omega arith)
fewer_keep f (suc k) [] some within rule = rule
fewer_keep f (suc k) (b ∷ bs) some within rule =
    let few = length-take-le k bs (omega arith) in
    by_size f.no_integer_leading_zeros (nat_le 2 (length (b ∷ bs))) (nat_le 2 (length (b ∷ take k bs))) (b == 48) (λ e. grind (arith, nat_tests)) rule
  where
    by_size : (a m n z : Bool) → (n ≡ true → m ≡ true) → not ((a && m) && z) ≡ true → not ((a && n) && z) ≡ true
    by_size false m n z up e = refl
    by_size true m false z up e = refl
    by_size true true true z up e = e
    by_size true false true z up e = absurd (false≢true (up refl))

-- ---- the byte behind them

module _ (f : Format) (t : IntegerType) (text : List ℕ) (s : Bool × ℕ) (count : ℕ) (plain : IsPlain f) (ten : f.mantissa_radix ≡ 10) (sign_is : sign f t text ≡ Ok s) where
  abbrev digits : List ℕ
  digits = slice_range text s.1 (length text)

  -- behind digits that stand for a number of the type a byte that is none is the fault
  pub byte_behind : (value : ℤ) → 1 ≤ count → count < length digits → IsNone (digit 10 (get_or digits count 0)) → keeps_zero_rule f (take count digits) ≡ true → StandsFor t 10 s.0 (take count digits) value → complete f t text ≡ Err (InvalidDigit (s.1 + count))
  byte_behind value some more none rule for_value =
      let within = sign_within f t text s sign_is in
      let size : length digits ≡ length text - s.1 = ap length (rest_is text s.1) ∙ length-drop s.1 text in
      let begins : BeginsWith f t s.0 digits value count = record { some = some; within = omega arith; stops = λ l. none; rule = rule; stands = for_value } in
      byte_after f t text value (s.1 + count) (signed_read f t text s value count plain ten sign_is begins) (omega arith)

  -- digits that are all of the text stand for its value
  pub all_digits : (value : ℤ) → 1 ≤ count → count ≡ length digits → keeps_zero_rule f (take count digits) ≡ true → StandsFor t 10 s.0 (take count digits) value → complete f t text ≡ Ok value
  all_digits value some all rule for_value =
      let within = sign_within f t text s sign_is in
      let size : length digits ≡ length text - s.1 = ap length (rest_is text s.1) ∙ length-drop s.1 text in
      let begins : BeginsWith f t s.0 digits value count = record { some = some; within = omega arith; stops = λ l. absurd (omega arith); rule = rule; stands = for_value } in
      none_after f t text value (s.1 + count) (signed_read f t text s value count plain ten sign_is begins) (omega arith)

  -- so few digits stand for a number of the type
  pub byte_behind_few : (most : ℕ) → HasRoom t 10 most → count ≤ most → 1 ≤ count → count < length digits → IsNone (digit 10 (get_or digits count 0)) → keeps_zero_rule f (take count digits) ≡ true → AreDigits 10 (take count digits) →
      complete f t text ≡ Err (InvalidDigit (s.1 + count))
  byte_behind_few most room few some more none rule all =
      let n : ℕ = word_value 10 (take count digits) in
      let taken : length (take count digits) ≡ count = length-take-le count digits (omega arith) in
      let low : n < 10 ^ count = subst (λ (k : ℕ). n < 10 ^ k) taken (digits_below (take count digits) n all refl) in
      let fits : IsNumber t (with_sign s.0 n) = few_fit t s.0 10 most n count room (signed_minus f t text s sign_is) (omega arith) few low in
      byte_behind (with_sign s.0 n) some more none rule (stands t s.0 (take count digits) n (with_sign s.0 n) (writes_text (take count digits) n all refl) refl fits)

  -- ---- no digit behind the sign

  -- reading stops there
  stops_there : has_digit 10 text s.1 ≡ false → complete f t text ≡ complete_by f t text (record { is_negative = s.0; is_prefixed = false; is_octal = false; start = s.1; radix = f.mantissa_radix }) (row_numeral f text s.1 f.mantissa_radix 0)
  stops_there none =
      let low = sign_within f t text s sign_is in
      let place : s.1 ≡ s.1 + 0 = omega arith in
      let other : has_digit f.mantissa_radix text s.1 ≡ false = ap (λ r. has_digit r text s.1) ten ∙ none in
      let ends : EndsRow f.mantissa_radix text s.1 (s.1 + 0) = record { low = omega arith; high = omega arith; holds = λ k from to. absurd (omega arith); fails = λ l. ap (has_digit f.mantissa_radix text) (sym place) ∙ other } in
      complete_row f t text (record { is_negative = s.0; is_prefixed = false; is_octal = false; start = s.1; radix = f.mantissa_radix }) 0 plain.no_separator (head_is f t text s plain.no_prefix plain.no_literals plain.no_octal_zeros sign_is) low ends

  pub no_digit : has_digit 10 text s.1 ≡ false → s.1 < length text → complete f t text ≡ Err (InvalidDigit s.1)
  unfolding range_fault
  no_digit none more =
      let place : s.1 + 0 ≡ s.1 = omega arith in
      let over : nat_lt (s.1 + 0) (length text) ≡ true = lt-ltb (s.1 + 0) (length text) (omega arith) in
      stops_there none ∙ rw (over, place, and-false) refl

  pub no_byte : digits_required f ≡ true → length text ≤ s.1 → complete f t text ≡ Err (Empty s.1)
  unfolding range_fault
  no_byte required end =
      let low = sign_within f t text s sign_is in
      let none : has_digit 10 text s.1 ≡ false = ap is_some (digit_at_past 10 text s.1 end) in
      let over : nat_lt (s.1 + 0) (length text) ≡ false = le-ltb (s.1 + 0) (length text) (omega arith) in
      let place : length text ≡ s.1 = omega arith in
      stops_there none ∙ rw (over, required, and-false) (ap (λ k. Err (Empty k)) place)

  -- where no digit is asked for, none is worth 0
  pub no_digits_asked : digits_required f ≡ false → length text ≤ s.1 → complete f t text ≡ Ok (pos 0)
  unfolding range_fault
  no_digits_asked asked end =
      let low = sign_within f t text s sign_is in
      let none : has_digit 10 text s.1 ≡ false = ap is_some (digit_at_past 10 text s.1 end) in
      let over : nat_lt (s.1 + 0) (length text) ≡ false = le-ltb (s.1 + 0) (length text) (omega arith) in
      stops_there none ∙ rw (over, asked, and-false) (ap (λ (z : ℤ). Ok z) (by_sign s.0))
    where
      by_sign : (b : Bool) → with_sign b 0 ≡ pos 0
      by_sign true = refl
      by_sign false = refl

  pub within_text : has_digit 10 text s.1 ≡ true → s.1 < length text
  within_text there = elim (cases_lt s.1 (length text)) [ inl l ↦ l | inr past ↦ absurd (false≢true (sym (ap is_some (digit_at_past 10 text s.1 past)) ∙ there)) ]

  -- where a digit stands there, one is counted
  pub some_digit : has_digit 10 text s.1 ≡ true → count ≤ length digits → (count < length digits → IsNone (digit 10 (get_or digits count 0))) → 1 ≤ count
  some_digit there within stops =
      elim (cases_lt 0 count) [
        | inl some ↦ some
        | inr few ↦ absurd (by_place (let none : count ≡ 0 = omega arith in none))
      ]
    where
      by_place : count ≡ 0 → ⊥
      by_place none =
          let low = sign_within f t text s sign_is in
          let place : s.1 + count ≡ s.1 = omega arith in
          let size : length digits ≡ length text - s.1 = ap length (rest_is text s.1) ∙ length-drop s.1 text in
          let inside : s.1 < length text = within_text there in
          let on : StandsFrom s.1 text digits = subst (λ (ds : List ℕ). StandsFrom s.1 text ds) (sym (rest_is text s.1)) (from_place s.1 text) in
          let fails : has_digit 10 text (s.1 + count) ≡ false = at_stop 10 text digits s.1 count on (omega arith) (stops (omega arith)) in
          false≢true (sym fails ∙ ap (has_digit 10 text) place ∙ there)
