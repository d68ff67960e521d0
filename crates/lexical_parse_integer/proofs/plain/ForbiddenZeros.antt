-- A zero in front of another digit, under a decimal format without punctuation that forbids it.
use Rattle.std.proofs.Common.{◌≡◌, ℕ, zero, suc, ◌+◌, ◌<◌, ◌≤◌, Bool, true, List, length, refl, sym, ap, ◌∙◌, arith, is_some, Some, Ok, Err, inl, inr, false}
use Rattle.std.specs.Prelude.{◌==◌, nat_le, slice_index}
use Rattle.std.proofs.lemmas.Bool.{cases_lt, false≢true}
use Rattle.std.proofs.lemmas.Bool.Decides.{nat_tests}
use Rattle.std.proofs.lemmas.List.FromFn.{length-map-range_with_len}
use Rattle.std.specs.Option.{unwrap_or}
use Rattle.lexical_util.specs.declared.error.Error.TheVariants.{InvalidLeadingZeros}
use Rattle.lexical_util.specs.Format.{Format}
use Rattle.lexical_util.specs.Number.{IntegerType}
use Rattle.lexical_parse_integer.specs.Grammar.{complete}
use Rattle.lexical_parse_integer.specs.Head.{Head, sign}
use Rattle.lexical_parse_integer.specs.Plain.{IsPlain}
use Rattle.lexical_parse_integer.specs.Runs.{digit_at}
use Rattle.lexical_parse_integer.proofs.grammar.DigitsInARow.{EndsRow, has_digit, row, row_count, row_ends, row_numeral}
use Rattle.lexical_parse_integer.proofs.grammar.NumeralEnd.{digit_at_past}
use Rattle.lexical_parse_integer.proofs.theorems.CompleteByPartial.{sign_within}
use Rattle.lexical_parse_integer.proofs.theorems.DigitTexts.{complete_by, complete_row, head_is}

-- a row has a zero and a digit behind it
two_digits : (r : ℕ) (text : List ℕ) (start n : ℕ) → EndsRow r text start (start + n) → start + 1 < length text → has_digit r text start ≡ true → has_digit r text (start + 1) ≡ true → 2 ≤ n
two_digits r text start zero ends some first second = absurd (let at : start + 0 ≡ start = omega arith in false≢true (sym (ends.fails (omega arith)) ∙ ap (has_digit r text) at ∙ first))
two_digits r text start (suc zero) ends some first second = absurd (false≢true (sym (ends.fails some) ∙ second))
two_digits r text start (suc (suc n)) ends some first second = omega arith

within_text : (text : List ℕ) (place : ℕ) → is_some (digit_at 10 text place) ≡ true → place < length text
within_text text place there = elim (cases_lt place (length text)) [ inl l ↦ l | inr past ↦ absurd (false≢true (sym (ap is_some (digit_at_past 10 text place past)) ∙ there)) ]

-- the head of a text with this sign
abbrev bare : Bool × ℕ → ℕ → Head
bare s r = record { is_negative = s.0; is_prefixed = false; is_octal = false; start = s.1; radix = r }

by_count : (f : Format) (t : IntegerType) (text : List ℕ) (s : Bool × ℕ) (n : ℕ) → f.mantissa_radix ≡ 10 → f.no_integer_leading_zeros ≡ true → digit_at 10 text s.1 ≡ Some 0 → 2 ≤ n → complete_by f t text (bare s f.mantissa_radix) (row_numeral f text s.1 f.mantissa_radix n) ≡ Err (InvalidLeadingZeros s.1)
by_count f t text s zero ten asked zero_here more = absurd (omega arith)
by_count f t text s (suc zero) ten asked zero_here more = absurd (omega arith)
by_count f t text s (suc (suc n)) ten asked zero_here more =
    let size : length (row f.mantissa_radix text s.1 (suc (suc n))) ≡ suc (suc n) = length-map-range_with_len (λ place. unwrap_or (digit_at f.mantissa_radix text place) 0) s.1 (suc (suc n)) in
    let two : nat_le 2 (length (row f.mantissa_radix text s.1 (suc (suc n)))) ≡ true = grind (arith, nat_tests) in
    let none : (slice_index (row f.mantissa_radix text s.1 (suc (suc n))) 0 == 0) ≡ true = ap (λ (r : ℕ). unwrap_or (digit_at r text s.1) 0 == 0) ten ∙ ap (λ o. unwrap_or o 0 == 0) zero_here in
    rw (asked, two, none) refl

pub forbidden_zero : (f : Format) (t : IntegerType) (text : List ℕ) (s : Bool × ℕ) → IsPlain f → f.mantissa_radix ≡ 10 → sign f t text ≡ Ok s → f.no_integer_leading_zeros ≡ true → digit_at 10 text s.1 ≡ Some 0 → is_some (digit_at 10 text (s.1 + 1)) ≡ true → complete f t text ≡ Err (InvalidLeadingZeros s.1)
forbidden_zero f t text s plain ten sign_is asked zero_here next =
    let r : ℕ = f.mantissa_radix in
    let first : has_digit r text s.1 ≡ true = ap (λ n. has_digit n text s.1) ten ∙ ap is_some zero_here in
    let second : has_digit r text (s.1 + 1) ≡ true = ap (λ n. has_digit n text (s.1 + 1)) ten ∙ next in
    let low = sign_within f t text s sign_is in
    let count : ℕ = row_count f false r text s.1 in
    let ends : EndsRow r text s.1 (s.1 + count) = row_ends f false r text s.1 plain.no_separator low in
    let more = two_digits r text s.1 count ends (within_text text (s.1 + 1) next) first second in
    complete_row f t text (bare s r) count plain.no_separator (head_is f t text s plain.no_prefix plain.no_literals plain.no_octal_zeros sign_is) low ends
    ∙ by_count f t text s count ten asked zero_here more
