-- Where a numeral of digits with separators between them ends, and which digits it has.
use Rattle.std.proofs.Common.{◌≡◌, ℕ, zero, suc, ◌+◌, ◌-◌, ◌<◌, ◌≤◌, Bool, true, false, ◌&&◌, ◌||◌, List, length, get_or, refl, sym, ap, ◌∙◌, arith, Option, Some, is_some, inl, inr}
use Rattle.std.specs.Prelude.{◌==◌, nat_lt}
use Rattle.std.proofs.lemmas.Bool.{cases_lt, false≢true, lt-ltb}
use Rattle.std.proofs.lemmas.Bool.Decides.{nat_tests}
use Rattle.lexical_util.specs.Format.{Format}
use Rattle.lexical_parse_integer.specs.Grouped.{AreGrouped, is_digit_in}
use Rattle.lexical_parse_integer.specs.Runs.{are_same, digit_at, end_of, flag_for, is_in_numeral, run_passes, separator_at, stop_of}
use Rattle.lexical_parse_integer.specs.Seeking.{IsAtRunStart, IsSeparatorNoDigit}
use Rattle.lexical_parse_integer.proofs.grammar.NumeralEnd.{IsStop-end_of, belongs_separator, passes_is}
use Rattle.lexical_parse_integer.proofs.grammar.Stretches.{HoldsBetween, IsStop, IsStop-stop_of, IsStop-unique, true_or_false}
use Rattle.lexical_parse_integer.proofs.punctuated.DigitsAmong.{digit_there, separator_there}
use Rattle.lexical_parse_integer.proofs.words.WordsInTexts.{StandsAt}

same_number : (n : ℕ) → (n == n) ≡ true
same_number n = grind (arith, nat_tests)

same_byte : (byte : ℕ) → are_same (Some byte) (Some byte) ≡ true
unfolding are_same
same_byte byte = same_number byte

digit_belongs : (f : Format) (pre : Bool) (r : ℕ) (text : List ℕ) (start k : ℕ) → is_some (digit_at r text k) ≡ true → is_in_numeral f pre r text start k ≡ true
unfolding is_in_numeral
digit_belongs f pre r text start k t = rw t refl

-- the front of the run of separators that holds a place
record RunFront (p : ℕ → Bool) (start k : ℕ) : Type 0 where
  from : ℕ
  later : start < from
  below : from ≤ k
  holds : HoldsBetween p from (suc k)
  edge : p (from - 1) ≡ false

-- digits with separators between them, that stand in a text from start on
module _ (f : Format) (pre : Bool) (r : ℕ) (text bytes : List ℕ) (start : ℕ) (plain : IsSeparatorNoDigit f r text) (s : StandsAt text bytes start) (g : AreGrouped f r bytes) where
  abbrev sep : ℕ → Bool
  sep = separator_at f text

  abbrev stop : ℕ
  stop = start + length bytes

  digit_is : (k : ℕ) → start ≤ k → k < stop → is_some (digit_at r text k) ≡ is_digit_in r bytes (k - start)
  digit_is k low high = ap is_some (digit_there r text bytes start (k - start) k s (omega arith) (omega arith))

  -- a digit is no separator
  no_separator : (k : ℕ) → is_some (digit_at r text k) ≡ true → sep k ≡ false
  no_separator k t = elim (true_or_false (sep k)) [ inl h ↦ absurd (false≢true (sym (ap is_some (plain k h)) ∙ t)) | inr h ↦ h ]

  -- what is no separator is a digit
  digit_if : (k : ℕ) → start ≤ k → k < stop → sep k ≡ false → is_some (digit_at r text k) ≡ true
  digit_if k low high other =
      elim (true_or_false (is_some (digit_at r text k))) [
        | inl t ↦ t
        | inr none ↦
            let here : sep k ≡ true = separator_there f text bytes start (k - start) k s (omega arith) (omega arith)
            ∙ ap (λ (o : Option ℕ). are_same o (Some (get_or bytes (k - start) 0))) (g.separators (k - start) (omega arith) (sym (digit_is k low high) ∙ none))
            ∙ same_byte (get_or bytes (k - start) 0) in
            absurd (false≢true (sym other ∙ here))
      ]

  first_no_separator : sep start ≡ false
  first_no_separator =
      let some = g.some in
      let front : start - start ≡ 0 = omega arith in
      no_separator start (digit_is start (omega arith) (omega arith) ∙ ap (is_digit_in r bytes) front ∙ g.first)

  last_no_separator : sep (stop - 1) ≡ false
  last_no_separator =
      let some = g.some in
      let last : stop - 1 - start ≡ length bytes - 1 = omega arith in
      no_separator (stop - 1) (digit_is (stop - 1) (omega arith) (omega arith) ∙ ap (is_digit_in r bytes) last ∙ g.last)

  run_front : (k : ℕ) → start ≤ k → sep k ≡ true → RunFront sep start k
  run_front zero low here = let e : start ≡ 0 = omega arith in absurd (false≢true (sym first_no_separator ∙ ap sep e ∙ here))
  run_front (suc k) low here =
      elim (cases_lt k start) [
        | inl lt ↦ let e : start ≡ suc k = omega arith in absurd (false≢true (sym first_no_separator ∙ ap sep e ∙ here))
        | inr ge ↦
            elim (true_or_false (sep k)) [
              | inl t ↦
                  let before = run_front k ge t in
                  let below = before.below in
                  record {
                    from = before.from;
                    later = before.later;
                    below = omega arith;
                    holds = λ i l h. elim (cases_lt i (suc k)) [ inl lt ↦ before.holds i l lt | inr ge' ↦ let e : suc k ≡ i = omega arith in ap sep (sym e) ∙ here ];
                    edge = before.edge;
                  }
              | inr t ↦
                  let one : suc k - 1 ≡ k = omega arith in
                  record {
                    from = suc k;
                    later = omega arith;
                    below = omega arith;
                    holds = λ i l h. let e : suc k ≡ i = omega arith in ap sep (sym e) ∙ here;
                    edge = ap sep one ∙ t;
                  }
            ]
      ]

  -- the run of a separator ends before a digit
  run_end : (k : ℕ) → start ≤ k → k < stop → sep k ≡ true → stop_of sep k (length text) < stop
  run_end k low high here =
      let run = IsStop-stop_of sep k (length text) (let w = s.within in omega arith) in
      elim (cases_lt (stop_of sep k (length text)) stop) [
        | inl lt ↦ lt
        | inr ge ↦ absurd (false≢true (sym last_no_separator ∙ run.holds (stop - 1) (omega arith) (omega arith)))
      ]

  -- a run between digits passes
  passes : (from to : ℕ) → start < from → from < to → to < stop → HoldsBetween sep from to → sep (from - 1) ≡ false → sep to ≡ false → run_passes f pre r text start from to ≡ true
  unfolding run_passes flag_for
  passes from to later some high holds before behind =
      let low : nat_lt start from ≡ true = lt-ltb start from later in
      let front : is_some (digit_at r text (from - 1)) ≡ true = digit_if (from - 1) (omega arith) (omega arith) before in
      let rest : is_some (digit_at r text to) ≡ true = digit_if to (omega arith) high behind in
      let here : is_some (digit_at r text from) ≡ false = ap is_some (plain from (holds from (omega arith) some)) in
      let inside : f.integer_internal_digit_separator ≡ true = g.internal (from - start) (omega arith) (sym (digit_is from (omega arith) (omega arith)) ∙ here) in
      rw (low, front, rest, inside) (by_many f.integer_consecutive_digit_separator refl)
    where
      by_many : (b : Bool) → f.integer_consecutive_digit_separator ≡ b → ((b || (to == from + 1)) && true) ≡ true
      by_many true e = refl
      by_many false e =
          elim (cases_lt (from + 1) to) [
            | inl lt ↦
                let none : is_digit_in r bytes (from - start) ≡ false = sym (digit_is from (omega arith) (omega arith)) ∙ ap is_some (plain from (holds from (omega arith) some)) in
                let next : is_digit_in r bytes (from - start + 1) ≡ true = g.alone e (from - start) (omega arith) none in
                let place : from + 1 - start ≡ from - start + 1 = omega arith in
                let other : is_digit_in r bytes (from - start + 1) ≡ false = ap (is_digit_in r bytes) (sym place) ∙ sym (digit_is (from + 1) (omega arith) (omega arith)) ∙ ap is_some (plain (from + 1) (holds (from + 1) (omega arith) lt)) in
                absurd (false≢true (sym other ∙ next))
            | inr ge ↦ let one : to ≡ from + 1 = omega arith in rw one (rw (same_number (from + 1)) refl)
          ]

  -- a run reaches behind its first byte
  run_goes_on : (k : ℕ) → k < stop → sep k ≡ true → k < stop_of sep k (length text)
  run_goes_on k high here =
      let w = s.within in
      let run = IsStop-stop_of sep k (length text) (omega arith) in
      elim (cases_lt k (stop_of sep k (length text))) [
        | inl lt ↦ lt
        | inr ge ↦
            let low = run.low in
            let e : stop_of sep k (length text) ≡ k = omega arith in
            absurd (false≢true (sym (run.fails (omega arith)) ∙ ap sep e ∙ here))
      ]

  belongs : HoldsBetween (is_in_numeral f pre r text start) start stop
  belongs k low high =
      elim (true_or_false (sep k)) [
        | inr other ↦ digit_belongs f pre r text start k (digit_if k low high other)
        | inl here ↦
            let front = run_front k low here in
            let run = IsStop-stop_of sep k (length text) (let w = s.within in omega arith) in
            let to : ℕ = stop_of sep k (length text) in
            let ends : to < stop = run_end k low high here in
            let below = front.below in
            let later = front.later in
            let more : k < to = run_goes_on k high here in
            let all : HoldsBetween sep front.from to = λ i l h. elim (cases_lt i k) [ inl lt ↦ front.holds i l (omega arith) | inr ge ↦ run.holds i ge h ] in
            let behind : sep to ≡ false = run.fails (let w = s.within in omega arith) in
            let whole : IsStop sep front.from (length text) to = record { low = omega arith; high = run.high; holds = all; fails = run.fails } in
            let edge : IsAtRunStart f text start front.from = λ l t. front.edge in
            belongs_separator f pre r text start k here (plain k here)
            (passes_is f pre r text start front.from to k (omega arith) (let w = s.within in omega arith) edge whole below more
            ∙ passes front.from to later (omega arith) ends all front.edge behind)
      ]

  -- so the numeral ends behind them, where nothing that belongs follows
  pub grouped_end : (stop < length text → is_in_numeral f pre r text start stop ≡ false) → end_of f pre r text start ≡ stop
  grouped_end fails =
      let w = s.within in
      IsStop-unique (is_in_numeral f pre r text start) start (length text) _ _ (IsStop-end_of f pre r text start (omega arith))
      (record { low = omega arith; high = omega arith; holds = belongs; fails = fails })
