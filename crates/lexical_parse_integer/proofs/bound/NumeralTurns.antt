-- The turns of a numeral, by those of its parts: for `algorithm::counted::numeral` and `algorithm::counted::read`.
use Rattle.std.proofs.Common.{◌≡◌, ℕ, ◌+◌, ◌≤◌, Bool, List, Err, Ok, Result, sym, ap, subst, arith, inl, ◌⊎◌, ◌∙◌}
use Rattle.std.specs.Prelude.{ℤ, IsNone, IsTrue, MatchResult}
use Rattle.std.proofs.lemmas.Bool.{false≢true}
use Rattle.lexical_util.specs.declared.error.Error.{Error}
use Rattle.lexical_util.specs.Format.{Format}
use Rattle.lexical_util.specs.Number.{IntegerType, overflow_digits}
use Rattle.lexical_parse_integer.specs.CursorView.{CursorView, numeral_of}
use Rattle.lexical_parse_integer.specs.Folded.{Folded}
use Rattle.lexical_parse_integer.specs.Head.{Head, head_of}
use Rattle.lexical_parse_integer.specs.Numeral.{digit_count, numeral_in, numeral_behind}
use Rattle.lexical_parse_integer.specs.Reading.{MovesOn, IsAtHead, IsAtNumeral, KeepsTurns, LeavesFewTurns, LeavesTurns, LooksAhead, ReadsWords}
use Rattle.lexical_parse_integer.specs.Turns.{AsksWords, HasFewTurns, turns_bound, digits_per_word}
use Rattle.lexical_parse_integer.proofs.Folds.{fact_of, folded}
use Rattle.lexical_parse_integer.proofs.bound.TurnBound.{TakesWords, few_turns, one_within, still_few}
use Rattle.lexical_parse_integer.proofs.reading.NumeralSteps.{same_numeral}
use Rattle.lexical_parse_integer.proofs.reading.ParserAnswers.{same_text}

-- ---- digits that no test is needed for

-- words, and then a turn for each digit
pub turns_of_words : (bits room : ℕ) (t : IntegerType) (b : Bool) (u v w : CursorView) (value : ℤ) → ReadsWords t b (digits_per_word bits) room u v value → u.digits ≤ digit_count (numeral_of u) → w.digits ≤ digit_count (numeral_of v) → w.turns + v.digits ≡ v.turns + w.digits → Folded (LeavesFewTurns bits room u w)
turns_of_words bits room t b u v w value words some all rest =
    let same : digit_count (numeral_of v) ≡ digit_count (numeral_of u) = ap digit_count (same_numeral u v words.goes_on) in
    folded (record {
      few = λ fresh first.
          let taken : TakesWords (digits_per_word bits) room (digit_count (numeral_of u)) u.digits u.turns v.digits v.turns = record {
            fresh = fresh;
            first = first;
            words = words.turns;
            within = words.within;
            ended = words.ended;
            some = some;
            all = words.reads.count;
          } in
          still_few _ _ _ _ _ _ (few_turns bits room _ _ _ _ _ taken) rest words.reads.count (omega arith);
    })

pub turns_where_words : (bits most : ℕ) (t : IntegerType) (n : Bool) (u w : CursorView) → AsksWords bits n u.format → most ≡ overflow_digits t u.radix → Folded (LeavesFewTurns bits most u w) → Folded (LeavesTurns bits t n u w)
turns_where_words bits most t n u w asks is_most left =
    folded (record {
      each = λ single. absurd (false≢true (sym asks.multi ∙ single));
      few = λ _ _. subst (λ (m : ℕ). LeavesFewTurns bits m u w) is_most (fact_of left);
    })

pub turns_where_digits : (bits : ℕ) (t : IntegerType) (n : Bool) (u w : CursorView) → (AsksWords bits n u.format × (u.radix ≤ 10) → ⊥) → w.turns + u.digits ≡ u.turns + w.digits → Folded (LeavesTurns bits t n u w)
turns_where_digits bits t n u w none one = folded (record { each = λ _. one; few = λ asks ten. absurd (none (asks, ten)) })

-- ---- all digits

-- a turn for each digit that is left
pub turns_of_rest : (bits : ℕ) (t : IntegerType) (n : Bool) (u v w : CursorView) → MovesOn u v → v.digits ≤ digit_count (numeral_of u) → w.digits ≤ digit_count (numeral_of v) → Folded (LeavesTurns bits t n u v) → w.turns + v.digits ≡ v.turns + w.digits → Folded (KeepsTurns bits t n u w)
turns_of_rest bits t n u v w g some all left rest =
    let same : digit_count (numeral_of v) ≡ digit_count (numeral_of u) = ap digit_count (same_numeral u v g) in
    folded (record {
      each = λ single. let before = (fact_of left).each single in omega arith;
      few = λ asks ten fresh first.
          let few = ((fact_of left).few asks ten).few fresh first in
          let still = still_few _ (digit_count (numeral_of u)) v.digits v.turns w.digits w.turns few rest some (omega arith) in
          omega arith;
    })

-- where the first digit is a fault, no other was taken
pub turns_of_first : (bits : ℕ) (t : IntegerType) (n : Bool) (u v : CursorView) → IsAtNumeral u → LooksAhead u v → Folded (KeepsTurns bits t n u v)
turns_of_first bits t n u v front ahead =
    let none = front.none in
    let before = (fact_of front.sound).turns in
    let turns = ahead.turns in
    let count = ahead.count in
    folded (record {
      each = λ _. omega arith;
      few = λ asks ten fresh first. let one = ahead.one asks.contiguous in one_within bits _ _ _ (omega arith) (omega arith);
    })

-- the first digit, where it had to be looked for, and those behind it
pub turns_behind_first : (bits : ℕ) (t : IntegerType) (n : Bool) (u v w : CursorView) → IsAtNumeral u → LooksAhead u v → (IsNone u.format.digit_separator → (v.digits ≡ 0) ⊎ (digit_count (numeral_of u) ≤ 1)) → Folded (KeepsTurns bits t n v w) → Folded (KeepsTurns bits t n u w)
turns_behind_first bits t n u v w front ahead lone kept =
    let behind = fact_of kept in
    let none = front.none in
    let before = (fact_of front.sound).turns in
    let turns = ahead.turns in
    let g = ahead.goes_on in
    let same : digit_count (numeral_of v) ≡ digit_count (numeral_of u) = ap digit_count (same_numeral u v g) in
    let radix = g.radix in
    folded (record {
      each = λ single. let rest = behind.each single in omega arith;
      few = λ asks ten fresh first.
          let here : AsksWords bits n v.format = subst (AsksWords bits n) (sym g.format) asks in
          let lone_there : (v.digits ≡ 0) ⊎ (digit_count (numeral_of v) ≤ 1) = subst (λ (m : ℕ). (v.digits ≡ 0) ⊎ (m ≤ 1)) (sym same) (lone asks.contiguous) in
          let few : w.turns ≤ turns_bound (digits_per_word bits) (overflow_digits t v.radix) (digit_count (numeral_of v)) = behind.few here (omega arith) (omega arith) lone_there in
          subst (λ (r : ℕ). w.turns ≤ turns_bound (digits_per_word bits) (overflow_digits t r) (digit_count (numeral_of u))) radix
          (subst (λ (m : ℕ). w.turns ≤ turns_bound (digits_per_word bits) (overflow_digits t v.radix) m) same few);
    })

-- ---- a whole text

-- no turn is few, whatever the head is
pub no_turn_is_few : (f : Format) (t : IntegerType) (text : List ℕ) (turns : ℕ) → turns ≡ 0 → HasFewTurns f t text turns
no_turn_is_few f t text turns none = by_head (head_of f t text)
  where
    by_head : (r : Result Head Error) → MatchResult r (λ head. head.radix ≤ 10 → turns ≤ turns_bound (digits_per_word t.bits) (overflow_digits t head.radix) (digit_count (numeral_behind f text head))) (λ e. turns ≡ 0)
    by_head (Ok head) = λ ten. omega arith
    by_head (Err e) = none

pub few_behind_head : (bits : ℕ) (n : Bool) (f : Format) (t : IntegerType) (text : List ℕ) (minus p o : Bool) (v w : CursorView) (turns : ℕ) → bits ≡ t.bits → IsAtHead f t text minus p o v → Folded (KeepsTurns bits t n v w) → turns ≡ w.turns → AsksWords bits n f → HasFewTurns f t text turns
few_behind_head bits n f t text minus p o v w turns width at kept is asks =
    let here : AsksWords bits n v.format = subst (AsksWords bits n) (sym at.format) asks in
    let fresh : v.turns ≡ v.digits = at.no_turn ∙ sym at.no_digit in
    let count : digit_count (numeral_of v) ≡ digit_count (numeral_in f p v.radix text v.start) = ap digit_count (sym (same_text f t text minus p o v at)) in
    let few = λ (ten : v.radix ≤ 10). (fact_of kept).few here ten fresh (inl at.no_digit) in
    let bound : v.radix ≤ 10 → turns ≤ turns_bound (digits_per_word t.bits) (overflow_digits t v.radix) (digit_count (numeral_in f p v.radix text v.start)) =
    λ ten. subst (λ (m : ℕ). m ≤ turns_bound (digits_per_word t.bits) (overflow_digits t v.radix) (digit_count (numeral_in f p v.radix text v.start))) (sym is)
    (subst (λ (m : ℕ). w.turns ≤ turns_bound (digits_per_word m) (overflow_digits t v.radix) (digit_count (numeral_in f p v.radix text v.start))) width
    (subst (λ (m : ℕ). w.turns ≤ turns_bound (digits_per_word bits) (overflow_digits t v.radix) m) count (few ten))) in
    rw at.head_is bound

pub each_behind_head : (bits : ℕ) (n : Bool) (f : Format) (t : IntegerType) (text : List ℕ) (minus p o : Bool) (v w : CursorView) → IsAtHead f t text minus p o v → Folded (KeepsTurns bits t n v w) → IsTrue n → w.turns ≡ w.digits
each_behind_head bits n f t text minus p o v w at kept single =
    let each = (fact_of kept).each single in
    let no_digit = at.no_digit in
    let no_turn = at.no_turn in
    omega arith
