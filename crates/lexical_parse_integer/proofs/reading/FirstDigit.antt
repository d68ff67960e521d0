-- The first digit, and whether another one follows: for `algorithm::counted::zeros`.
use Rattle.std.proofs.Common.{◌≡◌, ◌≢◌, ℕ, ◌+◌, ◌-◌, ◌*◌, ◌≤◌, Bool, false, true, not, ◌&&◌, List, get_or, is_some, Some, None, refl, sym, ap, ◌∙◌, subst, arith, inl, inr, ◌⊎◌, cond}
use Rattle.std.specs.Prelude.{ℤ, pos, nat_lt, nat_le, ◌==◌, slice_get, Option, MatchOption, option_and_then}
use Rattle.std.specs.Option.{option_or, option_eq}
use Rattle.std.proofs.lemmas.Bool.{lt-ltb, le-ltb, ltb-true, ltb-false, cases_lt, false≢true}
use Rattle.std.proofs.lemmas.Bool.Decides.{nat_tests}
use Rattle.std.proofs.Math.Nat.{one-le-pow}
use Rattle.lexical_util.specs.declared.error.Error.{Error}
use Rattle.lexical_util.specs.declared.error.Error.TheVariants.{InvalidLeadingZeros}
use Rattle.lexical_parse_integer.specs.CursorView.{CursorView, IsSound, ReachesEnd, TakesDigit, numeral_end, numeral_of}
use Rattle.lexical_parse_integer.specs.Folded.{Folded}
use Rattle.lexical_parse_integer.specs.Grammar.{range_error, range_fault, zero_fault}
use Rattle.lexical_parse_integer.specs.Numeral.{Numeral, digit_count}
use Rattle.lexical_parse_integer.specs.Reading.{MovesOn, IsAtNumeral, LooksAhead, Reads, ReadsFirst}
use Rattle.lexical_parse_integer.specs.Runs.{are_same, digit_at, separator_at}
use Rattle.lexical_util.specs.Digit.{value_if_below, digit, digit_value}
use Rattle.lexical_util.specs.Format.{Format}
use Rattle.lexical_util.specs.Number.{IntegerType, is_number, mul_add, number_limit}
use Rattle.lexical_parse_integer.proofs.Folds.{fact_of, folded}
use Rattle.lexical_parse_integer.proofs.grammar.NumeralEnd.{finds_here, ends_here}
use Rattle.lexical_parse_integer.proofs.reading.DigitsRead.{reads_none}
use Rattle.lexical_parse_integer.proofs.reading.NumeralSteps.{IsDigitOf, digit_found, all_found, goes_on_none, goes_on_digit, goes_on_further, same_numeral}
use Rattle.lexical_parse_integer.proofs.reading.DigitLoop.{reads_next, reads_leaves}

pub no_separator : (f : Format) (b : List ℕ) (k : ℕ) → f.digit_separator ≡ None → separator_at f b k ≡ false
unfolding separator_at are_same
no_separator f b k e = rw e refl

-- a digit at the position is the next one
pub look_some : (v : CursorView) (d : ℕ) → IsSound v → v.closed ≡ false → digit_at v.radix v.bytes v.position ≡ Some d → IsDigitOf (numeral_of v) v.digits d v.position
look_some v d s open_now e =
    let o = s.while_open open_now in
    let found = finds_here v.format v.is_prefixed v.radix v.bytes v.start v.position s.after_start o.before_end s.within d e in
    digit_found v (record v { position = v.position + 1; digits = v.digits + 1; turns = v.turns + 1 }) d s open_now
    (record { place = v.position; from = found.0; least = found.2; before_end = found.1; value_is = e; after = refl })

-- without a separator, any other byte ends the numeral
pub look_none : (v : CursorView) → IsSound v → v.closed ≡ false → v.format.digit_separator ≡ None → digit_at v.radix v.bytes v.position ≡ None → v.digits ≡ digit_count (numeral_of v)
look_none v s open_now none e =
    let o = s.while_open open_now in
    let found = ends_here v.format v.is_prefixed v.radix v.bytes v.start v.position s.after_start o.before_end s.within e (no_separator v.format v.bytes v.position none) in
    let at_end : v.position ≡ numeral_end v = found.0 in
    all_found v s open_now (record v { position = numeral_end v }) (record { none_left = λ k low high. absurd (omega arith); after = refl })

cases_option : (o : Option ℕ) → (o ≡ None) ⊎ ((d : ℕ) × (o ≡ Some d))
cases_option None = inl refl
cases_option (Some d) = inr (d, refl)

pub look : (v : CursorView) → IsSound v → v.closed ≡ false → v.format.digit_separator ≡ None → is_some (digit_at v.radix v.bytes v.position) ≡ nat_lt v.digits (digit_count (numeral_of v))
look v s open_now none =
    elim (cases_option (digit_at v.radix v.bytes v.position)) [
      | inl e ↦ let all = look_none v s open_now none e in ap is_some e ∙ sym (le-ltb v.digits (digit_count (numeral_of v)) (omega arith))
      | inr w ↦ let there = look_some v w.0 s open_now w.1 in ap is_some w.1 ∙ sym (lt-ltb v.digits (digit_count (numeral_of v)) there.more)
    ]

-- whether the byte at the position is a digit tells whether one is left
pub look_byte : (v : CursorView) (c : ℕ) → IsSound v → v.closed ≡ false → v.format.digit_separator ≡ None → slice_get v.bytes v.position ≡ Some c → is_some (digit v.radix c) ≡ nat_lt v.digits (digit_count (numeral_of v))
unfolding digit_at
look_byte v c s open_now none e = sym (ap (λ o. is_some (option_and_then (λ c. digit v.radix c) o)) e) ∙ look v s open_now none

pub look_end : (v : CursorView) → IsSound v → v.closed ≡ false → v.format.digit_separator ≡ None → slice_get v.bytes v.position ≡ None → false ≡ nat_lt v.digits (digit_count (numeral_of v))
unfolding digit_at
look_end v s open_now none e = sym (ap (λ o. is_some (option_and_then (λ c. digit v.radix c) o)) e) ∙ look v s open_now none

-- whether a step takes a digit tells whether one is left
pub look_step : (o : Option ℕ) (v w : CursorView) → IsSound v → v.closed ≡ false → MatchOption o (ReachesEnd v w) (λ d. TakesDigit v w d) → is_some o ≡ nat_lt v.digits (digit_count (numeral_of v))
look_step None v w s open_now m = let all = all_found v s open_now w m in sym (le-ltb v.digits (digit_count (numeral_of v)) (omega arith))
look_step (Some d) v w s open_now m = let there = digit_found v w d s open_now m in sym (lt-ltb v.digits (digit_count (numeral_of v)) there.more)

-- ---- the zero fault

-- fewer than two digits, or a first digit that isn't 0
pub few_no_fault : (f : Format) (p : Bool) (x : Numeral) → digit_count x ≤ 1 → zero_fault f p x ≡ None
few_no_fault f p x few = by_tests f.no_integer_leading_zeros (not p) (nat_le 2 (digit_count x)) (get_or x.digits 0 0 == 0) (let t : nat_le 2 (digit_count x) ≡ false = grind (arith, nat_tests) in t)
  where
    by_tests : (a b c d : Bool) → c ≡ false → cond (((a && b) && c) && d) (Some (InvalidLeadingZeros (get_or x.places 0 0))) None ≡ None
    by_tests true true c d e = rw e refl
    by_tests true false c d e = refl
    by_tests false b c d e = refl

other_no_fault : (f : Format) (p : Bool) (x : Numeral) → get_or x.digits 0 0 ≢ 0 → zero_fault f p x ≡ None
other_no_fault f p x other = by_tests ((f.no_integer_leading_zeros && not p) && nat_le 2 (digit_count x)) (get_or x.digits 0 0 == 0) (let t : (get_or x.digits 0 0 == 0) ≡ false = grind (arith, nat_tests) in t)
  where
    by_tests : (a d : Bool) → d ≡ false → cond (a && d) (Some (InvalidLeadingZeros (get_or x.places 0 0))) None ≡ None
    by_tests true d e = rw e refl
    by_tests false d e = refl

-- the value 0 is that of the byte `0` alone
zero_byte : (r c : ℕ) → digit r c ≡ Some 0 → c ≡ 48
zero_byte r c e = by_value (digit_value c) refl e
  where
    value_zero : digit_value c ≡ Some 0 → c ≡ 48
    value_zero h = grind (arith, nat_tests)

    by_value : (o : Option ℕ) → digit_value c ≡ o → value_if_below r o ≡ Some 0 → c ≡ 48
    by_value None h e = cc
    by_value (Some d) h e = by_test (nat_lt d r) e
      where
        by_test : (b : Bool) → cond b (Some d) None ≡ Some 0 → c ≡ 48
        by_test true k = value_zero (h ∙ (cc))
        by_test false k = cc

zero_at_byte : (r : ℕ) (o : Option ℕ) → option_and_then (λ c. digit r c) o ≡ Some 0 → o ≡ Some 48
zero_at_byte r None e = cc
zero_at_byte r (Some c) e = ap Some (zero_byte r c e)

zero_at : (r : ℕ) (b : List ℕ) (k : ℕ) → digit_at r b k ≡ Some 0 → slice_get b k ≡ Some 48
unfolding digit_at
zero_at r b k e = zero_at_byte r (slice_get b k) e

pub no_zero_here : (v : CursorView) (p : Bool) → IsSound v → v.closed ≡ false → v.format.digit_separator ≡ None → v.digits ≡ 0 → slice_get v.bytes v.position ≢ Some 48 → zero_fault v.format p (numeral_of v) ≡ None
no_zero_here v p s open_now none no_digits other =
    elim (cases_option (digit_at v.radix v.bytes v.position)) [
      | inl e ↦ let all = look_none v s open_now none e in few_no_fault v.format p (numeral_of v) (omega arith)
      | inr w ↦
          let there = look_some v w.0 s open_now w.1 in
          let first : get_or (numeral_of v).digits 0 0 ≡ w.0 = ap (λ m. get_or (numeral_of v).digits m 0) (sym no_digits) ∙ there.digit in
          other_no_fault v.format p (numeral_of v) (λ zero. other (zero_at v.radix v.bytes v.position (w.1 ∙ ap Some (sym first ∙ zero))))
    ]

pub no_digit_no_zeros : (v w : CursorView) (p : Bool) → IsSound v → v.closed ≡ false → v.digits ≡ 0 → ReachesEnd v w → zero_fault v.format p (numeral_of v) ≡ None
no_digit_no_zeros v w p s open_now none k = let all = all_found v s open_now w k in few_no_fault v.format p (numeral_of v) (omega arith)

first_is : (v w : CursorView) (d : ℕ) → IsSound v → v.closed ≡ false → v.digits ≡ 0 → (k : TakesDigit v w d) → (get_or (numeral_of v).digits 0 0 ≡ d) × (get_or (numeral_of v).places 0 0 ≡ k.place)
first_is v w d s open_now none k =
    let there = digit_found v w d s open_now k in
    (ap (λ m. get_or (numeral_of v).digits m 0) (sym none) ∙ there.digit, ap (λ m. get_or (numeral_of v).places m 0) (sym none) ∙ there.at)

pub other_first : (v w : CursorView) (d : ℕ) (p : Bool) → IsSound v → v.closed ≡ false → v.digits ≡ 0 → TakesDigit v w d → d ≢ 0 → zero_fault v.format p (numeral_of v) ≡ None
other_first v w d p s open_now none k other = let first = first_is v w d s open_now none k in other_no_fault v.format p (numeral_of v) (λ zero. other (sym first.0 ∙ zero))

join : (a b c d : Bool) (e : Error) → a ≡ true → b ≡ false → c ≡ true → d ≡ true → cond (((a && not b) && c) && d) (Some e) None ≡ Some e
join a b c d e x y z w = rw (x, y, z, w) refl

module _ (v w : CursorView) (d : ℕ) (s : IsSound v) (open_now : v.closed ≡ false) (none : v.digits ≡ 0) (k : TakesDigit v w d) (sw : Folded (IsSound w)) where
  go : MovesOn v w
  go = goes_on_digit v v w d (goes_on_none v (folded s) open_now) k sw

  pub leading_zeros : (p : Bool) (place : ℕ) → d ≡ 0 → v.format.no_integer_leading_zeros ≡ true → p ≡ false → place + 1 ≡ w.position → true ≡ nat_lt w.digits (digit_count (numeral_of w)) → zero_fault v.format p (numeral_of v) ≡ Some (InvalidLeadingZeros place)
  leading_zeros p place zero flag no_prefix at more =
      let digits : w.digits ≡ v.digits + 1 = ap (λ (z : CursorView). z.digits) k.after in
      let behind : w.position ≡ k.place + 1 = ap (λ (z : CursorView). z.position) k.after in
      let same : digit_count (numeral_of w) ≡ digit_count (numeral_of v) = ap digit_count (same_numeral v w go) in
      let first = first_is v w d s open_now none k in
      let two : nat_le 2 (digit_count (numeral_of v)) ≡ true = let m = ltb-true w.digits (digit_count (numeral_of w)) (sym more) in grind (arith, nat_tests) in
      let null : (get_or (numeral_of v).digits 0 0 == 0) ≡ true = let e = first.0 ∙ zero in grind (arith, nat_tests) in
      let here : get_or (numeral_of v).places 0 0 ≡ place = first.1 ∙ omega arith in
      join v.format.no_integer_leading_zeros p (nat_le 2 (digit_count (numeral_of v))) (get_or (numeral_of v).digits 0 0 == 0) (InvalidLeadingZeros (get_or (numeral_of v).places 0 0)) flag no_prefix two null
      ∙ ap (λ q. Some (InvalidLeadingZeros q)) here

zero_number : (t : IntegerType) → is_number t (pos 0) ≡ true
zero_number t = lt-ltb 0 (number_limit t) (one-le-pow (cond t.is_signed (t.bits - 1) t.bits) 2 (omega arith))

fused_zero : (b : Bool) (r : ℕ) → pos 0 ≡ mul_add b (pos 0) (pos r) (pos 0)
fused_zero true r = let e : 0 * r + 0 ≡ 0 = omega arith in rw e refl
fused_zero false r = let e : 0 * r + 0 ≡ 0 = omega arith in ap pos (sym e)

-- a first zero leaves the value 0
pub reads_zero : (t : IntegerType) (b : Bool) (v w : CursorView) (d : ℕ) (value : ℤ) → IsSound v → v.closed ≡ false → v.digits ≡ 0 → TakesDigit v w d → d ≡ 0 → value ≡ pos 0 → Reads t b (numeral_of v) w.digits value
reads_zero t b v w d value s open_now none k zero is =
    let start : Reads t b (numeral_of v) v.digits (pos 0) = subst (λ (m : ℕ). Reads t b (numeral_of v) m (pos 0)) (sym none) (reads_none t b (numeral_of v) (pos 0) refl) in
    let step : value ≡ mul_add b (pos 0) (pos w.radix) (pos d) = is ∙ fused_zero b w.radix ∙ ap (λ n. mul_add b (pos 0) (pos w.radix) (pos n)) (sym zero) in
    reads_next t b v v w d w.radix (pos 0) value (goes_on_none v (folded s) open_now) k start refl step (ap (is_number t) is ∙ zero_number t)

-- another first digit
pub reads_first : (t : IntegerType) (b : Bool) (v w : CursorView) (d r : ℕ) (value next : ℤ) → IsSound v → v.closed ≡ false → v.digits ≡ 0 → TakesDigit v w d → value ≡ pos 0 → r ≡ w.radix → next ≡ mul_add b value (pos r) (pos d) → is_number t next ≡ true → Reads t b (numeral_of v) w.digits next
reads_first t b v w d r value next s open_now none k is same step fits =
    let start : Reads t b (numeral_of v) v.digits value = subst (λ (m : ℕ). Reads t b (numeral_of v) m value) (sym none) (reads_none t b (numeral_of v) value is) in
    reads_next t b v v w d r value next (goes_on_none v (folded s) open_now) k start same step fits

pub leaves_first : (t : IntegerType) (b p : Bool) (v w : CursorView) (d r place : ℕ) (value : ℤ) (e : Error) → IsSound v → v.closed ≡ false → v.digits ≡ 0 → TakesDigit v w d → d ≢ 0 → value ≡ pos 0 → r ≡ w.radix → place + 1 ≡ w.position → e ≡ range_error b place → is_number t (mul_add b value (pos r) (pos d)) ≡ false → option_or (zero_fault v.format p (numeral_of v)) (range_fault t b (numeral_of v)) ≡ Some e
leaves_first t b p v w d r place value e s open_now none k other is same at fault leaves =
    let start : Reads t b (numeral_of v) v.digits value = subst (λ (m : ℕ). Reads t b (numeral_of v) m value) (sym none) (reads_none t b (numeral_of v) value is) in
    ap (λ z. option_or z (range_fault t b (numeral_of v))) (other_first v w d p s open_now none k other)
    ∙ reads_leaves t b v v w d r place value e (goes_on_none v (folded s) open_now) k start same at fault leaves

-- ---- turns, without a separator

digit_48 : (r : ℕ) → 2 ≤ r → digit r 48 ≡ Some 0
digit_48 r two = let t : nat_lt 0 r ≡ true = lt-ltb 0 r (omega arith) in rw t refl

pub zero_ahead : (r : ℕ) (b : List ℕ) (k : ℕ) → 2 ≤ r → slice_get b k ≡ Some 48 → digit_at r b k ≡ Some 0
unfolding digit_at
zero_ahead r b k two e = ap (option_and_then (λ c. digit r c)) e ∙ digit_48 r two

-- a zero at the position is the next digit
pub zero_taken : (v w : CursorView) (d : ℕ) → IsSound v → TakesDigit v w d → slice_get v.bytes v.position ≡ Some 48 → d ≡ 0
zero_taken v w d s k byte =
    let zero : digit_at v.radix v.bytes v.position ≡ Some 0 = zero_ahead v.radix v.bytes v.position s.radix.low byte in
    elim (cases_lt v.position k.place) [
      | inl l ↦ let none = k.least v.position (omega arith) l in absurd (cc)
      | inr l ↦
          let same : v.position ≡ k.place = omega (arith, k.from) in
          let here : digit_at v.radix v.bytes v.position ≡ Some d = ap (digit_at v.radix v.bytes) same ∙ k.value_is in
          cc
    ]

pub taken_count : (v w : CursorView) (d : ℕ) → IsSound v → v.closed ≡ false → TakesDigit v w d → w.digits ≤ digit_count (numeral_of v)
taken_count v w d s open_now k =
    let there = digit_found v w d s open_now k in
    let digits : w.digits ≡ v.digits + 1 = ap (λ (z : CursorView). z.digits) k.after in
    let more = there.more in
    omega arith

pub ended_count : (v w : CursorView) → IsSound v → v.closed ≡ false → ReachesEnd v w → w.digits ≤ digit_count (numeral_of v)
ended_count v w s open_now k =
    let all = all_found v s open_now w k in
    let digits : w.digits ≡ v.digits = ap (λ (z : CursorView). z.digits) k.after in
    omega arith

pub step_count : (o : Option ℕ) (v w : CursorView) → IsSound v → v.closed ≡ false → MatchOption o (ReachesEnd v w) (λ d. TakesDigit v w d) → w.digits ≤ digit_count (numeral_of v)
step_count None v w s open_now m = ended_count v w s open_now m
step_count (Some d) v w s open_now m = taken_count v w d s open_now m

pub taken_count_from : (u v w : CursorView) (d : ℕ) → MovesOn u v → TakesDigit v w d → w.digits ≤ digit_count (numeral_of u)
taken_count_from u v w d g k =
    let same : digit_count (numeral_of v) ≡ digit_count (numeral_of u) = ap digit_count (same_numeral u v g) in
    let t = taken_count v w d (fact_of g.sound) g.closed k in
    omega arith

pub zero_ahead_told : (o : Option ℕ) (b : Bool) → b ≡ not (option_eq ◌==◌ o (Some 48)) → b ≡ false → o ≡ Some 48
zero_ahead_told None b told fails = absurd (false≢true (sym fails ∙ told))
zero_ahead_told (Some c) b told fails = ap Some (by_test (c == 48) refl)
  where
    by_test : (t : Bool) → (c == 48) ≡ t → c ≡ 48
    by_test true e = grind (arith, nat_tests)
    by_test false e = absurd (false≢true (sym fails ∙ told ∙ ap not e))

-- ---- what is read of it

-- nothing was read
pub reads_nothing : (t : IntegerType) (b p : Bool) (v w : CursorView) (value : ℤ) → w.digits ≡ 0 → value ≡ pos 0 → zero_fault v.format p (numeral_of v) ≡ None → ReadsFirst t b p v w value
reads_nothing t b p v w value none is no_zeros =
    record {
      reads = subst (λ (n : ℕ). Reads t b (numeral_of v) n value) (sym none) (reads_none t b (numeral_of v) value is);
      no_zeros = no_zeros;
      lone = λ _. inl none;
    }

-- a zero is all that there is
pub reads_lone_zero : (t : IntegerType) (b p : Bool) (v w x : CursorView) (d : ℕ) (value : ℤ) → IsAtNumeral v → TakesDigit v w d → Folded (IsSound w) → d ≡ 0 → value ≡ pos 0 → x.digits ≡ w.digits → false ≡ nat_lt w.digits (digit_count (numeral_of w)) → ReadsFirst t b p v x value
reads_lone_zero t b p v w x d value front k s zero is same none_left =
    let goes = goes_on_digit v v w d (goes_on_none v front.sound front.still_open) k s in
    let counts : digit_count (numeral_of w) ≡ digit_count (numeral_of v) = ap digit_count (same_numeral v w goes) in
    let none = front.none in
    let one : w.digits ≡ v.digits + 1 = ap (λ (z : CursorView). z.digits) k.after in
    let last : digit_count (numeral_of w) ≤ w.digits = ltb-false w.digits (digit_count (numeral_of w)) (sym none_left) in
    let few : digit_count (numeral_of v) ≤ 1 = omega arith in
    record {
      reads = subst (λ (n : ℕ). Reads t b (numeral_of v) n value) (sym same) (reads_zero t b v w d value (fact_of front.sound) front.still_open front.none k zero is);
      no_zeros = few_no_fault v.format p (numeral_of v) few;
      lone = λ _. inr few;
    }

-- the first digit was taken
pub looks_at_digit : (v w : CursorView) (d : ℕ) → IsAtNumeral v → TakesDigit v w d → Folded (IsSound w) → LooksAhead v w
looks_at_digit v w d front k s =
    let none = front.none in
    let digits : w.digits ≡ v.digits + 1 = ap (λ (z : CursorView). z.digits) k.after in
    let turns : w.turns ≡ v.turns + 1 = ap (λ (z : CursorView). z.turns) k.after in
    record {
      goes_on = goes_on_digit v v w d (goes_on_none v front.sound front.still_open) k s;
      turns = omega arith;
      count = taken_count v w d (fact_of front.sound) front.still_open k;
      one = λ _. omega arith;
    }

-- and no other digit behind it
pub looks_further : (v w x : CursorView) → LooksAhead v w → MovesOn w x → x.digits ≡ w.digits → x.turns + w.digits ≡ w.turns + x.digits → LooksAhead v x
looks_further v w x ahead goes same turn =
    let before = ahead.turns in
    let count = ahead.count in
    record {
      goes_on = goes_on_further v w x ahead.goes_on goes;
      turns = omega arith;
      count = omega arith;
      one = λ none. let one = ahead.one none in omega arith;
    }
