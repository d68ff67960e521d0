-- One round of a loop that takes a cursor's digits one at a time: for `algorithm::counted::digits`.
use Rattle.std.proofs.Common.{◌≡◌, ℕ, ◌+◌, ◌<◌, Bool, false, true, get_or, refl, sym, ap, ◌∙◌, subst, arith, Some}
use Rattle.std.specs.Prelude.{ℤ, pos}
use Rattle.lexical_util.specs.declared.error.Error.{Error}
use Rattle.lexical_parse_integer.specs.CursorView.{CursorView, ReachesEnd, TakesDigit, numeral_end, numeral_of}
use Rattle.lexical_parse_integer.specs.Grammar.{range_error, range_fault}
use Rattle.lexical_parse_integer.specs.Numeral.{Numeral, digit_count, numeral_in}
use Rattle.lexical_parse_integer.specs.Reading.{MovesOn, Reads, ReadsAll}
use Rattle.lexical_util.specs.Number.{IntegerType, is_number, mul_add}
use Rattle.lexical_parse_integer.proofs.Folds.{fact_of}
use Rattle.lexical_parse_integer.proofs.reading.DigitsRead.{reads_more, reads_leaving, reads_all}
use Rattle.lexical_parse_integer.proofs.reading.NumeralSteps.{IsDigitOf, digit_found, all_found, digit_at_below, same_numeral}

pub numeral_radix : (v : CursorView) → (numeral_of v).radix ≡ v.radix
unfolding numeral_in
numeral_radix v = refl

pub numeral_ends : (v : CursorView) → (numeral_of v).ends ≡ numeral_end v
unfolding numeral_in
numeral_ends v = refl

pub digit_taken : (u v w : CursorView) (d : ℕ) → MovesOn u v → (k : TakesDigit v w d) → IsDigitOf (numeral_of u) v.digits d k.place
digit_taken u v w d g k = subst (λ (x : Numeral). IsDigitOf x v.digits d k.place) (same_numeral u v g) (digit_found v w d (fact_of g.sound) g.closed k)

pub digit_below : (v w : CursorView) (d r : ℕ) → TakesDigit v w d → r ≡ w.radix → d < r
digit_below v w d r k e =
    let below : d < v.radix = digit_at_below v.radix v.bytes k.place d k.value_is in
    let same : w.radix ≡ v.radix = ap (λ (z : CursorView). z.radix) k.after in
    omega arith

radix_is : (u v w : CursorView) (d r : ℕ) → MovesOn u v → TakesDigit v w d → r ≡ w.radix → r ≡ (numeral_of u).radix
radix_is u v w d r g k e = e ∙ ap (λ (z : CursorView). z.radix) k.after ∙ g.radix ∙ sym (numeral_radix u)

pub reads_next : (t : IntegerType) (b : Bool) (u v w : CursorView) (d r : ℕ) (value next : ℤ) → MovesOn u v → TakesDigit v w d → Reads t b (numeral_of u) v.digits value → r ≡ w.radix → next ≡ mul_add b value (pos r) (pos d) → is_number t next ≡ true → Reads t b (numeral_of u) w.digits next
reads_next t b u v w d r value next g k reads e step fits =
    let there = digit_taken u v w d g k in
    let digits : w.digits ≡ v.digits + 1 = ap (λ (z : CursorView). z.digits) k.after in
    subst (λ (m : ℕ). Reads t b (numeral_of u) m next) (sym digits)
    (reads_more t b (numeral_of u) v.digits d value next reads there.more there.digit (step ∙ ap (λ q. mul_add b value (pos q) (pos d)) (radix_is u v w d r g k e)) fits)

pub reads_leaves : (t : IntegerType) (b : Bool) (u v w : CursorView) (d r place : ℕ) (value : ℤ) (e : Error) → MovesOn u v → TakesDigit v w d → Reads t b (numeral_of u) v.digits value → r ≡ w.radix → place + 1 ≡ w.position → e ≡ range_error b place → is_number t (mul_add b value (pos r) (pos d)) ≡ false → range_fault t b (numeral_of u) ≡ Some e
reads_leaves t b u v w d r place value e g k reads same at is leaves =
    let there = digit_taken u v w d g k in
    let behind : w.position ≡ k.place + 1 = ap (λ (z : CursorView). z.position) k.after in
    let here : get_or (numeral_of u).places v.digits 0 ≡ place = there.at ∙ omega arith in
    reads_leaving t b (numeral_of u) v.digits d value reads there.more there.digit (ap (λ q. is_number t (mul_add b value (pos q) (pos d))) (sym (radix_is u v w d r g k same)) ∙ leaves)
    ∙ ap (λ p. Some (range_error b p)) here ∙ ap Some (sym is)

-- no digit is left
pub reads_end : (t : IntegerType) (b : Bool) (u v w : CursorView) (value : ℤ) → MovesOn u v → ReachesEnd v w → Reads t b (numeral_of u) v.digits value → ReadsAll t b u w value
reads_end t b u v w value g k reads =
    let same = same_numeral u v g in
    let all : v.digits ≡ digit_count (numeral_of u) = all_found v (fact_of g.sound) g.closed w k ∙ ap digit_count same in
    let told = reads_all t b (numeral_of u) v.digits value reads all in
    record {
      value_is = told.1;
      fits = told.0;
      at_end = ap (λ (z : CursorView). z.position) k.after ∙ sym (numeral_ends v) ∙ ap (λ (x : Numeral). x.ends) same;
      all = ap (λ (z : CursorView). z.digits) k.after ∙ all;
    }
