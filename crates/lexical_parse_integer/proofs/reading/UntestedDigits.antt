-- Digits that are joined with no test, where the type has room for them: for `read_untested`.
use Rattle.std.proofs.Common.{◌≡◌, ℕ, ◌+◌, ◌<◌, ◌≤◌, Bool, true, sym, ap, ◌∙◌, arith}
use Rattle.std.specs.Prelude.{ℤ, pos}
use Rattle.lexical_util.specs.Number.{HasRoom, IsNumber, integer_type, is_number, mul_add}
use Rattle.lexical_parse_integer.specs.CursorView.{CursorView, IsSound, TakesDigit, numeral_of}
use Rattle.lexical_parse_integer.specs.Numeral.{front_value}
use Rattle.lexical_parse_integer.specs.Reading.{MovesOn, Reads}
use Rattle.lexical_parse_integer.proofs.grammar.FrontValues.{front_value-next}
use Rattle.lexical_parse_integer.proofs.reading.DigitLoop.{digit_below, digit_taken, numeral_radix, reads_next}
use Rattle.lexical_parse_integer.proofs.bound.WordSteps.{room_fits}

-- the effective radix stays
pub radix_after : (u v w : CursorView) (d : ℕ) → MovesOn u v → TakesDigit v w d → u.radix ≡ w.radix
radix_after u v w d g k = sym (ap (λ (z : CursorView). z.radix) k.after ∙ g.radix)

-- a digit taken is at most 35
pub digit_small : (u v w : CursorView) (d : ℕ) → IsSound u → MovesOn u v → TakesDigit v w d → d ≤ 127
digit_small u v w d sound g k =
    let high = sound.radix.high in
    let below = digit_below v w d u.radix k (radix_after u v w d g k) in
    omega arith

-- the value with one digit more
pub record JoinsDigit (bits : ℕ) (s b : Bool) (u w : CursorView) (next : ℤ) : Type 0 where
  pub fits : IsNumber (integer_type bits s) next
  pub reads : Reads (integer_type bits s) b (numeral_of u) w.digits next

pub joins_digit : (bits : ℕ) (s b : Bool) (u v w : CursorView) (o d : ℕ) (value radix digit : ℤ) → IsSound u → MovesOn u v → TakesDigit v w d → HasRoom (integer_type bits s) u.radix o → (b ≡ true → s ≡ true) → v.digits < o
    → Reads (integer_type bits s) b (numeral_of u) v.digits value → radix ≡ pos u.radix → digit ≡ pos d → JoinsDigit bits s b u w (mul_add b value radix digit)
joins_digit bits s b u v w o d value radix digit sound g k room may less reads is_radix is_digit =
    let there = digit_taken u v w d g k in
    let step : mul_add b value radix digit ≡ mul_add b value (pos u.radix) (pos d) = ap (λ z. mul_add b value z digit) is_radix ∙ ap (λ z. mul_add b value (pos u.radix) z) is_digit in
    let front : mul_add b value (pos u.radix) (pos d) ≡ front_value b (numeral_of u) (v.digits + 1) =
    ap (λ z. mul_add b z (pos u.radix) (pos d)) reads.front ∙ ap (λ r. mul_add b (front_value b (numeral_of u) v.digits) (pos r) (pos d)) (sym (numeral_radix u)) ∙ front_value-next b (numeral_of u) v.digits d there.more there.digit in
    let fit = room_fits bits s b u o (v.digits + 1) sound room may (omega arith) (omega (arith, there.more)) in
    let fits : is_number (integer_type bits s) (mul_add b value radix digit) ≡ true = ap (is_number (integer_type bits s)) (step ∙ front) ∙ fit v.digits (omega arith) in
    record {
      fits = fits;
      reads = reads_next (integer_type bits s) b u v w d u.radix value _ g k reads (radix_after u v w d g k) step fits;
    }
