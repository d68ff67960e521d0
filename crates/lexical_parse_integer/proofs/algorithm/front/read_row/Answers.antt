use Rattle.std.proofs.Common.{◌≡◌, ℕ, Bool, ap, arith, pos, sym, ◌∙◌}
use Rattle.std.specs.Prelude.{ℤ}
use Rattle.lexical_util.specs.Number.{is_number, mul_add}
use Rattle.lexical_util.proofs.Room.{small_is_number}
use Rattle.lexical_parse_integer.proofs.reading.DigitsRead.{reads_sign}
use Rattle.lexical_parse_integer.proofs.reading.FrontAnswers.{digit_here, next_fits, next_reads, next_sound}
use Rattle.lexical_parse_integer.proofs.reading.NumeralSteps.{digit_at_below}
use Rattle.lexical_parse_integer.proofs.algorithm.front.read_row.Goals as goal

pub from_u32-requires : goal.from_u32-requires
from_u32-requires g c =
    let below = digit_at_below _ _ _ _ (sym c.in-Some.ensures) in
    let high = c.requires.first.radix.high in
    small_is_number _ _ c.in-Some.digit g.met.T.Integer.width_law (omega arith)

-- the step by the numbers that the radix and the digit are
step : (b : Bool) (value scale add : ℤ) (r d : ℕ) → scale ≡ pos r → add ≡ pos d → mul_add b value scale add ≡ mul_add b value (pos r) (pos d)
step b value scale add r d radix digit = ap (λ z. mul_add b value z add) radix ∙ ap (λ z. mul_add b value (pos r) z) digit

pub mul_add-value-requires-clause-fits : goal.mul_add-value-requires-clause-fits
mul_add-value-requires-clause-fits g c =
    let i = c.loop-count.invariant in
    let here = digit_here _ _ c.args.bytes.now _ _ _ _ _ i.sound (sym c.in-Some.ensures) in
    ap (is_number g.T.Integer.TYPE) (step _ _ _ _ _ _ c.from_u32-radix.ensures c.from_u32.ensures)
    ∙ next_fits _ _ c.args.bytes.now _ _ _ _ c.overflow_digits-most.result _ _ c.loop-count.end _ _ c.requires.first i.sound here c.overflow_digits-most.ensures.room c.requires.minus c.loop-count-test.true i.reads

pub mul_add-value-requires-clause-sign : goal.mul_add-value-requires-clause-sign
mul_add-value-requires-clause-sign g c = reads_sign _ _ _ _ _ c.loop-count.invariant.reads

pub loop-count-preserved : goal.loop-count-preserved
loop-count-preserved g c =
    let i = c.loop-count.invariant in
    let here = digit_here _ _ c.args.bytes.now _ _ _ _ _ i.sound (sym c.in-Some.ensures) in
    let fits = next_fits _ _ c.args.bytes.now _ _ _ _ c.overflow_digits-most.result _ _ c.loop-count.end _ _ c.requires.first i.sound here c.overflow_digits-most.ensures.room c.requires.minus c.loop-count-test.true i.reads in
    let next = c.mul_add-value.ensures ∙ step _ _ _ _ _ _ c.from_u32-radix.ensures c.from_u32.ensures in
    let forward = i.forward in
    record {
      sound = next_sound _ _ c.args.bytes.now _ _ _ _ c.loop-count.end _ i.sound here;
      reads = next_reads _ _ c.args.bytes.now _ _ _ _ _ _ c.loop-count.end _ _ _ i.sound here i.reads next (ap (is_number g.T.Integer.TYPE) next ∙ fits);
      forward = omega arith;
    }
