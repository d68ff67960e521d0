use Rattle.std.proofs.Common.{◌≡◌, ◌<◌, ◌≤◌, get_or, pos, sym, ap, ◌∙◌, arith, Some, false}
use Rattle.lexical_util.proofs.Room.{small_is_number}
use Rattle.lexical_util.specs.Digit.{digit, digit_value}
use Rattle.lexical_util.specs.Number.{mul_add}
use Rattle.lexical_digits.proofs.DigitValues.{digit_below}
use Rattle.lexical_digits.proofs.RadixFronts.{next_fits, next_read}
use Rattle.lexical_digits.proofs.table.number_by_table.Goals as goal

pub from_u32-requires : goal.from_u32-requires
from_u32-requires g c =
    let is : digit c.args.radix (get_or c.args.digits.now c.loop-byte.byte-index 0) ≡ Some c.in-Some.digit = sym c.in-Some.ensures in
    let low : c.in-Some.digit < c.args.radix = digit_below c.args.radix (digit_value (get_or c.args.digits.now c.loop-byte.byte-index 0)) c.in-Some.digit is in
    let high : c.args.radix ≤ 36 = c.requires.radix.high in
    small_is_number _ _ c.in-Some.digit g.met.T.Integer.width_law (omega arith)

pub mul_add-value-requires-clause-fits : goal.mul_add-value-requires-clause-fits
mul_add-value-requires-clause-fits g c =
    let is : digit c.args.radix (get_or c.args.digits.now c.loop-byte.byte-index 0) ≡ Some c.in-Some.digit = sym c.in-Some.ensures in
    let low : 2 ≤ c.args.radix = c.requires.radix.low in
    next_fits _ c.args.radix c.args.most c.loop-byte.byte-index c.in-Some.digit c.args.digits.now (g.T.Integer.number c.loop-byte.value) _ c.requires.room (omega arith) c.loop-byte.invariant.writes (omega (arith, c.loop-byte-test.true)) c.requires.few is
    (ap (λ z. mul_add false (g.T.Integer.number c.loop-byte.value) z (g.T.Integer.number c.from_u32.result)) c.loop-byte.invariant.scale ∙ ap (λ z. mul_add false (g.T.Integer.number c.loop-byte.value) (pos c.args.radix) z) c.from_u32.ensures)

pub loop-byte-preserved : goal.loop-byte-preserved
loop-byte-preserved g c =
    let is : digit c.args.radix (get_or c.args.digits.now c.loop-byte.byte-index 0) ≡ Some c.in-Some.digit = sym c.in-Some.ensures in
    record {
      writes = next_read c.args.radix c.loop-byte.byte-index c.in-Some.digit c.args.digits.now (g.T.Integer.number c.loop-byte.value) _ c.loop-byte.invariant.writes (omega (arith, c.loop-byte-test.true)) is
          (c.mul_add-value.ensures ∙ ap (λ z. mul_add false (g.T.Integer.number c.loop-byte.value) z (g.T.Integer.number c.from_u32.result)) c.loop-byte.invariant.scale ∙ ap (λ z. mul_add false (g.T.Integer.number c.loop-byte.value) (pos c.args.radix) z) c.from_u32.ensures);
      scale = c.loop-byte.invariant.scale;
    }
