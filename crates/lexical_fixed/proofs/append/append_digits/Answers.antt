use Rattle.std.proofs.Common.{arith}
use Rattle.lexical_fixed.proofs.Appended.{appended_more, appended_none, appended_sign, at_once_some}
use Rattle.lexical_fixed.proofs.append.append_digits.Goals as goal

pub loop-place-init : goal.loop-place-init
loop-place-init g c = record { few = omega arith; read = appended_none _ _ _ c.args.digits.now c.requires.sign }

pub append_part-requires-clause-sign : goal.append_part-requires-clause-sign
append_part-requires-clause-sign g c = appended_sign _ _ _ _ _ c.requires.sign c.loop-place.invariant.read

pub loop-place-preserved : goal.loop-place-preserved
loop-place-preserved g c =
    let most = at_once_some g.T.Integer.TYPE g.met.T.Integer.width_law in
    record {
      few = omega (arith, c.min-count.ensures);
      read = appended_more _ _ _ c.args.digits.now c.loop-place.place c.min-count.result _ _ _ c.requires.sign (omega (arith, c.min-count.ensures)) (omega (arith, most, c.min-count.ensures, c.digits_at_once.ensures)) c.loop-place.invariant.read c.in-Some.ensures c.in-Some-append_part.ensures;
    }
