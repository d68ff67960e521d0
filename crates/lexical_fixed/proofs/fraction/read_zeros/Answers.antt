use Rattle.std.proofs.Common.{arith, ap, ◌∙◌}
use Rattle.std.specs.Prelude.{Err}
use Rattle.lexical_fixed.proofs.Appended.{at_once_some}
use Rattle.lexical_fixed.proofs.Digits.{zeros_all, zeros_leave, zeros_more, zeros_none, zeros_sign}
use Rattle.lexical_fixed.proofs.fraction.read_zeros.Goals as goal

pub loop-done-init : goal.loop-done-init
loop-done-init g c = record { few = omega arith; read = zeros_none _ _ _ c.requires.sign }

pub append_part-requires-clause-sign : goal.append_part-requires-clause-sign
append_part-requires-clause-sign g c = zeros_sign _ _ _ _ _ c.loop-done.invariant.read

pub returns-in-None : goal.returns-in-None
returns-in-None g c =
    let most = at_once_some g.T.Integer.TYPE g.met.T.Integer.width_law in
    ap Err c.range_fault.ensures ∙ zeros_leave _ _ _ _ c.min-count.result _ c.args.place _ _ c.loop-done.invariant.read (omega (arith, c.min-count.ensures)) (omega (arith, most, c.min-count.ensures, c.digits_at_once.ensures)) (ap g.T.Integer.number c.ZERO.ensures ∙ g.met.T.Integer.zero_law) c.in-None.ensures

pub loop-done-preserved : goal.loop-done-preserved
loop-done-preserved g c = record {
  few = omega (arith, c.min-count.ensures);
  read = zeros_more _ _ _ _ c.min-count.result _ _ _ c.loop-done.invariant.read (ap g.T.Integer.number c.ZERO.ensures ∙ g.met.T.Integer.zero_law) c.in-Some.ensures;
}

pub returns : goal.returns
returns g c = zeros_all _ _ _ _ _ c.args.place _ c.loop-done.invariant.read (omega arith)
