use Rattle.std.proofs.Common.{arith}
use Rattle.lexical_literals.proofs.GroupedFronts.{not_past, other_here, separator_more, stands_here}
use Rattle.lexical_literals.proofs.groups.behind_separators.Goals as goal

pub loop-place-preserved : goal.loop-place-preserved
loop-place-preserved c =
    let inv = c.loop-place.invariant in
    let low = inv.forward in
    let here = stands_here c.args.text.now c.loop-place.place c.args.separator c.loop-place-test.true c.if-text-place.true in
    record {
      forward = omega arith;
      within = omega arith;
      separators = separator_more c.args.separator c.args.text.now c.args.from c.loop-place.place here inv.separators;
    }

pub returns-else-text-place-clause-ends : goal.returns-else-text-place-clause-ends
returns-else-text-place-clause-ends c =
    other_here c.args.text.now c.loop-place.place c.args.separator c.loop-place-test.true c.if-text-place.false

pub returns-after-loop-place-clause-ends : goal.returns-after-loop-place-clause-ends
returns-after-loop-place-clause-ends c =
    not_past c.args.text.now c.loop-place.place c.args.separator c.loop-place-test.false
