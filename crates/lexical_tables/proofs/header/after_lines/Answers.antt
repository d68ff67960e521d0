use Rattle.std.proofs.Common.{inl, inr, arith}
use Rattle.std.proofs.lemmas.Bool.Decides.{nat_tests}
use Rattle.lexical_tables.proofs.LineSteps.{way_ends, way_goes}
use Rattle.lexical_tables.proofs.header.after_lines.Goals.{then-loop-left-test+else-not-is_empty, else-loop-left-test}
use Rattle.lexical_tables.proofs.header.after_lines.Goals as goal

pub loop-left-preserved : goal.loop-left-preserved
loop-left-preserved c =
    way_goes c.args.dialect.now.has_quotes c.args.text.now c.args.count c.loop-left.left c.loop-left.rest.now
    c.behind_line-rest.result.now c.loop-left.invariant (grind (arith, nat_tests)) c.behind_line-rest.ensures.behind
    c.behind_line-rest.ensures.left

pub returns-clause-value : goal.returns-clause-value
returns-clause-value c =
    way_ends c.args.dialect.now.has_quotes c.args.text.now c.args.count c.loop-left.left c.loop-left.rest.now c.loop-left.invariant
    (elim c.loop-left-test.branch [
      | then-loop-left-test+else-not-is_empty w ↦ inr (grind (arith, nat_tests))
      | else-loop-left-test w ↦ inl (grind (arith, nat_tests))
    ])
