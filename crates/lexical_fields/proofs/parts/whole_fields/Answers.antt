use Rattle.std.proofs.Common.{arith}
use Rattle.std.proofs.lemmas.Bool.Decides.{nat_tests}
use Rattle.lexical_fields.proofs.WholeFields.{whole_is}
use Rattle.lexical_fields.proofs.parts.whole_fields.Goals as goal

pub loop-size-init : goal.loop-size-init
loop-size-init c = record { within = omega arith; none = λ k high low. absurd (omega (arith, high, low)) }

pub returns-else-text-size-clause-value : goal.returns-else-text-size-clause-value
returns-else-text-size-clause-value c =
    whole_is c.args.separator c.args.text.now c.loop-size.size c.loop-size.invariant
    (λ k is. grind (arith, nat_tests))

pub returns-after-loop-size-clause-value : goal.returns-after-loop-size-clause-value
returns-after-loop-size-clause-value c =
    whole_is c.args.separator c.args.text.now c.loop-size.size c.loop-size.invariant
    (λ k is. absurd (grind (arith, nat_tests)))
