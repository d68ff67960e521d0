use Rattle.lexical_literals.proofs.KindLanes.{few_ahead, first_zero, no_zero}
use Rattle.lexical_literals.proofs.lanes.lanes_ahead.Goals as goal

pub returns-then-zeros-eq0-clause-value : goal.returns-then-zeros-eq0-clause-value
returns-then-zeros-eq0-clause-value c = no_zero c.args.lanes c.requires c.if-zeros-eq0.true

pub returns-clause-value : goal.returns-clause-value
returns-clause-value c = first_zero c.args.lanes c.requires c.if-zeros-eq0.false

pub returns-clause-within : goal.returns-clause-within
returns-clause-within c =
    rw (first_zero c.args.lanes c.requires c.if-zeros-eq0.false) (few_ahead c.args.lanes c.requires)
