use Rattle.lexical_tables.proofs.LineSteps.{IsOnTheWay}
use Rattle.lexical_tables.proofs.header.after_lines.Given as goal

-- `left` lines are left to step over
abbrev pub invariant-loop-left : goal.invariant-loop-left
invariant-loop-left l = IsOnTheWay l.dialect.has_quotes l.text l.count l.left l.rest

abbrev pub decreases-loop-left : goal.decreases-loop-left
decreases-loop-left l = l.left
