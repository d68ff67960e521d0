use Rattle.lexical_fields.proofs.WholeFields.{NoneFrom}
use Rattle.lexical_fields.proofs.parts.whole_fields.Given as goal

-- no separator from there on
abbrev pub invariant-loop-size : goal.invariant-loop-size
invariant-loop-size l = NoneFrom l.separator l.text l.size

abbrev pub decreases-loop-size : goal.decreases-loop-size
decreases-loop-size l = l.size
