use Rattle.std.proofs.Common.{length, ◌-◌}
use Rattle.lexical_fields.proofs.FieldEnds.{NoneBefore}
use Rattle.lexical_fields.proofs.split.field_length.Given as goal

-- no separator so far
abbrev pub invariant-loop-start : goal.invariant-loop-start
invariant-loop-start l = NoneBefore l.separator l.text l.start

abbrev pub decreases-loop-start : goal.decreases-loop-start
decreases-loop-start l = length l.text - l.start
