use Rattle.std.proofs.Common.{length, true, ◌-◌}
use Rattle.lexical_literals.specs.Groups.{WritesGroups}
use Rattle.lexical_literals.proofs.groups.read_runs.Given as goal

abbrev pub invariant-loop-place : goal.invariant-loop-place
invariant-loop-place l = WritesGroups true l.separator l.radix l.text l.start l.number l.place

abbrev pub decreases-loop-place : goal.decreases-loop-place
decreases-loop-place l = length l.text - l.place
