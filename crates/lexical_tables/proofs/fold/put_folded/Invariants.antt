use Rattle.std.proofs.Common.{length, ◌-◌}
use Rattle.lexical_tables.proofs.FoldSteps.{IsFoldPut}
use Rattle.lexical_tables.proofs.fold.put_folded.Given as goal

-- the first `place` bytes were read, and `size` bytes were written
abbrev pub invariant-loop-place : goal.invariant-loop-place
invariant-loop-place l = IsFoldPut l.text l.place l.size l.is_odd l.initial.to l.to

abbrev pub decreases-loop-place : goal.decreases-loop-place
decreases-loop-place l = length l.text - l.place
