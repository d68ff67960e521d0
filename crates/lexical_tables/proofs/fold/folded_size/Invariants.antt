use Rattle.std.proofs.Common.{length, ◌-◌}
use Rattle.lexical_tables.proofs.FoldSteps.{IsFolded}
use Rattle.lexical_tables.proofs.fold.folded_size.Given as goal

-- the first `place` bytes were read, and `size` of them were counted
abbrev pub invariant-loop-place : goal.invariant-loop-place
invariant-loop-place l = IsFolded l.text l.place l.size l.is_odd

abbrev pub decreases-loop-place : goal.decreases-loop-place
decreases-loop-place l = length l.text - l.place
