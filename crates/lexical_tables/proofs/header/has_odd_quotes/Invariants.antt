use Rattle.std.proofs.Common.{length, ◌-◌}
use Rattle.lexical_tables.proofs.LineSteps.{IsCounted}
use Rattle.lexical_tables.proofs.header.has_odd_quotes.Given as goal

-- the quotes among the first `place` bytes were counted
abbrev pub invariant-loop-place : goal.invariant-loop-place
invariant-loop-place l = IsCounted l.text l.place l.odd

abbrev pub decreases-loop-place : goal.decreases-loop-place
decreases-loop-place l = length l.text - l.place
