use Rattle.std.proofs.Common.{length, ◌-◌}
use Rattle.lexical_tables.specs.Looks.{IsPassed}
use Rattle.lexical_tables.proofs.quotes.length_by_bytes.Given as goal

-- the first `place` bytes were passed
abbrev pub invariant-loop-place : goal.invariant-loop-place
invariant-loop-place l = IsPassed l.separator l.text l.place l.is_within

abbrev pub decreases-loop-place : goal.decreases-loop-place
decreases-loop-place l = length l.text - l.place
