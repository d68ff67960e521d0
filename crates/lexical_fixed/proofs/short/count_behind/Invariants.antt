use Rattle.std.proofs.Common.{◌≤◌, ◌-◌}
use Rattle.lexical_fixed.proofs.short.count_behind.Given as goal

-- a digit stands behind the point
abbrev pub invariant-loop-count : goal.invariant-loop-count
invariant-loop-count l = 1 ≤ l.count

abbrev pub decreases-loop-count : goal.decreases-loop-count
decreases-loop-count l = l.places - l.count
