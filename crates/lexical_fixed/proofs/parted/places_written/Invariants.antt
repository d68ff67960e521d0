use Rattle.std.proofs.Common.{◌≡◌, ◌≤◌, ◌-◌, ◌+◌, ◌⊎◌, true}
use Rattle.lexical_fixed.proofs.parted.places_written.Given as goal

-- `count` digits fill all places, or fewer digits are taken
abbrev pub invariant-loop-count : goal.invariant-loop-count
invariant-loop-count l = (l.fn.format.places ≤ l.count) ⊎ (l.fn.format.takes_fewer ≡ true)

abbrev pub decreases-loop-count : goal.decreases-loop-count
decreases-loop-count l = l.most + 1 - l.count
