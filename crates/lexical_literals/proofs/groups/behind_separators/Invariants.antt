use Rattle.std.proofs.Common.{length, ◌-◌, ◌≤◌}
use Rattle.lexical_literals.specs.Groups.{AreSeparatorsBetween}
use Rattle.lexical_literals.proofs.groups.behind_separators.Given as goal

abbrev pub invariant-loop-place : goal.invariant-loop-place
invariant-loop-place l = record {
  forward : l.fn.from ≤ l.place;
  within : l.place ≤ length l.text;
  separators : AreSeparatorsBetween l.separator l.text l.fn.from l.place;
}

abbrev pub decreases-loop-place : goal.decreases-loop-place
decreases-loop-place l = length l.text - l.place
