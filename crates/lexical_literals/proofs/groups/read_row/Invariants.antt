use Rattle.std.proofs.Common.{length, ◌-◌, ◌≤◌}
use Rattle.lexical_literals.specs.Groups.{AreDigitsBetween, WritesOn}
use Rattle.lexical_literals.proofs.groups.read_row.Given as goal

abbrev pub invariant-loop-place : goal.invariant-loop-place
invariant-loop-place l = record {
  forward : l.fn.from ≤ l.place;
  within : l.place ≤ length l.text;
  digits : AreDigitsBetween l.radix l.text l.fn.from l.place;
  number : WritesOn l.radix l.text l.fn.before l.fn.from l.number l.place;
}

abbrev pub decreases-loop-place : goal.decreases-loop-place
decreases-loop-place l = length l.text - l.place
