use Rattle.std.proofs.Common.{◌-◌, ◌≤◌, length, take}
use Rattle.lexical_digits.specs.Words.{AreDigits}
use Rattle.lexical_parse_integer.proofs.algorithm.plain.faults.digits_in_front.Given as goal

abbrev pub invariant-loop-count : goal.invariant-loop-count
invariant-loop-count l = record {
  some : 8 ≤ l.count;
  within : l.count ≤ length l.text;
  digits : AreDigits 10 (take l.count l.text);
}

abbrev pub decreases-loop-count : goal.decreases-loop-count
decreases-loop-count l = length l.text - l.count
