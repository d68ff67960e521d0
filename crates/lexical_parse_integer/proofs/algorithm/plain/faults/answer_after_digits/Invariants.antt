use Rattle.std.proofs.Common.{◌-◌, ◌≤◌, length, take}
use Rattle.lexical_digits.specs.WrittenNumbers.{StandsFor}
use Rattle.lexical_parse_integer.proofs.algorithm.plain.faults.answer_after_digits.Given as goal

abbrev pub invariant-loop-count : goal.invariant-loop-count
invariant-loop-count g l = record {
  some : 1 ≤ l.count;
  within : l.count ≤ length l.digits;
  writes : StandsFor g.T.Integer.TYPE 10 l.is_negative (take l.count l.digits) (g.T.Integer.number l.value);
}

abbrev pub decreases-loop-count : goal.decreases-loop-count
decreases-loop-count g l = length l.digits - l.count
