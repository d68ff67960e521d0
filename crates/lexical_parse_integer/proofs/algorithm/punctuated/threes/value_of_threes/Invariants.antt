use Rattle.std.proofs.Common.{◌≡◌, ◌+◌, ◌-◌, ◌≤◌, length, take, true}
use Rattle.lexical_parse_integer.specs.Grouped.{AreWorth, is_digit_in}
use Rattle.lexical_parse_integer.proofs.punctuated.PartedFronts.{IsParted}
use Rattle.lexical_parse_integer.proofs.algorithm.punctuated.threes.value_of_threes.Given as goal

abbrev pub invariant-loop-place : goal.invariant-loop-place
invariant-loop-place g l = record {
  within : l.place ≤ length l.bytes;
  parted : IsParted 10 l.separator l.fn.format.integer_consecutive_digit_separator l.bytes l.place true;
  ends : is_digit_in 10 l.bytes (l.place - 1) ≡ true;
  worth : AreWorth g.T.Integer.TYPE 10 l.is_negative (take l.place l.bytes) (g.T.Integer.number l.value);
}

abbrev pub decreases-loop-place : goal.decreases-loop-place
decreases-loop-place g l = length l.bytes + 1 - l.place
