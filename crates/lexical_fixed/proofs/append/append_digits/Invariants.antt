use Rattle.std.proofs.Common.{◌-◌, ◌≤◌, length, take}
use Rattle.lexical_fixed.specs.Append.{IsAppended}
use Rattle.lexical_fixed.proofs.append.append_digits.Given as goal

-- the digits before a place are behind the number
abbrev pub invariant-loop-place : goal.invariant-loop-place
invariant-loop-place g l = record {
  few : l.place ≤ length l.fn.digits;
  read : IsAppended g.T.Integer.TYPE l.fn.is_negative (g.T.Integer.number l.fn.number) (take l.place l.fn.digits) (g.T.Integer.number l.value);
}

abbrev pub decreases-loop-place : goal.decreases-loop-place
decreases-loop-place g l = length l.fn.digits - l.place
