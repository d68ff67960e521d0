use Rattle.std.proofs.Common.{◌-◌, ◌≤◌}
use Rattle.lexical_fixed.proofs.Digits.{ZerosRead}
use Rattle.lexical_fixed.proofs.fraction.read_zeros.Given as goal

-- the first `done` zeros are read
abbrev pub invariant-loop-done : goal.invariant-loop-done
invariant-loop-done g l = record {
  few : l.done ≤ l.fn.zeros;
  read : ZerosRead g.T.Integer.TYPE l.fn.is_negative (g.T.Integer.number l.fn.number) l.done (g.T.Integer.number l.value);
}

abbrev pub decreases-loop-done : goal.decreases-loop-done
decreases-loop-done g l = l.fn.zeros - l.done
