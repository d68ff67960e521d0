use Rattle.std.proofs.Common.{◌*◌, ◌^◌, length, pos, neg_ℤ, ◌≤ℤ◌}
use Rattle.uses.proofs.Sums.{IsSum}
use Rattle.uses.proofs.ledger.total.Given as goal

abbrev pub invariant-loop-line : goal.invariant-loop-line
invariant-loop-line l = record {
  can_next : (goal.iterator-loop-line).can_next l.line-iterator;
  is_finite : (goal.iterator-loop-line).is_finite l.line-iterator;
  read : IsSum l.text (length l.yielded) l.sum;
  low : neg_ℤ (pos (2 ^ 63 * length l.yielded)) ≤ℤ l.sum;
  high : l.sum ≤ℤ pos (2 ^ 63 * length l.yielded);
}
