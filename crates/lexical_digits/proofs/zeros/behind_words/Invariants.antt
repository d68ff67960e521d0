use Rattle.std.proofs.Common.{◌≡◌, ◌<◌, ◌≤◌, ◌-◌, ℕ, get_or, length}
use Rattle.lexical_util.specs.Ascii.{digit_zero}
use Rattle.lexical_digits.proofs.zeros.behind_words.Given as goal

abbrev pub invariant-loop-at : goal.invariant-loop-at
invariant-loop-at l = record {
  from : l.fn.start ≤ l.at;
  within : l.at ≤ length l.fn.text;
  zeros : (k : ℕ) → l.fn.start ≤ k → k < l.at → get_or l.fn.text k 0 ≡ digit_zero;
}

abbrev pub decreases-loop-at : goal.decreases-loop-at
decreases-loop-at l = length l.fn.text - l.at
