use Rattle.std.proofs.Common.{drop, length, ◌-◌, ◌+◌, ◌≡◌, ◌≤◌}
use Rattle.std.specs.List.{prefix_len}
use Rattle.lexical_literals.specs.Tokens.{is_skipped}
use Rattle.lexical_literals.proofs.bytes.long_skipped_length.Given as goal

abbrev pub invariant-loop-place : goal.invariant-loop-place
invariant-loop-place l = record {
  within : l.place ≤ length l.text;
  ahead : prefix_len is_skipped l.text ≡ l.place + prefix_len is_skipped (drop l.place l.text);
}

abbrev pub decreases-loop-place : goal.decreases-loop-place
decreases-loop-place l = length l.text - l.place
