use Rattle.std.proofs.Common.{drop, length, ◌-◌, ◌+◌, ◌≡◌, ◌≤◌}
use Rattle.lexical_literals.specs.Tokens.{word_length}
use Rattle.lexical_literals.proofs.bytes.long_word_length.Given as goal

abbrev pub invariant-loop-place : goal.invariant-loop-place
invariant-loop-place l = record {
  within : l.place ≤ length l.text;
  ahead : word_length l.text ≡ l.place + word_length (drop l.place l.text);
}

abbrev pub decreases-loop-place : goal.decreases-loop-place
decreases-loop-place l = length l.text - l.place
