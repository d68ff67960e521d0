use Rattle.std.proofs.Common.{◌≡◌, ◌&&◌, ◌-◌, ◌<◌, ◌≤◌, ℕ, false, length, take}
use Rattle.lexical_tables.specs.Ends.{is_end}
use Rattle.lexical_tables.specs.Quotes.{has_odd_quotes}
use Rattle.lexical_tables.proofs.ends.far_end.Given as goal

-- the first `place` bytes were passed, and no cell ends there
abbrev pub invariant-loop-place : goal.invariant-loop-place
invariant-loop-place l =
    (l.place ≤ length l.text)
    × (l.is_within ≡ (l.has_quotes && has_odd_quotes (take l.place l.text)))
    × ((k : ℕ) → k < l.place → is_end l.has_quotes l.separator l.text k ≡ false)

abbrev pub decreases-loop-place : goal.decreases-loop-place
decreases-loop-place l = length l.text - l.place
