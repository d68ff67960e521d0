-- What was passed of a text, and what marks tell.
use Rattle.std.specs.Prelude.{◌≡◌, ◌≢◌, ◌+◌, ◌<◌, ◌≤◌, ℕ, zero, suc, Bool, List, length, take}
use Rattle.std.specs.Int.{bit_at}
use Rattle.lexical_tables.specs.Quotes.{has_odd_quotes, seen_at}

-- how many bits of a number are set below a place
abbrev pub bits_below : ℕ → ℕ → ℕ
bits_below marks zero = 0
bits_below marks (suc place) = bits_below marks place + bit_at marks place

-- No separator outside quotes is among the first `place` bytes of a text, and `is_within` says
-- whether the next byte stands within quotes.
pub record IsPassed (separator : ℕ) (text : List ℕ) (place : ℕ) (is_within : Bool) : Type 0 where
  pub low : place ≤ length text
  pub within : is_within ≡ has_odd_quotes (take place text)
  pub none : (k : ℕ) → k < place → seen_at separator text k ≢ separator
