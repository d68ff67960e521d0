-- Where the front that was read of a text stops: whether a digit stands there last.
use Rattle.std.specs.Prelude.{ℕ, ◌-◌, Bool, ◌&&◌, nat_lt, is_some, List}
use Rattle.lexical_parse_integer.specs.Runs.{digit_at}

-- whether a digit of the radix stands directly before a place
abbrev pub stops_after_digit : ℕ → List ℕ → ℕ → Bool
stops_after_digit radix text place = nat_lt 0 place && is_some (digit_at radix text (place - 1))
