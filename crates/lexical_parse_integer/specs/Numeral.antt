-- The numeral in a text: its digits, where they stand, and what they are worth.
use Rattle.std.specs.Prelude.{ℕ, Bool, List, length, take, map, ℤ}
use Rattle.std.specs.Option.{unwrap_or}
use Rattle.lexical_util.specs.Format.{Format}
use Rattle.lexical_parse_integer.specs.Affixes.{numeral_stop}
use Rattle.lexical_parse_integer.specs.Head.{Head}
use Rattle.lexical_parse_integer.specs.Runs.{digit_at, end_of, places}
use Rattle.lexical_digits.specs.Value.{positional_value, with_sign}

-- A numeral in the region of a text.
pub record Numeral : Type 0 where
  -- the effective radix
  pub radix : ℕ
  -- the places of its digits, and their values
  pub places : List ℕ
  pub digits : List ℕ
  -- where it ends, and where reading stops
  pub ends : ℕ
  pub stop : ℕ

-- the numeral of a text in the region from start on
unfoldable pub numeral_in : Format → Bool → ℕ → List ℕ → ℕ → Numeral
numeral_in format is_prefixed radix text start = record {
  radix = radix;
  places = places format is_prefixed radix text start;
  digits = map (λ place. unwrap_or (digit_at radix text place) 0)
      (places format is_prefixed radix text start);
  ends = end_of format is_prefixed radix text start;
  stop = numeral_stop format is_prefixed radix text start;
}

-- the numeral of a text behind its head
abbrev pub numeral_behind : Format → List ℕ → Head → Numeral
numeral_behind format text head =
    numeral_in format head.is_prefixed head.radix text head.start

-- how many digits a numeral has
abbrev pub digit_count : Numeral → ℕ
digit_count numeral = length numeral.digits

-- the value of a numeral's first `count` digits, with the sign
abbrev pub front_value : Bool → Numeral → ℕ → ℤ
front_value is_negative numeral count =
    with_sign is_negative (positional_value numeral.radix (take count numeral.digits))

-- the value of all digits of a numeral, with the sign
abbrev pub numeral_value : Bool → Numeral → ℤ
numeral_value is_negative numeral = front_value is_negative numeral (digit_count numeral)
