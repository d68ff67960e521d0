-- Where the next digit of a numeral stands.
use Rattle.std.specs.Prelude.{◌≡◌, ℕ, ◌-◌, ◌≤◌, ◌<◌, Bool, true, false, nat_le, List, Some, None}
use Rattle.lexical_util.specs.Format.{Format}
use Rattle.lexical_parse_integer.specs.Runs.{digit_at, end_of, separator_at}
use Rattle.lexical_parse_integer.specs.declared.seek.Found.{Found}
use Rattle.lexical_parse_integer.specs.declared.seek.Found.TheVariants.{Digit, End}

-- whether a region lies behind a prefix, by where it starts: a prefix has two bytes, and a sign has one at most
abbrev pub starts_behind_prefix : ℕ → Bool
starts_behind_prefix start = nat_le 2 start

-- a separator is no digit
abbrev pub IsSeparatorNoDigit : Format → ℕ → List ℕ → Type 0
IsSeparatorNoDigit format radix text =
    (place : ℕ) → separator_at format text place ≡ true → digit_at radix text place ≡ None

-- a place is not within a run, but for its first byte
abbrev pub IsAtRunStart : Format → List ℕ → ℕ → ℕ → Type 0
IsAtRunStart format text start place =
    start < place → separator_at format text place ≡ true
    → separator_at format text (place - 1) ≡ false

-- no digit stands from one place to before another
abbrev pub HasNoDigit : ℕ → List ℕ → ℕ → ℕ → Type 0
HasNoDigit radix text from to =
    (place : ℕ) → from ≤ place → place < to → digit_at radix text place ≡ None

-- the least place of a digit of the numeral at or after a position, with its value; or none, and the end
abbrev pub Finds : Format → Bool → ℕ → List ℕ → ℕ → ℕ → Found → Type 0
Finds format is_prefixed radix text start position (Digit place value) =
    (position ≤ place) × (place < end_of format is_prefixed radix text start)
    × HasNoDigit radix text position place × (digit_at radix text place ≡ Some value)
Finds format is_prefixed radix text start position (End place) =
    (place ≡ end_of format is_prefixed radix text start) × HasNoDigit radix text position place
    × IsAtRunStart format text start place
