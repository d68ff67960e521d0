-- How many turns a parser may take.
use Rattle.std.specs.Prelude.{◌≡◌, ℕ, ◌+◌, ◌-◌, ◌/◌, ◌%◌, ◌≤◌, Bool, false, if◌then◌else◌, nat_le, List, min, IsNone, MatchResult}
use Rattle.lexical_util.specs.Format.{Format}
use Rattle.lexical_util.specs.Number.{IntegerType, overflow_digits}
use Rattle.lexical_parse_integer.specs.Head.{head_of}
use Rattle.lexical_parse_integer.specs.Numeral.{numeral_behind, digit_count}

-- how many digits a word has for a type of this width: eight from 64 bits on, and four for 32 bits
unfoldable pub digits_per_word : ℕ → ℕ
digits_per_word bits = if nat_le 64 bits then 8 else 4

-- the greatest number of turns for `digits` digits, where words have `word` digits and are only
-- taken from the first `room` digits
abbrev pub turns_bound : ℕ → ℕ → ℕ → ℕ
turns_bound word room digits =
    min digits room / word + min digits room % word + (digits - min digits room)

-- few turns for a text: no more than the bound, for an effective radix of at most 10, and none at a sign's fault
abbrev pub HasFewTurns : Format → IntegerType → List ℕ → ℕ → Type 0
HasFewTurns format type text turns = MatchResult (head_of format type text)
    (λ head. head.radix ≤ 10
    → turns ≤ turns_bound (digits_per_word type.bits) (overflow_digits type head.radix)
    (digit_count (numeral_behind format text head)))
    (λ e. turns ≡ 0)

-- words are asked for: options and format admit them, and the type is wide enough
pub record AsksWords (bits : ℕ) (no_multi_digit : Bool) (format : Format) : Type 0 where
  pub multi : no_multi_digit ≡ false
  pub wide : 32 ≤ bits
  pub contiguous : IsNone format.digit_separator
