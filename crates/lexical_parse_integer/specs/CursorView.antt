-- What contracts see of a cursor, and what its calls do.
use Rattle.std.specs.Prelude.{◌≡◌, ◌⊎◌, ℕ, ◌+◌, ◌≤◌, ◌<◌, Bool, true, false, List, length, ◌&&◌, nat_lt, Option, Some, None, IsNone, IsSome}
use Rattle.lexical_util.specs.Digit.{IsRadix}
use Rattle.lexical_util.specs.Format.{Format}
use Rattle.lexical_util.specs.Validity.{fault}
use Rattle.lexical_parse_integer.specs.Affixes.{bare_radix, suffix_at, numeral_stop}
use Rattle.lexical_parse_integer.specs.Numeral.{Numeral, numeral_in}
use Rattle.lexical_parse_integer.specs.Runs.{digit_at, separator_at, end_of, places, digits_between}
use Rattle.lexical_parse_integer.specs.Seeking.{IsSeparatorNoDigit, IsAtRunStart, HasNoDigit, starts_behind_prefix}

-- A cursor in a text.
pub record CursorView : Type 0 where
  pub bytes : List ℕ
  pub format : Format
  -- whether a prefix was read, the effective radix, and where the numeral's region starts
  pub is_prefixed : Bool
  pub radix : ℕ
  pub start : ℕ
  pub position : ℕ
  -- how many digits were read
  pub digits : ℕ
  -- whether the suffix was read
  pub closed : Bool
  pub turns : ℕ
  -- which cursor it is: of two that were made, nothing says that they have the same
  pub identity : ℕ

-- the numeral in the cursor's region
abbrev pub numeral_of : CursorView → Numeral
numeral_of cursor =
    numeral_in cursor.format cursor.is_prefixed cursor.radix cursor.bytes cursor.start

-- where the numeral in the cursor's region ends
abbrev pub numeral_end : CursorView → ℕ
numeral_end cursor =
    end_of cursor.format cursor.is_prefixed cursor.radix cursor.bytes cursor.start

-- ---- what is true of each cursor

-- no byte that matches the suffix is a digit
abbrev pub IsSuffixNoDigit : Format → ℕ → List ℕ → Type 0
IsSuffixNoDigit format radix text =
    (place : ℕ) → suffix_at format text place ≡ true → digit_at radix text place ≡ None

-- no byte that matches the suffix is a separator
abbrev pub IsSuffixNoSeparator : Format → List ℕ → Type 0
IsSuffixNoSeparator format text =
    (place : ℕ) → suffix_at format text place ≡ true → separator_at format text place ≡ false

-- before the suffix is read the position is in the numeral or at its end, and not within a run
pub record IsOpen (cursor : CursorView) : Type 0 where
  pub before_end : cursor.position ≤ numeral_end cursor
  pub digits : cursor.digits
      ≡ length (digits_between cursor.radix cursor.bytes cursor.start cursor.position)
  pub at_run_start : IsAtRunStart cursor.format cursor.bytes cursor.start cursor.position

-- behind the suffix all digits are counted
pub record IsClosed (cursor : CursorView) : Type 0 where
  pub behind_end : cursor.position ≡ numeral_end cursor + 1
  pub digits : cursor.digits
      ≡ length (places cursor.format cursor.is_prefixed cursor.radix cursor.bytes cursor.start)
  pub some_digit : 0 < cursor.digits
  pub at_stop : cursor.position
      ≡ numeral_stop cursor.format cursor.is_prefixed cursor.radix cursor.bytes cursor.start

-- what is true of each cursor
pub record IsSound (cursor : CursorView) : Type 0 where
  pub valid : IsNone (fault cursor.format)
  pub radix : IsRadix cursor.radix
  pub separator : IsSeparatorNoDigit cursor.format cursor.radix cursor.bytes
  pub suffix_digit : IsSuffixNoDigit cursor.format cursor.radix cursor.bytes
  pub suffix_separator : IsSuffixNoSeparator cursor.format cursor.bytes
  -- no prefix has changed the radix, but an octal zero at the start may have
  pub effective : cursor.is_prefixed ≡ false
      → (cursor.radix ≡ cursor.format.mantissa_radix)
      ⊎ (cursor.radix ≡ bare_radix cursor.format cursor.bytes cursor.start)
  -- and where the format has neither literal prefixes nor octal zeros, nothing changes it
  pub own : cursor.format.literal_prefixes ≡ false → cursor.format.literal_octal_zero ≡ false
      → cursor.radix ≡ cursor.format.mantissa_radix
  pub prefixed : cursor.is_prefixed ≡ starts_behind_prefix cursor.start
  pub after_start : cursor.start ≤ cursor.position
  pub within : cursor.position ≤ length cursor.bytes
  pub turns : cursor.turns ≤ cursor.digits
  pub while_open : cursor.closed ≡ false → IsOpen cursor
  pub once_closed : cursor.closed ≡ true → IsClosed cursor

-- ---- what its calls do

-- a cursor behind a prefix that puts an effective radix, and as it is where there is none
abbrev pub behind_prefix : CursorView → Option ℕ → CursorView
behind_prefix cursor None = cursor
behind_prefix cursor (Some radix) =
    record cursor {
      is_prefixed = true;
      radix = radix;
      start = cursor.position + 2;
      position = cursor.position + 2;
    }

-- the next digit is taken, with its value
pub record TakesDigit (old new : CursorView) (value : ℕ) : Type 0 where
  -- the least place of a digit of the numeral, at or after the position
  pub place : ℕ
  pub from : old.position ≤ place
  pub least : HasNoDigit old.radix old.bytes old.position place
  pub before_end : place < numeral_end old
  pub value_is : digit_at old.radix old.bytes place ≡ Some value
  pub after : new ≡ record old {
    position = place + 1;
    digits = old.digits + 1;
    turns = old.turns + 1;
  }

-- no digit of the numeral is left, and the cursor stands at its end
pub record ReachesEnd (old new : CursorView) : Type 0 where
  pub none_left : HasNoDigit old.radix old.bytes old.position (numeral_end old)
  pub after : new ≡ record old { position = numeral_end old }

-- the next `count` bytes are digits
abbrev pub AreDigitsAhead : CursorView → ℕ → Type 0
AreDigitsAhead cursor count =
    (place : ℕ) → cursor.position ≤ place → place < cursor.position + count
    → IsSome (digit_at cursor.radix cursor.bytes place)

-- whether a read of the suffix moves the cursor behind it: a digit was read, and the suffix stands at the position
abbrev pub closes : CursorView → Bool
closes cursor = nat_lt 0 cursor.digits && suffix_at cursor.format cursor.bytes cursor.position
