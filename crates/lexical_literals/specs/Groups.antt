-- Numbers as most languages write them: with separators between two digits, and behind `0x`, `0o` or `0b`.
use Rattle.std.specs.Prelude.{◌≡◌, ◌+◌, ◌-◌, ◌<◌, ◌≤◌, ◌==◌, ℕ, Bool, true, false, List, map, None, Ok, Some, is_some, length, slice_get, slice_index, unwrap_or}
use Rattle.lexical_digits.specs.Value.{positional_value}
use Rattle.lexical_util.specs.Ascii.{digit_zero}
use Rattle.lexical_util.specs.Digit.{digit}
use Rattle.lexical_util.specs.Format.{Format}
use Rattle.lexical_util.specs.Number.{integer_type}
use Rattle.lexical_parse_integer.specs.Head.{head_of}
use Rattle.lexical_parse_integer.specs.Runs.{digit_at, digits_between}

-- whether a digit of the radix stands at a place
abbrev pub has_digit : ℕ → List ℕ → ℕ → Bool
has_digit radix text place = is_some (digit_at radix text place)

-- the number that the digits between two places of a text write
unfoldable pub number_between : ℕ → List ℕ → ℕ → ℕ → ℕ
number_between radix text from to =
    positional_value radix
    (map (λ place. unwrap_or (digit_at radix text place) 0) (digits_between radix text from to))

-- if the digits from any start to `from` write `before`, those from that start to `to` write `number`
abbrev pub WritesOn : ℕ → List ℕ → ℕ → ℕ → ℕ → ℕ → Type 0
WritesOn radix text before from number to =
    (start : ℕ) → start ≤ from → before ≡ number_between radix text start from
    → number ≡ number_between radix text start to

-- all between two places are digits of the radix
abbrev pub AreDigitsBetween : ℕ → List ℕ → ℕ → ℕ → Type 0
AreDigitsBetween radix text from to =
    (place : ℕ) → from ≤ place → place < to → has_digit radix text place ≡ true

-- Digits in a row from a start to before a stop, one at least, and the number that they write.
pub record WritesRow (radix : ℕ) (text : List ℕ) (start number stop : ℕ) : Type 0 where
  pub some : start < stop
  pub within : stop ≤ length text
  pub digits : AreDigitsBetween radix text start stop
  pub writes : number ≡ number_between radix text start stop

-- all between two places are separators
abbrev pub AreSeparatorsBetween : ℕ → List ℕ → ℕ → ℕ → Type 0
AreSeparatorsBetween separator text from to =
    (place : ℕ) → from ≤ place → place < to → slice_get text place ≡ Some separator

-- A place lies in a run of separators, with a digit of the radix before the run and one behind it, and so behind the
-- start. The run is one separator, unless it may be many.
pub record Parts (many : Bool) (separator radix : ℕ) (text : List ℕ) (start place : ℕ)
    : Type 0 where
  pub from : ℕ
  pub to : ℕ
  pub behind : start < from
  pub low : from ≤ place
  pub high : place < to
  pub run : AreSeparatorsBetween separator text from to
  pub before : has_digit radix text (from - 1) ≡ true
  pub after : has_digit radix text to ≡ true
  pub alone : many ≡ false → to ≡ from + 1

-- from a start to before a stop stand digits, and between them such runs
abbrev pub AreGroups : Bool → ℕ → ℕ → List ℕ → ℕ → ℕ → Type 0
AreGroups many separator radix text start stop =
    (place : ℕ) → start ≤ place → place < stop → has_digit radix text place ≡ false
    → Parts many separator radix text start place

-- Such groups, at least one digit, and the number that they write. They end with a digit, or stop in front of one.
pub record WritesGroups (many : Bool) (separator radix : ℕ) (text : List ℕ) (start number stop : ℕ)
    : Type 0 where
  pub some : start < stop
  pub within : stop ≤ length text
  pub groups : AreGroups many separator radix text start stop
  pub writes : number ≡ number_between radix text start stop
  pub last : has_digit radix text stop ≡ false → has_digit radix text (stop - 1) ≡ true

-- What stands before a numeral of a radix: no sign, and an optional prefix. Without a prefix, no rule forbids a zero in
-- front, if there is one. The separator is no digit, and the format has no suffix.
pub record StartsAt (format : Format) (is_prefixed : Bool) (radix : ℕ) (text : List ℕ) (start : ℕ)
    : Type 0 where
  pub head : head_of format (integer_type 128 false) text
      ≡ Ok (record {
        is_negative = false;
        is_prefixed = is_prefixed;
        is_octal = false;
        start = start;
        radix = radix;
      })
  pub zeros : is_prefixed ≡ false → (slice_index text start == digit_zero) ≡ true
      → format.no_integer_leading_zeros ≡ false
  pub separator : (byte : ℕ) → format.digit_separator ≡ Some byte → digit radix byte ≡ None
  pub no_suffix : format.base_suffix ≡ None
