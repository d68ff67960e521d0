-- What keeps a value, and what rules one out.
use Rattle.std.specs.Char.{is_ascii_alphabetic}
use Rattle.std.specs.Prelude.{false, map, Some, ◌≡◌, ◌≢◌, ◌⊎◌, ◌+◌, ◌<◌, ◌≤◌, ℕ, length, take, Bool, true, not, List, filter, IsNone, IsSome, None, ℤ, Result, Ok, Err}
use Rattle.std.specs.Bool.{⊤}
use Rattle.lexical_util.specs.Ascii.{minus, plus}
use Rattle.lexical_util.specs.declared.error.Error.{Error}
use Rattle.lexical_util.specs.declared.error.Error.TheVariants.{Overflow, Underflow}
use Rattle.lexical_util.specs.Digit.{digit}
use Rattle.lexical_util.specs.Format.{Format}
use Rattle.lexical_util.specs.Number.{IntegerType}
use Rattle.lexical_util.specs.Validity.{lower_case}
use Rattle.lexical_parse_integer.specs.Affixes.{is_affix, named_radix}
use Rattle.lexical_parse_integer.specs.Grammar.{complete, digits_required}
use Rattle.lexical_parse_integer.specs.Laws.{SameFront}
use Rattle.lexical_literals.specs.Tokens.{TokenView, is_skipped}
use Rattle.lexical_laws.specs.Integer.{IsInteger, is_separator}

-- ---- types

-- an answer says that a value leaves its type
abbrev pub IsRangeFault : Result ℤ Error → Type 0
IsRangeFault (Err (Overflow place)) = ⊤
IsRangeFault (Err (Underflow place)) = ⊤
IsRangeFault answer = ⊥

-- ---- formats

-- where a flag is set, another one is too
abbrev pub Implies : Bool → Bool → Type 0
Implies flag other = flag ≡ true → other ≡ true

-- A format admits what a strict one does: it may have punctuation where that has none, let separators stand in more places,
-- and ask for less. Both choose radixes alike.
pub record AdmitsMore (strict loose : Format) : Type 0 where
  pub radix : loose.mantissa_radix ≡ strict.mantissa_radix
  pub literals : loose.literal_prefixes ≡ strict.literal_prefixes
  pub octal : loose.literal_octal_zero ≡ strict.literal_octal_zero
  pub separator : (strict.digit_separator ≡ None) ⊎ (loose.digit_separator ≡ strict.digit_separator)
  pub prefix : (strict.base_prefix ≡ None) ⊎ (loose.base_prefix ≡ strict.base_prefix)
  pub suffix : (strict.base_suffix ≡ None) ⊎ (loose.base_suffix ≡ strict.base_suffix)
  -- what may stand
  pub leading :
      Implies strict.integer_leading_digit_separator loose.integer_leading_digit_separator
  pub internal :
      Implies strict.integer_internal_digit_separator loose.integer_internal_digit_separator
  pub trailing :
      Implies strict.integer_trailing_digit_separator loose.integer_trailing_digit_separator
  pub consecutive :
      Implies strict.integer_consecutive_digit_separator loose.integer_consecutive_digit_separator
  pub behind_prefix :
      Implies strict.integer_prefix_digit_separator loose.integer_prefix_digit_separator
  -- what is asked for
  pub prefix_case : Implies loose.case_sensitive_base_prefix strict.case_sensitive_base_prefix
  pub suffix_case : Implies loose.case_sensitive_base_suffix strict.case_sensitive_base_suffix
  pub integer_digits : Implies loose.required_integer_digits strict.required_integer_digits
  pub mantissa_digits : Implies loose.required_mantissa_digits strict.required_mantissa_digits
  pub no_plus : Implies loose.no_positive_mantissa_sign strict.no_positive_mantissa_sign
  pub sign : Implies loose.required_mantissa_sign strict.required_mantissa_sign
  pub no_zeros : Implies loose.no_integer_leading_zeros strict.no_integer_leading_zeros

-- ---- faults

-- no text with the same bytes up to and including a place has a value
abbrev pub IsDead : Format → IntegerType → List ℕ → ℕ → Type 0
IsDead format type text place =
    (other : List ℕ) (value : ℤ) → SameFront (place + 1) text other
    → complete format type other ≢ Ok value

-- ---- later bytes

-- A byte is no part of a number: no digit of any radix, no sign, and none of the format's punctuation.
pub record IsForeign (format : Format) (byte : ℕ) : Type 0 where
  pub digit : digit 36 byte ≡ None
  pub plus : byte ≢ plus
  pub minus : byte ≢ minus
  pub separator : is_separator format byte ≡ false
  pub prefix : named_radix format (Some byte) ≡ None
  pub suffix : is_affix format.case_sensitive_base_suffix format.base_suffix (Some byte) ≡ false

-- ---- tokens of two sources

-- a token moved by `count` bytes
abbrev pub moved : ℕ → TokenView → TokenView
moved count token = record token { start = count + token.start; stop = count + token.stop }

-- A byte separates tokens: it is skipped and no part of a number, and in front of it a number that lacks its end is
-- read as at the end of a source, since there is no prefix, or a digit is asked for and there is a separator.
pub record PartsTokens (format : Format) (byte : ℕ) : Type 0 where
  pub skipped : is_skipped byte ≡ true
  pub foreign : IsForeign format byte
  pub ends : (IsNone format.base_prefix × (format.literal_prefixes ≡ false))
      ⊎ ((digits_required format ≡ true) × IsSome format.digit_separator)

-- ---- separators

-- a text without the bytes that are the separator
abbrev pub without_separators : Format → List ℕ → List ℕ
without_separators format text = filter (λ byte. not (is_separator format byte)) text

-- ---- letter case

-- two texts are the same but for letter case
abbrev pub AreAlike : List ℕ → List ℕ → Type 0
AreAlike text other = map lower_case text ≡ map lower_case other

-- A format ignores letter case: its prefix and its suffix do, and its separator is no letter.
pub record IgnoresCase (format : Format) : Type 0 where
  pub prefix : format.case_sensitive_base_prefix ≡ false
  pub suffix : format.case_sensitive_base_suffix ≡ false
  pub separator : (byte : ℕ) → format.digit_separator ≡ Some byte
      → is_ascii_alphabetic byte ≡ false

-- ---- fronts

-- The bytes before a place are an integer, and no text that goes on as this one does is: they are the longest front.
pub record IsLongestFront (format : Format) (type : IntegerType) (text : List ℕ) (value : ℤ)
    (place : ℕ) : Type 0 where
  pub within : place ≤ length text
  pub whole : IsInteger format type (take place text) value
  pub last : place < length text → IsDead format type text place
