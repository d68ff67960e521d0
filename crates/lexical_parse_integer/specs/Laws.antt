-- What the definitions of the grammar come to, and the laws of the parsers' answers.
use Rattle.std.specs.Prelude.{◌≡◌, ◌↔◌, ℕ, suc, ◌+◌, ◌≤◌, ◌<◌, Bool, true, false, List, ◌∷◌, ◌++◌, length, take, map, replicate, nat_lt, if◌then◌else◌, ℤ, pos, negsuc, Some, IfSome, IsSome, Result, Ok, Err}
use Rattle.std.specs.Bool.{⊤}
use Rattle.lexical_util.specs.Ascii.{digit_zero, minus}
use Rattle.lexical_util.specs.declared.error.Error.{Error}
use Rattle.lexical_util.specs.declared.error.Error.TheVariants.{Empty, InvalidDigit, Overflow, Underflow}
use Rattle.lexical_util.specs.Digit.{digit}
use Rattle.lexical_util.specs.Faults.{place_of}
use Rattle.lexical_util.specs.Format.{Format, standard}
use Rattle.lexical_util.specs.Number.{IntegerType, IsNumber}
use Rattle.lexical_parse_integer.specs.Grammar.{complete, partial}
use Rattle.lexical_parse_integer.specs.Head.{Head, chooses_radix, head_of}
use Rattle.lexical_parse_integer.specs.Numeral.{digit_count, numeral_behind}
use Rattle.lexical_parse_integer.specs.Runs.{digit_at, separator_at, is_in_numeral, end_of, run_begin, run_stop}
use Rattle.lexical_parse_integer.specs.Seeking.{HasNoDigit}
use Rattle.lexical_parse_integer.specs.Stops.{stops_after_digit}
use Rattle.lexical_digits.specs.Value.{positional_value}

-- ---- ends and runs

-- the end is the greatest place such that each place from start to before it belongs to the numeral
pub record IsGreatestEnd (format : Format) (is_prefixed : Bool) (radix : ℕ) (text : List ℕ)
    (start : ℕ) : Type 0 where
  pub from : start ≤ end_of format is_prefixed radix text start
  pub within : end_of format is_prefixed radix text start ≤ length text
  pub belong : (place : ℕ) → start ≤ place → place < end_of format is_prefixed radix text start
      → is_in_numeral format is_prefixed radix text start place ≡ true
  pub greatest : (end : ℕ) → end ≤ length text
      → ((place : ℕ) → start ≤ place → place < end
      → is_in_numeral format is_prefixed radix text start place ≡ true)
      → end ≤ end_of format is_prefixed radix text start

-- the run of a separator holds its place and separators alone, and no longer stretch of the region that holds the
-- place does
pub record IsLongestRun (format : Format) (text : List ℕ) (start place : ℕ) : Type 0 where
  pub from : start ≤ run_begin format text start place
  pub holds_first : run_begin format text start place ≤ place
  pub holds_last : place < run_stop format text place
  pub within : run_stop format text place ≤ length text
  pub separators : (at : ℕ) → run_begin format text start place ≤ at
      → at < run_stop format text place → separator_at format text at ≡ true
  pub longest_before : (begin : ℕ) → start ≤ begin → begin ≤ place
      → ((at : ℕ) → begin ≤ at → at < place → separator_at format text at ≡ true)
      → run_begin format text start place ≤ begin
  pub longest_behind : (stop : ℕ) → place < stop → stop ≤ length text
      → ((at : ℕ) → place ≤ at → at < stop → separator_at format text at ≡ true)
      → stop ≤ run_stop format text place

-- ---- fronts and their digits

-- of a text with neither a prefix nor an octal zero: a digit stands directly before the place of its front exactly
-- where the numeral has one
abbrev pub TellsDigits : Format → IntegerType → List ℕ → Type 0
TellsDigits format type text = (head : Head) (value : ℤ) (place : ℕ)
    → head_of format type text ≡ Ok head → chooses_radix head ≡ false
    → partial format type text ≡ Ok (value, place)
    → stops_after_digit format.mantissa_radix text place
    ≡ nat_lt 0 (digit_count (numeral_behind format text head))

-- ---- complete and partial

-- what the complete parser answers for a text of this size, by what the partial one does
abbrev pub completion_of : ℕ → Result (ℤ × ℕ) Error → Result ℤ Error
completion_of size (Ok found) =
    if nat_lt found.1 size then Err (InvalidDigit found.1)
    else Ok found.0
completion_of size (Err (Empty place)) =
    if nat_lt place size then Err (InvalidDigit place)
    else Err (Empty place)
completion_of size (Err error) = Err error

-- whether a fault is that digits are missing
abbrev pub is_empty : Error → Bool
is_empty (Empty place) = true
is_empty error = false

-- What the whole of a text of this size stands for, by what its front does.
pub record Completes (size : ℕ) (whole : Result ℤ Error) (front : Result (ℤ × ℕ) Error) : Type 0
  where
    -- the whole is read exactly where the front is all of it
    pub ok : (value : ℤ) → (whole ≡ Ok value) ↔ (front ≡ Ok (value, size))
    -- a byte behind the front is an invalid digit
    pub left : (value : ℤ) (place : ℕ) → front ≡ Ok (value, place) → place < size
        → whole ≡ Err (InvalidDigit place)
    -- a fault is the same, unless it is that digits are missing
    pub fault : (error : Error) → front ≡ Err error → is_empty error ≡ false → whole ≡ Err error
    -- digits are missing at the end
    pub empty : front ≡ Err (Empty size) → whole ≡ Err (Empty size)
    -- a byte stands where they are missing
    pub empty_left : (place : ℕ) → front ≡ Err (Empty place) → place < size
        → whole ≡ Err (InvalidDigit place)

-- ---- range faults

-- a value that leaves its type does so at a place within a text of this size
abbrev pub LeavesWithin : {A : Type 0} → ℕ → Result A Error → Type 0
LeavesWithin size (Ok found) = ⊤
LeavesWithin size (Err (Overflow place)) = place < size
LeavesWithin size (Err (Underflow place)) = place < size
LeavesWithin size (Err error) = ⊤

-- ---- places of faults

-- a fault of a text of this size stands within it or at its end; a fault of a format has no place
abbrev pub StandsWithin : ℕ → Error → Type 0
StandsWithin size error = IfSome (place_of error) (λ place. place ≤ size)

-- ---- locality

-- The partial answer of a text of this size is settled at a place: the front ends there, before the text does, or
-- a value leaves the type there.
abbrev pub IsSettledAt : ℕ → ℕ → Result (ℤ × ℕ) Error → Type 0
IsSettledAt size place (Ok found) = (found.1 ≡ place) × (place < size)
IsSettledAt size place (Err (Overflow at)) = at ≡ place
IsSettledAt size place (Err (Underflow at)) = at ≡ place
IsSettledAt size place (Err error) = ⊥

-- two texts have the same first `count` bytes
abbrev pub SameFront : ℕ → List ℕ → List ℕ → Type 0
SameFront count text other = take count text ≡ take count other

-- an answer that is settled at a place is that of each text with the same bytes up to and including it
abbrev pub IsLocal : Format → IntegerType → Type 0
IsLocal format type =
    (text other : List ℕ) (place : ℕ) → IsSettledAt (length text) place (partial format type text)
    → SameFront (place + 1) text other → partial format type other ≡ partial format type text

-- ---- numerals

-- the standard format in another radix
abbrev pub with_radix : ℕ → Format
with_radix radix = record standard { mantissa_radix = radix }

-- A text that consists of digits, in either letter case, and has this value.
pub record Writes (radix number : ℕ) (text : List ℕ) : Type 0 where
  -- the values of its bytes: each is a digit
  pub digits : List ℕ
  pub bytes : map (λ byte. digit radix byte) text ≡ map Some digits
  pub some : 0 < length text
  pub worth : positional_value radix digits ≡ number

-- It has as few digits as such a text can have.
pub record WritesShortest (radix number : ℕ) (text : List ℕ) : Type 0 where
  pub writes : Writes radix number text
  pub shortest : (other : List ℕ) → Writes radix number other → length text ≤ length other

-- A text is the shortest numeral of a value: one below 0 has a minus in front.
abbrev pub IsNumeralOf : ℕ → ℤ → List ℕ → Type 0
IsNumeralOf radix (pos number) text = WritesShortest radix number text
IsNumeralOf radix (negsuc number) text =
    (digits : List ℕ) × (text ≡ minus ∷ digits) × WritesShortest radix (suc number) digits

-- each numeral of a number of the type is read back
abbrev pub ReadsNumerals : ℕ → IntegerType → Type 0
ReadsNumerals radix type =
    (value : ℤ) (text : List ℕ) → IsNumber type value → IsNumeralOf radix value text
    → complete (with_radix radix) type text ≡ Ok value

-- ---- zeros in front

-- A text with zeros put before its first digit.
pub record PadsZeros (text padded : List ℕ) : Type 0 where
  pub front : List ℕ
  pub rest : List ℕ
  pub zeros : ℕ
  pub text_is : text ≡ front ++ rest
  pub padded_is : padded ≡ front ++ (replicate zeros digit_zero ++ rest)
  -- the first digit stands behind the front
  pub no_digit_before : HasNoDigit 10 text 0 (length front)
  pub digit_behind : IsSome (digit_at 10 text (length front))

-- they leave the value of a text that is read
abbrev pub ReadsPadded : IntegerType → Type 0
ReadsPadded type =
    (text padded : List ℕ) (value : ℤ) → PadsZeros text padded
    → complete standard type text ≡ Ok value → complete standard type padded ≡ Ok value
