-- What a call does: what it answers, and the number that it leaves behind the pointer.
use Rattle.std.specs.Prelude.{ℕ, ℤ, true, false, List, length, Option, Some, None, Result, Ok, Err, if◌then◌else◌}
use Rattle.lexical_util.specs.Faults.{place_of}
use Rattle.lexical_util.specs.Format.{standard}
use Rattle.lexical_util.specs.Number.{IntegerType, integer_type}
use Rattle.lexical_util.specs.Validity.{fault}
use Rattle.lexical_util.specs.declared.error.Error.{Error}
use Rattle.lexical_util.specs.declared.error.Error.TheVariants.{Overflow, Underflow, InvalidDigit, Empty, MissingSign, InvalidPositiveSign, InvalidLeadingZeros, InvalidMantissaRadix, InvalidDigitSeparator, InvalidBasePrefix, InvalidBaseSuffix, InvalidPunctuation, InvalidLiteralPrefixes}
use Rattle.lexical_parse_integer.specs.Fronts.{number_in_front, number_in_front_if_valid}
use Rattle.lexical_parse_integer.specs.Grammar.{complete, complete_if_valid, partial, partial_if_valid}
use Rattle.jadvolni.specs.FormatFields.{are_known, format_of}
use Rattle.jadvolni.specs.declared.format.FormatFields.{FormatFields}
use Rattle.jadvolni.specs.declared.outcome.Outcome.{Outcome}

-- A status, a place, and the number that the caller has afterwards.
pub record Effect : Type 0 where
  pub status : ℕ
  pub place : ℕ
  pub number : ℤ

-- what a call did, by its result and by the number behind the pointer
abbrev pub effect : Outcome → ℤ → Effect
effect result number = record { status = result.status; place = result.place; number = number }

-- ---- statuses

-- the status of a fault; 0 is that of a value
abbrev pub fault_status : Error → ℕ
fault_status (Overflow place) = 1
fault_status (Underflow place) = 2
fault_status (InvalidDigit place) = 3
fault_status (Empty place) = 4
fault_status (MissingSign place) = 5
fault_status (InvalidPositiveSign place) = 6
fault_status (InvalidLeadingZeros place) = 7
fault_status InvalidMantissaRadix = 8
fault_status InvalidDigitSeparator = 9
fault_status InvalidBasePrefix = 10
fault_status InvalidBaseSuffix = 11
fault_status InvalidPunctuation = 12
fault_status InvalidLiteralPrefixes = 13

-- the status of a format with a byte that only a later version knows
abbrev pub unknown_field : ℕ
unknown_field = 64

-- the place of a fault, and 0 where it has none
abbrev pub fault_place : Option ℕ → ℕ
fault_place (Some place) = place
fault_place None = 0

-- ---- effects

-- a number was read as far as the place
abbrev pub reads : ℕ → ℤ → Effect
reads place number = record { status = 0; place = place; number = number }

-- a fault leaves the number that was there before
abbrev pub refuses : ℤ → Error → Effect
refuses before error = record {
  status = fault_status error;
  place = fault_place (place_of error);
  number = before;
}

-- the effect of what a whole text of this length stands for
abbrev pub complete_effect : ℕ → ℤ → Result ℤ Error → Effect
complete_effect size before (Ok number) = reads size number
complete_effect size before (Err error) = refuses before error

-- the effect of what a text's front stands for
abbrev pub partial_effect : ℤ → Result (ℤ × ℕ) Error → Effect
partial_effect before (Ok found) = reads found.1 found.0
partial_effect before (Err error) = refuses before error

-- an effect where this version knows each byte of the format
abbrev pub if_known : FormatFields → ℤ → Effect → Effect
if_known fields before known =
    if are_known fields then known
    else record { status = unknown_field; place = 0; number = before }

-- ---- the six calls of a type

-- the unsigned type with this many bits
abbrev pub unsigned : ℕ → IntegerType
unsigned bits = integer_type bits false

-- the signed type with this many bits
abbrev pub signed : ℕ → IntegerType
signed bits = integer_type bits true

-- reading the whole text, where the number `before` was there
abbrev pub complete_call : IntegerType → List ℕ → ℤ → Effect
complete_call type text before = complete_effect (length text) before (complete standard type text)

-- reading the text's front
abbrev pub partial_call : IntegerType → List ℕ → ℤ → Effect
partial_call type text before = partial_effect before (partial standard type text)

-- reading the whole text under a format
abbrev pub complete_call_under : FormatFields → IntegerType → List ℕ → ℤ → Effect
complete_call_under fields type text before =
    if_known fields before
    (complete_effect (length text) before (complete_if_valid (format_of fields) type text))

-- reading the text's front under a format
abbrev pub partial_call_under : FormatFields → IntegerType → List ℕ → ℤ → Effect
partial_call_under fields type text before =
    if_known fields before
    (partial_effect before (partial_if_valid (format_of fields) type text))

-- reading the number in front of the text
abbrev pub front_call : IntegerType → List ℕ → ℤ → Effect
front_call type text before = partial_effect before (number_in_front standard type text)

-- reading the number in front of the text under a format
abbrev pub front_call_under : FormatFields → IntegerType → List ℕ → ℤ → Effect
front_call_under fields type text before =
    if_known fields before
    (partial_effect before (number_in_front_if_valid (format_of fields) type text))

-- ---- formats

-- the status of a format: that of its first broken rule, and 0 where there is none
abbrev pub rule_status : Option Error → ℕ
rule_status None = 0
rule_status (Some error) = fault_status error

-- the status of a format as C writes it
abbrev pub format_status : FormatFields → ℕ
format_status fields =
    if are_known fields then rule_status (fault (format_of fields)) else unknown_field
