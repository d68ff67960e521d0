-- Faults of a field, with their places counted from the start of the text.
use Rattle.std.specs.Prelude.{ℕ, ◌+◌, Result, Ok, Err}
use Rattle.lexical_util.specs.declared.error.Error.{Error}
use Rattle.lexical_util.specs.declared.error.Error.TheVariants.{Overflow, Underflow, InvalidDigit, Empty, MissingSign, InvalidPositiveSign, InvalidLeadingZeros, InvalidMantissaRadix, InvalidDigitSeparator, InvalidBasePrefix, InvalidBaseSuffix, InvalidPunctuation, InvalidLiteralPrefixes}

-- a fault of a field that starts at a place, with its own place counted from the text's start
abbrev pub error_in_text : ℕ → Error → Error
error_in_text start (Overflow place) = Overflow (start + place)
error_in_text start (Underflow place) = Underflow (start + place)
error_in_text start (InvalidDigit place) = InvalidDigit (start + place)
error_in_text start (Empty place) = Empty (start + place)
error_in_text start (MissingSign place) = MissingSign (start + place)
error_in_text start (InvalidPositiveSign place) = InvalidPositiveSign (start + place)
error_in_text start (InvalidLeadingZeros place) = InvalidLeadingZeros (start + place)
error_in_text start InvalidMantissaRadix = InvalidMantissaRadix
error_in_text start InvalidDigitSeparator = InvalidDigitSeparator
error_in_text start InvalidBasePrefix = InvalidBasePrefix
error_in_text start InvalidBaseSuffix = InvalidBaseSuffix
error_in_text start InvalidPunctuation = InvalidPunctuation
error_in_text start InvalidLiteralPrefixes = InvalidLiteralPrefixes

-- an answer for a field that starts at a place, with its fault's place counted from the text's start
abbrev pub in_text : {A : Type 0} → ℕ → Result A Error → Result A Error
in_text start (Ok found) = Ok found
in_text start (Err error) = Err (error_in_text start error)
