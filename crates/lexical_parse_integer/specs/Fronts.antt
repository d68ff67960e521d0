-- The number in front of a text: the answer of its front, where a digit was read.
use Rattle.std.specs.Prelude.{ℕ, Bool, true, false, nat_lt, List, ℤ, Result, Ok, Err}
use Rattle.lexical_util.specs.declared.error.Error.{Error}
use Rattle.lexical_util.specs.declared.error.Error.TheVariants.{Empty}
use Rattle.lexical_util.specs.Format.{Format}
use Rattle.lexical_util.specs.Number.{IntegerType}
use Rattle.lexical_util.specs.Validity.{fault}
use Rattle.lexical_parse_integer.specs.Grammar.{if_valid, partial}
use Rattle.lexical_parse_integer.specs.Head.{Head, head_of}
use Rattle.lexical_parse_integer.specs.Numeral.{digit_count, numeral_behind}

-- whether a digit stands behind a head
abbrev pub has_digit_behind : Format → List ℕ → Result Head Error → Bool
has_digit_behind format text (Ok head) =
    nat_lt 0 (digit_count (numeral_behind format text head))
has_digit_behind format text (Err error) = false

-- whether the numeral of a text has a digit
abbrev pub has_digit : Format → IntegerType → List ℕ → Bool
has_digit format type text = has_digit_behind format text (head_of format type text)

-- the answer of a front in which a digit was read or not: without one it is Empty where reading stopped
abbrev pub if_digit : Bool → Result (ℤ × ℕ) Error → Result (ℤ × ℕ) Error
if_digit true answer = answer
if_digit false (Ok (value, place)) = Err (Empty place)
if_digit false (Err error) = Err error

-- the number in front of a text, and the place at which reading stops
abbrev pub number_in_front : Format → IntegerType → List ℕ → Result (ℤ × ℕ) Error
number_in_front format type text = if_digit (has_digit format type text) (partial format type text)

-- the number in front of a text, where the format is valid
abbrev pub number_in_front_if_valid : Format → IntegerType → List ℕ → Result (ℤ × ℕ) Error
number_in_front_if_valid format type text =
    if_valid (fault format) (number_in_front format type text)
