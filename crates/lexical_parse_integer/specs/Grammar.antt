-- The grammar of integers: what a text stands for under a format, or its first fault.
-- Each definition looks at the whole text. Places count bytes from 0.
use Rattle.std.specs.Prelude.{ℕ, ◌+◌, Bool, ◌&&◌, ◌||◌, not, if◌then◌else◌, ◌==◌, nat_lt, nat_le, List, [], ◌∷◌, ◌++◌, length, slice_index, find, ℤ, Option, Some, None, is_some, Result, Ok, Err}
use Rattle.std.specs.List.{range_with_len}
use Rattle.std.specs.Option.{option_map}
use Rattle.lexical_util.specs.declared.error.Error.{Error}
use Rattle.lexical_util.specs.declared.error.Error.TheVariants.{Overflow, Underflow, InvalidDigit, Empty, InvalidLeadingZeros}
use Rattle.lexical_util.specs.Format.{Format}
use Rattle.lexical_util.specs.Number.{IntegerType, is_number}
use Rattle.lexical_util.specs.Validity.{fault}
use Rattle.lexical_parse_integer.specs.Head.{Head, chooses_radix, head_of}
use Rattle.lexical_parse_integer.specs.Numeral.{Numeral, numeral_behind, digit_count, front_value, numeral_value}

-- ---- faults

-- a fault, where something is wrong
abbrev pub fault_if : Bool → Error → Option Error
fault_if is_wrong error = if is_wrong then Some error else None

-- the text ends behind its prefix
abbrev pub prefix_fault : List ℕ → Head → Option Error
prefix_fault text head =
    fault_if (head.is_prefixed && (head.start == length text)) (Empty (length text))

-- the numeral has two digits or more, of which the first is 0, the text hasn't chosen its radix, and the format forbids
-- that
abbrev pub zero_fault : Format → Bool → Numeral → Option Error
zero_fault format radix_chosen numeral =
    fault_if (((format.no_integer_leading_zeros && not radix_chosen)
    && nat_le 2 (digit_count numeral)) && (slice_index numeral.digits 0 == 0))
    (InvalidLeadingZeros (slice_index numeral.places 0))

-- the fault of a value that leaves the type at a place
abbrev pub range_error : Bool → ℕ → Error
range_error is_negative place = if is_negative then Underflow place else Overflow place

-- the first digit, by its index, such that the digits up to and with it have a value outside the type
abbrev pub first_outside : IntegerType → Bool → Numeral → Option ℕ
first_outside type is_negative numeral =
    find (λ index. not (is_number type (front_value is_negative numeral (index + 1))))
    (range_with_len 0 (digit_count numeral))

-- the value leaves the type: the fault stands at that digit's place
unfoldable pub range_fault : IntegerType → Bool → Numeral → Option Error
range_fault type is_negative numeral =
    option_map (λ index. range_error is_negative (slice_index numeral.places index))
    (first_outside type is_negative numeral)

-- whether the format asks for a digit
abbrev pub digits_required : Format → Bool
digits_required format = format.required_integer_digits || format.required_mantissa_digits

-- whether the numeral has no digit where the format asks for one
abbrev pub lacks_digits : Format → Numeral → Bool
lacks_digits format numeral = digits_required format && (digit_count numeral == 0)

-- the first of the faults, or the value where there is none
abbrev pub first_fault_or : {A : Type 0} → List (Option Error) → A → Result A Error
first_fault_or [] value = Ok value
first_fault_or (None ∷ faults) value = first_fault_or faults value
first_fault_or (Some error ∷ faults) value = Err error

-- ---- the two parsers

-- the faults that both parsers have, in their order
abbrev pub common_faults : Format → IntegerType → List ℕ → Head → Numeral → List (Option Error)
common_faults format type text head numeral =
    prefix_fault text head ∷ zero_fault format (chooses_radix head) numeral
    ∷ range_fault type head.is_negative numeral ∷ []

-- those that the complete parser has after them
abbrev pub complete_faults : Format → List ℕ → Numeral → List (Option Error)
complete_faults format text numeral =
    fault_if (nat_lt numeral.stop (length text)) (InvalidDigit numeral.stop)
    ∷ fault_if (lacks_digits format numeral) (Empty (length text)) ∷ []

-- those that the partial parser has after them
abbrev pub partial_faults : Format → List ℕ → Numeral → List (Option Error)
partial_faults format text numeral =
    fault_if (lacks_digits format numeral
    && (is_some format.digit_separator || (numeral.stop == length text))) (Empty numeral.stop) ∷ []

-- an answer by the head of a text, or the fault of its sign
abbrev pub after_head : {A : Type 0} → Result Head Error → (Head → Result A Error) → Result A Error
after_head (Ok head) answer = answer head
after_head (Err error) answer = Err error

-- what the whole text stands for
unfoldable pub complete : Format → IntegerType → List ℕ → Result ℤ Error
complete format type text = after_head (head_of format type text) (λ head.
    let numeral = numeral_behind format text head in
    first_fault_or
    (common_faults format type text head numeral ++ complete_faults format text numeral)
    (numeral_value head.is_negative numeral))

-- what the front of the text stands for, and the place at which reading stops
unfoldable pub partial : Format → IntegerType → List ℕ → Result (ℤ × ℕ) Error
partial format type text = after_head (head_of format type text) (λ head.
    let numeral = numeral_behind format text head in
    first_fault_or
    (common_faults format type text head numeral ++ partial_faults format text numeral)
    (numeral_value head.is_negative numeral, numeral.stop))

-- ---- formats that may be invalid

-- an answer where the format is valid, and else the fault of its first broken rule
abbrev pub if_valid : {A : Type 0} → Option Error → Result A Error → Result A Error
if_valid None answer = answer
if_valid (Some error) answer = Err error

-- what the whole text stands for, where the format is valid
abbrev pub complete_if_valid : Format → IntegerType → List ℕ → Result ℤ Error
complete_if_valid format type text = if_valid (fault format) (complete format type text)

-- what the front of the text stands for, where the format is valid
abbrev pub partial_if_valid : Format → IntegerType → List ℕ → Result (ℤ × ℕ) Error
partial_if_valid format type text = if_valid (fault format) (partial format type text)
