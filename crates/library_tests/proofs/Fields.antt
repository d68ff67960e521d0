-- Texts with their fields and columns.
use Rattle.std.specs.Prelude.{◌≡◌, ℕ, ℤ, List, [], ◌∷◌, map, codes, pos, true, false, Some, Result, Ok, Err}
use Rattle.std.proofs.Common.{refl}
use Rattle.lexical_util.specs.declared.error.Error.{Error}
use Rattle.lexical_util.specs.declared.error.Error.TheVariants.{Overflow, Underflow, InvalidDigit, Empty, MissingSign, InvalidPositiveSign, InvalidLeadingZeros, InvalidMantissaRadix, InvalidDigitSeparator, InvalidBasePrefix, InvalidBaseSuffix, InvalidPunctuation, InvalidLiteralPrefixes}
use Rattle.lexical_util.specs.Format.{Format, standard}
use Rattle.lexical_util.specs.Number.{IntegerType, integer_type}
use Rattle.lexical_parse_integer.specs.Computed.{grammar}
use Rattle.lexical_fields.specs.Columns.{answer_of, numbers_of}
use Rattle.lexical_fields.specs.Parts.{whole_fields}
use Rattle.lexical_fields.specs.Places.{error_in_text}
use Rattle.lexical_fields.specs.ReadFields.{read_fields}
use Rattle.lexical_fields.specs.declared.columns.Column.{Column}
use Rattle.lexical_fields.specs.declared.columns.ColumnError.{ColumnError}
use Rattle.lexical_fields.specs.declared.columns.ColumnError.TheVariants.{InvalidField, InvalidFormat}
use Rattle.library_tests.proofs.Tables.{Reads}

-- ---- fields

-- where each field of `u8` starts, its bytes, and what it stands for
abbrev bytes_between : ℕ → List ℕ → List (ℕ × List ℕ × Result ℤ Error)
bytes_between separator text =
    map (λ field. (field.start, field.text, field.answer)) (read_fields standard (integer_type 8 false) separator text)

a_last_separator_starts_no_field : Reads (bytes_between 44) (
    (codes "12,7", (0, codes "12", Ok (pos 12)) ∷ (3, codes "7", Ok (pos 7)) ∷ []) ∷
    (codes "12,7,", (0, codes "12", Ok (pos 12)) ∷ (3, codes "7", Ok (pos 7)) ∷ []) ∷
    (codes "", []) ∷
    [])
unfolding grammar
a_last_separator_starts_no_field = refl

a_last_line_feed_starts_no_field : Reads (bytes_between 10) (
    (codes "12\n7\n", (0, codes "12", Ok (pos 12)) ∷ (3, codes "7", Ok (pos 7)) ∷ []) ∷
    [])
unfolding grammar
a_last_line_feed_starts_no_field = refl

fields_go_on_behind_a_fault : Reads (bytes_between 44) ((
  codes "12,,256,7x,+,9",
  (0, codes "12", Ok (pos 12)) ∷ (3, [], Err (Empty 3)) ∷ (4, codes "256", Err (Overflow 6))
      ∷ (8, codes "7x", Err (InvalidDigit 9)) ∷ (11, codes "+", Err (Empty 12)) ∷ (13, codes "9", Ok (pos 9)) ∷ [],
) ∷
    [])
unfolding grammar
fields_go_on_behind_a_fault = refl

a_wrong_format_is_told_of_each_field : read_fields (record standard { mantissa_radix = 1 }) (integer_type 8 false) 44 (codes "0,")
    ≡ record { start = 0; text = codes "0"; answer = Err InvalidMantissaRadix } ∷ []
unfolding grammar
a_wrong_format_is_told_of_each_field = refl

places_count_from_the_start_of_the_text : Reads (error_in_text 10) (
    (Overflow 2, Overflow 12) ∷ (Underflow 3, Underflow 13) ∷ (InvalidDigit 0, InvalidDigit 10) ∷
    (Empty 1, Empty 11) ∷ (MissingSign 0, MissingSign 10) ∷ (InvalidPositiveSign 0, InvalidPositiveSign 10) ∷
    (InvalidLeadingZeros 1, InvalidLeadingZeros 11) ∷ (InvalidMantissaRadix, InvalidMantissaRadix) ∷
    (InvalidDigitSeparator, InvalidDigitSeparator) ∷ (InvalidBasePrefix, InvalidBasePrefix) ∷
    (InvalidBaseSuffix, InvalidBaseSuffix) ∷ (InvalidPunctuation, InvalidPunctuation) ∷
    (InvalidLiteralPrefixes, InvalidLiteralPrefixes) ∷ [])
places_count_from_the_start_of_the_text = refl

-- ---- columns

-- what is answered, and the numbers that the room then holds in front
abbrev column : Format → IntegerType → ℕ → ℕ → List ℕ → Result Column ColumnError × List ℤ
column format type room separator text =
    (answer_of format type room separator text, numbers_of format type room separator text)

abbrev u64 : IntegerType
u64 = integer_type 64 false

-- `count` numbers were read, and reading stopped at `stop`
abbrev read : ℕ → ℕ → Result Column ColumnError
read count stop = Ok (record { count = count; stop = stop })

numbers_stand_at_the_front : Reads (column standard u64 3 44) (
    (codes "12,7,", (read 2 5, pos 12 ∷ pos 7 ∷ [])) ∷
    [])
unfolding grammar answer_of numbers_of
numbers_stand_at_the_front = refl

a_digit_parts_fields : Reads (column standard u64 3 48) (
    (codes "1020", (read 2 4, pos 1 ∷ pos 2 ∷ [])) ∷
    [])
unfolding grammar answer_of numbers_of
a_digit_parts_fields = refl

no_more_than_there_is_room_for : Reads (column standard u64 1 44) (
    (codes "12,x", (read 1 3, pos 12 ∷ [])) ∷
    [])
unfolding grammar answer_of numbers_of
no_more_than_there_is_room_for = refl

the_first_fault_is_told : Reads (column standard (integer_type 8 true) 3 44) (
    (codes "12,-7x,x", (Err (InvalidField 1 3 (InvalidDigit 5)), pos 12 ∷ [])) ∷
    [])
unfolding grammar answer_of numbers_of
the_first_fault_is_told = refl

empty_fields_are_faults : Reads (column standard u64 2 44) (
    (codes ",,,", (Err (InvalidField 0 0 (Empty 0)), [])) ∷
    [])
unfolding grammar answer_of numbers_of
empty_fields_are_faults = refl

-- the separator of the column is the format's suffix
the_format_is_that_of_each_field : Reads (column (record standard
    { digit_separator = Some 95; integer_internal_digit_separator = true; base_suffix = Some 104 }) u64 3 104) (
    (codes "1_2h4h", (read 2 6, pos 12 ∷ pos 4 ∷ [])) ∷
    [])
unfolding grammar answer_of numbers_of
the_format_is_that_of_each_field = refl

an_invalid_format_is_told_first : Reads (column (record standard { mantissa_radix = 1 }) u64 3 44) (
    (codes "1", (Err (InvalidFormat InvalidMantissaRadix), [])) ∷
    [])
unfolding grammar answer_of numbers_of
an_invalid_format_is_told_first = refl

-- ---- parts

whole_fields_end_behind_the_last_separator : Reads (whole_fields 44) (
    (codes "", 0) ∷ (codes "1", 0) ∷ (codes ",", 1) ∷ (codes "1,23", 2) ∷ (codes "1,2,", 4) ∷ [])
whole_fields_end_behind_the_last_separator = refl
