-- Columns with their answers.
use Rattle.std.specs.Prelude.{◌≡◌, codes, [], ◌∷◌, pos, false, true, Ok, Err}
use Rattle.std.proofs.Common.{refl}
use Rattle.lexical_util.specs.declared.error.Error.TheVariants.{Overflow, InvalidDigit, Empty, InvalidMantissaRadix}
use Rattle.lexical_util.specs.Format.{standard}
use Rattle.lexical_util.specs.Number.{IntegerType, integer_type}
use Rattle.lexical_parse_integer.specs.Computed.{grammar}
use Rattle.lexical_fields.specs.Columns.{answer_of, numbers_of}
use Rattle.lexical_fields.specs.Parts.{answers_of_parts, readable}
use Rattle.lexical_fields.specs.declared.columns.ColumnError.TheVariants.{InvalidField, InvalidFormat}

abbrev u8 : IntegerType
u8 = integer_type 8 false

-- `12,7,` gives two numbers and stops at its end
two_numbers : answer_of standard u8 4 44 (codes "12,7,") ≡ Ok (record { count = 2; stop = 5 })
unfolding grammar answer_of numbers_of
two_numbers = refl

-- these
two_numbers_are : numbers_of standard u8 4 44 (codes "12,7,") ≡ pos 12 ∷ pos 7 ∷ []
unfolding grammar answer_of numbers_of
two_numbers_are = refl

-- with room for one it stops at the second
room_for_one : answer_of standard u8 1 44 (codes "12,7,") ≡ Ok (record { count = 1; stop = 3 })
unfolding grammar answer_of numbers_of
room_for_one = refl

-- with none it stops at once, whatever stands there
no_room : answer_of standard u8 0 44 (codes "x") ≡ Ok (record { count = 0; stop = 0 })
unfolding grammar answer_of numbers_of
no_room = refl

-- a fault is told with the field's number and the place in the text
last_byte : answer_of standard u8 4 44 (codes "12,7x,1") ≡ Err (InvalidField 1 3 (InvalidDigit 4))
unfolding grammar answer_of numbers_of
last_byte = refl

-- what was read before it stands
last_byte_numbers : numbers_of standard u8 4 44 (codes "12,7x,1") ≡ pos 12 ∷ []
unfolding grammar answer_of numbers_of
last_byte_numbers = refl

-- an empty field has no digit
empty_field : answer_of standard u8 4 44 (codes "1,,2") ≡ Err (InvalidField 1 2 (Empty 2))
unfolding grammar answer_of numbers_of
empty_field = refl

-- 256 leaves `u8` with its last digit
too_great : answer_of standard u8 4 10 (49 ∷ 10 ∷ codes "256") ≡ Err (InvalidField 1 2 (Overflow 4))
unfolding grammar answer_of numbers_of
too_great = refl

-- a digit parts fields as any byte does
digit_separator : answer_of standard u8 4 48 (codes "1020") ≡ Ok (record { count = 2; stop = 4 })
unfolding grammar answer_of numbers_of
digit_separator = refl

-- an invalid format is told before all
invalid_format : answer_of (record standard { mantissa_radix = 1 }) u8 4 44 (codes "x")
    ≡ Err (InvalidFormat InvalidMantissaRadix)
unfolding grammar answer_of numbers_of
invalid_format = refl

-- ---- parts

-- of a part that more follows, the field that it cuts is left
cut_field : answer_of standard u8 4 44 (readable false 44 (codes "12,7")) ≡ Ok (record { count = 1; stop = 3 })
unfolding grammar answer_of numbers_of
cut_field = refl

-- the last part is read to its end
last_field : answer_of standard u8 4 44 (readable true 44 (codes "12,7")) ≡ Ok (record { count = 2; stop = 4 })
unfolding grammar answer_of numbers_of
last_field = refl

-- a part without a separator has no whole field, whatever stands there
no_whole_field : answer_of standard u8 4 44 (readable false 44 (codes "7x")) ≡ Ok (record { count = 0; stop = 0 })
unfolding grammar answer_of numbers_of
no_whole_field = refl

-- a number that is cut in two is one number, and a fault's place counts over all parts
two_parts : answers_of_parts standard u8 44 0 [] (codes "1,2" ∷ codes "3,x" ∷ [])
    ≡ Ok (pos 1) ∷ Ok (pos 23) ∷ Err (InvalidDigit 5) ∷ []
unfolding grammar
two_parts = refl
