-- Worked texts with their answers, each by hand: what a whole text stands for, and what its front does.
use Rattle.std.proofs.Common.{◌≡◌, None, Some, Ok, Err, codes, refl, true, false}
use Rattle.std.proofs.Math.IntN.{pos, negsuc}
use Rattle.lexical_util.specs.declared.error.Error.TheVariants.{Empty, InvalidDigit, InvalidDigitSeparator, InvalidLeadingZeros, InvalidMantissaRadix, InvalidPositiveSign, MissingSign, Overflow, Underflow}
use Rattle.lexical_util.specs.Format.{json, standard}
use Rattle.lexical_util.specs.Number.{IntegerType, integer_type}
use Rattle.lexical_parse_integer.specs.Computed.{grammar}
use Rattle.lexical_fixed.specs.Computed.{fixed_grammar}
use Rattle.lexical_fixed.specs.Fixed.{Fixed}
use Rattle.lexical_fixed.specs.Grammar.{complete_fixed, partial_fixed}
use Rattle.lexical_fixed.specs.Validity.{fixed_fault}
use Rattle.lexical_fixed.specs.declared.error.FixedFormatError.TheVariants.{Affix, Integer, Places, Point, Radix}
use Rattle.lexical_parse_integer.specs.Runs.{are_same}

abbrev i8 : IntegerType
i8 = integer_type 8 true

abbrev u8 : IntegerType
u8 = integer_type 8 false

abbrev i64 : IntegerType
i64 = integer_type 64 true

abbrev u64 : IntegerType
u64 = integer_type 64 false

abbrev i128 : IntegerType
i128 = integer_type 128 true

abbrev u128 : IntegerType
u128 = integer_type 128 false

-- two places behind a `.`, or fewer
abbrev cents : Fixed
cents = record { integer = standard; point = 46; places = 2; takes_fewer = true }

-- two places behind a `.`, no fewer
abbrev exact : Fixed
exact = record cents { takes_fewer = false }

-- no places
abbrev units : Fixed
units = record cents { places = 0 }

-- `,` between groups, two places behind a `.`
abbrev grouped : Fixed
grouped = record cents {
  integer = record standard { digit_separator = Some 44; integer_internal_digit_separator = true };
}

-- `.` between groups, exactly two places behind a `,`
abbrev german : Fixed
german = record {
  integer = record standard { digit_separator = Some 46; integer_internal_digit_separator = true };
  point = 44;
  places = 2;
  takes_fewer = false;
}

-- no plus and no zero in front, as in JSON
abbrev strict : Fixed
strict = record cents { integer = json }

-- the integer part may have no digit
abbrev bare : Fixed
bare = record cents { integer = record standard { required_mantissa_digits = false } }

-- a sign is required
abbrev signed : Fixed
signed = record cents { integer = record standard { required_mantissa_sign = true } }

-- ---- whole texts that are numbers

both_places : complete_fixed cents i64 (codes "12.50") ≡ Ok (pos 1250)
unfolding grammar fixed_grammar
both_places = refl

one_place_of_two : complete_fixed cents i64 (codes "12.5") ≡ Ok (pos 1250)
unfolding grammar fixed_grammar
one_place_of_two = refl

no_place_of_two : complete_fixed cents i64 (codes "12") ≡ Ok (pos 1200)
unfolding grammar fixed_grammar
no_place_of_two = refl

both_asked_for : complete_fixed exact i64 (codes "12.50") ≡ Ok (pos 1250)
unfolding grammar fixed_grammar
both_asked_for = refl

a_minus_before_zero : complete_fixed cents i64 (codes "-0.05") ≡ Ok (negsuc 4)
unfolding grammar fixed_grammar
a_minus_before_zero = refl

a_minus_before_nothing : complete_fixed cents i64 (codes "-0.00") ≡ Ok (pos 0)
unfolding grammar fixed_grammar
a_minus_before_nothing = refl

a_plus : complete_fixed cents i64 (codes "+1.00") ≡ Ok (pos 100)
unfolding grammar fixed_grammar
a_plus = refl

zeros_in_front : complete_fixed cents i64 (codes "00.5") ≡ Ok (pos 50)
unfolding grammar fixed_grammar
zeros_in_front = refl

one_zero_in_front : complete_fixed strict i64 (codes "0.5") ≡ Ok (pos 50)
unfolding grammar fixed_grammar
one_zero_in_front = refl

groups_of_three : complete_fixed grouped u64 (codes "1,234.00") ≡ Ok (pos 123400)
unfolding grammar fixed_grammar
groups_of_three = refl

groups_with_points : complete_fixed german i64 (codes "-1.234,50") ≡ Ok (negsuc 123449)
unfolding grammar fixed_grammar
groups_with_points = refl

group_behind_two_digits : complete_fixed grouped i64 (codes "12,345.67") ≡ Ok (pos 1234567)
unfolding grammar fixed_grammar
group_behind_two_digits = refl

two_groups : complete_fixed german i64 (codes "-1.234.567,89") ≡ Ok (negsuc 123456788)
unfolding grammar fixed_grammar
two_groups = refl

no_integer_digit : complete_fixed bare i64 (codes ".5") ≡ Ok (pos 50)
unfolding grammar fixed_grammar
no_integer_digit = refl

no_digit_at_all : complete_fixed bare i64 (codes "") ≡ Ok (pos 0)
unfolding grammar fixed_grammar
no_digit_at_all = refl

no_integer_digit_behind_a_minus : complete_fixed bare i64 (codes "-.25") ≡ Ok (negsuc 24)
unfolding grammar fixed_grammar
no_integer_digit_behind_a_minus = refl

without_places : complete_fixed units i64 (codes "-12") ≡ Ok (negsuc 11)
unfolding grammar fixed_grammar
without_places = refl

a_sign_as_asked : complete_fixed signed i64 (codes "-1.5") ≡ Ok (negsuc 149)
unfolding grammar fixed_grammar
a_sign_as_asked = refl

-- ---- at the ends of types

i8_least : complete_fixed cents i8 (codes "-1.28") ≡ Ok (negsuc 127)
unfolding grammar fixed_grammar
i8_least = refl

i8_below_least : complete_fixed cents i8 (codes "-1.29") ≡ Err (Underflow 4)
unfolding grammar fixed_grammar
i8_below_least = refl

i8_greatest : complete_fixed cents i8 (codes "1.27") ≡ Ok (pos 127)
unfolding grammar fixed_grammar
i8_greatest = refl

i8_above_greatest : complete_fixed cents i8 (codes "1.28") ≡ Err (Overflow 3)
unfolding grammar fixed_grammar
i8_above_greatest = refl

u8_by_a_zero_that_is_not_written : complete_fixed cents u8 (codes "2.6") ≡ Err (Overflow 3)
unfolding grammar fixed_grammar
u8_by_a_zero_that_is_not_written = refl

u8_by_the_first_of_two : complete_fixed cents u8 (codes "30") ≡ Err (Overflow 2)
unfolding grammar fixed_grammar
u8_by_the_first_of_two = refl

u8_by_a_zero_behind_digits : complete_fixed cents u8 (codes "3") ≡ Err (Overflow 1)
unfolding grammar fixed_grammar
u8_by_a_zero_behind_digits = refl

i8_by_zeros_behind_a_minus : complete_fixed cents i8 (codes "-2") ≡ Err (Underflow 2)
unfolding grammar fixed_grammar
i8_by_zeros_behind_a_minus = refl

u8_in_its_integer_part : complete_fixed cents u8 (codes "256.00") ≡ Err (Overflow 2)
unfolding grammar fixed_grammar
u8_in_its_integer_part = refl

u8_before_a_byte_that_cannot_stand : complete_fixed cents u8 (codes "2.56x") ≡ Err (Overflow 3)
unfolding grammar fixed_grammar
u8_before_a_byte_that_cannot_stand = refl

u8_a_byte_before_the_zeros : complete_fixed cents u8 (codes "3x") ≡ Err (InvalidDigit 1)
unfolding grammar fixed_grammar
u8_a_byte_before_the_zeros = refl

u64_has_no_minus : complete_fixed cents u64 (codes "-1.00") ≡ Err (InvalidDigit 0)
unfolding grammar fixed_grammar
u64_has_no_minus = refl

u64_greatest : complete_fixed cents u64 (codes "184467440737095516.15") ≡ Ok (pos 18446744073709551615)
unfolding grammar fixed_grammar
u64_greatest = refl

u64_above_greatest : complete_fixed cents u64 (codes "184467440737095516.16") ≡ Err (Overflow 20)
unfolding grammar fixed_grammar
u64_above_greatest = refl

i64_least : complete_fixed cents i64 (codes "-92233720368547758.08") ≡ Ok (negsuc 9223372036854775807)
unfolding grammar fixed_grammar
i64_least = refl

i64_below_least : complete_fixed cents i64 (codes "-92233720368547758.09") ≡ Err (Underflow 20)
unfolding grammar fixed_grammar
i64_below_least = refl

i64_greatest : complete_fixed cents i64 (codes "92233720368547758.07") ≡ Ok (pos 9223372036854775807)
unfolding grammar fixed_grammar
i64_greatest = refl

i64_above_greatest : complete_fixed cents i64 (codes "92233720368547758.1") ≡ Err (Overflow 19)
unfolding grammar fixed_grammar
i64_above_greatest = refl

i128_least : complete_fixed cents i128 (codes "-1701411834604692317316873037158841057.28") ≡ Ok (negsuc 170141183460469231731687303715884105727)
unfolding grammar fixed_grammar
i128_least = refl

u128_greatest : complete_fixed (record cents { places = 38 }) u128 (codes "3.40282366920938463463374607431768211455") ≡ Ok (pos 340282366920938463463374607431768211455)
unfolding grammar fixed_grammar
u128_greatest = refl

u128_above_greatest : complete_fixed (record cents { places = 38 }) u128 (codes "3.40282366920938463463374607431768211456") ≡ Err (Overflow 39)
unfolding grammar fixed_grammar
u128_above_greatest = refl

-- ---- whole texts that are none

empty : complete_fixed cents i64 (codes "") ≡ Err (Empty 0)
unfolding grammar fixed_grammar
empty = refl

a_sign_alone : complete_fixed cents i64 (codes "-") ≡ Err (Empty 1)
unfolding grammar fixed_grammar
a_sign_alone = refl

two_signs : complete_fixed cents i64 (codes "--1") ≡ Err (InvalidDigit 1)
unfolding grammar fixed_grammar
two_signs = refl

no_digit_before_the_point : complete_fixed cents i64 (codes ".5") ≡ Err (InvalidDigit 0)
unfolding grammar fixed_grammar
no_digit_before_the_point = refl

a_minus_before_the_point : complete_fixed cents i64 (codes "-.5") ≡ Err (InvalidDigit 1)
unfolding grammar fixed_grammar
a_minus_before_the_point = refl

a_point_at_the_end : complete_fixed cents i64 (codes "12.") ≡ Err (Empty 3)
unfolding grammar fixed_grammar
a_point_at_the_end = refl

a_point_before_a_letter : complete_fixed cents i64 (codes "12.x") ≡ Err (InvalidDigit 3)
unfolding grammar fixed_grammar
a_point_before_a_letter = refl

two_points : complete_fixed cents i64 (codes "1.2.3") ≡ Err (InvalidDigit 3)
unfolding grammar fixed_grammar
two_points = refl

one_digit_too_many : complete_fixed cents i64 (codes "12.505") ≡ Err (InvalidDigit 5)
unfolding grammar fixed_grammar
one_digit_too_many = refl

a_zero_too_many : complete_fixed cents i64 (codes "12.500") ≡ Err (InvalidDigit 5)
unfolding grammar fixed_grammar
a_zero_too_many = refl

one_digit_too_few : complete_fixed exact i64 (codes "12.5") ≡ Err (Empty 4)
unfolding grammar fixed_grammar
one_digit_too_few = refl

two_digits_too_few : complete_fixed exact i64 (codes "12") ≡ Err (Empty 2)
unfolding grammar fixed_grammar
two_digits_too_few = refl

too_few_before_a_blank : complete_fixed exact i64 (codes "12.5 ") ≡ Err (InvalidDigit 4)
unfolding grammar fixed_grammar
too_few_before_a_blank = refl

a_point_without_places : complete_fixed units i64 (codes "12.") ≡ Err (InvalidDigit 2)
unfolding grammar fixed_grammar
a_point_without_places = refl

a_fraction_without_places : complete_fixed units i64 (codes "12.0") ≡ Err (InvalidDigit 2)
unfolding grammar fixed_grammar
a_fraction_without_places = refl

a_point_alone : complete_fixed bare i64 (codes ".") ≡ Err (Empty 1)
unfolding grammar fixed_grammar
a_point_alone = refl

forbidden_zeros : complete_fixed strict i64 (codes "00.5") ≡ Err (InvalidLeadingZeros 0)
unfolding grammar fixed_grammar
forbidden_zeros = refl

a_forbidden_plus : complete_fixed strict i64 (codes "+1.00") ≡ Err (InvalidPositiveSign 0)
unfolding grammar fixed_grammar
a_forbidden_plus = refl

a_missing_sign : complete_fixed signed i64 (codes "1.00") ≡ Err (MissingSign 0)
unfolding grammar fixed_grammar
a_missing_sign = refl

a_separator_in_the_fraction : complete_fixed grouped i64 (codes "1.0,5") ≡ Err (InvalidDigit 3)
unfolding grammar fixed_grammar
a_separator_in_the_fraction = refl

a_separator_before_the_point : complete_fixed grouped i64 (codes "1,.50") ≡ Err (InvalidDigit 1)
unfolding grammar fixed_grammar
a_separator_before_the_point = refl

a_letter_between_groups : complete_fixed grouped i64 (codes "1,23x4.50") ≡ Err (InvalidDigit 4)
unfolding grammar fixed_grammar
a_letter_between_groups = refl

a_second_point : complete_fixed grouped i64 (codes "1.5.00") ≡ Err (InvalidDigit 3)
unfolding grammar fixed_grammar
a_second_point = refl

another_point : complete_fixed cents i64 (codes "12,50") ≡ Err (InvalidDigit 2)
unfolding grammar fixed_grammar
another_point = refl

-- ---- fronts

front_of_a_word : partial_fixed cents i64 (codes "12.50 EUR") ≡ Ok (pos 1250, 5)
unfolding grammar fixed_grammar
front_of_a_word = refl

front_of_a_sentence : partial_fixed cents i64 (codes "12. And") ≡ Ok (pos 1200, 2)
unfolding grammar fixed_grammar
front_of_a_sentence = refl

front_of_a_sentence_behind_a_place : partial_fixed cents i64 (codes "12.5. And") ≡ Ok (pos 1250, 4)
unfolding grammar fixed_grammar
front_of_a_sentence_behind_a_place = refl

front_at_the_end : partial_fixed cents i64 (codes "12") ≡ Ok (pos 1200, 2)
unfolding grammar fixed_grammar
front_at_the_end = refl

front_with_a_point_at_the_end : partial_fixed cents i64 (codes "12.") ≡ Ok (pos 1200, 2)
unfolding grammar fixed_grammar
front_with_a_point_at_the_end = refl

front_of_too_many : partial_fixed cents i64 (codes "12.505") ≡ Err (InvalidDigit 5)
unfolding grammar fixed_grammar
front_of_too_many = refl

front_of_too_few : partial_fixed exact i64 (codes "12.5 EUR") ≡ Err (Empty 4)
unfolding grammar fixed_grammar
front_of_too_few = refl

front_of_a_point_and_too_few : partial_fixed exact i64 (codes "12. And") ≡ Err (Empty 3)
unfolding grammar fixed_grammar
front_of_a_point_and_too_few = refl

front_of_a_number_too_large : partial_fixed cents u8 (codes "3 EUR") ≡ Err (Overflow 1)
unfolding grammar fixed_grammar
front_of_a_number_too_large = refl

front_of_a_fraction_too_large : partial_fixed cents u8 (codes "2.56 EUR") ≡ Err (Overflow 3)
unfolding grammar fixed_grammar
front_of_a_fraction_too_large = refl

front_without_a_digit : partial_fixed cents i64 (codes "x") ≡ Err (Empty 0)
unfolding grammar fixed_grammar
front_without_a_digit = refl

front_of_a_point : partial_fixed cents i64 (codes ".5") ≡ Err (Empty 0)
unfolding grammar fixed_grammar
front_of_a_point = refl

front_without_places : partial_fixed units i64 (codes "12. And") ≡ Ok (pos 12, 2)
unfolding grammar fixed_grammar
front_without_places = refl

front_cut_without_places : partial_fixed units i64 (codes "12.5") ≡ Err (InvalidDigit 2)
unfolding grammar fixed_grammar
front_cut_without_places = refl

front_of_two_points : partial_fixed cents i64 (codes "1.2.3") ≡ Ok (pos 120, 3)
unfolding grammar fixed_grammar
front_of_two_points = refl

front_of_groups : partial_fixed grouped i64 (codes "1,234.50, 7") ≡ Ok (pos 123450, 8)
unfolding grammar fixed_grammar
front_of_groups = refl

front_that_needs_no_digit : partial_fixed bare i64 (codes ".x") ≡ Ok (pos 0, 0)
unfolding grammar fixed_grammar
front_that_needs_no_digit = refl

front_behind_a_minus : partial_fixed cents i64 (codes "-0.05-") ≡ Ok (negsuc 4, 5)
unfolding grammar fixed_grammar
front_behind_a_minus = refl

-- ---- descriptions

valid : fixed_fault german ≡ None
unfolding are_same
valid = refl

places_at_most : fixed_fault (record cents { places = 38 }) ≡ None
unfolding are_same
places_at_most = refl

too_many_places : fixed_fault (record cents { places = 39 }) ≡ Some Places
unfolding are_same
too_many_places = refl

the_point_is_the_separator : fixed_fault (record grouped { point = 44 }) ≡ Some Point
unfolding are_same
the_point_is_the_separator = refl

the_point_is_a_digit : fixed_fault (record cents { point = 48 }) ≡ Some Point
unfolding are_same
the_point_is_a_digit = refl

the_point_is_a_sign : fixed_fault (record cents { point = 45; places = 39 }) ≡ Some Point
unfolding are_same
the_point_is_a_sign = refl

a_prefix : fixed_fault (record cents { integer = record standard { base_prefix = Some 120 }; point = 45 }) ≡ Some Affix
unfolding are_same
a_prefix = refl

a_suffix : fixed_fault (record cents { integer = record standard { base_suffix = Some 104 } }) ≡ Some Affix
unfolding are_same
a_suffix = refl

octal_zeros : fixed_fault (record cents { integer = record standard { literal_octal_zero = true } }) ≡ Some Affix
unfolding are_same
octal_zeros = refl

another_radix : fixed_fault (record cents { integer = record standard { mantissa_radix = 16; base_prefix = Some 120 } }) ≡ Some Radix
unfolding are_same
another_radix = refl

a_radix_that_is_none : fixed_fault (record cents { integer = record standard { mantissa_radix = 37 } }) ≡ Some (Integer InvalidMantissaRadix)
unfolding are_same
a_radix_that_is_none = refl

a_separator_that_is_a_sign : fixed_fault (record cents { integer = record standard { digit_separator = Some 43 } }) ≡ Some (Integer InvalidDigitSeparator)
unfolding are_same
a_separator_that_is_a_sign = refl
