-- Fixed-point numbers as C reads them: the description, byte by byte, and what a call does.
use Rattle.std.specs.Prelude.{◌≡◌, ℕ, ℤ, Bool, true, ◌==◌, ◌&&◌, List, length, Option, Some, None, Result, Ok, Err, if◌then◌else◌}
use Rattle.lexical_util.specs.Faults.{place_of}
use Rattle.lexical_util.specs.Format.{Format, standard}
use Rattle.lexical_util.specs.Number.{IntegerType}
use Rattle.lexical_fixed.specs.Fixed.{Fixed}
use Rattle.lexical_fixed.specs.Grammar.{complete_if_fixed, partial_if_fixed}
use Rattle.lexical_fixed.specs.Validity.{fixed_fault}
use Rattle.lexical_fixed.specs.declared.error.FixedError.{FixedError}
use Rattle.lexical_fixed.specs.declared.error.FixedError.TheVariants.{Format as InFormat, Text as InText}
use Rattle.lexical_fixed.specs.declared.error.FixedFormatError.{FixedFormatError}
use Rattle.lexical_fixed.specs.declared.error.FixedFormatError.TheVariants.{Integer, Radix, Affix, Point, Places}
use Rattle.jadvolni.specs.Effect.{Effect, fault_place, fault_status, reads, unknown_field}
use Rattle.jadvolni.specs.FormatFields.{are_known, are_zeros, flag, format_of}
use Rattle.jadvolni.specs.declared.fixed.FixedFields.{FixedFields}
use Rattle.jadvolni.specs.declared.format.FormatFields.{FormatFields}

-- ---- the description

-- the bits and bytes that are kept for later versions are 0
abbrev pub fixed_known : FixedFields → Bool
fixed_known fields = are_known fields.integer && are_zeros fields.reserved

-- the format of the integer part: a radix of 0 stands for radix 10 and a required digit
abbrev pub integer_of : FormatFields → Format
integer_of fields =
    if fields.mantissa_radix == 0
    then record (format_of fields) { mantissa_radix = 10; required_mantissa_digits = true }
    else format_of fields

-- the standard format with the fields' separator between digits
abbrev pub separated : FormatFields → Format
separated fields = record standard {
  digit_separator = Some fields.digit_separator;
  integer_internal_digit_separator = true;
}

-- the point, which is `.` where the field is 0
abbrev pub point_of : ℕ → ℕ
point_of byte = if byte == 0 then 46 else byte

-- the description that the fields stand for
abbrev pub fixed_of : FixedFields → Fixed
fixed_of fields = record {
  integer = integer_of fields.integer;
  point = point_of fields.point;
  places = fields.places;
  takes_fewer = flag fields.takes_fewer;
}

-- A description whose bytes are known, which is valid, and whose integer part has the standard format.
pub record IsPlainFixed (fields : FixedFields) : Type 0 where
  pub known : fixed_known fields ≡ true
  pub integer : integer_of fields.integer ≡ standard
  pub valid : fixed_fault (fixed_of fields) ≡ None

-- ---- statuses

-- the status of a fault of a description
abbrev pub fixed_status : FixedFormatError → ℕ
fixed_status (Integer error) = fault_status error
fixed_status Radix = 19
fixed_status Affix = 20
fixed_status Point = 21
fixed_status Places = 22

-- the status of a description: that of its first broken rule, and 0 where there is none
abbrev pub fixed_rule_status : Option FixedFormatError → ℕ
fixed_rule_status None = 0
fixed_rule_status (Some error) = fixed_status error

-- the status of a description as C writes it
abbrev pub fixed_format_status : FixedFields → ℕ
fixed_format_status fields =
    if fixed_known fields then fixed_rule_status (fixed_fault (fixed_of fields)) else unknown_field

-- ---- effects

-- the status of a fault of a description or of a text
abbrev pub error_status : FixedError → ℕ
error_status (InFormat error) = fixed_status error
error_status (InText error) = fault_status error

-- its place, and 0 where it has none
abbrev pub error_place : FixedError → ℕ
error_place (InFormat error) = 0
error_place (InText error) = fault_place (place_of error)

-- a fault leaves the number that was there before
abbrev pub refuses_fixed : ℤ → FixedError → Effect
refuses_fixed before error =
    record { status = error_status error; place = error_place error; number = before }

-- the effect of what a whole text of this length stands for
abbrev pub whole_effect : ℕ → ℤ → Result ℤ FixedError → Effect
whole_effect size before (Ok number) = reads size number
whole_effect size before (Err error) = refuses_fixed before error

-- the effect of what a text's front stands for
abbrev pub front_effect : ℤ → Result (ℤ × ℕ) FixedError → Effect
front_effect before (Ok found) = reads found.1 found.0
front_effect before (Err error) = refuses_fixed before error

-- an effect where this version knows each byte of the description
abbrev pub if_fixed_known : FixedFields → ℤ → Effect → Effect
if_fixed_known fields before known =
    if fixed_known fields then known
    else record { status = unknown_field; place = 0; number = before }

-- reading the whole text, where the number `before` was there
abbrev pub fixed_call : FixedFields → IntegerType → List ℕ → ℤ → Effect
fixed_call fields type text before =
    if_fixed_known fields before
    (whole_effect (length text) before (complete_if_fixed (fixed_of fields) type text))

-- reading the text's front
abbrev pub fixed_front_call : FixedFields → IntegerType → List ℕ → ℤ → Effect
fixed_front_call fields type text before =
    if_fixed_known fields before
    (front_effect before (partial_if_fixed (fixed_of fields) type text))
