-- Which descriptions are valid, and which fault an invalid one has.
use Rattle.std.specs.Prelude.{ℕ, Bool, ◌||◌, ◌==◌, not, nat_lt, if◌then◌else◌, Option, Some, None, is_some}
use Rattle.lexical_util.specs.Ascii.{minus, plus}
use Rattle.lexical_util.specs.Digit.{digit}
use Rattle.lexical_util.specs.Format.{Format}
use Rattle.lexical_util.specs.Validity.{fault}
use Rattle.lexical_util.specs.declared.error.Error.{Error}
use Rattle.lexical_parse_integer.specs.Runs.{are_same}
use Rattle.lexical_fixed.specs.Fixed.{Fixed}
use Rattle.lexical_fixed.specs.declared.error.FixedFormatError.{FixedFormatError}
use Rattle.lexical_fixed.specs.declared.error.FixedFormatError.TheVariants.{Integer, Radix, Affix, Point, Places}

-- the format has a prefix or suffix of its own, literal prefixes or octal zeros
abbrev pub has_affix : Format → Bool
has_affix format =
    is_some format.base_prefix
    || (is_some format.base_suffix || (format.literal_prefixes || format.literal_octal_zero))

-- a byte that can't be the point: `+`, `-`, a decimal digit, or the separator
abbrev pub is_unfit_point : Format → ℕ → Bool
is_unfit_point format byte =
    (byte == plus)
    || ((byte == minus)
    || (is_some (digit 10 byte) || are_same format.digit_separator (Some byte)))

-- the first rule that a description breaks whose integer format has this fault
abbrev pub fixed_fault_by : Fixed → Option Error → Option FixedFormatError
fixed_fault_by fixed (Some error) = Some (Integer error)
fixed_fault_by fixed None =
    if not (fixed.integer.mantissa_radix == 10) then Some Radix
    else (if has_affix fixed.integer then Some Affix
    else (if is_unfit_point fixed.integer fixed.point then Some Point
    else (if nat_lt 38 fixed.places then Some Places
    else None)))

-- the first of the five rules that the description breaks, by its fault; none where it is valid
abbrev pub fixed_fault : Fixed → Option FixedFormatError
fixed_fault fixed = fixed_fault_by fixed (fault fixed.integer)
