-- Integer literals of programming languages: which text is which number.
use Rattle.std.specs.Prelude.{ℕ, zero, Bool, false, ◌||◌, List, codes, if◌then◌else◌, ℤ, pos, Result, Ok, Err, nat_eq}
use Rattle.std.specs.List.{starts_with}
use Rattle.lexical_util.specs.declared.error.Error.{Error}
use Rattle.lexical_util.specs.declared.error.Error.TheVariants.{InvalidDigit, InvalidLeadingZeros}
use Rattle.lexical_util.specs.Format.{Format}
use Rattle.lexical_formats.specs.Languages.{c23, python}
use Rattle.lexical_util.specs.Number.{integer_type}
use Rattle.lexical_parse_integer.specs.Grammar.{complete}

-- literals of C23: `511`, `0777`, `0x1FF`, `0b101`, with `'` between digits, and no sign; `0o` is read too
abbrev pub c_format : Format
c_format = c23

-- whether a text begins with `0o`, which is no prefix of C's
abbrev pub begins_with_o : List ℕ → Bool
begins_with_o text = starts_with nat_eq text (codes "0o") || starts_with nat_eq text (codes "0O")

-- the `u64` of a literal of C
abbrev pub c_in : List ℕ → Result ℤ Error
c_in text =
    if begins_with_o text then Err (InvalidDigit 1)
    else complete c_format (integer_type 64 false) text

-- literals of Python: `511`, `0o777`, `0x_1FF`, `0b101`, with `_` between digits, no sign, and no zero before another
-- digit
abbrev pub python_format : Format
python_format = python

-- literals of Python with any zeros in front
abbrev pub padded_format : Format
padded_format = record python { no_integer_leading_zeros = false }

-- 0 where that is what was read, and else a fault
abbrev pub zero_or : Error → Result ℤ Error → Result ℤ Error
zero_or fault (Ok (pos zero)) = Ok (pos 0)
zero_or fault answer = Err fault

-- zeros may stand in front of zeros alone
abbrev pub python_by : List ℕ → Result ℤ Error → Result ℤ Error
python_by text (Err (InvalidLeadingZeros place)) =
    zero_or (InvalidLeadingZeros place) (complete padded_format (integer_type 64 false) text)
python_by text answer = answer

-- the `u64` of a literal of Python
abbrev pub python_in : List ℕ → Result ℤ Error
python_in text = python_by text (complete python_format (integer_type 64 false) text)
