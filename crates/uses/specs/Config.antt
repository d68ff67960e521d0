-- Values of a configuration: which format a text is read under.
use Rattle.std.specs.Prelude.{ℕ, true, false, List, codes, Some, if◌then◌else◌, ℤ, Result, nat_eq}
use Rattle.std.specs.List.{starts_with}
use Rattle.std.specs.Result.{result_map_both}
use Rattle.lexical_util.specs.Ascii.{letter_x, underscore}
use Rattle.lexical_util.specs.Format.{Format, standard}
use Rattle.lexical_util.specs.Number.{integer_type}
use Rattle.lexical_parse_integer.specs.Grammar.{complete}
use Rattle.uses.specs.declared.config.ValueError.{ValueError}
use Rattle.uses.specs.declared.config.ValueError.TheVariants.{Hexadecimal, Decimal}

-- radix 10, with `_` between digits, one at a time
abbrev pub grouped : Format
grouped =
    record standard { digit_separator = Some underscore; integer_internal_digit_separator = true }

-- radix 16, behind `0x` or without it, with `_` between digits, one at a time
abbrev pub hexadecimal : Format
hexadecimal =
    record grouped {
      mantissa_radix = 16;
      base_prefix = Some letter_x;
      case_sensitive_base_prefix = true;
    }

-- the `u64` of a text: hexadecimal where it begins with `0x`, and decimal elsewhere
abbrev pub value_in : List ℕ → Result ℤ ValueError
value_in text =
    if starts_with nat_eq text (codes "0x")
    then result_map_both (λ n. n) Hexadecimal (complete hexadecimal (integer_type 64 false) text)
    else result_map_both (λ n. n) Decimal (complete grouped (integer_type 64 false) text)
