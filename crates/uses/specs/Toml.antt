-- Integers of TOML, and lines that set one: which text is which number.
use Rattle.std.specs.Prelude.{ℕ, ◌+◌, Bool, true, ◌||◌, List, codes, drop, length, Option, Some, None, if◌then◌else◌, ℤ, Result, Err, nat_eq}
use Rattle.std.specs.Option.{option_and_then, option_map}
use Rattle.std.specs.List.{starts_with}
use Rattle.lexical_util.specs.declared.error.Error.{Error}
use Rattle.lexical_util.specs.declared.error.Error.TheVariants.{InvalidDigit}
use Rattle.lexical_formats.specs.Languages.{toml}
use Rattle.lexical_util.specs.Number.{integer_type}
use Rattle.lexical_parse_integer.specs.Grammar.{complete}

-- whether a text begins with a plus and a prefix
abbrev pub has_plus_and_prefix : List ℕ → Bool
has_plus_and_prefix text =
    starts_with nat_eq text (codes "+0x")
    || (starts_with nat_eq text (codes "+0o") || starts_with nat_eq text (codes "+0b"))

-- whether a text begins with a minus and a prefix
abbrev pub has_minus_and_prefix : List ℕ → Bool
has_minus_and_prefix text =
    starts_with nat_eq text (codes "-0x")
    || (starts_with nat_eq text (codes "-0o") || starts_with nat_eq text (codes "-0b"))

-- the `i64` of an integer of TOML: where a sign and a prefix come first, the prefix's letter is none of its digits
abbrev pub integer_in : List ℕ → Result ℤ Error
integer_in text =
    if has_plus_and_prefix text || has_minus_and_prefix text then Err (InvalidDigit 2)
    else complete toml (integer_type 64 true) text

-- what stands after a front that a text may begin with
abbrev pub after : List ℕ → List ℕ → Option (List ℕ)
after front text = if starts_with nat_eq text front then Some (drop (length front) text) else None

-- the integer in a line that begins with this name and ` = `
abbrev pub setting_in : List ℕ → List ℕ → Option (Result ℤ Error)
setting_in name line =
    option_map integer_in (option_and_then (after (codes " = ")) (after name line))
