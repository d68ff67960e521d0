-- Literals: a number, and the suffix behind it.
use Rattle.std.specs.Prelude.{ℕ, ◌+◌, List, drop, ℤ, Result, nat_abs, false}
use Rattle.lexical_util.specs.declared.error.Error.{Error}
use Rattle.lexical_util.specs.Format.{Format}
use Rattle.lexical_util.specs.Number.{integer_type}
use Rattle.lexical_parse_integer.specs.Answer.{view_of}
use Rattle.lexical_parse_integer.specs.Fronts.{number_in_front_if_valid}
use Rattle.lexical_literals.specs.Tokens.{word_length}
use Rattle.lexical_literals.specs.declared.literal.Literal.{Literal}

-- the literal of a text whose number is known: its suffix is the bytes of a word behind the number
abbrev pub with_suffix : List ℕ → ℤ × ℕ → Literal
with_suffix text (value, place) = record {
  value = nat_abs value;
  number_stop = place;
  stop = place + word_length (drop place text);
}

-- the literal in front of a text, where the format is valid
abbrev pub literal_in_front_if_valid : Format → List ℕ → Result Literal Error
literal_in_front_if_valid format text =
    view_of (with_suffix text) (number_in_front_if_valid format (integer_type 128 false) text)
