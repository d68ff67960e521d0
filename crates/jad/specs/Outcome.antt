-- What a run writes, and how it ends.
use Rattle.std.specs.Prelude.{ℕ, Bool, false, List, [], ◌∷◌, ◌++◌, codes, Option, None, Some, Result, Ok, Err, if◌then◌else◌}
use Rattle.std.specs.Fmt.{signed_decimal}
use Rattle.std.specs.Str.{bytes_eq}
use lib.IntN.{ℤ}
use Rattle.answer_lines.specs.Command.{type_of}
use Rattle.lexical_parse_integer.specs.Grammar.{complete_if_valid}
use Rattle.lexical_util.specs.Ascii.{line_feed}
use Rattle.lexical_util.specs.Faults.{fault_text}
use Rattle.lexical_util.specs.declared.error.Error.{Error}
use Rattle.jad.specs.Question.{Question, asked_by}

-- What goes to standard output and to standard error, and the exit status.
pub record Outcome : Type 0 where
  pub output : List ℕ
  pub error : List ℕ
  pub status : ℕ

-- how the program is called
abbrev pub usage : List ℕ
usage = codes "usage: jad TYPE [--format NAME | --radix N] [--] TEXT; man jad lists TYPE and NAME"

-- a number goes to standard output, and a fault to standard error, each with a line feed
abbrev pub outcome_of : Result ℤ Error → Outcome
outcome_of (Ok value) =
    record { output = signed_decimal value ++ line_feed ∷ []; error = []; status = 0 }
outcome_of (Err fault) =
    record { output = []; error = codes "jad: " ++ fault_text fault ++ line_feed ∷ []; status = 1 }

-- the whole text is read; if there is no question, standard error shows how to ask one
abbrev pub outcome_asked : Option Question → Outcome
outcome_asked None = record { output = []; error = usage ++ line_feed ∷ []; status = 2 }
outcome_asked (Some asked) =
    outcome_of (complete_if_valid asked.format (type_of asked.type) asked.text)

-- the one argument asks how the program is called
abbrev pub asks_for_help : List (List ℕ) → Bool
asks_for_help (argument ∷ []) = bytes_eq argument (codes "--help")
asks_for_help arguments = false

-- what a run comes to for its arguments, without the program's name
abbrev pub outcome_for : List (List ℕ) → Outcome
outcome_for arguments =
    if asks_for_help arguments
    then record { output = usage ++ line_feed ∷ []; error = []; status = 0 }
    else outcome_asked (asked_by arguments)
