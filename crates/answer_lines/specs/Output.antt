-- What the program writes.
use Rattle.std.specs.Prelude.{ℕ, List, [], ◌∷◌, ◌++◌, codes, map, Result, Ok, Err, Option, None, Some}
use lib.IntN.{ℤ}
use Rattle.lexical_parse_integer.specs.Grammar.{complete_if_valid, partial_if_valid}
use Rattle.lexical_util.specs.declared.error.Error.{Error}
use Rattle.lexical_util.specs.declared.error.Error.TheVariants.{Overflow, Underflow, InvalidDigit, Empty, MissingSign, InvalidPositiveSign, InvalidLeadingZeros, InvalidMantissaRadix, InvalidDigitSeparator, InvalidBasePrefix, InvalidBaseSuffix, InvalidPunctuation, InvalidLiteralPrefixes}
use Rattle.lexical_util.specs.Ascii.{line_feed}
use Rattle.lexical_util.specs.Faults.{place_of}
use Rattle.answer_lines.specs.Change.{with_change}
use Rattle.answer_lines.specs.Command.{Command, command_in, parse_complete, parse_partial, list_tokens, change, reset, type_of}
use Rattle.answer_lines.specs.Lines.{lines}
use Rattle.answer_lines.specs.Decimal.{decimal_text, signed_text}
use Rattle.answer_lines.specs.Settings.{Settings, standard_settings}
use Rattle.lexical_literals.specs.Tokens.{TokenView, tokens}
use Rattle.lexical_literals.specs.declared.Kind.{Kind}
use Rattle.lexical_literals.specs.declared.Kind.TheVariants.{Number, Word, Byte, Fault}

-- ---- answers

-- the name of a fault
abbrev pub fault_name : Error → List ℕ
fault_name (Overflow place) = codes "Overflow"
fault_name (Underflow place) = codes "Underflow"
fault_name (InvalidDigit place) = codes "InvalidDigit"
fault_name (Empty place) = codes "Empty"
fault_name (MissingSign place) = codes "MissingSign"
fault_name (InvalidPositiveSign place) = codes "InvalidPositiveSign"
fault_name (InvalidLeadingZeros place) = codes "InvalidLeadingZeros"
fault_name InvalidMantissaRadix = codes "InvalidMantissaRadix"
fault_name InvalidDigitSeparator = codes "InvalidDigitSeparator"
fault_name InvalidBasePrefix = codes "InvalidBasePrefix"
fault_name InvalidBaseSuffix = codes "InvalidBaseSuffix"
fault_name InvalidPunctuation = codes "InvalidPunctuation"
fault_name InvalidLiteralPrefixes = codes "InvalidLiteralPrefixes"

-- a space and a place, where there is one
abbrev pub place_text : Option ℕ → List ℕ
place_text None = []
place_text (Some place) = codes " " ++ decimal_text place

-- `err NAME PLACE`, or `err NAME` for a fault without a place
abbrev pub fault_answer : Error → List ℕ
fault_answer fault = codes "err " ++ fault_name fault ++ place_text (place_of fault)

-- `ok V` for a value
abbrev pub complete_text : Result ℤ Error → List ℕ
complete_text (Ok value) = codes "ok " ++ signed_text value
complete_text (Err fault) = fault_answer fault

-- `ok V PLACE` for a value and a place
abbrev pub partial_text : Result (ℤ × ℕ) Error → List ℕ
partial_text (Ok found) = codes "ok " ++ signed_text found.0 ++ place_text (Some found.1)
partial_text (Err fault) = fault_answer fault

-- ---- tokens

-- `number V`, `word`, `byte`, or `fault NAME PLACE`
abbrev pub kind_text : Kind → List ℕ
kind_text (Number value) = codes "number " ++ decimal_text value
kind_text Word = codes "word"
kind_text Byte = codes "byte"
kind_text (Fault fault) = codes "fault " ++ fault_name fault ++ place_text (place_of fault)

-- what a token is, `START` and `STOP`
abbrev pub token_text : TokenView → List ℕ
token_text token =
    kind_text token.kind ++ place_text (Some token.start) ++ place_text (Some token.stop)

-- a line for each token, and then `end`
abbrev pub tokens_text : List TokenView → List ℕ
tokens_text [] = codes "end"
tokens_text (token ∷ more) = token_text token ++ line_feed ∷ [] ++ tokens_text more

-- ---- lines

-- the answer to a command under the settings, and `bad line` where there is none
abbrev pub command_answer : Settings → Option Command → List ℕ
command_answer settings None = codes "bad line"
command_answer settings (Some (parse_complete type text)) =
    complete_text (complete_if_valid settings.format (type_of type) text)
command_answer settings (Some (parse_partial type text)) =
    partial_text (partial_if_valid settings.format (type_of type) text)
command_answer settings (Some (list_tokens text)) = tokens_text (tokens text)
command_answer settings (Some (change asked)) = codes "ok"
command_answer settings (Some reset) = codes "ok"

-- the settings after a command
abbrev pub command_effect : Settings → Option Command → Settings
command_effect settings None = settings
command_effect settings (Some (parse_complete type text)) = settings
command_effect settings (Some (parse_partial type text)) = settings
command_effect settings (Some (list_tokens text)) = settings
command_effect settings (Some (change asked)) = with_change asked settings
command_effect settings (Some reset) = standard_settings

-- the answer to a line under the settings
unfoldable pub answer_to : Settings → List ℕ → List ℕ
answer_to settings line = command_answer settings (command_in line)

-- the settings after a line
unfoldable pub settings_after : Settings → List ℕ → Settings
settings_after settings line = command_effect settings (command_in line)

-- the lines of the answer to a command: one for each token and `end`, or a single one
abbrev pub command_lines : Settings → Option Command → List (List ℕ)
command_lines settings None = command_answer settings None ∷ []
command_lines settings (Some (parse_complete type text)) =
    command_answer settings (Some (parse_complete type text)) ∷ []
command_lines settings (Some (parse_partial type text)) =
    command_answer settings (Some (parse_partial type text)) ∷ []
command_lines settings (Some (list_tokens text)) = map token_text (tokens text) ++ codes "end" ∷ []
command_lines settings (Some (change asked)) = command_answer settings (Some (change asked)) ∷ []
command_lines settings (Some reset) = command_answer settings (Some reset) ∷ []

-- the lines of the answer to a line under the settings
unfoldable pub answer_lines : Settings → List ℕ → List (List ℕ)
answer_lines settings line = command_lines settings (command_in line)

-- ---- output

-- for each line its answer and a line feed, in order, each under the settings that the lines
-- before it leave
abbrev pub answers_to : Settings → List (List ℕ) → List ℕ
answers_to settings [] = []
answers_to settings (line ∷ more) =
    answer_to settings line ++ line_feed ∷ [] ++ answers_to (settings_after settings line) more

-- what the program writes for an input
abbrev pub output : List ℕ → List ℕ
output input = answers_to standard_settings (lines input)
