-- What the arguments ask for.
use Rattle.std.specs.Prelude.{ℕ, List, [], ◌∷◌, codes, Option, None, Some, if◌then◌else◌, is_some, option_and_then, option_map}
use Rattle.std.specs.Str.{bytes_eq}
use Rattle.answer_lines.specs.Command.{type_named}
use Rattle.answer_lines.specs.Field.{radix_in}
use Rattle.answer_lines.specs.declared.command.TypeName.{TypeName}
use Rattle.lexical_formats.specs.Names.{format_named}
use Rattle.lexical_util.specs.Format.{Format, standard}
use Rattle.lexical_util.specs.Validity.{fault}

-- A text, the type that it is read as, and the format that it is read under.
pub record Question : Type 0 where
  pub type : TypeName
  pub format : Format
  pub text : List ℕ

-- a format, where it is valid
abbrev pub format_if_valid : Format → Option Format
format_if_valid format = if is_some (fault format) then None else Some format

-- the standard format in the radix that a text names
abbrev pub format_by_radix : List ℕ → Option Format
format_by_radix text =
    option_and_then (λ radix. format_if_valid (record standard { mantissa_radix = radix }))
    (radix_in text)

-- the format that an option and its value name
abbrev pub format_told : List ℕ → List ℕ → Option Format
format_told option value =
    if bytes_eq option (codes "--format") then format_named value
    else (if bytes_eq option (codes "--radix") then format_by_radix value else None)

-- the question after a type's name and a format, where both are there
abbrev pub question_about : List ℕ → Option Format → List ℕ → Option Question
question_about name format text =
    option_and_then (λ type. option_map (λ format.
    record { type = type; format = format; text = text }) format) (type_named name)

-- `--` before the text only marks that the text follows
abbrev pub if_dashes : List ℕ → Option Question → Option Question
if_dashes dashes asked = if bytes_eq dashes (codes "--") then asked else None

-- The first argument is the type, and the last the text, whatever it looks like.
abbrev pub asked_by : List (List ℕ) → Option Question
asked_by (name ∷ text ∷ []) = question_about name (Some standard) text
asked_by (name ∷ dashes ∷ text ∷ []) = if_dashes dashes (question_about name (Some standard) text)
asked_by (name ∷ option ∷ value ∷ text ∷ []) = question_about name (format_told option value) text
asked_by (name ∷ option ∷ value ∷ dashes ∷ text ∷ []) =
    if_dashes dashes (question_about name (format_told option value) text)
asked_by arguments = None
