-- The fields of a text with what each stands for.
use Rattle.std.specs.Prelude.{ℕ, List, map, ℤ, Result}
use Rattle.lexical_util.specs.declared.error.Error.{Error}
use Rattle.lexical_util.specs.Format.{Format}
use Rattle.lexical_util.specs.Number.{IntegerType}
use Rattle.lexical_util.specs.Validity.{fault}
use Rattle.lexical_parse_integer.specs.Answer.{view_of}
use Rattle.lexical_parse_integer.specs.Grammar.{complete, if_valid}
use Rattle.lexical_fields.specs.Fields.{FieldView, fields_from}
use Rattle.lexical_fields.specs.Places.{in_text}
use Rattle.lexical_fields.specs.declared.iterator.Field.{Field}

-- what a field stands for: the answer of the complete parser under a valid format, and else the format's fault
abbrev pub field_answer : Format → IntegerType → FieldView → Result ℤ Error
field_answer format type field =
    if_valid (fault format) (in_text field.start (complete format type field.text))

-- A field with what it stands for.
pub record ReadField : Type 0 where
  pub start : ℕ
  pub text : List ℕ
  pub answer : Result ℤ Error

-- a field, read
abbrev pub read_field : Format → IntegerType → FieldView → ReadField
read_field format type field =
    record { start = field.start; text = field.text; answer = field_answer format type field }

-- the fields of a text that stands at a place, read
abbrev pub read_from : Format → IntegerType → ℕ → ℕ → List ℕ → List ReadField
read_from format type separator start text =
    map (read_field format type) (fields_from separator start text)

-- the fields of a text, read
abbrev pub read_fields : Format → IntegerType → ℕ → List ℕ → List ReadField
read_fields format type separator text = read_from format type separator 0 text

-- the bytes of each field
abbrev pub texts : List ReadField → List (List ℕ)
texts fields = map (λ field. field.text) fields

-- a field as the program has it, with its number as view shows it
abbrev pub view_of_field : {T : Type 0} → (T → ℤ) → Field T → ReadField
view_of_field view field =
    record { start = field.start; text = field.text.now; answer = view_of view field.answer }
