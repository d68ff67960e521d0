-- What the cells of a column are read as, and what a text then stands for.
use Rattle.std.specs.Prelude.{◌≡◌, ◌==◌, ◌&&◌, ℕ, ℤ, pos, Bool, false, true, length, is_some, position, if◌then◌else◌, None, Result, Ok}
use Rattle.lexical_util.specs.declared.error.Error.{Error}
use Rattle.lexical_util.specs.Format.{Format}
use Rattle.lexical_util.specs.Number.{IntegerType}
use Rattle.lexical_util.specs.Validity.{fault}
use Rattle.lexical_parse_integer.specs.Answer.{view_of}
use Rattle.lexical_fields.specs.Fields.{FieldView}
use Rattle.lexical_fields.specs.Places.{in_text}
use Rattle.lexical_fields.specs.ReadFields.{field_answer}
use Rattle.lexical_fixed.specs.Fixed.{Fixed}
use Rattle.lexical_fixed.specs.Grammar.{complete_fixed}
use Rattle.lexical_fixed.specs.Validity.{fixed_fault}
use Rattle.lexical_tables.specs.Quotes.{quote}

-- Where a text stands: the place at which it starts, how many bytes it has, and whether doubled quotes stand among them, each
-- of which stands for one.
pub record TextView : Type 0 where
  pub start : ℕ
  pub size : ℕ
  pub has_doubled_quotes : Bool

-- What a cell stands for: a number, or a text, by where it stands.
pub data Value : Type 0 where
  Number : ℤ → Value
  Text : TextView → Value

-- What the cells of a column are read as: integers of a type under a format, fixed-point numbers of a type, or texts.
pub data Reading : Type 0 where
  Integers : Format → IntegerType → Reading
  FixedPoints : Fixed → IntegerType → Reading
  Texts : Reading

-- whether cells are read as texts
abbrev pub keeps_texts : Reading → Bool
keeps_texts (Integers format type) = false
keeps_texts (FixedPoints fixed type) = false
keeps_texts Texts = true

-- the format that cells are read under is valid
abbrev pub IsValid : Reading → Type 0
IsValid (Integers format type) = fault format ≡ None
IsValid (FixedPoints fixed type) = fixed_fault fixed ≡ None
IsValid Texts = Unit {0}

-- what has a cell's place where nothing stands there: 0, or a text of no bytes
abbrev pub blank : Reading → Value
blank (Integers format type) = Number (pos 0)
blank (FixedPoints fixed type) = Number (pos 0)
blank Texts = Text (record { start = 0; size = 0; has_doubled_quotes = false })

-- a text, by where it stands; where quotes have a meaning, those within it are doubled
abbrev pub text_of : Bool → FieldView → TextView
text_of has_quotes held = record {
  start = held.start;
  size = length held.text;
  has_doubled_quotes = has_quotes && is_some (position (λ byte. byte == quote) held.text);
}

-- what a text stands for as a fixed-point number, with a fault's place counted from where the text's place is
abbrev pub fixed_answer : Fixed → IntegerType → FieldView → Result ℤ Error
fixed_answer fixed type held = in_text held.start (complete_fixed fixed type held.text)

-- what all of a text stands for, where quotes have no meaning
abbrev pub answer_by : Reading → FieldView → Result Value Error
answer_by (Integers format type) held = view_of Number (field_answer format type held)
answer_by (FixedPoints fixed type) held = view_of Number (fixed_answer fixed type held)
answer_by Texts held = Ok (Text (text_of false held))

-- what all that a cell holds stands for
abbrev pub value_by : Bool → Reading → FieldView → Result Value Error
value_by has_quotes reading held =
    if keeps_texts reading then Ok (Text (text_of has_quotes held)) else answer_by reading held
