-- What is read of a column: the numbers of a text's fields, as far as there is room for them.
use Rattle.std.specs.Prelude.{◌≡◌, ℕ, ◌≤◌, List, [], ◌∷◌, length, take, drop, map, ℤ, Option, Some, None, Result, Ok, Err}
use Rattle.lexical_util.specs.declared.error.Error.{Error}
use Rattle.lexical_util.specs.Format.{Format}
use Rattle.lexical_util.specs.Number.{IntegerType}
use Rattle.lexical_util.specs.Validity.{fault}
use Rattle.lexical_fields.specs.Fields.{FieldView, fields, fields_from}
use Rattle.lexical_fields.specs.ReadFields.{field_answer}
use Rattle.lexical_fields.specs.declared.columns.Column.{Column}
use Rattle.lexical_fields.specs.declared.columns.ColumnError.{ColumnError}
use Rattle.lexical_fields.specs.declared.columns.ColumnError.TheVariants.{InvalidFormat, InvalidField}

-- ---- answers one after another

-- the values in front of the first fault
abbrev pub values_before_fault : {A E : Type 0} → List (Result A E) → List A
values_before_fault [] = []
values_before_fault (Ok value ∷ answers) = value ∷ values_before_fault answers
values_before_fault (Err fault ∷ answers) = []

-- the first fault
abbrev pub first_fault : {A E : Type 0} → List (Result A E) → Option E
first_fault [] = None
first_fault (Ok value ∷ answers) = first_fault answers
first_fault (Err fault ∷ answers) = Some fault

-- ---- columns

-- what each field stands for, of as many fields as there is room for
abbrev pub answers : Format → IntegerType → ℕ → List FieldView → List (Result ℤ Error)
answers format type room fields = map (field_answer format type) (take room fields)

-- the start of the first of some fields, or the text's end where there is none
abbrev pub next_start : ℕ → List FieldView → ℕ
next_start end [] = end
next_start end (field ∷ more) = field.start

-- `count` fields were read, and reading stopped at `place`, by the fault of the field there or
-- without a fault
abbrev pub outcome_at : ℕ → ℕ → Option Error → Result Column ColumnError
outcome_at count place None = Ok (record { count = count; stop = place })
outcome_at count place (Some error) = Err (InvalidField count place error)

-- the numbers that are read of a text's fields
abbrev pub column_numbers : Format → IntegerType → ℕ → ℕ → List ℕ → List ℤ
column_numbers format type room separator text =
    values_before_fault (answers format type room (fields separator text))

-- what is answered under a valid format
abbrev pub column : Format → IntegerType → ℕ → ℕ → List ℕ → Result Column ColumnError
column format type room separator text =
    let all = fields separator text in
    let count = length (column_numbers format type room separator text) in
    outcome_at count (next_start (length text) (drop count all))
    (first_fault (answers format type room all))

-- the numbers that are read, none where the format is invalid
abbrev pub numbers_by : Option Error → List ℤ → List ℤ
numbers_by None numbers = numbers
numbers_by (Some error) numbers = []

-- what is answered, the fault of the format before all others
abbrev pub answer_by : Option Error → Result Column ColumnError → Result Column ColumnError
answer_by None answer = answer
answer_by (Some error) answer = Err (InvalidFormat error)

-- the numbers that `read_column` reads
unfoldable pub numbers_of : Format → IntegerType → ℕ → ℕ → List ℕ → List ℤ
numbers_of format type room separator text =
    numbers_by (fault format) (column_numbers format type room separator text)

-- what `read_column` answers
unfoldable pub answer_of : Format → IntegerType → ℕ → ℕ → List ℕ → Result Column ColumnError
answer_of format type room separator text =
    answer_by (fault format) (column format type room separator text)

-- How far a text was read: as many fields as there are numbers, no more than there was room for.
-- From the place `stop` on, the text has the fields that are left.
pub record GoesOn (separator : ℕ) (text : List ℕ) (room : ℕ) (numbers : List ℤ)
    (column : Column) : Type 0 where
  pub counted : column.count ≡ length numbers
  pub within_room : column.count ≤ room
  pub within_text : column.stop ≤ length text
  pub left : fields_from separator column.stop (drop column.stop text)
      ≡ drop column.count (fields separator text)
