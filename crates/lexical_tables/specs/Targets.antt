-- Where the numbers of a table's columns go.
use Rattle.std.specs.Prelude.{◌/◌, ◌%◌, ◌^◌, ℕ, ℤ, pos, Bool, true, false, List, map, set, slice_index, is_some, option_map, unwrap_or, Option, Some, None, Result, Ok, Err, not}
use Rattle.std.specs.Int.{bit_not, w8}
use Rattle.std.specs.Borrow.{GName, MutBor}
use Rattle.std.specs.Int.Bits.{bit_and, bit_or}
use Rattle.lexical_util.specs.declared.error.Error.{Error}
use Rattle.lexical_util.specs.Number.{IntegerType, integer_type}
use Rattle.lexical_fields.specs.Fields.{FieldView}
use Rattle.lexical_tables.specs.Readings.{FixedPoints, Integers, Number, Reading, Text, TextView, Texts, Value, answer_by, blank, keeps_texts}
use Rattle.lexical_tables.specs.declared.cell_text.CellText.{CellText}
use Rattle.lexical_tables.specs.declared.columns.Column.{Column}
use Rattle.lexical_tables.specs.declared.columns.Column.TheVariants.{Unread, Integers as InIntegers, FixedPoints as InFixedPoints, Texts as InTexts}
use Rattle.lexical_tables.specs.declared.fixed_targets.FixedTarget.{FixedTarget}
use Rattle.lexical_tables.specs.declared.numbers.Numbers.{Numbers}
use Rattle.lexical_tables.specs.declared.numbers.Numbers.TheVariants.{I16, I32, I64, I8, U16, U32, U64, U8}
use Rattle.lexical_tables.specs.declared.targets.Target.{Target}
use Rattle.lexical_tables.specs.declared.text_targets.TextTarget.{TextTarget}

-- Which slice a borrow is of: where that lies, and by which name proofs follow it to the one who lent it.
pub record Slice : Type 0 where
  pub at : ℕ × ℕ
  pub name : GName

-- which slice a borrow is of
abbrev pub slice_of : {Item : Type 0} → MutBor (List Item) → Slice
slice_of borrow = record { at = borrow.ref_ptr; name = borrow.ghost_name }

-- A column's target: what its cells are read as, its slice and what that has, and the bytes with the bits that say where
-- there is a value, if it has any: which they are, and what they have.
pub record TargetView : Type 0 where
  pub reading : Reading
  pub slice : Slice
  pub values : List Value
  pub bits : Option Slice
  pub present : Option (List ℕ)

-- the type of a slice's numbers
abbrev pub type_of : Numbers → IntegerType
type_of (U8 values) = integer_type 8 false
type_of (U16 values) = integer_type 16 false
type_of (U32 values) = integer_type 32 false
type_of (U64 values) = integer_type 64 false
type_of (I8 values) = integer_type 8 true
type_of (I16 values) = integer_type 16 true
type_of (I32 values) = integer_type 32 true
type_of (I64 values) = integer_type 64 true

-- which slice it is
abbrev pub slice_in : Numbers → Slice
slice_in (U8 values) = slice_of values
slice_in (U16 values) = slice_of values
slice_in (U32 values) = slice_of values
slice_in (U64 values) = slice_of values
slice_in (I8 values) = slice_of values
slice_in (I16 values) = slice_of values
slice_in (I32 values) = slice_of values
slice_in (I64 values) = slice_of values

-- what a slice has
abbrev pub numbers_in : Numbers → List ℤ
numbers_in (U8 values) = map pos values.now
numbers_in (U16 values) = map pos values.now
numbers_in (U32 values) = map pos values.now
numbers_in (U64 values) = map pos values.now
numbers_in (I8 values) = values.now
numbers_in (I16 values) = values.now
numbers_in (I32 values) = values.now
numbers_in (I64 values) = values.now

-- a target as contracts see it
abbrev pub view_of_target : Target → TargetView
view_of_target target = record {
  reading = Integers target.format (type_of target.numbers);
  slice = slice_in target.numbers;
  values = map Number (numbers_in target.numbers);
  bits = option_map slice_of target.present;
  present = option_map (λ bytes. bytes.now) target.present;
}

-- a column of fixed-point numbers as contracts see it
abbrev pub view_of_fixed : FixedTarget → TargetView
view_of_fixed target = record {
  reading = FixedPoints target.format (type_of target.numbers);
  slice = slice_in target.numbers;
  values = map Number (numbers_in target.numbers);
  bits = option_map slice_of target.present;
  present = option_map (λ bytes. bytes.now) target.present;
}

-- a text as the program has it
abbrev pub view_of_text : CellText → TextView
view_of_text text = record {
  start = text.start;
  size = text.size;
  has_doubled_quotes = text.has_doubled_quotes;
}

-- a column of texts as contracts see it
abbrev pub view_of_texts : TextTarget → TargetView
view_of_texts target = record {
  reading = Texts;
  slice = slice_of target.texts;
  values = map (λ text. Text (view_of_text text)) target.texts.now;
  bits = option_map slice_of target.present;
  present = option_map (λ bytes. bytes.now) target.present;
}

-- a column of any kind as contracts see it
abbrev pub view_of_column : Column → Option TargetView
view_of_column Unread = None
view_of_column (InIntegers target) = Some (view_of_target target)
view_of_column (InFixedPoints target) = Some (view_of_fixed target)
view_of_column (InTexts target) = Some (view_of_texts target)

-- a byte with the bit of a place set, or cleared
abbrev pub with_bit : ℕ → Bool → ℕ → ℕ
with_bit place true byte = bit_or byte (2 ^ place)
with_bit place false byte = bit_and byte (bit_not w8 (2 ^ place))

-- bytes with the bit of a row: the lowest bit of a byte comes first
abbrev pub with_row_bit : ℕ → Bool → List ℕ → List ℕ
with_row_bit row is_there bytes =
    set bytes (row / 8) (with_bit (row % 8) is_there (slice_index bytes (row / 8)))

-- a target with what is read at a row's place: a value and its bit, or a blank without it where there is none
abbrev pub put_value : ℕ → Option Value → TargetView → TargetView
put_value row value target = record target {
  values = set target.values row (unwrap_or value (blank target.reading));
  present = option_map (with_row_bit row (is_some value)) target.present;
}

-- ---- a text that is read in a column

-- the fault of an answer
abbrev pub error_in : {A : Type 0} → Result A Error → Option Error
error_in (Ok found) = None
error_in (Err error) = Some error

-- numbers or values with that of an answer at a place; a fault changes none
abbrev pub with_number : {A : Type 0} → ℕ → Result A Error → List A → List A
with_number row (Ok number) numbers = set numbers row number
with_number row (Err error) numbers = numbers

-- a target with the value of an answer at a row's place, and its bit; a fault changes nothing
abbrev pub put_answer : ℕ → Result Value Error → TargetView → TargetView
put_answer row (Ok value) target = put_value row (Some value) target
put_answer row (Err error) target = target

-- what all of a text stands for in a target's column
abbrev pub text_answer : TargetView → FieldView → Result Value Error
text_answer target text = answer_by target.reading text

-- the fault of a text in a column, if that is read
abbrev pub text_fault : Option TargetView → FieldView → Option Error
text_fault None text = None
text_fault (Some target) text = error_in (text_answer target text)

-- a target with the value of a text
abbrev pub put_text : ℕ → FieldView → TargetView → TargetView
put_text row text target = put_answer row (text_answer target text) target

-- whether a column has bits, so that a value may be missing there
abbrev pub has_bits : Option TargetView → Bool
has_bits None = false
has_bits (Some target) = is_some target.present

-- whether what is kept of a column's cells is where their texts stand
abbrev pub keeps_text : Option TargetView → Bool
keeps_text None = false
keeps_text (Some target) = keeps_texts target.reading

-- whether a column's cells are read, as numbers
abbrev pub has_numbers : Option TargetView → Bool
has_numbers None = false
has_numbers (Some target) = not (keeps_texts target.reading)
