-- Numbers that are put into a column's slice, as the values of the column.
use Rattle.std.proofs.Common.{◌≡◌, ◌∙◌, ℕ, List, map, set, ℤ, Result, Option, Ok, Err, refl, ap}
use Rattle.std.proofs.lemmas.List.{map-set}
use Rattle.lexical_util.specs.declared.error.Error.{Error}
use Rattle.lexical_util.specs.Number.{IntegerType}
use Rattle.lexical_parse_integer.specs.Answer.{view_of}
use Rattle.lexical_tables.specs.Readings.{Number, Reading}
use Rattle.lexical_tables.specs.Targets.{Slice, TargetView, error_in, numbers_in, slice_in, type_of, with_number}
use Rattle.lexical_tables.specs.declared.numbers.Numbers.{Numbers}

-- an answer has the same fault as a value
pub same_error : (answer : Result ℤ Error) → error_in answer ≡ error_in (view_of Number answer)
same_error (Ok number) = refl
same_error (Err error) = refl

-- numbers with that of an answer, as values
pub as_values : (row : ℕ) (answer : Result ℤ Error) (numbers : List ℤ)
    → map Number (with_number row answer numbers) ≡ with_number row (view_of Number answer) (map Number numbers)
as_values row (Ok number) numbers = map-set Number numbers row number
as_values row (Err error) numbers = refl

-- a column whose numbers are in a slice
abbrev pub column_of : (IntegerType → Reading) → Option Slice → Option (List ℕ) → Numbers → TargetView
column_of read bits present numbers = record {
  reading = read (type_of numbers);
  slice = slice_in numbers;
  values = map Number (numbers_in numbers);
  bits = bits;
  present = present;
}

module _ (read : IntegerType → Reading) (bits : Option Slice) (present : Option (List ℕ)) (old new : Numbers)
    (same_type : type_of new ≡ type_of old) (same_slice : slice_in new ≡ slice_in old) where
  -- whose numbers alone change
  changed : (numbers : List ℤ) → numbers_in new ≡ numbers
      → column_of read bits present new ≡ record (column_of read bits present old) { values = map Number numbers }
  changed numbers is =
      ap (λ type. record (column_of read bits present new) { reading = read type }) same_type
      ∙ ap (λ slice. record (column_of read bits present new) { reading = read (type_of old); slice = slice }) same_slice
      ∙ ap (λ ns. record (column_of read bits present old) { values = map Number ns }) is

  pub set_in : (row : ℕ) (number : ℤ) → numbers_in new ≡ set (numbers_in old) row number
      → column_of read bits present new ≡ record (column_of read bits present old) {
        values = set (map Number (numbers_in old)) row (Number number);
      }
  set_in row number is =
      changed (set (numbers_in old) row number) is
      ∙ ap (λ values. record (column_of read bits present old) { values = values })
      (map-set Number (numbers_in old) row number)

  pub answer_in : (row : ℕ) (answer : Result ℤ Error) → numbers_in new ≡ with_number row answer (numbers_in old)
      → column_of read bits present new ≡ record (column_of read bits present old) {
        values = with_number row (view_of Number answer) (map Number (numbers_in old));
      }
  answer_in row answer is =
      changed (with_number row answer (numbers_in old)) is
      ∙ ap (λ values. record (column_of read bits present old) { values = values })
      (as_values row answer (numbers_in old))

  pub kept_in : numbers_in new ≡ numbers_in old → column_of read bits present new ≡ column_of read bits present old
  kept_in is = changed (numbers_in old) is
