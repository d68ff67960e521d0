-- How far a column is read, while it is read.
use Rattle.std.specs.Prelude.{◌≡◌, ℕ, ◌-◌, ◌≤◌, List, ◌++◌, length, take, drop, map, ℤ}
use Rattle.lexical_util.specs.Format.{Format}
use Rattle.lexical_util.specs.Number.{IntegerType}
use Rattle.lexical_fields.specs.Columns.{answers, column_numbers, first_fault, values_before_fault}
use Rattle.lexical_fields.specs.Fields.{FieldView, fields, fields_from}

-- the fields of what is left of a text
abbrev pub left_of : ℕ → List ℕ → List ℕ → List FieldView
left_of s text rest = fields_from s (length text - length rest) rest

-- `count` numbers were read into a slice. They and what is read of the rest are what is read of the
-- whole text.
pub record IsReadSoFar (T : Type 0) (number : T → ℤ) (f : Format) (t : IntegerType) (s : ℕ)
    (text : List ℕ) (old now : List T) (count : ℕ) (rest : List ℕ) : Type 0 where
  pub size : length now ≡ length old
  pub within : length rest ≤ length text
  pub place : drop count (fields s text) ≡ left_of s text rest
  pub numbers : map number (take count now)
      ++ values_before_fault (answers f t (length old - count) (left_of s text rest))
      ≡ column_numbers f t (length old) s text
  pub first : first_fault (answers f t (length old - count) (left_of s text rest))
      ≡ first_fault (answers f t (length old) (fields s text))
  pub kept : drop count now ≡ drop count old
  pub tail : rest ≡ drop (length text - length rest) text
