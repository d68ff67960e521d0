-- What reading a column does: what is answered, and what the array then has.
use Rattle.std.specs.Prelude.{ℕ, ℤ, List, length, drop, ◌++◌, Result, Ok, Err, if◌then◌else◌}
use Rattle.lexical_util.specs.Faults.{place_of}
use Rattle.lexical_util.specs.Number.{IntegerType}
use Rattle.lexical_fields.specs.Columns.{answer_of, numbers_of}
use Rattle.lexical_fields.specs.declared.columns.Column.{Column}
use Rattle.lexical_fields.specs.declared.columns.ColumnError.{ColumnError}
use Rattle.lexical_fields.specs.declared.columns.ColumnError.TheVariants.{InvalidFormat, InvalidField}
use Rattle.jadvolni.specs.Effect.{fault_place, fault_status, unknown_field}
use Rattle.jadvolni.specs.FormatFields.{are_known, format_of}
use Rattle.jadvolni.specs.declared.format.FormatFields.{FormatFields}
use Rattle.jadvolni.specs.declared.outcome.Outcome.{Outcome}

-- A status, a place, how many numbers were read, and what the caller's array has afterwards, from its first to its last.
pub record ColumnEffect : Type 0 where
  pub status : ℕ
  pub place : ℕ
  pub count : ℕ
  pub numbers : List ℤ

-- what a call did, by its result and by what is behind the two pointers
abbrev pub column_effect : Outcome → ℕ → List ℤ → ColumnEffect
column_effect result count numbers =
    record { status = result.status; place = result.place; count = count; numbers = numbers }

-- an array, where numbers were put over its front
abbrev pub with_front : List ℤ → List ℤ → List ℤ
with_front numbers before = numbers ++ drop (length numbers) before

-- the effect of what is answered of a column, which leaves these numbers
abbrev pub effect_of_column : Result Column ColumnError → List ℤ → ColumnEffect
effect_of_column (Ok column) numbers =
    record { status = 0; place = column.stop; count = column.count; numbers = numbers }
effect_of_column (Err (InvalidFormat error)) numbers = record {
  status = fault_status error;
  place = fault_place (place_of error);
  count = 0;
  numbers = numbers;
}
effect_of_column (Err (InvalidField field start error)) numbers = record {
  status = fault_status error;
  place = fault_place (place_of error);
  count = field;
  numbers = numbers;
}

-- reading a column under a format, into an array that has these numbers before
abbrev pub column_call : FormatFields → IntegerType → ℕ → List ℕ → List ℤ → ColumnEffect
column_call fields type separator text before =
    let format = format_of fields in
    let room = length before in
    if are_known fields
    then effect_of_column (answer_of format type room separator text)
    (with_front (numbers_of format type room separator text) before)
    else record { status = unknown_field; place = 0; count = 0; numbers = before }
