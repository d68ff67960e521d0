-- The array of a column that has room: the type of its numbers, and what a call puts there.
use Rattle.std.specs.Prelude.{◌==◌, ℕ, ℤ, pos, List, length, map, set, Option, Some, None, Result, if◌then◌else◌}
use Rattle.lexical_util.specs.declared.error.Error.{Error}
use Rattle.lexical_util.specs.Number.{IntegerType}
use Rattle.lexical_tables.specs.Targets.{Slice, error_in, slice_of, with_number}
use Rattle.jadvolni.specs.Effect.{signed, unsigned}
use Rattle.jadvolni.specs.declared.arrays.ArrayFields.{ArrayFields}
use Rattle.jadvolni.specs.declared.arrays.NumberType.{NumberType}
use Rattle.jadvolni.specs.declared.arrays.NumberType.TheVariants.{I16, I32, I64, I8, U16, U32, U64, U8}

-- An array of numbers: their type, which slice it is, and what it has.
pub record ArrayView : Type 0 where
  pub type : IntegerType
  pub slice : Slice
  pub numbers : List ℤ

-- one type, if its array has room, or else what the other arrays say
abbrev pub type_or : ℕ → NumberType → Option NumberType → Option NumberType
type_or room type others = if room == 0 then others else Some type

-- the type of the first array that has room
abbrev pub number_type : ArrayFields → Option NumberType
number_type arrays =
    type_or (length arrays.i64s.now) I64 (type_or (length arrays.u64s.now) U64
    (type_or (length arrays.i32s.now) I32 (type_or (length arrays.u32s.now) U32
    (type_or (length arrays.i16s.now) I16 (type_or (length arrays.u16s.now) U16
    (type_or (length arrays.i8s.now) I8 (type_or (length arrays.u8s.now) U8 None)))))))

-- a type, by its width and sign
abbrev pub type_named : NumberType → IntegerType
type_named U8 = unsigned 8
type_named U16 = unsigned 16
type_named U32 = unsigned 32
type_named U64 = unsigned 64
type_named I8 = signed 8
type_named I16 = signed 16
type_named I32 = signed 32
type_named I64 = signed 64

-- an array of numbers
abbrev pub array_with : IntegerType → Slice → List ℤ → Option ArrayView
array_with type slice numbers = Some (record { type = type; slice = slice; numbers = numbers })

-- the array of a type
abbrev pub array_as : ArrayFields → Option NumberType → Option ArrayView
array_as arrays None = None
array_as arrays (Some U8) =
    array_with (unsigned 8) (slice_of arrays.u8s) (map pos arrays.u8s.now)
array_as arrays (Some U16) =
    array_with (unsigned 16) (slice_of arrays.u16s) (map pos arrays.u16s.now)
array_as arrays (Some U32) =
    array_with (unsigned 32) (slice_of arrays.u32s) (map pos arrays.u32s.now)
array_as arrays (Some U64) =
    array_with (unsigned 64) (slice_of arrays.u64s) (map pos arrays.u64s.now)
array_as arrays (Some I8) = array_with (signed 8) (slice_of arrays.i8s) arrays.i8s.now
array_as arrays (Some I16) = array_with (signed 16) (slice_of arrays.i16s) arrays.i16s.now
array_as arrays (Some I32) = array_with (signed 32) (slice_of arrays.i32s) arrays.i32s.now
array_as arrays (Some I64) = array_with (signed 64) (slice_of arrays.i64s) arrays.i64s.now

-- the array that has room
abbrev pub array_in : ArrayFields → Option ArrayView
array_in arrays = array_as arrays (number_type arrays)

-- an array with a number at a row's place
abbrev pub put_number : ℕ → ℤ → ArrayView → ArrayView
put_number row number array = record array { numbers = set array.numbers row number }

-- an array with the number of what is answered for its type at a row's place
abbrev pub put_answer : ℕ → (IntegerType → Result ℤ Error) → ArrayView → ArrayView
put_answer row answer array = record array {
  numbers = with_number row (answer array.type) array.numbers;
}

-- the fault of what is answered for an array's type
abbrev pub array_fault : (IntegerType → Result ℤ Error) → Option ArrayView → Option Error
array_fault answer None = None
array_fault answer (Some array) = error_in (answer array.type)
