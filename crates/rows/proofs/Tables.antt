-- What the tables of test vectors say, and the types that they name.
use Rattle.std.specs.Prelude.{◌≡◌, ℕ, ℤ, List, map, Option, pos, neg_ℤ, true, false}
use Rattle.lexical_util.specs.declared.error.Error.{Error}
use Rattle.lexical_util.specs.Format.{Format}
use Rattle.lexical_util.specs.Number.{IntegerType, integer_type}
use Rattle.lexical_util.specs.Validity.{fault}

-- a parser answers each row, which has a format, a type, a text and the answer
abbrev pub Answers : {A : Type 0} → (Format → IntegerType → List ℕ → A)
    → List (Format × IntegerType × List ℕ × A) → Type 0
Answers {A} parser rows =
    map (λ (row : Format × IntegerType × List ℕ × A). parser row.0 row.1 row.2) rows
    ≡ map (λ (row : Format × IntegerType × List ℕ × A). row.3) rows

-- each format has this fault of the first rule that it breaks, or none
abbrev pub FaultsAre : List (Format × Option Error) → Type 0
FaultsAre rows =
    map (λ (row : Format × Option Error). fault row.0) rows
    ≡ map (λ (row : Format × Option Error). row.1) rows

-- a number below 0
abbrev pub minus : ℕ → ℤ
minus size = neg_ℤ (pos size)

abbrev pub u8 : IntegerType
u8 = integer_type 8 false

abbrev pub u16 : IntegerType
u16 = integer_type 16 false

abbrev pub u32 : IntegerType
u32 = integer_type 32 false

abbrev pub u64 : IntegerType
u64 = integer_type 64 false

abbrev pub u128 : IntegerType
u128 = integer_type 128 false

abbrev pub usize : IntegerType
usize = integer_type 64 false

abbrev pub i8 : IntegerType
i8 = integer_type 8 true

abbrev pub i16 : IntegerType
i16 = integer_type 16 true

abbrev pub i32 : IntegerType
i32 = integer_type 32 true

abbrev pub i64 : IntegerType
i64 = integer_type 64 true

abbrev pub i128 : IntegerType
i128 = integer_type 128 true

abbrev pub isize : IntegerType
isize = integer_type 64 true
