-- The codes of columns, and the numbers that are put by them.
use Rattle.std.proofs.Common.{◌≡◌, ◌∙◌, ℕ, true, false, Option, Some, None, refl, ap, sym, subst, arith, length-set}
use Rattle.std.specs.Prelude.{is_some, option_map}
use Rattle.std.proofs.Math.IntN.{ℤ}
use Rattle.lexical_util.specs.Number.{IntegerType}
use Rattle.lexical_tables.specs.ByColumn.{IsUsable}
use Rattle.lexical_tables.specs.Readings.{FixedPoints, Integers, Number, Reading, Texts, keeps_texts}
use Rattle.lexical_tables.specs.Codes.{AreCoded, IsReadAs, coded_type, has_coded_bits}
use Rattle.lexical_tables.specs.Targets.{TargetView, has_bits, keeps_text, put_value}
use Rattle.jadvolni.specs.FormatFields.{format_of}
use Rattle.jadvolni.specs.Arrays.{array_as, array_in, number_type, type_named}
use Rattle.jadvolni.specs.Tables.{number_target, put_at, put_presence, reading_of, target_as, target_of}
use Rattle.jadvolni.specs.declared.table_columns.ColumnFields.{ColumnFields}
use Rattle.jadvolni.specs.declared.arrays.NumberType.{NumberType}
use Rattle.jadvolni.proofs.ColumnNumbers.{array_named, as_integers, type_of_reading}
use Rattle.jadvolni.proofs.TableBits.{no_bit}

-- a column has bits where its code says so
pub bits_said : (code : ℕ) (target : Option TargetView) → IsReadAs code target → has_bits target ≡ has_coded_bits code
bits_said code None read = absurd read
bits_said code (Some target) read = read.1

-- a column with a code keeps no texts
pub no_texts : (code : ℕ) (target : Option TargetView) → IsReadAs code target → keeps_text target ≡ false
no_texts code None read = refl
no_texts code (Some target) read = by_reading target.reading read.0
  where
    by_reading : (reading : Reading) → AreCoded code reading → keeps_texts reading ≡ false
    by_reading (Integers format type) coded = refl
    by_reading (FixedPoints fixed type) coded = absurd coded
    by_reading Texts coded = absurd coded

-- a column that is read has its own format
pub format_said : (column : ColumnFields) (type : NumberType) (code : ℕ) → number_type column.arrays ≡ Some type
    → column.description.places ≡ 0 → coded_type code ≡ type_named type
    → has_bits (target_of column) ≡ has_coded_bits code → (P : Option TargetView → Type 0)
    → ((target : TargetView) → target.reading ≡ Integers (format_of column.description.integer) (coded_type code)
    → is_some target.present ≡ has_coded_bits code → P (Some target))
    → P (target_of column)
format_said column type code is integers same bits P all =
    let it = array_named column.arrays type in
    let there : array_in column.arrays ≡ Some it.array = ap (array_as column.arrays) is ∙ it.there in
    subst (λ a. P (target_as column a)) (sym there) (all (number_target column it.array)
    (as_integers column.description it.array.type integers
    ∙ ap (Integers (format_of column.description.integer)) (it.same_type ∙ sym same))
    (subst (λ a. has_bits (target_as column a) ≡ has_coded_bits code) there bits))

-- what a column's code says of its type
pub type_said : (column : ColumnFields) (type : NumberType) (code : ℕ) → number_type column.arrays ≡ Some type
    → IsReadAs code (target_of column) → coded_type code ≡ type_named type
type_said column type code is read =
    let it = array_named column.arrays type in
    let there : array_in column.arrays ≡ Some it.array = ap (array_as column.arrays) is ∙ it.there in
    coded it.array.type (reading_of column.description it.array.type)
    (subst (λ a. IsReadAs code (target_as column a)) there read).0 refl
    ∙ it.same_type
  where
    coded : (own : IntegerType) (reading : Reading) → AreCoded code reading
        → reading_of column.description own ≡ reading → coded_type code ≡ own
    coded own (Integers format other) read is =
        sym read.1 ∙ sym (type_of_reading column.description own format other is)
    coded own (FixedPoints fixed other) read is = absurd read
    coded own Texts read is = absurd read

module _ (row : ℕ) (number : ℤ) where
  -- a number that is put changes no bits, and the column stays usable
  same_bits : (target : Option TargetView) → has_bits (option_map (put_at row number) target) ≡ has_bits target
  same_bits None = refl
  same_bits (Some target) = refl

  pub bits_stay : (before between : Option TargetView) → between ≡ option_map (put_at row number) before
      → has_bits between ≡ has_bits before
  bits_stay before between is = ap has_bits is ∙ same_bits before

  used : (room : ℕ) (target : Option TargetView) → IsUsable room target
      → IsUsable room (option_map (put_at row number) target)
  used room None usable = tt
  used room (Some target) usable =
      (usable.0, omega (arith, usable.1, length-set target.values row (Number number)), usable.2)

  pub stays_usable : (room : ℕ) (before between : Option TargetView) → IsUsable room before
      → between ≡ option_map (put_at row number) before → IsUsable room between
  stays_usable room before between usable is = subst (IsUsable room) (sym is) (used room before usable)

  -- a number is put with its bit, if the column has bits
  with_bit : (target : Option TargetView)
      → option_map (put_presence row true) (option_map (put_at row number) target)
      ≡ option_map (put_value row (Some (Number number))) target
  with_bit None = refl
  with_bit (Some target) = refl

  pub put_with_bit : (before between after : Option TargetView) → between ≡ option_map (put_at row number) before
      → after ≡ option_map (put_presence row true) between → after ≡ option_map (put_value row (Some (Number number))) before
  put_with_bit before between after numbered told =
      told ∙ ap (option_map (put_presence row true)) numbered ∙ with_bit before

  pub put_alone : (before after : Option TargetView) → after ≡ option_map (put_at row number) before
      → has_bits after ≡ false → after ≡ option_map (put_value row (Some (Number number))) before
  put_alone before after numbered none =
      put_with_bit before after after numbered (no_bit row true after none)
