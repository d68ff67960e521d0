-- Columns that can be read.
use Rattle.std.proofs.Common.{◌≡◌, ◌+◌, ℕ, Bool, true, false, cond, List, [], ◌∷◌, length, map, nat_eq, nat_lt, Option, Some, None, not, refl, ap, sym, arith, ◌==◌, ◌∙◌, ◌||◌, IfSome, ◌*◌, ◌≤◌}
use Rattle.std.proofs.lemmas.Bool.Decides.{nat_tests}
use Rattle.lexical_util.specs.Number.{IntegerType}
use Rattle.lexical_util.specs.Validity.{fault}
use Rattle.lexical_fixed.specs.Validity.{fixed_fault}
use Rattle.lexical_fixed.specs.declared.error.FixedFormatError.{FixedFormatError}
use Rattle.lexical_fixed.specs.declared.error.FixedFormatError.TheVariants.{Integer, Radix, Affix, Point, Places}
use Rattle.lexical_util.specs.declared.error.Error.{Error}
use Rattle.lexical_util.specs.declared.error.Error.TheVariants.{Overflow, Underflow, InvalidDigit, Empty, MissingSign, InvalidPositiveSign, InvalidLeadingZeros, InvalidMantissaRadix, InvalidDigitSeparator, InvalidBasePrefix, InvalidBaseSuffix, InvalidPunctuation, InvalidLiteralPrefixes}
use Rattle.lexical_tables.specs.ByColumn.{AreUsable, IsUsable}
use Rattle.lexical_tables.specs.Readings.{FixedPoints, Integers, IsValid, Number, Reading, Text, Texts, Value, keeps_texts}
use Rattle.lexical_tables.specs.Targets.{Slice, slice_of}
use Rattle.jadvolni.specs.Arrays.{ArrayView, array_in}
use Rattle.jadvolni.specs.Effect.{format_status, rule_status}
use Rattle.jadvolni.specs.Fixed.{fixed_format_status, fixed_known, fixed_of, fixed_rule_status}
use Rattle.jadvolni.specs.declared.fixed.FixedFields.{FixedFields}
use Rattle.jadvolni.specs.FormatFields.{are_known, are_zeros, format_of}
use Rattle.jadvolni.specs.Tables.{bits_of, column_status, lacks_bits, number_status, reading_of, refused, target_as, target_by, target_of, target_status, text_view, wrong_column}
use Rattle.jadvolni.specs.declared.format.FormatFields.{FormatFields}
use Rattle.jadvolni.specs.declared.table_columns.ColumnFields.{ColumnFields}
use Rattle.jadvolni.proofs.ColumnNumbers.{keeps_none}
use Rattle.jadvolni.specs.declared.tables.TableOutcome.{TableOutcome}

-- a format without a fault has the status 0
no_rule : (error : Option Error) → rule_status error ≡ 0 → error ≡ None
no_rule None is = refl
no_rule (Some (Overflow place)) is = absurd cc
no_rule (Some (Underflow place)) is = absurd cc
no_rule (Some (InvalidDigit place)) is = absurd cc
no_rule (Some (Empty place)) is = absurd cc
no_rule (Some (MissingSign place)) is = absurd cc
no_rule (Some (InvalidPositiveSign place)) is = absurd cc
no_rule (Some (InvalidLeadingZeros place)) is = absurd cc
no_rule (Some InvalidMantissaRadix) is = absurd cc
no_rule (Some InvalidDigitSeparator) is = absurd cc
no_rule (Some InvalidBasePrefix) is = absurd cc
no_rule (Some InvalidBaseSuffix) is = absurd cc
no_rule (Some InvalidPunctuation) is = absurd cc
no_rule (Some InvalidLiteralPrefixes) is = absurd cc

no_fixed_rule : (error : Option FixedFormatError) → fixed_rule_status error ≡ 0 → error ≡ None
no_fixed_rule None is = refl
no_fixed_rule (Some (Integer error)) is = absurd (some_none (no_rule (Some error) is))
  where
    some_none : Some error ≡ None → ⊥
    some_none none = cc
no_fixed_rule (Some Radix) is = absurd cc
no_fixed_rule (Some Affix) is = absurd cc
no_fixed_rule (Some Point) is = absurd cc
no_fixed_rule (Some Places) is = absurd cc

known : (is_known : Bool) (status : ℕ) → cond is_known status 64 ≡ 0 → status ≡ 0
known true status is = is
known false status is = absurd cc

valid : (fields : FormatFields) → format_status fields ≡ 0 → fault (format_of fields) ≡ None
valid fields is = no_rule (fault (format_of fields)) (known (are_known fields) (rule_status (fault (format_of fields))) is)

-- what has no status has room, and a valid format
roomy : (less lacks : Bool) (format : ℕ) → cond (less || lacks) 17 format ≡ 0 → less ≡ false
roomy true lacks format is = absurd cc
roomy false lacks format is = refl

lacks_none : (less lacks : Bool) (format : ℕ) → cond (less || lacks) 17 format ≡ 0 → lacks ≡ false
lacks_none true lacks format is = absurd cc
lacks_none false true format is = absurd cc
lacks_none false false format is = refl

then_format : (less : Bool) (format : ℕ) → cond less 17 format ≡ 0 → format ≡ 0
then_format true format is = absurd cc
then_format false format is = is

bits_roomy : (rows : ℕ) (bits : Option (List ℕ)) → lacks_bits rows bits ≡ false
    → IfSome bits (λ bytes. rows ≤ 8 * length bytes)
bits_roomy rows None is = tt
bits_roomy rows (Some bytes) is = grind (arith, nat_tests)

-- a description of which numbers are read is valid
module _ (description : FixedFields) (type : IntegerType) (status : number_status description ≡ 0) where
  after_reserved : (are_none : Bool) (rest : ℕ) → cond (not are_none) 64 rest ≡ 0 → rest ≡ 0
  after_reserved true rest is = is
  after_reserved false rest is = absurd cc

  pub valid_numbers : IsValid (reading_of description type)
  valid_numbers =
      by_places (description.places == 0)
      (after_reserved (are_zeros description.reserved)
      (cond (description.places == 0) (format_status description.integer) (fixed_format_status description)) status)
    where
      by_places : (t : Bool) → cond t (format_status description.integer) (fixed_format_status description) ≡ 0
          → IsValid (cond t (Integers (format_of description.integer) type) (FixedPoints (fixed_of description) type))
      by_places true is = valid description.integer is
      by_places false is =
          no_fixed_rule (fixed_fault (fixed_of description))
          (known (fixed_known description) (fixed_rule_status (fixed_fault (fixed_of description))) is)

module _ (rows : ℕ) (column : ColumnFields) where
  with_usable : (reading : Reading) (slice : Slice) (values : List Value)
      → (cond (keeps_texts reading) 0 (number_status column.description) ≡ 0 → IsValid reading)
      → target_status rows column.description (Some (target_by column reading slice values)) ≡ 0
      → IsUsable rows (Some (target_by column reading slice values))
  with_usable reading slice values right is =
      let less = nat_lt (length values) rows in
      let bits = bits_of column.present.now in
      let lacks = lacks_bits rows bits in
      let rest = cond (keeps_texts reading) 0 (number_status column.description) in
      let not_less = roomy less lacks rest is in (
        right (then_format (less || lacks) rest is),
        grind (arith, nat_tests),
        bits_roomy rows bits (lacks_none less lacks rest is),
      )

  text_usable : (t : Bool) (slice : Slice) (values : List Value)
      → target_status rows column.description (cond t None (Some (target_by column Texts slice values))) ≡ 0
      → IsUsable rows (cond t None (Some (target_by column Texts slice values)))
  text_usable true slice values is = tt
  text_usable false slice values is = with_usable Texts slice values (λ fine. tt) is

  as_usable : (array : Option ArrayView) → target_status rows column.description (target_as column array) ≡ 0
      → IsUsable rows (target_as column array)
  as_usable None is =
      text_usable (nat_eq (length column.texts.now) 0) (slice_of column.texts)
      (map (λ text. Text (text_view text)) column.texts.now) is
  as_usable (Some array) is =
      with_usable (reading_of column.description array.type) array.slice (map Number array.numbers)
      (λ fine. valid_numbers column.description array.type
      (sym (ap (λ t. cond t 0 (number_status column.description)) (keeps_none column.description array.type)) ∙ fine)) is

  column_usable : column_status rows column ≡ 0 → IsUsable rows (target_of column)
  column_usable is = as_usable (array_in column.arrays) is

right : (is_right : Bool) (rest : Option TableOutcome) (wrong : TableOutcome)
    → cond is_right rest (Some wrong) ≡ None → is_right ≡ true
right true rest wrong is = refl
right false rest wrong is = absurd cc

right_rest : (is_right : Bool) (rest : Option TableOutcome) (wrong : TableOutcome)
    → cond is_right rest (Some wrong) ≡ None → rest ≡ None
right_rest true rest wrong is = is
right_rest false rest wrong is = absurd cc

-- columns of which none is wrong are usable
pub all_usable : (rows index : ℕ) (columns : List ColumnFields) → wrong_column rows index columns ≡ None
    → AreUsable rows (map target_of columns)
all_usable rows index [] is = tt
all_usable rows index (column ∷ more) is =
    let status = column_status rows column in
    let told = right (nat_eq status 0) (wrong_column rows (index + 1) more) (refused status index) is in
    let zero : status ≡ 0 = grind (arith, nat_tests) in (
      column_usable rows column zero,
      all_usable rows (index + 1) more
          (right_rest (nat_eq status 0) (wrong_column rows (index + 1) more) (refused status index) is),
    )
