-- Numbers that are put into a column's array, as the values of the column.
use Rattle.std.proofs.Common.{◌≡◌, ◌≢◌, ◌∙◌, ℕ, ◌+◌, ◌<◌, ◌≤◌, ◌==◌, Bool, true, false, cond, List, length, map, set, ℤ, pos, Result, Option, Some, None, Ok, refl, ap, ap₂, sym, subst, arith, length-set, ◌||◌, nat_lt, not}
use Rattle.std.specs.Prelude.{IfSome, option_map}
use Rattle.std.specs.Borrow.{MutBor}
use Rattle.std.proofs.lemmas.Bool.{eqb-true, false_from_ne_true, false≢true}
use Rattle.std.proofs.lemmas.List.{length-map, map-set}
use Rattle.lexical_util.specs.declared.error.Error.{Error}
use Rattle.lexical_util.specs.Format.{Format, standard}
use Rattle.lexical_util.specs.Kind.{is_punctuated, kind_of}
use Rattle.lexical_util.specs.Number.{IntegerType}
use Rattle.lexical_util.specs.Validity.{fault}
use Rattle.lexical_util.specs.declared.format.kind.FormatKind.TheVariants.{Plain}
use Rattle.lexical_util.proofs.FormatKinds.{kind_with}
use Rattle.lexical_parse_integer.specs.Answer.{view_of}
use Rattle.lexical_fields.specs.Fields.{FieldView}
use Rattle.lexical_fields.specs.ReadFields.{field_answer}
use Rattle.lexical_fixed.specs.Validity.{fixed_fault}
use Rattle.lexical_tables.specs.ByColumn.{IsUsable}
use Rattle.lexical_tables.specs.Readings.{FixedPoints, Integers, IsValid, Number, Reading, Text, Texts, Value, answer_by, blank, fixed_answer, keeps_texts}
use Rattle.lexical_tables.specs.Targets.{TargetView, error_in, has_numbers, keeps_text, slice_of, text_fault, with_number}
use Rattle.lexical_tables.proofs.NumbersPut.{as_values, same_error}
use Rattle.jadvolni.specs.Arrays.{ArrayView, array_as, array_fault, array_in, number_type, put_answer, put_number as put_in, type_named}
use Rattle.lexical_fixed.specs.Fixed.{Fixed}
use Rattle.jadvolni.specs.Fixed.{fixed_of, integer_of}
use Rattle.jadvolni.specs.FormatFields.{format_of}
use Rattle.jadvolni.specs.Tables.{bits_of, column_status, lacks_bits, number_status, number_target, put_at, put_number, put_place, put_zero, reading_of, target_as, target_by, target_of, target_status, text_target, text_view}
use Rattle.jadvolni.specs.declared.arrays.ArrayFields.{ArrayFields}
use Rattle.jadvolni.specs.declared.arrays.NumberType.{NumberType}
use Rattle.jadvolni.specs.declared.arrays.NumberType.TheVariants.{I16, I32, I64, I8, U16, U32, U64, U8}
use Rattle.jadvolni.specs.declared.fixed.FixedFields.{FixedFields}
use Rattle.jadvolni.specs.declared.table_columns.ColumnFields.{ColumnFields}
use Rattle.jadvolni.specs.declared.text_columns.TextFields.{TextFields}

-- ---- what numbers are read as

-- the kind of a valid format without punctuation, of another radix than 10
pub plain_kind : (format : Format) → fault format ≡ None → is_punctuated format ≡ false → format.mantissa_radix ≢ 10
    → kind_of format ≡ Plain
plain_kind format valid bare other =
    let no_ten : (format.mantissa_radix == 10) ≡ false = false_from_ne_true (format.mantissa_radix == 10)
    (λ is. other (eqb-true format.mantissa_radix 10 is)) in
    kind_with format None (sym valid) ∙ rw (bare, no_ten) refl

-- a description whose integer part has the standard format is that beside the standard format
pub standard_is : (fields : FixedFields) (format : Fixed) → integer_of fields.integer ≡ standard
    → format ≡ record (fixed_of fields) { integer = standard } → format ≡ fixed_of fields
standard_is fields format plain is =
    is ∙ ap (λ integer. record (fixed_of fields) { integer = integer }) (sym plain)

module _ (description : FixedFields) (type : IntegerType) where
  pub as_integers : description.places ≡ 0
      → reading_of description type ≡ Integers (format_of description.integer) type
  as_integers none =
      ap (λ n. cond (n == 0) (Integers (format_of description.integer) type) (FixedPoints (fixed_of description) type)) none

  pub as_fixed_points : description.places ≢ 0 → reading_of description type ≡ FixedPoints (fixed_of description) type
  as_fixed_points some =
      ap (λ t. cond t (Integers (format_of description.integer) type) (FixedPoints (fixed_of description) type))
      (false_from_ne_true (description.places == 0) (λ is. some (eqb-true description.places 0 is)))

  module _ (text : FieldView) where
    pub integer_answer : description.places ≡ 0 → view_of Number (field_answer (format_of description.integer) type text)
        ≡ answer_by (reading_of description type) text
    integer_answer none = ap (λ reading. answer_by reading text) (sym (as_integers none))

    pub format_answer : (format : Format) → description.places ≡ 0 → format_of description.integer ≡ format
        → view_of Number (field_answer format type text) ≡ answer_by (reading_of description type) text
    format_answer format none is =
        ap (λ format. view_of Number (field_answer format type text)) (sym is) ∙ integer_answer none

    pub standard_answer : description.places ≡ 0 → format_of description.integer ≡ standard
        → view_of Number (field_answer standard type text) ≡ answer_by (reading_of description type) text
    standard_answer = format_answer standard

    pub fixed_point_answer : description.places ≢ 0 → view_of Number (fixed_answer (fixed_of description) type text)
        ≡ answer_by (reading_of description type) text
    fixed_point_answer some = ap (λ reading. answer_by reading text) (sym (as_fixed_points some))

  -- no texts are kept
  pub keeps_none : keeps_texts (reading_of description type) ≡ false
  keeps_none = by_test (description.places == 0)
    where
      by_test : (t : Bool) → keeps_texts (cond t (Integers (format_of description.integer) type)
          (FixedPoints (fixed_of description) type)) ≡ false
      by_test true = refl
      by_test false = refl

  -- what has a number's place is 0
  pub blank_number : blank (reading_of description type) ≡ Number (pos 0)
  blank_number = by_test (description.places == 0)
    where
      by_test : (t : Bool)
          → blank (cond t (Integers (format_of description.integer) type) (FixedPoints (fixed_of description) type))
          ≡ Number (pos 0)
      by_test true = refl
      by_test false = refl

-- the type of numbers that are integers
pub type_of_reading : (description : FixedFields) (type : IntegerType) (format : Format) (other : IntegerType)
    → reading_of description type ≡ Integers format other → type ≡ other
type_of_reading description type format other is = by_test (description.places == 0) is
  where
    by_test : (t : Bool)
        → cond t (Integers (format_of description.integer) type) (FixedPoints (fixed_of description) type) ≡ Integers format other
        → type ≡ other
    by_test true is = cc
    by_test false is = absurd cc

-- ---- the array that has room

-- The array of a type.
pub record HasArray (arrays : ArrayFields) (type : NumberType) : Type 0 where
  pub array : ArrayView
  pub there : array_as arrays (Some type) ≡ Some array
  pub same_type : array.type ≡ type_named type

pub array_named : (arrays : ArrayFields) (type : NumberType) → HasArray arrays type
array_named arrays U8 = record { array = _; there = refl; same_type = refl }
array_named arrays U16 = record { array = _; there = refl; same_type = refl }
array_named arrays U32 = record { array = _; there = refl; same_type = refl }
array_named arrays U64 = record { array = _; there = refl; same_type = refl }
array_named arrays I8 = record { array = _; there = refl; same_type = refl }
array_named arrays I16 = record { array = _; there = refl; same_type = refl }
array_named arrays I32 = record { array = _; there = refl; same_type = refl }
array_named arrays I64 = record { array = _; there = refl; same_type = refl }

-- an answer that is a number is put as that
pub put_answered : (arrays : ArrayFields) (type : NumberType) (row : ℕ) (number : ℤ) (answer : IntegerType → Result ℤ Error)
    → number_type arrays ≡ Some type → answer (type_named type) ≡ Ok number
    → (option_map (put_in row number) (array_in arrays) ≡ option_map (put_answer row answer) (array_in arrays))
    × (array_fault answer (array_in arrays) ≡ None)
put_answered arrays type row number answer is told =
    let it = array_named arrays type in
    let there : array_in arrays ≡ Some it.array = ap (array_as arrays) is ∙ it.there in
    let here : answer it.array.type ≡ Ok number = ap answer it.same_type ∙ told in (
      ap (option_map (put_in row number)) there
          ∙ ap (λ a. Some (record it.array { numbers = with_number row a it.array.numbers })) (sym here)
          ∙ ap (option_map (put_answer row answer)) (sym there),
      ap (array_fault answer) there ∙ ap error_in here,
    )

-- without a type there is none
pub no_array : (arrays : ArrayFields) → number_type arrays ≡ None → array_in arrays ≡ None
no_array arrays none = ap (array_as arrays) none

-- ---- a column with other arrays

module _ (column : ColumnFields) where
  -- a column that keeps no texts has no target where it has no array
  none_alone : (t : Bool) (target : TargetView) → keeps_text (Some target) ≡ true
      → keeps_text (cond t None (Some target)) ≡ false → cond t None (Some target) ≡ None
  none_alone true target texts none = refl
  none_alone false target texts none = absurd cc

  pub no_text_target : keeps_text (text_target column) ≡ false → text_target column ≡ None
  no_text_target none = none_alone (length column.texts.now == 0) _ refl none

  -- each number has its place
  room_in : (room : ℕ) (array : Option ArrayView) → IsUsable room (target_as column array)
      → IfSome array (λ it. room ≤ length it.numbers)
  room_in room None usable = tt
  room_in room (Some array) usable = omega (arith, usable.1, length-map array.numbers Number)

  less : (row : ℕ) (array : Option ArrayView) → IfSome array (λ it. row + 1 ≤ length it.numbers)
      → IfSome array (λ it. row < length it.numbers)
  less row None room = tt
  less row (Some array) room = omega (arith, room)

  pub room_for : (row : ℕ) → IsUsable (row + 1) (target_of column)
      → IfSome (array_in column.arrays) (λ array. row < length array.numbers)
  room_for row usable = less row (array_in column.arrays) (room_in (row + 1) (array_in column.arrays) usable)

  -- a column that has an array has a valid format
  pub valid_reading : (room : ℕ) (type : NumberType) → number_type column.arrays ≡ Some type
      → IsUsable room (target_of column) → (t : IntegerType) × (IsValid (reading_of column.description t))
  valid_reading room type is usable =
      let it = array_named column.arrays type in
      let there : array_in column.arrays ≡ Some it.array = ap (array_as column.arrays) is ∙ it.there in
      (it.array.type, (subst (λ a. IsUsable room (target_as column a)) there usable).0)

  -- it has numbers, and keeps no texts
  pub numbers_there : (type : NumberType) → number_type column.arrays ≡ Some type → has_numbers (target_of column) ≡ true
  numbers_there type is =
      let it = array_named column.arrays type in
      ap (λ array. has_numbers (target_as column array)) (ap (array_as column.arrays) is ∙ it.there)
      ∙ ap not (keeps_none column.description it.array.type)

  pub no_texts_there : (type : NumberType) → number_type column.arrays ≡ Some type → keeps_text (target_of column) ≡ false
  no_texts_there type is =
      let it = array_named column.arrays type in
      ap (λ array. keeps_text (target_as column array)) (ap (array_as column.arrays) is ∙ it.there)
      ∙ keeps_none column.description it.array.type

  -- what a column that has numbers is read under is valid
  pub valid_fixed : (room : ℕ) (type : NumberType) → number_type column.arrays ≡ Some type
      → column.description.places ≢ 0 → IsUsable room (target_of column) → fixed_fault (fixed_of column.description) ≡ None
  valid_fixed room type is places usable =
      let valid = valid_reading room type is usable in
      subst IsValid (as_fixed_points column.description valid.0 places) valid.1

  pub valid_integers : (room : ℕ) (type : NumberType) → number_type column.arrays ≡ Some type
      → column.description.places ≡ 0 → IsUsable room (target_of column)
      → fault (format_of column.description.integer) ≡ None
  valid_integers room type is none usable =
      let valid = valid_reading room type is usable in
      subst IsValid (as_integers column.description valid.0 none) valid.1

  -- a column that keeps texts has no array
  pub texts_alone : (array : Option ArrayView) → keeps_text (target_as column array) ≡ true → array ≡ None
  texts_alone None texts = refl
  texts_alone (Some array) texts =
      absurd (false≢true (sym (keeps_none column.description array.type) ∙ texts))

  pub some_text : (t : Bool) (target : Option TargetView) → keeps_text (cond t None target) ≡ true → t ≡ false
  some_text true target texts = absurd (false≢true texts)
  some_text false target texts = refl

  -- with a text put among them, the texts are in their places
  pub place_there : (texts : MutBor (List TextFields)) (row : ℕ) (text : TextFields)
      → texts.now ≡ set column.texts.now row text → slice_of texts ≡ slice_of column.texts
      → keeps_text (target_of column) ≡ true
      → target_of (record column { texts = texts }) ≡ option_map (put_place row (text_view text)) (target_of column)
  place_there texts row text is same keeps =
      let none = texts_alone (array_in column.arrays) keeps in
      let changed : ColumnFields = record column { texts = texts } in
      ap (target_as changed) none
      ∙ ap₂ (λ slice list. cond (length list == 0) None (Some (target_by column Texts slice (map seen list)))) same is
      ∙ ap (λ n. cond (n == 0) None (Some (target_by column Texts (slice_of column.texts)
      (map seen (set column.texts.now row text))))) (length-set column.texts.now row text)
      ∙ put_texts (length column.texts.now == 0)
      ∙ ap (λ array. option_map (put_place row (text_view text)) (target_as column array)) (sym none)
    where
      seen : TextFields → Value
      seen it = Text (text_view it)

      put_texts : (t : Bool) → cond t None (Some (target_by column Texts (slice_of column.texts)
          (map seen (set column.texts.now row text))))
          ≡ option_map (put_place row (text_view text)) (cond t None (Some (target_by column Texts (slice_of column.texts)
          (map seen column.texts.now))))
      put_texts true = refl
      put_texts false =
          ap (λ values. Some (target_by column Texts (slice_of column.texts) values))
          (map-set seen column.texts.now row text)

  -- a blank is put where a text of no bytes is
  pub blank_text : (row : ℕ) (target : Option TargetView) → keeps_text target ≡ true
      → option_map (put_place row (record { start = 0; size = 0; has_doubled_quotes = false })) target
      ≡ option_map (put_zero row) target
  blank_text row None texts = refl
  blank_text row (Some target) texts =
      ap (λ value. Some (record target { values = set target.values row value })) (blank_is target.reading texts)
    where
      blank_is : (reading : Reading) → keeps_texts reading ≡ true
          → Text (record { start = 0; size = 0; has_doubled_quotes = false }) ≡ blank reading
      blank_is (Integers format type) texts = absurd (false≢true texts)
      blank_is (FixedPoints fixed type) texts = absurd (false≢true texts)
      blank_is Texts texts = refl

  -- what is wrong with a column that has room
  pub status_there : (rows room : ℕ) → option_map (λ array. length array.numbers) (array_in column.arrays) ≡ Some room
      → nat_lt room rows ≡ false → lacks_bits rows (bits_of column.present.now) ≡ false
      → number_status column.description ≡ column_status rows column
  status_there rows room is enough bits = by_array (array_in column.arrays) is
    where
      by_array : (array : Option ArrayView) → option_map (λ it. length it.numbers) array ≡ Some room
          → number_status column.description ≡ target_status rows column.description (target_as column array)
      by_array None none = absurd (some_none none)
        where
          some_none : None ≡ Some room → ⊥
          some_none none = cc
      by_array (Some array) some =
          let size : length (map Number array.numbers) ≡ room = length-map array.numbers Number ∙ same some in
          sym (ap (λ n. cond (nat_lt n rows || lacks_bits rows (bits_of column.present.now)) 17
          (cond (keeps_texts (reading_of column.description array.type)) 0 (number_status column.description))) size
          ∙ ap₂ (λ a b. cond (a || b) 17
          (cond (keeps_texts (reading_of column.description array.type)) 0 (number_status column.description))) enough bits
          ∙ ap (λ t. cond t 0 (number_status column.description)) (keeps_none column.description array.type))
        where
          same : Some (length array.numbers) ≡ Some room → length array.numbers ≡ room
          same some = cc

  module _ (arrays : ArrayFields) (numbers : keeps_text (target_of column) ≡ false) where
    abbrev changed : ColumnFields
    changed = record column { arrays = arrays }

    module _ (row : ℕ) (text : FieldView) (answer : IntegerType → Result ℤ Error)
        (same : (type : IntegerType) → view_of Number (answer type) ≡ answer_by (reading_of column.description type) text) where
      put_by : (array : Option ArrayView) → keeps_text (target_as column array) ≡ false
          → target_as changed (option_map (put_answer row answer) array)
          ≡ option_map (put_number row text) (target_as column array)
      put_by None none = no_text_target none ∙ sym (ap (option_map (put_number row text)) (no_text_target none))
      put_by (Some array) none =
          ap (λ values. Some (record (number_target column array) { values = values }))
          (as_values row (answer array.type) array.numbers
          ∙ ap (λ it. with_number row it (map Number array.numbers)) (same array.type))

      pub put_there : array_in arrays ≡ option_map (put_answer row answer) (array_in column.arrays)
          → target_of changed ≡ option_map (put_number row text) (target_of column)
      put_there is = ap (target_as changed) is ∙ put_by (array_in column.arrays) numbers

      fault_by : (array : Option ArrayView) → keeps_text (target_as column array) ≡ false
          → array_fault answer array ≡ text_fault (target_as column array) text
      fault_by None none = sym (ap (λ target. text_fault target text) (no_text_target none))
      fault_by (Some array) none = same_error (answer array.type) ∙ ap error_in (same array.type)

      pub fault_there : array_fault answer (array_in column.arrays) ≡ text_fault (target_of column) text
      fault_there = fault_by (array_in column.arrays) numbers

    zero_by : (row : ℕ) (array : Option ArrayView) → keeps_text (target_as column array) ≡ false
        → target_as changed (option_map (put_in row (pos 0)) array) ≡ option_map (put_zero row) (target_as column array)
    zero_by row None none = no_text_target none ∙ sym (ap (option_map (put_zero row)) (no_text_target none))
    zero_by row (Some array) none =
        ap (λ values. Some (record (number_target column array) { values = values }))
        (map-set Number array.numbers row (pos 0)
        ∙ ap (set (map Number array.numbers) row) (sym (blank_number column.description array.type)))

    pub zero_there : (row : ℕ) → array_in arrays ≡ option_map (put_in row (pos 0)) (array_in column.arrays)
        → target_of changed ≡ option_map (put_zero row) (target_of column)
    zero_there row is = ap (target_as changed) is ∙ zero_by row (array_in column.arrays) numbers

    set_by : (row : ℕ) (number : ℤ) (array : Option ArrayView) → keeps_text (target_as column array) ≡ false
        → target_as changed (option_map (put_in row number) array) ≡ option_map (put_at row number) (target_as column array)
    set_by row number None none = no_text_target none ∙ sym (ap (option_map (put_at row number)) (no_text_target none))
    set_by row number (Some array) none =
        ap (λ values. Some (record (number_target column array) { values = values }))
        (map-set Number array.numbers row number)

    pub set_there : (row : ℕ) (number : ℤ) → array_in arrays ≡ option_map (put_in row number) (array_in column.arrays)
        → target_of changed ≡ option_map (put_at row number) (target_of column)
    set_there row number is = ap (target_as changed) is ∙ set_by row number (array_in column.arrays) numbers

    pub kept_there : array_in arrays ≡ array_in column.arrays → target_of changed ≡ target_of column
    kept_there is = ap (target_as changed) is
