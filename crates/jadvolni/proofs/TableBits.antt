-- Columns with bits that say where a number is missing.
use Rattle.std.proofs.Common.{◌≡◌, ◌*◌, ◌/◌, ◌≤◌, ◌∙◌, ℕ, Bool, true, false, cond, not, List, length, map, nat_eq, Option, Some, None, Result, Ok, Err, refl, ap, sym, subst, arith, length-set}
use Rattle.std.specs.Prelude.{IfSome, is_some, option_map}
use Rattle.std.proofs.lemmas.Bool.{false≢true}
use Rattle.lexical_util.specs.declared.error.Error.{Error}
use Rattle.lexical_fields.specs.Fields.{FieldView}
use Rattle.lexical_tables.specs.ByColumn.{IsUsable}
use Rattle.lexical_tables.specs.Targets.{Slice, TargetView, slice_of, error_in, has_bits, has_numbers, keeps_text, put_answer, put_text, put_value, text_answer, text_fault, with_number, with_row_bit}
use Rattle.lexical_tables.specs.Readings.{FixedPoints, Integers, Number, Reading, Text, TextView, Texts, Value, answer_by, blank, keeps_texts, text_of}
use Rattle.jadvolni.specs.Arrays.{ArrayView, array_in}
use Rattle.jadvolni.specs.Tables.{bits_of, put_number, put_place, put_presence, put_zero, reading_of, target_as, target_by, target_of, text_view}
use Rattle.jadvolni.specs.declared.table_columns.ColumnFields.{ColumnFields}

-- bytes keep their number, and so bits stay bits
length_bit : (row : ℕ) (is_there : Bool) (bytes : List ℕ) → length (with_row_bit row is_there bytes) ≡ length bytes
length_bit row is_there bytes = length-set bytes (row / 8) _

of_some : (is_empty : Bool) (row : ℕ) (is_there : Bool) (bytes : List ℕ)
    → cond is_empty None (Some (with_row_bit row is_there bytes))
    ≡ option_map (with_row_bit row is_there) (cond is_empty None (Some bytes))
of_some true row is_there bytes = refl
of_some false row is_there bytes = refl

pub bits_put : (row : ℕ) (is_there : Bool) (bytes : List ℕ)
    → bits_of (with_row_bit row is_there bytes) ≡ option_map (with_row_bit row is_there) (bits_of bytes)
bits_put row is_there bytes =
    ap (λ n. cond (nat_eq n 0) None (Some (with_row_bit row is_there bytes))) (length_bit row is_there bytes)
    ∙ of_some (nat_eq (length bytes) 0) row is_there bytes

same_slice : (f : List ℕ → List ℕ) (slice : Slice) (bits : Option (List ℕ))
    → option_map (λ bytes. slice) (option_map f bits) ≡ option_map (λ bytes. slice) bits
same_slice f slice None = refl
same_slice f slice (Some bytes) = refl

pub slice_stays : (row : ℕ) (is_there : Bool) (bytes : List ℕ) (slice : Slice)
    → option_map (λ bits. slice) (bits_of (with_row_bit row is_there bytes)) ≡ option_map (λ bits. slice) (bits_of bytes)
slice_stays row is_there bytes slice =
    ap (option_map (λ bits. slice)) (bits_put row is_there bytes)
    ∙ same_slice (with_row_bit row is_there) slice (bits_of bytes)

-- where no number may be missing, there is no bit to put
no_bits : (row : ℕ) (is_there : Bool) (bits : Option (List ℕ)) → is_some bits ≡ false
    → bits ≡ option_map (with_row_bit row is_there) bits
no_bits row is_there None is = refl
no_bits row is_there (Some bytes) is = absurd cc

pub no_bit : (row : ℕ) (is_there : Bool) (target : Option TargetView) → has_bits target ≡ false
    → target ≡ option_map (put_presence row is_there) target
no_bit row is_there None is = refl
no_bit row is_there (Some target) is =
    ap (λ bits. Some (record target { present = bits })) (no_bits row is_there target.present is)

-- where one may, there is room for its bit
there : (room : ℕ) (is_empty : Bool) (bytes : List ℕ) → is_some (cond is_empty None (Some bytes)) ≡ true
    → IfSome (cond is_empty None (Some bytes)) (λ some. room ≤ 8 * length some) → room ≤ 8 * length bytes
there room true bytes is enough = absurd cc
there room false bytes is enough = enough

module _ (room : ℕ) (column : ColumnFields) where
  in_target : (reading : Reading) (slice : Slice) (values : List Value)
      → is_some (target_by column reading slice values).present ≡ true
      → IsUsable room (Some (target_by column reading slice values)) → room ≤ 8 * length column.present.now
  in_target reading slice values is usable =
      there room (nat_eq (length column.present.now) 0) column.present.now is usable.2

  in_texts : (t : Bool) (reading : Reading) (slice : Slice) (values : List Value)
      → has_bits (cond t None (Some (target_by column reading slice values))) ≡ true
      → IsUsable room (cond t None (Some (target_by column reading slice values))) → room ≤ 8 * length column.present.now
  in_texts true reading slice values is usable = absurd (false≢true is)
  in_texts false reading slice values is usable = in_target reading slice values is usable

  room_as : (array : Option ArrayView) → has_bits (target_as column array) ≡ true
      → IsUsable room (target_as column array) → room ≤ 8 * length column.present.now
  room_as None is usable =
      in_texts (nat_eq (length column.texts.now) 0) Texts (slice_of column.texts)
      (map (λ text. Text (text_view text)) column.texts.now) is usable
  room_as (Some array) is usable =
      in_target (reading_of column.description array.type) array.slice (map Number array.numbers) is usable

  pub bits_there : has_bits (target_of column) ≡ true → IsUsable room (target_of column)
      → room ≤ 8 * length column.present.now
  bits_there is usable = room_as (array_in column.arrays) is usable

-- a column stays usable
zero_used : (room row : ℕ) (target : Option TargetView) → IsUsable room target
    → IsUsable room (option_map (put_zero row) target)
zero_used room row None usable = tt
zero_used room row (Some target) usable =
    (usable.0, omega (arith, usable.1, length-set target.values row (blank target.reading)), usable.2)

still : (row : ℕ) (answer : Result Value Error) (values : List Value) (room : ℕ) → room ≤ length values
    → room ≤ length (with_number row answer values)
still row (Ok value) values room enough = omega (arith, enough, length-set values row value)
still row (Err error) values room enough = enough

number_used : (room row : ℕ) (text : FieldView) (target : Option TargetView) → IsUsable room target
    → IsUsable room (option_map (put_number row text) target)
number_used room row text None usable = tt
number_used room row text (Some target) usable =
    (usable.0, still row (text_answer target text) target.values room usable.1, usable.2)

pub zero_usable : (room row : ℕ) (before between : Option TargetView) → IsUsable room before
    → between ≡ option_map (put_zero row) before → IsUsable room between
zero_usable room row before between usable is = subst (IsUsable room) (sym is) (zero_used room row before usable)

pub number_usable : (room row : ℕ) (text : FieldView) (before between : Option TargetView) → IsUsable room before
    → between ≡ option_map (put_number row text) before → IsUsable room between
number_usable room row text before between usable is =
    subst (IsUsable room) (sym is) (number_used room row text before usable)

-- a missing number is 0 without its bit
zero_missing : (row : ℕ) (target : Option TargetView)
    → option_map (put_presence row false) (option_map (put_zero row) target) ≡ option_map (put_value row None) target
zero_missing row None = refl
zero_missing row (Some target) = refl

pub missing_put : (row : ℕ) (before between after : Option TargetView) → between ≡ option_map (put_zero row) before
    → after ≡ option_map (put_presence row false) between → after ≡ option_map (put_value row None) before
missing_put row before between after zeroed told =
    told ∙ ap (option_map (put_presence row false)) zeroed ∙ zero_missing row before

-- a column of numbers keeps no texts
none_kept : (texts : Bool) → not texts ≡ true → texts ≡ false
none_kept true is = absurd (false≢true is)
none_kept false is = refl

pub no_texts : (target : Option TargetView) → has_numbers target ≡ true → keeps_text target ≡ false
no_texts None is = refl
no_texts (Some target) is = none_kept (keeps_texts target.reading) is

-- a fault puts nothing
failed : (row : ℕ) (answer : Result Value Error) (target : TargetView) (error : Error) → Some error ≡ error_in answer
    → record target { values = with_number row answer target.values } ≡ put_answer row answer target
failed row (Ok value) target error is = absurd cc
failed row (Err other) target error is = refl

failed_in : (row : ℕ) (text : FieldView) (target : Option TargetView) (error : Error)
    → Some error ≡ text_fault target text
    → option_map (put_number row text) target ≡ option_map (put_text row text) target
failed_in row text None error is = refl
failed_in row text (Some target) error is = ap Some (failed row (text_answer target text) target error is)

pub number_failed : (row : ℕ) (text : FieldView) (before after : Option TargetView) (error : Error)
    → Some error ≡ text_fault before text → after ≡ option_map (put_number row text) before
    → after ≡ option_map (put_text row text) before
number_failed row text before after error is told = told ∙ failed_in row text before error is

unchanged : (row : ℕ) (answer : Result Value Error) (target : TargetView) → is_some (error_in answer) ≡ true
    → record target { values = with_number row answer target.values } ≡ target
unchanged row (Ok value) target is = absurd cc
unchanged row (Err error) target is = refl

kept_in : (row : ℕ) (text : FieldView) (target : Option TargetView) → is_some (text_fault target text) ≡ true
    → option_map (put_number row text) target ≡ target
kept_in row text None is = absurd cc
kept_in row text (Some target) is = ap Some (unchanged row (text_answer target text) target is)

pub number_kept : (row : ℕ) (text : FieldView) (before after : Option TargetView)
    → is_some (text_fault before text) ≡ true → after ≡ option_map (put_number row text) before → after ≡ before
number_kept row text before after is told = told ∙ kept_in row text before is

-- a number is put with its bit
passed : (row : ℕ) (answer : Result Value Error) (target : TargetView) → None ≡ error_in answer
    → put_presence row true (record target { values = with_number row answer target.values })
    ≡ put_answer row answer target
passed row (Ok value) target is = refl
passed row (Err other) target is = absurd cc

passed_in : (row : ℕ) (text : FieldView) (target : Option TargetView) → None ≡ text_fault target text
    → option_map (put_presence row true) (option_map (put_number row text) target)
    ≡ option_map (put_text row text) target
passed_in row text None is = refl
passed_in row text (Some target) is = ap Some (passed row (text_answer target text) target is)

pub number_read : (row : ℕ) (text : FieldView) (before between after : Option TargetView)
    → None ≡ text_fault before text → between ≡ option_map (put_number row text) before
    → after ≡ option_map (put_presence row true) between → after ≡ option_map (put_text row text) before
number_read row text before between after is numbered told =
    told ∙ ap (option_map (put_presence row true)) numbered ∙ passed_in row text before is

-- or without one, where none may be missing
same_bits : (row : ℕ) (text : FieldView) (target : Option TargetView)
    → has_bits (option_map (put_number row text) target) ≡ has_bits target
same_bits row text None = refl
same_bits row text (Some target) = refl

pub number_alone : (row : ℕ) (text : FieldView) (before after : Option TargetView) → has_bits before ≡ false
    → None ≡ text_fault before text → after ≡ option_map (put_number row text) before
    → after ≡ option_map (put_text row text) before
number_alone row text before after bits is told =
    number_read row text before after after is told
    (no_bit row true after (ap has_bits told ∙ same_bits row text before ∙ bits))

-- a text is put with its bit
place_used : (room row : ℕ) (text : TextView) (target : Option TargetView) → IsUsable room target
    → IsUsable room (option_map (put_place row text) target)
place_used room row text None usable = tt
place_used room row text (Some target) usable =
    (usable.0, omega (arith, usable.1, length-set target.values row (Text text)), usable.2)

pub place_usable : (room row : ℕ) (text : TextView) (before between : Option TargetView) → IsUsable room before
    → between ≡ option_map (put_place row text) before → IsUsable room between
place_usable room row text before between usable is =
    subst (IsUsable room) (sym is) (place_used room row text before usable)

with_place : (row : ℕ) (text : TextView) (target : Option TargetView)
    → option_map (put_presence row true) (option_map (put_place row text) target)
    ≡ option_map (put_value row (Some (Text text))) target
with_place row text None = refl
with_place row text (Some target) = refl

pub text_put : (row : ℕ) (text : TextView) (before between after : Option TargetView)
    → between ≡ option_map (put_place row text) before → after ≡ option_map (put_presence row true) between
    → after ≡ option_map (put_value row (Some (Text text))) before
text_put row text before between after placed told =
    told ∙ ap (option_map (put_presence row true)) placed ∙ with_place row text before

-- all of a text is what it stands for in a column of texts
whole_by : (row : ℕ) (text : FieldView) (reading : Reading) (target : TargetView) → target.reading ≡ reading
    → keeps_texts reading ≡ true
    → put_value row (Some (Text (text_of false text))) target ≡ put_text row text target
whole_by row text (Integers format type) target is texts = absurd (false≢true texts)
whole_by row text (FixedPoints fixed type) target is texts = absurd (false≢true texts)
whole_by row text Texts target is texts = ap (λ it. put_answer row (answer_by it text) target) (sym is)

pub whole_put : (row : ℕ) (text : FieldView) (target : Option TargetView) → keeps_text target ≡ true
    → option_map (put_value row (Some (Text (text_of false text)))) target ≡ option_map (put_text row text) target
whole_put row text None texts = refl
whole_put row text (Some target) texts = ap Some (whole_by row text target.reading target refl texts)

fault_by : (text : FieldView) (reading : Reading) → keeps_texts reading ≡ true → None ≡ error_in (answer_by reading text)
fault_by text (Integers format type) texts = absurd (false≢true texts)
fault_by text (FixedPoints fixed type) texts = absurd (false≢true texts)
fault_by text Texts texts = refl

pub no_fault : (text : FieldView) (target : Option TargetView) → keeps_text target ≡ true → None ≡ text_fault target text
no_fault text None texts = refl
no_fault text (Some target) texts = fault_by text target.reading texts
