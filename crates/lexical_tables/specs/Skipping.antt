-- What is read of a table whose bad rows are skipped.
use Rattle.std.specs.Prelude.{◌≡◌, ◌+◌, ◌<◌, ◌≤◌, ◌^◌, ℕ, zero, suc, Bool, if◌then◌else◌, List, [], ◌∷◌, ◌++◌, false, length, take, drop, map, filter, is_none, option_map, slice_index, Option, Some, None, IfSome}
use Rattle.lexical_tables.specs.ByColumn.{kinds_of, put_row, put_rows, row_fault, row_values}
use Rattle.lexical_tables.specs.Cells.{Kind}
use Rattle.lexical_tables.specs.Parts.{error_behind, readable, values_behind, whole_rows}
use Rattle.lexical_tables.specs.Places.{place_of}
use Rattle.lexical_tables.specs.Readings.{Value}
use Rattle.lexical_tables.specs.Rows.{RowView, next_start, rows, rows_from}
use Rattle.lexical_tables.specs.Targets.{TargetView, put_value}
use Rattle.lexical_tables.specs.declared.answers.TableError.{TableError}
use Rattle.lexical_tables.specs.declared.bad_rows.BadRow.{BadRow}
use Rattle.lexical_tables.specs.declared.bad_rows.Skipped.{Skipped}
use Rattle.lexical_tables.specs.declared.dialect.Dialect.{Dialect}

-- ---- right rows and others

-- whether nothing is wrong with a row
abbrev pub is_right : List (Option Kind) → Dialect → RowView → Bool
is_right kinds dialect row = is_none (row_fault kinds dialect 0 row)

-- the right ones of some rows
abbrev pub right_rows : List (Option Kind) → Dialect → List RowView → List RowView
right_rows kinds dialect rows = filter (is_right kinds dialect) rows

-- the rows that are read for `room` right ones: up to the last of these, or all where there are
-- fewer
abbrev pub rows_for : List (Option Kind) → Dialect → ℕ → List RowView → List RowView
rows_for kinds dialect room [] = []
rows_for kinds dialect zero (row ∷ more) = []
rows_for kinds dialect (suc room) (row ∷ more) = row ∷ rows_for kinds dialect
    (if is_right kinds dialect row then room else suc room) more

-- a list with one more in front, if there is one
abbrev pub with_first : {A : Type 0} → Option A → List A → List A
with_first None more = more
with_first (Some it) more = it ∷ more

-- the faults of the bad ones of some rows, where these are counted from a number on
abbrev pub faults_from : List (Option Kind) → Dialect → ℕ → List RowView → List TableError
faults_from kinds dialect index [] = []
faults_from kinds dialect index (row ∷ more) =
    with_first (row_fault kinds dialect index row) (faults_from kinds dialect (index + 1) more)

-- what is known of a bad row, by its fault
abbrev pub bad_row : Dialect → List ℕ → TableError → BadRow
bad_row dialect text error = record { error = error; place = place_of dialect text error.row }

-- ---- what is put

-- Targets with what is read of rows. Each is put at the place behind the right ones before it, and
-- the first at place `count`. What is read of a bad row is overwritten by the next row.
abbrev pub put_over : List (Option Kind) → Dialect → ℕ → List RowView → List (Option TargetView)
    → List (Option TargetView)
put_over kinds dialect count [] targets = targets
put_over kinds dialect count (row ∷ more) targets = put_over kinds dialect
    (if is_right kinds dialect row then count + 1 else count) more
    (put_row count (row_values kinds dialect row) targets)

-- what is read of right rows alone
abbrev pub right_values : List (Option Kind) → Dialect → List RowView → List (List (Option Value))
right_values kinds dialect rows = map (row_values kinds dialect) (right_rows kinds dialect rows)

-- the first of some values, as far as there is room, in place of those in front
abbrev pub put_in_front : {A : Type 0} → List A → List A → List A
put_in_front values old = take (length old) values ++ drop (length values) old

-- ---- tables

-- the rows of a text that are read for `room` right ones
abbrev pub rows_read : List (Option Kind) → Dialect → ℕ → List ℕ → List RowView
rows_read kinds dialect room text = rows_for kinds dialect room (rows dialect text)

-- what `read_columns_skipping` answers of a text, if it is asked for `room` right rows
unfoldable pub skipping_answer : List (Option Kind) → Dialect → ℕ → List ℕ → Skipped
skipping_answer kinds dialect room text =
    let read = rows_read kinds dialect room text in record {
      rows = length (right_rows kinds dialect read);
      bad_rows = length (faults_from kinds dialect 0 read);
      stop = next_start (length text) (drop (length read) (rows dialect text));
    }

-- what is known of the bad rows that it skips
unfoldable pub skipped_rows : List (Option Kind) → Dialect → ℕ → List ℕ → List BadRow
skipped_rows kinds dialect room text =
    map (bad_row dialect text) (faults_from kinds dialect 0 (rows_read kinds dialect room text))

-- what it leaves in targets
unfoldable pub skipping_put : Dialect → ℕ → List ℕ → List (Option TargetView)
    → List (Option TargetView)
skipping_put dialect room text targets =
    let kinds = kinds_of targets in
    put_over kinds dialect 0 (rows_read kinds dialect room text) targets

-- How far a text was read: to its end, or for as many right rows as there was room for, and up to a place from which on the
-- text has the rows that are left.
pub record SkipsTo (dialect : Dialect) (room : ℕ) (text : List ℕ) (read : Skipped) : Type 0 where
  pub within_room : read.rows ≤ room
  pub within_text : read.stop ≤ length text
  pub whole : read.rows < room → read.stop ≡ length text
  pub left : rows_from dialect read.stop (drop read.stop text)
      ≡ drop (read.rows + read.bad_rows) (rows dialect text)

-- Wherever a text is cut, what is read of the right rows in front of the cut, as far as these are whole, and then of those in
-- all that is left, is what is read of the right rows of the text; and so it is with the faults: the rows and bytes in front are
-- counted on.
pub record SkippingInParts (kinds : List (Option Kind)) (dialect : Dialect)
    (part more : List ℕ) : Type 0 where
  pub values : let front = readable false dialect part in
      let left = drop (whole_rows dialect part) part ++ more in
      right_values kinds dialect (rows dialect (part ++ more))
      ≡ right_values kinds dialect (rows dialect front)
      ++ values_behind (length front) (right_values kinds dialect (rows dialect left))
  pub faults : let front = readable false dialect part in
      let left = drop (whole_rows dialect part) part ++ more in
      faults_from kinds dialect 0 (rows dialect (part ++ more))
      ≡ faults_from kinds dialect 0 (rows dialect front)
      ++ map (error_behind (length (rows dialect front)) (length front))
      (faults_from kinds dialect 0 (rows dialect left))

-- ---- the right rows alone

-- the elements that hold the bits are bytes
abbrev pub AreBytes : List (Option TargetView) → Type 0
AreBytes [] = Unit {0}
AreBytes (target ∷ targets) = IfSome target (λ column. IfSome column.present
    (λ bytes. (place : ℕ) → slice_index bytes place < 2 ^ 8)) × AreBytes targets

-- what is read of the right rows of a text, of at most `room` of them
abbrev pub values_of_right : List (Option Kind) → Dialect → ℕ → List ℕ → List (List (Option Value))
values_of_right kinds dialect room text =
    right_values kinds dialect (rows_read kinds dialect room text)

-- targets with a blank at a row's place of each column, and without the row's bit
abbrev pub cleared_at : ℕ → List (Option TargetView) → List (Option TargetView)
cleared_at row targets = map (option_map (put_value row None)) targets

-- Targets hold what is read of the right rows, one behind another, and nothing else: but for the place behind the last one,
-- where a bad row may have left something, they are what they are if the right rows alone are put.
pub record HoldRightRows (dialect : Dialect) (room : ℕ) (text : List ℕ)
    (old now : List (Option TargetView)) : Type 0 where
  pub alone : let right = values_of_right (kinds_of old) dialect room text in
      AreBytes old → cleared_at (length right) now
      ≡ cleared_at (length right) (put_rows 0 right old)
  pub full : let right = values_of_right (kinds_of old) dialect room text in
      AreBytes old → length right ≡ room → now ≡ put_rows 0 right old
