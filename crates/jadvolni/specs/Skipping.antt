-- Where rows are, and what reading a table does whose bad rows are skipped.
use Rattle.std.specs.Prelude.{ℕ, Bool, List, length, map, replicate, Option, Some, None}
use Rattle.lexical_tables.specs.ByColumn.{kinds_of}
use Rattle.lexical_tables.specs.Parts.{readable}
use Rattle.lexical_tables.specs.Places.{place_of}
use Rattle.lexical_tables.specs.Skipping.{put_in_front, skipped_rows, skipping_answer, skipping_put}
use Rattle.lexical_tables.specs.Targets.{TargetView}
use Rattle.lexical_tables.specs.declared.bad_rows.BadRow.{BadRow}
use Rattle.lexical_tables.specs.declared.bad_rows.Skipped.{Skipped}
use Rattle.lexical_tables.specs.declared.dialect.Dialect.{Dialect}
use Rattle.lexical_tables.specs.declared.places.RowPlace.{RowPlace}
use Rattle.jadvolni.specs.Tables.{cell_place, cell_status, dialect_of, invalid_table, target_of, wrong_column}
use Rattle.jadvolni.specs.declared.bad_rows.BadRowFields.{BadRowFields}
use Rattle.jadvolni.specs.declared.skipping.RowOutcome.{RowOutcome}
use Rattle.jadvolni.specs.declared.skipping.SkippingOutcome.{SkippingOutcome}
use Rattle.jadvolni.specs.declared.table_columns.ColumnFields.{ColumnFields}
use Rattle.jadvolni.specs.declared.tables.TableFields.{TableFields}
use Rattle.jadvolni.specs.declared.tables.TableOutcome.{TableOutcome}

-- ---- where a row is

-- what C has of a place
abbrev pub found : RowPlace → RowOutcome
found place = record { status = 0; start = place.start; stop = place.stop }

-- where a row is, if the table can be read: the text's end twice where there is none of that number
abbrev pub row_found : Option Dialect → ℕ → List ℕ → RowOutcome
row_found None row text = record { status = invalid_table; start = 0; stop = 0 }
row_found (Some dialect) row text = found (place_of dialect text row)

-- the same, of a table as C writes it; how many cells a row has to have doesn't matter
abbrev pub row_call : TableFields → ℕ → List ℕ → RowOutcome
row_call table row text = row_found (dialect_of table (length table.widths.now)) row text

-- ---- rows that are skipped

-- what C has of a bad row
abbrev pub bad_fields : BadRow → BadRowFields
bad_fields bad = record {
  status = cell_status bad.error.fault;
  reserved = replicate 20 0;
  row = bad.error.row;
  column = bad.error.column;
  place = cell_place bad.error.fault;
  start = bad.place.start;
  stop = bad.place.stop;
}

-- what C has of an answer
abbrev pub skipped_outcome : Skipped → SkippingOutcome
skipped_outcome read = record {
  status = 0;
  column = 0;
  rows = read.rows;
  bad_rows = read.bad_rows;
  place = read.stop;
}

-- a status without a place, at a column
abbrev pub not_read : ℕ → ℕ → SkippingOutcome
not_read status column =
    record { status = status; column = column; rows = 0; bad_rows = 0; place = 0 }

-- What is answered, the columns as targets, with the numbers that their arrays then have, and what is known of bad rows.
pub record SkippingEffect : Type 0 where
  pub outcome : SkippingOutcome
  pub targets : List (Option TargetView)
  pub bad : List BadRowFields

-- what a call did, by its result, by the columns that C then has, and by the array of bad rows
abbrev pub skipping_effect : SkippingOutcome → List ColumnFields → List BadRowFields
    → SkippingEffect
skipping_effect outcome columns bad =
    record { outcome = outcome; targets = map target_of columns; bad = bad }

-- reading the table of a text, or of a part of one, unless it or a column can't be read: rows at fault are skipped
abbrev pub skipping_read : Option Dialect → Option TableOutcome → Bool → ℕ → List ℕ
    → List (Option TargetView) → List BadRowFields → SkippingEffect
skipping_read None wrong is_last rows text targets bad =
    record { outcome = not_read invalid_table 0; targets = targets; bad = bad }
skipping_read (Some dialect) (Some wrong) is_last rows text targets bad =
    record { outcome = not_read wrong.status wrong.column; targets = targets; bad = bad }
skipping_read (Some dialect) None is_last rows text targets bad =
    let part = readable is_last dialect text in
    let kinds = kinds_of targets in record {
      outcome = skipped_outcome (skipping_answer kinds dialect rows part);
      targets = skipping_put dialect rows part targets;
      bad = put_in_front (map bad_fields (skipped_rows kinds dialect rows part)) bad;
    }

-- reading it into these columns
abbrev pub skipping_call : TableFields → Bool → ℕ → List ℕ → List ColumnFields
    → List BadRowFields → SkippingEffect
skipping_call table is_last rows text columns bad = skipping_read
    (dialect_of table (length columns)) (wrong_column rows 0 columns) is_last rows text
    (map target_of columns) bad
