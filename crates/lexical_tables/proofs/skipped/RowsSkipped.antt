-- A table whose bad rows are skipped, of which rows were read one behind another, up to a row that may be wrong.
use Rattle.std.proofs.Common.{◌≡◌, ◌∙◌, ℕ, ◌+◌, ◌-◌, ◌<◌, ◌≤◌, List, length, set, true, Option, None, Some, ap, sym, subst, arith}
use Rattle.lexical_tables.specs.RowSoFar.{GoesToEnd, IsRowRead, row_at}
use Rattle.lexical_tables.specs.Rows.{FirstCounts, behind_piece}
use Rattle.lexical_tables.specs.Targets.{TargetView}
use Rattle.lexical_tables.specs.declared.answers.TableError.{TableError}
use Rattle.lexical_tables.specs.declared.bad_rows.BadRow.{BadRow}
use Rattle.lexical_tables.specs.declared.dialect.Dialect.{Dialect}
use Rattle.lexical_tables.proofs.RowSteps.{HasRowsOf, behind_shorter, skip_starts}
use Rattle.lexical_tables.proofs.ColumnTables.{one_if, rows_reach}
use Rattle.lexical_tables.proofs.skipped.RowPlaces.{IsBehindRow, row_behind}
use Rattle.lexical_tables.proofs.skipped.Skipping.{IsSkipping, bad_goes, right_goes, skipping_fits}

module _ {B : Type 0} (kept : BadRow → B) (d : Dialect) (room : ℕ) (text : List ℕ) (old : List (Option TargetView))
    (slots : List B) (now : List (Option TargetView)) (here : List B) (count bad : ℕ) (from : List ℕ)
    (reading : IsSkipping kept d room text old slots now here count bad from) (new : List (Option TargetView)) (index : ℕ)
    (rest : List ℕ) (answer : Option TableError) (on : GoesToEnd d (length text) count now from new index rest answer)
    (one : d.skips_empty_rows ≡ true → index ≤ count) (more : index < room) (some : 0 < length rest) where
  step : (before : List (Option TargetView)) (at : ℕ) (left : List ℕ) (after : List (Option TargetView)) (behind : List ℕ)
      → IsSkipping kept d room text old slots before here at bad left → at < room
      → IsRowRead d (length text) at before left after behind → FirstCounts d behind
      → IsSkipping kept d room text old slots after here (at + 1) bad behind
  step before at left after behind put low row first =
      right_goes kept d room text old slots before here at bad left put behind
      (row_behind d left behind behind row.some put.passed.first_counts row.line
      (omega (arith, ap length row.line, behind_shorter d.layout d.has_quotes left row.some)) (skip_starts d behind) first)
      low after row.values row.right

  -- before the last of the rows
  reached : IsSkipping kept d room text old slots on.before here index bad rest
  reached =
      subst (λ n. IsSkipping kept d room text old slots on.before here n bad rest) (sym on.number)
      (rows_reach d (length text) room (λ t n r. IsSkipping kept d room text old slots t here n bad r) step count now from reading
      on.count on.before rest on.rows (one_if d.skips_empty_rows on.count (λ skips. omega (arith, one skips, on.number)))
      (omega (arith, more, on.number)))

  -- behind it, and the empty rows there
  pub skipping_reaches : answer ≡ None → (behind left : List ℕ) → behind ≡ behind_piece d.layout d.has_quotes rest
      → HasRowsOf d behind left → FirstCounts d left
      → IsSkipping kept d room text old slots new here (index + 1) bad left
  skipping_reaches none behind left back skipped first =
      right_goes kept d room text old slots on.before here index bad rest reached left
      (row_behind d rest behind left some reached.passed.first_counts back
      (omega (arith, ap length back, behind_shorter d.layout d.has_quotes rest some)) skipped first)
      more new on.row.targets_are (sym on.row.fault_is ∙ none)

  -- where the rest of the text begins
  pub rest_first : FirstCounts d rest
  rest_first = reached.passed.first_counts

  pub bad_fits : (error : TableError) → answer ≡ Some error → error.row + bad ≤ length text
  bad_fits error is =
      skipping_fits kept d room text old slots on.before here index bad rest reached (row_at d (length text) rest) error
      (sym on.row.fault_is ∙ is)

  -- behind a bad row
  pub bad_reaches : (error : TableError) → answer ≡ Some error → (behind : List ℕ) → IsBehindRow d rest behind
      → (then : List B) → then ≡ set here bad (kept (record {
        error = record error { row = error.row + bad };
        place = record { start = length text - length rest; stop = length text - length behind };
      })) → IsSkipping kept d room text old slots new then index (bad + 1) behind
  bad_reaches error is behind step then then_is =
      bad_goes kept d room text old slots on.before here index bad rest reached behind step more new on.row.targets_are error
      (sym on.row.fault_is ∙ is) then then_is
