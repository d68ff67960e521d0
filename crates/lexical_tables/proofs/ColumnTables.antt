-- A table whose columns go into targets, one row after another.
use Rattle.std.proofs.Common.{◌≡◌, ◌∙◌, ℕ, suc, ◌+◌, ◌-◌, ◌<◌, ◌≤◌, List, [], ◌∷◌, length, take, drop, cond, Result, Option, Some, None, Ok, Err, refl, ap, ap₂, sym, subst, arith, inl, inr, ◌⊎◌, zero, Bool, false, true}
use Rattle.std.specs.Prelude.{IfOk, is_none}
use Rattle.std.proofs.lemmas.List.{drop_all, drop-drop, take_all}
use Rattle.lexical_tables.specs.ByColumn.{AreUsable, StopsAt, columns_answer, columns_put, first_fault, first_of, kinds_of, put_row, put_rows, row_fault, row_values, unless, values_to_fault}
use Rattle.lexical_tables.specs.Rows.{FirstCounts, RowView, behind_piece, first_row, next_start, rows, rows_from}
use Rattle.lexical_tables.specs.Targets.{TargetView}
use Rattle.lexical_tables.specs.declared.answers.Table.{Table}
use Rattle.lexical_tables.specs.declared.answers.TableError.{TableError}
use Rattle.lexical_tables.specs.declared.dialect.Dialect.{Dialect}
use Rattle.lexical_tables.proofs.LineSteps.{none_of}
use Rattle.lexical_tables.proofs.PutSteps.{kinds_put_row, use_less, use_put_row}
use Rattle.lexical_tables.proofs.RowSteps.{HasRowsOf, next_row, no_rows, piece_goes, start_of_rows, tail_of_tail, behind_shorter, skip_ends, skip_starts}
use Rattle.lexical_tables.specs.Codes.{AreCodes}
use Rattle.lexical_tables.specs.RowSoFar.{AreRowsRead, GoesToEnd, IsRowRead, row_at}
use Rattle.lexical_tables.proofs.CodeSteps.{codes_put_row}

-- the rows of what is left of a text
abbrev rows_left : Dialect → List ℕ → List ℕ → List RowView
rows_left d text rest = rows_from d (length text - length rest) rest

-- the rows that are left to read, if `count` of at most `room` rows were read
abbrev pub left_to_read : Dialect → ℕ → List ℕ → ℕ → List ℕ → List RowView
left_to_read d room text count rest = take (room - count) (rows_left d text rest)

-- `count` rows were read. With what is read of those that are left, that is what is read of the
-- text.
pub record IsTablePut (d : Dialect) (room : ℕ) (text : List ℕ) (old now : List (Option TargetView))
    (count : ℕ) (rest : List ℕ) : Type 0 where
  pub within : length rest ≤ length text
  pub few : count ≤ room
  pub tail : rest ≡ drop (length text - length rest) text
  pub first_counts : FirstCounts d rest
  pub place : drop count (rows d text) ≡ rows_left d text rest
  pub counted : count + length (left_to_read d room text count rest) ≡ length (take room (rows d text))
  pub kinds_are : kinds_of now ≡ kinds_of old
  pub usable : AreUsable room now
  pub values : put_rows count (values_to_fault (kinds_of old) d count (left_to_read d room text count rest)) now
      ≡ put_rows 0 (values_to_fault (kinds_of old) d 0 (take room (rows d text))) old
  pub first : first_fault (kinds_of old) d count (left_to_read d room text count rest)
      ≡ first_fault (kinds_of old) d 0 (take room (rows d text))

-- What is answered of a text, and what the targets then are.
pub record IsTableDone (d : Dialect) (room : ℕ) (text : List ℕ) (old now : List (Option TargetView))
    (answer : Result Table TableError) : Type 0 where
  pub answer_is : answer ≡ columns_answer (kinds_of old) d room text
  pub targets_are : now ≡ columns_put d room text old
  pub goes_on : IfOk answer (StopsAt d room text)

-- before the first row
pub table_starts : (d : Dialect) (room : ℕ) (text rest : List ℕ) (old : List (Option TargetView)) → AreUsable room old
    → HasRowsOf d text rest → FirstCounts d rest → IsTablePut d room text old old 0 rest
table_starts d room text rest old usable skipped first =
    let start : 0 + (length text - length rest) ≡ length text - length rest = omega arith in
    let whole : room - 0 ≡ room = omega arith in
    let left : rows d text ≡ rows_left d text rest = skipped.rows_are 0 ∙ ap (λ k. rows_from d k rest) start in
    let all : left_to_read d room text 0 rest ≡ take room (rows d text) = ap₂ (λ n l. take n l) whole (sym left) in
    record {
      within = skipped.within;
      few = omega arith;
      tail = skipped.tail;
      first_counts = first;
      place = left;
      counted = omega (arith, ap length all);
      kinds_are = refl;
      usable = usable;
      values = ap (λ l. put_rows 0 (values_to_fault (kinds_of old) d 0 l) old) all;
      first = ap (first_fault (kinds_of old) d 0) all;
    }

take_none : {X : Type 0} (n : ℕ) → take {A = X} n [] ≡ []
take_none {X} n = take_all n [] (omega arith)

module _ (d : Dialect) (room : ℕ) (text : List ℕ) (old now : List (Option TargetView)) (count : ℕ) (rest : List ℕ)
    (reading : IsTablePut d room text old now count rest) where
  nothing_left : (length rest ≡ 0) ⊎ (room ≤ count) → left_to_read d room text count rest ≡ []
  nothing_left (inl ended) =
      ap (take (room - count)) (ap (rows_left d text) (none_of rest ended) ∙ no_rows d (length text - 0))
      ∙ take_none (room - count)
  nothing_left (inr full) =
      let none : room - count ≡ 0 = omega arith in
      ap (λ n. take n (rows_left d text rest)) none

  stop_is : (length rest ≡ 0) ⊎ (room ≤ count)
      → next_start (length text) (drop room (rows d text)) ≡ length text - length rest
  stop_is (inl ended) =
      let at : count + (room - count) ≡ room = omega (arith, reading.few) in
      let none : drop room (rows d text) ≡ [] =
      ap (λ n. drop n (rows d text)) (sym at)
      ∙ sym (drop-drop (room - count) count (rows d text))
      ∙ ap (drop (room - count))
      (reading.place ∙ ap (rows_left d text) (none_of rest ended) ∙ no_rows d (length text - 0))
      ∙ drop_all (room - count) [] (omega arith) in
      ap (next_start (length text)) none ∙ omega (arith, ended)
  stop_is (inr full) =
      let at : room ≡ count = omega (arith, reading.few, full) in
      ap (λ n. next_start (length text) (drop n (rows d text))) at
      ∙ ap (next_start (length text)) reading.place ∙ start_of_rows d text rest reading.first_counts

  -- no row more
  pub table_ends : (length rest ≡ 0) ⊎ (room ≤ count)
      → IsTableDone d room text old now (Ok (record { rows = count; stop = length text - length rest }))
  unfolding columns_answer columns_put
  table_ends ended =
      let all = take room (rows d text) in
      let none = nothing_left ended in
      let first : first_fault (kinds_of old) d 0 all ≡ None =
      sym reading.first ∙ ap (first_fault (kinds_of old) d count) none in
      let rows_are : length all ≡ count = omega (arith, reading.counted, ap length none) in
      record {
        answer_is =
            sym (ap (λ e. unless e (Ok (record {
              rows = length all;
              stop = next_start (length text) (drop room (rows d text));
            }))) first
            ∙ ap₂ (λ n k. Ok (record { rows = n; stop = k })) rows_are (stop_is ended));
        targets_are =
            sym (ap (λ l. put_rows count (values_to_fault (kinds_of old) d count l) now) none) ∙ reading.values;
        goes_on = record {
          within_room = reading.few;
          within_text = omega arith;
          left = ap (rows_from d (length text - length rest)) (sym reading.tail) ∙ sym reading.place;
        };
      }

  -- the targets have room for one row more
  pub row_usable : count < room → AreUsable (count + 1) now
  row_usable more = use_less (count + 1) room now (omega arith) reading.usable

  module _ (row : RowView) (behind left : List ℕ) (more : count < room) (some : 0 < length rest)
      (back : behind ≡ behind_piece d.layout d.has_quotes rest) (shorter : length behind < length rest)
      (row_is : row ≡ first_row d (length text - length rest) rest) (skipped : HasRowsOf d behind left)
      (new : List (Option TargetView)) (are : new ≡ put_row count (row_values (kinds_of now) d row) now) where
    rows_go : rows_left d text rest ≡ row ∷ rows_left d text left
    rows_go =
        let place = length text - length rest in
        let behind_at = place + (length rest - length behind) in
        let at : behind_at + (length behind - length left) ≡ length text - length left =
        omega (arith, reading.within, skipped.within) in
        next_row d place rest behind some back reading.first_counts
        ∙ ap₂ (λ r l. r ∷ l) (sym row_is)
        (skipped.rows_are behind_at ∙ ap (λ k. rows_from d k left) at)

    next_rows : left_to_read d room text count rest ≡ row ∷ left_to_read d room text (count + 1) left
    next_rows =
        let one : room - count ≡ suc (room - (count + 1)) = omega arith in
        ap₂ (λ n l. take n l) one rows_go

    new_is : new ≡ put_row count (row_values (kinds_of old) d row) now
    new_is = are ∙ ap (λ k. put_row count (row_values k d row) now) reading.kinds_are

    -- one row more
    pub table_goes : row_fault (kinds_of now) d count row ≡ None → FirstCounts d left
        → IsTablePut d room text old new (count + 1) left
    table_goes right first =
        let others = left_to_read d room text (count + 1) left in
        let fine : row_fault (kinds_of old) d count row ≡ None =
        ap (λ k. row_fault k d count row) (sym reading.kinds_are) ∙ right in
        let later = values_to_fault (kinds_of old) d (count + 1) others in
        record {
          within = omega (arith, reading.within, skipped.within);
          few = omega arith;
          tail =
              tail_of_tail text behind left skipped.within (omega (arith, reading.within))
              (piece_goes d.layout d.has_quotes text rest behind reading.within reading.tail back) skipped.tail;
          first_counts = first;
          place = sym (drop-drop 1 count (rows d text)) ∙ ap (drop 1) (reading.place ∙ rows_go);
          counted = omega (arith, ap length next_rows, reading.counted);
          kinds_are =
              ap kinds_of new_is ∙ kinds_put_row count (row_values (kinds_of old) d row) now ∙ reading.kinds_are;
          usable = subst (AreUsable room) (sym new_is) (use_put_row room count (row_values (kinds_of old) d row) now reading.usable);
          values =
              ap (put_rows (count + 1) later) new_is
              ∙ ap (λ e. put_rows count (row_values (kinds_of old) d row ∷ cond (is_none e) later []) now) (sym fine)
              ∙ ap (λ l. put_rows count (values_to_fault (kinds_of old) d count l) now) (sym next_rows) ∙ reading.values;
          first =
              ap (λ e. first_of e (first_fault (kinds_of old) d (count + 1) others)) (sym fine)
              ∙ ap (first_fault (kinds_of old) d count) (sym next_rows) ∙ reading.first;
        }

    -- a wrong row
    pub table_fault : (error : TableError) → row_fault (kinds_of now) d count row ≡ Some error
        → IsTableDone d room text old new (Err error)
    unfolding columns_answer columns_put
    table_fault error wrong =
        let all = take room (rows d text) in
        let others = left_to_read d room text (count + 1) left in
        let fault_is : row_fault (kinds_of old) d count row ≡ Some error =
        ap (λ k. row_fault k d count row) (sym reading.kinds_are) ∙ wrong in
        let first : first_fault (kinds_of old) d 0 all ≡ Some error =
        sym reading.first ∙ ap (first_fault (kinds_of old) d count) next_rows
        ∙ ap (λ e. first_of e (first_fault (kinds_of old) d (count + 1) others)) fault_is in
        record {
          answer_is =
              sym (ap (λ e. unless e (Ok (record {
                rows = length all;
                stop = next_start (length text) (drop room (rows d text));
              }))) first);
          targets_are =
              new_is
              ∙ ap (λ e. put_rows count (row_values (kinds_of old) d row
              ∷ cond (is_none e) (values_to_fault (kinds_of old) d (count + 1) others) []) now) (sym fault_is)
              ∙ ap (λ l. put_rows count (values_to_fault (kinds_of old) d count l) now) (sym next_rows) ∙ reading.values;
          goes_on = tt;
        }

-- ---- a table of which rows were read one behind another, up to a row that may be wrong

-- what holds of a table before some rows, and goes on holding behind each, holds behind all of them
pub rows_reach : (d : Dialect) (end room : ℕ) (P : List (Option TargetView) → ℕ → List ℕ → Type 0)
    → ((before : List (Option TargetView)) (index : ℕ) (rest : List ℕ) (after : List (Option TargetView)) (behind : List ℕ)
    → P before index rest → index < room → IsRowRead d end index before rest after behind → FirstCounts d behind
    → P after (index + 1) behind)
    → (first : ℕ) (old : List (Option TargetView)) (from : List ℕ) → P old first from
    → (count : ℕ) (now : List (Option TargetView)) (rest : List ℕ) → AreRowsRead d end first old from count now rest
    → (d.skips_empty_rows ≡ false) ⊎ (count ≡ 0) → first + count ≤ room → P now (first + count) rest
rows_reach d end room P step first old from begun zero now rest rows apart low =
    let none : first ≡ first + 0 = omega arith in
    subst (λ n. P now n rest) none (subst (λ l. P now first l) (sym rows.1) (subst (λ t. P t first from) (sym rows.0) begun))
rows_reach d end room P step first old from begun (suc count) now rest rows apart low =
    let counted : d.skips_empty_rows ≡ false =
    elim apart [
      | inl is ↦ is
      | inr none ↦ absurd (omega (arith, none))
    ] in
    let one : first + count + 1 ≡ first + suc count = omega arith in
    subst (λ n. P now n rest) one
    (step rows.before (first + count) rows.rest now rest
    (rows_reach d end room P step first old from begun count rows.before rows.rest rows.earlier (inl counted)
    (omega (arith, low)))
    (omega (arith, low)) rows.row (skip_ends d rest (inl counted)))

-- where empty rows are skipped, one row is read at once
pub one_if : (skips : Bool) (count : ℕ) → (skips ≡ true → count ≡ 0) → (skips ≡ false) ⊎ (count ≡ 0)
one_if true count one = inr (one refl)
one_if false count one = inl refl

codes_reach : (d : Dialect) (codes : List ℕ) (end first : ℕ) (old : List (Option TargetView)) (from : List ℕ)
    → AreCodes d codes old → (count : ℕ) (now : List (Option TargetView)) (rest : List ℕ)
    → AreRowsRead d end first old from count now rest → AreCodes d codes now
codes_reach d codes end first old from are zero now rest rows = subst (AreCodes d codes) (sym rows.0) are
codes_reach d codes end first old from are (suc count) now rest rows =
    subst (AreCodes d codes) (sym rows.row.values)
    (codes_put_row d codes (first + count) _ rows.before
    (codes_reach d codes end first old from are count rows.before rows.rest rows.earlier))

-- the codes of columns don't change
pub codes_stay : (d : Dialect) (codes : List ℕ) (end first : ℕ) (old : List (Option TargetView)) (from : List ℕ)
    (now : List (Option TargetView)) (index : ℕ) (rest : List ℕ) (answer : Option TableError)
    → GoesToEnd d end first old from now index rest answer → AreCodes d codes old → AreCodes d codes now
codes_stay d codes end first old from now index rest answer on are =
    subst (AreCodes d codes) (sym on.row.targets_are)
    (codes_put_row d codes index _ on.before (codes_reach d codes end first old from are on.count on.before rest on.rows))

module _ (d : Dialect) (room : ℕ) (text : List ℕ) (old now : List (Option TargetView)) (count : ℕ) (from : List ℕ)
    (reading : IsTablePut d room text old now count from) (new : List (Option TargetView)) (index : ℕ) (rest : List ℕ)
    (answer : Option TableError) (on : GoesToEnd d (length text) count now from new index rest answer)
    (one : d.skips_empty_rows ≡ true → index ≤ count) (more : index < room) (some : 0 < length rest) where
  step : (before : List (Option TargetView)) (at : ℕ) (here : List ℕ) (after : List (Option TargetView)) (behind : List ℕ)
      → IsTablePut d room text old before at here → at < room → IsRowRead d (length text) at before here after behind
      → FirstCounts d behind → IsTablePut d room text old after (at + 1) behind
  step before at here after behind put low row first =
      table_goes d room text old before at here put (row_at d (length text) here) behind behind low row.some row.line
      (omega (arith, ap length row.line, behind_shorter d.layout d.has_quotes here row.some)) refl (skip_starts d behind)
      after row.values row.right first

  -- before the last of the rows
  reached : IsTablePut d room text old on.before index rest
  reached =
      subst (λ n. IsTablePut d room text old on.before n rest) (sym on.number)
      (rows_reach d (length text) room (λ t n r. IsTablePut d room text old t n r) step count now from reading on.count on.before
      rest on.rows (one_if d.skips_empty_rows on.count (λ skips. omega (arith, one skips, on.number)))
      (omega (arith, more, on.number)))

  -- behind it, and the empty rows there
  pub table_reaches : answer ≡ None → (behind left : List ℕ) → behind ≡ behind_piece d.layout d.has_quotes rest
      → HasRowsOf d behind left → FirstCounts d left → IsTablePut d room text old new (index + 1) left
  table_reaches none behind left back skipped first =
      table_goes d room text old on.before index rest reached (row_at d (length text) rest) behind left more some back
      (omega (arith, ap length back, behind_shorter d.layout d.has_quotes rest some)) refl skipped new on.row.targets_are
      (sym on.row.fault_is ∙ none) first

  -- it is wrong
  pub table_stops : (error : TableError) → answer ≡ Some error → IsTableDone d room text old new (Err error)
  table_stops error is =
      let behind = behind_piece d.layout d.has_quotes rest in
      table_fault d room text old on.before index rest reached (row_at d (length text) rest) behind behind more some refl
      (behind_shorter d.layout d.has_quotes rest some) refl (skip_starts d behind) new on.row.targets_are error
      (sym on.row.fault_is ∙ is)
