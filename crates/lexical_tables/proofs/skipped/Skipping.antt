-- A table whose bad rows are skipped, one row after another.
use Rattle.std.proofs.Common.{◌≡◌, ◌∙◌, ℕ, zero, suc, ◌+◌, ◌-◌, ◌<◌, ◌≤◌, List, [], ◌∷◌, ◌++◌, length, take, drop, map, set, cond, Option, Some, None, refl, ap, ap₂, sym, subst, arith, inl, inr, ◌⊎◌}
use Rattle.std.specs.Prelude.{is_none, option_map}
use Rattle.std.proofs.lemmas.List.{map-append}
use Rattle.lexical_tables.specs.ByColumn.{AreUsable, kinds_of, put_row, row_fault, row_values}
use Rattle.lexical_tables.specs.Cells.{Kind}
use Rattle.lexical_tables.specs.Rows.{RowView, first_row, next_start, rows}
use Rattle.lexical_tables.specs.Skipping.{HoldRightRows, SkipsTo, bad_row, cleared_at, faults_from, is_right, put_in_front, put_over, right_rows, right_values, rows_for, rows_read, skipped_rows, skipping_answer, skipping_put, with_first}
use Rattle.lexical_tables.specs.Targets.{TargetView}
use Rattle.lexical_tables.specs.declared.answers.TableError.{TableError}
use Rattle.lexical_tables.specs.declared.bad_rows.BadRow.{BadRow}
use Rattle.lexical_tables.specs.declared.bad_rows.Skipped.{Skipped}
use Rattle.lexical_tables.specs.declared.dialect.Dialect.{Dialect}
use Rattle.lexical_tables.proofs.PutSteps.{kinds_put_row, use_less, use_put_row}
use Rattle.lexical_tables.proofs.skipped.RightRows.{counts_same, fault_numbered, hold_full, hold_right, numbered, right_numbered}
use Rattle.lexical_tables.proofs.skipped.RowPlaces.{IsBehindRow, IsPassedTo, next_place, no_more, passed_goes, place_found, row_of_fault, rows_go, rows_there}

-- ---- values that are put in front

pub put_none : {A : Type 0} (old : List A) → put_in_front [] old ≡ old
put_none {A} [] = refl
put_none {A} (x ∷ xs) = refl

take_none : {A : Type 0} (n : ℕ) (l : List A) → take {A = A} n [] ++ l ≡ l
take_none {A} zero l = refl
take_none {A} (suc n) l = refl

-- one more is put behind the others, if there is room
pub put_one_more : {A : Type 0} (values : List A) (value : A) (old : List A)
    → set (put_in_front values old) (length values) value ≡ put_in_front (values ++ value ∷ []) old
put_one_more {A} [] value [] = refl
put_one_more {A} [] value (x ∷ xs) = ap (λ l. value ∷ l) (sym (take_none (length xs) xs))
put_one_more {A} (v ∷ vs) value [] = refl
put_one_more {A} (v ∷ vs) value (x ∷ xs) = ap (λ l. v ∷ l) (put_one_more vs value xs)

pub append_one : {A : Type 0} (front : List A) (value : A) (more : List A) → (front ++ value ∷ []) ++ more ≡ front ++ value ∷ more
append_one {A} [] value more = refl
append_one {A} (x ∷ xs) value more = ap (λ l. x ∷ l) (append_one xs value more)

append_none : {A : Type 0} (front : List A) → front ++ [] ≡ front
append_none {A} [] = refl
append_none {A} (x ∷ xs) = ap (λ l. x ∷ l) (append_none xs)

pub long_one : {A : Type 0} (front : List A) (value : A) → length (front ++ value ∷ []) ≡ length front + 1
long_one {A} [] value = refl
long_one {A} (x ∷ xs) value = omega (arith, long_one xs value)

long_map : {A B : Type 0} (f : A → B) (l : List A) → length (map f l) ≡ length l
long_map {A} {B} f [] = refl
long_map {A} {B} f (x ∷ xs) = ap suc (long_map f xs)

-- ---- rows that are left

module _ (kinds : List (Option Kind)) (d : Dialect) where
  -- no row is left, or no room
  rows_none : (room : ℕ) (all : List RowView) → (all ≡ []) ⊎ (room ≡ 0) → rows_for kinds d room all ≡ []
  rows_none room all (inl none) = ap (rows_for kinds d room) none
  rows_none room [] (inr none) = refl
  rows_none room (row ∷ more) (inr none) = ap (λ n. rows_for kinds d n (row ∷ more)) none

  module _ (row : RowView) (more : List RowView) (index : ℕ) where
    is_right_by : (fault : Option TableError) → row_fault kinds d index row ≡ fault → is_right kinds d row ≡ is_none fault
    is_right_by fault is = right_numbered kinds d index row ∙ ap is_none is

    -- a right row is in front
    module _ (right : row_fault kinds d index row ≡ None) (room : ℕ) where
      right_rows_for : rows_for kinds d (suc room) (row ∷ more) ≡ row ∷ rows_for kinds d room more
      right_rows_for = ap (λ t. row ∷ rows_for kinds d (cond t room (suc room)) more) (is_right_by None right)

      right_first : right_rows kinds d (row ∷ more) ≡ row ∷ right_rows kinds d more
      right_first = ap (λ t. cond t (row ∷ right_rows kinds d more) (right_rows kinds d more)) (is_right_by None right)

      right_put : (count : ℕ) (targets : List (Option TargetView)) → put_over kinds d count (row ∷ more) targets
          ≡ put_over kinds d (count + 1) more (put_row count (row_values kinds d row) targets)
      right_put count targets =
          ap (λ t. put_over kinds d (cond t (count + 1) count) more (put_row count (row_values kinds d row) targets))
          (is_right_by None right)

      right_faults : faults_from kinds d index (row ∷ more) ≡ faults_from kinds d (index + 1) more
      right_faults = ap (λ e. with_first e (faults_from kinds d (index + 1) more)) right

    -- a bad one is
    module _ (error : TableError) (wrong : row_fault kinds d index row ≡ Some error) (room : ℕ) where
      bad_rows_for : rows_for kinds d (suc room) (row ∷ more) ≡ row ∷ rows_for kinds d (suc room) more
      bad_rows_for = ap (λ t. row ∷ rows_for kinds d (cond t room (suc room)) more) (is_right_by (Some error) wrong)

      bad_first : right_rows kinds d (row ∷ more) ≡ right_rows kinds d more
      bad_first = ap (λ t. cond t (row ∷ right_rows kinds d more) (right_rows kinds d more)) (is_right_by (Some error) wrong)

      bad_put : (count : ℕ) (targets : List (Option TargetView)) → put_over kinds d count (row ∷ more) targets
          ≡ put_over kinds d count more (put_row count (row_values kinds d row) targets)
      bad_put count targets =
          ap (λ t. put_over kinds d (cond t (count + 1) count) more (put_row count (row_values kinds d row) targets))
          (is_right_by (Some error) wrong)

      bad_faults : faults_from kinds d index (row ∷ more) ≡ error ∷ faults_from kinds d (index + 1) more
      bad_faults = ap (λ e. with_first e (faults_from kinds d (index + 1) more)) wrong

-- ---- reading

module _ {B : Type 0} (kept : BadRow → B) (d : Dialect) (room : ℕ) (text : List ℕ) (old : List (Option TargetView))
    (slots : List B) where
  abbrev kinds : List (Option Kind)
  kinds = kinds_of old

  -- the rows that are read
  abbrev all_read : List RowView
  all_read = rows_read kinds d room text

  -- those that are left to read
  abbrev left_to_read : ℕ → ℕ → List RowView
  left_to_read count bad = rows_for kinds d (room - count) (drop (count + bad) (rows d text))

  -- what is known of bad ones
  abbrev known : ℕ → List RowView → List BadRow
  known index some = map (bad_row d text) (faults_from kinds d index some)

  -- `count` right rows and `bad` bad ones were read. With what is read of those that are left, that
  -- is what is read of the text.
  pub record IsSkipping (now : List (Option TargetView)) (here : List B) (count bad : ℕ) (rest : List ℕ) : Type 0 where
    pub passed : IsPassedTo d text (count + bad) rest
    pub few : count ≤ room
    pub kinds_are : kinds_of now ≡ kinds
    pub usable : AreUsable room now
    pub values : put_over kinds d count (left_to_read count bad) now ≡ put_over kinds d 0 all_read old
    pub read : count + bad + length (left_to_read count bad) ≡ length all_read
    pub right : count + length (right_rows kinds d (left_to_read count bad)) ≡ length (right_rows kinds d all_read)
    pub done : List BadRow
    pub done_size : length done ≡ bad
    pub known_are : done ++ known (count + bad) (left_to_read count bad) ≡ known 0 all_read
    pub here_is : here ≡ put_in_front (map kept done) slots

  -- What is answered, what the targets then are, and what is kept.
  pub record IsSkippedDone (now : List (Option TargetView)) (here : List B) (answer : Skipped) : Type 0 where
    pub answer_is : answer ≡ skipping_answer kinds d room text
    pub targets_are : now ≡ skipping_put d room text old
    pub kept_are : here ≡ put_in_front (map kept (skipped_rows kinds d room text)) slots
    pub goes_on : SkipsTo d room text answer
    pub right_alone : HoldRightRows d room text old now

  -- before the first row
  pub skipping_starts : (rest : List ℕ) → AreUsable room old → IsPassedTo d text 0 rest → IsSkipping old slots 0 0 rest
  skipping_starts rest usable passed =
      let whole : room - 0 ≡ room = omega arith in
      let all : left_to_read 0 0 ≡ all_read = ap (λ n. rows_for kinds d n (rows d text)) whole in
      record {
        passed = passed;
        few = omega arith;
        kinds_are = refl;
        usable = usable;
        values = ap (λ l. put_over kinds d 0 l old) all;
        read = omega (arith, ap length all);
        right = omega (arith, ap (λ l. length (right_rows kinds d l)) all);
        done = [];
        done_size = refl;
        known_are = ap (known 0) all;
        here_is = sym (put_none slots);
      }

  module _ (now : List (Option TargetView)) (here : List B) (count bad : ℕ) (rest : List ℕ)
      (reading : IsSkipping now here count bad rest) where
    -- the targets have room for one row more
    pub skipping_usable : count < room → AreUsable (count + 1) now
    skipping_usable more = use_less (count + 1) room now (omega arith) reading.usable

    -- places count no further than the text
    pub skipping_fits : (row : RowView) (error : TableError) → row_fault (kinds_of now) d count row ≡ Some error
        → error.row + bad ≤ length text
    skipping_fits row error is =
        omega (arith, row_of_fault (kinds_of now) d count row error is, reading.passed.few)

    -- no row more
    pub skipping_ends : (length rest ≡ 0) ⊎ (room ≤ count)
        → IsSkippedDone now here (record { rows = count; bad_rows = bad; stop = length text - length rest })
    unfolding skipping_answer skipped_rows skipping_put
    skipping_ends ended =
        let none : left_to_read count bad ≡ [] =
        rows_none kinds d (room - count) (drop (count + bad) (rows d text)) (elim ended [
          | inl empty ↦ inl (no_more d text (count + bad) rest reading.passed empty)
          | inr full ↦ inr (omega (arith, full))
        ]) in
        let right_are : length (right_rows kinds d all_read) ≡ count =
        omega (arith, reading.right, ap (λ l. length (right_rows kinds d l)) none) in
        let known_is : known 0 all_read ≡ reading.done =
        sym reading.known_are ∙ ap (λ l. reading.done ++ known (count + bad) l) none ∙ append_none reading.done in
        let bad_are : length (faults_from kinds d 0 all_read) ≡ bad =
        sym (long_map (bad_row d text) (faults_from kinds d 0 all_read)) ∙ ap length known_is ∙ reading.done_size in
        let read_are : length all_read ≡ count + bad = omega (arith, reading.read, ap length none) in
        let stop_is : next_start (length text) (drop (length all_read) (rows d text)) ≡ length text - length rest =
        ap (λ n. next_start (length text) (drop n (rows d text))) read_are
        ∙ next_place d text (count + bad) rest reading.passed in
        let are : now ≡ put_over kinds d 0 all_read old =
        sym (ap (λ l. put_over kinds d count l now) none) ∙ reading.values in
        record {
          answer_is =
              sym (ap₂ (λ r b. record {
                rows = r;
                bad_rows = b;
                stop = next_start (length text) (drop (length all_read) (rows d text));
              }) right_are bad_are
              ∙ ap (λ s. record { rows = count; bad_rows = bad; stop = s }) stop_is);
          targets_are = are;
          kept_are = reading.here_is ∙ ap (λ l. put_in_front (map kept l) slots) (sym known_is);
          goes_on = record {
            within_room = reading.few;
            within_text = omega arith;
            whole = λ less. elim ended [
              | inl empty ↦ omega (arith, empty)
              | inr full ↦ absurd (omega (arith, less, full))
            ];
            left = rows_there d text (count + bad) rest reading.passed;
          };
          right_alone = record {
            alone = λ small.
                ap (cleared_at (length (right_values kinds d all_read))) are
                ∙ hold_right kinds d all_read 0 (length (right_values kinds d all_read)) old old (counts_same d 0 old) small (omega arith);
            full = λ small is. are ∙ hold_full kinds d (rows d text) room 0 old old (counts_same d 0 old) small (λ none. refl) is;
          };
        }

    module _ (behind : List ℕ) (step : IsBehindRow d rest behind) (more : count < room)
        (new : List (Option TargetView)) where
      abbrev row : RowView
      row = first_row d (length text - length rest) rest

      module _ (are : new ≡ put_row count (row_values (kinds_of now) d row) now) where
        new_is : new ≡ put_row count (row_values kinds d row) now
        new_is = are ∙ ap (λ k. put_row count (row_values k d row) now) reading.kinds_are

        new_kinds : kinds_of new ≡ kinds
        new_kinds = ap kinds_of new_is ∙ kinds_put_row count (row_values kinds d row) now ∙ reading.kinds_are

        new_usable : AreUsable room new
        new_usable = subst (AreUsable room) (sym new_is) (use_put_row room count (row_values kinds d row) now reading.usable)

        abbrev rows_behind : List RowView
        rows_behind = drop (count + bad + 1) (rows d text)

        next_rows : drop (count + bad) (rows d text) ≡ row ∷ rows_behind
        next_rows =
            let passed_on = passed_goes d text (count + bad) rest reading.passed behind step in
            rows_go d text (count + bad) rest reading.passed behind step ∙ ap (λ l. row ∷ l) (sym passed_on.place)

        fault_at : (fault : Option TableError) → row_fault (kinds_of now) d count row ≡ fault
            → row_fault kinds d (count + bad) row ≡ option_map (numbered (count + bad)) fault
        fault_at fault is =
            fault_numbered kinds d count (count + bad) row
            ∙ ap (option_map (numbered (count + bad))) (ap (λ k. row_fault k d count row) (sym reading.kinds_are) ∙ is)

        -- a right row more
        pub right_goes : row_fault (kinds_of now) d count row ≡ None → IsSkipping new here (count + 1) bad behind
        right_goes none =
            let right = fault_at None none in
            let others = left_to_read (count + 1) bad in
            let at : count + bad + 1 ≡ count + 1 + bad = omega arith in
            let one : room - count ≡ suc (room - (count + 1)) = omega (arith, more) in
            let left_are : left_to_read count bad ≡ row ∷ others =
            ap₂ (λ n l. rows_for kinds d n l) one next_rows
            ∙ right_rows_for kinds d row rows_behind (count + bad) right (room - (count + 1))
            ∙ ap (λ n. row ∷ rows_for kinds d (room - (count + 1)) (drop n (rows d text))) at in
            record {
              passed = subst (λ n. IsPassedTo d text n behind) at (passed_goes d text (count + bad) rest reading.passed behind step);
              few = omega (arith, more);
              kinds_are = new_kinds;
              usable = new_usable;
              values =
                  ap (put_over kinds d (count + 1) others) new_is
                  ∙ sym (right_put kinds d row others (count + bad) right (room - (count + 1)) count now)
                  ∙ ap (λ l. put_over kinds d count l now) (sym left_are) ∙ reading.values;
              read = omega (arith, reading.read, ap length left_are);
              right = omega (
                arith,
                reading.right,
                ap (λ l. length (right_rows kinds d l)) left_are,
                ap length (right_first kinds d row others (count + bad) right (room - (count + 1))),
              );
              done = reading.done;
              done_size = reading.done_size;
              known_are =
                  ap (λ n. reading.done ++ known n others) (sym at)
                  ∙ ap (λ l. reading.done ++ map (bad_row d text) l)
                  (sym (right_faults kinds d row others (count + bad) right (room - (count + 1))))
                  ∙ ap (λ l. reading.done ++ known (count + bad) l) (sym left_are) ∙ reading.known_are;
              here_is = reading.here_is;
            }

        -- what is known of a bad one
        abbrev known_of : TableError → BadRow
        known_of error = record {
          error = record error { row = error.row + bad };
          place = record { start = length text - length rest; stop = length text - length behind };
        }

        -- a bad one
        pub bad_goes : (error : TableError) → row_fault (kinds_of now) d count row ≡ Some error → (then : List B)
            → then ≡ set here bad (kept (known_of error)) → IsSkipping new then count (bad + 1) behind
        bad_goes error is then then_is =
            let bad_one = known_of error in
            let row_is = row_of_fault (kinds_of now) d count row error is in
            let wrong = fault_at (Some error) is in
            let told = numbered (count + bad) error in
            let others = left_to_read count (bad + 1) in
            let at : count + bad + 1 ≡ count + (bad + 1) = omega arith in
            let one : room - count ≡ suc (room - (count + 1)) = omega (arith, more) in
            let left_are : left_to_read count bad ≡ row ∷ others =
            ap₂ (λ n l. rows_for kinds d n l) one next_rows
            ∙ bad_rows_for kinds d row rows_behind (count + bad) told wrong (room - (count + 1))
            ∙ ap₂ (λ n m. row ∷ rows_for kinds d n (drop m (rows d text))) (sym one) at in
            let known_one : bad_one ≡ bad_row d text told =
            ap₂ (λ n p. record { error = record error { row = n }; place = p }) (omega (arith, row_is))
            (sym (place_found d text (count + bad) rest reading.passed behind step)) in
            record {
              passed = subst (λ n. IsPassedTo d text n behind) at (passed_goes d text (count + bad) rest reading.passed behind step);
              few = reading.few;
              kinds_are = new_kinds;
              usable = new_usable;
              values =
                  ap (put_over kinds d count others) new_is
                  ∙ sym (bad_put kinds d row others (count + bad) told wrong (room - (count + 1)) count now)
                  ∙ ap (λ l. put_over kinds d count l now) (sym left_are) ∙ reading.values;
              read = omega (arith, reading.read, ap length left_are);
              right = omega (
                arith,
                reading.right,
                ap (λ l. length (right_rows kinds d l)) left_are,
                ap length (bad_first kinds d row others (count + bad) told wrong (room - (count + 1))),
              );
              done = reading.done ++ bad_one ∷ [];
              done_size = omega (arith, long_one reading.done bad_one, reading.done_size);
              known_are =
                  append_one reading.done bad_one (known (count + (bad + 1)) others)
                  ∙ ap₂ (λ b n. reading.done ++ b ∷ known n others) known_one (sym at)
                  ∙ ap (λ l. reading.done ++ map (bad_row d text) l)
                  (sym (bad_faults kinds d row others (count + bad) told wrong (room - (count + 1))))
                  ∙ ap (λ l. reading.done ++ known (count + bad) l) (sym left_are) ∙ reading.known_are;
              here_is =
                  then_is ∙ ap (λ l. set l bad (kept bad_one)) reading.here_is
                  ∙ ap (λ n. set (put_in_front (map kept reading.done) slots) n (kept bad_one))
                  (sym (long_map kept reading.done ∙ reading.done_size))
                  ∙ put_one_more (map kept reading.done) (kept bad_one) slots
                  ∙ ap (λ l. put_in_front l slots) (sym (map-append kept reading.done (bad_one ∷ [])));
            }
