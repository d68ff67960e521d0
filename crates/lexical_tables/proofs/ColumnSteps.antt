-- A row whose cells go into targets, one cell after another.
use Rattle.std.proofs.Common.{◌≡◌, ◌∙◌, ℕ, suc, ◌+◌, ◌-◌, ◌<◌, ◌≤◌, List, [], ◌∷◌, ◌++◌, length, take, drop, Result, Option, Some, None, Ok, Err, refl, ap, ap₂, sym, subst, arith, inl, inr, ◌⊎◌, length-take-le, take-append-drop, cond, false, true}
use Rattle.std.proofs.lemmas.List.{drop_all, drop-drop, take_all}
use Rattle.lexical_fields.specs.Columns as columns
use Rattle.lexical_fields.specs.Fields.{FieldView}
use Rattle.lexical_tables.specs.Readings.{Value}
use Rattle.lexical_tables.specs.ByColumn.{AreUsable, answer_at, cell_answers, cells_of, end_fault, fault_in, fault_of, first_start, kinds_of, put_read_at, put_row, row_answers, row_values, wrong_cell, row_fault}
use Rattle.lexical_tables.specs.Cells.{Kind}
use Rattle.lexical_tables.specs.RowSoFar.{IsRowDone, IsRowPut, answers_left, count_in, GoesOn, GoesToEnd, IsPart, IsReadTo, cells_behind, row_at}
use Rattle.lexical_tables.specs.Rows.{RowView, behind_piece, first_row}
use Rattle.lexical_tables.specs.Targets.{TargetView}
use Rattle.lexical_tables.specs.declared.answers.CellFault.{CellFault}
use Rattle.lexical_tables.specs.declared.answers.TableError.{TableError}
use Rattle.lexical_tables.specs.declared.dialect.Dialect.{Dialect}
use Rattle.lexical_tables.proofs.PutSteps.{answers_go, kinds_put, put_nothing, row_goes, use_put}
use Rattle.lexical_tables.specs.declared.next_part.Part.{Part}
use Rattle.lexical_tables.proofs.CellsLeft.{cells_begin}
use Rattle.lexical_tables.proofs.PassSteps.{end_fine}

-- before the first cell
pub row_starts : (kinds : List (Option Kind)) (d : Dialect) (index : ℕ) (row : RowView) (old : List (Option TargetView))
    (left : List FieldView) → kinds_of old ≡ kinds → AreUsable (index + 1) old → left ≡ cells_of d row
    → IsRowPut kinds d index row old old 0 left
row_starts kinds d index row old left same usable all =
    let none : count_in d - 0 ≡ count_in d = omega arith in
    let answers : answers_left kinds d 0 left ≡ row_answers kinds d row =
    ap₂ (λ n l. cell_answers d kinds (take n l)) none all in
    record {
      few = omega arith;
      place = sym all;
      counted = omega (arith, ap length all);
      kinds_are = same;
      usable = usable;
      values = ap (λ l. put_row index (columns.values_before_fault l) old) answers;
      size = omega (arith, ap (λ l. length (columns.values_before_fault l)) answers);
      first = ap columns.first_fault answers;
    }

-- answers by their faults
abbrev value_in : Result (Option Value) CellFault → Option Value
value_in (Ok value) = value
value_in (Err fault) = None

ok_of : (answer : Result (Option Value) CellFault) → None ≡ fault_in answer → answer ≡ Ok (value_in answer)
ok_of (Ok value) none = refl
ok_of (Err error) none = absurd cc

err_of : (answer : Result (Option Value) CellFault) (fault : CellFault) → Some fault ≡ fault_in answer → answer ≡ Err fault
err_of (Ok value) fault some = absurd cc
err_of (Err other) fault some = cc

no_answers : (d : Dialect) (kinds : List (Option Kind)) → cell_answers d kinds [] ≡ []
no_answers d [] = refl
no_answers d (kind ∷ kinds) = refl

take_none : {X : Type 0} (n : ℕ) → take {A = X} n [] ≡ []
take_none {X} n = take_all n [] (omega arith)

module _ (kinds : List (Option Kind)) (d : Dialect) (index : ℕ) (row : RowView) (old now : List (Option TargetView))
    (column : ℕ) (left : List FieldView) (reading : IsRowPut kinds d index row old now column left) where
  none_left : (left ≡ []) ⊎ (count_in d ≤ column) → answers_left kinds d column left ≡ []
  none_left (inl none) =
      ap (λ l. cell_answers d (drop column kinds) (take (count_in d - column) l)) none
      ∙ ap (cell_answers d (drop column kinds)) (take_none (count_in d - column)) ∙ no_answers d (drop column kinds)
  none_left (inr full) =
      let none : count_in d - column ≡ 0 = omega arith in
      ap (λ n. cell_answers d (drop column kinds) (take n left)) none ∙ no_answers d (drop column kinds)

  count_is : (left ≡ []) ⊎ (count_in d ≤ column) → length (take (count_in d) (cells_of d row)) ≡ column
  count_is (inl none) =
      ap length (take_all (count_in d) (cells_of d row) (omega (arith, reading.few, reading.counted, ap length none)))
      ∙ omega (arith, reading.counted, ap length none)
  count_is (inr full) =
      length-take-le (count_in d) (cells_of d row) (omega (arith, reading.few, reading.counted)) ∙ omega (arith, reading.few)

  -- where one more cell starts, if there is one
  extra_is : (left ≡ []) ⊎ (count_in d ≤ column) → first_start (drop (count_in d) (cells_of d row)) ≡ first_start left
  extra_is (inl none) =
      ap first_start (drop_all (count_in d) (cells_of d row) (omega (arith, reading.few, reading.counted, ap length none)))
      ∙ ap first_start (sym none)
  extra_is (inr full) =
      let at : count_in d ≡ column = omega (arith, reading.few) in
      ap (λ n. first_start (drop n (cells_of d row))) at ∙ ap first_start reading.place

  -- no cell more
  pub row_ends : (answer : Option TableError) → (left ≡ []) ⊎ (count_in d ≤ column)
      → answer ≡ end_fault (count_in d) index row column (first_start left) → IsRowDone kinds d index row old now answer
  row_ends answer all told =
      let none = none_left all in
      let first : columns.first_fault (row_answers kinds d row) ≡ None = sym reading.first ∙ ap columns.first_fault none in
      record {
        fault_is =
            told ∙ ap₂ (λ n e. end_fault (count_in d) index row n e) (sym (count_is all)) (sym (extra_is all))
            ∙ ap (fault_of d index row (length (row_values kinds d row))) (sym first);
        targets_are =
            sym (take-append-drop column now)
            ∙ ap (λ l. take column now ++ put_row index (columns.values_before_fault l) (drop column now)) (sym none)
            ∙ reading.values;
      }

  module _ (cell : FieldView) (others : List FieldView) (next_place : left ≡ cell ∷ others) (more : column < count_in d) where
    next : answers_left kinds d column left ≡ answer_at d kinds column cell ∷ answers_left kinds d (column + 1) others
    next =
        let one : count_in d - column ≡ suc (count_in d - (column + 1)) = omega arith in
        let plus : suc column ≡ column + 1 = omega arith in
        ap₂ (λ n l. cell_answers d (drop column kinds) (take n l)) one next_place
        ∙ answers_go d kinds column cell (take (count_in d - (column + 1)) others)
        ∙ ap (λ k. answer_at d kinds column cell
        ∷ cell_answers d (drop k kinds) (take (count_in d - (column + 1)) others)) plus

    -- one cell more
    pub cell_goes : (new : List (Option TargetView)) (value : Option Value) → answer_at d kinds column cell ≡ Ok value
        → new ≡ put_read_at index column (Ok value) now → IsRowPut kinds d index row old new (column + 1) others
    cell_goes new value told are =
        let later = columns.values_before_fault (answers_left kinds d (column + 1) others) in
        let at : answers_left kinds d column left ≡ Ok value ∷ answers_left kinds d (column + 1) others =
        next ∙ ap (λ a. a ∷ answers_left kinds d (column + 1) others) told in
        let plus : column + 1 ≡ suc column = omega arith in
        record {
          few = omega arith;
          place = sym (drop-drop 1 column (cells_of d row)) ∙ ap (drop 1) (reading.place ∙ next_place);
          counted = omega (arith, reading.counted, ap length next_place);
          kinds_are = ap kinds_of are ∙ kinds_put index column (Ok value) now ∙ reading.kinds_are;
          usable = subst (AreUsable (index + 1)) (sym are) (use_put (index + 1) index column (Ok value) now reading.usable);
          values =
              ap₂ (λ n l. take n l ++ put_row index later (drop n l)) plus are
              ∙ sym (row_goes index column value later now)
              ∙ ap (λ l. take column now ++ put_row index (columns.values_before_fault l) (drop column now)) (sym at)
              ∙ reading.values;
          size = omega (arith, reading.size, ap (λ l. length (columns.values_before_fault l)) at);
          first = ap columns.first_fault (sym at) ∙ reading.first;
        }

    -- a wrong cell
    pub cell_fault : (new : List (Option TargetView)) (fault : CellFault) → answer_at d kinds column cell ≡ Err fault
        → new ≡ now → IsRowDone kinds d index row old new (Some (wrong_cell index column fault))
    cell_fault new fault told same =
        let at : answers_left kinds d column left ≡ Err fault ∷ answers_left kinds d (column + 1) others =
        next ∙ ap (λ a. a ∷ answers_left kinds d (column + 1) others) told in
        let first : columns.first_fault (row_answers kinds d row) ≡ Some fault =
        sym reading.first ∙ ap columns.first_fault at in
        let count : column ≡ length (row_values kinds d row) =
        omega (arith, reading.size, ap (λ l. length (columns.values_before_fault l)) at) in
        record {
          fault_is =
              ap (λ n. Some (wrong_cell index n fault)) count
              ∙ ap (fault_of d index row (length (row_values kinds d row))) (sym first);
          targets_are =
              same ∙ sym (take-append-drop column now)
              ∙ ap (λ l. take column now ++ put_row index (columns.values_before_fault l) (drop column now)) (sym at)
              ∙ reading.values;
        }

    -- the cell that was read, by what is answered of it
    abbrev answer_here : Result (Option Value) CellFault
    answer_here = answer_at d (kinds_of now) column cell

    as_here : answer_at d kinds column cell ≡ answer_here
    as_here = ap (λ k. answer_at d k column cell) (sym reading.kinds_are)

    pub after_cell : (new : List (Option TargetView)) → None ≡ fault_in answer_here
        → new ≡ put_read_at index column answer_here now → IsRowPut kinds d index row old new (column + 1) others
    after_cell new none are =
        let right = ok_of answer_here none in
        cell_goes new (value_in answer_here) (as_here ∙ right)
        (are ∙ ap (λ a. put_read_at index column a now) right)

    pub after_fault : (new : List (Option TargetView)) (fault : CellFault) → Some fault ≡ fault_in answer_here
        → new ≡ put_read_at index column answer_here now
        → IsRowDone kinds d index row old new (Some (wrong_cell index column fault))
    after_fault new fault told are =
        let wrong = err_of answer_here fault told in
        cell_fault new fault (as_here ∙ wrong)
        (are ∙ ap (λ a. put_read_at index column a now) wrong ∙ put_nothing index column fault now)

-- ---- rows that are read one behind another, cell by cell

-- before the first cell of a row
pub row_opens : (d : Dialect) (end index : ℕ) (now : List (Option TargetView)) (rest : List ℕ)
    → AreUsable (index + 1) now → IsReadTo d end index now rest now 0 rest
row_opens d end index now rest usable =
    let row = row_at d end rest in
    let none : length rest - length rest ≡ 0 = omega arith in
    row_starts (kinds_of now) d index row now _ refl usable (ap (cells_behind d row 0) none ∙ cells_begin d row)

-- rows begin
pub goes_from : (d : Dialect) (end first : ℕ) (now : List (Option TargetView)) (rest : List ℕ)
    → AreUsable (first + 1) now → GoesOn d end first now rest now first rest 0 rest
goes_from d end first now rest usable = record {
  count = 0;
  number = omega arith;
  before = now;
  rows = (refl, refl);
  cells = row_opens d end first now rest usable;
}

module _ (d : Dialect) (s end first : ℕ) (old : List (Option TargetView)) (from : List ℕ) (now : List (Option TargetView))
    (index : ℕ) (rest : List ℕ) where
  module _ (column : ℕ) (left : List ℕ) (reading : GoesOn d end first old from now index rest column left) (part : Part)
      (is : IsPart d s rest left part) (within : length left ≤ length rest) (high : length rest ≤ end)
      (more : column < count_in d) (new : List (Option TargetView)) where
    abbrev cell : FieldView
    cell = record { start = end - length left; text = take part.size left }

    module _ (fine : fault_in (answer_at d (kinds_of now) column cell) ≡ None)
        (are : new ≡ put_read_at index column (answer_at d (kinds_of now) column cell) now) where
      -- a cell that isn't the last
      pub next_cell_goes : part.is_last ≡ false → (behind : List ℕ) → behind ≡ drop (part.end + 1) left
          → GoesOn d end first old from new index rest (column + 1) behind
      next_cell_goes goes behind back =
          let row = row_at d end rest in
          let cell_at : ℕ → FieldView = λ p. record { start = p; text = take part.size left } in
          let here : end - length rest + (length rest - length left) ≡ end - length left = omega (arith, within, high) in
          let at = is.cells (end - length rest) column
          ∙ ap (λ p. cell_at p ∷ cond part.is_last [] (cells_behind d row (column + 1) (length rest - length (drop (part.end + 1) left)))) here
          ∙ ap (λ t. cell ∷ cond t [] (cells_behind d row (column + 1) (length rest - length (drop (part.end + 1) left)))) goes
          ∙ ap (λ l. cell ∷ cells_behind d row (column + 1) (length rest - length l)) (sym back) in
          record {
            count = reading.count;
            number = reading.number;
            before = reading.before;
            rows = reading.rows;
            cells =
                after_cell (kinds_of reading.before) d index row reading.before now column _ reading.cells cell _ at more new
                (sym fine) are;
          }

      -- the last one, if the row ends well
      pub last_cell_goes : part.is_last ≡ true → column + 1 ≡ count_in d
          → (row_at d end rest).lacks_return ≡ false → GoesToEnd d end first old from new index rest None
      last_cell_goes ends all returned =
          let row = row_at d end rest in
          let cell_at : ℕ → FieldView = λ p. record { start = p; text = take part.size left } in
          let here : end - length rest + (length rest - length left) ≡ end - length left = omega (arith, within, high) in
          let at = is.cells (end - length rest) column
          ∙ ap (λ p. cell_at p ∷ cond part.is_last [] (cells_behind d row (column + 1) (length rest - length (drop (part.end + 1) left)))) here
          ∙ ap (λ t. cell ∷ cond t [] (cells_behind d row (column + 1) (length rest - length (drop (part.end + 1) left)))) ends in
          let one_more = after_cell (kinds_of reading.before) d index row reading.before now column _ reading.cells cell _ at
          more new (sym fine) are in
          record {
            count = reading.count;
            number = reading.number;
            before = reading.before;
            rows = reading.rows;
            row =
                row_ends (kinds_of reading.before) d index row reading.before new (column + 1) [] one_more None (inl refl)
                (end_fine (count_in d) index (column + 1) row (sym all) returned);
          }

  -- behind a row
  pub next_row : GoesToEnd d end first old from now index rest None → 0 < length rest → (behind : List ℕ)
      → behind ≡ behind_piece d.layout d.has_quotes rest → AreUsable (index + 2) now
      → GoesOn d end first old from now (index + 1) behind 0 behind
  next_row done some behind back usable =
      let two : index + 2 ≡ index + 1 + 1 = omega arith in
      record {
        count = suc done.count;
        number = omega (arith, done.number);
        before = now;
        rows = record {
          before = done.before;
          rest = rest;
          earlier = done.rows;
          row = record {
            some = some;
            right = ap (λ i. row_fault (kinds_of done.before) d i (row_at d end rest)) (sym done.number) ∙ sym done.row.fault_is;
            values =
                done.row.targets_are
                ∙ ap (λ i. put_row i (row_values (kinds_of done.before) d (row_at d end rest)) done.before) done.number;
            line = back;
          };
        };
        cells = row_opens d end (index + 1) now behind (subst (λ n. AreUsable n now) two usable);
      }

-- What the reader of one cell says of a row, by the row's own start and text.
module _ (d : Dialect) (end first : ℕ) (old : List (Option TargetView)) (from : List ℕ) (now : List (Option TargetView))
    (index : ℕ) (rest : List ℕ) (column : ℕ) (left : List ℕ) (start : ℕ) (text : List ℕ)
    (begins : start ≡ end - length rest) (whole : text ≡ rest) (on : GoesOn d end first old from now index rest column left)
    (new : List (Option TargetView)) where
  abbrev row : RowView
  row = first_row d start text

  same : row ≡ row_at d end rest
  same = ap₂ (first_row d) begins whole

  put : IsRowPut (kinds_of on.before) d index row on.before now column (cells_behind d row column (length text - length left))
  put =
      subst (λ r. IsRowPut (kinds_of on.before) d index r on.before now column (cells_behind d r column (length text - length left)))
      (sym same)
      (subst (λ t. IsRowPut (kinds_of on.before) d index (row_at d end rest) on.before now column
      (cells_behind d (row_at d end rest) column (length t - length left))) (sym whole) on.cells)

  -- one cell more, or several
  pub cells_read : (count : ℕ) (behind : List ℕ) → ((kinds : List (Option Kind)) (before : List (Option TargetView))
      → IsRowPut kinds d index row before now column (cells_behind d row column (length text - length left))
      → IsRowPut kinds d index row before new count (cells_behind d row count (length text - length behind)))
      → GoesOn d end first old from new index rest count behind
  cells_read count behind step = record {
    count = on.count;
    number = on.number;
    before = on.before;
    rows = on.rows;
    cells =
        subst (λ t. IsRowPut (kinds_of on.before) d index (row_at d end rest) on.before new count
        (cells_behind d (row_at d end rest) count (length t - length behind))) whole
        (subst (λ r. IsRowPut (kinds_of on.before) d index r on.before new count
        (cells_behind d r count (length text - length behind))) same (step (kinds_of on.before) on.before put));
  }

  -- the row's end
  pub row_ended : (answer : Option TableError) → ((kinds : List (Option Kind)) (before : List (Option TargetView))
      → IsRowPut kinds d index row before now column (cells_behind d row column (length text - length left))
      → IsRowDone kinds d index row before new answer)
      → GoesToEnd d end first old from new index rest answer
  row_ended answer step = record {
    count = on.count;
    number = on.number;
    before = on.before;
    rows = on.rows;
    row =
        subst (λ r. IsRowDone (kinds_of on.before) d index r on.before new answer) same
        (step (kinds_of on.before) on.before put);
  }
