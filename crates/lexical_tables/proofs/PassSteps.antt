-- A row whose cells are found in one pass, from what is left of its text on.
use Rattle.std.proofs.Common.{◌≡◌, ◌≢◌, ◌∙◌, ℕ, zero, suc, ◌+◌, ◌-◌, ◌<◌, ◌≤◌, ◌&&◌, ◌||◌, ◌==◌, List, [], ◌∷◌, length, take, drop, get_or, get_or-drop, length-drop, length-take-le, Bool, true, false, not, cond, eqb, eq-eqb, Option, Some, None, refl, ap, ap₂, sym, subst, arith, inl, inr, ◌⊎◌}
use Rattle.std.specs.Prelude.{is_none, nat_lt}
use Rattle.std.proofs.lemmas.Bool.{le-ltb, lt-ltb, ne_eqb}
use Rattle.std.proofs.lemmas.Bool.Decides.{eqb_tells}
use Rattle.std.proofs.lemmas.List.{drop-drop, drop-take, get_or-take, take-take, take_all}
use Rattle.lexical_fields.specs.Fields.{FieldView}
use Rattle.lexical_tables.specs.ByColumn.{answer_at, cells_left, end_fault, fault_in, kinds_of, put_read_at, first_start, lacks_cell, separator_of, wrong_cell}
use Rattle.lexical_tables.specs.Ends.{AreEndsIf}
use Rattle.lexical_tables.specs.Quotes.{length_outside, pieces_outside}
use Rattle.lexical_tables.specs.RowSoFar.{IsMarked, IsOnRow, cells_behind}
use Rattle.lexical_tables.specs.Rows.{RowView, behind_piece, carriage_return, ends_in, first_piece, first_row, has_lines, is_ended, line_feed, row_of, takes_returns}
use Rattle.lexical_tables.specs.Targets.{TargetView}
use Rattle.lexical_tables.specs.declared.answers.CellFault.{CellFault}
use Rattle.lexical_tables.specs.declared.answers.CellFault.TheVariants.{MissingReturn, TooFewCells, TooManyCells}
use Rattle.lexical_tables.specs.declared.dialect.Dialect.{Dialect}
use Rattle.lexical_tables.specs.declared.dialect.Layout.{Layout}
use Rattle.lexical_tables.specs.declared.dialect.Layout.TheVariants.{Records, Separated, Widths}
use Rattle.lexical_tables.proofs.CellsLeft.{starts_left}
use Rattle.lexical_tables.proofs.CellEnds.{no_ends}
use Rattle.lexical_tables.proofs.EndedCells.{cell_before, cell_last}
use Rattle.lexical_tables.proofs.OutsideSteps.{next_piece, outside_within}

-- a layout that has a separator
separated_is : (layout : Layout) (s : ℕ) → separator_of layout ≡ Some s → (P : Layout → Type 0)
    → ((columns : ℕ) → P (Separated s columns)) → P layout
separated_is (Separated t columns) s is P right =
    let same : s ≡ t = cc in
    subst (λ k. P (Separated k columns)) same (right columns)
separated_is (Widths widths) s is P right = absurd cc
separated_is (Records widths) s is P right = absurd cc

-- The bytes of a text's first row: those of its line, or without the return at its end.
pub record RowText (d : Dialect) (start : ℕ) (text : List ℕ) : Type 0 where
  pub size : ℕ
  pub text_is : (first_row d start text).text ≡ take size text
  pub all : (size ≡ length_outside d.has_quotes line_feed text)
      ⊎ ((size + 1 ≡ length_outside d.has_quotes line_feed text) × (get_or text size 0 ≡ carriage_return)
      × (takes_returns d ≡ true))

and_both : (a b : Bool) → (a && b) ≡ true → (a ≡ true) × (b ≡ true)
and_both true b both = (refl, both)
and_both false b both = absurd cc

or_neither : (a b : Bool) → (a || b) ≡ false → a ≡ false
or_neither true b none = none
or_neither false b none = refl

lacks : (asks now : Bool) {then : Bool} → now ≡ then → ((asks && true) && now) ≡ (asks && then)
lacks true now same = same
lacks false now same = refl

module _ (d : Dialect) (s : ℕ) (marked : IsMarked d s) (start : ℕ) (text : List ℕ) where
  abbrev line_length : ℕ
  line_length = length_outside d.has_quotes line_feed text

  -- whether a return may end a line
  abbrev takes : Bool
  takes = takes_returns d

  line_low : line_length ≤ length text
  line_low = outside_within d.has_quotes line_feed text

  line_size : length (take line_length text) ≡ line_length
  line_size = length-take-le line_length text line_low

  -- the first row, as a line
  line_row : first_row d start text
      ≡ row_of takes d.has_returns (start + length text) (record { start = start; text = take line_length text })
  line_row = separated_is d.layout s marked.parts
      (λ l. row_of (has_lines l && takes) (has_lines l && d.has_returns) (start + length text)
      (record { start = start; text = first_piece l d.has_quotes text })
      ≡ row_of takes d.has_returns (start + length text) (record { start = start; text = take line_length text }))
      (λ columns. refl)

  -- what stands behind it
  pub line_behind : behind_piece d.layout d.has_quotes text ≡ drop (line_length + 1) text
  line_behind = separated_is d.layout s marked.parts
      (λ l. behind_piece l d.has_quotes text ≡ drop (line_length + 1) text) (λ columns. refl)

  pub start_is : (first_row d start text).start ≡ start
  start_is = ap (λ r. r.start) line_row

  -- its last byte, by that of the line
  line_ends : ends_in carriage_return (take line_length text) ≡ true
      → (0 < line_length) × (get_or text (line_length - 1) 0 ≡ carriage_return)
  line_ends is =
      let both = and_both (nat_lt 0 (length (take line_length text)))
      (eqb (get_or (take line_length text) (length (take line_length text) - 1) 0) carriage_return) is in
      let some : 0 < line_length = some_of line_length (sym (ap (nat_lt 0) line_size) ∙ both.0) in (
        some,
        sym (get_or-take line_length text (line_length - 1) 0 (omega (arith, some)))
            ∙ ap (λ n. get_or (take line_length text) (n - 1) 0) (sym line_size) ∙ same _ both.1,
      )
    where
      some_of : (n : ℕ) → nat_lt 0 n ≡ true → 0 < n
      some_of zero is = absurd cc
      some_of (suc n) is = omega arith

      same : (byte : ℕ) → eqb byte carriage_return ≡ true → byte ≡ carriage_return
      same byte is = elim (eqb_tells byte carriage_return) [
        | inl it ↦ it.1
        | inr other ↦ absurd cc
      ]

  abbrev line : FieldView
  line = record { start = start; text = take line_length text }

  -- whether its return is none of the row's bytes
  abbrev drops_return : Bool
  drops_return = (takes && is_ended (start + length text) line) && ends_in carriage_return (take line_length text)

  abbrev without_return : Bool → List ℕ
  without_return drops = cond drops (take (length (take line_length text) - 1) (take line_length text)) (take line_length text)

  pub row_text : RowText d start text
  row_text = by_return drops_return refl
    where
      by_return : (drops : Bool) → drops_return ≡ drops → RowText d start text
      by_return false is = record {
        size = line_length;
        text_is = ap (λ r. r.text) line_row ∙ ap without_return is;
        all = inl refl;
      }
      by_return true is =
          let asked = and_both (takes && is_ended (start + length text) line)
          (ends_in carriage_return (take line_length text)) is in
          let ends = line_ends asked.1 in
          record {
            size = line_length - 1;
            text_is =
                ap (λ r. r.text) line_row ∙ ap without_return is
                ∙ ap (λ n. take (n - 1) (take line_length text)) line_size
                ∙ take-take (line_length - 1) line_length text (omega arith);
            all = inr (
              omega (arith, ends.0),
              ends.1,
              (and_both takes (is_ended (start + length text) line) asked.0).0,
            );
          }

  -- how many bytes it has
  pub row_size : length (first_row d start text).text ≡ row_text.size
  row_size =
      ap length row_text.text_is ∙ length-take-le row_text.size text (elim row_text.all [
        | inl all ↦ omega (arith, all, line_low)
        | inr less ↦ omega (arith, less.0, line_low)
      ])

  -- before the first cell
  pub row_begins : IsOnRow d s text text
  row_begins =
      let none : length text - length text ≡ 0 = omega arith in
      record {
        within = omega arith;
        tail = ap (λ k. drop k text) (sym none);
        line = omega (arith, none);
        behind_separator = λ some. absurd (omega (arith, some));
      }

  module _ (left : List ℕ) (here : IsOnRow d s text left) where
    abbrev passed : ℕ
    passed = length text - length left

    -- a return at the row's end stands behind a cell's start
    pub passed_low : passed ≤ row_text.size
    passed_low = elim row_text.all [
      | inl all ↦ omega (arith, all, here.line)
      | inr less ↦ by_order (eqb_tells passed line_length) less
    ]
      where
        by_order : ((eqb passed line_length ≡ true) × (passed ≡ line_length)) ⊎ ((eqb passed line_length ≡ false) × (passed ≢ line_length))
            → (row_text.size + 1 ≡ line_length) × (get_or text row_text.size 0 ≡ carriage_return) × (takes ≡ true)
            → passed ≤ row_text.size
        by_order (inr other) less = omega (arith, other.1, less.0, here.line)
        by_order (inl same) less =
            let at : passed - 1 ≡ row_text.size = omega (arith, same.1, less.0) in
            absurd (marked.no_return less.2
            (sym (here.behind_separator (omega (arith, same.1, less.0))) ∙ ap (λ k. get_or text k 0) at ∙ less.1))

    -- how many bytes of the row are left
    abbrev row_left : ℕ
    row_left = row_text.size - passed

    row_within : row_text.size ≤ length text
    row_within = elim row_text.all [
      | inl all ↦ omega (arith, all, line_low)
      | inr less ↦ omega (arith, less.0, line_low)
    ]

    row_left_low : row_left ≤ length left
    row_left_low = omega (arith, row_within, passed_low, here.within)

    -- they are those in front of what is left of the text
    rest_is : drop passed (first_row d start text).text ≡ take row_left left
    rest_is =
        let whole : row_text.size ≡ passed + row_left = omega (arith, passed_low) in
        ap (drop passed) (row_text.text_is ∙ ap (λ n. take n text) whole)
        ∙ drop-take passed row_left text ∙ ap (take row_left) (sym here.tail)

    rest_size : length (drop passed (first_row d start text).text) ≡ row_left
    rest_size = ap length rest_is ∙ length-take-le row_left left row_left_low

    byte_left : (k : ℕ) → get_or left k 0 ≡ get_or text (passed + k) 0
    byte_left k = ap (λ l. get_or l k 0) here.tail ∙ get_or-drop passed text k 0

    -- where the next cell starts, the row has one
    pub cell_starts : (column : ℕ) → first_start (cells_behind d (first_row d start text) column passed) ≡ Some (start + passed)
    cell_starts column =
        starts_left d.layout d.has_quotes column ((first_row d start text).start + passed) (drop passed (first_row d start text).text)
        (separated_is d.layout s marked.parts (λ l. lacks_cell l column (drop passed (first_row d start text).text) ≡ false) (λ columns. refl))
        ∙ ap (λ p. Some (p + passed)) start_is

    -- ---- a cell that a separator ends

    module _ (r : ℕ) (room : r + 17 ≤ length left) (cell_is : length_outside d.has_quotes s left ≡ r)
        (parts : get_or left r 0 ≡ s) (before : r < length_outside d.has_quotes line_feed left) where
      in_row : r < row_left
      in_row = elim row_text.all [
        | inl all ↦ omega (arith, all, here.line, before, passed_low)
        | inr less ↦ by_order (eqb_tells r row_left) less
      ]
        where
          by_order : ((eqb r row_left ≡ true) × (r ≡ row_left)) ⊎ ((eqb r row_left ≡ false) × (r ≢ row_left))
              → (row_text.size + 1 ≡ line_length) × (get_or text row_text.size 0 ≡ carriage_return) × (takes ≡ true)
              → r < row_left
          by_order (inr other) less = omega (arith, other.1, less.0, here.line, before, passed_low)
          by_order (inl same) less =
              let at : passed + r ≡ row_text.size = omega (arith, same.1, passed_low) in
              absurd (marked.no_return less.2
              (sym parts ∙ byte_left r ∙ ap (λ k. get_or text k 0) at ∙ less.1))

      cell_length : length_outside d.has_quotes s (drop passed (first_row d start text).text) ≡ r
      cell_length = ap (length_outside d.has_quotes s) rest_is ∙ cell_before d.has_quotes s left row_left r cell_is in_row row_left_low

      passed_next : length text - length (drop (r + 1) left) ≡ passed + (r + 1)
      passed_next = omega (arith, length-drop (r + 1) left, room, here.within)

      -- the first of the cells that are left, and those behind it
      pub cells_go : (column : ℕ) → cells_behind d (first_row d start text) column passed
          ≡ record { start = start + passed; text = take r left }
          ∷ cells_behind d (first_row d start text) (column + 1) (length text - length (drop (r + 1) left))
      cells_go column =
          let row = first_row d start text in
          let rest = drop passed row.text in
          let cell = take r left in
          let behind = drop (r + 1) rest in
          let place = row.start + passed in
          let cell_size : length cell ≡ r = length-take-le r left (omega (arith, room)) in
          let front : cell ≡ take (length_outside d.has_quotes s rest) rest =
          sym (ap (λ n. take n rest) cell_length ∙ ap (take r) rest_is
          ∙ take-take r row_left left (omega (arith, in_row))) in
          let back : behind ≡ drop (length_outside d.has_quotes s rest + 1) rest =
          ap (λ n. drop (n + 1) rest) (sym cell_length) in
          let not_last : eqb (length cell) (length rest) ≡ false =
          ne_eqb (length cell) (length rest) (λ e. omega (arith, e, cell_size, rest_size, in_row)) in
          let at : place + (length rest - length behind) ≡ row.start + (length text - length (drop (r + 1) left)) =
          omega (arith, length-drop (r + 1) rest, rest_size, in_row, passed_next) in
          let behind_is : behind ≡ drop (length text - length (drop (r + 1) left)) row.text =
          drop-drop (r + 1) passed row.text ∙ ap (λ k. drop k row.text) (sym passed_next) in
          separated_is d.layout s marked.parts
          (λ l. cells_left l d.has_quotes column place rest ≡ record { start = place; text = cell }
          ∷ cells_left l d.has_quotes (column + 1) (row.start + (length text - length (drop (r + 1) left)))
          (drop (length text - length (drop (r + 1) left)) row.text))
          (λ columns. next_piece d.has_quotes s place rest cell behind front back (cell_size ∙ sym cell_length)
          ∙ ap (λ t. record { start = place; text = cell }
          ∷ cond t [] (pieces_outside d.has_quotes s (place + (length rest - length behind)) behind)) not_last
          ∙ ap₂ (λ p l. record { start = place; text = cell } ∷ pieces_outside d.has_quotes s p l) at behind_is)
          ∙ ap (λ p. record { start = p + passed; text = cell }
          ∷ cells_behind d row (column + 1) (length text - length (drop (r + 1) left))) start_is

      -- behind its separator
      pub row_goes : length_outside d.has_quotes line_feed left
          ≡ r + 1 + length_outside d.has_quotes line_feed (drop (r + 1) left) → IsOnRow d s text (drop (r + 1) left)
      row_goes behind =
          let back : length text - length (drop (r + 1) left) - 1 ≡ passed + r = omega (arith, passed_next) in
          record {
            within = omega (arith, length-drop (r + 1) left, here.within);
            tail =
                ap (drop (r + 1)) here.tail ∙ drop-drop (r + 1) passed text ∙ ap (λ k. drop k text) (sym passed_next);
            line = omega (arith, here.line, behind, passed_next);
            behind_separator = λ some. ap (λ k. get_or text k 0) back ∙ sym (byte_left r) ∙ parts;
          }

    -- ---- the last cell, which a line feed ends

    module _ (r size : ℕ) (room : r + 17 ≤ length left) (line_is : length_outside d.has_quotes line_feed left ≡ r)
        (low : size ≤ r) (whole : takes ≡ false → size ≡ r)
        (bare : takes ≡ true → size ≡ r → 0 < r → get_or left (r - 1) 0 ≢ carriage_return)
        (returned : size ≢ r → (size + 1 ≡ r) × (get_or left size 0 ≡ carriage_return) × (takes ≡ true)) where
      line_at : line_length ≡ passed + r
      line_at = here.line ∙ ap (λ k. passed + k) line_is

      ended : is_ended (start + length text) line ≡ true
      ended = lt-ltb (start + length (take line_length text)) (start + length text)
          (omega (arith, line_size, line_at, room, here.within))

      -- no return stands there
      no_return : size ≡ r → takes ≡ true → ends_in carriage_return (take line_length text) ≡ false
      no_return same may = by_test (ends_in carriage_return (take line_length text)) refl
        where
          by_zero : (n : ℕ) → r ≡ n → get_or text (line_length - 1) 0 ≡ carriage_return → 0 < line_length → ⊥
          by_zero zero none is some =
              let at : line_length - 1 ≡ passed - 1 = omega (arith, line_at, none) in
              marked.no_return may
              (sym (here.behind_separator (omega (arith, line_at, none, some))) ∙ ap (λ k. get_or text k 0) (sym at) ∙ is)
          by_zero (suc n) more is some =
              let at : passed + (r - 1) ≡ line_length - 1 = omega (arith, line_at, more) in
              bare may same (omega (arith, more)) (byte_left (r - 1) ∙ ap (λ k. get_or text k 0) at ∙ is)

          by_test : (t : Bool) → ends_in carriage_return (take line_length text) ≡ t → t ≡ false
          by_test false is = refl
          by_test true is = let ends = line_ends is in absurd (by_zero r refl ends.1 ends.0)

      -- one stands there
      a_return : size + 1 ≡ r → get_or left size 0 ≡ carriage_return → ends_in carriage_return (take line_length text) ≡ true
      a_return next is =
          let at : passed + size ≡ line_length - 1 = omega (arith, line_at, next) in
          let some : 0 < line_length = omega (arith, line_at, next) in
          ap₂ (λ n b. nat_lt 0 n && (b == carriage_return)) line_size
          (ap (λ n. get_or (take line_length text) (n - 1) 0) line_size
          ∙ get_or-take line_length text (line_length - 1) 0 (omega (arith, some))
          ∙ ap (λ k. get_or text k 0) (sym at) ∙ sym (byte_left size) ∙ is)
          ∙ ap (λ t. t && true) (lt-ltb 0 line_length some)

      abbrev row_by : Bool → Bool → Bool → RowView
      row_by may asks returns = record {
        start = start;
        text = cond (may && returns) (take (length (take line_length text) - 1) (take line_length text)) (take line_length text);
        lacks_return = asks && not returns;
      }

      -- the row, by how many bytes its last cell has
      pub row_is : record { start = start; text = take (passed + size) text; lacks_return = d.has_returns && (size == r) }
          ≡ first_row d start text
      row_is = sym (line_row
          ∙ ap (λ t. row_by (takes && t) (d.has_returns && t) (ends_in carriage_return (take line_length text))) ended
          ∙ by_returns takes d.has_returns refl (or_neither d.has_returns d.allows_returns) (eqb_tells size r))
        where
          by_returns : (may asks : Bool) → takes ≡ may → (may ≡ false → asks ≡ false)
              → ((eqb size r ≡ true) × (size ≡ r)) ⊎ ((eqb size r ≡ false) × (size ≢ r))
              → row_by (may && true) (asks && true) (ends_in carriage_return (take line_length text))
              ≡ record { start = start; text = take (passed + size) text; lacks_return = asks && (size == r) }
          by_returns false true is none order = let never = none refl in absurd cc
          by_returns false false is none order =
              let same = whole is in
              let at : line_length ≡ passed + size = omega (arith, line_at, same) in
              ap (λ n. record { start = start; text = take n text; lacks_return = false }) at
          by_returns true asks is none (inl same) =
              let at : line_length ≡ passed + size = omega (arith, line_at, same.1) in
              ap (row_by true (asks && true)) (no_return same.1 is)
              ∙ ap₂ (λ n t. record { start = start; text = take n text; lacks_return = t }) at (lacks asks true (sym same.0))
          by_returns true asks is none (inr other) =
              let less = returned other.1 in
              let at : line_length - 1 ≡ passed + size = omega (arith, line_at, less.0) in
              ap (row_by true (asks && true)) (a_return less.0 less.1)
              ∙ ap (λ n. record { start = start; text = take (n - 1) (take line_length text); lacks_return = (asks && true) && false })
              line_size
              ∙ ap (λ l. record { start = start; text = l; lacks_return = (asks && true) && false })
              (take-take (line_length - 1) line_length text (omega arith))
              ∙ ap₂ (λ n t. record { start = start; text = take n text; lacks_return = t }) at (lacks asks false (sym other.0))

      -- it is all that is left
      pub cells_end : r ≤ length_outside d.has_quotes s left → (column : ℕ)
          → cells_behind d (first_row d start text) column passed ≡ record { start = start + passed; text = take size left } ∷ []
      cells_end last column =
          let row = first_row d start text in
          let rest = drop passed row.text in
          let place = row.start + passed in
          let left_is : rest ≡ take size left =
          ap (λ x. drop passed x.text) (sym row_is) ∙ drop-take passed size text ∙ ap (take size) (sym here.tail) in
          let size_is : length rest ≡ size = ap length left_is ∙ length-take-le size left (omega (arith, low, room)) in
          let all : length_outside d.has_quotes s rest ≡ size =
          ap (length_outside d.has_quotes s) left_is
          ∙ cell_last d.has_quotes s left size (omega (arith, low, last)) (omega (arith, low, room)) in
          let front : rest ≡ take (length_outside d.has_quotes s rest) rest =
          sym (take_all (length_outside d.has_quotes s rest) rest (omega (arith, all, size_is))) in
          let ends : eqb (length rest) (length rest) ≡ true = eq-eqb (length rest) (length rest) refl in
          separated_is d.layout s marked.parts
          (λ l. cells_left l d.has_quotes column place rest ≡ record { start = place; text = rest } ∷ [])
          (λ columns. next_piece d.has_quotes s place rest rest (drop (length_outside d.has_quotes s rest + 1) rest) front refl
          (size_is ∙ sym all)
          ∙ ap (λ t. record { start = place; text = rest }
          ∷ cond t [] (pieces_outside d.has_quotes s (place + (length rest
          - length (drop (length_outside d.has_quotes s rest + 1) rest))) (drop (length_outside d.has_quotes s rest + 1) rest))) ends)
          ∙ ap₂ (λ p l. record { start = p + passed; text = l } ∷ []) start_is left_is

-- one cell more than there are columns
pub too_many : (columns index column place : ℕ) (row : RowView) → columns ≡ column
    → Some (record { row = index; column = column; fault = TooManyCells place }) ≡ end_fault columns index row column (Some place)
too_many columns index column place row same =
    ap (λ n. Some (wrong_cell index n (TooManyCells place))) (sym same)
    ∙ sym (ap (λ t. cond t (Some (wrong_cell index column (TooFewCells (row.start + length row.text))))
    (Some (wrong_cell index columns (TooManyCells place)))) (le-ltb column columns (omega (arith, same))))

-- a row lacks its return where the line feed stands behind its last cell
pub no_return_at : (d : Dialect) (left : List ℕ) (r size : ℕ) → get_or left r 0 ≡ line_feed
    → (size ≢ r → (size + 1 ≡ r) × (get_or left size 0 ≡ carriage_return) × (takes_returns d ≡ true))
    → (d.has_returns && (get_or left size 0 == line_feed)) ≡ (d.has_returns && (size == r))
no_return_at d left r size is returned = ap (λ t. d.has_returns && t) (elim (eqb_tells size r) [
  | inl same ↦ eq-eqb (get_or left size 0) line_feed (ap (λ k. get_or left k 0) same.1 ∙ is) ∙ sym same.0
  | inr other ↦
      let less = returned other.1 in
      ap (λ byte. byte == line_feed) less.1 ∙ sym other.0
])

-- nothing is wrong with the end of a row that has as many cells as there are columns, and its return
pub end_fine : (columns index column : ℕ) (row : RowView) → columns ≡ column → row.lacks_return ≡ false
    → None ≡ end_fault columns index row column None
end_fine columns index column row same fine =
    sym (ap (λ t. cond t (Some (wrong_cell index column (TooFewCells (row.start + length row.text))))
    (cond row.lacks_return (Some (wrong_cell index columns (MissingReturn (row.start + length row.text)))) None))
    (le-ltb column columns (omega (arith, same)))
    ∙ ap (λ t. cond t (Some (wrong_cell index columns (MissingReturn (row.start + length row.text)))) None) fine)

-- no mark is known
pub no_ends_if : (marked : Option ℕ) (q : Bool) (text : List ℕ) → AreEndsIf marked q text 0
no_ends_if None q text = tt
no_ends_if (Some s) q text = no_ends q s text

-- A cell was read, whichever way: no fault, and its number put.
pub record IsCellRead (d : Dialect) (index column : ℕ) (cell : FieldView) (old now : List (Option TargetView)) : Type 0 where
  pub fine : None ≡ fault_in (answer_at d (kinds_of old) column cell)
  pub put : now ≡ put_read_at index column (answer_at d (kinds_of old) column cell) old

-- behind a way that changed nothing
pub read_kept : (d : Dialect) (index column : ℕ) (cell : FieldView) (old same now : List (Option TargetView)) → same ≡ old
    → IsCellRead d index column cell same now → IsCellRead d index column cell old now
read_kept d index column cell old same now is read = subst (λ l. IsCellRead d index column cell l now) is read

-- where it is told that nothing is wrong with a cell
pub none_wrong : (found : Option CellFault) → true ≡ is_none found → None ≡ found
none_wrong None is = refl
none_wrong (Some fault) is = absurd cc

-- and where something is
pub some_wrong : (found : Option CellFault) → false ≡ is_none found → (P : Option CellFault → Type 0)
    → ((fault : CellFault) → Some fault ≡ found → P (Some fault)) → P found
some_wrong None is P some = absurd cc
some_wrong (Some fault) is P some = some fault refl
