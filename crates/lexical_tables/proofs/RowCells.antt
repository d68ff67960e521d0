-- Where the cells of a row are, put one after another.
use Rattle.std.proofs.Common.{◌≡◌, ◌∙◌, ℕ, suc, ◌+◌, ◌-◌, ◌<◌, ◌≤◌, List, [], ◌∷◌, ◌++◌, length, take, drop, map, set, cond, eqb, Bool, true, false, refl, ap, ap₂, sym, arith, inl, inr, length-append, length-drop}
use Rattle.std.specs.Prelude.{nat_lt}
use Rattle.std.proofs.lemmas.Bool.{cases_lt, le-ltb, lt-ltb}
use Rattle.std.proofs.lemmas.List.{drop-append-le, drop_all, length-map, map-append}
use Rattle.lexical_fields.specs.Fields.{FieldView, fields_from, onto_field}
use Rattle.lexical_tables.specs.ByColumn.{cells_by_width, cells_left, cells_of, lacks_cell}
use Rattle.lexical_tables.specs.RowCells.{most_cells, place_of_cell}
use Rattle.lexical_tables.specs.Quotes.{as_long_as, seen}
use Rattle.lexical_tables.specs.Rows.{RowView}
use Rattle.lexical_tables.specs.Skipping.{put_in_front}
use Rattle.lexical_tables.specs.declared.dialect.Dialect.{Dialect}
use Rattle.lexical_tables.specs.declared.dialect.Layout.{Layout}
use Rattle.lexical_tables.specs.declared.dialect.Layout.TheVariants.{Records, Separated, Widths}
use Rattle.lexical_tables.specs.declared.row_cells.CellPlace.{CellPlace}
use Rattle.lexical_tables.proofs.CellsLeft.{all_left, cells_begin, left_in, next_left}
use Rattle.lexical_tables.proofs.SeenBytes.{seen_long}
use Rattle.lexical_tables.proofs.skipped.Skipping.{append_one, long_one, put_none, put_one_more}

-- the places of those of some cells that stand from a column on
abbrev places : ℕ → List FieldView → List CellPlace
places first cells = drop first (map place_of_cell cells)

module _ (first : ℕ) (done : List FieldView) (cell : FieldView) where
  places_few : length done < first → places first (done ++ cell ∷ []) ≡ places first done
  places_few low =
      drop_all first (map place_of_cell (done ++ cell ∷ []))
      (omega (arith, low, length-map (done ++ cell ∷ []) place_of_cell, long_one done cell))
      ∙ sym (drop_all first (map place_of_cell done) (omega (arith, low, length-map done place_of_cell)))

  places_more : first ≤ length done → places first (done ++ cell ∷ []) ≡ places first done ++ place_of_cell cell ∷ []
  places_more high =
      ap (drop first) (map-append place_of_cell done (cell ∷ []))
      ∙ drop-append-le first (map place_of_cell done) (place_of_cell cell ∷ [])
      (omega (arith, high, length-map done place_of_cell))

  -- one more cell is put, if it stands there
  put_next : (here old : List CellPlace) → here ≡ put_in_front (places first done) old
      → cond (nat_lt (length done) first) here (set here (length done - first) (place_of_cell cell))
      ≡ put_in_front (places first (done ++ cell ∷ [])) old
  put_next here old is =
      let put : List CellPlace → List CellPlace = λ l. put_in_front l old in
      let by : Bool → List CellPlace = λ t. cond t here (set here (length done - first) (place_of_cell cell)) in
      elim (cases_lt (length done) first) [
        | inl low ↦ ap by (lt-ltb (length done) first low) ∙ is ∙ sym (ap put (places_few low))
        | inr high ↦
            let size : length done - first ≡ length (places first done) =
            omega (arith, length-drop first (map place_of_cell done), length-map done place_of_cell) in
            ap by (le-ltb (length done) first high)
            ∙ ap₂ (λ l n. set l n (place_of_cell cell)) is size
            ∙ put_one_more (places first done) (place_of_cell cell) old ∙ sym (ap put (places_more high))
      ]

-- ---- how many cells there are

-- as many fields as bytes at most
fields_few : (s p : ℕ) (bytes : List ℕ) → length (fields_from s p bytes) ≤ length bytes
fields_few s p [] = omega arith
fields_few s p (b ∷ bs) = by_test (eqb b s) (fields_from s (p + 1) bs) (fields_few s (p + 1) bs)
  where
    by_test : (t : Bool) (more : List FieldView) → length more ≤ length bs
        → length (cond t (record { start = p; text = [] } ∷ more) (onto_field p b more)) ≤ suc (length bs)
    by_test true more low = omega arith
    by_test false [] low = omega arith
    by_test false (field ∷ more) low = omega arith

long_as : (fields : List FieldView) (text : List ℕ) → length (as_long_as fields text) ≡ length fields
long_as [] text = refl
long_as (field ∷ more) text = ap suc (long_as more (drop (length field.text + 1) text))

widths_few : (widths : List ℕ) (place : ℕ) (text : List ℕ) → length (cells_by_width widths place text) ≤ length widths + 1
widths_few [] place text = by_test (eqb (length text) 0) (record { start = place; text = text })
  where
    by_test : (t : Bool) (cell : FieldView) → length (cond t [] (cell ∷ [])) ≤ 1
    by_test true cell = omega arith
    by_test false cell = omega arith
widths_few (width ∷ more) place text = by_test (nat_lt (length text) width) (record { start = place; text = take width text })
    (cells_by_width more (place + width) (drop width text)) (widths_few more (place + width) (drop width text))
  where
    by_test : (t : Bool) (cell : FieldView) (cells : List FieldView) → length cells ≤ length more + 1
        → length (cond t [] (cell ∷ cells)) ≤ suc (length more) + 1
    by_test true cell cells low = omega arith
    by_test false cell cells low = omega (arith, low)

cells_few : (layout : Layout) (q : Bool) (place : ℕ) (text : List ℕ)
    → length (cells_left layout q 0 place text) ≤ most_cells layout (length text)
cells_few (Separated s columns) q place text =
    let bytes = seen q s text ++ s ∷ [] in
    omega (
      arith,
      long_as (fields_from s place bytes) text,
      fields_few s place bytes,
      length-append (seen q s text) (s ∷ []),
      seen_long q s text,
    )
cells_few (Widths widths) q place text = widths_few widths.now place text
cells_few (Records widths) q place text = widths_few widths.now place text

-- ---- one after another

module _ (d : Dialect) (row : RowView) (first : ℕ) (old : List CellPlace) where
  -- Where the first `column` cells of a row are was stored, from the cell `first` on.
  pub record ArePut (here : List CellPlace) (column : ℕ) (ended : Bool) (rest : List ℕ) : Type 0 where
    pub within : length rest ≤ length row.text
    pub there : ended ≡ false → lacks_cell d.layout column rest ≡ false
    pub done : List FieldView
    pub done_size : length done ≡ column
    pub done_are : done ++ left_in d row column ended rest ≡ cells_of d row
    pub here_is : here ≡ put_in_front (places first done) old

  -- none at first
  pub put_starts : (ended : Bool) → ended ≡ lacks_cell d.layout 0 row.text → ArePut old 0 ended row.text
  put_starts ended is = record {
    within = omega arith;
    there = λ some. sym is ∙ some;
    done = [];
    done_size = refl;
    done_are = all_left d row 0 0 (omega arith) ended is ∙ cells_begin d row;
    here_is = sym (ap (λ l. put_in_front l old) (drop_all first [] (omega arith)) ∙ put_none old);
  }

  -- one more
  module _ (zero : row.start ≡ 0) (here : List CellPlace) (column : ℕ) (ended : Bool) (rest : List ℕ)
      (now : ArePut here column ended rest) (some : ended ≡ false) (cell behind : List ℕ) (now_ended : Bool)
      (shorter : length behind ≤ length rest)
      (cells : (place : ℕ) → cells_left d.layout d.has_quotes column place rest ≡ record { start = place; text = cell }
      ∷ cond now_ended [] (cells_left d.layout d.has_quotes (column + 1) (place + (length rest - length behind)) behind)) where
    abbrev found : FieldView
    found = record { start = length row.text - length rest; text = cell }

    left_is : left_in d row column ended rest ≡ found ∷ left_in d row (column + 1) now_ended behind
    left_is =
        next_left d row column ended rest cell behind now_ended now.within some shorter cells
        ∙ ap (λ n. record { start = n; text = cell } ∷ left_in d row (column + 1) now_ended behind) (omega (arith, zero))

    -- its number is no large one
    pub few : (n : ℕ) → most_cells d.layout (length row.text) < n → column + 1 < n
    few n low = omega (
      arith,
      low,
      cells_few d.layout d.has_quotes row.start row.text,
      ap length now.done_are,
      length-append now.done (left_in d row column ended rest),
      now.done_size,
      ap length left_is,
    )

    pub put_goes : (now_ended ≡ false → lacks_cell d.layout (column + 1) behind ≡ false) → (then : List CellPlace)
        → then ≡ cond (nat_lt column first) here (set here (column - first) (place_of_cell found))
        → ArePut then (column + 1) now_ended behind
    put_goes there then then_is = record {
      within = omega (arith, now.within, shorter);
      there = there;
      done = now.done ++ found ∷ [];
      done_size = omega (arith, long_one now.done found, now.done_size);
      done_are =
          append_one now.done found (left_in d row (column + 1) now_ended behind)
          ∙ ap (λ l. now.done ++ l) (sym left_is) ∙ now.done_are;
      here_is =
          then_is ∙ ap (λ n. cond (nat_lt n first) here (set here (n - first) (place_of_cell found))) (sym now.done_size)
          ∙ put_next first now.done found here old now.here_is;
    }
