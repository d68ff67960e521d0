-- The first line or record of a text, as a row that counts or doesn't, and those behind it.
use Rattle.std.proofs.Common.{◌≡◌, ◌∙◌, ℕ, ◌+◌, ◌-◌, ◌<◌, ◌≤◌, ◌&&◌, ◌||◌, List, [], ◌∷◌, length, take, drop, map, filter, Bool, true, false, not, cond, refl, ap, ap₂, sym, arith, inl, inr, ◌⊎◌, length-drop}
use Rattle.std.specs.Prelude.{nat_lt}
use Rattle.std.proofs.lemmas.Bool.{cases_lt, le-ltb, lt-ltb}
use Rattle.std.proofs.lemmas.List.{drop-drop}
use Rattle.lexical_fields.specs.Fields.{fields_from}
use Rattle.lexical_fields.proofs.ColumnSteps.{tail_goes}
use Rattle.lexical_tables.specs.Quotes.{as_long_as, fields_outside, hidden, length_outside}
use Rattle.lexical_tables.specs.Rows.{FirstCounts, RowView, as_row, behind_piece, carriage_return, counts, ends_in, first_piece, first_row, has_lines, line_feed, next_start, pieces_from, record_size, rows_from, takes_returns}
use Rattle.lexical_tables.specs.declared.dialect.Dialect.{Dialect}
use Rattle.lexical_tables.specs.declared.dialect.Layout.{Layout}
use Rattle.lexical_tables.specs.declared.dialect.Layout.TheVariants.{Records, Separated, Widths}
use Rattle.lexical_tables.proofs.OutsideSteps.{next_outside}
use Rattle.lexical_tables.proofs.RecordSteps.{next_record_at}

-- the tests of two places that are moved alike
pub moved_test : (bytes a b : ℕ) → nat_lt (bytes + a) (bytes + b) ≡ nat_lt a b
moved_test bytes a b =
    elim (cases_lt a b) [
      | inl lt ↦ lt-ltb (bytes + a) (bytes + b) (omega arith) ∙ sym (lt-ltb a b lt)
      | inr ge ↦ le-ltb (bytes + a) (bytes + b) (omega arith) ∙ sym (le-ltb a b ge)
    ]

-- where a line stands doesn't matter to whether it counts
counts_anywhere : (d : Dialect) (place end : ℕ) (line : List ℕ)
    → counts d (as_row d (place + end) (record { start = place; text = line }))
    ≡ counts d (as_row d (0 + end) (record { start = 0; text = line }))
counts_anywhere d place end line =
    ap (λ t. not d.skips_empty_rows || nat_lt 0 (length (cond (((has_lines d.layout && takes_returns d) && t) && ends_in carriage_return line)
    (take (length line - 1) line) line)))
    (moved_test place (length line) end ∙ sym (moved_test 0 (length line) end))

-- ---- the first line or record, and those behind it

-- a record has a byte
pub size_low : (widths : List ℕ) → 0 < record_size widths
size_low widths = omega arith

pub next_piece : (layout : Layout) (q : Bool) (place : ℕ) (rest behind : List ℕ) → 0 < length rest
    → behind ≡ behind_piece layout q rest
    → pieces_from layout q place rest ≡ record { start = place; text = first_piece layout q rest }
    ∷ pieces_from layout q (place + (length rest - length behind)) behind
next_piece (Separated s columns) q place rest behind some back =
    next_outside q line_feed place rest (first_piece (Separated s columns) q rest) behind some refl back
next_piece (Widths widths) q place rest behind some back =
    next_outside q line_feed place rest (first_piece (Widths widths) q rest) behind some refl back
next_piece (Records widths) q place rest behind some back =
    next_record_at (record_size widths.now) (size_low widths.now) place rest (first_piece (Records widths) q rest) behind some refl back

no_lines : (q : Bool) (place : ℕ) → fields_outside q line_feed place [] ≡ []
no_lines q place = ap (λ bytes. as_long_as (fields_from line_feed place bytes) []) (none_seen (q && true))
  where
    none_seen : (t : Bool) → cond t (hidden line_feed []) [] ≡ []
    none_seen true = refl
    none_seen false = refl

no_pieces : (layout : Layout) (q : Bool) (place : ℕ) → pieces_from layout q place [] ≡ []
no_pieces (Separated s columns) q place = no_lines q place
no_pieces (Widths widths) q place = no_lines q place
no_pieces (Records widths) q place = refl

behind_less : (layout : Layout) (q : Bool) (bytes : List ℕ) → length (behind_piece layout q bytes) ≤ length bytes
behind_less (Separated s columns) q bytes = omega (arith, length-drop (length_outside q line_feed bytes + 1) bytes)
behind_less (Widths widths) q bytes = omega (arith, length-drop (length_outside q line_feed bytes + 1) bytes)
behind_less (Records widths) q bytes = omega (arith, length-drop (record_size widths.now) bytes)

pub behind_shorter : (layout : Layout) (q : Bool) (bytes : List ℕ) → 0 < length bytes
    → length (behind_piece layout q bytes) < length bytes
behind_shorter (Separated s columns) q bytes some = omega (arith, some, length-drop (length_outside q line_feed bytes + 1) bytes)
behind_shorter (Widths widths) q bytes some = omega (arith, some, length-drop (length_outside q line_feed bytes + 1) bytes)
behind_shorter (Records widths) q bytes some =
    omega (arith, some, size_low widths.now, length-drop (record_size widths.now) bytes)

-- what is left behind a first line or record of what is left of a text
pub piece_goes : (layout : Layout) (q : Bool) (text rest behind : List ℕ) → length rest ≤ length text
    → rest ≡ drop (length text - length rest) text → behind ≡ behind_piece layout q rest
    → behind ≡ drop (length text - length behind) text
piece_goes (Separated s columns) q text rest behind within tail back =
    tail_goes text rest behind (length_outside q line_feed rest) within tail back
piece_goes (Widths widths) q text rest behind within tail back =
    tail_goes text rest behind (length_outside q line_feed rest) within tail back
piece_goes (Records widths) q text rest behind within tail back =
    let size = record_size widths.now in
    let one : size - 1 + 1 ≡ size = omega (arith, size_low widths.now) in
    tail_goes text rest behind (size - 1) within tail (back ∙ ap (λ n. drop n rest) (sym one))

module _ (d : Dialect) (place : ℕ) (rest behind : List ℕ) (some : 0 < length rest)
    (back : behind ≡ behind_piece d.layout d.has_quotes rest) where
  -- the rows behind the first
  abbrev pub rows_behind : List RowView
  rows_behind = rows_from d (place + (length rest - length behind)) behind

  rows_go : (t : Bool) → counts d (first_row d 0 rest) ≡ t
      → rows_from d place rest ≡ cond t (first_row d place rest ∷ rows_behind) rows_behind
  rows_go t is =
      let at = place + (length rest - length behind) in
      let shorter : length behind ≤ length rest =
      omega (arith, ap length back, behind_less d.layout d.has_quotes rest) in
      let end : place + length rest ≡ at + length behind = omega arith in
      let line = first_piece d.layout d.has_quotes rest in
      ap (λ l. filter (counts d) (map (as_row d (place + length rest)) l))
      (next_piece d.layout d.has_quotes place rest behind some back)
      ∙ ap (λ e. cond (counts d (first_row d place rest))
      (first_row d place rest ∷ filter (counts d) (map (as_row d e) (pieces_from d.layout d.has_quotes at behind)))
      (filter (counts d) (map (as_row d e) (pieces_from d.layout d.has_quotes at behind)))) end
      ∙ ap (λ t. cond t (first_row d place rest ∷ rows_behind) rows_behind)
      (counts_anywhere d place (length rest) line ∙ is)

  -- a first row that counts
  pub next_row : FirstCounts d rest → rows_from d place rest ≡ first_row d place rest ∷ rows_behind
  next_row first = rows_go true (first some)

  -- an empty one, where these are skipped
  no_row : d.skips_empty_rows ≡ true → length (first_row d 0 rest).text ≡ 0 → rows_from d place rest ≡ rows_behind
  no_row skips empty =
      rows_go false (ap₂ (λ s t. not s || t) skips (le-ltb 0 (length (first_row d 0 rest).text) (omega (arith, empty))))

-- no byte is no row
pub no_rows : (d : Dialect) (place : ℕ) → rows_from d place [] ≡ []
no_rows d place =
    ap (λ l. filter (counts d) (map (as_row d (place + 0)) l)) (no_pieces d.layout d.has_quotes place)

-- what is left begins where its first row does
pub start_of_rows : (d : Dialect) (text rest : List ℕ) → FirstCounts d rest
    → next_start (length text) (rows_from d (length text - length rest) rest) ≡ length text - length rest
start_of_rows d text [] first =
    let none : length text ≡ length text - 0 = omega arith in
    ap (next_start (length text)) (no_rows d (length text - 0)) ∙ none
start_of_rows d text (b ∷ bs) first =
    ap (next_start (length text))
    (next_row d (length text - length (b ∷ bs)) (b ∷ bs) (behind_piece d.layout d.has_quotes (b ∷ bs)) (omega arith) refl first)

-- what is left of a text behind what is left of it
pub tail_of_tail : (text rest behind : List ℕ) → length behind ≤ length rest → length rest ≤ length text
    → rest ≡ drop (length text - length rest) text → behind ≡ drop (length rest - length behind) rest
    → behind ≡ drop (length text - length behind) text
tail_of_tail text rest behind low within tail back =
    let at : length text - length rest + (length rest - length behind) ≡ length text - length behind = omega arith in
    back ∙ ap (drop (length rest - length behind)) tail
    ∙ drop-drop (length rest - length behind) (length text - length rest) text ∙ ap (λ k. drop k text) at

-- ---- empty rows in front of a text

-- What is left of a text has its rows.
pub record HasRowsOf (d : Dialect) (text rest : List ℕ) : Type 0 where
  pub within : length rest ≤ length text
  pub tail : rest ≡ drop (length text - length rest) text
  pub rows_are : (place : ℕ) → rows_from d place text ≡ rows_from d (place + (length text - length rest)) rest

pub skip_starts : (d : Dialect) (text : List ℕ) → HasRowsOf d text text
skip_starts d text =
    let none : 0 ≡ length text - length text = omega arith in
    record {
      within = omega arith;
      tail = ap (λ k. drop k text) none;
      rows_are = λ place. ap (λ k. rows_from d k text) (same place);
    }
  where
    same : (place : ℕ) → place ≡ place + (length text - length text)
    same place = omega arith

module _ (d : Dialect) (text rest : List ℕ) (skipped : HasRowsOf d text rest) (row : RowView) (behind : List ℕ)
    (some : 0 < length rest) (row_is : row ≡ first_row d 0 rest) where
  pub skip_goes : behind ≡ behind_piece d.layout d.has_quotes rest → length behind < length rest
      → d.skips_empty_rows ≡ true → length row.text ≡ 0 → HasRowsOf d text behind
  skip_goes back shorter skips empty =
      record {
        within = omega (arith, skipped.within);
        tail = piece_goes d.layout d.has_quotes text rest behind skipped.within skipped.tail back;
        rows_are = λ place.
            skipped.rows_are place
            ∙ no_row d (place + (length text - length rest)) rest behind some back skips
            (ap (λ r. length r.text) (sym row_is) ∙ empty)
            ∙ ap (λ k. rows_from d k behind) (at place);
      }
    where
      at : (place : ℕ) → place + (length text - length rest) + (length rest - length behind)
          ≡ place + (length text - length behind)
      at place = omega (arith, skipped.within, shorter)

  -- a row with a byte
  pub skip_stops : 0 < length row.text → FirstCounts d rest
  skip_stops full more =
      let byte : 0 < length (first_row d 0 rest).text = omega (arith, ap (λ r. length r.text) row_is) in
      ap (λ t. not d.skips_empty_rows || t) (lt-ltb 0 _ byte) ∙ either (d.skips_empty_rows)
    where
      either : (b : Bool) → (not b || true) ≡ true
      either true = refl
      either false = refl

-- nothing is left, or empty rows count
pub skip_ends : (d : Dialect) (rest : List ℕ) → (d.skips_empty_rows ≡ false) ⊎ (length rest ≡ 0) → FirstCounts d rest
skip_ends d rest (inl counted) more = ap (λ s. not s || nat_lt 0 (length (first_row d 0 rest).text)) counted
skip_ends d rest (inr none) more = absurd (omega arith)
