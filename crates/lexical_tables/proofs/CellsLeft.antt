-- The cells of what is left of a row: the first, and those behind it.
use Rattle.std.proofs.Common.{◌≡◌, ◌∙◌, ℕ, ◌+◌, ◌-◌, ◌≤◌, List, [], ◌∷◌, length, take, drop, Bool, true, false, not, cond, eqb, Option, Some, refl, ap, sym, subst, arith, length-drop, length-take-le}
use Rattle.std.specs.Bool.{then_some}
use Rattle.std.specs.Prelude.{nat_lt}
use Rattle.lexical_fields.specs.Fields.{FieldView}
use Rattle.lexical_tables.proofs.MarkedCells.{IsAhead, ahead_rest}
use Rattle.lexical_tables.specs.ByColumn.{cells_by_width, cells_left, cells_of, first_start, lacks_cell, lacks_width}
use Rattle.lexical_tables.specs.Quotes.{length_outside, pieces_outside}
use Rattle.lexical_tables.specs.RowSoFar.{cells_behind}
use Rattle.lexical_tables.specs.Rows.{RowView}
use Rattle.lexical_tables.specs.declared.dialect.Dialect.{Dialect}
use Rattle.lexical_tables.specs.declared.dialect.Layout.{Layout}
use Rattle.lexical_tables.specs.declared.dialect.Layout.TheVariants.{Records, Separated, Widths}
use Rattle.lexical_tables.proofs.OutsideSteps.{next_piece, outside_within}

-- ---- by widths

cond_twice : {X : Type 0} (t : Bool) (xs : List X) → cond t [] xs ≡ cond t [] (cond t [] xs)
cond_twice true xs = refl
cond_twice false xs = refl

-- where the next cell lacks, there is none
as_lacking : (widths : List ℕ) (place : ℕ) (text : List ℕ)
    → cells_by_width widths place text ≡ cond (lacks_width widths text) [] (cells_by_width widths place text)
as_lacking [] place text = cond_twice (eqb (length text) 0) (record { start = place; text = text } ∷ [])
as_lacking (width ∷ more) place text = cond_twice (nat_lt (length text) width)
    (record { start = place; text = take width text } ∷ cells_by_width more (place + width) (drop width text))

starts_by_width : (widths : List ℕ) (place : ℕ) (text : List ℕ) → lacks_width widths text ≡ false
    → first_start (cells_by_width widths place text) ≡ Some place
starts_by_width [] place text there =
    ap (λ t. first_start (cond t [] (record { start = place; text = text } ∷ []))) there
starts_by_width (width ∷ more) place text there =
    ap (λ t. first_start (cond t [] (record { start = place; text = take width text }
    ∷ cells_by_width more (place + width) (drop width text)))) there

-- ---- by any layout

none_by_width : (widths : List ℕ) (place : ℕ) (text : List ℕ) → lacks_width widths text ≡ true
    → cells_by_width widths place text ≡ []
none_by_width widths place text lacks =
    as_lacking widths place text ∙ ap (λ t. cond t [] (cells_by_width widths place text)) lacks

none_left : (layout : Layout) (q : Bool) (column place : ℕ) (text : List ℕ) → lacks_cell layout column text ≡ true
    → cells_left layout q column place text ≡ []
none_left (Separated s columns) q column place text lacks = absurd cc
none_left (Widths widths) q column place text lacks = none_by_width (drop column widths.now) place text lacks
none_left (Records widths) q column place text lacks = none_by_width (drop column widths.now) place text lacks

pub starts_left : (layout : Layout) (q : Bool) (column place : ℕ) (text : List ℕ) → lacks_cell layout column text ≡ false
    → first_start (cells_left layout q column place text) ≡ Some place
starts_left (Separated s columns) q column place text there =
    let n = length_outside q s text in
    ap first_start (next_piece q s place text (take n text) (drop (n + 1) text) refl refl
    (length-take-le n text (outside_within q s text)))
starts_left (Widths widths) q column place text there = starts_by_width (drop column widths.now) place text there
starts_left (Records widths) q column place text there = starts_by_width (drop column widths.now) place text there

-- the first cell between separators, and those behind it
pub next_separated : (layout : Layout) (s columns : ℕ) → layout ≡ Separated s columns → (q : Bool) (column place : ℕ)
    (rest cell behind : List ℕ) (ended : Bool) → cell ≡ take (length_outside q s rest) rest
    → behind ≡ drop (length_outside q s rest + 1) rest → length cell ≡ length_outside q s rest
    → ended ≡ eqb (length cell) (length rest)
    → cells_left layout q column place rest ≡ record { start = place; text = cell }
    ∷ cond ended [] (cells_left layout q (column + 1) (place + (length rest - length behind)) behind)
next_separated layout s columns is q column place rest cell behind ended front back size ends =
    let at = place + (length rest - length behind) in
    subst (λ l. cells_left l q column place rest ≡ record { start = place; text = cell }
    ∷ cond ended [] (cells_left l q (column + 1) at behind)) (sym is)
    (next_piece q s place rest cell behind front back size
    ∙ ap (λ t. record { start = place; text = cell } ∷ cond t [] (pieces_outside q s at behind)) (sym ends))

-- ---- of a row that is read

-- what is left of a row, as cells at their places in the text: none, if its last cell was read
abbrev pub left_in : Dialect → RowView → ℕ → Bool → List ℕ → List FieldView
left_in d row column ended rest =
    cond ended [] (cells_left d.layout d.has_quotes column (row.start + (length row.text - length rest)) rest)

pub all_left : (d : Dialect) (row : RowView) (column passed : ℕ) → passed ≤ length row.text → (ended : Bool)
    → ended ≡ lacks_cell d.layout column (drop passed row.text)
    → left_in d row column ended (drop passed row.text) ≡ cells_behind d row column passed
all_left d row column passed low true lacks =
    sym (none_left d.layout d.has_quotes column (row.start + passed) (drop passed row.text) (sym lacks))
all_left d row column passed low false there =
    let place : row.start + (length row.text - length (drop passed row.text)) ≡ row.start + passed =
    omega (arith, low, length-drop passed row.text) in
    ap (λ p. cells_left d.layout d.has_quotes column p (drop passed row.text)) place

-- by what is left of the row
pub left_passed : (d : Dialect) (row : RowView) (ahead : List ℕ) (column : ℕ) (ended : Bool) (rest : List ℕ)
    → IsAhead row.text ahead rest → row.text ≡ take (length row.text) ahead → ended ≡ lacks_cell d.layout column rest
    → left_in d row column ended rest ≡ cells_behind d row column (length row.text - length rest)
left_passed d row ahead column ended rest here front lacks =
    let passed = length row.text - length rest in
    let is = ahead_rest row.text ahead rest here front in
    ap (left_in d row column ended) is
    ∙ all_left d row column passed (omega arith) ended (lacks ∙ ap (lacks_cell d.layout column) is)

-- of the whole row
pub cells_begin : (d : Dialect) (row : RowView) → cells_behind d row 0 0 ≡ cells_of d row
cells_begin d row =
    let same : row.start + 0 ≡ row.start = omega arith in
    ap (λ p. cells_left d.layout d.has_quotes 0 p row.text) same

-- the first cell of what is left, and those behind it
pub next_left : (d : Dialect) (row : RowView) (column : ℕ) (ended : Bool) (rest cell behind : List ℕ) (now_ended : Bool)
    → length rest ≤ length row.text → ended ≡ false → length behind ≤ length rest
    → ((place : ℕ) → cells_left d.layout d.has_quotes column place rest ≡ record { start = place; text = cell }
    ∷ cond now_ended [] (cells_left d.layout d.has_quotes (column + 1) (place + (length rest - length behind)) behind))
    → left_in d row column ended rest ≡ record { start = row.start + (length row.text - length rest); text = cell }
    ∷ left_in d row (column + 1) now_ended behind
next_left d row column ended rest cell behind now_ended within some shorter cells =
    let place = row.start + (length row.text - length rest) in
    let at : place + (length rest - length behind) ≡ row.start + (length row.text - length behind) = omega arith in
    ap (λ t. left_in d row column t rest) some ∙ cells place
    ∙ ap (λ p. record { start = place; text = cell }
    ∷ cond now_ended [] (cells_left d.layout d.has_quotes (column + 1) p behind)) at

-- where the first of what is left starts
pub start_left : (d : Dialect) (row : RowView) (column : ℕ) (ended : Bool) (rest : List ℕ) (extra : Option ℕ)
    → (ended ≡ false → lacks_cell d.layout column rest ≡ false)
    → extra ≡ then_some (not ended) (row.start + (length row.text - length rest))
    → extra ≡ first_start (left_in d row column ended rest)
start_left d row column true rest extra there is = is
start_left d row column false rest extra there is =
    is ∙ sym (starts_left d.layout d.has_quotes column (row.start + (length row.text - length rest)) rest (there refl))

pub ended_left : (d : Dialect) (row : RowView) (column : ℕ) (ended : Bool) (rest : List ℕ) → ended ≡ true
    → left_in d row column ended rest ≡ []
ended_left d row column ended rest is = ap (λ t. left_in d row column t rest) is
