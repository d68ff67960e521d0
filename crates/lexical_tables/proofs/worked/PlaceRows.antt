-- Where the cells of a row are.
use Rattle.std.specs.Prelude.{◌≡◌, ◌++◌, ℕ, codes, List, [], ◌∷◌, drop, map, false, true}
use Rattle.std.proofs.Common.{refl}
use Rattle.lexical_tables.specs.RowCells.{cells_in_front, place_of_cell}
use Rattle.lexical_tables.specs.Skipping.{put_in_front}
use Rattle.lexical_tables.specs.declared.dialect.Dialect.{Dialect}
use Rattle.lexical_tables.specs.declared.dialect.Layout.TheVariants.{Records, Widths}
use Rattle.lexical_tables.specs.declared.row_cells.CellPlace.{CellPlace}
use Rattle.lexical_tables.proofs.ColumnRows.{line, plain, returned}

abbrev at : ℕ → ℕ → CellPlace
at start size = record { start = start; size = size }

abbrev places : Dialect → List ℕ → List CellPlace
places dialect text = map place_of_cell (cells_in_front dialect text)

-- ---- between commas

abbrev quoted : Dialect
quoted = record (plain 3 false) { has_quotes = true }

three_cells : places quoted (line (codes "ab,,\"c,d\"") ++ codes "e") ≡ at 0 2 ∷ at 3 0 ∷ at 4 5 ∷ []
three_cells = refl

-- a quote without a meaning hides nothing
two_halves : places (plain 3 false) (line (codes "\"c,d\"")) ≡ at 0 2 ∷ at 3 2 ∷ []
two_halves = refl

-- what a quote hides that nothing closes is of its cell
open_quote : places quoted (codes "a,\"b,c" ++ 10 ∷ codes "d") ≡ at 0 1 ∷ at 2 6 ∷ []
open_quote = refl

-- a return that ends the row is of no cell, if one may stand there
with_return : places (plain 2 true) (returned (codes "a,b")) ≡ at 0 1 ∷ at 2 1 ∷ []
with_return = refl

return_in_cell : places (plain 2 false) (returned (codes "a,b")) ≡ at 0 1 ∷ at 2 2 ∷ []
return_in_cell = refl

-- an empty row has a cell, and counts
empty_row : places (record (plain 2 false) { skips_empty_rows = true }) (line [] ++ codes "a,b") ≡ at 0 0 ∷ []
empty_row = refl

no_row : places (plain 2 false) [] ≡ []
no_row = refl

-- ---- by widths

abbrev wide : Dialect
wide = record (plain 0 false) { layout = Widths (record { ref_ptr = (0, 0); now = 3 ∷ 2 ∷ [] }) }

whole_row : places wide (line (codes "007ab")) ≡ at 0 3 ∷ at 3 2 ∷ []
whole_row = refl

-- a cell that isn't wholly there is none
short_row : places wide (line (codes "007a")) ≡ at 0 3 ∷ []
short_row = refl

-- what is left behind the last width is one more
long_row : places wide (line (codes "007abxyz")) ≡ at 0 3 ∷ at 3 2 ∷ at 5 3 ∷ []
long_row = refl

of_a_record : places (record (plain 0 false) { layout = Records (record { ref_ptr = (0, 0); now = 3 ∷ 2 ∷ [] }) })
    (codes "007abxyz") ≡ at 0 3 ∷ at 3 2 ∷ []
of_a_record = refl

-- ---- in an array

-- from a column on, and all else there is as it was
from_the_last : put_in_front (drop 2 (places quoted (codes "ab,,\"c,d\""))) (at 8 8 ∷ at 9 9 ∷ []) ≡ at 4 5 ∷ at 9 9 ∷ []
from_the_last = refl

as_far_as_room_is : put_in_front (drop 1 (places quoted (codes "ab,,\"c,d\""))) (at 8 8 ∷ []) ≡ at 3 0 ∷ []
as_far_as_room_is = refl
