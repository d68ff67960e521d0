-- Worked places with their lines and columns.
use Rattle.std.proofs.Common.{◌≡◌, ℕ, codes, refl}
use Rattle.std.specs.Prelude.{List, [], ◌∷◌, ◌++◌}
use Rattle.lexical_fields.specs.Lines.{column_of, line_of}

-- `12`, `34` and `5x`, a line each
abbrev lines : List ℕ
lines = codes "12" ++ 10 ∷ (codes "34" ++ 10 ∷ codes "5x")

-- the start of the text, and its first line's end
start : (line_of lines 0 ≡ 0) × (column_of lines 0 ≡ 0)
start = (refl, refl)

-- a line feed belongs to the line that it ends
line_feed : (line_of lines 2 ≡ 0) × (column_of lines 2 ≡ 2)
line_feed = (refl, refl)

behind_line_feed : (line_of lines 3 ≡ 1) × (column_of lines 3 ≡ 0)
behind_line_feed = (refl, refl)

last_byte : (line_of lines 7 ≡ 2) × (column_of lines 7 ≡ 1)
last_byte = (refl, refl)

-- the text's end, and places behind it
end : (line_of lines 8 ≡ 2) × (column_of lines 8 ≡ 2)
end = (refl, refl)

behind_the_end : (line_of lines 99 ≡ 2) × (column_of lines 99 ≡ 2)
behind_the_end = (refl, refl)

-- a carriage return is a byte as any other, and empty lines are lines
returns : (line_of (13 ∷ 10 ∷ 10 ∷ 13 ∷ []) 4 ≡ 2) × (column_of (13 ∷ 10 ∷ 10 ∷ 13 ∷ []) 4 ≡ 1)
returns = (refl, refl)
