-- Tables in whose lines a return may stand in front of the line feed.
use Rattle.std.specs.Prelude.{◌≡◌, ◌++◌, codes, [], ◌∷◌, pos, false, true, Some, Ok, Err}
use Rattle.std.proofs.Common.{refl}
use Rattle.lexical_util.specs.declared.error.Error.TheVariants.{InvalidDigit}
use Rattle.lexical_parse_integer.specs.Computed.{grammar}
use Rattle.lexical_tables.specs.ByColumn.{columns_answer, columns_put, wrong_cell}
use Rattle.lexical_tables.specs.Parts.{readable}
use Rattle.lexical_tables.specs.Places.{row_place}
use Rattle.lexical_tables.specs.declared.answers.CellFault.TheVariants.{MissingReturn, NotNumber}
use Rattle.lexical_tables.specs.declared.dialect.Dialect.{Dialect}
use Rattle.lexical_tables.specs.declared.dialect.Layout.TheVariants.{Records, Separated, Widths}
use Rattle.lexical_tables.proofs.ColumnRows.{before, both, line, plain, returned, targets}

-- two columns between commas
abbrev mixed : Dialect
mixed = record (plain 2 false) { allows_returns = true }

-- each row ends as it does
both_ends : columns_answer both mixed 4 (returned (codes "1,2") ++ line (codes "3,4")) ≡ Ok (record { rows = 2; stop = 9 })
unfolding grammar columns_answer
both_ends = refl

other_order : columns_answer both mixed 4 (line (codes "1,2") ++ returned (codes "3,4") ++ codes "5,6")
    ≡ Ok (record { rows = 3; stop = 12 })
unfolding grammar columns_answer
other_order = refl

-- the return isn't put with the cell in front of it
numbers_put : columns_put (record (plain 3 false) { allows_returns = true }) 3 (returned (codes "1,a,f") ++ line (codes "20,b,7")) before
    ≡ targets (pos 1 ∷ pos 20 ∷ pos 77 ∷ []) (pos 15 ∷ pos 7 ∷ pos 77 ∷ [])
unfolding grammar columns_put
numbers_put = refl

-- a return that stands alone is a byte of its cell
within_cell : columns_answer both mixed 4 (returned (codes "1,2" ++ 13 ∷ codes "3")) ≡ Err (wrong_cell 0 1 (NotNumber (InvalidDigit 3)))
unfolding grammar columns_answer
within_cell = refl

-- of two the first one does
two_returns : columns_answer both mixed 4 (returned (codes "1,2" ++ 13 ∷ [])) ≡ Err (wrong_cell 0 1 (NotNumber (InvalidDigit 3)))
unfolding grammar columns_answer
two_returns = refl

-- and at the text's end one that no line feed follows
last_return : columns_answer both mixed 4 (line (codes "3,4") ++ codes "6,5" ++ 13 ∷ [])
    ≡ Err (wrong_cell 1 1 (NotNumber (InvalidDigit 7)))
unfolding grammar columns_answer
last_return = refl

-- a row of a return alone is empty, but not without its line feed
skipped : columns_answer both (record mixed { skips_empty_rows = true }) 2 (returned [] ++ line [] ++ returned (codes "1,2") ++ returned [])
    ≡ Ok (record { rows = 1; stop = 10 })
unfolding grammar columns_answer
skipped = refl

not_skipped : columns_answer both (record mixed { skips_empty_rows = true }) 2 (returned [] ++ line (codes "1,2") ++ 13 ∷ [])
    ≡ Err (wrong_cell 1 0 (NotNumber (InvalidDigit 6)))
unfolding grammar columns_answer
not_skipped = refl

-- where returns are asked for, nothing changes
asked : columns_answer both (record mixed { has_returns = true }) 4 (returned (codes "1,2") ++ line (codes "3,4"))
    ≡ Err (wrong_cell 1 2 (MissingReturn 8))
unfolding grammar columns_answer
asked = refl

-- a return that is the separator parts cells, but in front of a line feed
separator : columns_answer both (record mixed { layout = Separated 13 2 }) 4 (returned (codes "1" ++ 13 ∷ codes "2"))
    ≡ Ok (record { rows = 1; stop = 5 })
unfolding grammar columns_answer
separator = refl

-- behind quotes
quoted : columns_answer both (record mixed { has_quotes = true }) 4 (returned (codes "1,\"2\"") ++ line (codes "\"3\",4"))
    ≡ Ok (record { rows = 2; stop = 13 })
unfolding grammar columns_answer
quoted = refl

-- with widths
widths : columns_answer both (record mixed { layout = Widths (record { ref_ptr = (0, 0); now = 1 ∷ 2 ∷ [] }) }) 4
    (returned (codes "102") ++ line (codes "304")) ≡ Ok (record { rows = 2; stop = 9 })
unfolding grammar columns_answer
widths = refl

-- in records a return is a byte as any other
records : columns_answer both (record mixed { layout = Records (record { ref_ptr = (0, 0); now = 1 ∷ 2 ∷ [] }) }) 4
    (returned (codes "1")) ≡ Err (wrong_cell 0 1 (NotNumber (InvalidDigit 1)))
unfolding grammar columns_answer
records = refl

-- a row stops behind its line feed
place : row_place mixed 1 (line (codes "1,2") ++ returned (codes "x,4") ++ codes "5,6") ≡ Some (record { start = 4; stop = 9 })
unfolding row_place
place = refl

-- a part that ends between the two leaves the row
part : readable false mixed (returned (codes "1,2") ++ codes "3,4" ++ 13 ∷ []) ≡ returned (codes "1,2")
part = refl
