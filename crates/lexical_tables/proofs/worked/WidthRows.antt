-- Tables whose cells have widths.
use Rattle.std.specs.Prelude.{◌≡◌, ◌++◌, ℕ, List, codes, [], ◌∷◌, pos, negsuc, true, false, Option, Some, None, Ok, Err}
use Rattle.std.proofs.Common.{refl}
use Rattle.lexical_util.specs.declared.error.Error.TheVariants.{Empty, InvalidDigit, Overflow}
use Rattle.lexical_util.specs.Format.{standard}
use Rattle.lexical_util.specs.Number.{integer_type}
use Rattle.lexical_parse_integer.specs.Computed.{grammar}
use Rattle.lexical_tables.specs.Readings.{Integers}
use Rattle.lexical_tables.specs.ByColumn.{columns_answer, columns_put, wrong_cell}
use Rattle.lexical_tables.specs.Cells.{Kind}
use Rattle.lexical_tables.specs.declared.answers.CellFault.TheVariants.{MisplacedQuote, MissingReturn, NotNumber, TooFewCells, TooManyCells}
use Rattle.lexical_tables.specs.declared.dialect.Dialect.{Dialect}
use Rattle.lexical_tables.specs.declared.dialect.Layout.TheVariants.{Widths}
use Rattle.lexical_tables.proofs.ColumnRows.{before, both, line, plain, returned, targets}

-- cells of these widths in lines, and nothing else
abbrev wide : List ℕ → Dialect
wide widths = record (plain 0 false) { layout = Widths (record { ref_ptr = (0, 0); now = widths }) }

-- two kinds whose numbers may be missing
abbrev marked : List (Option Kind)
marked =
    Some (record { reading = Integers standard (integer_type 8 false); may_miss = true })
    ∷ Some (record { reading = Integers standard (integer_type 8 false); may_miss = true }) ∷ []

-- two of three bytes
abbrev threes : Dialect
threes = wide (3 ∷ 3 ∷ [])

whole_row : columns_answer both threes 9 (line (codes "001002")) ≡ Ok (record { rows = 1; stop = 7 })
unfolding grammar columns_answer
whole_row = refl

-- each number goes to its row's place, and what isn't read may be anything
numbers_put : columns_put (wide (2 ∷ 1 ∷ 2 ∷ [])) 3 (line (codes "12,0f") ++ codes "20x-1") before
    ≡ targets (pos 12 ∷ pos 20 ∷ pos 77 ∷ []) (pos 15 ∷ negsuc 0 ∷ pos 77 ∷ [])
unfolding grammar columns_put
numbers_put = refl

-- a cell that isn't wholly there is missing, and is told where the row ends
short_cell : columns_answer both threes 9 (line (codes "00100")) ≡ Err (wrong_cell 0 1 (TooFewCells 5))
unfolding grammar columns_answer
short_cell = refl

no_cell : columns_answer both threes 9 (line (codes "001")) ≡ Err (wrong_cell 0 1 (TooFewCells 3))
unfolding grammar columns_answer
no_cell = refl

empty_row : columns_answer both threes 9 (line [] ++ codes "001002") ≡ Err (wrong_cell 0 0 (TooFewCells 0))
unfolding grammar columns_answer
empty_row = refl

-- bytes behind the last cell are one too many
too_long : columns_answer both threes 9 (line (codes "0010023")) ≡ Err (wrong_cell 0 2 (TooManyCells 6))
unfolding grammar columns_answer
too_long = refl

-- what is no number is told before the number of cells
number_first : columns_answer both threes 9 (codes "0x1") ≡ Err (wrong_cell 0 0 (NotNumber (InvalidDigit 1)))
unfolding grammar columns_answer
number_first = refl

overflow : columns_answer both threes 9 (codes "999002") ≡ Err (wrong_cell 0 0 (NotNumber (Overflow 2)))
unfolding grammar columns_answer
overflow = refl

-- a cell of no byte is empty, and one that is wider than any text lacks
no_width : columns_answer (None ∷ both) (wide (0 ∷ 3 ∷ 0 ∷ [])) 9 (codes "001") ≡ Err (wrong_cell 0 2 (NotNumber (Empty 3)))
unfolding grammar columns_answer
no_width = refl

wide_cell : columns_answer both (wide (3 ∷ 18446744073709551615 ∷ [])) 9 (codes "001002") ≡ Err (wrong_cell 0 1 (TooFewCells 6))
unfolding grammar columns_answer
wide_cell = refl

-- without widths only empty rows have no cell too many
no_widths : columns_answer [] (wide []) 9 (line [] ++ line (codes "1")) ≡ Err (wrong_cell 1 0 (TooManyCells 1))
unfolding grammar columns_answer
no_widths = refl

-- ---- blanks, marks, empty rows, returns

blank : columns_answer both threes 9 (line (codes " 1 002")) ≡ Err (wrong_cell 0 0 (NotNumber (InvalidDigit 0)))
unfolding grammar columns_answer
blank = refl

blanks : columns_answer both (record threes { allows_blanks = true }) 9 (codes " 1   2") ≡ Ok (record { rows = 1; stop = 6 })
unfolding grammar columns_answer
blanks = refl

blanks_alone : columns_answer both (record threes { allows_blanks = true }) 9 (codes "   002")
    ≡ Err (wrong_cell 0 0 (NotNumber (Empty 3)))
unfolding grammar columns_answer
blanks_alone = refl

-- an empty mark is what a cell of blanks holds
missing : columns_answer marked (record threes { allows_blanks = true }) 9 (codes "   002") ≡ Ok (record { rows = 1; stop = 6 })
unfolding grammar columns_answer
missing = refl

skipped : columns_answer both (record threes { skips_empty_rows = true }) 9 (line [] ++ line (codes "001002"))
    ≡ Ok (record { rows = 1; stop = 8 })
unfolding grammar columns_answer
skipped = refl

return : columns_answer both (record threes { has_returns = true }) 9 (returned (codes "001002")) ≡ Ok (record { rows = 1; stop = 8 })
unfolding grammar columns_answer
return = refl

no_return : columns_answer both (record threes { has_returns = true }) 9 (line (codes "001002"))
    ≡ Err (wrong_cell 0 2 (MissingReturn 6))
unfolding grammar columns_answer
no_return = refl

-- ---- quotes

-- without a meaning they are bytes of their cell
unquoted : columns_answer both threes 9 (codes "\"01002") ≡ Err (wrong_cell 0 0 (NotNumber (InvalidDigit 0)))
unfolding grammar columns_answer
unquoted = refl

-- with one they are judged in their cell
quoted : columns_answer both (record threes { has_quotes = true }) 9 (codes "\"1\"002") ≡ Ok (record { rows = 1; stop = 6 })
unfolding grammar columns_answer
quoted = refl

stray_quote : columns_answer both (record threes { has_quotes = true }) 9 (codes "\"01\"02") ≡ Err (wrong_cell 0 0 (MisplacedQuote 0))
unfolding grammar columns_answer
stray_quote = refl

-- and within them a line feed ends no row
quoted_line_feed : columns_answer (None ∷ both) (record (wide (3 ∷ 1 ∷ 2 ∷ [])) { has_quotes = true }) 9
    (line (codes "\"" ++ 10 ∷ codes "\"102") ++ codes "abc304") ≡ Ok (record { rows = 2; stop = 13 })
unfolding grammar columns_answer
quoted_line_feed = refl
