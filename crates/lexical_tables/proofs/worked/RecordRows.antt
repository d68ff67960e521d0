-- Tables whose rows are records.
use Rattle.std.specs.Prelude.{◌≡◌, ◌++◌, ℕ, List, codes, [], ◌∷◌, pos, true, false, None, Ok, Err}
use Rattle.std.proofs.Common.{refl}
use Rattle.lexical_util.specs.declared.error.Error.TheVariants.{InvalidDigit}
use Rattle.lexical_parse_integer.specs.Computed.{grammar}
use Rattle.lexical_tables.specs.ByColumn.{columns_answer, columns_put, wrong_cell}
use Rattle.lexical_tables.specs.Parts.{readable}
use Rattle.lexical_tables.specs.declared.answers.CellFault.TheVariants.{MisplacedQuote, NotNumber, TooFewCells, TooManyCells}
use Rattle.lexical_tables.specs.declared.dialect.Dialect.{Dialect}
use Rattle.lexical_tables.specs.declared.dialect.Layout.TheVariants.{Records}
use Rattle.lexical_tables.proofs.ColumnRows.{before, both, first, plain, targets}

-- records of cells of these widths, and nothing else
abbrev blocks : List ℕ → Dialect
blocks widths = record (plain 0 false) { layout = Records (record { ref_ptr = (0, 0); now = widths }) }

-- two of three bytes
abbrev threes : Dialect
threes = blocks (3 ∷ 3 ∷ [])

whole_records : columns_answer both threes 9 (codes "001002003004") ≡ Ok (record { rows = 2; stop = 12 })
unfolding grammar columns_answer
whole_records = refl

numbers_put : columns_put (blocks (2 ∷ 1 ∷ 1 ∷ [])) 3 (codes "12,f20x7") before
    ≡ targets (pos 12 ∷ pos 20 ∷ pos 77 ∷ []) (pos 15 ∷ pos 7 ∷ pos 77 ∷ [])
unfolding grammar columns_put
numbers_put = refl

-- a last one that is short has too few cells
short_record : columns_answer both threes 9 (codes "00100200300") ≡ Err (wrong_cell 1 1 (TooFewCells 11))
unfolding grammar columns_answer
short_record = refl

-- behind the records that are asked for anything may stand
asked_records : columns_answer both threes 1 (codes "001002xxxxxx") ≡ Ok (record { rows = 1; stop = 6 })
unfolding grammar columns_answer
asked_records = refl

-- a line feed is a byte of its cell, also where returns are asked for
line_feed : columns_answer both (record threes { has_returns = true }) 9 (codes "001002" ++ 10 ∷ codes "03004")
    ≡ Err (wrong_cell 1 0 (NotNumber (InvalidDigit 6)))
unfolding grammar columns_answer
line_feed = refl

-- and where it ends each record, it has a cell of its own
filler : columns_answer first (blocks (3 ∷ 1 ∷ [])) 9 (codes "001" ++ 10 ∷ codes "002" ++ 10 ∷ []) ≡ Ok (record { rows = 2; stop = 8 })
unfolding grammar columns_answer
filler = refl

-- quotes are judged in their cell, and join no records
quotes : columns_answer both (record threes { has_quotes = true }) 9 (codes "\"1\"\"02") ≡ Err (wrong_cell 0 1 (MisplacedQuote 3))
unfolding grammar columns_answer
quotes = refl

-- no record is empty
none_skipped : columns_answer both (record threes { skips_empty_rows = true }) 9 (codes "001002003004")
    ≡ Ok (record { rows = 2; stop = 12 })
unfolding grammar columns_answer
none_skipped = refl

no_record : columns_answer both threes 9 [] ≡ Ok (record { rows = 0; stop = 0 })
unfolding grammar columns_answer
no_record = refl

-- widths of nothing leave a byte over, which starts a cell too many
no_width : columns_answer (None ∷ None ∷ []) (blocks (0 ∷ 0 ∷ [])) 9 (codes "12") ≡ Err (wrong_cell 0 2 (TooManyCells 0))
unfolding grammar columns_answer
no_width = refl

-- widths may add up to more than any text has
wide_record : columns_answer both (blocks (3 ∷ 18446744073709551615 ∷ [])) 9 (codes "001002") ≡ Err (wrong_cell 0 1 (TooFewCells 6))
unfolding grammar columns_answer
wide_record = refl

-- ---- parts

part : readable false threes (codes "0010020030") ≡ codes "001002"
part = refl

last_part : readable true threes (codes "0010020030") ≡ codes "0010020030"
last_part = refl

no_whole : readable false threes (codes "00100") ≡ []
no_whole = refl

wide_part : readable false (blocks (3 ∷ 18446744073709551615 ∷ [])) (codes "001002") ≡ []
wide_part = refl
