-- Tables with the columns that are read of them.
use Rattle.std.specs.Prelude.{◌≡◌, ◌++◌, ℕ, Bool, List, codes, map, [], ◌∷◌, ℤ, pos, negsuc, false, true, Option, Some, None, Ok, Err}
use Rattle.std.proofs.Common.{refl}
use Rattle.lexical_util.specs.declared.error.Error.TheVariants.{Empty, InvalidDigit, Overflow}
use Rattle.lexical_util.specs.Format.{standard}
use Rattle.lexical_util.specs.Number.{integer_type}
use Rattle.lexical_parse_integer.specs.Computed.{grammar}
use Rattle.lexical_tables.specs.ByColumn.{columns_answer, columns_put, kinds_of, wrong_cell}
use Rattle.lexical_tables.specs.Cells.{Kind}
use Rattle.lexical_tables.specs.Header.{behind_lines}
use Rattle.lexical_tables.specs.OneColumn.{cells_read, only}
use Rattle.lexical_tables.specs.Parts.{error_behind, fault_behind, readable}
use Rattle.lexical_tables.specs.Readings.{Integers, Number}
use Rattle.lexical_tables.specs.Targets.{TargetView}
use Rattle.lexical_tables.specs.declared.answers.CellFault.TheVariants.{MisplacedQuote, MissingReturn, NotNumber, TooFewCells, TooManyCells}
use Rattle.lexical_tables.specs.declared.dialect.Dialect.{Dialect}
use Rattle.lexical_tables.specs.declared.dialect.Layout.TheVariants.{Separated}

-- `columns` columns between commas, with returns or without, and nothing else
abbrev pub plain : ℕ → Bool → Dialect
plain columns has_returns = record {
  layout = Separated 44 columns;
  has_returns = has_returns;
  allows_returns = false;
  has_quotes = false;
  allows_blanks = false;
  skips_empty_rows = false;
  missing = record { ref_ptr = (0, 0); now = [] };
}

-- four columns
abbrev four : Dialect
four = plain 4 false

-- the first column is read as `u8`, the third as hexadecimal `i8`, the second and the fourth aren't read
abbrev pub targets : List ℤ → List ℤ → List (Option TargetView)
targets first third = Some (record {
  reading = Integers standard (integer_type 8 false);
  slice = record { at = (8, 0); name = 1 };
  values = map Number first;
  bits = None;
  present = None;
})
    ∷ None ∷ Some (record {
      reading = Integers (record standard { mantissa_radix = 16 }) (integer_type 8 true);
      slice = record { at = (9, 0); name = 2 };
      values = map Number third;
      bits = None;
      present = None;
    }) ∷ []

-- three places in each slice
abbrev pub before : List (Option TargetView)
before = targets (pos 77 ∷ pos 77 ∷ pos 77 ∷ []) (pos 77 ∷ pos 77 ∷ pos 77 ∷ [])

-- each number goes to its row's place, and what isn't read may be anything
two_rows : columns_put four 3 (codes "1,a,f,\"" ++ 10 ∷ codes "20,,-1,b" ++ 10 ∷ []) before
    ≡ targets (pos 1 ∷ pos 20 ∷ pos 77 ∷ []) (pos 15 ∷ negsuc 0 ∷ pos 77 ∷ [])
unfolding grammar columns_put
two_rows = refl

two_rows_answer : columns_answer (kinds_of before) four 3 (codes "1,a,f,\"" ++ 10 ∷ codes "20,,-1,b" ++ 10 ∷ [])
    ≡ Ok (record { rows = 2; stop = 17 })
unfolding grammar columns_answer
two_rows_answer = refl

-- of as many rows as are asked for
one_row : columns_put four 1 (codes "1,a,f,\"" ++ 10 ∷ codes "20,,-1,b") before
    ≡ targets (pos 1 ∷ pos 77 ∷ pos 77 ∷ []) (pos 15 ∷ pos 77 ∷ pos 77 ∷ [])
unfolding grammar columns_put
one_row = refl

one_row_answer : columns_answer (kinds_of before) four 1 (codes "1,a,f,\"" ++ 10 ∷ codes "x")
    ≡ Ok (record { rows = 1; stop = 8 })
unfolding grammar columns_answer
one_row_answer = refl

-- the first wrong cell is told in its row, its column and its place, and the cells before it alone were read
first_wrong : columns_put four 3 (codes "1,a,f,b" ++ 10 ∷ codes "2,c,80,d" ++ 10 ∷ codes "3,e,5,f") before
    ≡ targets (pos 1 ∷ pos 2 ∷ pos 77 ∷ []) (pos 15 ∷ pos 77 ∷ pos 77 ∷ [])
unfolding grammar columns_put
first_wrong = refl

first_wrong_answer : columns_answer (kinds_of before) four 3 (codes "1,a,f,b" ++ 10 ∷ codes "2,c,80,d" ++ 10 ∷ [])
    ≡ Err (wrong_cell 1 2 (NotNumber (Overflow 13)))
unfolding grammar columns_answer
first_wrong_answer = refl

-- a last cell that isn't read may be empty
empty_last : columns_answer (kinds_of before) four 3 (codes "1,a,f," ++ 10 ∷ []) ≡ Ok (record { rows = 1; stop = 7 })
unfolding grammar columns_answer
empty_last = refl

-- ---- two columns of `u8`

abbrev pub both : List (Option Kind)
both =
    Some (record { reading = Integers standard (integer_type 8 false); may_miss = false })
    ∷ Some (record { reading = Integers standard (integer_type 8 false); may_miss = false }) ∷ []

abbrev pairs : Bool → Dialect
pairs has_returns = plain 2 has_returns

-- lines with a line feed, and with a return in front of it
abbrev pub line : List ℕ → List ℕ
line text = text ++ 10 ∷ []

abbrev pub returned : List ℕ → List ℕ
returned text = text ++ 13 ∷ 10 ∷ []

-- the last row needs no line feed
last_row : columns_answer both (pairs false) 4 (line (codes "1,2") ++ codes "3,4")
    ≡ Ok (record { rows = 2; stop = 7 })
unfolding grammar columns_answer
last_row = refl

-- the empty text has no row
no_row : columns_answer both (pairs false) 4 []
    ≡ Ok (record { rows = 0; stop = 0 })
unfolding grammar columns_answer
no_row = refl

-- behind the rows that are asked for anything may stand
room_for_one : columns_answer both (pairs false) 1 (line (codes "1,2") ++ codes "x")
    ≡ Ok (record { rows = 1; stop = 4 })
unfolding grammar columns_answer
room_for_one = refl

-- a cell that is no number is told by its row, its column and its place in the text
no_number : columns_answer both (pairs false) 4 (line (codes "1,2") ++ codes "3,4x")
    ≡ Err (wrong_cell 1 1 (NotNumber (InvalidDigit 7)))
unfolding grammar columns_answer
no_number = refl

-- an empty cell has no digit
empty_cell : columns_answer both (pairs false) 4 (line (codes "1,2") ++ codes ",4")
    ≡ Err (wrong_cell 1 0 (NotNumber (Empty 4)))
unfolding grammar columns_answer
empty_cell = refl

-- nor has an empty last one
empty_last_cell : columns_answer both (pairs false) 4 (line (codes "1,"))
    ≡ Err (wrong_cell 0 1 (NotNumber (Empty 2)))
unfolding grammar columns_answer
empty_last_cell = refl

-- an empty row has one empty cell
empty_row : columns_answer both (pairs false) 4 (line (codes "1,2") ++ line [] ++ line (codes "3,4"))
    ≡ Err (wrong_cell 1 0 (NotNumber (Empty 4)))
unfolding grammar columns_answer
empty_row = refl

-- a cell too few is told where the row ends
too_few : columns_answer both (pairs false) 4 (line (codes "1,2") ++ line (codes "3"))
    ≡ Err (wrong_cell 1 1 (TooFewCells 5))
unfolding grammar columns_answer
too_few = refl

-- a cell too many is told where it starts
too_many : columns_answer both (pairs false) 4 (line (codes "1,2,x"))
    ≡ Err (wrong_cell 0 2 (TooManyCells 4))
unfolding grammar columns_answer
too_many = refl

-- also an empty one
empty_extra_cell : columns_answer both (pairs false) 4 (line (codes "1,2,"))
    ≡ Err (wrong_cell 0 2 (TooManyCells 4))
unfolding grammar columns_answer
empty_extra_cell = refl

-- what is no number is told before the number of cells
number_first : columns_answer both (pairs false) 4 (line (codes "1,x,3"))
    ≡ Err (wrong_cell 0 1 (NotNumber (InvalidDigit 2)))
unfolding grammar columns_answer
number_first = refl

-- quotes have no meaning without being asked for
quotes : columns_answer both (pairs false) 4 (codes "1,\"2\"")
    ≡ Err (wrong_cell 0 1 (NotNumber (InvalidDigit 2)))
unfolding grammar columns_answer
quotes = refl

-- with returns one stands before each line feed
returns : columns_answer both (pairs true) 4 (returned (codes "1,2") ++ returned (codes "3,4"))
    ≡ Ok (record { rows = 2; stop = 10 })
unfolding grammar columns_answer
returns = refl

-- the last row needs none without a line feed
last_return : columns_answer both (pairs true) 4 (returned (codes "1,2") ++ codes "3,4")
    ≡ Ok (record { rows = 2; stop = 8 })
unfolding grammar columns_answer
last_return = refl

-- without a line feed a return is a byte of its cell
return_alone : columns_answer both (pairs true) 4 (codes "3,4" ++ 13 ∷ [])
    ≡ Err (wrong_cell 0 1 (NotNumber (InvalidDigit 3)))
unfolding grammar columns_answer
return_alone = refl

-- so it is without returns
return_unasked : columns_answer both (pairs false) 4 (returned (codes "3,4"))
    ≡ Err (wrong_cell 0 1 (NotNumber (InvalidDigit 3)))
unfolding grammar columns_answer
return_unasked = refl

-- a line feed that lacks its return is told behind the cells
no_return : columns_answer both (pairs true) 4 (returned (codes "1,2") ++ line (codes "3,4"))
    ≡ Err (wrong_cell 1 2 (MissingReturn 8))
unfolding grammar columns_answer
no_return = refl

-- and a cell too few before it
few_before_return : columns_answer both (pairs true) 4 (line (codes "3")) ≡ Err (wrong_cell 0 1 (TooFewCells 1))
unfolding grammar columns_answer
few_before_return = refl

-- a digit parts cells as any byte does
digit_separator : columns_answer both (record (pairs false) { layout = Separated 48 2 }) 4 (line (codes "102"))
    ≡ Ok (record { rows = 1; stop = 4 })
unfolding grammar columns_answer
digit_separator = refl

-- ---- empty rows that are skipped

abbrev spaced : Bool → Dialect
spaced has_returns = record (pairs has_returns) { skips_empty_rows = true }

-- they aren't counted, and what stops behind them is the next row
skipped : columns_answer both (spaced false) 1 (line [] ++ line (codes "1,2") ++ line [] ++ line [] ++ codes "x")
    ≡ Ok (record { rows = 1; stop = 7 })
unfolding grammar columns_answer
skipped = refl

-- or the end of the text
skipped_last : columns_answer both (spaced false) 2 (line (codes "1,2") ++ line []) ≡ Ok (record { rows = 1; stop = 5 })
unfolding grammar columns_answer
skipped_last = refl

-- a fault is in its row of those that count, and at its place in the text
behind_skipped : columns_answer both (spaced false) 2 (line [] ++ line (codes "1,2") ++ line [] ++ codes "3,x")
    ≡ Err (wrong_cell 1 1 (NotNumber (InvalidDigit 8)))
unfolding grammar columns_answer
behind_skipped = refl

-- with returns a row of one is empty, and so is one that lacks it, but not a return that no line feed follows
skipped_returns : columns_answer both (spaced true) 2 (returned [] ++ line [] ++ returned (codes "1,2") ++ 13 ∷ [])
    ≡ Err (wrong_cell 1 0 (NotNumber (InvalidDigit 8)))
unfolding grammar columns_answer
skipped_returns = refl

-- ---- quotes

abbrev quoted : Dialect
quoted = record (pairs false) { has_quotes = true }

-- the first column is read
abbrev pub first : List (Option Kind)
first = Some (record { reading = Integers standard (integer_type 8 false); may_miss = false }) ∷ []

-- within quotes a separator parts no cells, and a line feed ends no row
within_quotes : columns_answer first quoted 4 (line (codes "1,\"a,b" ++ 10 ∷ codes "c\"") ++ codes "2,")
    ≡ Ok (record { rows = 2; stop = 12 })
unfolding grammar columns_answer
within_quotes = refl

-- nor within two that stand beside each other, but between them
doubled_quotes : columns_answer first quoted 4 (line (codes "1,\"a\"\",b\"") ++ line (codes "2,\"\""))
    ≡ Ok (record { rows = 2; stop = 15 })
unfolding grammar columns_answer
doubled_quotes = refl

-- a place behind quotes counts all bytes
behind_quotes : columns_answer first quoted 4 (line (codes "1,\"" ++ 10 ∷ codes "\"") ++ codes "2x,")
    ≡ Err (wrong_cell 1 0 (NotNumber (InvalidDigit 7)))
unfolding grammar columns_answer
behind_quotes = refl

-- a quote that is the separator parts cells
quote_separator : columns_answer both (record quoted { layout = Separated 34 3 }) 4 (line (codes "1\"2\"") ++ codes "3\"4\"x")
    ≡ Ok (record { rows = 2; stop = 10 })
unfolding grammar columns_answer
quote_separator = refl

-- the quotes of a cell behind those that are read are judged, but none of a cell too many
quote_unread : columns_answer first quoted 4 (codes "1,a\"b") ≡ Err (wrong_cell 0 1 (MisplacedQuote 3))
unfolding grammar columns_answer
quote_unread = refl

quote_too_many : columns_answer both quoted 4 (codes "1,2,a\"b") ≡ Err (wrong_cell 0 2 (TooManyCells 4))
unfolding grammar columns_answer
quote_too_many = refl

-- a row whose quotes are closed is whole, whatever stands within them
whole_quoted : readable false quoted (line (codes "1,\"" ++ 10 ∷ codes "\"") ++ codes "2,\"" ++ 10 ∷ [])
    ≡ line (codes "1,\"" ++ 10 ∷ codes "\"")
whole_quoted = refl

-- ---- headers

-- a line ends at a line feed outside quotes
header : behind_lines true 1 (line (codes "\"width" ++ 10 ∷ codes "in mm\",2") ++ codes "1,2") ≡ codes "1,2"
header = refl

-- whatever quotes stand behind it
quote_behind : behind_lines true 1 (line (codes "\"width" ++ 10 ∷ codes "in mm\",2") ++ codes "5\"") ≡ codes "5\""
quote_behind = refl

-- where a quote never closes, at any line feed
stray_quote : behind_lines true 1 (line (codes "width 5\"") ++ line (codes "1,\"a\"")) ≡ line (codes "1,\"a\"")
stray_quote = refl

-- without quotes at each
plain_header : behind_lines false 2 (line (codes "\"width") ++ line (codes "in mm\"") ++ codes "1") ≡ codes "1"
plain_header = refl

-- a text may have fewer
short_header : behind_lines true 3 (line (codes "a") ++ codes "b") ≡ []
short_header = refl

-- ---- parts

-- a wrong cell counts the rows and the bytes in front of its part
behind : error_behind 2 10 (record { row = 1; column = 5; fault = TooFewCells 4 })
    ≡ record { row = 3; column = 5; fault = TooFewCells 14 }
behind = refl

behind_each : map (fault_behind 10) (NotNumber (Empty 4) ∷ MisplacedQuote 4 ∷ TooManyCells 4 ∷ MissingReturn 4 ∷ [])
    ≡ NotNumber (Empty 14) ∷ MisplacedQuote 14 ∷ TooManyCells 14 ∷ MissingReturn 14 ∷ []
behind_each = refl

-- ---- a column alone

-- no other column is read
alone : only {A = ℕ} 1 (Some 5 ∷ Some 6 ∷ Some 7 ∷ []) ≡ None ∷ Some 6 ∷ []
alone = refl

-- cells in front of a wrong one are read in its row too, and where none is wrong, those of all rows
cells_alone : map (λ column. cells_read column 9 (Err (wrong_cell 3 2 (TooFewCells 0)))) (1 ∷ 2 ∷ []) ≡ 4 ∷ 3 ∷ []
cells_alone = refl

all_cells_alone : cells_read 1 9 (Ok (record { rows = 3; stop = 5 })) ≡ 9
all_cells_alone = refl
