-- Where rows are, and tables whose bad rows are skipped, worked by hand.
use Rattle.std.specs.Prelude.{◌≡◌, ◌++◌, ℕ, ℤ, List, codes, map, [], ◌∷◌, pos, true, false, Option, Some, None}
use Rattle.std.proofs.Common.{refl}
use Rattle.lexical_util.specs.declared.error.Error.TheVariants.{Empty, InvalidDigit}
use Rattle.lexical_util.specs.Format.{standard}
use Rattle.lexical_util.specs.Number.{integer_type}
use Rattle.lexical_parse_integer.specs.Computed.{grammar}
use Rattle.lexical_tables.specs.ByColumn.{kinds_of, put_rows, wrong_cell}
use Rattle.lexical_tables.specs.Parts.{readable}
use Rattle.lexical_tables.specs.Places.{row_place}
use Rattle.lexical_tables.specs.Readings.{Integers, Number}
use Rattle.lexical_tables.specs.Skipping.{cleared_at, put_in_front, right_values, rows_read, skipped_rows, skipping_answer, skipping_put}
use Rattle.lexical_tables.specs.Targets.{TargetView}
use Rattle.lexical_tables.specs.declared.answers.CellFault.{CellFault}
use Rattle.lexical_tables.specs.declared.answers.CellFault.TheVariants.{MisplacedQuote, MissingReturn, NotNumber, TooFewCells, TooManyCells}
use Rattle.lexical_tables.specs.declared.bad_rows.BadRow.{BadRow}
use Rattle.lexical_tables.specs.declared.dialect.Dialect.{Dialect}
use Rattle.lexical_tables.specs.declared.dialect.Layout.TheVariants.{Records}
use Rattle.lexical_tables.proofs.ColumnRows.{both, line, plain, returned}

-- two columns between commas
abbrev pairs : Dialect
pairs = plain 2 false

abbrev quoted : Dialect
quoted = record pairs { has_quotes = true }

abbrev skips_empty : Dialect
skips_empty = record pairs { skips_empty_rows = true }

-- two columns of `u8` with three places each; those of the second may miss a number
abbrev two : List ℤ → List ℤ → List ℕ → List (Option TargetView)
two first second bits = Some (record {
  reading = Integers standard (integer_type 8 false);
  slice = record { at = (8, 0); name = 1 };
  values = map Number first;
  bits = None;
  present = None;
})
    ∷ Some (record {
      reading = Integers standard (integer_type 8 false);
      slice = record { at = (9, 0); name = 2 };
      values = map Number second;
      bits = Some (record { at = (10, 0); name = 3 });
      present = Some bits;
    }) ∷ []

abbrev before : List (Option TargetView)
before = two (pos 77 ∷ pos 77 ∷ pos 77 ∷ []) (pos 77 ∷ pos 77 ∷ pos 77 ∷ []) (255 ∷ [])

-- a bad row from a place to another
abbrev bad : ℕ → ℕ → CellFault → ℕ → ℕ → BadRow
bad row column fault start stop =
    record { error = wrong_cell row column fault; place = record { start = start; stop = stop } }

-- ---- where a row is

-- a row starts behind the one before it, and stops where the next one starts
first_place : row_place pairs 0 (line (codes "1,2") ++ line (codes "x,4") ++ codes "5,6")
    ≡ Some (record { start = 0; stop = 4 })
unfolding row_place
first_place = refl

middle_place : row_place pairs 1 (line (codes "1,2") ++ line (codes "x,4") ++ codes "5,6")
    ≡ Some (record { start = 4; stop = 8 })
unfolding row_place
middle_place = refl

last_place : row_place pairs 2 (line (codes "1,2") ++ line (codes "x,4") ++ codes "5,6")
    ≡ Some (record { start = 8; stop = 11 })
unfolding row_place
last_place = refl

-- behind the last row there is none
no_place : row_place pairs 3 (line (codes "1,2") ++ line (codes "x,4") ++ codes "5,6") ≡ None
unfolding row_place
no_place = refl

-- a line feed within quotes ends no row
quoted_place : row_place quoted 0 (line (codes "x,\"" ++ 10 ∷ codes "\"") ++ codes "5,6")
    ≡ Some (record { start = 0; stop = 6 })
unfolding row_place
quoted_place = refl

-- a quote that nothing closes ends at the text's end
open_place : row_place quoted 1 (line (codes "1,2") ++ line (codes "x,\"4") ++ codes "5,6")
    ≡ Some (record { start = 4; stop = 12 })
unfolding row_place
open_place = refl

-- empty rows that are skipped have no number, and the next row starts behind them
behind_empty : map (λ row. row_place skips_empty row (line [] ++ line (codes "x,2") ++ line [] ++ line [] ++ codes "5,6")) (0 ∷ 1 ∷ 2 ∷ [])
    ≡ Some (record { start = 1; stop = 7 }) ∷ Some (record { start = 7; stop = 10 }) ∷ None ∷ []
unfolding row_place
behind_empty = refl

-- with returns a row stops behind its line feed too
returned_place : row_place (plain 2 true) 0 (returned (codes "1,2") ++ returned (codes "3,4"))
    ≡ Some (record { start = 0; stop = 5 })
unfolding row_place
returned_place = refl

-- a record stops where the next one starts
record_place : row_place (record pairs { layout = Records (record { ref_ptr = (0, 0); now = 1 ∷ 2 ∷ [] }) }) 1 (codes "12345")
    ≡ Some (record { start = 3; stop = 5 })
unfolding row_place
record_place = refl

-- ---- rows that are skipped

-- no row is bad
none_bad : skipping_answer both pairs 3 (line (codes "1,2") ++ line (codes "3,4"))
    ≡ record { rows = 2; bad_rows = 0; stop = 8 }
unfolding grammar skipping_answer
none_bad = refl

none_known : skipped_rows both pairs 3 (line (codes "1,2") ++ line (codes "3,4")) ≡ []
unfolding grammar skipped_rows
none_known = refl

-- the first
first_bad : skipping_answer both pairs 3 (line (codes "x,2") ++ line (codes "3,4") ++ line (codes "5,6"))
    ≡ record { rows = 2; bad_rows = 1; stop = 12 }
unfolding grammar skipping_answer
first_bad = refl

first_known : skipped_rows both pairs 3 (line (codes "x,2") ++ line (codes "3,4") ++ line (codes "5,6"))
    ≡ bad 0 0 (NotNumber (InvalidDigit 0)) 0 4 ∷ []
unfolding grammar skipped_rows
first_known = refl

-- one between right ones: these are stored one behind another
middle_bad : skipping_answer (kinds_of before) pairs 3 (line (codes "1,2") ++ line (codes "3,x") ++ line (codes "5,6"))
    ≡ record { rows = 2; bad_rows = 1; stop = 12 }
unfolding grammar skipping_answer
middle_bad = refl

middle_known : skipped_rows (kinds_of before) pairs 3 (line (codes "1,2") ++ line (codes "3,x") ++ line (codes "5,6"))
    ≡ bad 1 1 (NotNumber (InvalidDigit 6)) 4 8 ∷ []
unfolding grammar skipped_rows
middle_known = refl

middle_put : skipping_put pairs 3 (line (codes "1,2") ++ line (codes "3,x") ++ line (codes "5,")) before
    ≡ two (pos 1 ∷ pos 5 ∷ pos 77 ∷ []) (pos 2 ∷ pos 0 ∷ pos 77 ∷ []) (253 ∷ [])
unfolding grammar skipping_put
middle_put = refl

-- the last, with too few cells: what is read of it is left behind the right rows
last_bad : skipping_answer both pairs 3 (line (codes "1,2") ++ line (codes "3"))
    ≡ record { rows = 1; bad_rows = 1; stop = 6 }
unfolding grammar skipping_answer
last_bad = refl

last_known : skipped_rows both pairs 3 (line (codes "1,2") ++ line (codes "3")) ≡ bad 1 1 (TooFewCells 5) 4 6 ∷ []
unfolding grammar skipped_rows
last_known = refl

last_put : skipping_put pairs 3 (line (codes "1,2") ++ line (codes "3")) before
    ≡ two (pos 1 ∷ pos 3 ∷ pos 77 ∷ []) (pos 2 ∷ pos 77 ∷ pos 77 ∷ []) (255 ∷ [])
unfolding grammar skipping_put
last_put = refl

-- but for that place the targets are as if the right rows alone were put
last_alone : cleared_at 1 (skipping_put pairs 3 (line (codes "1,2") ++ line (codes "3")) before)
    ≡ cleared_at 1 (put_rows 0 (right_values (kinds_of before) pairs (rows_read (kinds_of before) pairs 3
    (line (codes "1,2") ++ line (codes "3")))) before)
unfolding grammar skipping_put
last_alone = refl

-- too many cells
many_bad : skipped_rows both pairs 3 (line (codes "1,2,3") ++ line (codes "4,5")) ≡ bad 0 2 (TooManyCells 4) 0 6 ∷ []
unfolding grammar skipped_rows
many_bad = refl

-- a row with two faults is told by the first
two_faults : skipped_rows both pairs 3 (line (codes "x,") ++ line (codes "1,2")) ≡ bad 0 0 (NotNumber (InvalidDigit 0)) 0 3 ∷ []
unfolding grammar skipped_rows
two_faults = refl

-- an open quote takes what follows with it
open_bad : skipping_answer both quoted 3 (line (codes "1,2") ++ line (codes "3,\"4") ++ line (codes "5,6"))
    ≡ record { rows = 1; bad_rows = 1; stop = 13 }
unfolding grammar skipping_answer
open_bad = refl

open_known : skipped_rows both quoted 3 (line (codes "1,2") ++ line (codes "3,\"4") ++ line (codes "5,6"))
    ≡ bad 1 1 (MisplacedQuote 6) 4 13 ∷ []
unfolding grammar skipped_rows
open_known = refl

-- a missing return
return_bad : skipped_rows both (plain 2 true) 3 (line (codes "1,2") ++ returned (codes "3,4")) ≡ bad 0 2 (MissingReturn 3) 0 4 ∷ []
unfolding grammar skipped_rows
return_bad = refl

-- empty rows that are skipped aren't bad, and others are
empty_skipped : skipping_answer both skips_empty 3 (line (codes "1,2") ++ line [] ++ line (codes "3,4"))
    ≡ record { rows = 2; bad_rows = 0; stop = 9 }
unfolding grammar skipping_answer
empty_skipped = refl

empty_bad : skipped_rows both pairs 3 (line (codes "1,2") ++ line [] ++ line (codes "3,4"))
    ≡ bad 1 0 (NotNumber (Empty 4)) 4 5 ∷ []
unfolding grammar skipped_rows
empty_bad = refl

-- all rows are bad
all_bad : skipping_answer both pairs 3 (line (codes "x,2") ++ line (codes "y,4")) ≡ record { rows = 0; bad_rows = 2; stop = 8 }
unfolding grammar skipping_answer
all_bad = refl

-- they are counted among all rows
all_known : skipped_rows both pairs 3 (line (codes "x,2") ++ line (codes "1,2") ++ line (codes "y,4"))
    ≡ bad 0 0 (NotNumber (InvalidDigit 0)) 0 4 ∷ bad 2 0 (NotNumber (InvalidDigit 8)) 8 12 ∷ []
unfolding grammar skipped_rows
all_known = refl

-- reading stops behind the last right row that is asked for, whatever follows
full : skipping_answer both pairs 1 (line (codes "x,2") ++ line (codes "1,2") ++ line (codes "y,4"))
    ≡ record { rows = 1; bad_rows = 1; stop = 8 }
unfolding grammar skipping_answer
full = refl

-- and where none is asked for, at the first row
none_asked : skipping_answer both skips_empty 0 (line [] ++ line (codes "x,2")) ≡ record { rows = 0; bad_rows = 0; stop = 1 }
unfolding grammar skipping_answer
none_asked = refl

-- there may be less room than bad rows, or more
less_room : put_in_front {A = ℕ} (5 ∷ 6 ∷ []) (1 ∷ []) ≡ 5 ∷ []
less_room = refl

more_room : put_in_front {A = ℕ} (5 ∷ 6 ∷ []) (1 ∷ 2 ∷ 3 ∷ []) ≡ 5 ∷ 6 ∷ 3 ∷ []
more_room = refl

-- of a block that ends within a row the whole rows are read
block : skipping_answer both pairs 3 (readable false pairs (line (codes "1,2") ++ line (codes "x,4") ++ codes "5,"))
    ≡ record { rows = 1; bad_rows = 1; stop = 8 }
unfolding grammar skipping_answer
block = refl

-- and what is left, with the next one, from there on
next_block : skipping_answer both pairs 3 (codes "5," ++ line (codes "6") ++ line (codes "z"))
    ≡ record { rows = 1; bad_rows = 1; stop = 6 }
unfolding grammar skipping_answer
next_block = refl
