-- Cells of fixed-point numbers and of texts with what they stand for, worked by hand.
use Rattle.std.specs.Prelude.{◌≡◌, ◌++◌, ℕ, List, Bool, codes, [], ◌∷◌, pos, negsuc, true, false, Option, Some, None, Ok, Err}
use Rattle.std.proofs.Common.{refl}
use Rattle.lexical_util.specs.declared.error.Error.TheVariants.{Empty, InvalidDigit, Overflow}
use Rattle.lexical_util.specs.Format.{standard}
use Rattle.lexical_util.specs.Number.{integer_type}
use Rattle.lexical_parse_integer.specs.Computed.{grammar}
use Rattle.lexical_fields.specs.Fields.{FieldView}
use Rattle.lexical_fixed.specs.Computed.{fixed_grammar}
use Rattle.lexical_fixed.specs.Fixed.{Fixed}
use Rattle.lexical_tables.specs.ByColumn.{columns_put}
use Rattle.lexical_tables.specs.Cells.{Kind, answer_as}
use Rattle.lexical_tables.specs.Readings.{FixedPoints, Number, Reading, Text, Texts, Value, answer_by}
use Rattle.lexical_tables.specs.Targets.{TargetView}
use Rattle.lexical_tables.specs.declared.answers.CellFault.TheVariants.{MisplacedQuote, NotNumber}
use Rattle.lexical_tables.specs.declared.dialect.Dialect.{Dialect}
use Rattle.lexical_tables.proofs.ColumnRows.{line, plain}

-- amounts with a comma and two places, and points between groups
abbrev euros : Fixed
euros = record {
  integer = record standard { digit_separator = Some 46; integer_internal_digit_separator = true };
  point = 44;
  places = 2;
  takes_fewer = true;
}

abbrev amounts : Reading
amounts = FixedPoints euros (integer_type 32 true)

-- cells between commas, where all is allowed
abbrev open_table : Dialect
open_table = record (plain 2 false) { has_quotes = true; allows_blanks = true }

abbrev column_of : Reading → Bool → Option Kind
column_of reading may_miss = Some (record { reading = reading; may_miss = may_miss })

-- a cell at place 5
abbrev cell : List ℕ → FieldView
cell text = record { start = 5; text = text }

-- ---- fixed-point numbers

amount : answer_as open_table (column_of amounts false) (cell (codes "-1.234,50")) ≡ Ok (Some (Number (negsuc 123449)))
unfolding grammar fixed_grammar
amount = refl

fewer_places : answer_as open_table (column_of amounts false) (cell (codes "12,5")) ≡ Ok (Some (Number (pos 1250)))
unfolding grammar fixed_grammar
fewer_places = refl

-- the digit behind the last place has its place in the text
cut : answer_as open_table (column_of amounts false) (cell (codes "12,505")) ≡ Err (NotNumber (InvalidDigit 10))
unfolding grammar fixed_grammar
cut = refl

-- quotes and blanks are left out as of integers
quoted_amount : answer_as open_table (column_of amounts false) (cell (codes "\" 7,1x\"")) ≡ Err (NotNumber (InvalidDigit 10))
unfolding grammar fixed_grammar
quoted_amount = refl

-- a number that only zeros take out of the type is told at the cell's end
out_of_type : answer_as open_table (column_of amounts false) (cell (codes "99999999")) ≡ Err (NotNumber (Overflow 13))
unfolding grammar fixed_grammar
out_of_type = refl

missing_amount : answer_as open_table (column_of amounts true) (cell (codes " ")) ≡ Ok None
missing_amount = refl

no_amount : answer_as open_table (column_of amounts false) (cell []) ≡ Err (NotNumber (Empty 5))
unfolding grammar fixed_grammar
no_amount = refl

-- ---- texts

-- where a text stands, from a place on
abbrev text_at : ℕ → ℕ → Bool → Value
text_at start size doubled = Text (record { start = start; size = size; has_doubled_quotes = doubled })

-- blanks are a text's own
spaced : answer_as open_table (column_of Texts false) (cell (codes " a ")) ≡ Ok (Some (text_at 5 3 false))
spaced = refl

-- a text in quotes stands between them
quoted : answer_as open_table (column_of Texts false) (cell (codes "\"a b\"")) ≡ Ok (Some (text_at 6 3 false))
quoted = refl

-- a text says that quotes within it are doubled
doubled : answer_as open_table (column_of Texts false) (cell (codes "\"a\"\"b\"")) ≡ Ok (Some (text_at 6 4 true))
doubled = refl

-- other quotes are out of place, as in a cell that isn't read
misplaced : answer_as open_table (column_of Texts false) (cell (codes "\"a\"b\"")) ≡ Err (MisplacedQuote 7)
misplaced = refl

-- without a meaning they are bytes of their text
meaningless : answer_as (plain 2 false) (column_of Texts false) (cell (codes "\"a\"\"")) ≡ Ok (Some (text_at 5 4 false))
meaningless = refl

-- and so they are in a text that is read without its table
read_alone : answer_by Texts (record { start = 5; text = codes "a\"\"b" }) ≡ Ok (text_at 5 4 false)
read_alone = refl

-- an empty text is one, unless that stands for a missing one
empty_text : answer_as open_table (column_of Texts false) (cell []) ≡ Ok (Some (text_at 5 0 false))
empty_text = refl

missing_text : answer_as open_table (column_of Texts true) (cell (codes "\"\"")) ≡ Ok None
missing_text = refl

-- ---- a table

-- a column of amounts and one of texts, which may miss
abbrev both : List Value → List Value → List ℕ → List (Option TargetView)
both first second bits = Some (record {
  reading = amounts;
  slice = record { at = (8, 0); name = 1 };
  values = first;
  bits = None;
  present = None;
})
    ∷ Some (record {
      reading = Texts;
      slice = record { at = (9, 0); name = 2 };
      values = second;
      bits = Some (record { at = (10, 0); name = 3 });
      present = Some bits;
    }) ∷ []

-- places count from the text's start, and a missing text is one of no bytes at place 0
two_rows : columns_put (record (plain 2 false) { has_quotes = true }) 2 (line (codes "\"1,2\",\"a\"\"b\"") ++ codes "3,")
    (both (Number (pos 77) ∷ Number (pos 77) ∷ []) (text_at 7 7 true ∷ text_at 7 7 true ∷ []) (254 ∷ []))
    ≡ both (Number (pos 120) ∷ Number (pos 300) ∷ []) (text_at 7 4 true ∷ text_at 0 0 false ∷ []) (253 ∷ [])
unfolding grammar fixed_grammar columns_put
two_rows = refl
