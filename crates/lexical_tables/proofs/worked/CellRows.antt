-- Cells with what they hold.
use Rattle.std.specs.Prelude.{◌≡◌, ◌≢◌, ◌++◌, ◌/◌, ◌%◌, ◌<◌, ℕ, ℤ, Bool, List, length, map, codes, [], ◌∷◌, pos, true, false, Option, Some, None, Ok, Err}
use Rattle.std.specs.Int.{bit_at, bit_not}
use Rattle.std.specs.Int.Bits.{bit_and, bit_or}
use Rattle.std.proofs.lemmas.Nat.{one_shl}
use Rattle.std.proofs.Common.{◌∙◌, ap, arith, cond, get_or, get_or-set_same, refl, sym, w8}
use Rattle.std.proofs.lemmas.Nat.Bits.{bit_at_clear_other, bit_at_clear_same, bit_at_set_other, bit_at_set_same}
use Rattle.lexical_util.specs.declared.error.Error.TheVariants.{Empty, InvalidDigit}
use Rattle.lexical_util.specs.Format.{standard}
use Rattle.lexical_util.specs.Number.{integer_type}
use Rattle.lexical_parse_integer.specs.Computed.{grammar}
use Rattle.lexical_tables.specs.ByColumn.{columns_put}
use Rattle.lexical_tables.specs.Cells.{Kind, answer_as, content}
use Rattle.lexical_tables.specs.Readings.{Integers, Number}
use Rattle.lexical_tables.specs.Targets.{TargetView, put_value, with_bit, with_row_bit}
use Rattle.lexical_tables.specs.declared.answers.CellFault.TheVariants.{MisplacedQuote, NotNumber}
use Rattle.lexical_tables.specs.declared.dialect.Dialect.{Dialect}
use Rattle.lexical_tables.proofs.ColumnRows.{line, plain}

-- blanks are left out on both sides, and count for places
spaced : content false true (record { start = 5; text = codes " " ++ 9 ∷ codes "-7  " })
    ≡ record { start = 7; text = codes "-7" }
spaced = refl

-- within a number they stay
parted : content false true (record { start = 5; text = codes " 1 2" }) ≡ record { start = 6; text = codes "1 2" }
parted = refl

-- of blanks alone nothing is left, at their end
blanks_alone : content false true (record { start = 5; text = 9 ∷ codes "  " }) ≡ record { start = 8; text = [] }
blanks_alone = refl

-- where they aren't allowed they stay
unspaced : content false false (record { start = 5; text = codes " 7" }) ≡ record { start = 5; text = codes " 7" }
unspaced = refl

-- ---- cells that are read

abbrev numbers_of_8 : Bool → Kind
numbers_of_8 may_miss = record { reading = Integers standard (integer_type 8 false); may_miss = may_miss }

abbrev bytes : Option Kind
bytes = Some (numbers_of_8 false)

abbrev spacious : Dialect
spacious = record (plain 2 false) { allows_blanks = true }

number_in_blanks : answer_as spacious bytes (record { start = 5; text = codes " 80 " }) ≡ Ok (Some (Number (pos 80)))
unfolding grammar
number_in_blanks = refl

fault_in_blanks : answer_as spacious bytes (record { start = 5; text = codes " 8x " }) ≡ Err (NotNumber (InvalidDigit 7))
unfolding grammar
fault_in_blanks = refl

nothing_in_blanks : answer_as spacious bytes (record { start = 5; text = codes "  " }) ≡ Err (NotNumber (Empty 7))
unfolding grammar
nothing_in_blanks = refl

blanks_unasked : answer_as (plain 2 false) bytes (record { start = 5; text = codes " 80" })
    ≡ Err (NotNumber (InvalidDigit 5))
unfolding grammar
blanks_unasked = refl

-- a cell that isn't read may hold anything
unread : answer_as spacious None (record { start = 5; text = codes " x " }) ≡ Ok None
unread = refl

-- ---- missing numbers

abbrev marked : List ℕ → Dialect
marked mark = record (plain 2 false) { allows_blanks = true; missing = record { ref_ptr = (0, 0); now = mark } }

-- the mark stands for nothing where a number may be missing, also if it is a number
missing : answer_as (marked (codes "0")) (Some (numbers_of_8 true)) (record { start = 5; text = codes " 0 " }) ≡ Ok None
unfolding grammar
missing = refl

-- elsewhere it doesn't
not_missing : answer_as (marked (codes "0")) bytes (record { start = 5; text = codes " 0 " }) ≡ Ok (Some (Number (pos 0)))
unfolding grammar
not_missing = refl

-- an empty mark is what an empty cell holds
empty_mark : answer_as (marked []) (Some (numbers_of_8 true)) (record { start = 5; text = codes " " }) ≡ Ok None
unfolding grammar
empty_mark = refl

-- each byte counts
like_the_mark : answer_as (marked (codes "NA")) (Some (numbers_of_8 true)) (record { start = 5; text = codes "Na" })
    ≡ Err (NotNumber (InvalidDigit 5))
unfolding grammar
like_the_mark = refl

-- ---- quotes

abbrev quoting : Dialect
quoting = record (plain 2 false) { has_quotes = true; allows_blanks = true }

-- a number in quotes stands between them
quoted : answer_as quoting bytes (record { start = 5; text = codes "\"80\"" }) ≡ Ok (Some (Number (pos 80)))
unfolding grammar
quoted = refl

-- a fault within them has its place in the text
quoted_fault : answer_as quoting bytes (record { start = 5; text = codes "\" 8x\"" }) ≡ Err (NotNumber (InvalidDigit 8))
unfolding grammar
quoted_fault = refl

-- behind the closing quote nothing stands, not even a blank
behind_quotes : answer_as quoting bytes (record { start = 5; text = codes "\"80\" " }) ≡ Err (MisplacedQuote 8)
behind_quotes = refl

-- nor in front of the opening one
before_quotes : answer_as quoting bytes (record { start = 5; text = codes " \"80\"" }) ≡ Err (MisplacedQuote 6)
before_quotes = refl

-- a number has no quote, not even a doubled one
doubled : answer_as quoting bytes (record { start = 5; text = codes "\"8\"\"0\"" }) ≡ Err (MisplacedQuote 7)
doubled = refl

-- an opening quote needs a closing one
unclosed : answer_as quoting bytes (record { start = 5; text = codes "\"80" }) ≡ Err (MisplacedQuote 5)
unclosed = refl

opening_alone : answer_as quoting bytes (record { start = 5; text = codes "\"" }) ≡ Err (MisplacedQuote 5)
opening_alone = refl

-- an empty mark is also what empty quotes hold
empty_quotes : answer_as quoting (Some (numbers_of_8 true)) (record { start = 5; text = codes "\"\"" }) ≡ Ok None
empty_quotes = refl

-- a cell that isn't read may have doubled quotes within its own
unread_doubled : answer_as quoting None (record { start = 5; text = codes "\"a\"\"b\"" }) ≡ Ok None
unread_doubled = refl

-- but no others
unread_within : answer_as quoting None (record { start = 5; text = codes "\"a\"b\"" }) ≡ Err (MisplacedQuote 7)
unread_within = refl

-- not even in front of the last byte
unread_end : answer_as quoting None (record { start = 5; text = codes "\"a\"b" }) ≡ Err (MisplacedQuote 7)
unread_end = refl

unread_unclosed : answer_as quoting None (record { start = 5; text = codes "\"a\"\"" }) ≡ Err (MisplacedQuote 5)
unread_unclosed = refl

unread_behind : answer_as quoting None (record { start = 5; text = codes "a\"b\"" }) ≡ Err (MisplacedQuote 6)
unread_behind = refl

-- without a meaning they are bytes of their cell
meaningless : answer_as (plain 2 false) None (record { start = 5; text = codes "a\"b" }) ≡ Ok None
meaningless = refl

-- ---- bits

-- the lowest bit comes first
third_row : with_row_bit 2 true (0 ∷ 255 ∷ []) ≡ 4 ∷ 255 ∷ []
third_row = refl

tenth_row : with_row_bit 9 false (0 ∷ 255 ∷ []) ≡ 0 ∷ 253 ∷ []
tenth_row = refl

-- a row's bit says whether there is a number, and each other bit of its byte is as it was
pub row_bit : (row : ℕ) (is_there : Bool) (bytes : List ℕ) → row / 8 < length bytes
    → bit_at (get_or (with_row_bit row is_there bytes) (row / 8) 0) (row % 8) ≡ cond is_there 1 0
row_bit row true bytes low =
    ap (λ b. bit_at b (row % 8)) (get_or-set_same bytes (row / 8) (with_bit (row % 8) true (get_or bytes (row / 8) 0)) 0 low)
    ∙ ap (λ b. bit_at (bit_or (get_or bytes (row / 8) 0) b) (row % 8)) (sym (one_shl (row % 8) 8 (omega arith)))
    ∙ bit_at_set_same w8 (get_or bytes (row / 8) 0) (row % 8) (omega arith)
row_bit row false bytes low =
    ap (λ b. bit_at b (row % 8)) (get_or-set_same bytes (row / 8) (with_bit (row % 8) false (get_or bytes (row / 8) 0)) 0 low)
    ∙ ap (λ b. bit_at (bit_and (get_or bytes (row / 8) 0) (bit_not w8 b)) (row % 8)) (sym (one_shl (row % 8) 8 (omega arith)))
    ∙ bit_at_clear_same w8 (get_or bytes (row / 8) 0) (row % 8) (omega arith)

pub other_bits : (row other : ℕ) (is_there : Bool) (byte : ℕ) → other < 8 → other ≢ row % 8
    → bit_at (with_bit (row % 8) is_there byte) other ≡ bit_at byte other
other_bits row other true byte low differs =
    ap (λ b. bit_at (bit_or byte b) other) (sym (one_shl (row % 8) 8 (omega arith)))
    ∙ bit_at_set_other w8 byte (row % 8) (omega arith) other differs
other_bits row other false byte low differs =
    ap (λ b. bit_at (bit_and byte (bit_not w8 b)) other) (sym (one_shl (row % 8) 8 (omega arith)))
    ∙ bit_at_clear_other w8 byte (row % 8) (omega arith) other low differs

-- ---- targets

abbrev half_read : TargetView
half_read = record {
  reading = Integers standard (integer_type 8 false);
  slice = record { at = (8, 0); name = 1 };
  values = Number (pos 77) ∷ Number (pos 77) ∷ [];
  bits = Some (record { at = (9, 0); name = 2 });
  present = Some (255 ∷ []);
}

-- a missing number is 0
missing_put : put_value 1 None half_read ≡ record half_read { values = Number (pos 77) ∷ Number (pos 0) ∷ []; present = Some (253 ∷ []) }
missing_put = refl

-- the mark clears a row's bit and a number sets it where the column has bits, and elsewhere the mark is no number
abbrev with_bits_and_without : List ℤ → List ℕ → List ℤ → List (Option TargetView)
with_bits_and_without first present second =
    Some (record half_read { values = map Number first; present = Some present })
    ∷ Some (record half_read { values = map Number second; bits = None; present = None }) ∷ []

marks_put : columns_put (marked (codes "NA")) 3 (line (codes "1,2") ++ line (codes "NA,3") ++ codes "4,NA")
    (with_bits_and_without (pos 77 ∷ pos 77 ∷ pos 77 ∷ []) (250 ∷ []) (pos 77 ∷ pos 77 ∷ pos 77 ∷ []))
    ≡ with_bits_and_without (pos 1 ∷ pos 0 ∷ pos 4 ∷ []) (253 ∷ []) (pos 2 ∷ pos 3 ∷ pos 77 ∷ [])
unfolding grammar columns_put
marks_put = refl
