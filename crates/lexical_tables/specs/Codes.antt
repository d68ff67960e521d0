-- What a column says of all its cells, as a byte.
-- 0: nothing is known, and the column is asked at each cell. 1: its cells aren't read. 2: they are
-- texts. 3: they are numbers, which the column is asked for at each cell. 5: they are numbers, which
-- it parses. 6: so they are, and each cell is a number, alone or within quotes, without blanks or a
-- mark. 7: they are amounts, which it reads as such. 8 and more: decimal digits behind an optional
-- minus are read as numbers of u8, u16, u32, u64, i8, i16, i32 or i64, in this order, whatever else
-- the format allows. 16 is added where a number may be missing, and 32 where no zero may stand in
-- front of another digit.
use Rattle.std.specs.Prelude.{◌≡◌, ◌-◌, ◌*◌, ◌%◌, ◌^◌, ◌<◌, ◌≤◌, ◌⊎◌, ℕ, Bool, false, true, IsTrue, List, get_or, length, nat_le, slice_index, Option, Some, None, is_some, option_map}
use Rattle.lexical_util.specs.Format.{Format}
use Rattle.lexical_util.specs.Number.{IntegerType, IsNumber, integer_type}
use Rattle.lexical_parse_integer.specs.Plain.{IsPlain, keeps_zero_rule}
use Rattle.lexical_parse_integer.specs.Value.{with_sign}
use Rattle.lexical_fields.specs.Numerals.{IsNumeral}
use Rattle.lexical_tables.specs.Amounts.{IsAmountsIn}
use Rattle.lexical_tables.specs.Cells.{ends_in_digit}
use Rattle.lexical_tables.specs.Quotes.{quote}
use Rattle.lexical_tables.specs.Readings.{FixedPoints, Integers, Number, Reading, Texts}
use Rattle.lexical_tables.specs.Targets.{TargetView, has_bits, has_numbers, keeps_text, put_value}
use Rattle.lexical_tables.specs.declared.dialect.Dialect.{Dialect}

-- the type at a place among u8, u16, u32, u64, i8, i16, i32 and i64
abbrev pub type_at : ℕ → IntegerType
type_at place = integer_type (8 * 2 ^ (place % 4)) (nat_le 4 place)

-- the type of the numbers of a column with a code
abbrev pub coded_type : ℕ → IntegerType
coded_type code = type_at (code % 8)

-- A format in radix 10 without punctuation: decimal digits behind an optional minus are a number, unless they begin
-- with a zero that the format forbids. `has_zero_rule` says whether it forbids leading zeros.
pub record IsDecimal (format : Format) (has_zero_rule : Bool) : Type 0 where
  pub plain : IsPlain format
  pub decimal : format.mantissa_radix ≡ 10
  pub zeros : format.no_integer_leading_zeros ≡ has_zero_rule

-- whether a number may be missing in a column with a code
abbrev pub has_coded_bits : ℕ → Bool
has_coded_bits code = nat_le 16 (code % 32)

-- whether no zero may stand in front of another digit
abbrev pub has_zero_rule : ℕ → Bool
has_zero_rule code = nat_le 32 code

-- cells are read as integers of the type that a code says, and these are decimal
abbrev pub AreCoded : ℕ → Reading → Type 0
AreCoded code (Integers format type) =
    IsDecimal format (has_zero_rule code) × (type ≡ coded_type code)
AreCoded code (FixedPoints fixed type) = ⊥
AreCoded code Texts = ⊥

-- a column is read as a code says
abbrev pub IsReadAs : ℕ → Option TargetView → Type 0
IsReadAs code None = ⊥
IsReadAs code (Some target) =
    AreCoded code target.reading × (is_some target.present ≡ has_coded_bits code)

-- A code is right for a column.
pub record IsCode (code : ℕ) (target : Option TargetView) : Type 0 where
  pub unread : code ≡ 1 → is_some target ≡ false
  pub texts : code ≡ 2 → keeps_text target ≡ true
  pub numbers : code ≡ 3 → has_numbers target ≡ true
  pub parsed : code ≡ 5 → has_numbers target ≡ true
  pub read : 8 ≤ code → IsReadAs code target

-- In a column of bare numbers neither blanks nor a mark stand in cells.
pub record IsBareIn (dialect : Dialect) (target : Option TargetView) : Type 0 where
  pub numbers : has_numbers target ≡ true
  pub no_blanks : dialect.allows_blanks ≡ false
  pub no_bits : has_bits target ≡ false

-- A code is right for a column in a table. If it is that of a type with bits, what stands for a missing number doesn't
-- end in a digit. For amounts `IsAmountsIn` holds, and for bare numbers `IsBareIn`.
pub record IsCodeIn (dialect : Dialect) (code : ℕ) (target : Option TargetView) : Type 0 where
  pub column : IsCode code target
  pub no_number : 8 ≤ code → has_coded_bits code ≡ true → ends_in_digit dialect.missing.now ≡ false
  pub amounts : code ≡ 7 → IsAmountsIn dialect target
  pub bare : code ≡ 6 → IsBareIn dialect target

-- each column with a place among the codes has its code
abbrev pub AreCodes : Dialect → List ℕ → List (Option TargetView) → Type 0
AreCodes dialect codes targets = (k : ℕ) → k < length codes → k < length targets
    → IsCodeIn dialect (slice_index codes k) (get_or targets k None)

-- the first columns have codes of types, and no rule on zeros
abbrev pub AreStandard : ℕ → List ℕ → Type 0
AreStandard count codes = (k : ℕ) → k < length codes → k < count
    → (8 ≤ slice_index codes k) × (slice_index codes k < 32)

-- `count` quotes stand on each side of what a cell holds: none, or one, where quotes have a meaning
-- and the cell begins and ends with one.
abbrev pub AreQuotesRound : Bool → List ℕ → ℕ → Type 0
AreQuotesRound has_quotes text count = (count ≡ 0) ⊎ ((count ≡ 1) × (has_quotes ≡ true)
    × (2 ≤ length text) × (slice_index text 0 ≡ quote)
    × (slice_index text (length text - 1) ≡ quote))

-- a text is digits alone or behind a minus, which write a number, and keep a format's rule on zeros
pub record IsNumeralUnder (format : Format) (is_negative : Bool) (number : ℕ)
    (text : List ℕ) : Type 0 where
  pub numeral : IsNumeral is_negative number text
  pub rule : keeps_zero_rule format numeral.digits ≡ true

-- The number of a text of digits was put into a row's place of a column with a code, whose format and type have it.
pub record IsNumberPut (code row : ℕ) (text : List ℕ) (old new : Option TargetView) : Type 0 where
  pub is_negative : Bool
  pub number : ℕ
  pub numeral : (format : Format) → IsDecimal format (has_zero_rule code)
      → IsNumeralUnder format is_negative number text
  pub fits : IsNumber (coded_type code) (with_sign is_negative number)
  pub minus : IsTrue is_negative → (coded_type code).is_signed ≡ true
  pub put : new ≡ option_map (put_value row (Some (Number (with_sign is_negative number)))) old
