-- Amounts that are read at once: fixed-point numbers of few places, with all of them or fewer.
use Rattle.std.specs.Prelude.{◌≡◌, ◌≢◌, ◌+◌, ◌-◌, ◌<◌, ◌≤◌, ℕ, Bool, false, true, IsTrue, List, length, slice_index, Ok, Option, Some, None, ⊤}
use Rattle.lexical_digits.specs.Value.{with_sign}
use Rattle.lexical_util.specs.Kind.{kind_of}
use Rattle.lexical_util.specs.Number.{IntegerType, IsNumber}
use Rattle.lexical_util.specs.declared.format.kind.FormatKind.TheVariants.{Decimal}
use Rattle.lexical_parse_integer.specs.Plain.{IsBehind, IsPlain}
use Rattle.lexical_fixed.specs.Fixed.{Fixed}
use Rattle.lexical_fixed.specs.Grammar.{complete_fixed}
use Rattle.lexical_fixed.specs.Quick.{leads_with_zero}
use Rattle.lexical_fixed.specs.Validity.{fixed_fault}
use Rattle.lexical_tables.specs.Cells.{ends_in_digit}
use Rattle.lexical_tables.specs.Quotes.{quote}
use Rattle.lexical_tables.specs.Readings.{FixedPoints, Integers, Reading, Texts}
use Rattle.lexical_tables.specs.Targets.{TargetView, has_bits}
use Rattle.lexical_tables.specs.declared.dialect.Dialect.{Dialect}

-- A description of amounts that are read at once: it has one to eleven places, or six at most if it takes fewer, its point is
-- no quote, and its integer part is decimal and has no punctuation.
pub record IsQuick (fixed : Fixed) : Type 0 where
  pub decimal : kind_of fixed.integer ≡ Decimal
  pub some : 1 ≤ fixed.places
  pub few : fixed.places ≤ 11
  pub fewer : IsTrue fixed.takes_fewer → fixed.places ≤ 6
  pub point : fixed.point ≢ quote

-- cells are read as such amounts
abbrev pub AreAmounts : Reading → Type 0
AreAmounts (Integers format type) = ⊥
AreAmounts (FixedPoints fixed type) = IsQuick fixed
AreAmounts Texts = ⊥

-- a column has such amounts
abbrev pub HasAmounts : Option TargetView → Type 0
HasAmounts None = ⊥
HasAmounts (Some target) = AreAmounts target.reading

-- cells that are read as fixed-point numbers are such amounts
abbrev pub AreAmountsIfFixed : Reading → Type 0
AreAmountsIfFixed (Integers format type) = ⊤
AreAmountsIfFixed (FixedPoints fixed type) = IsQuick fixed
AreAmountsIfFixed Texts = ⊤

-- a column of fixed-point numbers has such amounts
abbrev pub HasAmountsIfFixed : Option TargetView → Type 0
HasAmountsIfFixed None = ⊤
HasAmountsIfFixed (Some target) = AreAmountsIfFixed target.reading

-- A text with a digit at its end, and no quote in it.
pub record IsAmountText (text : List ℕ) : Type 0 where
  pub ends : ends_in_digit text ≡ true
  pub unquoted : (k : ℕ) → k < length text → slice_index text k ≢ quote

-- behind an optional minus, the digits don't begin with a zero that the description forbids
abbrev pub KeepsZeroRule : Fixed → Bool → List ℕ → Type 0
KeepsZeroRule fixed is_negative text = (type : IntegerType) (digits : List ℕ)
    → IsBehind is_negative type text digits → leads_with_zero fixed digits ≡ false

-- A text stands for `units` units of the last place, with a minus where `is_negative`, in each type
-- that has them. So it does under each description with this point and `places` places, all of them
-- or fewer as `takes_fewer` says, whose integer part is plain and whose rule on zeros it keeps.
pub record IsAmount (point places : ℕ) (takes_fewer is_negative : Bool) (units : ℕ)
    (text : List ℕ) : Type 0 where
  pub stands : (fixed : Fixed) (type : IntegerType) → fixed_fault fixed ≡ None
      → IsPlain fixed.integer → KeepsZeroRule fixed is_negative text
      → fixed.point ≡ point → fixed.places ≡ places
      → fixed.takes_fewer ≡ takes_fewer → IsNumber type (with_sign is_negative units)
      → (IsTrue is_negative → type.is_signed ≡ true)
      → complete_fixed fixed type text ≡ Ok (with_sign is_negative units)
  pub bytes : point ≢ quote → IsAmountText text

-- `count` bytes stand behind the point of a text: as many as there are places, or fewer where
-- `takes_fewer`. Where `count` is 0, no point is known.
pub record IsBehindPoint (point places : ℕ) (takes_fewer : Bool) (text : List ℕ)
    (count : ℕ) : Type 0 where
  pub most : count ≤ places
  pub takes : count < places → takes_fewer ≡ true
  pub room : 1 ≤ count → count + 2 ≤ length text
  pub stands : 1 ≤ count → slice_index text (length text - 1 - count) ≡ point

-- In a column of such amounts no blanks stand in cells, and what stands for a missing number doesn't end in a digit.
pub record IsAmountsIn (dialect : Dialect) (target : Option TargetView) : Type 0 where
  pub column : HasAmounts target
  pub no_blanks : dialect.allows_blanks ≡ false
  pub no_number : has_bits target ≡ true → ends_in_digit dialect.missing.now ≡ false
