-- What is found out about a whole text of digits, before it has a number.
use Rattle.std.specs.Prelude.{◌≡◌, ◌+◌, ◌-◌, ◌≤◌, ℕ, ℤ, ◌==◌, Bool, false, true, if◌then◌else◌, List, drop, length, slice_get, take, Some, ◌⊎◌, ⊤}
use Rattle.lexical_digits.specs.WrittenNumbers.{StandsFor}
use Rattle.lexical_util.specs.Number.{IntegerType}
use Rattle.lexical_util.specs.declared.error.Error.{Error}
use Rattle.lexical_util.specs.declared.error.Error.TheVariants.{Empty, InvalidDigit}
use Rattle.lexical_parse_integer.specs.Runs.{are_same}
use Rattle.lexical_fixed.specs.Append.{IsAppended}
use Rattle.lexical_fixed.specs.Fixed.{Fixed}

-- `count` bytes stand behind the point and at least one before it, or `count` is 0. It is the number
-- of places, or less where the description takes fewer.
pub record IsParted (fixed : Fixed) (bytes : List ℕ) (count : ℕ) : Type 0 where
  pub some : 1 ≤ length bytes
  pub room : count ≤ fixed.places
  pub taken : (fixed.places ≤ count) ⊎ (fixed.takes_fewer ≡ true)
  pub before : 1 ≤ count → count + 2 ≤ length bytes
  pub point : 1 ≤ count
      → are_same (Some fixed.point) (slice_get bytes (length bytes - 1 - count)) ≡ true

-- where the bytes before the point end, if `count` bytes stand behind it: 0 is a text without a
-- point
abbrev pub point_place : List ℕ → ℕ → ℕ
point_place bytes count = if count == 0 then length bytes else length bytes - 1 - count

-- A value is that of the digits before the point and of the `count` digits behind it.
pub record IsSummed (type : IntegerType) (is_negative : Bool) (bytes : List ℕ) (count : ℕ)
    (value : ℤ) : Type 0 where
  pub whole : ℤ
  pub stands : StandsFor type 10 is_negative (take (point_place bytes count) bytes) whole
  pub appended : IsAppended type is_negative whole (drop (length bytes - count) bytes) value

-- A fault of what stands before the last point is that of the text: no digit is missing, and where a byte can't stand, that
-- isn't the point.
abbrev pub IsToldBefore : Fixed → List ℕ → Error → Type 0
IsToldBefore fixed text (InvalidDigit place) =
    are_same (Some fixed.point) (slice_get text place) ≡ false
IsToldBefore fixed text (Empty place) = ⊥
IsToldBefore fixed text error = ⊤
