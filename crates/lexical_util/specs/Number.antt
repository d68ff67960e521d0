-- The integer types, their numbers, and one step of a numeral.
use Rattle.std.specs.Prelude.{◌≡◌, ◌-◌, ◌*◌, ◌/◌, ◌^◌, ◌≤ℤ◌, ◌+ℤ◌, ◌-ℤ◌, ◌*ℤ◌, ◌&&◌, ℕ, ℤ, Bool, pos, negsuc, neg_ℤ, true, Option, Some, None, IsTrue, if◌then◌else◌, nat_lt, nat_le}
use Rattle.std.specs.Bool.{MatchBool}

-- An integer type: its width, and whether it has numbers below 0.
pub record IntegerType : Type 0 where
  pub bits : ℕ
  pub is_signed : Bool

-- the type of this width and sign
abbrev pub integer_type : ℕ → Bool → IntegerType
integer_type bits is_signed = record { bits = bits; is_signed = is_signed }

-- the numbers from 0 up are those below this one; those below 0 are as many, where there are any
abbrev pub number_limit : IntegerType → ℕ
number_limit type = 2 ^ (if type.is_signed then type.bits - 1 else type.bits)

-- whether the type has this number (`negsuc n` is -1 - n)
abbrev pub is_number : IntegerType → ℤ → Bool
is_number type (pos n) = nat_lt n (number_limit type)
is_number type (negsuc n) = type.is_signed && nat_lt n (number_limit type)

-- the type has this number
abbrev pub IsNumber : IntegerType → ℤ → Type 0
IsNumber type number = is_number type number ≡ true

-- the number, where the type has it
abbrev pub number_if_fits : IntegerType → ℤ → Option ℤ
number_if_fits type number = if is_number type number then Some number else None

-- ---- one step of a numeral

-- the number times the scale, plus the summand, or minus it where the numeral is negative
abbrev pub mul_add : Bool → ℤ → ℤ → ℤ → ℤ
mul_add negative number scale add =
    if negative then (number *ℤ scale) -ℤ add else (number *ℤ scale) +ℤ add

-- at most 0 where the numeral is negative, and at least 0 elsewhere
abbrev pub HasSign : Bool → ℤ → Type 0
HasSign negative number = MatchBool negative (number ≤ℤ pos 0) (pos 0 ≤ℤ number)

-- ---- digits that never leave the type

-- the widths that types have
pub data IsWidth : ℕ → Type 0 where
  w8 : IsWidth 8
  w16 : IsWidth 16
  w32 : IsWidth 32
  w64 : IsWidth 64
  w128 : IsWidth 128

-- how many digits of the radix are joined with no test: two per byte for a radix up to 16, less one where the type is
-- signed, and one per byte for a greater radix
abbrev pub overflow_digits : IntegerType → ℕ → ℕ
overflow_digits type radix =
    if nat_le radix 16 then (2 * (type.bits / 8)) - (if type.is_signed then 1 else 0)
    else type.bits / 8

-- every number with at most this many digits of the radix is one of the type, and so is its negative if the type is
-- signed: the greatest of them are
pub record HasRoom (type : IntegerType) (radix count : ℕ) : Type 0 where
  pub greatest : IsNumber type (pos (radix ^ count - 1))
  pub least : IsTrue type.is_signed → IsNumber type (neg_ℤ (pos (radix ^ count - 1)))
