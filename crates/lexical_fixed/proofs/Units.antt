-- Where the faults behind an integer part come from, one after the other: for the steps of reading.
use Rattle.std.proofs.Common.{◌≡◌, ℕ, ◌+◌, Bool, true, false, List, [], ◌∷◌, Option, Some, None, Result, Ok, Err, refl, ap, ◌∙◌, arith}
use Rattle.std.proofs.Math.IntN.{ℤ}
use Rattle.lexical_util.specs.declared.error.Error.{Error}
use Rattle.lexical_util.specs.declared.error.Error.TheVariants.{Empty, InvalidDigit}
use Rattle.lexical_util.specs.Number.{IntegerType}
use Rattle.lexical_parse_integer.specs.Grammar.{first_fault_or}
use Rattle.lexical_fixed.specs.Fixed.{Fixed}
use Rattle.lexical_fixed.specs.Fraction.{fraction, read_digits, read_zeros}
use Rattle.lexical_fixed.specs.Grammar.{in_units, is_negative, units_behind, units_fault, written, fraction_fault, zeros_left}

first_told : (a : Option Error) (v : ℤ) (e : Error) (rest : List (Option Error)) (w : ℤ) → ◌≡◌ {A = Result ℤ Error} (Err e) (first_fault_or (a ∷ []) v) → ◌≡◌ {A = Result ℤ Error} (Err e) (first_fault_or (a ∷ rest) w)
first_told None v e rest w told = cc
first_told (Some x) v e rest w told = told

none_told : (a : Option Error) (u v : ℤ) → ◌≡◌ {A = Result ℤ Error} (Ok u) (first_fault_or (a ∷ []) v) → a ≡ None
none_told None u v told = refl
none_told (Some x) u v told = cc

value_told : (a : Option Error) (u v : ℤ) → ◌≡◌ {A = Result ℤ Error} (Ok u) (first_fault_or (a ∷ []) v) → u ≡ v
value_told None u v told = grind arith
value_told (Some x) u v told = cc

module _ (f : Fixed) (t : IntegerType) (text : List ℕ) (whole : ℤ) (place stop : ℕ) where
  abbrev pub digits_read : Result ℤ Error
  digits_read = read_digits t (is_negative t text) whole (fraction f text place) (place + 1)

  pub by_digit : (cannot missing : Bool) (e : Error) → Err e ≡ digits_read → Err e ≡ units_behind f t text whole place stop cannot missing
  unfolding units_behind
  by_digit cannot missing e told = first_told (fraction_fault f t text whole place) _ e _ _ told

  pub by_byte : (missing : Bool) (u : ℤ) → Ok u ≡ digits_read → Err (InvalidDigit stop) ≡ units_behind f t text whole place stop true missing
  unfolding units_behind
  by_byte missing u told =
      let none = none_told (fraction_fault f t text whole place) u _ told in
      rw none refl

  pub by_missing : (u : ℤ) → Ok u ≡ digits_read → Err (Empty stop) ≡ units_behind f t text whole place stop false true
  unfolding units_behind
  by_missing u told =
      let none = none_told (fraction_fault f t text whole place) u _ told in
      rw none refl

  pub by_zeros : (u : ℤ) (zeros : ℕ) (answer : Result ℤ Error) → Ok u ≡ digits_read → zeros ≡ zeros_left f text place
      → answer ≡ read_zeros t (is_negative t text) u zeros stop → answer ≡ units_behind f t text whole place stop false false
  unfolding units_behind
  by_zeros u zeros answer told same is =
      let none = none_told (fraction_fault f t text whole place) u _ told in
      let value : u ≡ written f t text whole place = value_told (fraction_fault f t text whole place) u _ told in
      let units : read_zeros t (is_negative t text) u zeros stop ≡ first_fault_or (units_fault f t text whole place stop ∷ []) (in_units f t text whole place) =
      ap (λ z. read_zeros t (is_negative t text) z zeros stop) value ∙ ap (λ n. read_zeros t (is_negative t text) (written f t text whole place) n stop) same in
      rw none (is ∙ units)
