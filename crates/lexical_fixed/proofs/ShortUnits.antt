-- Digits around a point or alone, with zeros for places that lack, as a number in units: for the short way.
use Rattle.std.proofs.Common.{◌≡◌, ℕ, ◌+◌, ◌-◌, ◌*◌, ◌^◌, ◌≤◌, ◌<◌, Bool, true, false, List, [], ◌∷◌, get_or, length, Option, Some, None, refl, sym, ap, subst, ◌∙◌, arith, inl, ◌⊎◌}
use Rattle.std.proofs.Math.IntN.{ℤ, pos}
use Rattle.std.proofs.lemmas.Bool.Decides.{nat_tests}
use Rattle.std.specs.Prelude.{◌==◌, if◌then◌else◌, neg_ℤ, IfSome}
use Rattle.lexical_util.specs.Number.{IntegerType, IsNumber, is_number, mul_add}
use Rattle.lexical_digits.specs.Value.{positional_value, with_sign}
use Rattle.lexical_digits.specs.WrittenNumbers.{StandsFor}
use Rattle.lexical_digits.proofs.AsciiDigits.{digits_from_ascii}
use Rattle.lexical_digits.proofs.DigitValues.{with_sign-step}
use Rattle.lexical_fixed.specs.Fixed.{Fixed}
use Rattle.lexical_fixed.specs.Parted.{IsParted}
use Rattle.lexical_fixed.specs.Quick.{HasPoint, IsInUnits, IsJoined, IsValueWithout, without, without_point}
use Rattle.lexical_fixed.proofs.JoinedDigits.{joined_small}
use Rattle.lexical_fixed.proofs.LastFractions.{standing_joined}

-- a point in its place parts the digits
pub parted_by : (f : Fixed) (digits : List ℕ) (count : ℕ) → count ≤ f.places → (f.places ≤ count) ⊎ (f.takes_fewer ≡ true) → HasPoint f digits count → IsParted f digits count
parted_by f digits count room taken at = record {
  some = let long = at.before in omega (arith, long);
  room = room;
  taken = taken;
  before = λ some. at.before;
  point = λ some. at.point;
}

-- the digits around it are those without it
pub point_there : (f : Fixed) (digits : List ℕ) (count number : ℕ) → HasPoint f digits count → IsJoined (without (length digits - 1 - count) digits) number → IsJoined (without_point count digits) number
point_there f digits count number at joined =
    let some : (count == 0) ≡ false = let one = at.behind in grind (arith, nat_tests, one) in
    rw some joined

-- the digits around a point with all places behind it
pub all_places : {V : Type 0} (number_of : V → ℤ) (f : Fixed) (t : IntegerType) (b : Bool) (digits : List ℕ) (place : ℕ) (found : Option V) → place ≡ length digits - 1 - f.places → HasPoint f digits f.places
    → IfSome found (λ v. IsValueWithout t b place digits (number_of v)) → IfSome found (λ v. IsInUnits f t b digits (number_of v))
all_places number_of f t b digits place None is at it = tt
all_places number_of f t b digits place (Some v) is at it =
    let none : it.number * 10 ^ (f.places - f.places) ≡ it.number = ap (λ n. it.number * 10 ^ n) (let zero_left : f.places - f.places ≡ 0 = omega arith in zero_left) ∙ omega arith in
    record {
      count = f.places;
      number = it.number;
      parted = parted_by f digits f.places (omega arith) (inl (omega arith)) at;
      joined = point_there f digits f.places it.number at (subst (λ k. IsJoined (without k digits) it.number) is it.joined);
      worth = it.worth ∙ ap (with_sign b) (sym none);
      fits = it.fits;
    }

-- the digits of a text with all places, or with zeros for those that lack
pub found_units : {V : Type 0} (number_of : V → ℤ) (f : Fixed) (t : IntegerType) (b : Bool) (digits : List ℕ) (count number units : ℕ) (found : Option V) → IsParted f digits count → IsJoined (without_point count digits) number
    → units ≡ number * 10 ^ (f.places - count) → IfSome found (λ v. number_of v ≡ with_sign b units) → IfSome found (λ v. IsNumber t (number_of v)) → IfSome found (λ v. IsInUnits f t b digits (number_of v))
found_units number_of f t b digits count number units None parted joined filled is fits = tt
found_units number_of f t b digits count number units (Some v) parted joined filled is fits =
    record { count = count; number = number; parted = parted; joined = joined; worth = is ∙ ap (with_sign b) filled; fits = fits }

-- a value with zeros for the places that lack
pub filled_units : {V : Type 0} (number_of : V → ℤ) (f : Fixed) (t : IntegerType) (b : Bool) (digits : List ℕ) (count number : ℕ) (written : ℤ) (found : Option V) → IsParted f digits count → IsJoined (without_point count digits) number → written ≡ with_sign b number
    → IfSome found (λ v. number_of v ≡ mul_add b written (pos (10 ^ (f.places - count))) (pos 0)) → IfSome found (λ v. is_number t (number_of v) ≡ true) → IfSome found (λ v. IsInUnits f t b digits (number_of v))
filled_units number_of f t b digits count number written None parted joined is filled fits = tt
filled_units number_of f t b digits count number written (Some v) parted joined is filled fits =
    let scale : ℕ = 10 ^ (f.places - count) in
    let none : number * scale + 0 ≡ number * scale = omega arith in
    record { count = count; number = number; parted = parted; joined = joined; fits = fits; worth = filled ∙ ap (λ z. mul_add b z (pos scale) (pos 0)) is ∙ with_sign-step b number scale 0 ∙ ap (with_sign b) none }

-- digits that stand for a value are worth their number
pub filled_whole : {V : Type 0} (number_of : V → ℤ) (f : Fixed) (t : IntegerType) (b : Bool) (digits : List ℕ) (written : ℤ) (found : Option V) → IsParted f digits 0 → StandsFor t 10 b digits written
    → IfSome found (λ v. number_of v ≡ mul_add b written (pos (10 ^ (f.places - 0))) (pos 0)) → IfSome found (λ v. is_number t (number_of v) ≡ true) → IfSome found (λ v. IsInUnits f t b digits (number_of v))
filled_whole number_of f t b digits written found parted stands filled fits =
    filled_units number_of f t b digits 0 (positional_value 10 stands.writes.values) written found parted (standing_joined t b digits written stands) (stands.worth ∙ ap (λ m. if b then neg_ℤ m else m) stands.writes.worth) filled fits

-- ---- three bytes

pub without_second : (bytes : List ℕ) → length bytes ≡ 3 → without 1 bytes ≡ get_or bytes 0 0 ∷ get_or bytes 2 0 ∷ []
without_second [] three = absurd (omega arith)
without_second (a ∷ []) three = absurd (omega arith)
without_second (a ∷ b ∷ []) three = absurd (omega arith)
without_second (a ∷ b ∷ c ∷ []) three = refl
without_second (a ∷ b ∷ c ∷ d ∷ rest) three = absurd (omega arith)

-- two digits and their number
pub two_digits : (a b : ℕ) → 48 ≤ a → a < 58 → 48 ≤ b → b < 58 → IsJoined (a ∷ b ∷ []) (10 * (a - 48) + (b - 48))
two_digits a b a_from a_to b_from b_to = record {
  digits = digits_from_ascii 10 (a ∷ b ∷ []) (omega arith) ((a_from, a_to), ((b_from, b_to), tt));
  worth = omega arith;
}

pub second_point : (digits : List ℕ) (count : ℕ) → length digits ≡ 3 → 1 ≤ count → count + 2 ≤ length digits → without_point count digits ≡ without 1 digits
second_point digits count three some before =
    let one : count ≡ 1 = omega (arith, three, some, before) in
    let place : length digits - 1 - 1 ≡ 1 = omega (arith, three) in
    ap (λ n. without_point n digits) one ∙ ap (λ k. without k digits) place

pub small_around : (digits : List ℕ) (number : ℕ) → length digits ≡ 3 → IsJoined (without 1 digits) number → number < 100000000
small_around digits number three joined =
    joined_small (without 1 digits) number (let two = ap length (without_second digits three) in omega (arith, two)) joined
