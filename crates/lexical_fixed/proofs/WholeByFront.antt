-- Where the front is all of a text, it is what the whole text stands for.
use Rattle.std.proofs.Common.{◌≡◌, ℕ, ◌+◌, Bool, true, false, cond, not, ◌&&◌, List, [], ◌∷◌, length, Option, Some, None, Result, Ok, Err, refl, sym, ap, ◌∙◌, arith}
use Rattle.std.proofs.Math.IntN.{ℤ}
use Rattle.std.proofs.lemmas.Bool.{eqb-true, false≢true, le-ltb}
use Rattle.std.proofs.lemmas.Option.{slice_get_past}
use Rattle.std.specs.Prelude.{◌==◌, nat_lt, slice_get}
use Rattle.lexical_util.specs.declared.error.Error.{Error}
use Rattle.lexical_util.specs.declared.error.Error.TheVariants.{Empty, InvalidDigit}
use Rattle.lexical_util.specs.Number.{IntegerType}
use Rattle.lexical_parse_integer.specs.Answer.{view_of}
use Rattle.lexical_parse_integer.specs.Grammar.{fault_if, first_fault_or}
use Rattle.lexical_parse_integer.specs.Runs.{are_same}
use Rattle.lexical_fixed.specs.Fixed.{Fixed}
use Rattle.lexical_fixed.specs.Fraction.{fraction_length, front_end, has_bare_point, has_point_at, is_cut, lacks_places, whole_end}
use Rattle.lexical_fixed.specs.Grammar.{complete_by, complete_fixed, partial_by, fraction_fault, front_behind, in_units, integer_part, partial_fixed, units_behind, units_fault, whole_behind}

-- an answer without a fault
pub record IsRead (f : Fixed) (t : IntegerType) (text : List ℕ) (whole v : ℤ) (place stop : ℕ) (cannot missing : Bool) : Type 0 where
  pub digits : fraction_fault f t text whole place ≡ None
  pub stands : cannot ≡ false
  pub there : missing ≡ false
  pub zeros : units_fault f t text whole place stop ≡ None
  pub value : in_units f t text whole place ≡ v

pub read_told : (f : Fixed) (t : IntegerType) (text : List ℕ) (whole v : ℤ) (place stop : ℕ) (cannot missing : Bool) → units_behind f t text whole place stop cannot missing ≡ Ok v → IsRead f t text whole v place stop cannot missing
unfolding units_behind
read_told f t text whole v place stop cannot missing = by_cases (fraction_fault f t text whole place) cannot missing (units_fault f t text whole place stop) refl refl refl refl
  where
    by_cases : (a : Option Error) (c m : Bool) (z : Option Error) → fraction_fault f t text whole place ≡ a → cannot ≡ c → missing ≡ m → units_fault f t text whole place stop ≡ z
        → first_fault_or (a ∷ fault_if c (InvalidDigit stop) ∷ fault_if m (Empty stop) ∷ z ∷ []) (in_units f t text whole place) ≡ Ok v → IsRead f t text whole v place stop cannot missing
    by_cases None false false None a c m z told = record { digits = a; stands = c; there = m; zeros = z; value = grind arith }
    by_cases None false false (Some e) a c m z told = absurd (cc)
    by_cases None false true z a c m y told = absurd (cc)
    by_cases None true m z a c n y told = absurd (cc)
    by_cases (Some e) c m z a d n y told = absurd (cc)

-- an answer with a place is that of its number
pub pair_told : (r : Result ℤ Error) (stop size : ℕ) (v : ℤ) → view_of {X = ℤ} {Y = ℤ × ℕ} (λ number. (number, stop)) r ≡ Ok (v, size) → (r ≡ Ok v) × (stop ≡ size)
pair_told (Ok x) stop size v told =
    let same : (x, stop) ≡ (v, size) = grind arith in
    (ap (λ (w : ℤ × ℕ). Ok w.0) same, ap (λ (w : ℤ × ℕ). w.1) same)
pair_told (Err e) stop size v told = absurd (cc)

and_no : (a : Bool) → (a && false) ≡ false
and_no true = refl
and_no false = refl

-- no point stands at the text's end
pub no_point_at_end : (f : Fixed) (text : List ℕ) (place : ℕ) → place ≡ length text → has_point_at f text place ≡ false
unfolding has_point_at are_same
no_point_at_end f text place e =
    let none : slice_get text place ≡ None = slice_get_past text place (omega arith) in
    rw none (and_no (nat_lt 0 f.places))

-- a point stands only where there are places
some_place : (f : Fixed) (text : List ℕ) (place : ℕ) → has_point_at f text place ≡ true → nat_lt 0 f.places ≡ true
unfolding has_point_at
some_place f text place = and_first (nat_lt 0 f.places) _
  where
    and_first : (a b : Bool) → (a && b) ≡ true → a ≡ true
    and_first true b e = refl
    and_first false b e = cc

at_place : (x e : Bool) (place size : ℕ) → cond (x && e) place place ≡ size → place ≡ size
at_place true true place size at = at
at_place true false place size at = at
at_place false e place size at = at

-- where the front is all of the text, it is the whole, and no point lacks a digit
record EndsWhole (f : Fixed) (text : List ℕ) (place : ℕ) : Type 0 where
  ends : whole_end f text place ≡ length text
  bare : has_bare_point f text place ≡ false

ends_whole : (f : Fixed) (text : List ℕ) (place : ℕ) → front_end f text place ≡ length text → lacks_places f text place ≡ false → EndsWhole f text place
unfolding front_end whole_end has_bare_point lacks_places
ends_whole f text place ends lacks = by_tests f.takes_fewer (fraction_length f text place == 0) (has_point_at f text place) refl refl refl ends lacks
  where
    no_digit : (fraction_length f text place == 0) ≡ true → nat_lt (fraction_length f text place) f.places ≡ nat_lt 0 f.places
    no_digit e = ap (λ n. nat_lt n f.places) (eqb-true (fraction_length f text place) 0 e)

    by_tests : (x e p : Bool) → f.takes_fewer ≡ x → (fraction_length f text place == 0) ≡ e → has_point_at f text place ≡ p
        → cond (x && e) place (cond p ((place + 1) + fraction_length f text place) place) ≡ length text
        → (not x && nat_lt (fraction_length f text place) f.places) ≡ false → EndsWhole f text place
    by_tests x e false tx te tp at lack = record { ends = rw tp (at_place x e place (length text) at); bare = rw tp refl }
    by_tests true true true tx te tp at lack = absurd (false≢true (sym (no_point_at_end f text place at) ∙ tp))
    by_tests true false true tx te tp at lack = record { ends = rw tp at; bare = rw (tp, te) refl }
    by_tests false false true tx te tp at lack = record { ends = rw tp at; bare = rw (tp, te) refl }
    by_tests false true true tx te tp at lack = absurd (false≢true (sym lack ∙ no_digit te ∙ some_place f text place tp))

pub whole_by_front : (f : Fixed) (t : IntegerType) (text : List ℕ) (whole v : ℤ) (place : ℕ) → front_behind f t text whole place ≡ Ok (v, length text) → whole_behind f t text whole place ≡ Ok v
unfolding front_behind whole_behind units_behind
whole_by_front f t text whole v place told =
    let front = pair_told _ (front_end f text place) (length text) v told in
    let read = read_told f t text whole v place (front_end f text place) (is_cut f text place) (lacks_places f text place) front.0 in
    let ends = ends_whole f text place front.1 read.there in
    let zeros : units_fault f t text whole place (length text) ≡ None = ap (units_fault f t text whole place) (sym front.1) ∙ read.zeros in
    let inside : nat_lt (length text) (length text) ≡ false = le-ltb (length text) (length text) (omega arith) in
    rw (ends.ends, read.digits, inside, ends.bare, read.there, zeros) (ap Ok read.value)

-- of all of a text
pub complete_by_front : (f : Fixed) (t : IntegerType) (text : List ℕ) (v : ℤ) → partial_fixed f t text ≡ Ok (v, length text) → complete_fixed f t text ≡ Ok v
unfolding partial_fixed complete_fixed
complete_by_front f t text v told = by_part (integer_part f.integer t text) told
  where
    by_part : (part : Result (ℤ × ℕ) Error) → partial_by f t text part ≡ Ok (v, length text) → complete_by f t text part ≡ Ok v
    by_part (Ok (whole, place)) told = whole_by_front f t text whole v place told
    by_part (Err error) told = absurd (cc)
