-- What the whole text stands for is the front's number, up to the text's end.
use Rattle.std.proofs.Common.{◌≡◌, ℕ, ◌+◌, ◌-◌, ◌≤◌, ◌<◌, Bool, true, false, cond, ◌&&◌, ◌||◌, List, length, drop, Some, None, Result, Ok, Err, refl, sym, ap, ◌∙◌, arith}
use Rattle.std.proofs.Math.IntN.{ℤ}
use Rattle.std.proofs.Math.Nat.{min-le_left, min-le_right}
use Rattle.std.proofs.lemmas.Bool.{false≢true, le-ltb, ltb-true}
use Rattle.std.proofs.lemmas.Bool.Decides.{nat_tests}
use Rattle.std.proofs.lemmas.List.{length-drop}
use Rattle.std.proofs.lemmas.Option.{slice_get_past}
use Rattle.std.specs.Prelude.{◌==◌, min, nat_lt, slice_get}
use Rattle.lexical_util.specs.declared.error.Error.{Error}
use Rattle.lexical_util.specs.Number.{IntegerType}
use Rattle.lexical_parse_integer.specs.Fronts.{number_in_front}
use Rattle.lexical_parse_integer.specs.Grammar.{digits_required, partial}
use Rattle.lexical_parse_integer.specs.Runs.{are_same}
use Rattle.lexical_parse_integer.proofs.ForCallers.{partial_within}
use Rattle.lexical_fixed.specs.Fixed.{Fixed}
use Rattle.lexical_fixed.specs.Fraction.{digits_from, fraction_length, front_end, has_bare_point, has_point_at, is_cut, lacks_places, whole_end}
use Rattle.lexical_fixed.specs.Grammar.{complete_by, complete_fixed, front_behind, integer_part, partial_by, partial_fixed, units_behind, units_fault, whole_behind}
use Rattle.lexical_fixed.proofs.Fractions.{prefix_within}
use Rattle.lexical_fixed.proofs.IntegerParts.{digit_told}
use Rattle.lexical_fixed.proofs.QuickParts.{first_false, second_false}
use Rattle.lexical_fixed.proofs.WholeByFront.{pair_told, read_told}

-- ---- the integer part ends within the text

pub part_within : (f : Fixed) (t : IntegerType) (text : List ℕ) (whole : ℤ) (place : ℕ) → integer_part f.integer t text ≡ Ok (whole, place) → place ≤ length text
unfolding integer_part
part_within f t text whole place = by_test (digits_required f.integer)
  where
    by_test : (b : Bool) → cond b (number_in_front f.integer t text) (partial f.integer t text) ≡ Ok (whole, place) → place ≤ length text
    by_test true told = partial_within f.integer t text whole place (digit_told _ _ _ told)
    by_test false told = partial_within f.integer t text whole place told

-- ---- where the whole ends

-- no byte stands at the text's end and behind it
none_there : (f : Fixed) (text : List ℕ) (place : ℕ) → length text ≤ place → are_same (Some f.point) (slice_get text place) ≡ false
unfolding are_same
none_there f text place past = let none : slice_get text place ≡ None = slice_get_past text place past in rw none refl

-- so a point stands within the text
point_within : (f : Fixed) (text : List ℕ) (place : ℕ) → are_same (Some f.point) (slice_get text place) ≡ true → place < length text
point_within f text place some = by_test (nat_lt place (length text)) refl
  where
    by_test : (b : Bool) → nat_lt place (length text) ≡ b → place < length text
    by_test true e = ltb-true place (length text) e
    by_test false e = absurd (false≢true (sym (none_there f text place (grind (arith, nat_tests))) ∙ some))

digits_within : (text : List ℕ) (place : ℕ) → digits_from text place ≤ length text - place
unfolding digits_from
digits_within text place =
    let few = prefix_within (drop place text) in
    let size = length-drop place text in
    omega arith

-- where the whole ends with the text, so does the front, and it isn't cut
ends_front : (f : Fixed) (text : List ℕ) (place : ℕ) → place ≤ length text → nat_lt (whole_end f text place) (length text) ≡ false → has_bare_point f text place ≡ false
    → (whole_end f text place ≡ length text) × ((front_end f text place ≡ length text) × (is_cut f text place ≡ false))
unfolding whole_end front_end is_cut has_bare_point fraction_length has_point_at
ends_front f text place within = by_tests f.takes_fewer (nat_lt 0 f.places) (are_same (Some f.point) (slice_get text place)) refl refl
  where
    size : ℕ
    size = min f.places (digits_from text (place + 1))

    no_stop : (x : Bool) → cond (x && false) place (place + 1 + size) ≡ place + 1 + size
    no_stop true = refl
    no_stop false = refl

    one_place : (x : Bool) → cond (x && true) place place ≡ place
    one_place true = refl
    one_place false = refl

    at_end : nat_lt place (length text) ≡ false → place ≡ length text
    at_end ends = let past : length text ≤ place = grind (arith, nat_tests, ends) in omega arith

    by_tests : (x p s : Bool) → nat_lt 0 f.places ≡ p → are_same (Some f.point) (slice_get text place) ≡ s
        → nat_lt (cond (p && s) ((place + 1) + cond (p && s) size 0) place) (length text) ≡ false → ((p && s) && (cond (p && s) size 0 == 0)) ≡ false
        → (cond (p && s) ((place + 1) + cond (p && s) size 0) place ≡ length text)
        × ((cond (x && (cond (p && s) size 0 == 0)) place (cond (p && s) ((place + 1) + cond (p && s) size 0) place) ≡ length text)
        × ((s && nat_lt f.places (digits_from text (place + 1))) ≡ false))
    by_tests x true true ep es ends bare =
        let low = point_within f text place es in
        let few = digits_within text (place + 1) in
        let most : size ≤ digits_from text (place + 1) = min-le_right f.places (digits_from text (place + 1)) in
        let room : size ≤ f.places = min-le_left f.places (digits_from text (place + 1)) in
        let past : length text ≤ place + 1 + size = grind (arith, nat_tests, ends) in
        let whole : place + 1 + size ≡ length text = omega arith in
        (whole, (rw bare (no_stop x) ∙ whole, le-ltb f.places (digits_from text (place + 1)) (omega arith)))
    by_tests x false true ep es ends bare = absurd (let low = point_within f text place es in grind (arith, nat_tests, ends))
    by_tests x true false ep es ends bare = let whole : place ≡ length text = at_end ends in (whole, (one_place x ∙ whole, refl))
    by_tests x false false ep es ends bare = let whole : place ≡ length text = at_end ends in (whole, (one_place x ∙ whole, refl))

-- ---- the answers

pub front_of_whole : (f : Fixed) (t : IntegerType) (text : List ℕ) (whole v : ℤ) (place : ℕ) → place ≤ length text → whole_behind f t text whole place ≡ Ok v → front_behind f t text whole place ≡ Ok (v, length text)
unfolding whole_behind front_behind units_behind
front_of_whole f t text whole v place within told =
    let read = read_told f t text whole v place (whole_end f text place) (nat_lt (whole_end f text place) (length text)) (has_bare_point f text place || lacks_places f text place) told in
    let bare : has_bare_point f text place ≡ false = first_false _ _ read.there in
    let lacks : lacks_places f text place ≡ false = second_false (has_bare_point f text place) _ read.there in
    let ends = ends_front f text place within read.stands bare in
    let zeros : units_fault f t text whole place (length text) ≡ None = ap (units_fault f t text whole place) (sym ends.0) ∙ read.zeros in
    rw (ends.1.0, read.digits, ends.1.1, lacks, zeros) (ap (λ (z : ℤ). Ok (z, length text)) read.value)

pub partial_by_whole : (f : Fixed) (t : IntegerType) (text : List ℕ) (v : ℤ) → complete_fixed f t text ≡ Ok v → partial_fixed f t text ≡ Ok (v, length text)
unfolding partial_fixed complete_fixed
partial_by_whole f t text v told = by_part (integer_part f.integer t text) refl told
  where
    by_part : (part : Result (ℤ × ℕ) Error) → integer_part f.integer t text ≡ part → complete_by f t text part ≡ Ok v → partial_by f t text part ≡ Ok (v, length text)
    by_part (Ok (whole, place)) e told = front_of_whole f t text whole v place (part_within f t text whole place e) told
    by_part (Err error) e told = absurd (cc)

-- ---- the front ends within the text

whole_within : (f : Fixed) (text : List ℕ) (place : ℕ) → place ≤ length text → whole_end f text place ≤ length text
unfolding whole_end fraction_length has_point_at
whole_within f text place within = by_tests (nat_lt 0 f.places) (are_same (Some f.point) (slice_get text place)) refl
  where
    size : ℕ
    size = min f.places (digits_from text (place + 1))

    by_tests : (p s : Bool) → are_same (Some f.point) (slice_get text place) ≡ s → cond (p && s) ((place + 1) + cond (p && s) size 0) place ≤ length text
    by_tests true true es =
        let low = point_within f text place es in
        let few = digits_within text (place + 1) in
        let most : size ≤ digits_from text (place + 1) = min-le_right f.places (digits_from text (place + 1)) in
        omega arith
    by_tests false true es = within
    by_tests true false es = within
    by_tests false false es = within

front_within : (f : Fixed) (text : List ℕ) (place : ℕ) → place ≤ length text → front_end f text place ≤ length text
unfolding front_end
front_within f text place within = by_test (f.takes_fewer && (fraction_length f text place == 0))
  where
    by_test : (b : Bool) → cond b place (whole_end f text place) ≤ length text
    by_test true = within
    by_test false = whole_within f text place within

pub partial_ends : (f : Fixed) (t : IntegerType) (text : List ℕ) (v : ℤ) (k : ℕ) → partial_fixed f t text ≡ Ok (v, k) → k ≤ length text
unfolding partial_fixed front_behind
partial_ends f t text v k told = by_part (integer_part f.integer t text) refl told
  where
    by_part : (part : Result (ℤ × ℕ) Error) → integer_part f.integer t text ≡ part → partial_by f t text part ≡ Ok (v, k) → k ≤ length text
    by_part (Ok (whole, place)) e told =
        let front = pair_told _ (front_end f text place) k v told in
        let within = front_within f text place (part_within f t text whole place e) in
        omega (arith, within, front.1)
    by_part (Err error) e told = absurd (cc)
