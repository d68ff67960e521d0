-- A whole text of digits, around a point or alone, is the number in units: for the way of any length.
use Rattle.std.proofs.Common.{◌≡◌, ℕ, zero, suc, ◌+◌, ◌-◌, ◌≤◌, ◌<◌, Bool, true, false, List, [], ◌∷◌, get_or, length, take, drop, Some, IsNone, is_some, Ok, refl, sym, ap, subst, ◌∙◌, arith, ◌⊎◌}
use Rattle.std.proofs.Math.IntN.{ℤ}
use Rattle.std.proofs.Math.Nat.{min-eq_right}
use Rattle.std.proofs.lemmas.Bool.{le-ltb, lt-ltb}
use Rattle.std.proofs.lemmas.Bool.Decides.{nat_tests}
use Rattle.std.proofs.lemmas.List.{length-drop, take_all}
use Rattle.std.specs.Prelude.{◌==◌, min, nat_lt, slice_get}
use mir.Val.{bool_byte}
use Rattle.lexical_util.specs.Digit.{digit}
use Rattle.lexical_util.specs.Number.{HasSign, IntegerType}
use Rattle.lexical_digits.specs.Words.{AreDigits}
use Rattle.lexical_digits.specs.WrittenNumbers.{StandsFor}
use Rattle.lexical_digits.proofs.LongNumbers.{sign_of_value}
use Rattle.lexical_parse_integer.specs.Grammar.{partial}
use Rattle.lexical_parse_integer.specs.Laws.{TellsDigits}
use Rattle.lexical_parse_integer.specs.Plain.{BeginsWith, IsBehind, IsPlain}
use Rattle.lexical_parse_integer.specs.Runs.{are_same}
use Rattle.lexical_parse_integer.proofs.ForCallers.{begins_read}
use Rattle.lexical_fixed.specs.Append.{IsAppended}
use Rattle.lexical_fixed.specs.Fixed.{Fixed}
use Rattle.lexical_fixed.specs.Fraction.{digits_from, fraction, fraction_length, has_bare_point, has_point_at, lacks_places, read_digits, read_zeros, whole_end}
use Rattle.lexical_fixed.specs.Grammar.{complete_fixed, integer_part, is_negative, whole_behind, zeros_left}
use Rattle.lexical_fixed.specs.Parted.{IsParted, IsSummed}
use Rattle.lexical_fixed.specs.Quick.{leads_with_zero}
use Rattle.lexical_fixed.specs.Validity.{fixed_fault}
use Rattle.lexical_fixed.proofs.Appended.{appended_read, appended_sign}
use Rattle.lexical_fixed.proofs.LastFractions.{standing_joined}
use Rattle.lexical_fixed.proofs.QuickDigits.{prefix_is}
use Rattle.lexical_fixed.proofs.QuickFronts.{lacks_none}
use Rattle.lexical_fixed.proofs.QuickParts.{decimal_of, part_by_front}
use Rattle.lexical_fixed.proofs.ShortNumbers.{behind_drop, behind_get, behind_length, byte_there, ends_with_digit, point_no_digit, rule_before}
use Rattle.lexical_fixed.proofs.Units.{by_zeros}
use Rattle.lexical_fixed.proofs.Valid.{is_none}
use Rattle.lexical_fixed.proofs.WholeByFront.{no_point_at_end}

-- What stands behind an integer part up to the text's end: a point and a fraction of `count`
-- digits, or nothing.
pub record EndsWith (f : Fixed) (text rest : List ℕ) (place count : ℕ) : Type 0 where
  pub counted : fraction_length f text place ≡ count
  pub digits : fraction f text place ≡ rest
  pub ends : whole_end f text place ≡ length text
  pub bare : has_bare_point f text place ≡ false

-- nothing
pub ends_alone : (f : Fixed) (text rest : List ℕ) (place : ℕ) → place ≡ length text → rest ≡ drop place text → EndsWith f text rest place 0
unfolding fraction_length whole_end has_bare_point
ends_alone f text rest place end is =
    let none : has_point_at f text place ≡ false = no_point_at_end f text place end in
    let empty : drop place text ≡ take 0 (drop (place + 1) text) = ap (λ n. drop n text) end ∙ drop_all text in
    record { counted = rw none refl; digits = rw none (sym (is ∙ empty)); ends = rw none end; bare = rw none refl }
  where
    drop_all : (xs : List ℕ) → drop (length xs) xs ≡ []
    drop_all [] = refl
    drop_all (x ∷ xs) = drop_all xs

-- digits behind the point
pub ends_behind : (f : Fixed) (text rest : List ℕ) (place count : ℕ) → are_same (Some f.point) (slice_get text place) ≡ true → rest ≡ drop (place + 1) text → AreDigits 10 rest → length rest ≡ count
    → 1 ≤ count → count ≤ f.places → length text ≡ place + 1 + count → EndsWith f text rest place count
unfolding has_point_at fraction_length whole_end has_bare_point digits_from
ends_behind f text rest place count some is digits size more room long =
    let all : take count rest ≡ rest = take_all count rest (omega (arith, size)) in
    let found : digits_from text (place + 1) ≡ count = prefix_is (drop (place + 1) text) count (subst (λ (bs : List ℕ). count ≤ length bs) is (omega (arith, size)))
    (subst (λ (bs : List ℕ). AreDigits 10 (take count bs)) is (subst (λ (bs : List ℕ). AreDigits 10 bs) (sym all) digits)) (λ less. absurd (let n = ap length is in omega (arith, size, n, less))) in
    let places : nat_lt 0 f.places ≡ true = lt-ltb 0 f.places (omega arith) in
    let point : has_point_at f text place ≡ true = rw (places, some) refl in
    let taken : min f.places (digits_from text (place + 1)) ≡ count = ap (min f.places) found ∙ min-eq_right room in
    let counted : fraction_length f text place ≡ count = rw point taken in
    let none : (count == 0) ≡ false = some_count count more in
    record {
      counted = counted;
      digits = ap (λ n. take n (drop (place + 1) text)) counted ∙ ap (take count) (sym is) ∙ all;
      ends = rw point (ap (λ n. place + 1 + n) taken ∙ sym long);
      bare = rw point (ap (λ n. n == 0) taken ∙ none);
    }
  where
    some_count : (n : ℕ) → 1 ≤ n → (n == 0) ≡ false
    some_count zero l = absurd (omega arith)
    some_count (suc n) l = grind (arith, nat_tests)

-- behind a known integer part
pub whole_there : (f : Fixed) (t : IntegerType) (text rest : List ℕ) (whole written units : ℤ) (place count : ℕ) → EndsWith f text rest place count → (f.places ≤ count) ⊎ (f.takes_fewer ≡ true) → HasSign (is_negative t text) whole
    → IsAppended t (is_negative t text) whole rest written → Ok units ≡ read_zeros t (is_negative t text) written (f.places - count) (length text) → whole_behind f t text whole place ≡ Ok units
unfolding whole_behind
whole_there f t text rest whole written units place count e taken sign r zeros =
    let lacks : lacks_places f text place ≡ false = lacks_none f text place count e.counted taken in
    let inside : nat_lt (length text) (length text) ≡ false = le-ltb (length text) (length text) (omega arith) in
    let read : Ok written ≡ read_digits t (is_negative t text) whole (fraction f text place) (place + 1) =
    appended_read t (is_negative t text) whole rest (place + 1) written sign r ∙ ap (λ (ds : List ℕ). read_digits t (is_negative t text) whole ds (place + 1)) (sym e.digits) in
    let left : f.places - count ≡ zeros_left f text place = ap (λ n. f.places - n) (sym e.counted) in
    rw (e.ends, inside, e.bare, lacks) (sym (by_zeros f t text whole place (length text) written (f.places - count) (Ok units) read left zeros))

-- the integer part, where digits end before a place
part_there : (f : Fixed) (t : IntegerType) (b : Bool) (text digits : List ℕ) (whole : ℤ) (place : ℕ) → IsNone (fixed_fault f) → IsPlain f.integer → leads_with_zero f digits ≡ false
    → (IsNone f.integer.digit_separator → IsNone f.integer.base_suffix → TellsDigits f.integer t text)
    → IsBehind b t text digits → 1 ≤ place → place ≤ length digits → (place < length digits → IsNone (digit 10 (get_or digits place 0))) → StandsFor t 10 b (take place digits) whole
    → integer_part f.integer t text ≡ Ok (whole, bool_byte b + place)
part_there f t b text digits whole place valid plain lead law behind some within stops stands =
    let all = (standing_joined t b (take place digits) whole stands).digits in
    let begins : BeginsWith f.integer t b digits whole place = record {
      some = some;
      within = within;
      stops = stops;
      rule = rule_before f digits place valid lead all;
      stands = stands;
    } in
    let front : partial f.integer t text ≡ Ok (whole, bool_byte b + place) = begins_read f.integer t b text digits whole place (bool_byte b) plain (decimal_of f valid).radix behind refl begins in
    part_by_front f t text whole (bool_byte b + place) valid (law (is_none f.integer.digit_separator plain.no_separator)) front (ends_with_digit b t text digits place behind some within all)

-- the whole text
pub parted_read : (f : Fixed) (t : IntegerType) (b : Bool) (text digits : List ℕ) (count : ℕ) (written units : ℤ) → IsNone (fixed_fault f) → IsPlain f.integer → leads_with_zero f digits ≡ false
    → (IsNone f.integer.digit_separator → IsNone f.integer.base_suffix → TellsDigits f.integer t text)
    → IsBehind b t text digits → b ≡ is_negative t text → IsParted f digits count → IsSummed t b digits count written → Ok units ≡ read_zeros t b written (f.places - count) (length text) → complete_fixed f t text ≡ Ok units
unfolding complete_fixed
parted_read f t b text digits zero written units valid plain lead law behind minus at is zeros =
    let size : ℕ = length digits in
    let end : bool_byte b + size ≡ length text = sym (behind_length b t text digits behind) in
    let part = part_there f t b text digits is.whole size valid plain lead law behind at.some (omega arith) (λ less. absurd (omega arith)) is.stands in
    let none : size - 0 ≡ size = omega arith in
    let rest : drop (length digits - 0) digits ≡ drop (bool_byte b + size) text = ap (λ k. drop k digits) none ∙ sym (behind_drop b t text digits size behind) in
    let sign : HasSign b is.whole = sign_of_value t 10 b _ is.whole is.stands in
    let there = whole_there f t text (drop (length digits - 0) digits) is.whole written units (bool_byte b + size) 0 (ends_alone f text _ (bool_byte b + size) end rest) at.taken
    (subst (λ (m : Bool). HasSign m is.whole) minus sign) (subst (λ (m : Bool). IsAppended t m is.whole (drop (length digits - 0) digits) written) minus is.appended)
    (zeros ∙ ap (λ (m : Bool). read_zeros t m written (f.places - 0) (length text)) minus) in
    rw part there
parted_read f t b text digits (suc n) written units valid plain lead law behind minus at is zeros =
    let count : ℕ = suc n in
    let size : ℕ = length digits in
    let place : ℕ = size - 1 - count in
    let start : ℕ = bool_byte b in
    let before = at.before (omega arith) in
    let point = at.point (omega arith) in
    let stops : IsNone (digit 10 (get_or digits place 0)) = ap (λ byte. is_some (digit 10 byte)) (byte_there f.point digits place point) ∙ point_no_digit f valid in
    let none : (suc n == 0) ≡ false = grind (arith, nat_tests) in
    let stands : StandsFor t 10 b (take place digits) is.whole = rw none at is.stands in
    let part = part_there f t b text digits is.whole place valid plain lead law behind (omega arith) (omega arith) (λ less. stops) stands in
    let there : are_same (Some f.point) (slice_get text (start + place)) ≡ true = ap (are_same (Some f.point)) (behind_get b t text digits place behind) ∙ point in
    let next : start + place + 1 ≡ start + (size - count) = omega arith in
    let rest : drop (size - count) digits ≡ drop (start + place + 1) text = sym (ap (λ k. drop k text) next ∙ behind_drop b t text digits (size - count) behind) in
    let long : length (drop (size - count) digits) ≡ count = length-drop (size - count) digits ∙ omega arith in
    let whole_size : length text ≡ start + place + 1 + count = behind_length b t text digits behind ∙ omega arith in
    let sign : HasSign b is.whole = sign_of_value t 10 b _ is.whole is.stands in
    let ends = ends_behind f text (drop (size - count) digits) (start + place) count there rest is.appended.digits long (omega arith) at.room whole_size in
    let found = whole_there f t text (drop (size - count) digits) is.whole written units (start + place) count ends at.taken
    (subst (λ (m : Bool). HasSign m is.whole) minus sign) (subst (λ (m : Bool). IsAppended t m is.whole (drop (size - count) digits) written) minus is.appended)
    (zeros ∙ ap (λ (m : Bool). read_zeros t m written (f.places - count) (length text)) minus) in
    rw part found

-- what is summed has the sign
pub summed_sign : (t : IntegerType) (b : Bool) (digits : List ℕ) (count : ℕ) (value : ℤ) → IsSummed t b digits count value → HasSign b value
summed_sign t b digits count value is = appended_sign t b is.whole _ value (sign_of_value t 10 b _ is.whole is.stands) is.appended
