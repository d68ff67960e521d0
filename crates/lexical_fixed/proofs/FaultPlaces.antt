-- Each fault of a text stands within it or at its end.
use Rattle.std.proofs.Common.{◌≡◌, ℕ, zero, suc, ◌+◌, ◌-◌, ◌<◌, ◌≤◌, Bool, true, false, cond, ◌&&◌, List, [], ◌∷◌, length, length-drop, length-take, drop, Option, Some, None, Result, Ok, Err, refl, arith}
use Rattle.std.proofs.Math.IntN.{ℤ}
use Rattle.std.proofs.Math.Nat.{min-le_right}
use Rattle.std.proofs.lemmas.Bool.{false≢true}
use Rattle.std.proofs.lemmas.Option.{slice_get_within}
use Rattle.std.specs.Prelude.{◌==◌, nat_lt, find, min, slice_get, IfErr}
use Rattle.std.specs.List.{range_with_len}
use Rattle.std.specs.Option.{option_map}
use Rattle.lexical_util.specs.declared.error.Error.{Error}
use Rattle.lexical_util.specs.declared.error.Error.TheVariants.{Overflow, Underflow, InvalidDigit, Empty, MissingSign, InvalidPositiveSign, InvalidLeadingZeros, InvalidMantissaRadix, InvalidDigitSeparator, InvalidBasePrefix, InvalidBaseSuffix, InvalidPunctuation, InvalidLiteralPrefixes}
use Rattle.lexical_util.specs.Format.{Format}
use Rattle.lexical_util.specs.Number.{IntegerType}
use Rattle.lexical_parse_integer.specs.Answer.{view_of}
use Rattle.lexical_parse_integer.specs.Fronts.{has_digit, if_digit}
use Rattle.lexical_parse_integer.specs.Grammar.{digits_required, fault_if, first_fault_or, partial, range_error}
use Rattle.lexical_parse_integer.specs.Laws.{StandsWithin}
use Rattle.lexical_parse_integer.specs.Runs.{are_same}
use Rattle.lexical_parse_integer.proofs.ForCallers.{partial_within}
use Rattle.lexical_fixed.specs.Fixed.{Fixed}
use Rattle.lexical_fixed.specs.Fraction.{digit_outside, digits_fault, digits_from, fraction, fraction_length, front_end, has_point_at, is_cut, lacks_places, whole_end, zeros_fault}
use Rattle.lexical_fixed.specs.Grammar.{complete_by, complete_fixed, front_behind, in_units, integer_part, is_negative, partial_by, partial_fixed, units_behind, whole_behind, whole_fault}
use Rattle.lexical_fixed.proofs.Fractions.{prefix_within}

-- ---- places within a text

-- a point stands within the text
point_within : (f : Fixed) (text : List ℕ) (place : ℕ) → has_point_at f text place ≡ true → place < length text
unfolding has_point_at are_same
point_within f text place = by_byte (nat_lt 0 f.places) (slice_get text place) refl
  where
    by_byte : (some : Bool) (byte : Option ℕ) → slice_get text place ≡ byte → (some && are_same (Some f.point) byte) ≡ true → place < length text
    by_byte some (Some b) e told = slice_get_within text place b e
    by_byte true None e told = absurd (false≢true told)
    by_byte false None e told = absurd (false≢true told)

-- the digits from a place on are within the text
digits_within : (text : List ℕ) (place : ℕ) → digits_from text place ≤ length text - place
unfolding digits_from
digits_within text place =
    let most = prefix_within (drop place text) in
    let left : length (drop place text) ≡ length text - place = length-drop place text in
    omega (arith, most, left)

-- where the whole ends is within the text
whole_end_within : (f : Fixed) (text : List ℕ) (place : ℕ) → place ≤ length text → whole_end f text place ≤ length text
unfolding whole_end fraction_length
whole_end_within f text place low = by_point (has_point_at f text place) refl
  where
    by_point : (p : Bool) → has_point_at f text place ≡ p → cond p ((place + 1) + cond p (min f.places (digits_from text (place + 1))) 0) place ≤ length text
    by_point true e =
        let inside = point_within f text place e in
        let few = min-le_right f.places (digits_from text (place + 1)) in
        let most = digits_within text (place + 1) in
        omega (arith, inside, few, most)
    by_point false e = low

-- and so is where the front ends
front_end_within : (f : Fixed) (text : List ℕ) (place : ℕ) → place ≤ length text → front_end f text place ≤ length text
unfolding front_end
front_end_within f text place low = by_test (f.takes_fewer && (fraction_length f text place == 0))
  where
    by_test : (b : Bool) → cond b place (whole_end f text place) ≤ length text
    by_test true = low
    by_test false = whole_end_within f text place low

-- each digit of the fraction stands within the text
fraction_within : (f : Fixed) (text : List ℕ) (place index : ℕ) → index < length (fraction f text place) → place + 1 + index < length text
fraction_within f text place index some =
    let size = length-take (fraction_length f text place) (drop (place + 1) text) in
    let few = min-le_right (fraction_length f text place) (length (drop (place + 1) text)) in
    let left : length (drop (place + 1) text) ≡ length text - (place + 1) = length-drop (place + 1) text in
    omega (arith, some, size, few, left)

-- ---- digits outside the type

found_within : (test : ℕ → Bool) (from count at : ℕ) → find test (range_with_len from count) ≡ Some at → at < from + count
found_within test from zero at found = cc
found_within test from (suc n) at found = by_test (test from) found (found_within test (from + 1) n at)
  where
    by_test : (b : Bool) → cond b (Some from) (find test (range_with_len (from + 1) n)) ≡ Some at → (find test (range_with_len (from + 1) n) ≡ Some at → at < from + 1 + n) → at < from + suc n
    by_test true here more = let same : from ≡ at = cc in omega (arith, same)
    by_test false behind more = let less = more behind in omega (arith, less)

outside_within : (t : IntegerType) (minus : Bool) (number : ℤ) (digits : List ℕ) (index : ℕ) → digit_outside t minus number digits ≡ Some index → index < length digits
unfolding digit_outside
outside_within t minus number digits index found = let within = found_within _ 0 (length digits) index found in omega (arith, within)

-- ---- answers

by_faults : (size from stop : ℕ) (minus cannot missing lost : Bool) (outside : Option ℕ) (value : ℤ) → stop ≤ size → ((m : ℕ) → outside ≡ Some m → from + m < size) →
    IfErr (first_fault_or (option_map (λ m. range_error minus (from + m)) outside ∷ fault_if cannot (InvalidDigit stop) ∷ fault_if missing (Empty stop) ∷ fault_if lost (range_error minus stop) ∷ []) value) (StandsWithin size)
by_faults size from stop true cannot missing lost (Some m) value low within = let inside = within m refl in omega arith
by_faults size from stop false cannot missing lost (Some m) value low within = let inside = within m refl in omega arith
by_faults size from stop minus true missing lost None value low within = low
by_faults size from stop minus false true lost None value low within = low
by_faults size from stop true false false true None value low within = low
by_faults size from stop false false false true None value low within = low
by_faults size from stop minus false false false None value low within = tt

units_within : (f : Fixed) (t : IntegerType) (text : List ℕ) (whole : ℤ) (place stop : ℕ) (cannot missing : Bool) → stop ≤ length text → IfErr (units_behind f t text whole place stop cannot missing) (StandsWithin (length text))
unfolding units_behind digits_fault zeros_fault
units_within f t text whole place stop cannot missing low =
    by_faults (length text) (place + 1) stop (is_negative t text) cannot missing _ (digit_outside t (is_negative t text) whole (fraction f text place)) (in_units f t text whole place) low
    (λ m told. fraction_within f text place m (outside_within t (is_negative t text) whole (fraction f text place) m told))

-- an answer with a place has the faults of its number
pair_within : (size stop : ℕ) (r : Result ℤ Error) → IfErr r (StandsWithin size) → IfErr (view_of {X = ℤ} {Y = ℤ × ℕ} (λ number. (number, stop)) r) (StandsWithin size)
pair_within size stop (Ok number) within = tt
pair_within size stop (Err error) within = within

-- where a byte stands in place of a digit, its fault stands where the digit's would
whole_fault_within : (size : ℕ) (error : Error) → StandsWithin size error → StandsWithin size (whole_fault size error)
whole_fault_within size (Empty place) within = by_test (nat_lt place size)
  where
    by_test : (b : Bool) → StandsWithin size (cond b (InvalidDigit place) (Empty place))
    by_test true = within
    by_test false = within
whole_fault_within size (Overflow place) within = within
whole_fault_within size (Underflow place) within = within
whole_fault_within size (InvalidDigit place) within = within
whole_fault_within size (MissingSign place) within = within
whole_fault_within size (InvalidPositiveSign place) within = within
whole_fault_within size (InvalidLeadingZeros place) within = within
whole_fault_within size InvalidMantissaRadix within = within
whole_fault_within size InvalidDigitSeparator within = within
whole_fault_within size InvalidBasePrefix within = within
whole_fault_within size InvalidBaseSuffix within = within
whole_fault_within size InvalidPunctuation within = within
whole_fault_within size InvalidLiteralPrefixes within = within

-- ---- the integer part

-- a part ends within a text of this size, or its fault stands there
abbrev EndsWithin : ℕ → Result (ℤ × ℕ) Error → Type 0
EndsWithin size (Ok found) = found.1 ≤ size
EndsWithin size (Err error) = StandsWithin size error

front_ends : (f : Format) (t : IntegerType) (text : List ℕ) → IfErr (partial f t text) (StandsWithin (length text)) → EndsWithin (length text) (partial f t text)
front_ends f t text = by_front (partial f t text) refl
  where
    by_front : (r : Result (ℤ × ℕ) Error) → partial f t text ≡ r → IfErr r (StandsWithin (length text)) → EndsWithin (length text) r
    by_front (Ok found) e within = partial_within f t text found.0 found.1 e
    by_front (Err error) e within = within

-- a front in which no digit was read is Empty where it ends
digit_ends : (size : ℕ) (b : Bool) (front : Result (ℤ × ℕ) Error) → EndsWithin size front → EndsWithin size (if_digit b front)
digit_ends size true front within = within
digit_ends size false (Ok found) within = within
digit_ends size false (Err error) within = within

part_ends : (f : Format) (t : IntegerType) (text : List ℕ) → IfErr (partial f t text) (StandsWithin (length text)) → EndsWithin (length text) (integer_part f t text)
unfolding integer_part
part_ends f t text law = by_test (digits_required f)
  where
    front : EndsWithin (length text) (partial f t text)
    front = front_ends f t text law

    by_test : (b : Bool) → EndsWithin (length text) (cond b (if_digit (has_digit f t text) (partial f t text)) (partial f t text))
    by_test true = digit_ends (length text) (has_digit f t text) (partial f t text) front
    by_test false = front

-- ---- the two parsers

pub whole_faults_within : (f : Fixed) (t : IntegerType) (text : List ℕ) → IfErr (partial f.integer t text) (StandsWithin (length text)) → IfErr (complete_fixed f t text) (StandsWithin (length text))
unfolding complete_fixed whole_behind
whole_faults_within f t text law = by_part (integer_part f.integer t text) (part_ends f.integer t text law)
  where
    by_part : (part : Result (ℤ × ℕ) Error) → EndsWithin (length text) part → IfErr (complete_by f t text part) (StandsWithin (length text))
    by_part (Ok (whole, place)) low = units_within f t text whole place (whole_end f text place) _ _ (whole_end_within f text place low)
    by_part (Err error) within = whole_fault_within (length text) error within

pub front_faults_within : (f : Fixed) (t : IntegerType) (text : List ℕ) → IfErr (partial f.integer t text) (StandsWithin (length text)) → IfErr (partial_fixed f t text) (StandsWithin (length text))
unfolding partial_fixed front_behind
front_faults_within f t text law = by_part (integer_part f.integer t text) (part_ends f.integer t text law)
  where
    by_part : (part : Result (ℤ × ℕ) Error) → EndsWithin (length text) part → IfErr (partial_by f t text part) (StandsWithin (length text))
    by_part (Ok (whole, place)) low =
        pair_within (length text) (front_end f text place) (units_behind f t text whole place (front_end f text place) (is_cut f text place) (lacks_places f text place))
        (units_within f t text whole place (front_end f text place) (is_cut f text place) (lacks_places f text place) (front_end_within f text place low))
    by_part (Err error) within = within
