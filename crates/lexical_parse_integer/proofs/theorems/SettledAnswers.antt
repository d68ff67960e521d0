-- Partial answers that are settled at a place, without a separator: what that tells of the head and of the digits in
-- a row. For `Locality`.
use Rattle.std.proofs.Common.{◌≡◌, ℕ, zero, suc, ◌+◌, ◌<◌, ◌≤◌, ◌⊎◌, Bool, true, false, not, ◌&&◌, ◌||◌, cond, List, [], ◌∷◌, ◌++◌, length, get_or, take, refl, sym, ap, ◌∙◌, arith, Option, Some, None, is_some, Ok, Err, Result, inl, inr}
use Rattle.std.proofs.Math.IntN.{ℤ}
use Rattle.std.proofs.lemmas.Bool.{cases_lt}
use Rattle.std.proofs.lemmas.List.FromFn.{get_or-range_with_len, length-map-range_with_len, take-map-range_with_len}
use Rattle.std.proofs.lemmas.Option.{slice_get_within}
use Rattle.std.specs.Prelude.{◌==◌, find, nat_le, nat_lt, option_and_then, slice_get, slice_index}
use Rattle.std.specs.List.{range_with_len}
use Rattle.std.specs.Option.{option_map, unwrap_or}
use Rattle.lexical_util.specs.declared.error.Error.{Error}
use Rattle.lexical_util.specs.declared.error.Error.TheVariants.{Empty, InvalidLeadingZeros}
use Rattle.lexical_util.specs.Digit.{digit}
use Rattle.lexical_util.specs.Format.{Format}
use Rattle.lexical_util.specs.Number.{IntegerType, is_number}
use Rattle.lexical_parse_integer.specs.Affixes.{prefix_radix, suffix_at}
use Rattle.lexical_parse_integer.specs.Grammar.{common_faults, fault_if, first_fault_or, first_outside, lacks_digits, partial, partial_faults, range_error, range_fault}
use Rattle.lexical_parse_integer.specs.Head.{Head, head_behind, head_of, sign, chooses_radix}
use Rattle.lexical_parse_integer.specs.Laws.{IsSettledAt}
use Rattle.lexical_parse_integer.specs.Numeral.{Numeral, digit_count, front_value, numeral_value}
use Rattle.lexical_parse_integer.specs.Runs.{digit_at}
use Rattle.lexical_digits.specs.Value.{positional_value, with_sign}
use Rattle.lexical_parse_integer.proofs.grammar.DigitsInARow.{EndsRow, numeral_in_a_row, row, row_numeral, row_stop}
use Rattle.lexical_parse_integer.proofs.theorems.ReadBack.{digit_zero}
use Rattle.lexical_parse_integer.proofs.grammar.RangeOfFronts.{zero_is_number}

-- ---- the partial answer, by the head and the row of digits

abbrev pub partial_by : Format → IntegerType → List ℕ → Head → Numeral → Result (ℤ × ℕ) Error
partial_by f t text h x = first_fault_or (common_faults f t text h x ++ partial_faults f text x) (numeral_value h.is_negative x, x.stop)

abbrev pub head_row : Format → List ℕ → Head → ℕ → Numeral
head_row f text h count = row_numeral f text h.start h.radix count

pub partial_row : (f : Format) (t : IntegerType) (text : List ℕ) (h : Head) (count : ℕ) → f.digit_separator ≡ None → head_of f t text ≡ Ok h → h.start ≤ length text → EndsRow h.radix text h.start (h.start + count) → partial f t text ≡ partial_by f t text h (head_row f text h count)
unfolding partial
partial_row f t text h count none head low ends = rw (head, numeral_in_a_row f h.is_prefixed text h.start h.radix count none low ends) refl

pub head_behind_sign : (f : Format) (t : IntegerType) (text : List ℕ) (s : Bool × ℕ) → sign f t text ≡ Ok s → head_of f t text ≡ Ok (head_behind f text s (prefix_radix f text s.1))
unfolding head_of
head_behind_sign f t text s sign_is = rw sign_is refl

pub sign_fault_parts : (f : Format) (t : IntegerType) (text : List ℕ) (e : Error) → sign f t text ≡ Err e → partial f t text ≡ Err e
unfolding partial head_of
sign_fault_parts f t text e faulty = rw faulty refl

-- ---- what a settled answer tells

-- how an answer can be settled
abbrev pub Settles : ℕ → ℕ → ℕ → Bool → Bool → Option ℕ → (ℕ → ℕ) → Bool → Type 0
Settles n k stop prefix zeros outside at lacks =
    ((prefix ≡ false) × (zeros ≡ false) × (outside ≡ None) × (lacks ≡ false) × (stop ≡ k) × (k < n))
    ⊎ ((m : ℕ) × (prefix ≡ false) × (zeros ≡ false) × (outside ≡ Some m) × (at m ≡ k))

settled_cases : (n k i j stop first_zero : ℕ) (prefix zeros lacks minus : Bool) (outside : Option ℕ) (at : ℕ → ℕ) (v : ℤ) →
    IsSettledAt n k (first_fault_or (fault_if prefix (Empty i) ∷ fault_if zeros (InvalidLeadingZeros first_zero) ∷ option_map (λ d. range_error minus (at d)) outside ∷ fault_if lacks (Empty j) ∷ []) (v, stop)) →
    Settles n k stop prefix zeros outside at lacks
settled_cases n k i j stop first_zero true zeros lacks minus outside at v h = absurd h
settled_cases n k i j stop first_zero false true lacks minus outside at v h = absurd h
settled_cases n k i j stop first_zero false false lacks true (Some m) at v h = inr (m, refl, refl, refl, h)
settled_cases n k i j stop first_zero false false lacks false (Some m) at v h = inr (m, refl, refl, refl, h)
settled_cases n k i j stop first_zero false false true minus None at v h = absurd h
settled_cases n k i j stop first_zero false false false minus None at v h = inl (refl, refl, refl, refl, h.0, h.1)

abbrev pub has_zeros : Format → Head → Numeral → Bool
has_zeros f h x = ((f.no_integer_leading_zeros && not (chooses_radix h)) && nat_le 2 (digit_count x)) && (slice_index x.digits 0 == 0)

abbrev pub SettlesRow : Format → IntegerType → List ℕ → Head → Numeral → ℕ → Type 0
SettlesRow f t text h x k =
    Settles (length text) k x.stop (h.is_prefixed && (h.start == length text)) (has_zeros f h x) (first_outside t h.is_negative x)
    (λ j. slice_index x.places j) (lacks_digits f x && (is_some f.digit_separator || (x.stop == length text)))

pub settled_row : (f : Format) (t : IntegerType) (text : List ℕ) (h : Head) (x : Numeral) (k : ℕ) → IsSettledAt (length text) k (partial_by f t text h x) → SettlesRow f t text h x k
unfolding range_fault
settled_row f t text h x k settled =
    settled_cases (length text) k (length text) x.stop x.stop (slice_index x.places 0) _ _ _ h.is_negative (first_outside t h.is_negative x) (λ j. slice_index x.places j) (numeral_value h.is_negative x) settled

-- ---- rows of digits

-- the numeral ends no later than reading stops
pub ends_low : (f : Format) (text : List ℕ) (start count : ℕ) → start + count ≤ row_stop f text start count
ends_low f text start count = by_test (nat_lt 0 count && suffix_at f text (start + count))
  where
    by_test : (b : Bool) → start + count ≤ cond b (start + count + 1) (start + count)
    by_test true = omega arith
    by_test false = omega arith

pub digits_of_row : (r : ℕ) (text : List ℕ) (start count : ℕ) → length (row r text start count) ≡ count
digits_of_row r text start count = length-map-range_with_len (λ place. unwrap_or (digit_at r text place) 0) start count

pub front_of_row : (r : ℕ) (text : List ℕ) (start m count : ℕ) → m ≤ count → take m (row r text start count) ≡ row r text start m
front_of_row r text start m count low = take-map-range_with_len (λ place. unwrap_or (digit_at r text place) 0) start count m low

pub place_of_row : (start count m : ℕ) → m < count → get_or (range_with_len start count) m 0 ≡ start + m
place_of_row start count m l = get_or-range_with_len start count m 0 l

-- the first place that passes
find_told : (test : ℕ → Bool) (a n i : ℕ) → find test (range_with_len a n) ≡ Some i → (m : ℕ) × (a + m ≡ i) × (m < n) × (test i ≡ true) × ((j : ℕ) → a ≤ j → j < i → test j ≡ false)
find_told test a zero i h = cc
find_told test a (suc n) i h = by_test (test a) refl h (λ g. find_told test (a + 1) n i g)
  where
    by_test : (b : Bool) → test a ≡ b → cond b (Some a) (find test (range_with_len (a + 1) n)) ≡ Some i →
        (find test (range_with_len (a + 1) n) ≡ Some i → (m : ℕ) × (a + 1 + m ≡ i) × (m < n) × (test i ≡ true) × ((j : ℕ) → a + 1 ≤ j → j < i → test j ≡ false)) →
        (m : ℕ) × (a + m ≡ i) × (m < suc n) × (test i ≡ true) × ((j : ℕ) → a ≤ j → j < i → test j ≡ false)
    by_test true here g more =
        let same : a ≡ i = cc in
        (0, omega arith, omega arith, ap test (sym same) ∙ here, λ j low high. absurd (omega arith))
    by_test false here g more =
        let rest = more g in
        (suc rest.0, omega (arith, rest.1), omega (arith, rest.2), rest.3, λ j low high. elim (cases_lt a j) [ inl l ↦ rest.4 j (omega arith) high | inr l ↦ (let same : a ≡ j = omega arith in ap test (sym same) ∙ here) ])

-- the first digit whose value leaves the type
pub outside_told : (t : IntegerType) (b : Bool) (x : Numeral) (m : ℕ) → first_outside t b x ≡ Some m →
    (m < digit_count x) × (is_number t (front_value b x (m + 1)) ≡ false) × ((j : ℕ) → j < m → is_number t (front_value b x (j + 1)) ≡ true)
outside_told t b x m h =
    let told = find_told (λ k. not (is_number t (front_value b x (k + 1)))) 0 (digit_count x) m h in
    (omega (arith, told.1, told.2), unnot_true _ told.3, λ j l. unnot_false _ (told.4 j (omega arith) l))
  where
    unnot_true : (a : Bool) → not a ≡ true → a ≡ false
    unnot_true true e = sym e
    unnot_true false e = refl

    unnot_false : (a : Bool) → not a ≡ false → a ≡ true
    unnot_false true e = refl
    unnot_false false e = sym e

-- a first digit 0 has a number of the type as its value
zero_fits : (t : IntegerType) (b : Bool) (r : ℕ) (ds : List ℕ) → get_or ds 0 0 ≡ 0 → is_number t (with_sign b (positional_value r (take 1 ds))) ≡ true
zero_fits t b r ds first = rw (value ds first) (zero_is_number t b)
  where
    value : (ds : List ℕ) → get_or ds 0 0 ≡ 0 → positional_value r (take 1 ds) ≡ 0
    value [] first = refl
    value (d ∷ ds) first = let none : d ≡ 0 = first in rw none (omega arith)

zero_at_place : (r : ℕ) (text : List ℕ) (k : ℕ) → 2 ≤ r → slice_get text k ≡ Some 48 → digit_at r text k ≡ Some 0
unfolding digit_at
zero_at_place r text k low byte = ap (option_and_then (λ byte. digit r byte)) byte ∙ digit_zero r low

-- a zero that stands at the start is the first digit
pub zero_counts : (r : ℕ) (text : List ℕ) (start count : ℕ) → 2 ≤ r → slice_get text start ≡ Some 48 → EndsRow r text start (start + count) → (1 ≤ count) × (get_or (row r text start count) 0 0 ≡ 0)
zero_counts r text start count low byte ends = by_count count ends
  where
    unzero : digit_at r text start ≡ Some 0
    unzero = zero_at_place r text start low byte

    by_count : (count : ℕ) → EndsRow r text start (start + count) → (1 ≤ count) × (get_or (row r text start count) 0 0 ≡ 0)
    by_count zero s =
        let same : start + 0 ≡ start = omega arith in
        let inside : start < length text = slice_get_within text start 48 byte in
        let none : is_some (digit_at r text (start + 0)) ≡ false = s.fails (omega arith) in
        let there : is_some (digit_at r text (start + 0)) ≡ true = ap (λ k. is_some (digit_at r text k)) same ∙ ap is_some unzero in
        absurd (cc)
    by_count (suc n) s = (omega arith, ap (λ o. unwrap_or o 0) unzero)

-- where an answer is settled, the digits begin no later; a first digit 0 stands before that place
pub record IsReach (r : ℕ) (text : List ℕ) (start count k : ℕ) : Type 0 where
  pub low : start ≤ k
  pub deep : 1 ≤ count → get_or (row r text start count) 0 0 ≡ 0 → start + 1 ≤ k

pub reach : (f : Format) (t : IntegerType) (text : List ℕ) (h : Head) (count k : ℕ) → EndsRow h.radix text h.start (h.start + count) → SettlesRow f t text h (head_row f text h count) k → IsReach h.radix text h.start count k
reach f t text h count k ends (inl w) =
    let last = ends_low f text h.start count in
    let at = w.4 in
    record { low = omega arith; deep = λ some first. omega arith }
reach f t text h count k ends (inr w) = by_place w.0 w.3 w.4
  where
    by_place : (m : ℕ) → first_outside t h.is_negative (head_row f text h count) ≡ Some m → get_or (range_with_len h.start count) m 0 ≡ k → IsReach h.radix text h.start count k
    by_place m outside at =
        let told = outside_told t h.is_negative (head_row f text h count) m outside in
        let size = digits_of_row h.radix text h.start count in
        let place = place_of_row h.start count m (omega (arith, told.0)) in
        record { low = omega arith; deep = λ some first. by_first m told.1 (omega arith) first }
      where
        by_first : (m : ℕ) → is_number t (front_value h.is_negative (head_row f text h count) (m + 1)) ≡ false → h.start + m ≡ k → get_or (row h.radix text h.start count) 0 0 ≡ 0 → h.start + 1 ≤ k
        by_first zero leaves at first = let fit = zero_fits t h.is_negative h.radix (row h.radix text h.start count) first in absurd (cc)
        by_first (suc m) leaves at first = omega arith
