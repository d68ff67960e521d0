-- The number in front of a text as an integer of one type, and of another: for literals with types.
use Rattle.std.proofs.Common.{◌≡◌, ◌≢◌, ◌⊎◌, ℕ, ◌≤◌, Bool, true, false, ◌&&◌, ◌||◌, not, cond, List, [], ◌∷◌, length, take, Option, Some, None, is_some, Ok, Err, Result, refl, sym, ap, ◌∙◌, arith, inl, inr}
use Rattle.std.proofs.Math.IntN.{ℤ, pos}
use Rattle.std.proofs.Math.Pow.{pow_mono}
use Rattle.std.proofs.lemmas.Bool.{cases_eq, cases_lt, false≢true, ne_eqb}
use Rattle.std.proofs.lemmas.Bool.Decides.{nat_tests}
use Rattle.std.specs.Prelude.{◌==◌, ◌^◌, nat_lt, slice_get}
use Rattle.std.specs.Result.{IsErr}
use Rattle.lexical_util.specs.Format.{Format}
use Rattle.lexical_util.specs.Number.{IntegerType, is_number, number_limit}
use Rattle.lexical_util.specs.Validity.{fault, is_unfit}
use Rattle.lexical_util.specs.declared.error.Error.{Error}
use Rattle.lexical_util.specs.declared.error.Error.TheVariants.{Empty, MissingSign}
use Rattle.lexical_util.proofs.Valid.{passes_rules}
use Rattle.lexical_digits.specs.Value.{positional_value, with_sign}
use Rattle.lexical_parse_integer.specs.Affixes.{bare_radix, prefix_radix}
use Rattle.lexical_parse_integer.specs.Fronts.{number_in_front, number_in_front_if_valid}
use Rattle.lexical_parse_integer.specs.Grammar.{after_head, digits_required, fault_if, first_fault_or, if_valid, lacks_digits, partial, prefix_fault, range_fault, zero_fault}
use Rattle.lexical_parse_integer.specs.Head.{Head, chooses_radix, head_after, head_behind, head_of, no_sign, sign, sign_by}
use Rattle.lexical_parse_integer.specs.Numeral.{Numeral, digit_count, numeral_behind, numeral_in, numeral_value}
use Rattle.lexical_parse_integer.specs.Runs.{are_same, digit_at, digits_between, end_of, is_in_numeral, separator_at}
use Rattle.lexical_parse_integer.proofs.ForCallers.{IsStop-end_of, belongs_other, fits_head, fits_told, fitting_fault, head_signed, shorter_fronts_fit}
use Rattle.lexical_literals.specs.TypedLiterals.{number_stop, number_stop_if_valid, stop_behind, type_of, wide_number}
use Rattle.lexical_literals.specs.declared.suffixes.IntegerKind.{IntegerKind}
use Rattle.lexical_literals.specs.declared.suffixes.IntegerKind.TheVariants.{U8, U16, U32, U64, U128, Usize, I8, I16, I32, I64, I128, Isize}
use Rattle.lexical_literals.proofs.NumberFaults.{counted, is_none, no_fault_if, none_of_one, not_missing, one_left, some_digit, three_ok, value_of_one, wide}

-- ---- kinds

power : (bits : ℕ) → bits ≤ 128 → 2 ^ bits ≤ 2 ^ 128
power bits low = pow_mono low

-- each kind's numbers from 0 up are of 128 bits too
within_wide : (kind : IntegerKind) → number_limit (type_of kind) ≤ 2 ^ 128
within_wide U8 = power 8 (omega arith)
within_wide U16 = power 16 (omega arith)
within_wide U32 = power 32 (omega arith)
within_wide U64 = power 64 (omega arith)
within_wide U128 = power 128 (omega arith)
within_wide Usize = power 64 (omega arith)
within_wide I8 = power 7 (omega arith)
within_wide I16 = power 15 (omega arith)
within_wide I32 = power 31 (omega arith)
within_wide I64 = power 63 (omega arith)
within_wide I128 = power 127 (omega arith)
within_wide Isize = power 63 (omega arith)

fits_wide : (kind : IntegerKind) (b : Bool) (n : ℕ) → b ≡ false → is_number (type_of kind) (with_sign b n) ≡ true → is_number wide (with_sign b n) ≡ true
fits_wide kind true n above fits = cc
fits_wide kind false n above fits = let most = within_wide kind in grind (arith, nat_tests)

-- ---- a number that stops somewhere

-- The number in front of a text by its parts, where it stops at a place.
record Stops (f : Format) (text : List ℕ) (place : ℕ) : Type 0 where
  head : Head
  head_is : head_of f wide text ≡ Ok head
  no_prefix_fault : prefix_fault text head ≡ None
  no_zero_fault : zero_fault f (chooses_radix head) (numeral_behind f text head) ≡ None
  some : (digit_count (numeral_behind f text head) == 0) ≡ false
  at : (numeral_behind f text head).stop ≡ place

stops_of : (f : Format) (text : List ℕ) (place : ℕ) → number_stop f text ≡ Ok place → Stops f text place
unfolding number_stop
stops_of f text place told = by_head (head_of f wide text) refl told
  where
    by_head : (h : Result Head Error) → head_of f wide text ≡ h → after_head h (stop_behind f text) ≡ Ok place → Stops f text place
    by_head (Err e) is told = cc
    by_head (Ok h) is told =
        let x : Numeral = numeral_behind f text h in
        let parts = three_ok (prefix_fault text h) (zero_fault f (chooses_radix h) x) (fault_if (digit_count x == 0) (Empty x.stop)) x.stop place told in
        record {
          head = h;
          head_is = is;
          no_prefix_fault = parts.0;
          no_zero_fault = parts.1;
          some = no_fault_if (digit_count x == 0) (Empty x.stop) parts.2;
          at = parts.3;
        }

-- ---- a minus is no sign of a number that stops somewhere

separator_no_minus : (f : Format) → fault f ≡ None → are_same f.digit_separator (Some 45) ≡ false
unfolding are_same
separator_no_minus f valid = by_set f.digit_separator (passes_rules f valid).separator
  where
    by_set : (set : Option ℕ) → is_unfit f.mantissa_radix set ≡ false → are_same set (Some 45) ≡ false
    by_set None fit = refl
    by_set (Some byte) fit = grind (arith, nat_tests)

no_separator : (f : Format) (text : List ℕ) → fault f ≡ None → slice_get text 0 ≡ Some 45 → separator_at f text 0 ≡ false
unfolding separator_at
no_separator f text valid first = rw first (separator_no_minus f valid)

no_digit : (r : ℕ) (text : List ℕ) → slice_get text 0 ≡ Some 45 → digit_at r text 0 ≡ None
unfolding digit_at
no_digit r text first = rw first refl

no_prefix : (f : Format) (text : List ℕ) → slice_get text 0 ≡ Some 45 → prefix_radix f text 0 ≡ None
unfolding prefix_radix are_same
no_prefix f text first = rw first refl

-- a numeral doesn't begin with a minus
ends_at_minus : (f : Format) (r : ℕ) (text : List ℕ) → fault f ≡ None → slice_get text 0 ≡ Some 45 → end_of f false r text 0 ≡ 0
ends_at_minus f r text valid first =
    let stop = IsStop-end_of f false r text 0 (omega arith) in
    let outside : is_in_numeral f false r text 0 0 ≡ false = belongs_other f false r text 0 0 (no_separator f text valid first) (no_digit r text first) in
    elim (cases_lt 0 (end_of f false r text 0)) [
      | inl lt ↦ absurd (false≢true (sym outside ∙ stop.holds 0 (omega arith) lt))
      | inr ge ↦ omega arith
    ]

none_before_minus : (f : Format) (r : ℕ) (text : List ℕ) → fault f ≡ None → slice_get text 0 ≡ Some 45 → (digit_count (numeral_in f false r text 0) == 0) ≡ true
unfolding numeral_in digits_between
none_before_minus f r text valid first = rw (ends_at_minus f r text valid first) refl

-- a minus is no sign to a type without one
sign_at_minus : (f : Format) (text : List ℕ) → slice_get text 0 ≡ Some 45 → sign f wide text ≡ no_sign f
unfolding sign
sign_at_minus f text first = ap (sign_by f wide) first

unsigned_or_missing : (f : Format) → (no_sign f ≡ Err (MissingSign 0)) ⊎ (no_sign f ≡ Ok (false, 0))
unsigned_or_missing f = by_asked f.required_mantissa_sign
  where
    by_asked : (b : Bool) → (cond {A = Result (Bool × ℕ) Error} b (Err (MissingSign 0)) (Ok (false, 0)) ≡ Err (MissingSign 0))
        ⊎ (cond {A = Result (Bool × ℕ) Error} b (Err (MissingSign 0)) (Ok (false, 0)) ≡ Ok (false, 0))
    by_asked true = inl refl
    by_asked false = inr refl

-- so a number that stops somewhere has no minus before it
no_minus : (f : Format) (text : List ℕ) (place : ℕ) → fault f ≡ None → Stops f text place → slice_get text 0 ≡ Some 45 → ⊥
unfolding head_of
no_minus f text place valid stops first =
    let signed = sign_at_minus f text first in
    elim (unsigned_or_missing f) [
      | inl missing ↦
          let faulty : head_of f wide text ≡ Err (MissingSign 0) = ap (head_after f text) (signed ∙ missing) in
          let is = stops.head_is in
          cc
      | inr bare ↦
          let h : Head = head_behind f text (false, 0) None in
          let head_is : head_of f wide text ≡ Ok h =
          ap (head_after f text) (signed ∙ bare) ∙ ap (λ (p : Option ℕ). Ok (head_behind f text (false, 0) p)) (no_prefix f text first) in
          let is = stops.head_is in
          let same : h ≡ stops.head = cc in
          let none : (digit_count (numeral_behind f text h) == 0) ≡ true = none_before_minus f (bare_radix f text 0) text valid first in
          false≢true (sym stops.some ∙ ap (λ (h : Head). digit_count (numeral_behind f text h) == 0) (sym same) ∙ none)
    ]

same_sign_by : (f : Format) (t : IntegerType) (first : Option ℕ) → first ≢ Some 45 → sign_by f t first ≡ sign_by f wide first
same_sign_by f t None other = refl
same_sign_by f t (Some byte) other = elim (cases_eq byte 45) [
  | inl e ↦ absurd (other (ap Some e))
  | inr ne ↦ let unlike : (byte == 45) ≡ false = ne_eqb byte 45 ne in rw unlike refl
]

-- and each type has the same head
same_head : (f : Format) (t : IntegerType) (text : List ℕ) (place : ℕ) → fault f ≡ None → (stops : Stops f text place) → head_of f t text ≡ Ok stops.head
unfolding head_of sign
same_head f t text place valid stops = ap (head_after f text) (same_sign_by f t (slice_get text 0) (no_minus f text place valid stops)) ∙ stops.head_is

-- ---- the number as a type

radix_behind : (f : Format) (text : List ℕ) (h : Head) → (numeral_behind f text h).radix ≡ h.radix
unfolding numeral_in
radix_behind f text h = refl

module _ (f : Format) (text : List ℕ) (place : ℕ) (valid : fault f ≡ None) (stops : Stops f text place) where
  abbrev x : Numeral
  x = numeral_behind f text stops.head

  abbrev negative : Bool
  negative = stops.head.is_negative

  above : negative ≡ false
  above = by_sign negative refl
    where
      by_sign : (b : Bool) → negative ≡ b → negative ≡ false
      by_sign false e = e
      by_sign true e = absurd (false≢true (head_signed f wide text stops.head stops.head_is e))

  -- the number, or the fault of its range
  front_as : (t : IntegerType) → number_in_front f t text ≡ first_fault_or (range_fault t negative x ∷ []) (numeral_value negative x, x.stop)
  unfolding partial
  front_as t =
      let head_is = same_head f t text place valid stops in
      let some : nat_lt 0 (digit_count x) ≡ true = counted (digit_count x) ∙ ap not stops.some in
      rw head_is (one_left (prefix_fault text stops.head) (zero_fault f (chooses_radix stops.head) x) (range_fault t negative x)
      (fault_if (lacks_digits f x && (is_some f.digit_separator || (x.stop == length text))) (Empty x.stop))
      (nat_lt 0 (digit_count x)) (numeral_value negative x, x.stop) stops.no_prefix_fault stops.no_zero_fault
      (not_missing (digits_required f) (digit_count x == 0) (is_some f.digit_separator || (x.stop == length text)) (Empty x.stop) stops.some) some)

  -- a type that has the number reads it
  front_fits : (t : IntegerType) → is_number t (numeral_value negative x) ≡ true → number_in_front f t text ≡ Ok (numeral_value negative x, x.stop)
  front_fits t fits =
      let none : range_fault t negative x ≡ None = fitting_fault t negative x (shorter_fronts_fit t negative x (digit_count x) radix fits) in
      front_as t ∙ ap (λ (r : Option Error). first_fault_or (r ∷ []) (numeral_value negative x, x.stop)) none
    where
      radix : 1 ≤ x.radix
      radix =
          let low = (fits_head f wide text stops.head (is_none valid) stops.head_is).is_radix.low in
          let same = radix_behind f text stops.head in
          omega arith

  -- one that hasn't tells a fault
  front_leaves : (t : IntegerType) → is_number t (numeral_value negative x) ≡ false → IsErr (number_in_front f t text)
  front_leaves t leaves = by_range (range_fault t negative x) refl
    where
      by_range : (r : Option Error) → range_fault t negative x ≡ r → IsErr (number_in_front f t text)
      by_range None none = absurd (false≢true (sym leaves ∙ fits_told t negative x (some_digit (digit_count x) stops.some) none))
      by_range (Some e) is =
          let told : number_in_front f t text ≡ Err e = front_as t ∙ ap (λ (r : Option Error). first_fault_or (r ∷ []) (numeral_value negative x, x.stop)) is in
          rw told refl

  -- a type that reads it has the number
  front_told : (t : IntegerType) (v : ℤ) (k : ℕ) → number_in_front f t text ≡ Ok (v, k) → is_number t v ≡ true
  front_told t v k told =
      let here = sym (front_as t) ∙ told in
      let value = ap (is_number t) (sym (value_of_one _ (numeral_value negative x) v x.stop k here).0) in
      value ∙ fits_told t negative x (some_digit (digit_count x) stops.some) (none_of_one _ _ _ here)

-- ---- under formats that may be invalid

-- where a number stops, the format is valid
valid_stop : (f : Format) (text : List ℕ) (place : ℕ) → number_stop_if_valid f text ≡ Ok place → (fault f ≡ None) × (number_stop f text ≡ Ok place)
valid_stop f text place told = by_fault (fault f) refl told
  where
    by_fault : (e : Option Error) → fault f ≡ e → if_valid e (number_stop f text) ≡ Ok place → (fault f ≡ None) × (number_stop f text ≡ Ok place)
    by_fault None none told = (none, told)
    by_fault (Some e) is told = cc

front_if_valid : (f : Format) (t : IntegerType) (text : List ℕ) → fault f ≡ None → number_in_front_if_valid f t text ≡ number_in_front f t text
front_if_valid f t text valid = ap (λ (e : Option Error). if_valid e (number_in_front f t text)) valid

module _ (f : Format) (text : List ℕ) (place : ℕ) (stops_told : number_stop_if_valid f text ≡ Ok place) where
  the_format : fault f ≡ None
  the_format = (valid_stop f text place stops_told).0

  the_number : Stops f text place
  the_number = stops_of f text place (valid_stop f text place stops_told).1

  abbrev the_value : ℤ
  the_value = numeral_value the_number.head.is_negative (numeral_behind f text the_number.head)

  the_value_is : (v : ℕ) → wide_number f text ≡ Ok (pos v, place) → the_value ≡ pos v
  the_value_is v told =
      let parts = value_of_one _ the_value (pos v) (numeral_behind f text the_number.head).stop place
      (sym (front_as f text place the_format the_number wide) ∙ sym (front_if_valid f wide text the_format) ∙ told) in
      parts.0

  -- a type that has the value reads it
  pub read_by_type : (t : IntegerType) (v : ℕ) → wide_number f text ≡ Ok (pos v, place) → is_number t (pos v) ≡ true
      → Ok (pos v, place) ≡ number_in_front_if_valid f t text
  read_by_type t v told fits =
      let value = the_value_is v told in
      let here = front_fits f text place the_format the_number t (ap (is_number t) value ∙ fits) in
      sym (front_if_valid f t text the_format ∙ here ∙ ap (λ (w : ℤ). Ok (w, (numeral_behind f text the_number.head).stop)) value ∙ ap (λ (k : ℕ). Ok (pos v, k)) the_number.at)

  -- what is read as a type is a number of it
  pub is_of_type : (t : IntegerType) (v : ℕ) → Ok (pos v, place) ≡ number_in_front_if_valid f t text → is_number t (pos v) ≡ true
  is_of_type t v told = front_told f text place the_format the_number t (pos v) place (sym (front_if_valid f t text the_format) ∙ sym told)

  leaves_type : (t : IntegerType) → is_number t the_value ≡ false → IsErr (number_in_front_if_valid f t text)
  leaves_type t leaves = let same = front_if_valid f t text the_format in rw same (front_leaves f text place the_format the_number t leaves)

  -- one that hasn't doesn't
  pub refused_by_type : (t : IntegerType) (v : ℕ) → wide_number f text ≡ Ok (pos v, place) → is_number t (pos v) ≡ false
      → IsErr (number_in_front_if_valid f t text)
  refused_by_type t v told leaves = leaves_type t (ap (is_number t) (the_value_is v told) ∙ leaves)

  -- no kind has a number for which 128 bits have no room
  pub refused_by_all : (kind : IntegerKind) → IsErr (wide_number f text) → IsErr (number_in_front_if_valid f (type_of kind) text)
  refused_by_all kind great = by_fit (is_number (type_of kind) the_value) refl
    where
      by_fit : (b : Bool) → is_number (type_of kind) the_value ≡ b → IsErr (number_in_front_if_valid f (type_of kind) text)
      by_fit false leaves = leaves_type (type_of kind) leaves
      by_fit true fits =
          let x : Numeral = numeral_behind f text the_number.head in
          let above_zero = above f text place the_format the_number in
          let fits_it = fits_wide kind the_number.head.is_negative (positional_value x.radix (take (digit_count x) x.digits)) above_zero fits in
          let read = front_if_valid f wide text the_format ∙ front_fits f text place the_format the_number wide fits_it in
          absurd (false≢true (rw read at great))
