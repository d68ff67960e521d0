-- A whole text by its last point: what stands before that is the integer part, and its fault is that of the text.
use Rattle.std.proofs.Common.{◌≡◌, ◌≢◌, ℕ, zero, suc, ◌+◌, ◌-◌, ◌<◌, ◌≤◌, Bool, true, false, cond, not, ◌&&◌, ◌||◌, List, [], ◌∷◌, ◌++◌, length, length-take-le, take, drop, Option, Some, None, IsNone, is_some, Result, Ok, Err, refl, sym, ap, subst, ◌∙◌, arith, eq-eqb, ◌⊎◌, inl, inr}
use Rattle.std.proofs.Math.IntN.{ℤ}
use Rattle.std.proofs.lemmas.Bool.{eqb-true, false≢true, lt-ltb}
use Rattle.std.proofs.lemmas.Bool.Decides.{nat_tests}
use Rattle.std.proofs.lemmas.List.{length-drop, take_all}
use Rattle.std.specs.Prelude.{◌==◌, nat_lt, slice_get}
use Rattle.lexical_util.specs.declared.error.Error.{Error}
use Rattle.lexical_util.specs.declared.error.Error.TheVariants.{Empty, InvalidBasePrefix, InvalidBaseSuffix, InvalidDigit, InvalidDigitSeparator, InvalidLeadingZeros, InvalidLiteralPrefixes, InvalidMantissaRadix, InvalidPositiveSign, InvalidPunctuation, MissingSign, Overflow, Underflow}
use Rattle.lexical_util.specs.Digit.{digit}
use Rattle.lexical_util.specs.Format.{Format}
use Rattle.lexical_util.specs.Number.{HasSign, IntegerType}
use Rattle.lexical_util.specs.Validity.{fault}
use Rattle.lexical_parse_integer.specs.Affixes.{is_affix, named_radix}
use Rattle.lexical_parse_integer.specs.Fronts.{has_digit, has_digit_behind, if_digit, number_in_front}
use Rattle.lexical_parse_integer.specs.Grammar.{after_head, common_faults, complete, digits_required, fault_if, first_fault_or, partial, partial_faults}
use Rattle.lexical_parse_integer.specs.Head.{Head, head_of}
use Rattle.lexical_parse_integer.specs.Laws.{Completes, completion_of, is_empty}
use Rattle.lexical_parse_integer.specs.Numeral.{Numeral, digit_count, numeral_behind, numeral_value}
use Rattle.lexical_parse_integer.specs.Runs.{are_same}
use Rattle.lexical_laws.specs.Keeping.{IsForeign}
use Rattle.lexical_fixed.specs.Append.{IsAppended}
use Rattle.lexical_fixed.specs.Fixed.{Fixed}
use Rattle.lexical_fixed.specs.Fraction.{digits_fault, digit_outside, fraction_length, has_point_at, read_zeros, whole_end}
use Rattle.lexical_fixed.specs.Grammar.{complete_by, complete_fixed, integer_part, is_negative, units_behind, whole_behind, whole_fault}
use Rattle.lexical_fixed.specs.Parted.{IsParted, IsToldBefore, point_place}
use Rattle.lexical_fixed.specs.Validity.{fixed_fault, fixed_fault_by, has_affix, is_unfit_point}
use Rattle.lexical_fixed.specs.declared.error.FixedFormatError.{FixedFormatError}
use Rattle.lexical_fixed.specs.declared.error.FixedFormatError.TheVariants.{Affix, Point, Radix}
use Rattle.lexical_fixed.proofs.IntegerParts.{digit_told, partial_sign, value_told}
use Rattle.lexical_fixed.proofs.PartedTexts.{ends_alone, ends_behind, whole_there}
use Rattle.lexical_fixed.proofs.QuickParts.{decimal_of, first_false, second_false}
use Rattle.lexical_fixed.proofs.Valid.{integer_valid}

-- ---- the point

-- the point of a valid description is fit
point_fits : (f : Fixed) → IsNone (fixed_fault f) → is_unfit_point f.integer f.point ≡ false
point_fits f valid = by_fault (fault f.integer) valid
  where
    by_tests : (a b c : Bool) (rest : Option FixedFormatError) → is_unfit_point f.integer f.point ≡ c
        → IsNone (cond (not a) (Some Radix) (cond b (Some Affix) (cond c (Some Point) rest))) → is_unfit_point f.integer f.point ≡ false
    by_tests true false false rest fit valid = fit
    by_tests true false true rest fit valid = absurd (cc)
    by_tests true true c rest fit valid = absurd (cc)
    by_tests false b c rest fit valid = absurd (cc)

    by_fault : (found : Option Error) → IsNone (fixed_fault_by f found) → is_unfit_point f.integer f.point ≡ false
    by_fault None valid = by_tests (f.integer.mantissa_radix == 10) (has_affix f.integer) (is_unfit_point f.integer f.point) _ refl valid
    by_fault (Some error) valid = absurd (cc)

-- so it is no part of an integer, where it isn't a letter
foreign : (f : Fixed) → IsNone (fixed_fault f) → digit 36 f.point ≡ None → IsForeign f.integer f.point
unfolding is_affix named_radix
foreign f valid letter =
    let fit = point_fits f valid in
    let tail = second_false (f.point == 43) _ fit in
    let last = second_false (f.point == 45) _ tail in
    let decimal = decimal_of f valid in
    record {
      digit = letter;
      plus = λ same. false≢true (sym (first_false (f.point == 43) _ fit) ∙ eq-eqb f.point 43 same);
      minus = λ same. false≢true (sym (first_false (f.point == 45) _ tail) ∙ eq-eqb f.point 45 same);
      separator = second_false (is_some (digit 10 f.point)) _ last;
      prefix = rw (decimal.no_prefix, decimal.no_literals) refl;
      suffix = rw decimal.no_suffix refl;
    }

-- a text around a byte
around : (byte : ℕ) (text : List ℕ) (place : ℕ) → are_same (Some byte) (slice_get text place) ≡ true → text ≡ take place text ++ byte ∷ drop (suc place) text
unfolding are_same
around byte [] place some = cc
around byte (b ∷ bs) zero some = ap (λ c. c ∷ bs) (eqb-true b byte some)
around byte (b ∷ bs) (suc n) some = ap (λ cs. b ∷ cs) (around byte bs n some)

-- ---- the integer part

-- what the law says of a byte that is no part of a number, for an answer in front of a text
abbrev pub SameBehind : (Format → IntegerType → List ℕ → Result (ℤ × ℕ) Error) → Type 0
SameBehind answer = (format : Format) (type : IntegerType) (text rest : List ℕ) (byte : ℕ) → IsNone (fault format) → IsForeign format byte
    → partial format type text ≢ Err (Empty (length text)) → answer format type (text ++ byte ∷ rest) ≡ answer format type text

-- it is that of the bytes before the point
same_part : (f : Fixed) (t : IntegerType) (text : List ℕ) (count : ℕ) → SameBehind partial → SameBehind number_in_front → IsNone (fixed_fault f) → digit 36 f.point ≡ None → IsParted f text count
    → partial f.integer t (take (point_place text count) text) ≢ Err (Empty (length (take (point_place text count) text)))
    → integer_part f.integer t text ≡ integer_part f.integer t (take (point_place text count) text)
unfolding integer_part
same_part f t text zero front number valid letter at unended = let all : take (length text) text ≡ text = take_all (length text) text (omega arith) in ap (integer_part f.integer t) (sym all)
same_part f t text (suc n) front number valid letter at unended =
    let count : ℕ = suc n in
    let some : (count == 0) ≡ false = grind (arith, nat_tests) in
    let place : ℕ = length text - 1 - count in
    let here : point_place text count ≡ place = rw some refl in
    let whole : text ≡ take place text ++ f.point ∷ drop (suc place) text = around f.point text place (at.point (omega arith)) in
    let other = foreign f valid letter in
    let good = integer_valid f valid in
    let unended' : partial f.integer t (take place text) ≢ Err (Empty (length (take place text))) = subst (λ k. partial f.integer t (take k text) ≢ Err (Empty (length (take k text)))) here unended in
    ap (integer_part f.integer t) whole
    ∙ alike (digits_required f.integer)
    (number f.integer t (take place text) (drop (suc place) text) f.point good other unended')
    (front f.integer t (take place text) (drop (suc place) text) f.point good other unended')
    ∙ ap (λ k. integer_part f.integer t (take k text)) (sym here)
  where
    alike : {A : Type 0} {x y v w : A} (b : Bool) → x ≡ y → v ≡ w → cond b x v ≡ cond b y w
    alike true first second = first
    alike false first second = second

-- no answer has a fault among its faults
never : (faults : List (Option Error)) (e : Error) (v w : ℤ × ℕ) → first_fault_or (faults ++ Some e ∷ []) v ≢ Ok w
never [] e v w told = cc
never (None ∷ faults) e v w told = never faults e v w told
never (Some error ∷ faults) e v w told = cc

-- a front that is all of a text has a digit, where the format asks for one
digit_read : (f : Format) (t : IntegerType) (text : List ℕ) (v : ℤ) → digits_required f ≡ true → partial f t text ≡ Ok (v, length text) → has_digit f t text ≡ true
unfolding partial
digit_read f t text v asked told = by_head (head_of f t text) refl told
  where
    by_head : (r : Result Head Error) → head_of f t text ≡ r
        → after_head {A = ℤ × ℕ} r (λ h. let x = numeral_behind f text h in first_fault_or (common_faults f t text h x ++ partial_faults f text x) (numeral_value h.is_negative x, x.stop)) ≡ Ok (v, length text)
        → has_digit_behind f text r ≡ true
    by_head (Err e) is told = cc
    by_head (Ok h) is told =
        let x : Numeral = numeral_behind f text h in
        let same = value_told (common_faults f t text h x ++ partial_faults f text x) (numeral_value h.is_negative x, x.stop) (v, length text) told in
        let stop : x.stop ≡ length text = ap (λ (w : ℤ × ℕ). w.1) same in
        by_count x stop (digit_count x == 0) refl told
      where
        by_count : (x : Numeral) → x.stop ≡ length text → (b : Bool) → (digit_count x == 0) ≡ b
            → first_fault_or {A = ℤ × ℕ} (common_faults f t text h x ++ partial_faults f text x) (numeral_value h.is_negative x, x.stop) ≡ Ok (v, length text)
            → nat_lt 0 (digit_count x) ≡ true
        by_count x stop false some told = grind (arith, nat_tests)
        by_count x stop true none told =
            let read : ℤ × ℕ = (numeral_value h.is_negative x, x.stop) in
            let ends : (x.stop == length text) ≡ true = eq-eqb x.stop (length text) stop in
            let lacks : partial_faults f text x ≡ Some (Empty x.stop) ∷ [] = rw (asked, none, ends) (by_test (is_some f.digit_separator)) in
            absurd (never (common_faults f t text h x) (Empty x.stop) _ _ (ap (λ fs. first_fault_or (common_faults f t text h x ++ fs) read) (sym lacks) ∙ told))
          where
            by_test : (b : Bool) → fault_if (b || true) (Empty x.stop) ∷ [] ≡ Some (Empty x.stop) ∷ []
            by_test true = refl
            by_test false = refl

-- a text that is read as a whole is an integer part
whole_part : (f : Format) (t : IntegerType) (text : List ℕ) (v : ℤ) → partial f t text ≡ Ok (v, length text) → integer_part f t text ≡ Ok (v, length text)
unfolding integer_part
whole_part f t text v told = by_test (digits_required f) refl
  where
    by_test : (b : Bool) → digits_required f ≡ b → cond b (number_in_front f t text) (partial f t text) ≡ Ok (v, length text)
    by_test true asked = ap (λ d. if_digit d (partial f t text)) (digit_read f t text v asked told) ∙ told
    by_test false asked = told

-- an integer part has the text's sign
pub part_sign : (f : Format) (t : IntegerType) (text : List ℕ) (v : ℤ) (k : ℕ) → integer_part f t text ≡ Ok (v, k) → HasSign (is_negative t text) v
unfolding integer_part
part_sign f t text v k = by_test (digits_required f)
  where
    by_test : (b : Bool) → cond b (number_in_front f t text) (partial f t text) ≡ Ok (v, k) → HasSign (is_negative t text) v
    by_test true told = partial_sign f t text v k (digit_told _ _ _ told)
    by_test false told = partial_sign f t text v k told

-- the bytes before the point
abbrev before : List ℕ → ℕ → List ℕ
before text count = take (point_place text count) text

place_within : (text : List ℕ) (count : ℕ) → point_place text count ≤ length text
place_within text zero = omega arith
place_within text (suc n) =
    let some : (suc n == 0) ≡ false = grind (arith, nat_tests) in
    subst (λ k. k ≤ length text) (sym (ap (λ b. cond b (length text) (length text - 1 - suc n)) some)) (omega arith)

before_length : (text : List ℕ) (count : ℕ) → length (before text count) ≡ point_place text count
before_length text count = length-take-le (point_place text count) text (place_within text count)

-- ---- what is read before the point

module _ (f : Fixed) (t : IntegerType) (text : List ℕ) (count : ℕ) (front : SameBehind partial) (number : SameBehind number_in_front)
    (valid : IsNone (fixed_fault f)) (letter : digit 36 f.point ≡ None) (at : IsParted f text count) where
  abbrev read : Result (ℤ × ℕ) Error
  read = partial f.integer t (before text count)

  -- a whole number is the integer part
  pub part_is : ((format : Format) (type : IntegerType) (bytes : List ℕ) → Completes (length bytes) (complete format type bytes) (partial format type bytes))
      → (v : ℤ) → complete f.integer t (before text count) ≡ Ok v → integer_part f.integer t text ≡ Ok (v, point_place text count)
  part_is completes v told =
      let whole : read ≡ Ok (v, length (before text count)) = ((completes f.integer t (before text count)).ok v).0 told in
      same_part f t text count front number valid letter at (λ e. no_value whole e)
      ∙ whole_part f.integer t (before text count) v whole ∙ ap (λ k. Ok (v, k)) (before_length text count)
    where
      no_value : {x : Error} {w : ℤ × ℕ} {r : Result (ℤ × ℕ) Error} → r ≡ Ok w → r ≡ Err x → ⊥
      no_value is other = cc

-- what stands behind it decides
pub whole_is : (f : Fixed) (t : IntegerType) (text : List ℕ) (v : ℤ) (k : ℕ) → integer_part f.integer t text ≡ Ok (v, k) → whole_behind f t text v k ≡ complete_fixed f t text
unfolding complete_fixed
whole_is f t text v k part = sym (ap (complete_by f t text) part)

-- digits behind the point are the fraction
pub parted_units : (f : Fixed) (t : IntegerType) (text : List ℕ) (count : ℕ) (whole written units : ℤ) → IsParted f text count → HasSign (is_negative t text) whole
    → IsAppended t (is_negative t text) whole (drop (length text - count) text) written → Ok units ≡ read_zeros t (is_negative t text) written (f.places - count) (length text)
    → whole_behind f t text whole (point_place text count) ≡ Ok units
parted_units f t text zero whole written units at sign appended zeros =
    let none : length text - 0 ≡ length text = omega arith in
    whole_there f t text (drop (length text - 0) text) whole written units (length text) 0
    (ends_alone f text _ (length text) refl (ap (λ k. drop k text) none)) at.taken sign appended zeros
parted_units f t text (suc n) whole written units at sign appended zeros =
    let count : ℕ = suc n in
    let size : ℕ = length text in
    let room = at.before (omega arith) in
    let place : ℕ = size - 1 - count in
    let some : (count == 0) ≡ false = grind (arith, nat_tests) in
    let here : point_place text count ≡ place = rw some refl in
    let rest : drop (size - count) text ≡ drop (place + 1) text = (let next : size - count ≡ place + 1 = omega arith in ap (λ k. drop k text) next) in
    let long : length (drop (size - count) text) ≡ count = length-drop (size - count) text ∙ omega arith in
    let ends = ends_behind f text (drop (size - count) text) place count (at.point (omega arith)) rest appended.digits long (omega arith) at.room (omega arith) in
    ap (whole_behind f t text whole) here ∙ whole_there f t text (drop (size - count) text) whole written units place count ends at.taken sign appended zeros

-- ---- a fault before the point

-- no byte stands behind an integer part but the point
no_point_behind : (f : Fixed) (t : IntegerType) (text : List ℕ) (v : ℤ) (k : ℕ) → are_same (Some f.point) (slice_get text k) ≡ false → k < length text
    → whole_behind f t text v k ≡ Err (InvalidDigit k)
unfolding whole_behind units_behind has_point_at fraction_length whole_end digits_fault digit_outside
no_point_behind f t text v k none inside =
    let off : has_point_at f text k ≡ false = rw none (and_no (nat_lt 0 f.places)) in
    let test : nat_lt k (length text) ≡ true = lt-ltb k (length text) inside in
    rw (off, test) refl
  where
    and_no : (a : Bool) → (a && false) ≡ false
    and_no true = refl
    and_no false = refl

-- an integer part with this answer in front ends there, or a digit is missing there
part_in_front : (f : Format) (t : IntegerType) (text : List ℕ) (v : ℤ) (k : ℕ) → partial f t text ≡ Ok (v, k)
    → (integer_part f t text ≡ Ok (v, k)) ⊎ (integer_part f t text ≡ Err (Empty k))
unfolding integer_part
part_in_front f t text v k told = by_tests (digits_required f) (has_digit f t text) refl
  where
    by_tests : (a b : Bool) → has_digit f t text ≡ b
        → (cond a (number_in_front f t text) (partial f t text) ≡ Ok (v, k)) ⊎ (cond a (number_in_front f t text) (partial f t text) ≡ Err (Empty k))
    by_tests true true some = inl (ap (λ d. if_digit d (partial f t text)) some ∙ told)
    by_tests true false none = inr (ap (λ d. if_digit d (partial f t text)) none ∙ ap (if_digit false) told)
    by_tests false b some = inl told

-- and a fault in front is that of the integer part
fault_in_front : (f : Format) (t : IntegerType) (text : List ℕ) (e : Error) → partial f t text ≡ Err e → integer_part f t text ≡ Err e
unfolding integer_part
fault_in_front f t text e told = by_tests (digits_required f) (has_digit f t text)
  where
    by_tests : (a b : Bool) → cond a (if_digit b (partial f t text)) (partial f t text) ≡ Err e
    by_tests true true = told
    by_tests true false = ap (if_digit false) told
    by_tests false b = told

module _ (f : Fixed) (t : IntegerType) (text : List ℕ) (count : ℕ) (front : SameBehind partial) (number : SameBehind number_in_front)
    (valid : IsNone (fixed_fault f)) (letter : digit 36 f.point ≡ None) (at : IsParted f text count)
    (completed : (format : Format) (type : IntegerType) (bytes : List ℕ) → complete format type bytes ≡ completion_of (length bytes) (partial format type bytes))
    (e : Error) (failed : complete f.integer t (before text count) ≡ Err e) (told : IsToldBefore f text e) where
  abbrev part : List ℕ
  part = before text count

  size : length part ≤ length text
  size = let long = before_length text count in let within = place_within text count in omega (arith, long, within)

  fault_of : (r : Result (ℤ × ℕ) Error) → partial f.integer t part ≡ r → completion_of (length part) r ≡ Err e
  fault_of r is = sym (ap (completion_of (length part)) is) ∙ sym (completed f.integer t part) ∙ failed

  by_part : (r : Result (ℤ × ℕ) Error) → integer_part f.integer t part ≡ r → partial f.integer t part ≢ Err (Empty (length part)) → complete_fixed f t text ≡ complete_by f t text r
  unfolding complete_fixed
  by_part r is other = ap (complete_by f t text) (same_part f t text count front number valid letter at other ∙ is)

  -- a byte that can't stand
  stops : (v : ℤ) (k : ℕ) → partial f.integer t part ≡ Ok (v, k) → complete_fixed f t text ≡ Err e
  stops v k is = by_place (nat_lt k (length part)) refl (fault_of (Ok (v, k)) is)
    where
      other : partial f.integer t part ≢ Err (Empty (length part))
      other ends = let both : Ok (v, k) ≡ Err (Empty (length part)) = sym is ∙ ends in cc

      by_place : (b : Bool) → nat_lt k (length part) ≡ b → cond b (Err (InvalidDigit k)) (Ok v) ≡ Err e → complete_fixed f t text ≡ Err e
      by_place false past fault = absurd (cc)
      by_place true within fault =
          let here : InvalidDigit k ≡ e = cc in
          let none : are_same (Some f.point) (slice_get text k) ≡ false = subst (IsToldBefore f text) (sym here) told in
          let low : k < length part = grind (arith, nat_tests) in
          let inside : k < length text = omega (arith, low, size) in
          elim (part_in_front f.integer t part v k is) [
            | inl found ↦ by_part (Ok (v, k)) found other ∙ no_point_behind f t text v k none inside ∙ ap Err here
            | inr found ↦
                by_part (Err (Empty k)) found other
                ∙ ap (λ b. Err (cond b (InvalidDigit k) (Empty k))) (lt-ltb k (length text) inside) ∙ ap Err here
          ]

  -- a digit that is missing before other bytes
  lacks : (k : ℕ) → partial f.integer t part ≡ Err (Empty k) → complete_fixed f t text ≡ Err e
  lacks k is = by_place (nat_lt k (length part)) refl (fault_of (Err (Empty k)) is)
    where
      by_place : (b : Bool) → nat_lt k (length part) ≡ b → ◌≡◌ {A = Result ℤ Error} (cond b (Err (InvalidDigit k)) (Err (Empty k))) (Err e) → complete_fixed f t text ≡ Err e
      by_place false past fault = absurd (let here : Empty k ≡ e = cc in subst (IsToldBefore f text) (sym here) told)
      by_place true within fault =
          let here : InvalidDigit k ≡ e = cc in
          let low : k < length part = grind (arith, nat_tests) in
          let inside : k < length text = omega (arith, low, size) in
          by_part (Err (Empty k)) (fault_in_front f.integer t part (Empty k) is)
          (λ ends. (let both : ◌≡◌ {A = Result (ℤ × ℕ) Error} (Err (Empty k)) (Err (Empty (length part))) = sym is ∙ ends in let same : k ≡ length part = cc in omega (arith, low, same)))
          ∙ ap (λ b. Err (cond b (InvalidDigit k) (Empty k))) (lt-ltb k (length text) inside) ∙ ap Err here

  -- another fault
  fails : (x : Error) → partial f.integer t part ≡ Err x → is_empty x ≡ false → ((n : ℕ) → completion_of n (Err x) ≡ Err x) → ((n : ℕ) → whole_fault n x ≡ x) → complete_fixed f t text ≡ Err e
  fails x is other completes stays =
      let fault : Err x ≡ Err e = sym (completes (length part)) ∙ fault_of (Err x) is in
      let here : x ≡ e = cc in
      by_part (Err x) (fault_in_front f.integer t part x is)
      (λ ends. (let both : ◌≡◌ {A = Result (ℤ × ℕ) Error} (Err x) (Err (Empty (length part))) = sym is ∙ ends in let same : x ≡ Empty (length part) = cc in false≢true (sym other ∙ ap is_empty same)))
      ∙ ap Err (stays (length text)) ∙ ap Err here

  -- a fault before the point that is told is that of the text
  pub fault_is : complete_fixed f t text ≡ Err e
  fault_is = by_front (partial f.integer t part) refl
    where
      by_front : (r : Result (ℤ × ℕ) Error) → partial f.integer t part ≡ r → complete_fixed f t text ≡ Err e
      by_front (Ok (v, k)) is = stops v k is
      by_front (Err (Empty k)) is = lacks k is
      by_front (Err (Overflow k)) is = fails (Overflow k) is refl (λ n. refl) (λ n. refl)
      by_front (Err (Underflow k)) is = fails (Underflow k) is refl (λ n. refl) (λ n. refl)
      by_front (Err (InvalidDigit k)) is = fails (InvalidDigit k) is refl (λ n. refl) (λ n. refl)
      by_front (Err (MissingSign k)) is = fails (MissingSign k) is refl (λ n. refl) (λ n. refl)
      by_front (Err (InvalidPositiveSign k)) is = fails (InvalidPositiveSign k) is refl (λ n. refl) (λ n. refl)
      by_front (Err (InvalidLeadingZeros k)) is = fails (InvalidLeadingZeros k) is refl (λ n. refl) (λ n. refl)
      by_front (Err InvalidMantissaRadix) is = fails InvalidMantissaRadix is refl (λ n. refl) (λ n. refl)
      by_front (Err InvalidDigitSeparator) is = fails InvalidDigitSeparator is refl (λ n. refl) (λ n. refl)
      by_front (Err InvalidBasePrefix) is = fails InvalidBasePrefix is refl (λ n. refl) (λ n. refl)
      by_front (Err InvalidBaseSuffix) is = fails InvalidBaseSuffix is refl (λ n. refl) (λ n. refl)
      by_front (Err InvalidPunctuation) is = fails InvalidPunctuation is refl (λ n. refl) (λ n. refl)
      by_front (Err InvalidLiteralPrefixes) is = fails InvalidLiteralPrefixes is refl (λ n. refl) (λ n. refl)
