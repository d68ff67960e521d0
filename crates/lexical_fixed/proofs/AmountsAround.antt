-- Short amounts by words: digits around a point, with separators before it, are what the whole text stands for.
use Rattle.std.proofs.Common.{◌≡◌, ℕ, zero, suc, ◌+◌, ◌-◌, ◌*◌, ◌^◌, ◌≤◌, Bool, true, false, not, ◌&&◌, IsTrue, List, [], ◌∷◌, ◌++◌, length, take, drop, Option, Some, None, IsNone, is_some, Ok, refl, sym, ap, subst, ◌∙◌, arith, inl}
use Rattle.std.proofs.Math.IntN.{ℤ, nat_abs, pos}
use Rattle.std.proofs.lemmas.Bool.Decides.{nat_tests}
use Rattle.std.proofs.Math.Nat.{one-le-pow, mul-le-mul_left}
use Rattle.std.proofs.lemmas.List.{take_all}
use Rattle.std.proofs.lemmas.List.Elements.{filter_map-append}
use Rattle.std.proofs.lemmas.Bool.{lt-ltb, ltb-true}
use Rattle.std.proofs.lemmas.Int.{to_z-of_z}
use Rattle.std.specs.Prelude.{◌==◌, IfSome, nat_lt, slice_get, slice_range}
use mir.Syntax.{w64}
use mir.Val.{bool_byte, of_z, to_z}
use Rattle.lexical_util.specs.Ascii.{minus as minus_sign}
use Rattle.lexical_util.specs.Digit.{digit}
use Rattle.lexical_util.specs.Format.{Format}
use Rattle.lexical_util.specs.Number.{HasSign, IntegerType, IsNumber, integer_type, is_number}
use Rattle.lexical_util.specs.Validity.{fault}
use Rattle.lexical_digits.specs.Value.{positional_value, with_sign}
use Rattle.lexical_digits.specs.Words.{AreDigits, word_value}
use Rattle.lexical_digits.proofs.DigitValues.{positional_value-append, with_sign-step}
use Rattle.lexical_digits.proofs.LongNumbers.{sign_held}
use Rattle.lexical_parse_integer.specs.Fronts.{number_in_front}
use Rattle.lexical_parse_integer.specs.Grammar.{complete, fault_if, first_fault_or, partial, range_error}
use Rattle.lexical_parse_integer.specs.Laws.{Completes}
use Rattle.lexical_parse_integer.specs.Grouped.{AreGrouped, AreWorth, digits_among}
use Rattle.lexical_parse_integer.specs.Head.{sign}
use Rattle.lexical_parse_integer.specs.Plain.{IsBehind, keeps_zero_rule}
use Rattle.lexical_parse_integer.specs.Runs.{are_same}
use Rattle.lexical_parse_integer.proofs.ForCallers.{fits, groups_read, head_is, sign_of_digit_under, sign_of_minus_under}
use Rattle.lexical_fixed.specs.Append.{IsAppended}
use Rattle.lexical_fixed.specs.Around.{IsShortAmount, IsValueAround}
use Rattle.lexical_fixed.specs.Fixed.{Fixed}
use Rattle.lexical_fixed.specs.Fraction.{read_zeros, with_digits, with_zeros, zeros_fault}
use Rattle.lexical_fixed.specs.Grammar.{complete_fixed, is_negative}
use Rattle.lexical_fixed.specs.Parted.{IsParted, point_place}
use Rattle.lexical_fixed.specs.Quick.{HasPoint}
use Rattle.lexical_fixed.specs.Validity.{fixed_fault}
use Rattle.lexical_fixed.proofs.Appended.{appended_sign}
use Rattle.lexical_fixed.proofs.AroundPoint.{among_digits, among_length}
use Rattle.lexical_fixed.proofs.Digits.{is_number-below, times_is}
use Rattle.lexical_fixed.proofs.LastPoints.{SameBehind, part_is, part_sign, parted_units, whole_is}
use Rattle.lexical_fixed.proofs.QuickDigits.{no_zeros, no_zeros_fault}
use Rattle.lexical_fixed.proofs.ShortNumbers.{behind_drop, behind_length}
use Rattle.lexical_fixed.proofs.ShortUnits.{parted_by}
use Rattle.lexical_fixed.proofs.Valid.{integer_valid}
use Rattle.lexical_fixed.proofs.QuickParts.{IsDecimal, decimal_of, none_of}

-- ---- the integer part

-- a byte that is a digit has a value
value_there : (c : ℕ) → is_some (digit 10 c) ≡ true → (d : ℕ) × (digit 10 c ≡ Some d)
value_there c some = by_digit (digit 10 c) refl some
  where
    by_digit : (o : Option ℕ) → digit 10 c ≡ o → is_some o ≡ true → (d : ℕ) × (digit 10 c ≡ Some d)
    by_digit None is some = cc
    by_digit (Some d) is some = (d, is)

-- digits with separators between them, behind a minus or none, are read as a whole
whole_groups : (f : Format) (t : IntegerType) (b : Bool) (text part : List ℕ) (value : ℤ) → IsNone (fault f) → IsDecimal f → f.required_mantissa_sign ≡ false
    → IsBehind b t text part → AreGrouped f 10 part → keeps_zero_rule f part ≡ true → AreWorth t 10 b part value → complete f t text ≡ Ok value
whole_groups f t b text [] value valid decimal unasked behind grouped rule worth = let some = grouped.some in absurd (omega arith)
whole_groups f t false text (c ∷ cs) value valid decimal unasked behind grouped rule worth =
    let part : List ℕ = c ∷ cs in
    let first = value_there c grouped.first in
    let signed : sign f t part ≡ Ok (false, 0) = sign_of_digit_under f t 10 c first.0 cs unasked first.1 in
    let size : length part - 0 ≡ length part = omega arith in
    let all : slice_range part 0 (length part) ≡ part = ap (λ n. take n part) size ∙ take_all (length part) part (omega arith) in
    ap (complete f t) behind
    ∙ groups_read f t part _ value 10 valid (head_is f t part (false, 0) decimal.no_prefix decimal.no_literals decimal.no_octal_zeros signed) decimal.radix (omega arith)
    (ap (keeps_zero_rule f) all ∙ rule)
    (subst (λ (bs : List ℕ). AreGrouped f 10 bs) (sym all) grouped)
    (subst (λ (bs : List ℕ). AreWorth t 10 false bs value) (sym all) worth)
whole_groups f t true text (c ∷ cs) value valid decimal unasked behind grouped rule worth =
    let part : List ℕ = c ∷ cs in
    let signed : sign f t (45 ∷ part) ≡ Ok (true, 1) = sign_of_minus_under f t part behind.1 in
    let all : slice_range (45 ∷ part) 1 (length (45 ∷ part)) ≡ part = take_all _ part (omega arith) in
    ap (complete f t) behind.0
    ∙ groups_read f t (45 ∷ part) _ value 10 valid (head_is f t (45 ∷ part) (true, 1) decimal.no_prefix decimal.no_literals decimal.no_octal_zeros signed) decimal.radix (omega arith)
    (ap (keeps_zero_rule f) all ∙ rule)
    (subst (λ (bs : List ℕ). AreGrouped f 10 bs) (sym all) grouped)
    (subst (λ (bs : List ℕ). AreWorth t 10 true bs value) (sym all) worth)

-- ---- the number

among_joined : (xs ys : List ℕ) → digits_among 10 (xs ++ ys) ≡ digits_among 10 xs ++ digits_among 10 ys
among_joined xs ys = filter_map-append (λ byte. digit 10 byte) xs ys

module _ (f : Fixed) (t : IntegerType) (b : Bool) (text bytes : List ℕ) (count : ℕ) (v : ℤ) (behind : IsBehind b t text bytes) (minus : b ≡ is_negative t text)
    (m : IsShortAmount f t b bytes count v) where
  abbrev place : ℕ
  place = length bytes - 1 - count

  abbrev w : ℤ
  w = m.written

  abbrev a : IsValueAround t b f.integer place bytes w
  a = m.around

  size : length bytes ≡ place + 1 + count
  size = let long = m.before in omega arith

  abbrev part : List ℕ
  part = take place bytes

  abbrev rest : List ℕ
  rest = drop (place + 1) bytes

  abbrev worth : ℕ
  worth = positional_value 10 (digits_among 10 part)

  abbrev whole : ℤ
  whole = with_sign b worth

  -- the number is that of the digits before the point, and of those behind it
  sum : a.number ≡ worth * 10 ^ length rest + word_value 10 rest
  sum =
      let values = among_digits rest a.around.fraction in
      let long = among_length rest a.around.fraction in
      a.around.worth ∙ ap (positional_value 10) (among_joined part rest) ∙ positional_value-append 10 (digits_among 10 part) (digits_among 10 rest)
      ∙ ap (λ n. worth * 10 ^ n + positional_value 10 (digits_among 10 rest)) long
      ∙ ap (λ ds. worth * 10 ^ length rest + positional_value 10 ds) values

  appended : w ≡ with_digits b whole rest
  unfolding with_digits
  appended = a.worth ∙ ap (with_sign b) sum ∙ sym (with_sign-step b worth (10 ^ length rest) (word_value 10 rest))

  part_fits : IsNumber t whole
  part_fits =
      let total = sum in
      let one : 1 ≤ 10 ^ length rest = one-le-pow (length rest) 10 (omega arith) in
      let up : worth * 1 ≤ worth * 10 ^ length rest = mul-le-mul_left worth one in
      let below : worth ≤ a.number = omega arith in
      is_number-below t b worth a.number below (ap (is_number t) (sym a.worth) ∙ a.fits)

  -- where the point stands in the text
  stands : point_place text count ≡ bool_byte b + place
  stands =
      let long = behind_length b t text bytes behind in
      let some : (count == 0) ≡ false = (let s = m.some in grind (arith, nat_tests)) in
      rw some (omega (arith, long, size))

  before_is : IsBehind b t (take (point_place text count) text) part
  before_is = subst (λ k. IsBehind b t (take k text) part) (sym stands) (taken b behind)
    where
      taken : (b : Bool) → IsBehind b t text bytes → IsBehind b t (take (bool_byte b + place) text) part
      taken false same = let e : 0 + place ≡ place = omega arith in ap (λ k. take k text) e ∙ ap (take place) same
      taken true same = let e : 1 + place ≡ suc place = omega arith in (ap (λ k. take k text) e ∙ ap (take (suc place)) same.0, same.1)

  behind_is : drop (length text - count) text ≡ rest
  behind_is =
      let long = behind_length b t text bytes behind in
      let here : length text - count ≡ bool_byte b + (place + 1) = omega (arith, long, size) in
      ap (λ k. drop k text) here ∙ behind_drop b t text bytes (place + 1) behind

  -- so the whole text stands for it
  pub short_amount : SameBehind partial → SameBehind number_in_front → ((format : Format) (type : IntegerType) (bs : List ℕ) → Completes (length bs) (complete format type bs) (partial format type bs))
      → IsNone (fixed_fault f) → digit 36 f.point ≡ None → IsParted f text count → complete_fixed f t text ≡ Ok v
  short_amount front number completes valid letter at =
      let decimal = decimal_of f valid in
      let read : complete f.integer t (take (point_place text count) text) ≡ Ok whole =
      whole_groups f.integer t b _ part whole (integer_valid f valid) decimal m.no_sign before_is a.around.part m.rule (record { worth = refl; fits = part_fits }) in
      let is = part_is f t text count front number valid letter at completes whole read in
      let held : HasSign (is_negative t text) whole = part_sign f.integer t text whole _ is in
      let more : IsAppended t (is_negative t text) whole (drop (length text - count) text) w = record {
        digits = subst (λ (bs : List ℕ). AreDigits 10 bs) (sym behind_is) a.around.fraction;
        worth = appended ∙ ap (λ c. with_digits c whole rest) minus ∙ ap (with_digits (is_negative t text) whole) (sym behind_is);
        fits = λ some. a.fits;
      } in
      let zeros : ℕ = f.places - count in
      let none = no_zeros_fault t (is_negative t text) w zeros (length text) (ap (is_number t) (sym m.worth) ∙ m.fits) in
      let units : Ok v ≡ read_zeros t (is_negative t text) w zeros (length text) = rw none (ap Ok m.worth) in
      sym (whole_is f t text whole _ is) ∙ parted_units f t text count whole w v at held more units

-- the separator of a valid description is no digit
pub separator_no_digit : (f : Fixed) → IsNone (fixed_fault f) → IfSome f.integer.digit_separator (λ byte. digit 10 byte ≡ None)
separator_no_digit f valid = by_byte f.integer.digit_separator refl
  where
    by_byte : (o : Option ℕ) → f.integer.digit_separator ≡ o → IfSome o (λ byte. digit 10 byte ≡ None)
    by_byte None is = tt
    by_byte (Some byte) is = ap (λ r. digit r byte) (sym (decimal_of f valid).radix) ∙ (fits f.integer (integer_valid f valid)).separator byte is

-- the number with its zeros, where it has a value
zeros_told : (t : IntegerType) (b : Bool) (written units : ℤ) (zeros place : ℕ) → HasSign b written → IsNumber t written → Ok units ≡ read_zeros t b written zeros place → (units ≡ with_zeros written zeros) × IsNumber t units
unfolding zeros_fault
zeros_told t b written units zero place signed held told =
    let is : units ≡ with_zeros written 0 = cc in
    let none : with_zeros written 0 ≡ written = (no_zeros t b written place signed).1 in
    (is, ap (is_number t) (is ∙ none) ∙ held)
zeros_told t b written units (suc n) place signed held told =
    let some : nat_lt 0 (suc n) ≡ true = lt-ltb 0 (suc n) (omega arith) in
    by_test (is_number t (with_zeros written (suc n))) refl
    (subst (λ (x : Bool). Ok units ≡ first_fault_or (fault_if (x && not (is_number t (with_zeros written (suc n)))) (range_error b place) ∷ []) (with_zeros written (suc n))) some told)
  where
    by_test : (fits : Bool) → is_number t (with_zeros written (suc n)) ≡ fits
        → Ok units ≡ first_fault_or (fault_if (not fits) (range_error b place) ∷ []) (with_zeros written (suc n)) → (units ≡ with_zeros written (suc n)) × IsNumber t units
    by_test true fits told = let is : units ≡ with_zeros written (suc n) = cc in (is, ap (is_number t) is ∙ fits)
    by_test false fits told = absurd (cc)

-- such digits and their zeros are a short amount
pub short_found : (f : Fixed) (t : IntegerType) (b : Bool) (bytes : List ℕ) (count : ℕ) (written units : ℤ)
    → count + 2 ≤ length bytes → 1 ≤ count → f.integer.required_mantissa_sign ≡ false → keeps_zero_rule f.integer (take (length bytes - 1 - count) bytes) ≡ true
    → IsValueAround t b f.integer (length bytes - 1 - count) bytes written → Ok units ≡ read_zeros t b written (f.places - count) 0 → IsShortAmount f t b bytes count units
short_found f t b bytes count written units before some no_sign rule around read =
    let told = zeros_told t b written units (f.places - count) 0 (sign_held b written around.number around.worth) around.fits read in
    record { before = before; some = some; no_sign = no_sign; rule = rule; written = written; around = around; worth = told.0; fits = told.1 }

-- what is found is what the whole text stands for
pub short_amounts : {V : Type 0} (number_of : V → ℤ) (f : Fixed) (t : IntegerType) (b : Bool) (text bytes : List ℕ) (count : ℕ) (found : Option V)
    → IsBehind b t text bytes → b ≡ is_negative t text → SameBehind partial → SameBehind number_in_front
    → ((format : Format) (type : IntegerType) (bs : List ℕ) → Completes (length bs) (complete format type bs) (partial format type bs))
    → IsNone (fixed_fault f) → digit 36 f.point ≡ None → IsParted f text count
    → IfSome found (λ v. IsShortAmount f t b bytes count (number_of v)) → IfSome found (λ v. complete_fixed f t text ≡ Ok (number_of v))
short_amounts number_of f t b text bytes count None behind minus front number completes valid letter at m = tt
short_amounts number_of f t b text bytes count (Some v) behind minus front number completes valid letter at m =
    short_amount f t b text bytes count (number_of v) behind minus m front number completes valid letter at

-- ---- in each type

-- what a short amount without a sign is worth
pub short_worth : (f : Fixed) (t : IntegerType) (bytes : List ℕ) (count : ℕ) (v : ℤ) (m : IsShortAmount f t false bytes count v) → v ≡ pos (m.around.number * 10 ^ (f.places - count))
short_worth f t bytes count v m =
    m.worth ∙ ap (λ z. with_zeros z (f.places - count)) m.around.worth ∙ times_is false m.around.number (10 ^ (f.places - count))

-- digits that have a value in one type have it in each that has the number
in_type : (f : Fixed) (s t : IntegerType) (b : Bool) (bytes : List ℕ) (count n : ℕ) (v : ℤ) → v ≡ pos n → IsNumber t (with_sign b n) → IsShortAmount f s false bytes count v → IsShortAmount f t b bytes count (with_sign b n)
in_type f s t b bytes count n v is fits m =
    let number : ℕ = m.around.number in
    let scale : ℕ = 10 ^ (f.places - count) in
    let same : n ≡ number * scale = ap nat_abs (sym is ∙ short_worth f s bytes count v m) in
    let one : 1 ≤ scale = one-le-pow (f.places - count) 10 (omega arith) in
    let up : number * 1 ≤ number * scale = mul-le-mul_left number one in
    record {
      before = m.before;
      some = m.some;
      no_sign = m.no_sign;
      rule = m.rule;
      written = with_sign b number;
      around = record { number = number; around = m.around.around; worth = refl; fits = is_number-below t b number n (omega (arith, same, up)) fits };
      worth = ap (with_sign b) same ∙ sym (times_is b number scale);
      fits = fits;
    }

behind_in : (s t : IntegerType) (b : Bool) (text bytes : List ℕ) → (IsTrue b → t.is_signed ≡ true) → IsBehind b s text bytes → IsBehind b t text bytes
behind_in s t false text bytes signed is = is
behind_in s t true text bytes signed is = (is.0, signed refl)

minus_in : (s t : IntegerType) (b : Bool) (text : List ℕ) → s.is_signed ≡ true → (IsTrue b → t.is_signed ≡ true) → b ≡ is_negative s text → b ≡ is_negative t text
unfolding is_negative
minus_in s t b text some signed is = by_sign b t.is_signed signed (is ∙ ap (λ c. c && are_same (Some minus_sign) (slice_get text 0)) some)
  where
    by_sign : (b c : Bool) → (IsTrue b → c ≡ true) → b ≡ are_same (Some minus_sign) (slice_get text 0) → b ≡ c && are_same (Some minus_sign) (slice_get text 0)
    by_sign false true signed is = is
    by_sign false false signed is = refl
    by_sign true c signed is = let yes = signed refl in rw yes is

-- what is read as one type is what the whole text stands for in each type that has the number
pub units_in : (f : Fixed) (s : IntegerType) (b : Bool) (text bytes : List ℕ) (count n : ℕ) (v : ℤ) → s.is_signed ≡ true → IsBehind b s text bytes → b ≡ is_negative s text → v ≡ pos n
    → SameBehind partial → SameBehind number_in_front → ((format : Format) (type : IntegerType) (bs : List ℕ) → Completes (length bs) (complete format type bs) (partial format type bs))
    → IsNone (fixed_fault f) → digit 36 f.point ≡ None → IsParted f text count → IsShortAmount f s false bytes count v
    → (t : IntegerType) → (IsTrue b → t.is_signed ≡ true) → IsNumber t (with_sign b n) → complete_fixed f t text ≡ Ok (with_sign b n)
units_in f s b text bytes count n v some behind minus is front number completes valid letter at m t signed fits =
    short_amount f t b text bytes count (with_sign b n) (behind_in s t b text bytes signed behind) (minus_in s t b text some signed minus) (in_type f s t b bytes count n v is fits m)
    front number completes valid letter at

-- a number that isn't below 0 is the same without a sign
pub without_sign : (n : ℕ) (v : ℤ) → v ≡ pos n → IsNumber (integer_type 64 true) v → v ≡ pos (nat_abs (to_z w64 (of_z w64 v)))
without_sign n v is fits =
    let number = subst (IsNumber (integer_type 64 true)) is fits in
    let low = ltb-true _ _ number in
    let same : to_z w64 (of_z w64 (pos n)) ≡ pos n = to_z-of_z w64 (pos n) (record { sfits = omega arith }) in
    is ∙ ap pos (sym (subst (λ z. nat_abs (to_z w64 (of_z w64 z)) ≡ n) (sym is) (ap nat_abs same)))

-- a byte that is no digit has no value
pub no_value : (c point : ℕ) (found : Bool) → found ≡ is_some (digit 36 c) → c ≡ point → found ≡ false → digit 36 point ≡ None
no_value c point found is same not_one = ap (digit 36) (sym same) ∙ none_of (digit 36 c) (sym is ∙ not_one)

-- a point with all places behind it parts the text
pub parted_there : (f : Fixed) (bytes : List ℕ) (count : ℕ) (place : Option ℕ) → count ≡ f.places → is_some place ≡ true → IfSome place (λ at. HasPoint f bytes count) → IsParted f bytes count
parted_there f bytes count None all some at = cc
parted_there f bytes count (Some place) all some at = parted_by f bytes count (omega arith) (inl (omega arith)) at
