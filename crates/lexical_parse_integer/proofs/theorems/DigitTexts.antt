-- Texts under the standard format in some radix: what a text of digits alone behind a sign is read as, and what
-- a text that is read consists of. For `ReadBack` and `ZerosInFront`.
use Rattle.std.proofs.Common.{slice_get, ◌≡◌, ℕ, zero, suc, ◌+◌, ◌-◌, ◌<◌, ◌≤◌, Bool, true, false, not, cond, List, [], ◌∷◌, ◌++◌, length, take, refl, sym, ap, ◌∙◌, arith, Option, Some, None, Ok, Err, Result}
use Rattle.std.proofs.Math.IntN.{ℤ}
use Rattle.std.proofs.Math.Bool.{and-false}
use Rattle.std.proofs.lemmas.Bool.{le-ltb, ltb-false, ne_eqb}
use Rattle.std.proofs.lemmas.List.{take_all}
use Rattle.std.proofs.lemmas.List.FromFn.{length-map-range_with_len}
use Rattle.std.specs.Prelude.{◌==◌, nat_lt, find, slice_index}
use Rattle.std.specs.List.{range_with_len}
use Rattle.std.specs.Option.{option_map, unwrap_or}
use Rattle.lexical_util.specs.declared.error.Error.{Error}
use Rattle.lexical_util.specs.declared.error.Error.TheVariants.{InvalidDigit, Empty}
use Rattle.lexical_util.specs.Format.{Format}
use Rattle.lexical_util.specs.Number.{IntegerType, is_number}
use Rattle.lexical_parse_integer.specs.Affixes.{is_affix, named_radix, octal_zero_at, prefix_radix, suffix_at}
use Rattle.lexical_parse_integer.specs.Grammar.{common_faults, complete, complete_faults, fault_if, first_fault_or, first_outside, lacks_digits, prefix_fault, range_error, range_fault, zero_fault}
use Rattle.lexical_parse_integer.specs.Head.{Head, head_of, sign, head_behind}
use Rattle.lexical_parse_integer.specs.Laws.{with_radix}
use Rattle.lexical_parse_integer.specs.Numeral.{Numeral, digit_count, front_value, numeral_value}
use Rattle.lexical_parse_integer.specs.Plain.{IsPlain}
use Rattle.lexical_parse_integer.specs.Runs.{are_same, digit_at}
use Rattle.lexical_digits.specs.Value.{positional_value, with_sign}
use Rattle.lexical_parse_integer.proofs.theorems.CompleteByPartial.{sign_within}
use Rattle.lexical_parse_integer.proofs.grammar.FrontValues.{fitting_fault}
use Rattle.lexical_parse_integer.proofs.grammar.DigitsInARow.{EndsRow, has_digit, numeral_in_a_row, row, row_count, row_ends, row_numeral}
use Rattle.lexical_parse_integer.proofs.reading.OctalZeros.{not_asked}
use Rattle.lexical_parse_integer.proofs.grammar.Stretches.{HoldsBetween}
use Rattle.lexical_parse_integer.proofs.grammar.RangeOfFronts.{shorter_fronts_fit}

-- what the digits from start to the text's end are worth
abbrev pub rest_value : ℕ → List ℕ → ℕ → ℕ
rest_value r text start = positional_value r (row r text start (length text - start))

-- the complete answer by the head and the numeral
abbrev pub complete_by : Format → IntegerType → List ℕ → Head → Numeral → Result ℤ Error
complete_by f t text h x = first_fault_or (common_faults f t text h x ++ complete_faults f text x) (numeral_value h.is_negative x)

pub complete_row : (f : Format) (t : IntegerType) (text : List ℕ) (h : Head) (count : ℕ) → f.digit_separator ≡ None → head_of f t text ≡ Ok h → h.start ≤ length text → EndsRow h.radix text h.start (h.start + count) →
    complete f t text ≡ complete_by f t text h (row_numeral f text h.start h.radix count)
unfolding complete
complete_row f t text h count none head low ends = rw (head, numeral_in_a_row f h.is_prefixed text h.start h.radix count none low ends) refl

-- without a prefix the head is the sign
pub head_is : (f : Format) (t : IntegerType) (text : List ℕ) (s : Bool × ℕ) → f.base_prefix ≡ None → f.literal_prefixes ≡ false → f.literal_octal_zero ≡ false → sign f t text ≡ Ok s → head_of f t text ≡ Ok (record { is_negative = s.0; is_prefixed = false; is_octal = false; start = s.1; radix = f.mantissa_radix })
unfolding head_of octal_zero_at prefix_radix named_radix is_affix
head_is f t text s none unasked plain sign_is =
    rw (sign_is, none, unasked) (by_zero (are_same (Some 48) (slice_get text s.1)))
  where
    by_zero : (zero : Bool) → ◌≡◌ {A = Result Head Error} (Ok (head_behind f text s (cond zero None None))) (Ok (record { is_negative = s.0; is_prefixed = false; is_octal = false; start = s.1; radix = f.mantissa_radix }))
    by_zero true = rw (not_asked f text s.1 plain) refl
    by_zero false = rw (not_asked f text s.1 plain) refl

-- without a suffix reading stops at the end
pub stop_plain : (f : Format) (text : List ℕ) (start r count : ℕ) → f.base_suffix ≡ None → (row_numeral f text start r count).stop ≡ start + count
unfolding suffix_at is_affix
stop_plain f text start r count none = rw (none, and-false) refl

-- all digits of a row
pub take_row : (r : ℕ) (text : List ℕ) (start count : ℕ) → take (length (row r text start count)) (row r text start count) ≡ row r text start count
take_row r text start count = take_all (length (row r text start count)) (row r text start count) (omega arith)

-- digits alone behind the sign are read, under each format without punctuation whose zero rule they keep
pub digits_read_under : (f : Format) (t : IntegerType) (text : List ℕ) (s : Bool × ℕ) → IsPlain f → 1 ≤ f.mantissa_radix → sign f t text ≡ Ok s → s.1 < length text → HoldsBetween (has_digit f.mantissa_radix text) s.1 (length text) →
    zero_fault f false (row_numeral f text s.1 f.mantissa_radix (length text - s.1)) ≡ None →
    is_number t (with_sign s.0 (rest_value f.mantissa_radix text s.1)) ≡ true → complete f t text ≡ Ok (with_sign s.0 (rest_value f.mantissa_radix text s.1))
digits_read_under f t text s plain positive sign_is some all no_zeros fits =
    let r : ℕ = f.mantissa_radix in
    let n : ℕ = length text - s.1 in
    let h : Head = record { is_negative = s.0; is_prefixed = false; is_octal = false; start = s.1; radix = r } in
    let x : Numeral = row_numeral f text s.1 r n in
    let end : s.1 + n ≡ length text = omega arith in
    let ends : EndsRow r text s.1 (s.1 + n) = rw end (record { low = omega arith; high = omega arith; holds = all; fails = λ l. absurd (omega arith) }) in
    let count : digit_count x ≡ n = length-map-range_with_len (λ place. unwrap_or (digit_at r text place) 0) s.1 n in
    let value : numeral_value s.0 x ≡ with_sign s.0 (rest_value r text s.1) = ap (λ (ds : List ℕ). with_sign s.0 (positional_value r ds)) (take_row r text s.1 n) in
    let fit = shorter_fronts_fit t s.0 x (digit_count x) positive (ap (is_number t) value ∙ fits) in
    let no_range : range_fault t s.0 x ≡ None = fitting_fault t s.0 x fit in
    let stop : x.stop ≡ s.1 + n = stop_plain f text s.1 r n plain.no_suffix in
    let over : nat_lt x.stop (length text) ≡ false = le-ltb x.stop (length text) (omega arith) in
    let digits_there : (digit_count x == 0) ≡ false = ne_eqb (digit_count x) 0 (λ e. omega arith) in
    let zeros : zero_fault f false x ≡ None = no_zeros in
    let answer : complete_by f t text h x ≡ Ok (numeral_value s.0 x) = rw (zeros, no_range, over, digits_there, and-false) refl in
    complete_row f t text h n plain.no_separator (head_is f t text s plain.no_prefix plain.no_literals plain.no_octal_zeros sign_is) (omega arith) ends ∙ answer ∙ ap (λ (z : ℤ). Ok z) value

-- a format of another radix has no punctuation
plain_with_radix : (r : ℕ) → IsPlain (with_radix r)
plain_with_radix r = record { no_separator = refl; no_prefix = refl; no_suffix = refl; no_literals = refl; no_octal_zeros = refl; no_sign = refl }

-- digits alone behind the sign are read
pub digits_read : (r : ℕ) (t : IntegerType) (text : List ℕ) (s : Bool × ℕ) → 1 ≤ r → sign (with_radix r) t text ≡ Ok s → s.1 < length text → HoldsBetween (has_digit r text) s.1 (length text) →
    is_number t (with_sign s.0 (rest_value r text s.1)) ≡ true → complete (with_radix r) t text ≡ Ok (with_sign s.0 (rest_value r text s.1))
digits_read r t text s positive sign_is some all fits = digits_read_under (with_radix r) t text s (plain_with_radix r) positive sign_is some all refl fits

-- ---- what a value tells of the text

-- What it means that the whole text is read: digits alone stand behind the sign, and the value is theirs.
pub record IsWhole (r : ℕ) (t : IntegerType) (text : List ℕ) (v : ℤ) : Type 0 where
  pub s : Bool × ℕ
  pub sign_is : sign (with_radix r) t text ≡ Ok s
  pub some : s.1 < length text
  pub all : HoldsBetween (has_digit r text) s.1 (length text)
  pub value : v ≡ with_sign s.0 (rest_value r text s.1)
  pub fits : is_number t (with_sign s.0 (rest_value r text s.1)) ≡ true

-- a value comes only without a fault
five_ok : {A : Type 0} (a b c d e : Option Error) (v w : A) → first_fault_or (a ∷ b ∷ c ∷ d ∷ e ∷ []) v ≡ Ok w → (c ≡ None) × (d ≡ None) × (e ≡ None) × (v ≡ w)
five_ok None None None None None v w h = (refl, refl, refl, cc)
five_ok (Some x) b c d e v w h = cc
five_ok None (Some x) c d e v w h = cc
five_ok None None (Some x) d e v w h = cc
five_ok None None None (Some x) e v w h = cc
five_ok None None None None (Some x) v w h = cc

no_fault_if : (b : Bool) (e : Error) → fault_if b e ≡ None → b ≡ false
no_fault_if true e h = cc
no_fault_if false e h = refl

-- no place passes
find_none_told : (test : ℕ → Bool) (a n m i : ℕ) → a + m ≡ i → m < n → find test (range_with_len a n) ≡ None → test i ≡ false
find_none_told test a zero m i e l h = absurd (omega arith)
find_none_told test a (suc n) m i e l h = by_test (test a) refl h m e l (λ k at low g. find_none_told test (a + 1) n k i at low g)
  where
    by_test : (b : Bool) → test a ≡ b → cond b (Some a) (find test (range_with_len (a + 1) n)) ≡ None → (m : ℕ) → a + m ≡ i → m < suc n →
        ((k : ℕ) → a + 1 + k ≡ i → k < n → find test (range_with_len (a + 1) n) ≡ None → test i ≡ false) → test i ≡ false
    by_test true here g m e l more = cc
    by_test false here g zero e l more = let same : a ≡ i = omega arith in ap test (sym same) ∙ here
    by_test false here g (suc m) e l more = more m (omega arith) (omega arith) g

-- where the range has no fault, the value is a number of the type
pub fits_told : (t : IntegerType) (b : Bool) (x : Numeral) → 0 < digit_count x → range_fault t b x ≡ None → is_number t (numeral_value b x) ≡ true
unfolding range_fault
fits_told t b x some none =
    let all : first_outside t b x ≡ None = no_map (first_outside t b x) none in
    let m : ℕ = digit_count x - 1 in
    let passes : not (is_number t (front_value b x (m + 1))) ≡ false = find_none_told (λ k. not (is_number t (front_value b x (k + 1)))) 0 (digit_count x) m m (omega arith) (omega arith) all in
    let last : m + 1 ≡ digit_count x = omega arith in
    ap (λ (k : ℕ). is_number t (front_value b x k)) (sym last) ∙ unnot (is_number t (front_value b x (m + 1))) passes
  where
    no_map : (o : Option ℕ) → option_map (λ k. range_error b (slice_index x.places k)) o ≡ None → o ≡ None
    no_map None h = refl
    no_map (Some k) h = cc

    unnot : (a : Bool) → not a ≡ false → a ≡ true
    unnot true e = refl
    unnot false e = sym e

sign_fault_completes : (f : Format) (t : IntegerType) (text : List ℕ) (e : Error) → sign f t text ≡ Err e → complete f t text ≡ Err e
unfolding complete head_of
sign_fault_completes f t text e faulty = rw faulty refl

above_zero : (n : ℕ) → (n == 0) ≡ false → 0 < n
above_zero zero e = cc
above_zero (suc n) e = omega arith

pub whole_told : (r : ℕ) (t : IntegerType) (text : List ℕ) (v : ℤ) → complete (with_radix r) t text ≡ Ok v → IsWhole r t text v
whole_told r t text v read = by_sign (sign (with_radix r) t text) refl
  where
    by_sign : (found : Result (Bool × ℕ) Error) → sign (with_radix r) t text ≡ found → IsWhole r t text v
    by_sign (Err e) faulty = let other = sign_fault_completes (with_radix r) t text e faulty in absurd (cc)
    by_sign (Ok s) sign_is =
        let f : Format = with_radix r in
        let n : ℕ = row_count f false r text s.1 in
        let h : Head = record { is_negative = s.0; is_prefixed = false; is_octal = false; start = s.1; radix = r } in
        let x : Numeral = row_numeral f text s.1 r n in
        let within : s.1 ≤ length text = sign_within f t text s sign_is in
        let ends : EndsRow r text s.1 (s.1 + n) = row_ends f false r text s.1 refl within in
        let whole = complete_row f t text h n refl (head_is f t text s refl refl refl sign_is) within ends in
        let by : complete_by f t text h x ≡ Ok v = sym whole ∙ read in
        let told : (range_fault t s.0 x ≡ None) × (fault_if (nat_lt x.stop (length text)) (InvalidDigit x.stop) ≡ None) × (fault_if (lacks_digits f x) (Empty (length text)) ≡ None) × (numeral_value s.0 x ≡ v) = five_ok (prefix_fault text h) (zero_fault f false x) (range_fault t s.0 x) (fault_if (nat_lt x.stop (length text)) (InvalidDigit x.stop)) (fault_if (lacks_digits f x) (Empty (length text))) (numeral_value s.0 x) v by in
        let over : length text ≤ x.stop = ltb-false x.stop (length text) (no_fault_if (nat_lt x.stop (length text)) (InvalidDigit x.stop) told.1) in
        let stop : x.stop ≡ s.1 + n = stop_plain f text s.1 r n refl in
        let size : n ≡ length text - s.1 = omega (arith, ends.high) in
        let count : digit_count x ≡ n = length-map-range_with_len (λ place. unwrap_or (digit_at r text place) 0) s.1 n in
        let value : numeral_value s.0 x ≡ with_sign s.0 (rest_value r text s.1) = ap (λ (ds : List ℕ). with_sign s.0 (positional_value r ds)) (take_row r text s.1 n) ∙ ap (λ (m : ℕ). with_sign s.0 (positional_value r (row r text s.1 m))) size in
        let lacks : (digit_count x == 0) ≡ false = no_fault_if _ _ told.2 in
        let there : 0 < digit_count x = above_zero (digit_count x) lacks in
        record {
          s = s;
          sign_is = sign_is;
          some = omega arith;
          all = λ k low high. ends.holds k low (omega arith);
          value = sym told.3 ∙ value;
          fits = ap (is_number t) (sym value) ∙ fits_told t s.0 x there told.0;
        }
