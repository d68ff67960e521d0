-- Decimal numbers at the front of a text that leave their type: for the answers of `algorithm::plain::faults`.
use Rattle.std.proofs.Common.{◌≡◌, ℕ, zero, suc, ◌+◌, ◌-◌, ◌*◌, ◌<◌, ◌≤◌, ◌&&◌, ◌==◌, Bool, true, false, not, List, [], ◌∷◌, ◌++◌, length, get_or, map, take, drop, refl, sym, ap, ◌∙◌, subst, arith, Some, None, Ok, Err, pos}
use Rattle.std.specs.Prelude.{is_some, nat_le, slice_index, slice_range, ℤ, neg_ℤ, if◌then◌else◌}
use Rattle.std.proofs.Math.Bool.{and-true}
use Rattle.std.proofs.lemmas.Bool.{le-leb}
use Rattle.std.proofs.lemmas.List.{get_or-take, length-drop, length-take-le, take_more}
use Rattle.lexical_util.specs.Digit.{digit}
use Rattle.lexical_util.specs.declared.error.Error.TheVariants.{InvalidLeadingZeros}
use Rattle.lexical_util.specs.Format.{Format}
use Rattle.lexical_util.specs.Number.{IntegerType, is_number, mul_add}
use Rattle.lexical_parse_integer.specs.Grammar.{complete, fault_if, range_error, range_fault, zero_fault}
use Rattle.lexical_parse_integer.specs.Head.{Head, sign}
use Rattle.lexical_parse_integer.specs.Numeral.{Numeral, digit_count, front_value}
use Rattle.lexical_parse_integer.specs.Plain.{IsPlain, LeavesAfter, keeps_zero_rule}
use Rattle.lexical_digits.specs.WrittenNumbers.{StandsFor}
use Rattle.lexical_digits.specs.Value.{positional_value, with_sign}
use Rattle.lexical_digits.specs.Words.{AreDigits, word_value}
use Rattle.lexical_parse_integer.proofs.grammar.DigitsInARow.{EndsRow, has_digit, row, row_count, row_ends, row_numeral}
use Rattle.lexical_parse_integer.proofs.grammar.FrontValues.{leaving_fault}
use Rattle.lexical_digits.proofs.DigitValues.{with_sign-step, HaveDigits, digits_size}
use Rattle.lexical_parse_integer.proofs.grammar.RangeOfFronts.{shorter_fronts_fit}
use Rattle.lexical_parse_integer.proofs.grammar.Stretches.{HoldsBetween, below_stop}
use Rattle.lexical_digits.proofs.LongNumbers.{digit_worth, have_are, have_digits, have_values, stands}
use Rattle.lexical_digits.proofs.ShiftedWords.{writes_text}
use Rattle.std.proofs.Math.Seq.{take-length}
use Rattle.lexical_parse_integer.proofs.plain.DigitFaults.{fewer_keep}
use Rattle.lexical_parse_integer.proofs.plain.DigitsByTable.{rule_in}
use Rattle.lexical_parse_integer.proofs.plain.DigitsInFront.{StandsFrom, at_front, from_place, front_between}
use Rattle.lexical_digits.proofs.WordsInFront.{rest_is}
use Rattle.lexical_parse_integer.proofs.theorems.CompleteByPartial.{sign_within}
use Rattle.lexical_digits.proofs.WordsOfDigits.{digits_joined, value_joined}
use Rattle.lexical_parse_integer.proofs.theorems.DigitTexts.{complete_by, complete_row, head_is}
use Rattle.lexical_parse_integer.proofs.theorems.ReadBack.{row_is}
use Rattle.lexical_parse_integer.proofs.theorems.SettledAnswers.{digits_of_row, front_of_row, place_of_row}
use Rattle.lexical_digits.proofs.AsciiDigits.{ascii_from_digits}

-- ---- one digit more

-- the digits with that one
digits_more : (k d : ℕ) (text : List ℕ) → k < length text → digit 10 (get_or text k 0) ≡ Some d → AreDigits 10 (take k text) → AreDigits 10 (take (k + 1) text)
digits_more k d text more is digits =
    let one : take (k + 1) text ≡ take k text ++ get_or text k 0 ∷ [] = take_more text k 0 more in
    rw one (digits_joined 10 (take k text) (get_or text k 0 ∷ []) digits (ap is_some is, tt))

value_more : (k d : ℕ) (text : List ℕ) → k < length text → digit 10 (get_or text k 0) ≡ Some d → word_value 10 (take (k + 1) text) ≡ word_value 10 (take k text) * 10 + d
value_more k d text more is =
    let one : take (k + 1) text ≡ take k text ++ get_or text k 0 ∷ [] = take_more text k 0 more in
    let worth = digit_worth (get_or text k 0) d is in
    ap (word_value 10) one ∙ value_joined 10 (take k text) (get_or text k 0 ∷ []) ∙ omega arith

-- what is known of a value that is behind the sign of its digits
have : (t : IntegerType) (b : Bool) (text : List ℕ) (value : ℤ) (s : StandsFor t 10 b text value) → HaveDigits 10 text s.writes.values
have t b text value s = ap (map (λ byte. digit 10 byte)) (sym (take-length text)) ∙ s.writes.digits

worth_of : (t : IntegerType) (b : Bool) (text : List ℕ) (value : ℤ) → StandsFor t 10 b text value → value ≡ with_sign b (word_value 10 text)
worth_of t b text value s = s.worth ∙ ap (λ (z : ℤ). if b then neg_ℤ z else z) (s.writes.worth ∙ ap (λ (ds : List ℕ). pos (positional_value 10 ds)) (have_values text s.writes.values (have t b text value s)))

digits_of : (t : IntegerType) (b : Bool) (text : List ℕ) (value : ℤ) → StandsFor t 10 b text value → AreDigits 10 text
digits_of t b text value s = have_are text s.writes.values (have t b text value s)

-- the value with one digit more
step_worth : (t : IntegerType) (b : Bool) (k d : ℕ) (text : List ℕ) (value : ℤ) → StandsFor t 10 b (take k text) value → k < length text → digit 10 (get_or text k 0) ≡ Some d → mul_add b value (pos 10) (pos d) ≡ with_sign b (word_value 10 (take (k + 1) text))
step_worth t b k d text value w more is =
    ap (λ (z : ℤ). mul_add b z (pos 10) (pos d)) (worth_of t b (take k text) value w) ∙ with_sign-step b (word_value 10 (take k text)) 10 d ∙ ap (with_sign b) (sym (value_more k d text more is))

pub next_value : (t : IntegerType) (b : Bool) (k d : ℕ) (text : List ℕ) (value next : ℤ) → StandsFor t 10 b (take k text) value → k < length text → digit 10 (get_or text k 0) ≡ Some d → next ≡ mul_add b value (pos 10) (pos d) → is_number t next ≡ true → StandsFor t 10 b (take (k + 1) text) next
next_value t b k d text value next w more is step fits =
    let worth : next ≡ with_sign b (word_value 10 (take (k + 1) text)) = step ∙ step_worth t b k d text value w more is in
    let digits = digits_more k d text more is (digits_of t b (take k text) value w) in
    stands t b (take (k + 1) text) (word_value 10 (take (k + 1) text)) next (writes_text (take (k + 1) text) (word_value 10 (take (k + 1) text)) digits refl) worth fits

pub leaves_after : (t : IntegerType) (b : Bool) (k d : ℕ) (text : List ℕ) (value : ℤ) → StandsFor t 10 b (take k text) value → k < length text → digit 10 (get_or text k 0) ≡ Some d → is_number t (mul_add b value (pos 10) (pos d)) ≡ false → LeavesAfter t b text k
leaves_after t b k d text value w more is leaves =
    let worth = worth_of t b (take k text) value w in
    record {
      within = more;
      digits = digits_more k d text more is (digits_of t b (take k text) value w);
      fits = ap (is_number t) (sym worth) ∙ w.fits;
      leaves = ap (is_number t) (sym (step_worth t b k d text value w more is)) ∙ leaves;
    }

-- ---- the fault

-- fewer digits are digits too
fewer_digits : (k m : ℕ) (text : List ℕ) → k ≤ m → AreDigits 10 (take m text) → AreDigits 10 (take k text)
fewer_digits zero m text fewer all = tt
fewer_digits (suc k) zero text fewer all = absurd (omega arith)
fewer_digits (suc k) (suc m) [] fewer all = tt
fewer_digits (suc k) (suc m) (b ∷ bs) fewer all = (all.0, fewer_digits k m bs (omega arith) all.1)

-- the digits' values at their places
values_at : (text digits : List ℕ) (start m : ℕ) → StandsFrom start text digits → m ≤ length digits → AreDigits 10 (take m digits) → row 10 text start m ≡ map (λ byte. byte - 48) (take m digits)
values_at text digits start m on within all =
    let ds : List ℕ = map (λ byte. byte - 48) (take m digits) in
    let have : HaveDigits 10 (take m digits) ds = have_digits 10 (take m digits) (omega arith) (ascii_from_digits 10 (take m digits) (omega arith) all) in
    let taken = length-take-le m digits within in
    let size : length ds ≡ m = let e = digits_size 10 (take m digits) ds have in omega arith in
    ap (row 10 text start) (sym size) ∙ row_is 10 text ds start (λ k l. at_front 10 text digits ds start m k on have l (omega arith))

-- digits that keep the zero rule do so as values
zeros_kept : (f : Format) (es ds : List ℕ) (place : ℕ) → 2 ≤ length ds → 2 ≤ length es → get_or es 0 0 ≡ get_or ds 0 0
    → ((f.no_integer_leading_zeros && nat_le 2 (length ds)) && (slice_index ds 0 == 0)) ≡ false
    → fault_if (((f.no_integer_leading_zeros && not false) && nat_le 2 (length es)) && (slice_index es 0 == 0)) (InvalidLeadingZeros place) ≡ None
zeros_kept f es ds place long more same rule =
    let a : Bool = f.no_integer_leading_zeros in
    let kept : ((a && true) && (get_or ds 0 0 == 0)) ≡ false =
    subst (λ (x : Bool). ((a && x) && (get_or ds 0 0 == 0)) ≡ false) (le-leb 2 (length ds) long) rule in
    let told : (((a && true) && nat_le 2 (length es)) && (get_or es 0 0 == 0)) ≡ false =
    ap (λ (x : Bool). ((a && true) && x) && (get_or es 0 0 == 0)) (le-leb 2 (length es) more)
    ∙ ap (λ (x : Bool). x && (get_or es 0 0 == 0)) (and-true (a && true))
    ∙ ap (λ (v : ℕ). (a && true) && (v == 0)) same ∙ kept in
    ap (λ (b : Bool). fault_if b (InvalidLeadingZeros place)) told

-- the number behind a sign leaves the type at the digit behind those that fit
leaving_read : (f : Format) (t : IntegerType) (text digits : List ℕ) (s : Bool × ℕ) (count : ℕ) → IsPlain f → f.mantissa_radix ≡ 10 → sign f t text ≡ Ok s → StandsFrom s.1 text digits → length text ≡ s.1 + length digits →
    1 ≤ count → keeps_zero_rule f digits ≡ true → LeavesAfter t s.0 digits count → complete f t text ≡ Err (range_error s.0 (s.1 + count))
leaving_read f t text digits s count plain ten sign_is on size some rule l =
    let n : ℕ = row_count f false 10 text s.1 in
    let h : Head = record { is_negative = s.0; is_prefixed = false; is_octal = false; start = s.1; radix = 10 } in
    let x : Numeral = row_numeral f text s.1 10 n in
    let within = l.within in
    let low : s.1 ≤ length text = omega arith in
    let ends : EndsRow 10 text s.1 (s.1 + n) = row_ends f false 10 text s.1 plain.no_separator low in
    let ds : List ℕ = map (λ byte. byte - 48) (take (count + 1) digits) in
    let have : HaveDigits 10 (take (count + 1) digits) ds = have_digits 10 (take (count + 1) digits) (omega arith) (ascii_from_digits 10 (take (count + 1) digits) (omega arith) l.digits) in
    let taken = length-take-le (count + 1) digits (omega arith) in
    let sized : length ds ≡ count + 1 = let e = digits_size 10 (take (count + 1) digits) ds have in omega arith in
    let between : HoldsBetween (has_digit 10 text) s.1 (s.1 + (count + 1)) = front_between 10 text digits ds s.1 (count + 1) on have sized in
    let reach : s.1 + (count + 1) ≤ s.1 + n = below_stop (has_digit 10 text) s.1 (length text) (s.1 + n) (s.1 + (count + 1)) ends (omega arith) (λ k from to. between k (omega arith) to) in
    let inside : count < n = omega arith in
    let there : count < digit_count x = let e = digits_of_row 10 text s.1 n in omega arith in
    let before : front_value s.0 x count ≡ with_sign s.0 (word_value 10 (take count digits)) =
    ap (λ (es : List ℕ). with_sign s.0 (positional_value 10 es)) (front_of_row 10 text s.1 count n (omega arith) ∙ values_at text digits s.1 count on (omega arith) (fewer_digits count (count + 1) digits (omega arith) l.digits)) in
    let behind : front_value s.0 x (count + 1) ≡ with_sign s.0 (word_value 10 (take (count + 1) digits)) =
    ap (λ (es : List ℕ). with_sign s.0 (positional_value 10 es)) (front_of_row 10 text s.1 (count + 1) n (omega arith) ∙ values_at text digits s.1 (count + 1) on (omega arith) l.digits) in
    let fit = shorter_fronts_fit t s.0 x count (omega arith) (ap (is_number t) before ∙ l.fits) in
    let fault : range_fault t s.0 x ≡ Some (range_error s.0 (get_or x.places count 0)) = leaving_fault t s.0 x count there fit (ap (is_number t) behind ∙ l.leaves) in
    let place : get_or x.places count 0 ≡ s.1 + count = place_of_row s.1 n count inside in
    let front = front_of_row 10 text s.1 (count + 1) n (omega arith) ∙ values_at text digits s.1 (count + 1) on (omega arith) l.digits in
    let first : get_or x.digits 0 0 ≡ get_or ds 0 0 = sym (get_or-take (count + 1) x.digits 0 0 (omega arith)) ∙ ap (λ (es : List ℕ). get_or es 0 0) front in
    let kept = rule_in f 10 (take (count + 1) digits) ds have (fewer_keep f (count + 1) digits (omega arith) (omega arith) rule) in
    let many : 2 ≤ length x.digits = let e = digits_of_row 10 text s.1 n in omega arith in
    let zeros : zero_fault f false x ≡ None = zeros_kept f x.digits ds (get_or x.places 0 0) (omega arith) many first kept in
    let answer : complete_by f t text h x ≡ Err (range_error s.0 (get_or x.places count 0)) = rw (zeros, fault) refl in
    let head = head_is f t text s plain.no_prefix plain.no_literals plain.no_octal_zeros sign_is
    ∙ ap (λ (r : ℕ). Ok (record { is_negative = s.0; is_prefixed = false; is_octal = false; start = s.1; radix = r })) ten in
    complete_row f t text h n plain.no_separator head low ends ∙ answer ∙ ap (λ (k : ℕ). Err (range_error s.0 k)) place

-- behind the sign
pub signed_leaving_read : (f : Format) (t : IntegerType) (text : List ℕ) (s : Bool × ℕ) (is_negative : Bool) (count : ℕ) → IsPlain f → f.mantissa_radix ≡ 10 → sign f t text ≡ Ok s → s.0 ≡ is_negative → 1 ≤ count →
    keeps_zero_rule f (slice_range text s.1 (length text)) ≡ true → LeavesAfter t s.0 (slice_range text s.1 (length text)) count → complete f t text ≡ Err (range_error is_negative (s.1 + count))
signed_leaving_read f t text s is_negative count plain ten sign_is is some rule l =
    let within = sign_within f t text s sign_is in
    let told : LeavesAfter t s.0 (drop s.1 text) count = subst (λ (ds : List ℕ). LeavesAfter t s.0 ds count) (rest_is text s.1) l in
    let kept : keeps_zero_rule f (drop s.1 text) ≡ true = subst (λ (ds : List ℕ). keeps_zero_rule f ds ≡ true) (rest_is text s.1) rule in
    leaving_read f t text (drop s.1 text) s count plain ten sign_is (from_place s.1 text) (let size = length-drop s.1 text in omega arith) some kept told ∙ ap (λ (b : Bool). Err (range_error b (s.1 + count))) is
