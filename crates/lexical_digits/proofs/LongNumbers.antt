-- Numbers in parts: for the answers of `values`, and of what joins the words of a front.
use Rattle.std.proofs.Common.{◌≡◌, ℕ, ◌+◌, ◌*◌, ◌^◌, ◌<◌, ◌≤◌, Bool, true, false, refl, ap, ◌∙◌, arith, pos, Option, Some, None, List, sym, subst, rules, zero, suc, ◌-◌, take, drop, length, map, is_some, [], ◌∷◌, ◌++◌}
use Rattle.std.specs.Prelude.{ℤ, ◌+ℤ◌, ◌*ℤ◌, ◌≤ℤ◌, neg_ℤ, if◌then◌else◌, slice_range, IfSome}
use Rattle.std.specs.Int.Signed.{≤ℤ_refl}
use Rattle.std.specs.Option.{option_map}
use Rattle.std.proofs.Math.Seq.{take-add, take-length}
use Rattle.std.proofs.lemmas.List.{length-drop, length-take-le}
use Rattle.std.proofs.lemmas.Bool.{lt-ltb}
use Rattle.std.proofs.lemmas.Bool.Decides.{nat_tests}
use Rattle.std.proofs.lemmas.Nat.{mul-le}
use Rattle.std.proofs.Math.Nat.{pow-le-pow_right}
use Rattle.lexical_util.specs.Number.{HasSign, mul_add, IntegerType, IsNumber, IsWidth, integer_type, number_if_fits, is_number}
use Rattle.lexical_util.specs.Number.IsWidth.{w8, w16, w32, w64, w128}
use Rattle.lexical_digits.specs.WrittenNumbers.{StandsFor, WritesDecimal, WritesFront}
use Rattle.lexical_digits.specs.Value.{positional_value, with_sign}
use Rattle.lexical_digits.specs.Words.{AreDigits, word_value}
use Rattle.lexical_util.specs.Compare.{pos-injective}
use Rattle.lexical_util.specs.Digit.{digit}
use Rattle.lexical_digits.proofs.AsciiDigits.{AreAsciiDigits, ascii_from_digits, digit_from, digit_to}
use Rattle.lexical_digits.proofs.NibbleBlocks.{all_have, all_written, joined_have}
use Rattle.lexical_digits.proofs.WordsOfDigits.{raised_none}
use Rattle.lexical_digits.proofs.DigitValues.{HaveDigits, digits_size, positional_value-append, with_sign-step}

-- ---- numbers of a type

-- types of more than 32 bits have all numbers of up to eighteen digits
short_is_number : (bits : ℕ) (signed : Bool) (n : ℕ) → IsWidth bits → 32 < bits → n < 1000000000000000000 → IsNumber (integer_type bits signed) (pos n)
short_is_number _ signed n w8 short small = absurd (omega arith)
short_is_number _ signed n w16 short small = absurd (omega arith)
short_is_number _ signed n w32 short small = absurd (omega arith)
short_is_number _ true n w64 short small = lt-ltb n (2 ^ 63) (omega arith)
short_is_number _ false n w64 short small = lt-ltb n (2 ^ 64) (omega arith)
short_is_number _ true n w128 short small = lt-ltb n (2 ^ 127) (omega arith)
short_is_number _ false n w128 short small = lt-ltb n (2 ^ 128) (omega arith)

-- a word's number
pub word_fits : (t : IntegerType) (n : ℕ) → IsWidth t.bits → 32 < t.bits → n < 4294967296 → IsNumber t (pos n)
word_fits t n width wide small = short_is_number t.bits t.is_signed n width wide (omega arith)

-- two parts, the first and the last of up to eight digits
pub joined_fit : (t : IntegerType) (front scale last : ℤ) (n s m : ℕ) → IsWidth t.bits → 32 < t.bits → front ≡ pos n → n ≤ 100000000 → scale ≡ pos s → s ≤ 1000000000 → last ≡ pos m → m ≤ 100000000 →
    IsNumber t ((front *ℤ scale) +ℤ last)
joined_fit t front scale last n s m width wide is_front few is_scale low is_last rest =
    let most : n * s ≤ 100000000 * 1000000000 = mul-le n s 100000000 1000000000 few low in
    rw (is_front, is_scale, is_last) (short_is_number t.bits t.is_signed (n * s + m) width wide (omega arith))

-- ---- what parts are worth

pub parts_worth : (front scale last : ℤ) (n s m : ℕ) → front ≡ pos n → scale ≡ pos s → last ≡ pos m → (front *ℤ scale) +ℤ last ≡ pos (n * s + m)
parts_worth front scale last n s m is_front is_scale is_last = rw (is_front, is_scale, is_last) refl

-- what is at least 0, and at least 1
pub from_zero : (value : ℤ) (n : ℕ) → value ≡ pos n → pos 0 ≤ℤ value
from_zero value n is = rw is (grind (arith, nat_tests))

pub from_one : (value : ℤ) (n : ℕ) → value ≡ pos n → 1 ≤ n → pos 1 ≤ℤ value
from_one value n is some = rw is (grind (arith, nat_tests))

-- ---- tested sums

-- a sum that was found is the sum, and one of the type
pub sum_found : (t : IntegerType) (value sum : ℤ) → Some value ≡ number_if_fits t sum → value ≡ sum
sum_found t value sum found = by_test (is_number t sum) found
  where
    by_test : (fits : Bool) → Some value ≡ (if fits then Some sum else None) → value ≡ sum
    by_test true same = cc
    by_test false same = cc

pub sum_fits : (t : IntegerType) (value sum : ℤ) → Some value ≡ number_if_fits t sum → IsNumber t value
sum_fits t value sum found = ap (is_number t) (sum_found t value sum found) ∙ by_test (is_number t sum) found
  where
    by_test : (fits : Bool) → Some value ≡ (if fits then Some sum else None) → fits ≡ true
    by_test true same = refl
    by_test false same = cc

-- ---- decimal digits

pub have_digits : (r : ℕ) (bytes : List ℕ) → r ≤ 10 → AreAsciiDigits r bytes → HaveDigits r bytes (map (λ byte. byte - 48) bytes)
have_digits r [] ten d = refl
have_digits r (c ∷ cs) ten d =
    let here = digit_from r c d.0 ten in
    let rest = have_digits r cs ten d.1 in
    rw (here, rest) refl

pub have_are : (bytes ds : List ℕ) → HaveDigits 10 bytes ds → AreDigits 10 bytes
have_are [] ds all = tt
have_are (b ∷ bs) [] all = cc
have_are (b ∷ bs) (d ∷ ds) all =
    let here : digit 10 b ≡ Some d = cc in
    let more : HaveDigits 10 bs ds = cc in
    (ap is_some here, have_are bs ds more)

pub digit_worth : (byte d : ℕ) → digit 10 byte ≡ Some d → d ≡ byte - 48
digit_worth byte d is =
    let ascii = digit_to 10 byte (ap is_some is) (omega arith) in
    let told : digit 10 byte ≡ Some (byte - 48) = digit_from 10 byte ascii (omega arith) in
    cc

pub have_values : (bytes ds : List ℕ) → HaveDigits 10 bytes ds → ds ≡ map (λ byte. byte - 48) bytes
have_values [] [] all = refl
have_values [] (d ∷ ds) all = cc
have_values (b ∷ bs) [] all = cc
have_values (b ∷ bs) (d ∷ ds) all =
    let here : digit 10 b ≡ Some d = cc in
    let more : HaveDigits 10 bs ds = cc in
    ap (λ (e : ℕ). e ∷ ds) (digit_worth b d here) ∙ ap (λ (es : List ℕ). (b - 48) ∷ es) (have_values bs ds more)

pub decimal_is_front : (text : List ℕ) (number : ℕ) → WritesDecimal 0 text number → WritesFront 10 text (length text) (pos number)
decimal_is_front text number w =
    let same = raised_none text in
    let digits : AreDigits 10 text = subst (λ (bs : List ℕ). AreDigits 10 bs) same w.digits in
    all_written 10 number text (map (λ byte. byte - 48) text) (have_digits 10 text (omega arith) (ascii_from_digits 10 text (omega arith) digits)) (w.worth ∙ ap (word_value 10) same)

-- ---- what digits stand for

pub stands : (t : IntegerType) (is_negative : Bool) (text : List ℕ) (number : ℕ) (value : ℤ) → WritesDecimal 0 text number → value ≡ with_sign is_negative number → IsNumber t value → StandsFor t 10 is_negative text value
stands t is_negative text number value writes worth fits = record { magnitude = pos number; writes = decimal_is_front text number writes; worth = worth; fits = fits }

-- a value that was found for the number of a text
pub value_written : {V : Type 0} (number_of : V → ℤ) (t : IntegerType) (is_negative : Bool) (text : List ℕ) (number : ℕ) (found : Option V) → WritesDecimal 0 text number →
    IfSome found (λ v. number_of v ≡ with_sign is_negative number) → IfSome found (λ v. IsNumber t (number_of v)) → IfSome found (λ v. StandsFor t 10 is_negative text (number_of v))
value_written number_of t is_negative text number None writes worth fits = tt
value_written number_of t is_negative text number (Some v) writes worth fits = stands t is_negative text number (number_of v) writes worth fits

-- what follows from a value that was found
pub if_found : {X : Type 0} {P Q : X → Type 0} (found : Option X) → ((x : X) → P x → Q x) → IfSome found P → IfSome found Q
if_found None step h = tt
if_found (Some x) step h = step x h

-- a number behind a sign has it
pub sign_held : (b : Bool) (value : ℤ) (n : ℕ) → value ≡ with_sign b n → HasSign b value
sign_held b value n is = subst (HasSign b) (sym is) (by_sign b n)
  where
    by_sign : (b : Bool) (n : ℕ) → HasSign b (with_sign b n)
    by_sign true zero = ≤ℤ_refl (pos 0)
    by_sign true (suc n) = search rules
    by_sign false n = grind (arith, nat_tests)

pub sign_of_value : (t : IntegerType) (r : ℕ) (b : Bool) (text : List ℕ) (value : ℤ) → StandsFor t r b text value → HasSign b value
sign_of_value t r b text value s = sign_held b value (positional_value r s.writes.values) (s.worth ∙ ap (λ (z : ℤ). if b then neg_ℤ z else z) s.writes.worth)

-- the value with more digits
pub more_digits : (t : IntegerType) (r : ℕ) (b : Bool) (k count m : ℕ) (text : List ℕ) (value next : ℤ) → count ≤ length (drop k text) → StandsFor t r b (take k text) value →
    WritesFront r (take count (drop k text)) (length (take count (drop k text))) (pos m) → next ≡ mul_add b value (pos (r ^ count)) (pos m) → IsNumber t next → StandsFor t r b (take (k + count) text) next
more_digits t r b k count m text value next few s v step fits =
    let w = s.writes in
    let front : List ℕ = take k text in
    let behind : List ℕ = take count (drop k text) in
    let n : ℕ = positional_value r w.values in
    let all : HaveDigits r front w.values = ap (map (λ byte. digit r byte)) (sym (take-length front)) ∙ w.digits in
    let more : HaveDigits r behind v.values = all_have r m behind v in
    let both : HaveDigits r (take (k + count) text) (w.values ++ v.values) = subst (λ (bs : List ℕ). HaveDigits r bs (w.values ++ v.values)) (sym (take-add k count text)) (joined_have r front behind w.values v.values all more) in
    let size : length v.values ≡ count = sym (digits_size r behind v.values more) ∙ length-take-le count (drop k text) few in
    let last : m ≡ positional_value r v.values = pos-injective m (positional_value r v.values) v.worth in
    let whole : positional_value r (w.values ++ v.values) ≡ n * r ^ count + m =
    positional_value-append r w.values v.values ∙ ap (λ (j : ℕ). n * r ^ j + positional_value r v.values) size ∙ ap (λ (j : ℕ). n * r ^ count + j) (sym last) in
    let value_is : value ≡ with_sign b n = s.worth ∙ ap (λ (z : ℤ). if b then neg_ℤ z else z) w.worth in
    record {
      magnitude = pos (n * r ^ count + m);
      writes = all_written r (n * r ^ count + m) (take (k + count) text) (w.values ++ v.values) both (sym whole);
      worth = step ∙ ap (λ (z : ℤ). mul_add b z (pos (r ^ count)) (pos m)) value_is ∙ with_sign-step b n (r ^ count) m;
      fits = fits;
    }

-- sixteen digits more
pub sixteen_more : (t : IntegerType) (k m : ℕ) (text : List ℕ) (value next rest : ℤ) → k + 16 ≤ length text → StandsFor t 10 false (take k text) value → WritesDecimal 0 (slice_range text k (k + 16)) m →
    rest ≡ pos m → next ≡ mul_add false value (pos 10000000000000000) rest → IsNumber t next → StandsFor t 10 false (take (k + 16) text) next
sixteen_more t k m text value next rest within s v is_rest step fits =
    let size : k + 16 - k ≡ 16 = omega arith in
    let left = length-drop k text in
    let part : WritesDecimal 0 (take 16 (drop k text)) m = subst (λ (n : ℕ). WritesDecimal 0 (take n (drop k text)) m) size v in
    more_digits t 10 false k 16 m text value next (omega arith) s (decimal_is_front (take 16 (drop k text)) m part) (step ∙ ap (λ (z : ℤ). mul_add false value (pos 10000000000000000) z) is_rest) fits

-- types of more than 64 bits have all numbers of up to thirty-eight digits
long_is_number : (bits : ℕ) (signed : Bool) (n : ℕ) → IsWidth bits → 64 < bits → n < 100000000000000000000000000000000000000 → IsNumber (integer_type bits signed) (pos n)
long_is_number _ signed n w8 long small = absurd (omega arith)
long_is_number _ signed n w16 long small = absurd (omega arith)
long_is_number _ signed n w32 long small = absurd (omega arith)
long_is_number _ signed n w64 long small = absurd (omega arith)
long_is_number _ true n w128 long small = lt-ltb n (2 ^ 127) (omega arith)
long_is_number _ false n w128 long small = lt-ltb n (2 ^ 128) (omega arith)

-- up to twenty-two digits and sixteen more
pub few_fit : (t : IntegerType) (k m : ℕ) (text : List ℕ) (value rest : ℤ) → IsWidth t.bits → 64 < t.bits → k ≤ 22 → StandsFor t 10 false (take k text) value → rest ≡ pos m → m < 10000000000000000 → IsNumber t (mul_add false value (pos 10000000000000000) rest)
few_fit t k m text value rest width long few s is_rest small =
    let w = s.writes in
    let n : ℕ = positional_value 10 w.values in
    let below : n < 10 ^ length (take k text) = w.below in
    let most : 10 ^ length (take k text) ≤ 10 ^ 22 = pow-le-pow_right {n = 10} (omega arith) (length-take-most k 22 text few) in
    let low : n < 10000000000000000000000 = omega arith in
    rw (s.worth, w.worth, is_rest) (long_is_number t.bits t.is_signed (n * 10000000000000000 + m) width long (omega arith))
  where
    length-take-most : (k m : ℕ) (bytes : List ℕ) → k ≤ m → length (take k bytes) ≤ m
    length-take-most zero m bytes few = omega arith
    length-take-most (suc k) m [] few = omega arith
    length-take-most (suc k) zero (b ∷ bs) few = absurd (omega arith)
    length-take-most (suc k) (suc m) (b ∷ bs) few = let rest = length-take-most k m bs (omega arith) in omega arith

-- sixteen digits more, where a test found that the type has them
pub sixteen_found : {V : Type 0} (number_of : V → ℤ) (t : IntegerType) (k m : ℕ) (text : List ℕ) (value rest scale : ℤ) (found : Option V) → k + 16 ≤ length text → StandsFor t 10 false (take k text) value →
    WritesDecimal 0 (slice_range text k (k + 16)) m → rest ≡ pos m → scale ≡ pos 10000000000000000 → option_map number_of found ≡ number_if_fits t (mul_add false value scale rest) →
    IfSome found (λ v. StandsFor t 10 false (take (k + 16) text) (number_of v))
sixteen_found number_of t k m text value rest scale None within s v is_rest is_scale step = tt
sixteen_found number_of t k m text value rest scale (Some next) within s v is_rest is_scale step =
    sixteen_more t k m text value (number_of next) rest within s v is_rest (sum_found t (number_of next) _ step ∙ ap (λ (z : ℤ). mul_add false value z rest) is_scale)
    (sum_fits t (number_of next) _ step)

pub at_least_zero : (t : IntegerType) (text : List ℕ) (value : ℤ) → StandsFor t 10 false text value → pos 0 ≤ℤ value
at_least_zero t text value s = from_zero value (positional_value 10 s.writes.values) (s.worth ∙ s.writes.worth)

-- a front behind its sign, and a last part
pub stepped : (b : Bool) (front scale last next : ℤ) (n s m : ℕ) → front ≡ with_sign b n → scale ≡ pos s → last ≡ pos m → next ≡ mul_add b front scale last → next ≡ with_sign b (n * s + m)
stepped b front scale last next n s m is_front is_scale is_last step = step ∙ ap (λ (z : ℤ). mul_add b z scale last) is_front ∙ ap (λ (z : ℤ). mul_add b (with_sign b n) z last) is_scale ∙ ap (λ (z : ℤ). mul_add b (with_sign b n) (pos s) z) is_last ∙ with_sign-step b n s m
