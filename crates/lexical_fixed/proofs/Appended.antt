-- Several digits at a time behind a number.
use Rattle.std.proofs.Common.{◌≡◌, ℕ, ◌+◌, ◌-◌, ◌*◌, ◌^◌, ◌≤◌, Bool, false, List, [], ◌∷◌, ◌++◌, length, length-append, take, drop, Option, Some, None, refl, sym, ap, subst, ◌∙◌, arith}
use Rattle.std.proofs.Math.IntN.{ℤ, pos}
use Rattle.std.proofs.Math.Seq.{take-add}
use Rattle.std.specs.Prelude.{Ok, slice_range}
use Rattle.std.proofs.lemmas.List.{length-drop, length-take-le}
use Rattle.std.proofs.lemmas.Nat.{pow-add}
use Rattle.lexical_util.specs.Number.{HasSign, IntegerType, IsWidth, integer_type, is_number, mul_add, number_if_fits}
use Rattle.lexical_util.specs.Number.IsWidth.{w8, w16, w32, w64, w128}
use Rattle.lexical_digits.specs.Value.{with_sign}
use Rattle.lexical_digits.specs.Words.{AreDigits, word_value}
use Rattle.lexical_digits.specs.WrittenNumbers.{StandsFor}
use Rattle.lexical_digits.proofs.DigitValues.{with_sign-step}
use Rattle.lexical_digits.proofs.WordsOfDigits.{digits_joined, value_joined}
use Rattle.lexical_fixed.proofs.Digits.{size_of, some_told, with_digits-none, with_digits-sign, with_digits_is}
use Rattle.lexical_fixed.proofs.LastFractions.{standing_joined}
use Rattle.lexical_fixed.proofs.QuickDigits.{no_digits_fault}
use Rattle.lexical_fixed.specs.Append.{IsAppended, digits_at_once}
use Rattle.lexical_fixed.specs.Fraction.{digit_outside, digits_fault, read_digits, with_digits}

-- ---- powers of ten

most_by : (bits : ℕ) (signed : Bool) → IsWidth bits → digits_at_once (integer_type bits signed) ≤ 16
most_by _ signed w8 = omega arith
most_by _ signed w16 = omega arith
most_by _ signed w32 = omega arith
most_by _ signed w64 = omega arith
most_by _ signed w128 = omega arith

-- sixteen digits at most
pub at_once_most : (t : IntegerType) → IsWidth t.bits → digits_at_once t ≤ 16
at_once_most t width = most_by t.bits t.is_signed width

some_by : (bits : ℕ) (signed : Bool) → IsWidth bits → 1 ≤ digits_at_once (integer_type bits signed)
some_by _ signed w8 = omega arith
some_by _ signed w16 = omega arith
some_by _ signed w32 = omega arith
some_by _ signed w64 = omega arith
some_by _ signed w128 = omega arith

pub at_once_some : (t : IntegerType) → IsWidth t.bits → 1 ≤ digits_at_once t
at_once_some t width = some_by t.bits t.is_signed width

-- eight digits and more
pub power_joined : (n : ℕ) → 8 ≤ n → 100000000 * 10 ^ (n - 8) + 0 ≡ 10 ^ n
power_joined n some =
    let parts : 8 + (n - 8) ≡ n = omega arith in
    let power : 10 ^ (8 + (n - 8)) ≡ 10 ^ 8 * 10 ^ (n - 8) = pow-add 10 8 (n - 8) in
    omega (arith, sym power ∙ ap (λ k. 10 ^ k) parts)

-- ---- digits

-- digits behind digits
pub with_digits-append : (b : Bool) (v : ℤ) (xs ys : List ℕ) → HasSign b v → with_digits b v (xs ++ ys) ≡ mul_add b (with_digits b v xs) (pos (10 ^ length ys)) (pos (word_value 10 ys))
with_digits-append b v xs ys s =
    let n = size_of b v s in
    let m : ℕ = n.size * 10 ^ length xs + word_value 10 xs in
    let power : 10 ^ length (xs ++ ys) ≡ 10 ^ length xs * 10 ^ length ys = ap (λ k. 10 ^ k) (length-append xs ys) ∙ pow-add 10 (length xs) (length ys) in
    let worth : word_value 10 (xs ++ ys) ≡ word_value 10 xs * 10 ^ length ys + word_value 10 ys = value_joined 10 xs ys in
    let sum : n.size * 10 ^ length (xs ++ ys) + word_value 10 (xs ++ ys) ≡ m * 10 ^ length ys + word_value 10 ys = rw (power, worth) (grind arith) in
    ap (λ z. with_digits b z (xs ++ ys)) n.is ∙ with_digits_is b n.size (xs ++ ys) ∙ ap (with_sign b) sum
    ∙ sym (with_sign-step b m (10 ^ length ys) (word_value 10 ys)) ∙ ap (λ z. mul_add b z (pos (10 ^ length ys)) (pos (word_value 10 ys))) (sym (ap (λ z. with_digits b z xs) n.is ∙ with_digits_is b n.size xs))

pub appended_none : (t : IntegerType) (b : Bool) (v : ℤ) (ds : List ℕ) → HasSign b v → IsAppended t b v (take 0 ds) v
appended_none t b v ds s = record { digits = tt; worth = sym (with_digits-none b v s); fits = λ l. absurd (omega arith) }

pub appended_sign : (t : IntegerType) (b : Bool) (v : ℤ) (ds : List ℕ) (now : ℤ) → HasSign b v → IsAppended t b v ds now → HasSign b now
appended_sign t b v ds now s r = subst (HasSign b) (sym r.worth) (with_digits-sign b v ds s)

-- `count` more digits
pub appended_more : (t : IntegerType) (b : Bool) (v : ℤ) (ds : List ℕ) (k count : ℕ) (now part next : ℤ) → HasSign b v → k + count ≤ length ds → 1 ≤ count → IsAppended t b v (take k ds) now
    → StandsFor t 10 false (slice_range ds k (k + count)) part → ◌≡◌ {A = Option ℤ} (Some next) (number_if_fits t (mul_add b now (pos (10 ^ count)) part)) → IsAppended t b v (take (k + count) ds) next
appended_more t b v ds k count now part next s within some r stands is =
    let told = some_told t next _ is in
    let long : k + count - k ≡ count = omega arith in
    let left = length-drop k ds in
    let last : List ℕ = take count (drop k ds) in
    let there : StandsFor t 10 false last part = subst (λ (n : ℕ). StandsFor t 10 false (take n (drop k ds)) part) long stands in
    let joined = standing_joined t false last part there in
    let size : length last ≡ count = length-take-le count (drop k ds) (omega (arith, left)) in
    let parts : take (k + count) ds ≡ take k ds ++ last = take-add k count ds in
    let worth : part ≡ pos (word_value 10 last) = there.worth ∙ there.writes.worth ∙ ap pos joined.worth in
    let value : mul_add b now (pos (10 ^ count)) part ≡ with_digits b v (take (k + count) ds) =
    ap (λ z. mul_add b now (pos (10 ^ count)) z) worth ∙ ap (λ n. mul_add b now (pos (10 ^ n)) (pos (word_value 10 last))) (sym size)
    ∙ ap (λ z. mul_add b z (pos (10 ^ length last)) (pos (word_value 10 last))) r.worth ∙ sym (with_digits-append b v (take k ds) last s) ∙ ap (with_digits b v) (sym parts) in
    record {
      digits = subst (λ (bs : List ℕ). AreDigits 10 bs) (sym parts) (digits_joined 10 (take k ds) last r.digits joined.digits);
      worth = told.0 ∙ value;
      fits = λ l. ap (is_number t) told.0 ∙ told.1;
    }

-- where all digits fit, none is at fault
pub appended_unfaulted : (t : IntegerType) (b : Bool) (v : ℤ) (ds : List ℕ) (place : ℕ) (now : ℤ) → HasSign b v → IsAppended t b v ds now → digits_fault t b v ds place ≡ None
unfolding digits_fault digit_outside
appended_unfaulted t b v [] place now s r = refl
appended_unfaulted t b v (d ∷ ds) place now s r = no_digits_fault t b v (d ∷ ds) place s (ap (is_number t) (sym r.worth) ∙ r.fits (omega arith))

pub appended_read : (t : IntegerType) (b : Bool) (v : ℤ) (ds : List ℕ) (place : ℕ) (now : ℤ) → HasSign b v → IsAppended t b v ds now → Ok now ≡ read_digits t b v ds place
appended_read t b v ds place now s r = rw (appended_unfaulted t b v ds place now s r) (ap Ok r.worth)
