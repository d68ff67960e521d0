-- Digits of any radix at the front of a text, read one byte after another.
use Rattle.std.proofs.Common.{◌≡◌, ℕ, suc, ◌+◌, ◌-◌, ◌*◌, ◌^◌, ◌≤◌, ◌<◌, Bool, true, false, List, [], ◌∷◌, ◌++◌, length, get_or, take, map, Option, Some, refl, sym, ap, ◌∙◌, arith}
use Rattle.std.specs.Prelude.{ℤ, pos}
use Rattle.std.proofs.Math.Nat.{pow-zero, pow-suc, mul-le-mul_right, pow-le-pow_right}
use Rattle.std.proofs.lemmas.Bool.{lt-ltb, ltb-true}
use Rattle.std.proofs.lemmas.List.{take_more, map-append}
use Rattle.lexical_digits.specs.Value.{positional_value, with_sign}
use Rattle.lexical_util.specs.Number.{HasRoom, IntegerType, IsNumber, is_number, mul_add, number_limit}
use Rattle.lexical_digits.proofs.DigitValues.{positional_value-push, digit_below}
use Rattle.lexical_util.proofs.Room.{negative_below_limit}
use Rattle.lexical_util.specs.Digit.{digit, digit_value}
use Rattle.lexical_digits.specs.WrittenNumbers.{WritesFront}

pub few_fit : (type : IntegerType) (is_negative : Bool) (r o n m : ℕ) → HasRoom type r o → (is_negative ≡ true → type.is_signed ≡ true) → 1 ≤ r → m ≤ o → n < r ^ m → IsNumber type (with_sign is_negative n)
few_fit type true r o n m room may one le small =
    let up = pow-le-pow_right {n = r} one le in
    let top = ltb-true (r ^ o - 1) (number_limit type) room.greatest in
    negative_below_limit type n (omega arith) (may refl)
few_fit type false r o n m room may one le small =
    let up = pow-le-pow_right {n = r} one le in
    let top = ltb-true (r ^ o - 1) (number_limit type) room.greatest in
    lt-ltb n (number_limit type) (omega arith)

-- before the first byte
pub nothing_read : (r : ℕ) (text : List ℕ) (value : ℤ) → value ≡ pos 0 → WritesFront r text 0 value
nothing_read r text value none = record { values = []; digits = refl; worth = none; below = let one = pow-zero r in omega arith }

-- one digit more
pub next_read : (r k d : ℕ) (text : List ℕ) (value next : ℤ) → WritesFront r text k value → k < length text → digit r (get_or text k 0) ≡ Some d → next ≡ mul_add false value (pos r) (pos d) → WritesFront r text (k + 1) next
next_read r k d text value next w more is step =
    let one : take (k + 1) text ≡ take k text ++ get_or text k 0 ∷ [] = take_more text k 0 more in
    let low : d < r = digit_below r (digit_value (get_or text k 0)) d is in
    let v : ℕ = positional_value r w.values in
    let push : positional_value r (w.values ++ d ∷ []) ≡ v * r + d = positional_value-push r w.values d in
    let p : r ^ (k + 1) ≡ r ^ k * r = let one_more : k + 1 ≡ suc k = omega arith in ap (λ n. r ^ n) one_more ∙ pow-suc r k in
    let before : v < r ^ k = w.below in
    let up : suc v * r ≤ r ^ k * r = mul-le-mul_right r before in
    let spread : suc v * r ≡ v * r + r = grind arith in
    record {
      values = w.values ++ d ∷ [];
      digits = ap (map (λ byte. digit r byte)) one ∙ map-append (λ byte. digit r byte) (take k text) (get_or text k 0 ∷ [])
          ∙ ap (λ (os : List (Option ℕ)). os ++ digit r (get_or text k 0) ∷ []) w.digits ∙ ap (λ (o : Option ℕ). map Some w.values ++ o ∷ []) is ∙ sym (map-append Some w.values (d ∷ []));
      worth = step ∙ ap (λ (z : ℤ). mul_add false z (pos r) (pos d)) w.worth ∙ ap pos (sym push);
      below = omega (arith, push, p, up, spread, low);
    }

never : (b : Bool) → false ≡ true → b ≡ true
never b e = cc

-- so few digits that none of their numbers leaves the type
pub front_fits : (t : IntegerType) (r o k : ℕ) (text : List ℕ) (value : ℤ) → HasRoom t r o → 1 ≤ r → k ≤ o → WritesFront r text k value → IsNumber t value
front_fits t r o k text value room positive few w = ap (is_number t) w.worth ∙ few_fit t false r o (positional_value r w.values) k room (never t.is_signed) positive few w.below

-- the number with one more digit is one of the type, where the text has at most `o` digits
pub next_fits : (t : IntegerType) (r o k d : ℕ) (text : List ℕ) (value next : ℤ) → HasRoom t r o → 1 ≤ r → WritesFront r text k value → k < length text → length text ≤ o → digit r (get_or text k 0) ≡ Some d → next ≡ mul_add false value (pos r) (pos d) → IsNumber t next
next_fits t r o k d text value next room positive w more few is step = front_fits t r o (k + 1) text next room positive (omega arith) (next_read r k d text value next w more is step)
