-- Where the value of some digits is a number of the type, so is that of the first of them: for words and laws.
use Rattle.std.proofs.Common.{◌≡◌, ℕ, zero, suc, ◌+◌, ◌-◌, ◌^◌, ◌≤◌, Bool, true, false, ◌&&◌, List, length, take, drop, refl, ap, subst, ◌∙◌, arith}
use Rattle.std.proofs.lemmas.Bool.{lt-ltb, ltb-true, and_parts}
use Rattle.std.proofs.Math.Seq.{take-add}
use Rattle.std.proofs.Math.Nat.{one-le-pow, mul-le-mul_left}
use Rattle.std.specs.Prelude.{if◌then◌else◌, nat_lt}
use Rattle.lexical_util.specs.Number.{IntegerType, is_number, number_limit}
use Rattle.lexical_parse_integer.specs.Numeral.{Numeral, front_value}
use Rattle.lexical_parse_integer.specs.Reading.{FrontsFit}
use Rattle.lexical_digits.specs.Value.{positional_value, with_sign}
use Rattle.lexical_digits.proofs.DigitValues.{positional_value-append}

-- 0 is a number of each type, with either sign
pub zero_is_number : (t : IntegerType) (b : Bool) → is_number t (with_sign b 0) ≡ true
zero_is_number t true = lt-ltb 0 (number_limit t) (one-le-pow (if t.is_signed then t.bits - 1 else t.bits) 2 (omega arith))
zero_is_number t false = lt-ltb 0 (number_limit t) (one-le-pow (if t.is_signed then t.bits - 1 else t.bits) 2 (omega arith))

and_made : (a b : Bool) → a ≡ true → b ≡ true → (a && b) ≡ true
and_made a b e h = rw (e, h) refl

-- a number of the type stays one when it comes nearer to 0
is_number-below : (t : IntegerType) (b : Bool) (m n : ℕ) → m ≤ n → is_number t (with_sign b n) ≡ true → is_number t (with_sign b m) ≡ true
is_number-below t false m n low fits = lt-ltb m (number_limit t) (let h = ltb-true n (number_limit t) fits in omega arith)
is_number-below t true zero n low fits = zero_is_number t true
is_number-below t true (suc m) zero low fits = absurd (omega arith)
is_number-below t true (suc m) (suc n) low fits =
    let both = and_parts t.is_signed (nat_lt n (number_limit t)) fits in
    let below = lt-ltb m (number_limit t) (let h = ltb-true n (number_limit t) both.1 in omega arith) in
    and_made t.is_signed (nat_lt m (number_limit t)) both.0 below

-- a longer front has no smaller value
positional_value-front-le : (r : ℕ) (ds : List ℕ) (i j : ℕ) → 1 ≤ r → positional_value r (take i ds) ≤ positional_value r (take (i + j) ds)
positional_value-front-le r ds i j positive =
    let parts = ap (positional_value r) (take-add i j ds) ∙ positional_value-append r (take i ds) (take j (drop i ds)) in
    let power : 1 ≤ r ^ length (take j (drop i ds)) = one-le-pow (length (take j (drop i ds))) r (omega arith) in
    let grows = mul-le-mul_left (positional_value r (take i ds)) power in
    omega arith

-- where a front fits, each shorter one does
pub shorter_fronts_fit : (t : IntegerType) (b : Bool) (x : Numeral) (n : ℕ) → 1 ≤ x.radix → is_number t (front_value b x n) ≡ true → FrontsFit t b x n
shorter_fronts_fit t b x n positive fits k l =
    let whole : k + 1 + (n - (k + 1)) ≡ n = omega arith in
    let low : positional_value x.radix (take (k + 1) x.digits) ≤ positional_value x.radix (take n x.digits) =
    subst (λ (j : ℕ). positional_value x.radix (take (k + 1) x.digits) ≤ positional_value x.radix (take j x.digits)) whole
    (positional_value-front-le x.radix x.digits (k + 1) (n - (k + 1)) positive) in
    is_number-below t b _ (positional_value x.radix (take n x.digits)) low fits
