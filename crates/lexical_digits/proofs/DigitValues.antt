-- What a row of digits is worth.
use Rattle.std.proofs.Common.{◌≡◌, ℕ, zero, suc, ◌+◌, ◌*◌, ◌^◌, Bool, true, false, List, [], ◌∷◌, ◌++◌, length, refl, ap, ◌∙◌, arith, length-append, ◌<◌, sym, Some, None, map, Option, cond}
use Rattle.std.proofs.lemmas.Nat.{pow-add}
use Rattle.std.proofs.lemmas.Bool.{ltb-true}
use Rattle.std.proofs.Math.Nat.{pow-zero, pow-suc}
use Rattle.std.specs.Prelude.{nat_lt}
use Rattle.lexical_util.specs.Number.{mul_add}
use Rattle.lexical_digits.specs.Value.{positional_value, with_sign}
use Rattle.std.proofs.Math.IntN.{pos, neg_ℤ, ◌*ℤ◌, ◌-ℤ◌, neg_ℤ-+ℤ}
use Rattle.std.proofs.lemmas.List.{length-map}
use Rattle.lexical_util.specs.Digit.{value_if_below, digit}

-- digits after digits
pub positional_value-append : (r : ℕ) (xs ys : List ℕ) → positional_value r (xs ++ ys) ≡ positional_value r xs * r ^ length ys + positional_value r ys
positional_value-append r [] ys = omega arith
positional_value-append r (x ∷ xs) ys =
    let more : r ^ length (xs ++ ys) ≡ r ^ length xs * r ^ length ys = rw length-append (pow-add r (length xs) (length ys)) in
    omega (arith, positional_value-append r xs ys, ap (λ w. x * w) more)

-- one digit more
pub positional_value-push : (r : ℕ) (ds : List ℕ) (d : ℕ) → positional_value r (ds ++ d ∷ []) ≡ positional_value r ds * r + d
positional_value-push r [] d = rw pow-zero (omega arith)
positional_value-push r (x ∷ ds) d =
    let more : r ^ length (ds ++ d ∷ []) ≡ r ^ length ds * r = rw length-append (rw add_one_is_suc (pow-suc r (length ds))) in
    omega (arith, positional_value-push r ds d, ap (λ w. x * w) more)
  where
    add_one_is_suc : (n : ℕ) → n + 1 ≡ suc n
    add_one_is_suc n = omega arith

neg-mul : (v r : ℕ) → neg_ℤ (pos v) *ℤ pos r ≡ neg_ℤ (pos (v * r))
neg-mul zero r = let e : 0 * r ≡ 0 = omega arith in rw e refl
neg-mul (suc v) r = refl

-- a step of a signed value is the step of its magnitude, with the sign
pub with_sign-step : (m : Bool) (v r d : ℕ) → mul_add m (with_sign m v) (pos r) (pos d) ≡ with_sign m (v * r + d)
with_sign-step false v r d = refl
with_sign-step true v r d = ap (λ z. z -ℤ pos d) (neg-mul v r) ∙ sym (neg_ℤ-+ℤ (pos (v * r)) (pos d))

-- each byte is a digit, with these values
abbrev pub HaveDigits : ℕ → List ℕ → List ℕ → Type 0
HaveDigits r bytes ds = map (λ byte. digit r byte) bytes ≡ map Some ds

pub digits_size : (r : ℕ) (bytes ds : List ℕ) → HaveDigits r bytes ds → length bytes ≡ length ds
digits_size r bytes ds all = sym (length-map bytes (λ byte. digit r byte)) ∙ ap length all ∙ length-map ds Some

-- a digit is below the radix
pub digit_below : (r : ℕ) (o : Option ℕ) (d : ℕ) → value_if_below r o ≡ Some d → d < r
digit_below r None d e = cc
digit_below r (Some v) d e = by_test (nat_lt v r) refl e
  where
    by_test : (b : Bool) → nat_lt v r ≡ b → cond b (Some v) None ≡ Some d → d < r
    by_test true t h = let l = ltb-true v r t in let same : v ≡ d = cc in omega arith
    by_test false t h = cc
