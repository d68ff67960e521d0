-- Digits that are joined to a number at once: where the last number fits, none of the steps leaves the type.
use Rattle.std.proofs.Common.{◌≡◌, ℕ, zero, suc, ◌+◌, ◌*◌, ◌^◌, ◌≤◌, ◌<◌, Bool, true, false, cond, not, ◌&&◌, List, [], ◌∷◌, ◌++◌, length, length-append, get_or, take, drop, Some, None, IsNone, is_some, refl, sym, ap, subst, ◌∙◌, arith}
use Rattle.std.proofs.Math.IntN.{ℤ, pos}
use Rattle.std.proofs.Math.Nat.{pow-zero, one-le-pow, mul-le-mul_left}
use Rattle.std.proofs.lemmas.Nat.{pow-add}
use Rattle.std.proofs.lemmas.List.{take-append-drop}
use Rattle.std.specs.Prelude.{nat_lt}
use Rattle.lexical_parse_integer.specs.Grammar.{range_error}
use Rattle.std.specs.List.{prefix_len}
use Rattle.lexical_util.specs.Digit.{digit}
use Rattle.lexical_util.specs.Number.{HasSign, IntegerType, is_number, mul_add}
use Rattle.lexical_digits.specs.Value.{with_sign}
use Rattle.lexical_digits.specs.Words.{AreDigits, word_value}
use Rattle.lexical_digits.proofs.DigitValues.{with_sign-step}
use Rattle.lexical_digits.proofs.WordsOfDigits.{value_joined}
use Rattle.lexical_fixed.proofs.Places.{find_no_place}
use Rattle.lexical_fixed.specs.Fraction.{digit_outside, digits_fault, with_digits, with_zeros, zeros_fault}
use Rattle.lexical_fixed.proofs.Digits.{is_number-below, size_of, times_is, with_digits_is}

-- digits in front of a row are worth no more than all of them
grows : (n : ℕ) (xs ys : List ℕ) → n * 10 ^ length xs + word_value 10 xs ≤ n * 10 ^ length (xs ++ ys) + word_value 10 (xs ++ ys)
grows n xs ys =
    let size : length (xs ++ ys) ≡ length xs + length ys = length-append xs ys in
    let power : 10 ^ length (xs ++ ys) ≡ 10 ^ length xs * 10 ^ length ys = ap (λ k. 10 ^ k) size ∙ pow-add 10 (length xs) (length ys) in
    let worth : word_value 10 (xs ++ ys) ≡ word_value 10 xs * 10 ^ length ys + word_value 10 ys = value_joined 10 xs ys in
    let one : 1 ≤ 10 ^ length ys = one-le-pow (length ys) 10 (omega arith) in
    let m : ℕ = n * 10 ^ length xs + word_value 10 xs in
    let up : m * 1 ≤ m * 10 ^ length ys = mul-le-mul_left m one in
    let whole : n * 10 ^ length (xs ++ ys) + word_value 10 (xs ++ ys) ≡ m * 10 ^ length ys + word_value 10 ys = rw (power, worth) (grind arith) in
    omega arith

-- where all digits fit, each number of fewer does
pub front_fits : (t : IntegerType) (b : Bool) (v : ℤ) (ds : List ℕ) (k : ℕ) → HasSign b v → is_number t (with_digits b v ds) ≡ true → is_number t (with_digits b v (take k ds)) ≡ true
front_fits t b v ds k s fits =
    let n = size_of b v s in
    let parts : take k ds ++ drop k ds ≡ ds = take-append-drop k ds in
    let low : n.size * 10 ^ length (take k ds) + word_value 10 (take k ds) ≤ n.size * 10 ^ length ds + word_value 10 ds =
    subst (λ (all : List ℕ). n.size * 10 ^ length (take k ds) + word_value 10 (take k ds) ≤ n.size * 10 ^ length all + word_value 10 all) parts (grows n.size (take k ds) (drop k ds)) in
    let at : (xs : List ℕ) → with_digits b v xs ≡ with_sign b (n.size * 10 ^ length xs + word_value 10 xs) = λ xs. ap (λ z. with_digits b z xs) n.is ∙ with_digits_is b n.size xs in
    ap (is_number t) (at (take k ds)) ∙ is_number-below t b _ _ low (ap (is_number t) (sym (at ds)) ∙ fits)

-- where all digits fit, none is at fault
pub no_digits_fault : (t : IntegerType) (b : Bool) (v : ℤ) (ds : List ℕ) (place : ℕ) → HasSign b v → is_number t (with_digits b v ds) ≡ true → digits_fault t b v ds place ≡ None
unfolding digits_fault digit_outside
no_digits_fault t b v ds place s fits =
    let none : digit_outside t b v ds ≡ None = find_no_place _ 0 (length ds) (λ j low high. ap not (front_fits t b v ds (j + 1) s fits)) in
    rw none refl

-- a number that is joined is that of the digits
pub joined_is : (b : Bool) (v next : ℤ) (ds : List ℕ) (number count : ℕ) → length ds ≡ count → number ≡ word_value 10 ds → next ≡ mul_add b v (pos (10 ^ count)) (pos number) → next ≡ with_digits b v ds
unfolding with_digits
joined_is b v next ds number count size worth is =
    is ∙ ap (λ k. mul_add b v (pos (10 ^ k)) (pos number)) (sym size) ∙ ap (λ n. mul_add b v (pos (10 ^ length ds)) (pos n)) worth

-- zeros that are joined are a power of ten
pub zeros_joined : (b : Bool) (v next : ℤ) (zeros : ℕ) → HasSign b v → next ≡ mul_add b v (pos (10 ^ zeros)) (pos 0) → next ≡ with_zeros v zeros
zeros_joined b v next zeros s is =
    let n = size_of b v s in
    let same : n.size * 10 ^ zeros + 0 ≡ n.size * 10 ^ zeros = omega arith in
    is ∙ ap (λ z. mul_add b z (pos (10 ^ zeros)) (pos 0)) n.is ∙ with_sign-step b n.size (10 ^ zeros) 0 ∙ ap (with_sign b) same
    ∙ sym (ap (λ z. with_zeros z zeros) n.is ∙ times_is b n.size (10 ^ zeros))

pub no_zeros : (t : IntegerType) (b : Bool) (v : ℤ) (place : ℕ) → HasSign b v → (zeros_fault t b v 0 place ≡ None) × (with_zeros v 0 ≡ v)
unfolding zeros_fault
no_zeros t b v place s =
    let n = size_of b v s in
    let same : n.size * 10 ^ 0 ≡ n.size = let one = pow-zero 10 in grind arith in
    (refl, ap (λ z. with_zeros z 0) n.is ∙ times_is b n.size (10 ^ 0) ∙ ap (with_sign b) same ∙ sym n.is)

pub no_zeros_fault : (t : IntegerType) (b : Bool) (v : ℤ) (zeros place : ℕ) → is_number t (with_zeros v zeros) ≡ true → zeros_fault t b v zeros place ≡ None
unfolding zeros_fault
no_zeros_fault t b v zeros place fits = rw fits (by_test (nat_lt 0 zeros))
  where
    by_test : (x : Bool) → cond (x && false) (Some (range_error b place)) None ≡ None
    by_test true = refl
    by_test false = refl

-- `count` digits stand in front of a text, and none behind them
pub prefix_is : (bytes : List ℕ) (count : ℕ) → count ≤ length bytes → AreDigits 10 (take count bytes) → (count < length bytes → IsNone (digit 10 (get_or bytes count 0))) → prefix_len (λ byte. is_some (digit 10 byte)) bytes ≡ count
prefix_is [] zero within digits stops = refl
prefix_is [] (suc n) within digits stops = absurd (omega arith)
prefix_is (b ∷ bs) zero within digits stops =
    let none : is_some (digit 10 b) ≡ false = stops (omega arith) in
    rw none refl
prefix_is (b ∷ bs) (suc n) within digits stops =
    let rest = prefix_is bs n (omega arith) digits.1 (λ l. stops (omega arith)) in
    rw digits.0 (omega (arith, rest))
