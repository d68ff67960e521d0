-- Digits behind a number, one at a time, and the first that takes it out of its type: for loops over digits.
use Rattle.std.proofs.Common.{◌≡◌, ℕ, zero, suc, ◌+◌, ◌-◌, ◌*◌, ◌^◌, ◌≤◌, ◌<◌, Bool, true, false, cond, not, ◌&&◌, List, [], ◌∷◌, ◌++◌, length, get_or, take, Option, Some, None, refl, sym, ap, subst, ◌∙◌, arith, below_more}
use Rattle.std.proofs.Math.IntN.{ℤ, pos, negsuc, ◌*ℤ◌}
use Rattle.std.proofs.Math.Seq.{take-length}
use Rattle.std.proofs.Math.Nat.{pow-zero, pow-suc, pow-le-pow_right, mul-le-mul_left}
use Rattle.std.proofs.lemmas.Bool.{and_parts, false≢true, lt-ltb, ltb-true}
use Rattle.std.specs.Prelude.{nat_lt, Ok, Err}
use Rattle.std.proofs.lemmas.Int.{ints}
use Rattle.std.proofs.lemmas.List.{take_more, length_push}
use Rattle.std.proofs.lemmas.Nat.{pow-add}
use Rattle.lexical_util.specs.Number.{HasSign, IntegerType, is_number, mul_add, number_if_fits, number_limit}
use Rattle.lexical_digits.specs.Value.{with_sign}
use Rattle.lexical_digits.specs.Words.{AreDigits, word_value}
use Rattle.lexical_digits.proofs.AsciiDigits.{digit_to}
use Rattle.lexical_digits.proofs.DigitValues.{with_sign-step}
use Rattle.lexical_digits.proofs.LongNumbers.{sign_held}
use Rattle.lexical_digits.proofs.WordsOfDigits.{value_joined}
use Rattle.lexical_parse_integer.specs.Grammar.{range_error}
use Rattle.lexical_parse_integer.proofs.ForCallers.{zero_is_number}
use Rattle.lexical_fixed.proofs.Places.{find_no_place, find_place}
use Rattle.lexical_fixed.specs.Fraction.{digit_outside, digits_fault, read_digits, read_zeros, with_digits, with_zeros, zeros_fault}

-- what no number is answered for is none of the type
pub none_told : (t : IntegerType) (z : ℤ) → ◌≡◌ {A = Option ℤ} None (number_if_fits t z) → is_number t z ≡ false
none_told t z = by_test (is_number t z)
  where
    by_test : (b : Bool) → ◌≡◌ {A = Option ℤ} None (cond b (Some z) None) → b ≡ false
    by_test true e = cc
    by_test false e = refl

-- what a number is answered for is one of the type, and is it
pub some_told : (t : IntegerType) (y z : ℤ) → ◌≡◌ {A = Option ℤ} (Some y) (number_if_fits t z) → (y ≡ z) × (is_number t z ≡ true)
some_told t y z = by_test (is_number t z)
  where
    by_test : (b : Bool) → ◌≡◌ {A = Option ℤ} (Some y) (cond b (Some z) None) → (y ≡ z) × (b ≡ true)
    by_test true e = (grind arith, refl)
    by_test false e = cc

-- each number with a sign is its size behind that sign
pub record HasSize (b : Bool) (v : ℤ) : Type 0 where
  pub size : ℕ
  pub is : v ≡ with_sign b size

pub size_of : (b : Bool) (v : ℤ) → HasSign b v → HasSize b v
size_of false (pos n) s = record { size = n; is = refl }
size_of false (negsuc n) s = absurd (omega (arith, ints))
size_of true (pos zero) s = record { size = 0; is = refl }
size_of true (pos (suc n)) s = absurd (omega (arith, ints))
size_of true (negsuc n) s = record { size = suc n; is = refl }

-- a number by its size
pub with_digits_is : (b : Bool) (n : ℕ) (ds : List ℕ) → with_digits b (with_sign b n) ds ≡ with_sign b (n * 10 ^ length ds + word_value 10 ds)
unfolding with_digits
with_digits_is b n ds = with_sign-step b n (10 ^ length ds) (word_value 10 ds)

-- no digit
pub with_digits-none : (b : Bool) (v : ℤ) → HasSign b v → with_digits b v [] ≡ v
with_digits-none b v s =
    let n = size_of b v s in
    let same : n.size * 10 ^ 0 + 0 ≡ n.size = let one = pow-zero 10 in grind arith in
    ap (λ z. with_digits b z []) n.is ∙ with_digits_is b n.size [] ∙ ap (with_sign b) same ∙ sym n.is

-- one digit more
pub with_digits-push : (b : Bool) (v : ℤ) (ds : List ℕ) (d : ℕ) → HasSign b v → with_digits b v (ds ++ d ∷ []) ≡ mul_add b (with_digits b v ds) (pos 10) (pos (d - 48))
with_digits-push b v ds d s =
    let n = size_of b v s in
    let m : ℕ = n.size * 10 ^ length ds + word_value 10 ds in
    let size : length (ds ++ d ∷ []) ≡ suc (length ds) = length_push ds d ∙ omega arith in
    let power : 10 ^ length (ds ++ d ∷ []) ≡ 10 ^ length ds * 10 = ap (λ k. 10 ^ k) size ∙ pow-suc 10 (length ds) in
    let one : word_value 10 (d ∷ []) ≡ d - 48 = let p = pow-zero 10 in grind arith in
    let ten : 10 ^ length (d ∷ []) ≡ 10 = refl in
    let worth : word_value 10 (ds ++ d ∷ []) ≡ word_value 10 ds * 10 + (d - 48) = value_joined 10 ds (d ∷ []) ∙ ap (λ k. word_value 10 ds * 10 + k) one in
    let sum : n.size * 10 ^ length (ds ++ d ∷ []) + word_value 10 (ds ++ d ∷ []) ≡ m * 10 + (d - 48) = rw (power, worth) (grind arith) in
    ap (λ z. with_digits b z (ds ++ d ∷ [])) n.is ∙ with_digits_is b n.size (ds ++ d ∷ []) ∙ ap (with_sign b) sum
    ∙ sym (with_sign-step b m 10 (d - 48)) ∙ ap (λ z. mul_add b z (pos 10) (pos (d - 48))) (sym (ap (λ z. with_digits b z ds) n.is ∙ with_digits_is b n.size ds))

-- digits leave the sign
pub with_digits-sign : (b : Bool) (v : ℤ) (ds : List ℕ) → HasSign b v → HasSign b (with_digits b v ds)
with_digits-sign b v ds s =
    let n = size_of b v s in
    sign_held b (with_digits b v ds) (n.size * 10 ^ length ds + word_value 10 ds) (ap (λ z. with_digits b z ds) n.is ∙ with_digits_is b n.size ds)

-- ---- a row of digits

pub digit_among : (ds : List ℕ) (k : ℕ) → AreDigits 10 ds → k < length ds → (48 ≤ get_or ds k 0) × (get_or ds k 0 < 58)
digit_among [] k all l = absurd (omega arith)
digit_among (d ∷ ds) zero all l = digit_to 10 d all.0 (omega arith)
digit_among (d ∷ ds) (suc k) all l = digit_among ds k all.1 (omega arith)

-- the digit at a place of a row, behind those before it
step_is : (b : Bool) (v : ℤ) (ds : List ℕ) (k : ℕ) → HasSign b v → k < length ds → mul_add b (with_digits b v (take k ds)) (pos 10) (pos (get_or ds k 0 - 48)) ≡ with_digits b v (take (k + 1) ds)
step_is b v ds k s l = sym (ap (with_digits b v) (take_more ds k 0 l) ∙ with_digits-push b v (take k ds) (get_or ds k 0) s)

-- The first `k` digits of a row have been read behind a number, and none took it out of the type.
pub record DigitsRead (t : IntegerType) (b : Bool) (v : ℤ) (ds : List ℕ) (k : ℕ) (now : ℤ) : Type 0 where
  pub start : HasSign b v
  pub value : now ≡ with_digits b v (take k ds)
  pub fit : (j : ℕ) → j < k → is_number t (with_digits b v (take (j + 1) ds)) ≡ true

pub digits_none : (t : IntegerType) (b : Bool) (v : ℤ) (ds : List ℕ) → HasSign b v → DigitsRead t b v ds 0 v
digits_none t b v ds s = record { start = s; value = sym (with_digits-none b v s); fit = λ j l. absurd (omega arith) }

pub digits_sign : (t : IntegerType) (b : Bool) (v : ℤ) (ds : List ℕ) (k : ℕ) (now : ℤ) → DigitsRead t b v ds k now → HasSign b now
digits_sign t b v ds k now r = subst (HasSign b) (sym r.value) (with_digits-sign b v (take k ds) r.start)

next_is : (t : IntegerType) (b : Bool) (v : ℤ) (ds : List ℕ) (k : ℕ) (now : ℤ) → DigitsRead t b v ds k now → k < length ds → mul_add b now (pos 10) (pos (get_or ds k 0 - 48)) ≡ with_digits b v (take (k + 1) ds)
next_is t b v ds k now r l = ap (λ z. mul_add b z (pos 10) (pos (get_or ds k 0 - 48))) r.value ∙ step_is b v ds k r.start l

pub digits_more : (t : IntegerType) (b : Bool) (v : ℤ) (ds : List ℕ) (k : ℕ) (now next : ℤ) → DigitsRead t b v ds k now → k < length ds → ◌≡◌ {A = Option ℤ} (Some next) (number_if_fits t (mul_add b now (pos 10) (pos (get_or ds k 0 - 48)))) → DigitsRead t b v ds (k + 1) next
digits_more t b v ds k now next r l e =
    let told = some_told t next _ e in
    let same = next_is t b v ds k now r l in
    record {
      start = r.start;
      value = told.0 ∙ same;
      fit = below_more (λ j. is_number t (with_digits b v (take (j + 1) ds)) ≡ true) k r.fit (ap (is_number t) (sym same) ∙ told.1);
    }

pub digits_leave : (t : IntegerType) (b : Bool) (v : ℤ) (ds : List ℕ) (k place : ℕ) (now : ℤ) → DigitsRead t b v ds k now → k < length ds → ◌≡◌ {A = Option ℤ} None (number_if_fits t (mul_add b now (pos 10) (pos (get_or ds k 0 - 48)))) → Err (range_error b (place + k)) ≡ read_digits t b v ds place
unfolding digits_fault digit_outside
digits_leave t b v ds k place now r l e =
    let out : is_number t (with_digits b v (take (k + 1) ds)) ≡ false = ap (is_number t) (sym (next_is t b v ds k now r l)) ∙ none_told t _ e in
    let same : 0 + k ≡ k = omega arith in
    let first : digit_outside t b v ds ≡ Some k = rw same at (find_place (λ index. not (is_number t (with_digits b v (take (index + 1) ds)))) 0 (length ds) k l (λ j high low. ap not (r.fit j (omega arith))) (rw same (ap not out))) in
    rw first refl

pub digits_all : (t : IntegerType) (b : Bool) (v : ℤ) (ds : List ℕ) (k place : ℕ) (now : ℤ) → DigitsRead t b v ds k now → k ≡ length ds → Ok now ≡ read_digits t b v ds place
unfolding digits_fault digit_outside
digits_all t b v ds k place now r e =
    let none : digit_outside t b v ds ≡ None = find_no_place _ 0 (length ds) (λ j low high. ap not (r.fit j (omega arith))) in
    let all : take k ds ≡ ds = ap (λ n. take n ds) e ∙ take-length ds in
    rw none (ap Ok (r.value ∙ ap (with_digits b v) all))

-- ---- zeros

pub times_is : (b : Bool) (n r : ℕ) → with_sign b n *ℤ pos r ≡ with_sign b (n * r)
times_is false n r = refl
times_is true zero r = let e : 0 * r ≡ 0 = omega arith in rw e refl
times_is true (suc n) r = refl

and_made : (a b : Bool) → a ≡ true → b ≡ true → (a && b) ≡ true
and_made a b e h = rw (e, h) refl

-- a number of the type stays one when it comes nearer to 0
pub is_number-below : (t : IntegerType) (b : Bool) (m n : ℕ) → m ≤ n → is_number t (with_sign b n) ≡ true → is_number t (with_sign b m) ≡ true
is_number-below t false m n low fits = lt-ltb m (number_limit t) (let h = ltb-true n (number_limit t) fits in omega arith)
is_number-below t true zero n low fits = zero_is_number t true
is_number-below t true (suc m) zero low fits = absurd (omega arith)
is_number-below t true (suc m) (suc n) low fits =
    let both = and_parts t.is_signed (nat_lt n (number_limit t)) fits in
    let below = lt-ltb m (number_limit t) (let h = ltb-true n (number_limit t) both.1 in omega arith) in
    and_made t.is_signed (nat_lt m (number_limit t)) both.0 below

-- `k` zeros have been put behind a number, and none took it out of the type.
pub record ZerosRead (t : IntegerType) (b : Bool) (v : ℤ) (k : ℕ) (now : ℤ) : Type 0 where
  pub start : HasSign b v
  pub value : now ≡ with_zeros v k
  pub fits : 0 < k → is_number t now ≡ true

pub zeros_none : (t : IntegerType) (b : Bool) (v : ℤ) → HasSign b v → ZerosRead t b v 0 v
zeros_none t b v s =
    let n = size_of b v s in
    let same : n.size * 10 ^ 0 ≡ n.size = let one = pow-zero 10 in grind arith in
    record {
      start = s;
      value = sym (ap (λ z. with_zeros z 0) n.is ∙ times_is b n.size (10 ^ 0) ∙ ap (with_sign b) same ∙ sym n.is);
      fits = λ l. absurd (omega arith);
    }

pub zeros_sign : (t : IntegerType) (b : Bool) (v : ℤ) (k : ℕ) (now : ℤ) → ZerosRead t b v k now → HasSign b now
zeros_sign t b v k now r =
    let n = size_of b v r.start in
    sign_held b now (n.size * 10 ^ k) (r.value ∙ ap (λ z. with_zeros z k) n.is ∙ times_is b n.size (10 ^ k))

zeros_more_are : (t : IntegerType) (b : Bool) (v : ℤ) (k count : ℕ) (now : ℤ) → ZerosRead t b v k now → mul_add b now (pos (10 ^ count)) (pos 0) ≡ with_zeros v (k + count)
zeros_more_are t b v k count now r =
    let n = size_of b v r.start in
    let power : 10 ^ (k + count) ≡ 10 ^ k * 10 ^ count = pow-add 10 k count in
    let sum : n.size * 10 ^ k * 10 ^ count + 0 ≡ n.size * 10 ^ (k + count) = rw power (grind arith) in
    ap (λ z. mul_add b z (pos (10 ^ count)) (pos 0)) (r.value ∙ ap (λ z. with_zeros z k) n.is ∙ times_is b n.size (10 ^ k)) ∙ with_sign-step b (n.size * 10 ^ k) (10 ^ count) 0
    ∙ ap (with_sign b) sum ∙ sym (ap (λ z. with_zeros z (k + count)) n.is ∙ times_is b n.size (10 ^ (k + count)))

-- `count` more zeros
pub zeros_more : (t : IntegerType) (b : Bool) (v : ℤ) (k count : ℕ) (now none next : ℤ) → ZerosRead t b v k now → none ≡ pos 0 → ◌≡◌ {A = Option ℤ} (Some next) (number_if_fits t (mul_add b now (pos (10 ^ count)) none)) → ZerosRead t b v (k + count) next
zeros_more t b v k count now none next r is e =
    let told = some_told t next _ e in
    let same = ap (λ z. mul_add b now (pos (10 ^ count)) z) is ∙ zeros_more_are t b v k count now r in
    record { start = r.start; value = told.0 ∙ same; fits = λ l. ap (is_number t) told.0 ∙ told.1 }

-- a number outside the type stays there
outside_on : (t : IntegerType) (b : Bool) (v : ℤ) (j k : ℕ) → HasSign b v → j ≤ k → is_number t (with_zeros v j) ≡ false → is_number t (with_zeros v k) ≡ false
outside_on t b v j k s l out =
    let n = size_of b v s in
    let at : (i : ℕ) → with_zeros v i ≡ with_sign b (n.size * 10 ^ i) = λ i. ap (λ z. with_zeros z i) n.is ∙ times_is b n.size (10 ^ i) in
    let power : 10 ^ j ≤ 10 ^ k = pow-le-pow_right {n = 10} (omega arith) l in
    let grows : n.size * 10 ^ j ≤ n.size * 10 ^ k = mul-le-mul_left n.size power in
    by_test (is_number t (with_zeros v k)) refl (λ yes. ap (is_number t) (at j) ∙ is_number-below t b _ _ grows (ap (is_number t) (sym (at k)) ∙ yes))
  where
    by_test : (x : Bool) → is_number t (with_zeros v k) ≡ x → (is_number t (with_zeros v k) ≡ true → is_number t (with_zeros v j) ≡ true) → is_number t (with_zeros v k) ≡ false
    by_test true e back = absurd (false≢true (sym out ∙ back e))
    by_test false e back = e

pub zeros_leave : (t : IntegerType) (b : Bool) (v : ℤ) (k count zeros place : ℕ) (now none : ℤ) → ZerosRead t b v k now → k + count ≤ zeros → 1 ≤ count → none ≡ pos 0 → ◌≡◌ {A = Option ℤ} None (number_if_fits t (mul_add b now (pos (10 ^ count)) none))
    → Err (range_error b place) ≡ read_zeros t b v zeros place
unfolding zeros_fault
zeros_leave t b v k count zeros place now none r few more is e =
    let same = ap (λ z. mul_add b now (pos (10 ^ count)) z) is ∙ zeros_more_are t b v k count now r in
    let out : is_number t (with_zeros v (k + count)) ≡ false = ap (is_number t) (sym same) ∙ none_told t _ e in
    let last : is_number t (with_zeros v zeros) ≡ false = outside_on t b v (k + count) zeros r.start few out in
    let some : nat_lt 0 zeros ≡ true = lt-ltb 0 zeros (omega arith) in
    rw (some, last) refl

pub zeros_all : (t : IntegerType) (b : Bool) (v : ℤ) (k count place : ℕ) (now : ℤ) → ZerosRead t b v k now → k ≡ count → Ok now ≡ read_zeros t b v count place
unfolding zeros_fault
zeros_all t b v zero count place now r e = rw (sym e) (ap Ok r.value)
zeros_all t b v (suc k) count place now r e =
    let fits : is_number t (with_zeros v (suc k)) ≡ true = ap (is_number t) (sym r.value) ∙ r.fits (omega arith) in
    let some : nat_lt 0 (suc k) ≡ true = lt-ltb 0 (suc k) (omega arith) in
    rw (sym e, some, fits) (ap Ok r.value)
