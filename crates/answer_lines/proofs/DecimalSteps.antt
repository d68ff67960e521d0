-- The last digit of a number, and the digits in front of it.
use Rattle.std.proofs.Common.{◌≡◌, ℕ, zero, suc, ◌+◌, ◌/◌, ◌%◌, ◌^◌, ◌<◌, ◌≤◌, true, cond, List, [], ◌∷◌, ◌++◌, map, pos, negsuc, refl, ap, sym, subst, ◌∙◌, arith}
use Rattle.std.proofs.lemmas.Bool.{lt-ltb}
use Rattle.std.proofs.lemmas.Int.{ints}
use Rattle.std.proofs.lemmas.Int.Digits.{digits_of_step, all_below_base_digits_of}
use Rattle.std.proofs.lemmas.List.{map-append, append_assoc}
use Rattle.std.specs.Char.{digit_char}
use Rattle.std.specs.Int.Digits.{digits_of, AllBelowBase}
use Rattle.std.specs.Prelude.{nat_lt, ◌<ℤ◌, unsigned_abs}
use lib.IntN.{ℤ}
use Rattle.lexical_parse_integer.proofs.ForCallers.{digits_text, digits_text_is}
use Rattle.lexical_parse_integer.specs.Laws.{IsNumeralOf, WritesShortest}
use Rattle.answer_lines.specs.Decimal.{decimal_text, eight_digits, four_digits, signed_text, sixteen_digits, two_digits}

decimal_some : (n : ℕ) → 0 < n → decimal_text n ≡ map (λ d. 48 + d) (digits_of 10 n)
decimal_some n some = grind arith

pub decimal_digit : (n : ℕ) → n < 10 → decimal_text n ≡ (48 + n) ∷ []
decimal_digit zero small = refl
decimal_digit (suc n) small =
    let front : suc n / 10 ≡ 0 = omega arith in
    let last : suc n % 10 ≡ suc n = omega arith in
    decimal_some (suc n) (omega arith) ∙ ap (λ ds. map (λ d. 48 + d) ds)
    (digits_of_step 10 (suc n) (omega arith) (omega arith))
    ∙ rw (front, last) refl

pub decimal_step : (n : ℕ) → 10 ≤ n → decimal_text n ≡ decimal_text (n / 10) ++ (48 + n % 10) ∷ []
decimal_step n big =
    decimal_some n (omega arith) ∙ ap (λ ds. map (λ d. 48 + d) ds) (digits_of_step 10 n (omega arith) (omega arith))
    ∙ map-append (λ d. 48 + d) (digits_of 10 (n / 10)) (n % 10 ∷ [])
    ∙ ap (λ t. t ++ (48 + n % 10) ∷ []) (sym (decimal_some (n / 10) (omega arith)))

-- the last two digits, and the digits in front of them
pub decimal_pair_step : (n : ℕ) → 100 ≤ n
    → decimal_text n ≡ decimal_text (n / 100) ++ two_digits (n % 100)
decimal_pair_step n big =
    let a : n / 10 / 10 ≡ n / 100 = omega arith in
    let b : n / 10 % 10 ≡ n % 100 / 10 = omega arith in
    let d : n % 10 ≡ n % 100 % 10 = omega arith in
    decimal_step n (omega arith) ∙ ap (λ t. t ++ (48 + n % 10) ∷ [])
    (decimal_step (n / 10) (omega arith)) ∙ rw (append_assoc, a, b, d) refl

pub decimal_two : (n : ℕ) → 10 ≤ n → n < 100 → decimal_text n ≡ (48 + n / 10) ∷ (48 + n % 10) ∷ []
decimal_two n big small = decimal_step n big ∙ ap (λ t. t ++ (48 + n % 10) ∷ []) (decimal_digit (n / 10) (omega arith))

-- the last four digits, and the digits in front of them
pub decimal_four_step : (n : ℕ) → 10 ^ 4 ≤ n → decimal_text n ≡ decimal_text (n / 10 ^ 4) ++ four_digits (n % 10 ^ 4)
decimal_four_step n big =
    let a : n / 100 / 100 ≡ n / 10 ^ 4 = omega arith in
    let b : n / 100 % 100 ≡ n % 10 ^ 4 / 100 = omega arith in
    let d : n % 100 ≡ n % 10 ^ 4 % 100 = omega arith in
    decimal_pair_step n (omega arith) ∙ ap (λ t. t ++ two_digits (n % 100)) (decimal_pair_step (n / 100) (omega arith))
    ∙ append_assoc (decimal_text (n / 100 / 100)) (two_digits (n / 100 % 100)) (two_digits (n % 100))
    ∙ rw (a, b, d) refl

-- the last eight digits, and the digits in front of them
pub decimal_eight_step : (n : ℕ) → 10 ^ 8 ≤ n → decimal_text n ≡ decimal_text (n / 10 ^ 8) ++ eight_digits (n % 10 ^ 8)
unfolding eight_digits
decimal_eight_step n big =
    let a : n / 10 ^ 4 / 10 ^ 4 ≡ n / 10 ^ 8 = omega arith in
    let b : n / 10 ^ 4 % 10 ^ 4 ≡ n % 10 ^ 8 / 10 ^ 4 = omega arith in
    let d : n % 10 ^ 4 ≡ n % 10 ^ 8 % 10 ^ 4 = omega arith in
    decimal_four_step n (omega arith)
    ∙ ap (λ t. t ++ four_digits (n % 10 ^ 4)) (decimal_four_step (n / 10 ^ 4) (omega arith))
    ∙ append_assoc (decimal_text (n / 10 ^ 4 / 10 ^ 4)) (four_digits (n / 10 ^ 4 % 10 ^ 4)) (four_digits (n % 10 ^ 4))
    ∙ rw (a, b, d) refl

-- the last sixteen digits, and the digits in front of them
pub decimal_sixteen_step : (n : ℕ) → 10 ^ 16 ≤ n
    → decimal_text n ≡ decimal_text (n / 10 ^ 16) ++ sixteen_digits (n % 10 ^ 16)
unfolding sixteen_digits
decimal_sixteen_step n big =
    let a : n / 10 ^ 8 / 10 ^ 8 ≡ n / 10 ^ 16 = omega arith in
    let b : n / 10 ^ 8 % 10 ^ 8 ≡ n % 10 ^ 16 / 10 ^ 8 = omega arith in
    let d : n % 10 ^ 8 ≡ n % 10 ^ 16 % 10 ^ 8 = omega arith in
    decimal_eight_step n (omega arith)
    ∙ ap (λ t. t ++ eight_digits (n % 10 ^ 8)) (decimal_eight_step (n / 10 ^ 8) (omega arith))
    ∙ append_assoc (decimal_text (n / 10 ^ 8 / 10 ^ 8)) (eight_digits (n / 10 ^ 8 % 10 ^ 8)) (eight_digits (n % 10 ^ 8))
    ∙ rw (a, b, d) refl

-- more digits behind those that stand
pub digits_behind : (first next before front digits text : List ℕ) → first ≡ before ++ front
    → next ≡ first ++ digits → text ≡ front ++ digits → next ≡ before ++ text
digits_behind first next before front digits text e w step =
    w ∙ ap (λ t. t ++ digits) e ∙ append_assoc before front digits ∙ ap (λ t. before ++ t) (sym step)

-- ---- signs

-- a number from 0 up has no sign
pub unsigned_text : (z : ℤ) → (z <ℤ pos 0 → ⊥) → signed_text z ≡ decimal_text (unsigned_abs z)
unsigned_text (pos n) from_0 = refl
unsigned_text (negsuc n) from_0 = absurd (from_0 (omega (arith, ints)))

-- a number below 0 has a minus
pub minus_text : (z : ℤ) → z <ℤ pos 0 → signed_text z ≡ 45 ∷ decimal_text (unsigned_abs z)
minus_text (pos n) below = absurd (omega (arith, ints))
minus_text (negsuc n) below = refl

-- ---- the shortest text

-- each digit as its byte
chars_of_digits : (ds : List ℕ) → AllBelowBase 10 ds → map (λ d. 48 + d) ds ≡ map digit_char ds
chars_of_digits [] all = refl
chars_of_digits (d ∷ ds) all =
    let low : nat_lt d 10 ≡ true = lt-ltb d 10 all.0 in
    let here : 48 + d ≡ digit_char d = sym (ap (λ b. cond b (48 + d) (87 + d)) low) in
    let more = chars_of_digits ds all.1 in
    cc

decimal_text-digits_text : (n : ℕ) → decimal_text n ≡ digits_text 10 n
unfolding digits_text
decimal_text-digits_text zero = refl
decimal_text-digits_text (suc n) =
    decimal_some (suc n) (omega arith) ∙ chars_of_digits (digits_of 10 (suc n))
    (all_below_base_digits_of 10 (suc n) (omega arith))

shortest : (n : ℕ) → WritesShortest 10 n (decimal_text n)
shortest n =
    subst (WritesShortest 10 n) (sym (decimal_text-digits_text n))
    (digits_text_is 10 n (omega arith) (omega arith))

pub is_decimal : (z : ℤ) → IsNumeralOf 10 z (signed_text z)
is_decimal (pos n) = shortest n
is_decimal (negsuc n) = (decimal_text (suc n), refl, shortest (suc n))
