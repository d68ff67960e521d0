-- The test for digits, byte by byte: a word is its lowest byte and the word of the other bytes. For `is_4digits`
-- and `is_8digits`.
use Rattle.std.proofs.Common.{◌≡◌, ◌↔◌, ℕ, zero, suc, ◌+◌, ◌-◌, ◌*◌, ◌/◌, ◌%◌, ◌^◌, ◌<◌, ◌≤◌, bit_and, bit_or, IsTrue, nat_eq, sym, ap, ◌∙◌, arith}
use Rattle.std.proofs.Math.Nat.{pow-suc}
use Rattle.std.proofs.lemmas.Nat.{or_block, and_block, or_lt, mod-mul-add, and_le_r}
use Rattle.std.proofs.lemmas.Nat.Bits.{and_pow, bit_at_or}
use Rattle.std.proofs.lemmas.Bool.{eqb-true, eq-eqb}
use Rattle.lexical_digits.specs.Words.{word_bytes}
use Rattle.lexical_digits.proofs.AsciiDigits.{AreAsciiDigits, IsAsciiDigit}

-- the word whose `count` bytes all are `byte`
abbrev pub repetition_of : ℕ → ℕ → ℕ
repetition_of byte zero = 0
repetition_of byte (suc count) = repetition_of byte count * 256 + byte

repetition_of-lt : (byte count : ℕ) → byte < 256 → repetition_of byte count < 256 ^ count
repetition_of-lt byte zero h = omega arith
repetition_of-lt byte (suc count) h = rw (pow-suc 256 count) (omega (arith, repetition_of-lt byte count h))

-- what is left of a word in `w` bytes and one more: the lowest byte stays
mod_with_byte : (x w : ℕ) → 0 < w → x % (w * 256) ≡ (x / 256 % w) * 256 + x % 256
mod_with_byte x w h =
    let split : x ≡ (x / 256 / w) * (w * 256) + ((x / 256 % w) * 256 + x % 256) = omega arith in
    let low : (x / 256 % w) * 256 + x % 256 < w * 256 = omega arith in
    ap (λ n. n % (w * 256)) split ∙ mod-mul-add (x / 256 / w) (w * 256) ((x / 256 % w) * 256 + x % 256) low

-- the highest bits of a word's bytes, that of its lowest byte apart
high_bits_split : (x y mask a b : ℕ) → a < 256 → b < 256 →
    bit_and (bit_or (x * 256 + a) (y * 256 + b)) (mask * 256 + 128) ≡ bit_and (bit_or x y) mask * 256 + bit_and (bit_or a b) 128
high_bits_split x y mask a b p q =
    ap (λ n. bit_and n (mask * 256 + 128)) (or_block 8 x y a b p q)
    ∙ and_block 8 (bit_or x y) mask (bit_or a b) 128 (or_lt 8 a b p q) (omega arith)

-- the highest bit of either of two bytes
high_bit_of_either : (a b : ℕ) → a < 256 → b < 256 → (bit_and (bit_or a b) 128 ≡ 0) ↔ ((a < 128) × (b < 128))
high_bit_of_either a b p q =
    let e = and_pow (bit_or a b) 7 in
    let f = bit_at_or a b 7 in
    ((λ z. (omega arith, omega arith)), (λ h. omega arith))

-- the test of a word and one more byte
pub high_bits_step : (x y count : ℕ) →
    bit_and (bit_or (x % 256 ^ suc count) (y % 256 ^ suc count)) (repetition_of 128 (suc count))
    ≡ bit_and (bit_or (x / 256 % 256 ^ count) (y / 256 % 256 ^ count)) (repetition_of 128 count) * 256 + bit_and (bit_or (x % 256) (y % 256)) 128
high_bits_step x y count =
    let w : 0 < 256 ^ count = omega (arith, repetition_of-lt 0 count (omega arith)) in
    let ex = ap (λ n. x % n) (pow-suc 256 count) ∙ mod_with_byte x (256 ^ count) w in
    let ey = ap (λ n. y % n) (pow-suc 256 count) ∙ mod_with_byte y (256 ^ count) w in
    let a : x % 256 < 256 = omega arith in
    let b : y % 256 < 256 = omega arith in
    rw (ex, ey) (high_bits_split (x / 256 % 256 ^ count) (y / 256 % 256 ^ count) (repetition_of 128 count) (x % 256) (y % 256) a b)

-- the words that the test adds up
abbrev pub raised_word : ℕ → ℕ → ℕ → ℕ
raised_word radix count word = word + repetition_of (80 - radix) count

abbrev pub lowered_word : ℕ → ℕ → ℕ
lowered_word count word = word + (256 ^ count - repetition_of 48 count)

-- a byte is a digit where neither sum sets the highest bit of its byte
pub digit_from_low : (radix count word : ℕ) → radix ≤ 10 →
    raised_word radix (suc count) word % 256 < 128 → lowered_word (suc count) word % 256 < 128 → IsAsciiDigit radix (word % 256)
digit_from_low radix count word r p q =
    let e = pow-suc 256 count in
    let l = repetition_of-lt 48 count (omega arith) in
    (omega arith, omega arith)

pub low_from_digit : (radix count word : ℕ) → radix ≤ 10 → IsAsciiDigit radix (word % 256) →
    (raised_word radix (suc count) word % 256 < 128) × (lowered_word (suc count) word % 256 < 128)
low_from_digit radix count word r d =
    let e = pow-suc 256 count in
    let l = repetition_of-lt 48 count (omega arith) in
    (omega arith, omega arith)

-- and then nothing carries or borrows
pub raised_rest : (radix count word : ℕ) → radix ≤ 10 → IsAsciiDigit radix (word % 256) →
    raised_word radix (suc count) word / 256 ≡ raised_word radix count (word / 256)
raised_rest radix count word r d = omega arith

pub lowered_rest : (radix count word : ℕ) → radix ≤ 10 → IsAsciiDigit radix (word % 256) →
    lowered_word (suc count) word / 256 ≡ lowered_word count (word / 256)
lowered_rest radix count word r d =
    let e = pow-suc 256 count in
    let l = repetition_of-lt 48 count (omega arith) in
    omega arith

abbrev pub IsClear : ℕ → ℕ → ℕ → Type 0
IsClear radix count word =
    bit_and (bit_or (raised_word radix count word % 256 ^ count) (lowered_word count word % 256 ^ count)) (repetition_of 128 count) ≡ 0

digits_from_clear : (radix count word : ℕ) → radix ≤ 10 → IsClear radix count word → AreAsciiDigits radix (word_bytes count word)
digits_from_clear radix zero word r z = tt
digits_from_clear radix (suc count) word r z =
    let s = sym (high_bits_step (raised_word radix (suc count) word) (lowered_word (suc count) word) count) ∙ z in
    let low : bit_and (bit_or (raised_word radix (suc count) word % 256) (lowered_word (suc count) word % 256)) 128 ≡ 0 = omega arith in
    let both = (high_bit_of_either (raised_word radix (suc count) word % 256) (lowered_word (suc count) word % 256) (omega arith) (omega arith)).0 low in
    let d = digit_from_low radix count word r both.0 both.1 in
    let rest : bit_and (bit_or (raised_word radix (suc count) word / 256 % 256 ^ count) (lowered_word (suc count) word / 256 % 256 ^ count)) (repetition_of 128 count) ≡ 0 = omega arith in
    (d, digits_from_clear radix count (word / 256) r (rw (raised_rest radix count word r d, lowered_rest radix count word r d) at rest))

clear_from_digits : (radix count word : ℕ) → radix ≤ 10 → AreAsciiDigits radix (word_bytes count word) → IsClear radix count word
clear_from_digits radix zero word r h =
    omega (arith, and_le_r (bit_or (raised_word radix zero word % 256 ^ zero) (lowered_word zero word % 256 ^ zero)) 0)
clear_from_digits radix (suc count) word r h =
    let d = h.0 in
    let low = low_from_digit radix count word r d in
    let both = (high_bit_of_either (raised_word radix (suc count) word % 256) (lowered_word (suc count) word % 256) (omega arith) (omega arith)).1 low in
    let rest = clear_from_digits radix count (word / 256) r h.1 in
    high_bits_step (raised_word radix (suc count) word) (lowered_word (suc count) word) count
    ∙ rw (raised_rest radix count word r d, lowered_rest radix count word r d) (omega arith)

repetition_of-mul : (byte count : ℕ) → repetition_of byte count ≡ byte * repetition_of 1 count
repetition_of-mul byte zero = omega arith
repetition_of-mul byte (suc count) = omega (arith, repetition_of-mul byte count)

-- the whole test, as the code writes it
pub is_digits : (radix count word : ℕ) → radix ≤ 10 →
    IsTrue
    (nat_eq
    (bit_and
    (bit_or
    ((word + (80 - radix) * repetition_of 1 count) % 256 ^ count)
    ((word + (256 ^ count - repetition_of 48 count)) % 256 ^ count))
    (repetition_of 128 count))
    0)
    ↔ AreAsciiDigits radix (word_bytes count word)
is_digits radix count word r =
    rw (← repetition_of-mul (80 - radix) count) (
      (λ t. digits_from_clear radix count word r (eqb-true _ _ t)),
      (λ d. eq-eqb _ _ (clear_from_digits radix count word r d)),
    )
