-- How many digits a word begins with, by the lowest bit that the test for digits sets: carries and borrows run upwards
-- alone, so that the test is exact up to the first byte that is no digit.
use Rattle.std.proofs.Common.{◌≡◌, ◌⊎◌, inl, inr, ℕ, zero, suc, ◌+◌, ◌*◌, ◌/◌, ◌%◌, ◌^◌, ◌<◌, ◌≤◌, get_or, take, bit_and, bit_or, ap, ◌∙◌, arith, refl}
use Rattle.std.specs.Int.Count.{count_trailing_zeros}
use Rattle.std.proofs.lemmas.Bool.{cases_lt}
use Rattle.std.proofs.lemmas.Nat.Bits.{and_pow, bit_at_or}
use Rattle.lexical_digits.specs.Words.{word_bytes}
use Rattle.lexical_digits.proofs.AsciiDigits.{AreAsciiDigits, IsAsciiDigit}
use Rattle.lexical_digits.proofs.DigitTest.{digit_from_low, high_bits_step, low_from_digit, lowered_rest, lowered_word, raised_rest, raised_word, repetition_of}

-- ---- the lowest bit of a number of bytes

no_zeros : (n : ℕ) → count_trailing_zeros zero n ≡ 0
unfolding count_trailing_zeros
no_zeros n = refl

even_zeros : (k n : ℕ) → count_trailing_zeros (suc k) (2 * n) ≡ suc (count_trailing_zeros k n)
unfolding count_trailing_zeros
even_zeros k n =
    let low : (2 * n) % 2 ≡ 0 = omega arith in
    let half : (2 * n) / 2 ≡ n = omega arith in
    rw (low, half) refl

odd_zeros : (k n : ℕ) → count_trailing_zeros (suc k) (2 * n + 1) ≡ 0
unfolding count_trailing_zeros
odd_zeros k n = let low : (2 * n + 1) % 2 ≡ 1 = omega arith in rw low refl

-- eight more places
abbrev pub eight_more : ℕ → ℕ
eight_more k = suc (suc (suc (suc (suc (suc (suc (suc k)))))))

byte_zeros : (k n : ℕ) → count_trailing_zeros (eight_more k) (2 * (2 * (2 * (2 * (2 * (2 * (2 * (2 * n)))))))) ≡ eight_more (count_trailing_zeros k n)
byte_zeros k n =
    even_zeros _ _ ∙ ap suc (even_zeros _ _ ∙ ap suc (even_zeros _ _ ∙ ap suc (even_zeros _ _ ∙ ap suc (even_zeros _ _ ∙ ap suc (even_zeros _ _ ∙ ap suc (even_zeros _ _ ∙ ap suc (even_zeros k n)))))))

stop_zeros : (k n : ℕ) → count_trailing_zeros (eight_more k) (2 * (2 * (2 * (2 * (2 * (2 * (2 * (2 * n + 1)))))))) ≡ 7
stop_zeros k n =
    even_zeros _ _ ∙ ap suc (even_zeros _ _ ∙ ap suc (even_zeros _ _ ∙ ap suc (even_zeros _ _ ∙ ap suc (even_zeros _ _ ∙ ap suc (even_zeros _ _ ∙ ap suc (even_zeros _ _ ∙ ap suc (odd_zeros k n)))))))

-- ---- the bits that the test sets

abbrev pub stop_bits : ℕ → ℕ → ℕ
stop_bits count word = bit_and (bit_or (raised_word 10 count word % 256 ^ count) (lowered_word count word % 256 ^ count)) (repetition_of 128 count)

-- either byte's highest bit
high_bit_set : (a b : ℕ) → a < 256 → b < 256 → (128 ≤ a) ⊎ (128 ≤ b) → bit_and (bit_or a b) 128 ≡ 128
high_bit_set a b p q (inl high) =
    let e = and_pow (bit_or a b) 7 in
    let f = bit_at_or a b 7 in
    omega arith
high_bit_set a b p q (inr high) =
    let e = and_pow (bit_or a b) 7 in
    let f = bit_at_or a b 7 in
    omega arith

high_bit_clear : (a b : ℕ) → a < 128 → b < 128 → bit_and (bit_or a b) 128 ≡ 0
high_bit_clear a b p q =
    let e = and_pow (bit_or a b) 7 in
    let f = bit_at_or a b 7 in
    omega arith

-- a digit sets none, and leaves those of the bytes after it
bits_of_digit : (count word : ℕ) → IsAsciiDigit 10 (word % 256) → stop_bits (suc count) word ≡ 256 * stop_bits count (word / 256)
bits_of_digit count word digit =
    let low = low_from_digit 10 count word (omega arith) digit in
    let clear = high_bit_clear (raised_word 10 (suc count) word % 256) (lowered_word (suc count) word % 256) low.0 low.1 in
    let rest = high_bits_step (raised_word 10 (suc count) word) (lowered_word (suc count) word) count in
    rest
    ∙ rw (raised_rest 10 count word (omega arith) digit, lowered_rest 10 count word (omega arith) digit) (omega (arith, clear))

-- another byte sets its own
bits_of_other : (count word above : ℕ) → (128 ≤ raised_word 10 (suc count) word % 256) ⊎ (128 ≤ lowered_word (suc count) word % 256) →
    above ≡ bit_and (bit_or (raised_word 10 (suc count) word / 256 % 256 ^ count) (lowered_word (suc count) word / 256 % 256 ^ count)) (repetition_of 128 count) →
    stop_bits (suc count) word ≡ 256 * above + 128
bits_of_other count word above high is =
    let set = high_bit_set (raised_word 10 (suc count) word % 256) (lowered_word (suc count) word % 256) (omega arith) (omega arith) high in
    high_bits_step (raised_word 10 (suc count) word) (lowered_word (suc count) word) count ∙ rw (← is, set) (omega arith)

-- ---- how many digits a word begins with

-- the first `found` bytes of a word are digits, and the next is none
pub record BeginsDigits (count word found : ℕ) : Type 0 where
  pub few : found ≤ count
  pub digits : AreAsciiDigits 10 (take found (word_bytes count word))
  pub stops : found < count → 10 ≤ (get_or (word_bytes count word) found 0 + 208) % 256

-- how many bits a word of `count` bytes has
abbrev pub bits_in : ℕ → ℕ
bits_in zero = zero
bits_in (suc count) = eight_more (bits_in count)

-- a byte that is no digit
no_digit : (count word : ℕ) → (128 ≤ raised_word 10 (suc count) word % 256) ⊎ (128 ≤ lowered_word (suc count) word % 256) → 10 ≤ (word % 256 + 208) % 256
no_digit count word high = by_order (cases_lt ((word % 256 + 208) % 256) 10)
  where
    by_side : (raised_word 10 (suc count) word % 256 < 128) × (lowered_word (suc count) word % 256 < 128) → (128 ≤ raised_word 10 (suc count) word % 256) ⊎ (128 ≤ lowered_word (suc count) word % 256) → 10 ≤ (word % 256 + 208) % 256
    by_side low (inl up) = let less = low.0 in absurd (omega arith)
    by_side low (inr up) = let less = low.1 in absurd (omega arith)

    by_order : ((word % 256 + 208) % 256 < 10) ⊎ (10 ≤ (word % 256 + 208) % 256) → 10 ≤ (word % 256 + 208) % 256
    by_order (inl small) = by_side (low_from_digit 10 count word (omega arith) (omega arith, omega arith)) high
    by_order (inr large) = large

goes_on : (count word : ℕ) → IsAsciiDigit 10 (word % 256) → BeginsDigits count (word / 256) (count_trailing_zeros (bits_in count) (stop_bits count (word / 256)) / 8) →
    BeginsDigits (suc count) word (count_trailing_zeros (bits_in (suc count)) (stop_bits (suc count) word) / 8)
goes_on count word digit rest =
    let few = rest.few in
    let doubled : stop_bits (suc count) word ≡ 2 * (2 * (2 * (2 * (2 * (2 * (2 * (2 * stop_bits count (word / 256)))))))) = omega (arith, bits_of_digit count word digit) in
    let zeros : count_trailing_zeros (bits_in (suc count)) (stop_bits (suc count) word) ≡ eight_more (count_trailing_zeros (bits_in count) (stop_bits count (word / 256))) =
    ap (count_trailing_zeros (bits_in (suc count))) doubled ∙ byte_zeros (bits_in count) (stop_bits count (word / 256)) in
    let found : count_trailing_zeros (bits_in (suc count)) (stop_bits (suc count) word) / 8 ≡ suc (count_trailing_zeros (bits_in count) (stop_bits count (word / 256)) / 8) = ap (λ n. n / 8) zeros ∙ omega arith in
    rw found (record { few = omega arith; digits = (digit, rest.digits); stops = λ less. rest.stops (omega arith) })

stops_here : (count word : ℕ) → (128 ≤ raised_word 10 (suc count) word % 256) ⊎ (128 ≤ lowered_word (suc count) word % 256) → BeginsDigits (suc count) word (count_trailing_zeros (bits_in (suc count)) (stop_bits (suc count) word) / 8)
stops_here count word high =
    let above : ℕ = bit_and (bit_or (raised_word 10 (suc count) word / 256 % 256 ^ count) (lowered_word (suc count) word / 256 % 256 ^ count)) (repetition_of 128 count) in
    let halved : stop_bits (suc count) word ≡ 2 * (2 * (2 * (2 * (2 * (2 * (2 * (2 * above + 1))))))) = bits_of_other count word above high refl ∙ omega arith in
    let zeros : count_trailing_zeros (bits_in (suc count)) (stop_bits (suc count) word) ≡ 7 = ap (count_trailing_zeros (bits_in (suc count))) halved ∙ stop_zeros (bits_in count) above in
    let found : count_trailing_zeros (bits_in (suc count)) (stop_bits (suc count) word) / 8 ≡ 0 = ap (λ n. n / 8) zeros in
    rw found (record { few = omega arith; digits = tt; stops = λ less. no_digit count word high })

by_sums : (count word : ℕ) → BeginsDigits count (word / 256) (count_trailing_zeros (bits_in count) (stop_bits count (word / 256)) / 8) →
    (raised_word 10 (suc count) word % 256 < 128) ⊎ (128 ≤ raised_word 10 (suc count) word % 256) → (lowered_word (suc count) word % 256 < 128) ⊎ (128 ≤ lowered_word (suc count) word % 256) →
    BeginsDigits (suc count) word (count_trailing_zeros (bits_in (suc count)) (stop_bits (suc count) word) / 8)
by_sums count word rest (inl low) (inl less) = goes_on count word (digit_from_low 10 count word (omega arith) low less) rest
by_sums count word rest (inl low) (inr high) = stops_here count word (inr high)
by_sums count word rest (inr high) other = stops_here count word (inl high)

-- the lowest bit that is set tells
pub begins_digits : (count word : ℕ) → BeginsDigits count word (count_trailing_zeros (bits_in count) (stop_bits count word) / 8)
begins_digits zero word =
    let found : count_trailing_zeros (bits_in zero) (stop_bits zero word) / 8 ≡ 0 = ap (λ n. n / 8) (no_zeros (stop_bits zero word)) in
    rw found (record { few = omega arith; digits = tt; stops = λ less. absurd (omega arith) })
begins_digits (suc count) word =
    by_sums count word (begins_digits count (word / 256)) (cases_lt (raised_word 10 (suc count) word % 256) 128) (cases_lt (lowered_word (suc count) word % 256) 128)
