-- The products that add up the digits of a word: for `parse_4digits` and `parse_8digits`.
use Rattle.std.proofs.Common.{◌≡◌, ℕ, zero, suc, ◌+◌, ◌-◌, ◌*◌, ◌/◌, ◌%◌, ◌^◌, ◌<◌, ◌≤◌, bit_and, ap, ◌∙◌, arith}
use Rattle.std.proofs.Math.Nat.{pow-suc, pow-zero}
use Rattle.std.proofs.lemmas.Nat.{and_block, and_mask, mod-mul-add, mul-le}
use Rattle.lexical_digits.proofs.DigitTest.{repetition_of}
use Rattle.lexical_digits.specs.Words.{word_bytes}
use Rattle.lexical_digits.proofs.AsciiDigits.{AreAsciiDigits, ascii_value}

power_1 : (n : ℕ) → n ^ 1 ≡ n
power_1 n = pow-suc n 0 ∙ (ap (λ m. m * n) (pow-zero n) ∙ omega arith)

power_2 : (n : ℕ) → n ^ 2 ≡ n * n
power_2 n = pow-suc n 1 ∙ ap (λ m. m * n) (power_1 n)

power_3 : (n : ℕ) → n ^ 3 ≡ n * n * n
power_3 n = pow-suc n 2 ∙ ap (λ m. m * n) (power_2 n)

power_4 : (n : ℕ) → n ^ 4 ≡ n * n * n * n
power_4 n = pow-suc n 3 ∙ ap (λ m. m * n) (power_3 n)

power_5 : (n : ℕ) → n ^ 5 ≡ n * n * n * n * n
power_5 n = pow-suc n 4 ∙ ap (λ m. m * n) (power_4 n)

power_6 : (n : ℕ) → n ^ 6 ≡ n * n * n * n * n * n
power_6 n = pow-suc n 5 ∙ ap (λ m. m * n) (power_5 n)

power_7 : (n : ℕ) → n ^ 7 ≡ n * n * n * n * n * n * n
power_7 n = pow-suc n 6 ∙ ap (λ m. m * n) (power_6 n)

-- the digits of a word, each in the place of its byte
abbrev pub digits_word : ℕ → ℕ → ℕ
digits_word zero word = 0
digits_word (suc count) word = (word % 256 - 48) + 256 * digits_word count (word / 256)

-- to take 48 from each byte borrows nothing
subtract_zeros : (radix count word : ℕ) → word < 256 ^ count → AreAsciiDigits radix (word_bytes count word) →
    (repetition_of 48 count ≤ word) × (word - repetition_of 48 count ≡ digits_word count word)
subtract_zeros radix zero word l h = (omega arith, omega arith)
subtract_zeros radix (suc count) word l h =
    let e = pow-suc 256 count in
    let rest = subtract_zeros radix count (word / 256) (omega arith) h.1 in
    let low = h.0 in
    (omega arith, omega arith)

-- two neighbours as one number
pair-lt : (radix a b : ℕ) → radix ≤ 10 → a < radix → b < radix → a * radix + b < 128
pair-lt radix a b r p q = omega (arith, mul-le a radix 9 10 (omega arith) r)

pairs_4 : (radix d0 d1 d2 d3 digits : ℕ) → d0 < 256 → d1 < 256 → d2 < 256 →
    digits ≡ d0 + 256 * (d1 + 256 * (d2 + 256 * (d3 + 0))) →
    digits * radix + digits / 256
    ≡ (d0 * radix + d1) + 256 * (d1 * radix + d2) + 65536 * (d2 * radix + d3) + 16777216 * (d3 * radix)
pairs_4 radix d0 d1 d2 d3 digits p0 p1 p2 e =
    let rest : digits / 256 ≡ d1 + 256 * d2 + 65536 * d3 = omega arith in
    rw (rest, e) (omega arith)

low_7_bits : (n e rest : ℕ) → e < 128 → n ≡ e + 256 * rest → bit_and n 127 ≡ e
low_7_bits n e rest p q = and_mask n 7 ∙ omega arith

value_4 : (radix d0 d1 d2 d3 digits : ℕ) → radix ≤ 10 → d0 < radix → d1 < radix → d2 < radix → d3 < radix →
    digits ≡ d0 + 256 * (d1 + 256 * (d2 + 256 * (d3 + 0))) →
    bit_and (digits * radix + digits / 256) 127 * radix * radix + bit_and ((digits * radix + digits / 256) / 65536) 127
    ≡ d0 * radix ^ 3 + (d1 * radix ^ 2 + (d2 * radix ^ 1 + (d3 * radix ^ 0 + 0)))
value_4 radix d0 d1 d2 d3 digits r p0 p1 p2 p3 e =
    let pairs = pairs_4 radix d0 d1 d2 d3 digits (omega arith) (omega arith) (omega arith) e in
    let l0 = pair-lt radix d0 d1 r p0 p1 in
    let l1 = pair-lt radix d1 d2 r p1 p2 in
    let l2 = pair-lt radix d2 d3 r p2 p3 in
    let low : bit_and (digits * radix + digits / 256) 127 ≡ d0 * radix + d1 =
    low_7_bits (digits * radix + digits / 256) (d0 * radix + d1) ((d1 * radix + d2) + 256 * (d2 * radix + d3) + 65536 * (d3 * radix)) l0 (omega arith) in
    let high : bit_and ((digits * radix + digits / 256) / 65536) 127 ≡ d2 * radix + d3 =
    low_7_bits ((digits * radix + digits / 256) / 65536) (d2 * radix + d3) (d3 * radix) l2 (omega arith) in
    rw (low, high, power_3 radix, power_2 radix, power_1 radix, pow-zero radix) (omega arith)

pub parse_4 : (radix word : ℕ) → radix ≤ 10 → word < 256 ^ 4 → AreAsciiDigits radix (word_bytes 4 word) →
    bit_and ((word - 808464432) * radix + (word - 808464432) / 256) 127 * radix * radix
    + bit_and (((word - 808464432) * radix + (word - 808464432) / 256) / 65536) 127
    ≡ ascii_value radix (word_bytes 4 word)
parse_4 radix word r l h =
    value_4 radix (word % 256 - 48) (word / 256 % 256 - 48) (word / 256 / 256 % 256 - 48) (word / 256 / 256 / 256 % 256 - 48) (word - 808464432) r
    (omega arith) (omega arith) (omega arith) (omega arith) (subtract_zeros radix 4 word l h).1

-- the lowest byte of each half
low_byte_of_halves : (n a b x y : ℕ) → a < 256 → b < 256 → x < 16777216 →
    n ≡ a + 256 * x + 4294967296 * (b + 256 * y) → bit_and n 1095216660735 ≡ b * 4294967296 + a
low_byte_of_halves n a b x y p q l e =
    let split : n ≡ (b + 256 * y) * 4294967296 + (a + 256 * x) = omega arith in
    let halves = and_block 32 (b + 256 * y) 255 (a + 256 * x) 255 (omega arith) (omega arith) in
    let high = and_mask (b + 256 * y) 8 in
    let low = and_mask (a + 256 * x) 8 in
    ap (λ m. bit_and m 1095216660735) split ∙ (halves ∙ omega arith)

-- a product of two halves each: the product of the upper halves is lost
halves_product : (a b c d : ℕ) → a * c < 4294967296 → a * d + b * c < 4294967296 →
    (b * 4294967296 + a) * (d * 4294967296 + c) % 18446744073709551616 ≡ (a * d + b * c) * 4294967296 + a * c
halves_product a b c d p q =
    let e : (b * 4294967296 + a) * (d * 4294967296 + c) ≡ (b * d) * 18446744073709551616 + ((a * d + b * c) * 4294967296 + a * c) = omega arith in
    ap (λ n. n % 18446744073709551616) e ∙ mod-mul-add (b * d) 18446744073709551616 ((a * d + b * c) * 4294967296 + a * c) (omega arith)

-- the sum of the products, for each radix by its powers
add_products : (n m e0 e2 e4 e6 r2 r4 r6 : ℕ) → e0 < 128 → e2 < 128 → e4 < 128 → e6 < 128 →
    r2 ≤ 100 → r4 ≤ 10000 → r6 ≤ 1000000 →
    n ≡ e4 * 4294967296 + e0 → m ≡ e6 * 4294967296 + e2 →
    (n * (r6 * 4294967296 % 18446744073709551616 + r2) % 18446744073709551616 + m * (r4 * 4294967296 % 18446744073709551616 + 1) % 18446744073709551616) % 18446744073709551616 / 4294967296
    ≡ e0 * r6 + e4 * r2 + e2 * r4 + e6
add_products n m e0 e2 e4 e6 r2 r4 r6 l0 l2 l4 l6 s2 s4 s6 en em =
    let a0 : e0 * r2 ≤ 127 * 100 = mul-le e0 r2 127 100 (omega arith) s2 in
    let a1 : e0 * r6 ≤ 127 * 1000000 = mul-le e0 r6 127 1000000 (omega arith) s6 in
    let a2 : e4 * r2 ≤ 127 * 100 = mul-le e4 r2 127 100 (omega arith) s2 in
    let a3 : e2 * r4 ≤ 127 * 10000 = mul-le e2 r4 127 10000 (omega arith) s4 in
    let m6 : r6 * 4294967296 % 18446744073709551616 ≡ r6 * 4294967296 = omega arith in
    let m4 : r4 * 4294967296 % 18446744073709551616 ≡ r4 * 4294967296 = omega arith in
    let first = halves_product e0 e4 r2 r6 (omega arith) (omega arith) in
    let second = halves_product e2 e6 1 r4 (omega arith) (omega arith) in
    rw (m6, m4, en, em, first, second) (omega arith)

pairs_8 : (radix d0 d1 d2 d3 d4 d5 d6 d7 digits : ℕ) → d0 < 256 → d1 < 256 → d2 < 256 → d3 < 256 → d4 < 256 → d5 < 256 → d6 < 256 →
    digits ≡ d0 + 256 * (d1 + 256 * (d2 + 256 * (d3 + 256 * (d4 + 256 * (d5 + 256 * (d6 + 256 * (d7 + 0))))))) →
    digits * radix + digits / 256
    ≡ (d0 * radix + d1) + 256 * (d1 * radix + d2) + 65536 * (d2 * radix + d3) + 16777216 * (d3 * radix + d4) + 4294967296 * (d4 * radix + d5) + 1099511627776 * (d5 * radix + d6) + 281474976710656 * (d6 * radix + d7) + 72057594037927936 * (d7 * radix)
pairs_8 radix d0 d1 d2 d3 d4 d5 d6 d7 digits p0 p1 p2 p3 p4 p5 p6 e =
    let rest : digits / 256 ≡ d1 + 256 * d2 + 65536 * d3 + 16777216 * d4 + 4294967296 * d5 + 1099511627776 * d6 + 281474976710656 * d7 = omega arith in
    rw (rest, e) (omega arith)

even_bytes : (e0 e1 e2 e3 e4 e5 e6 e7 n : ℕ) → e0 < 128 → e1 < 128 → e2 < 128 → e3 < 128 → e4 < 128 → e5 < 128 → e6 < 128 → e7 < 128 →
    n ≡ e0 + 256 * e1 + 65536 * e2 + 16777216 * e3 + 4294967296 * e4 + 1099511627776 * e5 + 281474976710656 * e6 + 72057594037927936 * e7 →
    (bit_and n 1095216660735 ≡ e4 * 4294967296 + e0) × (bit_and (n / 65536) 1095216660735 ≡ e6 * 4294967296 + e2)
even_bytes e0 e1 e2 e3 e4 e5 e6 e7 n l0 l1 l2 l3 l4 l5 l6 l7 e =
    let above : n / 65536 ≡ e2 + 256 * e3 + 65536 * e4 + 16777216 * e5 + 4294967296 * e6 + 1099511627776 * e7 = omega arith in (
      low_byte_of_halves n e0 e4 (e1 + 256 * e2 + 65536 * e3) (e5 + 256 * e6 + 65536 * e7) (omega arith) (omega arith) (omega arith) (omega arith),
      low_byte_of_halves (n / 65536) e2 e6 (e3 + 256 * e4 + 65536 * e5) e7 (omega arith) (omega arith) (omega arith) (omega arith),
    )

value_8 : (radix d0 d1 d2 d3 d4 d5 d6 d7 digits : ℕ) → radix ≤ 10 → d0 < radix → d1 < radix → d2 < radix → d3 < radix → d4 < radix → d5 < radix → d6 < radix → d7 < radix →
    digits ≡ d0 + 256 * (d1 + 256 * (d2 + 256 * (d3 + 256 * (d4 + 256 * (d5 + 256 * (d6 + 256 * (d7 + 0))))))) →
    (bit_and (digits * radix + digits / 256) 1095216660735 * (radix * radix * (radix * radix) * (radix * radix) * 4294967296 % 18446744073709551616 + radix * radix) % 18446744073709551616
    + bit_and ((digits * radix + digits / 256) / 65536) 1095216660735 * (radix * radix * (radix * radix) * 4294967296 % 18446744073709551616 + 1) % 18446744073709551616) % 18446744073709551616 / 4294967296
    ≡ d0 * radix ^ 7 + (d1 * radix ^ 6 + (d2 * radix ^ 5 + (d3 * radix ^ 4 + (d4 * radix ^ 3 + (d5 * radix ^ 2 + (d6 * radix ^ 1 + (d7 * radix ^ 0 + 0)))))))
value_8 radix d0 d1 d2 d3 d4 d5 d6 d7 digits r p0 p1 p2 p3 p4 p5 p6 p7 e =
    let pairs = pairs_8 radix d0 d1 d2 d3 d4 d5 d6 d7 digits (omega arith) (omega arith) (omega arith) (omega arith) (omega arith) (omega arith) (omega arith) e in
    let l0 = pair-lt radix d0 d1 r p0 p1 in
    let l1 = pair-lt radix d1 d2 r p1 p2 in
    let l2 = pair-lt radix d2 d3 r p2 p3 in
    let l3 = pair-lt radix d3 d4 r p3 p4 in
    let l4 = pair-lt radix d4 d5 r p4 p5 in
    let l5 = pair-lt radix d5 d6 r p5 p6 in
    let l6 = pair-lt radix d6 d7 r p6 p7 in
    let l7 : d7 * radix < 128 = omega (arith, mul-le d7 radix 9 10 (omega arith) r) in
    let both = even_bytes (d0 * radix + d1) (d1 * radix + d2) (d2 * radix + d3) (d3 * radix + d4) (d4 * radix + d5) (d5 * radix + d6) (d6 * radix + d7) (d7 * radix) (digits * radix + digits / 256) l0 l1 l2 l3 l4 l5 l6 l7 pairs in
    let s2 : radix * radix ≤ 100 = mul-le radix radix 10 10 r r in
    let s4 : radix * radix * (radix * radix) ≤ 10000 = mul-le (radix * radix) (radix * radix) 100 100 s2 s2 in
    let s6 : radix * radix * (radix * radix) * (radix * radix) ≤ 1000000 = mul-le (radix * radix * (radix * radix)) (radix * radix) 10000 100 s4 s2 in
    add_products (bit_and (digits * radix + digits / 256) 1095216660735) (bit_and ((digits * radix + digits / 256) / 65536) 1095216660735) (d0 * radix + d1) (d2 * radix + d3) (d4 * radix + d5) (d6 * radix + d7) (radix * radix) (radix * radix * (radix * radix)) (radix * radix * (radix * radix) * (radix * radix))
    l0 l2 l4 l6 s2 s4 s6 both.0 both.1
    ∙ rw (power_7 radix, power_6 radix, power_5 radix, power_4 radix, power_3 radix, power_2 radix, power_1 radix, pow-zero radix) (omega arith)

pub parse_8 : (radix word : ℕ) → radix ≤ 10 → word < 256 ^ 8 → AreAsciiDigits radix (word_bytes 8 word) →
    (bit_and ((word - 3472328296227680304) * radix + (word - 3472328296227680304) / 256) 1095216660735 * (radix * radix * (radix * radix) * (radix * radix) * 4294967296 % 18446744073709551616 + radix * radix) % 18446744073709551616
    + bit_and (((word - 3472328296227680304) * radix + (word - 3472328296227680304) / 256) / 65536) 1095216660735 * (radix * radix * (radix * radix) * 4294967296 % 18446744073709551616 + 1) % 18446744073709551616) % 18446744073709551616 / 4294967296
    ≡ ascii_value radix (word_bytes 8 word)
parse_8 radix word r l h =
    value_8 radix (word % 256 - 48) (word / 256 % 256 - 48) (word / 256 / 256 % 256 - 48) (word / 256 / 256 / 256 % 256 - 48) (word / 256 / 256 / 256 / 256 % 256 - 48) (word / 256 / 256 / 256 / 256 / 256 % 256 - 48) (word / 256 / 256 / 256 / 256 / 256 / 256 % 256 - 48) (word / 256 / 256 / 256 / 256 / 256 / 256 / 256 % 256 - 48) (word - 3472328296227680304) r
    (omega arith) (omega arith) (omega arith) (omega arith) (omega arith) (omega arith) (omega arith) (omega arith) (subtract_zeros radix 8 word l h).1
