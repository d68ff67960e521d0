-- A text without the byte at one place or two, as a word and as a number: for the shortest way.
use Rattle.std.proofs.Common.{◌≡◌, ℕ, zero, suc, ◌+◌, ◌-◌, ◌*◌, ◌/◌, ◌%◌, ◌^◌, ◌<◌, ◌≤◌, List, [], ◌∷◌, ◌++◌, length, length-append, get_or, take, drop, sym, ap, subst, ◌∙◌, arith}
use Rattle.std.proofs.Math.Nat.{pow-le-pow_right}
use Rattle.std.proofs.lemmas.List.{length-drop, length-take-le}
use Rattle.lexical_digits.specs.Words.{AreDigits, word_bytes, word_value}
use Rattle.lexical_digits.specs.WrittenNumbers.{bytes_number, with_more}
use Rattle.lexical_digits.proofs.WordsOfDigits.{AllBytes, HoldsDigits, all_dropped, all_taken, bytes_small, digits_below, digits_joined, holds_digits, padded, padded_value, raised_none, value_joined}
use Rattle.lexical_fixed.specs.Quick.{IsJoined, without}

-- ---- the word

-- what stands behind a byte comes one nearer
pub word_taken : (place word : ℕ) → place < 8 → word < 18446744073709551616 →
    word - (word / 2 ^ (8 * place) - word / 2 ^ (8 * place) / 256) * 2 ^ (8 * place) % 18446744073709551616
    ≡ word % 256 ^ place + word / 256 ^ (place + 1) * 256 ^ place
word_taken zero word few small = omega arith
word_taken (suc zero) word few small = omega arith
word_taken (suc (suc zero)) word few small = omega arith
word_taken (suc (suc (suc zero))) word few small = omega arith
word_taken (suc (suc (suc (suc zero)))) word few small = omega arith
word_taken (suc (suc (suc (suc (suc zero))))) word few small = omega arith
word_taken (suc (suc (suc (suc (suc (suc zero)))))) word few small = omega arith
word_taken (suc (suc (suc (suc (suc (suc (suc zero))))))) word few small = omega arith
word_taken (suc (suc (suc (suc (suc (suc (suc (suc n)))))))) word few small = absurd (omega arith)

-- so the word of a text is that of the text without the byte
pub without_number : (place : ℕ) (bytes : List ℕ) → AllBytes bytes → place < length bytes → place < 8 →
    bytes_number bytes % 256 ^ place + bytes_number bytes / 256 ^ (place + 1) * 256 ^ place ≡ bytes_number (without place bytes)
without_number zero [] all within few = absurd (omega arith)
without_number zero (a ∷ rest) all within few = omega (arith, all.0)
without_number (suc zero) [] all within few = absurd (omega arith)
without_number (suc zero) (a ∷ []) all within few = absurd (omega arith)
without_number (suc zero) (a ∷ b ∷ rest) all within few = omega (arith, all.0, all.1.0)
without_number (suc (suc zero)) [] all within few = absurd (omega arith)
without_number (suc (suc zero)) (a ∷ []) all within few = absurd (omega arith)
without_number (suc (suc zero)) (a ∷ b ∷ []) all within few = absurd (omega arith)
without_number (suc (suc zero)) (a ∷ b ∷ c ∷ rest) all within few = omega (arith, all.0, all.1.0, all.1.1.0)
without_number (suc (suc (suc zero))) [] all within few = absurd (omega arith)
without_number (suc (suc (suc zero))) (a ∷ []) all within few = absurd (omega arith)
without_number (suc (suc (suc zero))) (a ∷ b ∷ []) all within few = absurd (omega arith)
without_number (suc (suc (suc zero))) (a ∷ b ∷ c ∷ []) all within few = absurd (omega arith)
without_number (suc (suc (suc zero))) (a ∷ b ∷ c ∷ d ∷ rest) all within few = omega (arith, all.0, all.1.0, all.1.1.0, all.1.1.1.0)
without_number (suc (suc (suc (suc zero)))) [] all within few = absurd (omega arith)
without_number (suc (suc (suc (suc zero)))) (a ∷ []) all within few = absurd (omega arith)
without_number (suc (suc (suc (suc zero)))) (a ∷ b ∷ []) all within few = absurd (omega arith)
without_number (suc (suc (suc (suc zero)))) (a ∷ b ∷ c ∷ []) all within few = absurd (omega arith)
without_number (suc (suc (suc (suc zero)))) (a ∷ b ∷ c ∷ d ∷ []) all within few = absurd (omega arith)
without_number (suc (suc (suc (suc zero)))) (a ∷ b ∷ c ∷ d ∷ e ∷ rest) all within few = omega (arith, all.0, all.1.0, all.1.1.0, all.1.1.1.0, all.1.1.1.1.0)
without_number (suc (suc (suc (suc (suc zero))))) [] all within few = absurd (omega arith)
without_number (suc (suc (suc (suc (suc zero))))) (a ∷ []) all within few = absurd (omega arith)
without_number (suc (suc (suc (suc (suc zero))))) (a ∷ b ∷ []) all within few = absurd (omega arith)
without_number (suc (suc (suc (suc (suc zero))))) (a ∷ b ∷ c ∷ []) all within few = absurd (omega arith)
without_number (suc (suc (suc (suc (suc zero))))) (a ∷ b ∷ c ∷ d ∷ []) all within few = absurd (omega arith)
without_number (suc (suc (suc (suc (suc zero))))) (a ∷ b ∷ c ∷ d ∷ e ∷ []) all within few = absurd (omega arith)
without_number (suc (suc (suc (suc (suc zero))))) (a ∷ b ∷ c ∷ d ∷ e ∷ f ∷ rest) all within few = omega (arith, all.0, all.1.0, all.1.1.0, all.1.1.1.0, all.1.1.1.1.0, all.1.1.1.1.1.0)
without_number (suc (suc (suc (suc (suc (suc zero)))))) [] all within few = absurd (omega arith)
without_number (suc (suc (suc (suc (suc (suc zero)))))) (a ∷ []) all within few = absurd (omega arith)
without_number (suc (suc (suc (suc (suc (suc zero)))))) (a ∷ b ∷ []) all within few = absurd (omega arith)
without_number (suc (suc (suc (suc (suc (suc zero)))))) (a ∷ b ∷ c ∷ []) all within few = absurd (omega arith)
without_number (suc (suc (suc (suc (suc (suc zero)))))) (a ∷ b ∷ c ∷ d ∷ []) all within few = absurd (omega arith)
without_number (suc (suc (suc (suc (suc (suc zero)))))) (a ∷ b ∷ c ∷ d ∷ e ∷ []) all within few = absurd (omega arith)
without_number (suc (suc (suc (suc (suc (suc zero)))))) (a ∷ b ∷ c ∷ d ∷ e ∷ f ∷ []) all within few = absurd (omega arith)
without_number (suc (suc (suc (suc (suc (suc zero)))))) (a ∷ b ∷ c ∷ d ∷ e ∷ f ∷ g ∷ rest) all within few = omega (arith, all.0, all.1.0, all.1.1.0, all.1.1.1.0, all.1.1.1.1.0, all.1.1.1.1.1.0, all.1.1.1.1.1.1.0)
without_number (suc (suc (suc (suc (suc (suc (suc zero))))))) [] all within few = absurd (omega arith)
without_number (suc (suc (suc (suc (suc (suc (suc zero))))))) (a ∷ []) all within few = absurd (omega arith)
without_number (suc (suc (suc (suc (suc (suc (suc zero))))))) (a ∷ b ∷ []) all within few = absurd (omega arith)
without_number (suc (suc (suc (suc (suc (suc (suc zero))))))) (a ∷ b ∷ c ∷ []) all within few = absurd (omega arith)
without_number (suc (suc (suc (suc (suc (suc (suc zero))))))) (a ∷ b ∷ c ∷ d ∷ []) all within few = absurd (omega arith)
without_number (suc (suc (suc (suc (suc (suc (suc zero))))))) (a ∷ b ∷ c ∷ d ∷ e ∷ []) all within few = absurd (omega arith)
without_number (suc (suc (suc (suc (suc (suc (suc zero))))))) (a ∷ b ∷ c ∷ d ∷ e ∷ f ∷ []) all within few = absurd (omega arith)
without_number (suc (suc (suc (suc (suc (suc (suc zero))))))) (a ∷ b ∷ c ∷ d ∷ e ∷ f ∷ g ∷ []) all within few = absurd (omega arith)
without_number (suc (suc (suc (suc (suc (suc (suc zero))))))) (a ∷ b ∷ c ∷ d ∷ e ∷ f ∷ g ∷ h ∷ rest) all within few = omega (arith, all.0, all.1.0, all.1.1.0, all.1.1.1.0, all.1.1.1.1.0, all.1.1.1.1.1.0, all.1.1.1.1.1.1.0, all.1.1.1.1.1.1.1.0)
without_number (suc (suc (suc (suc (suc (suc (suc (suc n)))))))) bytes all within few = absurd (omega arith)

-- ---- behind digits 0

pub shifted_up : (count word : ℕ) → 1 ≤ count → count < 8 → word < 256 ^ count →
    word * 2 ^ (64 - 8 * count) % 18446744073709551616 + 3472328296227680304 / 2 ^ (8 * count) ≡ word * 256 ^ (8 - count) + 3472328296227680304 / 256 ^ count
shifted_up zero word some few small = absurd (omega arith)
shifted_up (suc zero) word some few small = omega arith
shifted_up (suc (suc zero)) word some few small = omega arith
shifted_up (suc (suc (suc zero))) word some few small = omega arith
shifted_up (suc (suc (suc (suc zero)))) word some few small = omega arith
shifted_up (suc (suc (suc (suc (suc zero))))) word some few small = omega arith
shifted_up (suc (suc (suc (suc (suc (suc zero)))))) word some few small = omega arith
shifted_up (suc (suc (suc (suc (suc (suc (suc zero))))))) word some few small = omega arith
shifted_up (suc (suc (suc (suc (suc (suc (suc (suc n)))))))) word some few small = absurd (omega arith)

pub shifted_fits : (count word : ℕ) → 1 ≤ count → count < 8 → word < 256 ^ count → word * 256 ^ (8 - count) + 3472328296227680304 / 256 ^ count < 18446744073709551616
shifted_fits zero word some few small = absurd (omega arith)
shifted_fits (suc zero) word some few small = omega arith
shifted_fits (suc (suc zero)) word some few small = omega arith
shifted_fits (suc (suc (suc zero))) word some few small = omega arith
shifted_fits (suc (suc (suc (suc zero)))) word some few small = omega arith
shifted_fits (suc (suc (suc (suc (suc zero))))) word some few small = omega arith
shifted_fits (suc (suc (suc (suc (suc (suc zero)))))) word some few small = omega arith
shifted_fits (suc (suc (suc (suc (suc (suc (suc zero))))))) word some few small = omega arith
shifted_fits (suc (suc (suc (suc (suc (suc (suc (suc n)))))))) word some few small = absurd (omega arith)

padded_number : (count : ℕ) (bytes : List ℕ) → 1 ≤ count → count < 8 → bytes_number bytes * 256 ^ (8 - count) + 3472328296227680304 / 256 ^ count ≡ bytes_number (padded (8 - count) bytes)
padded_number zero bytes some few = absurd (omega arith)
padded_number (suc zero) bytes some few = omega arith
padded_number (suc (suc zero)) bytes some few = omega arith
padded_number (suc (suc (suc zero))) bytes some few = omega arith
padded_number (suc (suc (suc (suc zero)))) bytes some few = omega arith
padded_number (suc (suc (suc (suc (suc zero))))) bytes some few = omega arith
padded_number (suc (suc (suc (suc (suc (suc zero)))))) bytes some few = omega arith
padded_number (suc (suc (suc (suc (suc (suc (suc zero))))))) bytes some few = omega arith
padded_number (suc (suc (suc (suc (suc (suc (suc (suc n)))))))) bytes some few = absurd (omega arith)

-- ---- the number

pub without_length : (place : ℕ) (bytes : List ℕ) → place < length bytes → length (without place bytes) ≡ length bytes - 1
without_length place bytes within =
    let front = length-take-le place bytes (omega arith) in
    let rest = length-drop (place + 1) bytes in
    length-append (take place bytes) (drop (place + 1) bytes) ∙ omega (arith, front, rest)

all_joined : (xs ys : List ℕ) → AllBytes xs → AllBytes ys → AllBytes (xs ++ ys)
all_joined [] ys a b = b
all_joined (x ∷ xs) ys a b = (a.0, all_joined xs ys a.1 b)

pub all_without : (place : ℕ) (bytes : List ℕ) → AllBytes bytes → AllBytes (without place bytes)
all_without place bytes all = all_joined (take place bytes) (drop (place + 1) bytes) (all_taken place bytes all) (all_dropped (place + 1) bytes all)

-- it has no more bytes than are left
pub without_small : (place : ℕ) (bytes : List ℕ) → AllBytes bytes → place < length bytes → bytes_number (without place bytes) < 256 ^ (length bytes - 1)
without_small place bytes all within =
    subst (λ n. bytes_number (without place bytes) < 256 ^ n) (without_length place bytes within) (bytes_small (without place bytes) (all_without place bytes all))

-- so the word of a text that is taken a byte from twice is that of the text without both
pub twice_without_number : (near place text_word word next : ℕ) (text : List ℕ) → AllBytes text → near < place → place < length text → length text ≤ 8
    → text_word ≡ bytes_number text → word ≡ text_word % 256 ^ place + text_word / 256 ^ (place + 1) * 256 ^ place
    → next ≡ word % 256 ^ near + word / 256 ^ (near + 1) * 256 ^ near → next ≡ bytes_number (without near (without place text))
twice_without_number near place text_word word next text all before within few is once twice =
    let size = without_length place text within in
    let first : word ≡ bytes_number (without place text) =
    once ∙ ap (λ w. w % 256 ^ place + w / 256 ^ (place + 1) * 256 ^ place) is ∙ without_number place text all within (omega arith) in
    twice ∙ ap (λ w. w % 256 ^ near + w / 256 ^ (near + 1) * 256 ^ near) first
    ∙ without_number near (without place text) (all_without place text all) (omega (arith, size)) (omega arith)

digits_behind : (count : ℕ) (bytes : List ℕ) → AreDigits 10 (padded count bytes) → AreDigits 10 bytes
digits_behind zero bytes digits = digits
digits_behind (suc count) bytes digits = digits_behind count bytes digits.1

-- a word behind digits 0 that is digits is those of the bytes
pub joined_read : (bytes : List ℕ) (word number : ℕ) → 1 ≤ length bytes → length bytes < 8 → AllBytes bytes →
    word ≡ bytes_number bytes * 256 ^ (8 - length bytes) + 3472328296227680304 / 256 ^ length bytes →
    AreDigits 10 (word_bytes 8 word) → number ≡ word_value 10 (word_bytes 8 word) → IsJoined bytes number
joined_read bytes word number some few all is digits worth =
    let n : ℕ = length bytes in
    let whole : word ≡ bytes_number (padded (8 - n) (with_more 0 bytes)) =
    is ∙ padded_number n bytes some few ∙ ap (λ (bs : List ℕ). bytes_number (padded (8 - n) bs)) (sym (raised_none bytes)) in
    let holds : HoldsDigits (8 - n) 0 bytes word = holds_digits (8 - n) 0 bytes word (omega arith) all (first_small bytes all) whole in
    let same : word_bytes 8 word ≡ padded (8 - n) bytes = holds.bytes ∙ ap (λ (bs : List ℕ). padded (8 - n) bs) (raised_none bytes) in
    record {
      digits = digits_behind (8 - n) bytes (subst (λ (bs : List ℕ). AreDigits 10 bs) same digits);
      worth = worth ∙ ap (word_value 10) same ∙ padded_value (8 - n) bytes;
    }
  where
    first_small : (bs : List ℕ) → AllBytes bs → get_or bs 0 0 + 0 < 256
    first_small [] all = omega arith
    first_small (b ∷ bs) all = let low = all.0 in omega arith

-- the number of up to eight digits
pub joined_small : (bytes : List ℕ) (number : ℕ) → length bytes ≤ 8 → IsJoined bytes number → number < 100000000
joined_small bytes number few joined =
    let power : 10 ^ length bytes ≤ 10 ^ 8 = pow-le-pow_right {n = 10} (omega arith) few in
    let below = digits_below bytes number joined.digits joined.worth in
    omega (arith, below, power)

-- ---- the bytes before a word

-- without a byte behind the first ones, these stand in front of what is left of the others
pub without_behind : (k place : ℕ) (bytes : List ℕ) → k ≤ place → k ≤ length bytes → without place bytes ≡ take k bytes ++ without (place - k) (drop k bytes)
without_behind zero place bytes before within = let same : place ≡ place - 0 = omega arith in ap (λ n. without n bytes) same
without_behind (suc k) zero bytes before within = absurd (omega arith)
without_behind (suc k) (suc p) [] before within = absurd (omega arith)
without_behind (suc k) (suc p) (b ∷ bs) before within =
    let next : suc p + 1 ≡ suc (p + 1) = omega arith in
    let left : suc p - suc k ≡ p - k = omega arith in
    rw (next, left) (ap (λ (rest : List ℕ). b ∷ rest) (without_behind k p bs (omega arith) (omega arith)))

-- so their number is joined with that of the others
pub parts_joined : (k place : ℕ) (bytes : List ℕ) (high low : ℕ) → k ≤ place → place < length bytes → length bytes ≡ k + 8
    → AreDigits 10 (take k bytes) → high ≡ word_value 10 (take k bytes) → IsJoined (without (place - k) (drop k bytes)) low
    → IsJoined (without place bytes) (high * 10000000 + low)
parts_joined k place bytes high low before within size digits worth rest =
    let xs : List ℕ = take k bytes in
    let ys : List ℕ = without (place - k) (drop k bytes) in
    let parts : without place bytes ≡ xs ++ ys = without_behind k place bytes before (omega arith) in
    let left : length (drop k bytes) ≡ length bytes - k = length-drop k bytes in
    let seven : length ys ≡ 7 = without_length (place - k) (drop k bytes) (omega arith) ∙ omega arith in
    let power : 10 ^ length ys ≡ 10000000 = ap (λ n. 10 ^ n) seven in
    record {
      digits = subst (λ (bs : List ℕ). AreDigits 10 bs) (sym parts) (digits_joined 10 xs ys digits rest.digits);
      worth = sym (ap (word_value 10) parts ∙ value_joined 10 xs ys ∙ ap (λ n. word_value 10 xs * n + word_value 10 ys) power
          ∙ ap (λ n. n * 10000000 + word_value 10 ys) (sym worth) ∙ ap (λ n. high * 10000000 + n) (sym rest.worth));
    }
