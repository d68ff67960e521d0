-- Words of eight digits, of which the last ones are shifted out and digits 0 are put in front.
use Rattle.std.proofs.Common.{◌≡◌, ℕ, zero, suc, ◌+◌, ◌-◌, ◌*◌, ◌/◌, ◌%◌, ◌^◌, ◌<◌, ◌≤◌, List, [], ◌∷◌, length, get_or, take, sym, ap, ◌∙◌, refl, subst, arith, bit_and, Option, Some, None}
use Rattle.std.specs.Prelude.{slice_range, IfSome}
use Rattle.std.specs.List.{AllByRecursion}
use Rattle.std.proofs.lemmas.Nat.{and_block, and_mask}
use Rattle.std.proofs.Math.Nat.{pow-suc, pow-zero}
use Rattle.std.proofs.lemmas.List.{get_or-take, length-take-le}
use Rattle.lexical_digits.specs.WrittenNumbers.{WritesDecimal, bytes_number, with_more}
use Rattle.lexical_digits.specs.Words.{AreDigits, word_bytes, word_value}
use Rattle.lexical_digits.proofs.AsciiDigits.{AreAsciiDigits, IsAsciiDigit, ascii_from_digits, digits_from_ascii}
use Rattle.lexical_digits.proofs.WordsOfDigits.{all_bytes, all_taken, bytes_again, bytes_small, holds_digits, padded, padded_length, padded_value, raised_none}

-- the number of a word's bytes is the word
pub word_again : (n word : ℕ) → word < 256 ^ n → bytes_number (word_bytes n word) ≡ word
word_again zero word small = let power = pow-zero 256 in omega arith
word_again (suc n) word small =
    let power = pow-suc 256 n in
    let rest = word_again n (word / 256) (omega arith) in
    omega arith

taken_ascii : (k : ℕ) (bs : List ℕ) → AreAsciiDigits 10 bs → AreAsciiDigits 10 (take k bs)
taken_ascii zero bs all = tt
taken_ascii (suc k) [] all = tt
taken_ascii (suc k) (b ∷ bs) all = (all.0, taken_ascii k bs all.1)

pub padded_ascii : (count : ℕ) (bs : List ℕ) → AreAsciiDigits 10 bs → AreAsciiDigits 10 (padded count bs)
padded_ascii zero bs all = all
padded_ascii (suc count) bs all = ((omega arith, omega arith), padded_ascii count bs all)

pub ascii_bytes : (bs : List ℕ) → AreAsciiDigits 10 bs → AllByRecursion (λ byte. byte < 256) bs
ascii_bytes [] all = tt
ascii_bytes (b ∷ bs) all = let high = all.0.1 in (omega arith, ascii_bytes bs all.1)

-- What a word is after its last digits are shifted out, so that the first `k` stay.
pub record IsShifted (k word shifted : ℕ) : Type 0 where
  pub digits : AreDigits 10 (word_bytes 8 shifted)
  pub worth : word_value 10 (word_bytes 8 shifted) ≡ word_value 10 (take k (word_bytes 8 word))
  pub small : shifted < 18446744073709551616

-- ---- four bytes

-- neighbours are joined in pairs, and the pairs as one number
joined : (a b c d : ℕ) → IsAsciiDigit 10 a → IsAsciiDigit 10 b → IsAsciiDigit 10 c → IsAsciiDigit 10 d →
    bit_and ((bytes_number (a ∷ b ∷ c ∷ d ∷ []) - 808464432) * 2561 % 4294967296 / 2 ^ 8) 16711935 * 6553601 % 4294967296 / 2 ^ 16 ≡ word_value 10 (a ∷ b ∷ c ∷ d ∷ [])
joined a b c d ia ib ic id =
    let front : ℕ = (a - 48) * 10 + (b - 48) in
    let middle : ℕ = (b - 48) * 10 + (c - 48) in
    let back : ℕ = (c - 48) * 10 + (d - 48) in
    let lanes : (bytes_number (a ∷ b ∷ c ∷ d ∷ []) - 808464432) * 2561 % 4294967296 / 2 ^ 8 ≡ back * 65536 + (front + 256 * middle) = omega (arith, ia.0, ia.1, ib.0, ib.1, ic.0, ic.1, id.0, id.1) in
    let parted : bit_and (back * 65536 + (front + 256 * middle)) 16711935 ≡ bit_and back 255 * 65536 + bit_and (front + 256 * middle) 255 = and_block 16 back 255 (front + 256 * middle) 255 (omega (arith, ia.0, ia.1, ib.0, ib.1, ic.0, ic.1)) (omega arith) in
    let high = and_mask back 8 in
    let low = and_mask (front + 256 * middle) 8 in
    let pairs : bit_and ((bytes_number (a ∷ b ∷ c ∷ d ∷ []) - 808464432) * 2561 % 4294967296 / 2 ^ 8) 16711935 ≡ back * 65536 + front = ap (λ (x : ℕ). bit_and x 16711935) lanes ∙ parted ∙ omega (arith, high, low, ia.0, ia.1, ib.0, ib.1, ic.0, ic.1, id.0, id.1) in
    ap (λ (x : ℕ). x * 6553601 % 4294967296 / 2 ^ 16) pairs ∙ omega (arith, ia.0, ia.1, ib.0, ib.1, ic.0, ic.1, id.0, id.1)

-- the digits of a word are joined in pairs, and the pairs as one number
pub joined_word : (word : ℕ) → word < 4294967296 → AreDigits 10 (word_bytes 4 word) → bit_and ((word - 808464432) * 2561 % 4294967296 / 2 ^ 8) 16711935 * 6553601 % 4294967296 / 2 ^ 16 ≡ word_value 10 (word_bytes 4 word)
joined_word word small digits =
    let ascii = ascii_from_digits 10 (word_bytes 4 word) (omega arith) digits in
    let again : bytes_number (word_bytes 4 word) ≡ word = word_again 4 word small in
    ap (λ (w : ℕ). bit_and ((w - 808464432) * 2561 % 4294967296 / 2 ^ 8) 16711935 * 6553601 % 4294967296 / 2 ^ 16) (sym again)
    ∙ joined _ _ _ _ ascii.0 ascii.1.0 ascii.1.1.0 ascii.1.1.1.0

-- ---- five to eight bytes

pub half_bytes : (word : ℕ) (bytes : List ℕ) → AllByRecursion (λ byte. byte < 256) bytes → length bytes ≡ 4 → word ≡ bytes_number bytes → word_bytes 4 word ≡ bytes
half_bytes word bytes below size is = ap (word_bytes 4) is ∙ ap (λ n. word_bytes n (bytes_number bytes)) (sym size) ∙ bytes_again bytes below

-- the bytes of a word of four, where it is digits
half_digits : (word : ℕ) (bytes : List ℕ) → AllByRecursion (λ byte. byte < 256) bytes → length bytes ≡ 4 → word ≡ bytes_number bytes → AreDigits 10 (word_bytes 4 word) → AreAsciiDigits 10 bytes
half_digits word bytes below size is digits =
    ascii_from_digits 10 bytes (omega arith) (subst (λ (bs : List ℕ). AreDigits 10 bs) (half_bytes word bytes below size is) digits)

-- where the first four bytes and the last four are digits, all are
whole_digits : (text : List ℕ) (first last : ℕ) → 4 < length text → length text ≤ 8 → ((k : ℕ) → get_or text k 0 < 256) →
    first ≡ bytes_number (slice_range text 0 4) → last ≡ bytes_number (slice_range text (length text - 4) (length text - 4 + 4)) →
    AreDigits 10 (word_bytes 4 first) → AreDigits 10 (word_bytes 4 last) → AreAsciiDigits 10 text
whole_digits [] first last low high below is_first is_last front back = absurd (omega arith)
whole_digits (a ∷ []) first last low high below is_first is_last front back = absurd (omega arith)
whole_digits (a ∷ b ∷ []) first last low high below is_first is_last front back = absurd (omega arith)
whole_digits (a ∷ b ∷ c ∷ []) first last low high below is_first is_last front back = absurd (omega arith)
whole_digits (a ∷ b ∷ c ∷ d ∷ []) first last low high below is_first is_last front back = absurd (omega arith)
whole_digits (a ∷ b ∷ c ∷ d ∷ e ∷ []) first last low high below is_first is_last front back =
    let fs = half_digits first (a ∷ b ∷ c ∷ d ∷ []) (below 0, (below 1, (below 2, (below 3, tt)))) refl is_first front in
    let ls = half_digits last (b ∷ c ∷ d ∷ e ∷ []) (below 1, (below 2, (below 3, (below 4, tt)))) refl is_last back in
    (fs.0, (fs.1.0, (fs.1.1.0, (fs.1.1.1.0, (ls.1.1.1.0, tt)))))
whole_digits (a ∷ b ∷ c ∷ d ∷ e ∷ f ∷ []) first last low high below is_first is_last front back =
    let fs = half_digits first (a ∷ b ∷ c ∷ d ∷ []) (below 0, (below 1, (below 2, (below 3, tt)))) refl is_first front in
    let ls = half_digits last (c ∷ d ∷ e ∷ f ∷ []) (below 2, (below 3, (below 4, (below 5, tt)))) refl is_last back in
    (fs.0, (fs.1.0, (fs.1.1.0, (fs.1.1.1.0, (ls.1.1.0, (ls.1.1.1.0, tt))))))
whole_digits (a ∷ b ∷ c ∷ d ∷ e ∷ f ∷ g ∷ []) first last low high below is_first is_last front back =
    let fs = half_digits first (a ∷ b ∷ c ∷ d ∷ []) (below 0, (below 1, (below 2, (below 3, tt)))) refl is_first front in
    let ls = half_digits last (d ∷ e ∷ f ∷ g ∷ []) (below 3, (below 4, (below 5, (below 6, tt)))) refl is_last back in
    (fs.0, (fs.1.0, (fs.1.1.0, (fs.1.1.1.0, (ls.1.0, (ls.1.1.0, (ls.1.1.1.0, tt)))))))
whole_digits (a ∷ b ∷ c ∷ d ∷ e ∷ f ∷ g ∷ h ∷ []) first last low high below is_first is_last front back =
    let fs = half_digits first (a ∷ b ∷ c ∷ d ∷ []) (below 0, (below 1, (below 2, (below 3, tt)))) refl is_first front in
    let ls = half_digits last (e ∷ f ∷ g ∷ h ∷ []) (below 4, (below 5, (below 6, (below 7, tt)))) refl is_last back in
    (fs.0, (fs.1.0, (fs.1.1.0, (fs.1.1.1.0, (ls.0, (ls.1.0, (ls.1.1.0, (ls.1.1.1.0, tt))))))))
whole_digits (a ∷ b ∷ c ∷ d ∷ e ∷ f ∷ g ∷ h ∷ i ∷ rest) first last low high below is_first is_last front back = absurd (omega arith)

-- four digits, of which the first `k` stay, behind digits 0
shifted_half : (k a b c d : ℕ) → 1 ≤ k → k ≤ 4 → IsAsciiDigit 10 a → IsAsciiDigit 10 b → IsAsciiDigit 10 c → IsAsciiDigit 10 d →
    (bytes_number (a ∷ b ∷ c ∷ d ∷ []) - 808464432) * 2 ^ (32 - 8 * k) % 4294967296 + 808464432 ≡ bytes_number (padded (4 - k) (take k (a ∷ b ∷ c ∷ d ∷ [])))
shifted_half zero a b c d low high ia ib ic id = absurd (omega arith)
shifted_half (suc zero) a b c d low high ia ib ic id = omega (arith, ia.0, ia.1, ib.0, ib.1, ic.0, ic.1, id.0, id.1)
shifted_half (suc (suc zero)) a b c d low high ia ib ic id = omega (arith, ia.0, ia.1, ib.0, ib.1, ic.0, ic.1, id.0, id.1)
shifted_half (suc (suc (suc zero))) a b c d low high ia ib ic id = omega (arith, ia.0, ia.1, ib.0, ib.1, ic.0, ic.1, id.0, id.1)
shifted_half (suc (suc (suc (suc zero)))) a b c d low high ia ib ic id = omega (arith, ia.0, ia.1, ib.0, ib.1, ic.0, ic.1, id.0, id.1)
shifted_half (suc (suc (suc (suc (suc k))))) a b c d low high ia ib ic id = absurd (omega arith)

-- What a word of four bytes is after its last digits are shifted out, so that the first `k` stay.
pub record HoldsFront (k word shifted : ℕ) : Type 0 where
  pub small : shifted < 4294967296
  pub digits : AreDigits 10 (word_bytes 4 shifted)
  pub worth : word_value 10 (word_bytes 4 shifted) ≡ word_value 10 (take k (word_bytes 4 word))

holds_front : (k word : ℕ) → 1 ≤ k → k ≤ 4 → word < 4294967296 → AreDigits 10 (word_bytes 4 word) → HoldsFront k word ((word - 808464432) * 2 ^ (32 - 8 * k) % 4294967296 + 808464432)
holds_front k word low high less all =
    let bs : List ℕ = word_bytes 4 word in
    let ascii = ascii_from_digits 10 bs (omega arith) all in
    let front : List ℕ = take k bs in
    let taken = padded_ascii (4 - k) front (taken_ascii k bs ascii) in
    let size : length (padded (4 - k) front) ≡ 4 = let e = length-take-le k bs high in let f = padded_length (4 - k) front in omega arith in
    let again : bytes_number (word_bytes 4 word) ≡ word = word_again 4 word less in
    let shifted_is : (word - 808464432) * 2 ^ (32 - 8 * k) % 4294967296 + 808464432 ≡ bytes_number (padded (4 - k) front) =
    ap (λ (w : ℕ). (w - 808464432) * 2 ^ (32 - 8 * k) % 4294967296 + 808464432) (sym again) ∙ shifted_half k _ _ _ _ low high ascii.0 ascii.1.0 ascii.1.1.0 ascii.1.1.1.0 in
    let bytes = half_bytes _ (padded (4 - k) front) (ascii_bytes (padded (4 - k) front) taken) size shifted_is in
    let below = bytes_small (padded (4 - k) front) (ascii_bytes (padded (4 - k) front) taken) in
    let power : 256 ^ length (padded (4 - k) front) ≡ 4294967296 = ap (λ n. 256 ^ n) size in
    record {
      small = omega arith;
      digits = subst (λ (cs : List ℕ). AreDigits 10 cs) (sym bytes) (digits_from_ascii 10 (padded (4 - k) front) (omega arith) taken);
      worth = ap (word_value 10) bytes ∙ padded_value (4 - k) front;
    }

pub holds_shifted : (k shift word : ℕ) → shift ≡ 32 - 8 * k → 1 ≤ k → k ≤ 4 → word < 4294967296 → AreDigits 10 (word_bytes 4 word) → HoldsFront k word ((word - 808464432) * 2 ^ shift % 4294967296 + 808464432)
holds_shifted k shift word is low high less all =
    subst (λ (s : ℕ). HoldsFront k word ((word - 808464432) * 2 ^ s % 4294967296 + 808464432)) (sym is) (holds_front k word low high less all)

take_twice : (j k : ℕ) (bs : List ℕ) → j ≤ k → take j (take k bs) ≡ take j bs
take_twice zero k bs few = refl
take_twice (suc j) zero bs few = absurd (omega arith)
take_twice (suc j) (suc k) [] few = refl
take_twice (suc j) (suc k) (b ∷ bs) few = ap (λ (rest : List ℕ). b ∷ rest) (take_twice j k bs (omega arith))

-- the first digits of the first four bytes are those of the text
front_value : (k first : ℕ) (text : List ℕ) → k ≤ 4 → 4 < length text → AreAsciiDigits 10 text → first ≡ bytes_number (slice_range text 0 4) → word_value 10 (take k (word_bytes 4 first)) ≡ word_value 10 (take k text)
front_value k first text few many ascii is =
    let size : length (take 4 text) ≡ 4 = length-take-le 4 text (omega arith) in
    let bytes = half_bytes first (take 4 text) (ascii_bytes (take 4 text) (taken_ascii 4 text ascii)) size is in
    ap (λ (bs : List ℕ). word_value 10 (take k bs)) bytes ∙ ap (word_value 10) (take_twice k 4 text few)

-- digits write the number that they are worth
pub writes_text : (text : List ℕ) (number : ℕ) → AreDigits 10 text → number ≡ word_value 10 text → WritesDecimal 0 text number
writes_text text number digits worth =
    let same = raised_none text in
    record { digits = subst (λ (bs : List ℕ). AreDigits 10 bs) (sym same) digits; worth = worth ∙ ap (word_value 10) (sym same) }

-- the number of the first digits and that of the last four
halves_write : (text : List ℕ) (last front back : ℕ) → 4 < length text → length text ≤ 8 → AreAsciiDigits 10 text →
    last ≡ bytes_number (slice_range text (length text - 4) (length text - 4 + 4)) → front ≡ word_value 10 (take (length text - 4) text) → back ≡ word_value 10 (word_bytes 4 last) → WritesDecimal 0 text (front * 10000 + back)
halves_write [] last front back low high ascii is is_front is_back = absurd (omega arith)
halves_write (a ∷ []) last front back low high ascii is is_front is_back = absurd (omega arith)
halves_write (a ∷ b ∷ []) last front back low high ascii is is_front is_back = absurd (omega arith)
halves_write (a ∷ b ∷ c ∷ []) last front back low high ascii is is_front is_back = absurd (omega arith)
halves_write (a ∷ b ∷ c ∷ d ∷ []) last front back low high ascii is is_front is_back = absurd (omega arith)
halves_write (a ∷ b ∷ c ∷ d ∷ e ∷ []) last front back low high ascii is is_front is_back =
    let value : back ≡ word_value 10 (b ∷ c ∷ d ∷ e ∷ []) = is_back ∙ ap (word_value 10) (half_bytes last (b ∷ c ∷ d ∷ e ∷ []) (ascii_bytes (b ∷ c ∷ d ∷ e ∷ []) ascii.1) refl is) in
    writes_text (a ∷ b ∷ c ∷ d ∷ e ∷ []) (front * 10000 + back) (digits_from_ascii 10 (a ∷ b ∷ c ∷ d ∷ e ∷ []) (omega arith) ascii) (omega (arith, value, is_front, ascii.0.0, ascii.0.1, ascii.1.0.0, ascii.1.0.1, ascii.1.1.0.0, ascii.1.1.0.1, ascii.1.1.1.0.0, ascii.1.1.1.0.1, ascii.1.1.1.1.0.0, ascii.1.1.1.1.0.1))
halves_write (a ∷ b ∷ c ∷ d ∷ e ∷ f ∷ []) last front back low high ascii is is_front is_back =
    let value : back ≡ word_value 10 (c ∷ d ∷ e ∷ f ∷ []) = is_back ∙ ap (word_value 10) (half_bytes last (c ∷ d ∷ e ∷ f ∷ []) (ascii_bytes (c ∷ d ∷ e ∷ f ∷ []) ascii.1.1) refl is) in
    writes_text (a ∷ b ∷ c ∷ d ∷ e ∷ f ∷ []) (front * 10000 + back) (digits_from_ascii 10 (a ∷ b ∷ c ∷ d ∷ e ∷ f ∷ []) (omega arith) ascii) (omega (arith, value, is_front, ascii.0.0, ascii.0.1, ascii.1.0.0, ascii.1.0.1, ascii.1.1.0.0, ascii.1.1.0.1, ascii.1.1.1.0.0, ascii.1.1.1.0.1, ascii.1.1.1.1.0.0, ascii.1.1.1.1.0.1, ascii.1.1.1.1.1.0.0, ascii.1.1.1.1.1.0.1))
halves_write (a ∷ b ∷ c ∷ d ∷ e ∷ f ∷ g ∷ []) last front back low high ascii is is_front is_back =
    let value : back ≡ word_value 10 (d ∷ e ∷ f ∷ g ∷ []) = is_back ∙ ap (word_value 10) (half_bytes last (d ∷ e ∷ f ∷ g ∷ []) (ascii_bytes (d ∷ e ∷ f ∷ g ∷ []) ascii.1.1.1) refl is) in
    writes_text (a ∷ b ∷ c ∷ d ∷ e ∷ f ∷ g ∷ []) (front * 10000 + back) (digits_from_ascii 10 (a ∷ b ∷ c ∷ d ∷ e ∷ f ∷ g ∷ []) (omega arith) ascii) (omega (arith, value, is_front, ascii.0.0, ascii.0.1, ascii.1.0.0, ascii.1.0.1, ascii.1.1.0.0, ascii.1.1.0.1, ascii.1.1.1.0.0, ascii.1.1.1.0.1, ascii.1.1.1.1.0.0, ascii.1.1.1.1.0.1, ascii.1.1.1.1.1.0.0, ascii.1.1.1.1.1.0.1, ascii.1.1.1.1.1.1.0.0, ascii.1.1.1.1.1.1.0.1))
halves_write (a ∷ b ∷ c ∷ d ∷ e ∷ f ∷ g ∷ h ∷ []) last front back low high ascii is is_front is_back =
    let value : back ≡ word_value 10 (e ∷ f ∷ g ∷ h ∷ []) = is_back ∙ ap (word_value 10) (half_bytes last (e ∷ f ∷ g ∷ h ∷ []) (ascii_bytes (e ∷ f ∷ g ∷ h ∷ []) ascii.1.1.1.1) refl is) in
    writes_text (a ∷ b ∷ c ∷ d ∷ e ∷ f ∷ g ∷ h ∷ []) (front * 10000 + back) (digits_from_ascii 10 (a ∷ b ∷ c ∷ d ∷ e ∷ f ∷ g ∷ h ∷ []) (omega arith) ascii) (omega (arith, value, is_front, ascii.0.0, ascii.0.1, ascii.1.0.0, ascii.1.0.1, ascii.1.1.0.0, ascii.1.1.0.1, ascii.1.1.1.0.0, ascii.1.1.1.0.1, ascii.1.1.1.1.0.0, ascii.1.1.1.1.0.1, ascii.1.1.1.1.1.0.0, ascii.1.1.1.1.1.0.1, ascii.1.1.1.1.1.1.0.0, ascii.1.1.1.1.1.1.0.1, ascii.1.1.1.1.1.1.1.0.0, ascii.1.1.1.1.1.1.1.0.1))
halves_write (a ∷ b ∷ c ∷ d ∷ e ∷ f ∷ g ∷ h ∷ i ∷ rest) last front back low high ascii is is_front is_back = absurd (omega arith)

-- two words, of a text's first four bytes and of its last, write its number
pub text_written : (text : List ℕ) (first last front back : ℕ) → 4 < length text → length text ≤ 8 → ((k : ℕ) → get_or text k 0 < 256) →
    first ≡ bytes_number (slice_range text 0 4) → last ≡ bytes_number (slice_range text (length text - 4) (length text - 4 + 4)) → AreDigits 10 (word_bytes 4 first) → AreDigits 10 (word_bytes 4 last) →
    front ≡ word_value 10 (take (length text - 4) (word_bytes 4 first)) → back ≡ word_value 10 (word_bytes 4 last) → WritesDecimal 0 text (front * 10000 + back)
text_written text first last front back low high below is_first is_last digits more is_front is_back =
    let ascii = whole_digits text first last low high below is_first is_last digits more in
    halves_write text last front back low high ascii is_last (is_front ∙ front_value (length text - 4) first text (omega arith) low ascii is_first) is_back

-- ---- nine to sixteen bytes

pub taken_digits : (k : ℕ) (bs : List ℕ) → AreDigits 10 bs → AreDigits 10 (take k bs)
taken_digits k bs digits = digits_from_ascii 10 (take k bs) (omega arith) (taken_ascii k bs (ascii_from_digits 10 bs (omega arith) digits))

-- the first digits of the first eight bytes write the number of what stands before the last eight
pub front_written : (k first high : ℕ) (text : List ℕ) → k ≤ 8 → 8 ≤ length text → ((j : ℕ) → get_or text j 0 < 256) → first ≡ bytes_number (slice_range text 0 8) →
    AreDigits 10 (word_bytes 8 first) → high ≡ word_value 10 (take k (word_bytes 8 first)) → WritesDecimal 0 (take k text) high
front_written k first high text few many below is digits worth =
    let size : length (take 8 text) ≡ 8 = length-take-le 8 text many in
    let again : word_bytes 8 first ≡ take 8 text = ap (word_bytes 8) is ∙ ap (λ n. word_bytes n (bytes_number (take 8 text))) (sym size) ∙ bytes_again (take 8 text) (all_taken 8 text (all_bytes text below)) in
    let front : take k (word_bytes 8 first) ≡ take k text = ap (λ (bs : List ℕ). take k bs) again ∙ take_twice k 8 text few in
    writes_text (take k text) high (subst (λ (bs : List ℕ). AreDigits 10 bs) front (taken_digits k (word_bytes 8 first) digits)) (worth ∙ ap (word_value 10) front)
