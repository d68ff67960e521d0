-- The digits that words of a text begin with.
use Rattle.std.proofs.Common.{◌≡◌, ℕ, zero, suc, ◌+◌, ◌-◌, ◌*◌, ◌/◌, ◌%◌, ◌^◌, ◌<◌, ◌≤◌, List, [], ◌∷◌, ◌++◌, length, get_or, take, drop, replicate, sym, ap, ◌∙◌, refl, subst, arith, bit_or, Bool, true, false}
use Rattle.std.specs.Prelude.{slice_range, is_some}
use Rattle.std.proofs.Math.Nat.{div-div-eq-div-mul, pow-suc, pow-zero}
use Rattle.std.proofs.Math.Seq.{take-add, take-length}
use Rattle.std.proofs.lemmas.Nat.{or_block}
use Rattle.std.specs.Int.Bits.{or_self, or_zero_l, or_zero_r}
use Rattle.std.proofs.lemmas.List.{drop-drop, get_or-take, take_all, length-append, length-drop, length-take-le, take-append-le}
use Rattle.lexical_util.specs.Digit.{digit}
use Rattle.lexical_digits.specs.WrittenNumbers.{WritesDecimal, WritesFirst, bytes_number, with_more}
use Rattle.lexical_digits.specs.Words.{AreDigits, word_bytes, word_value}
use Rattle.lexical_digits.proofs.AsciiDigits.{AreAsciiDigits, ascii_from_digits, digits_from_ascii, digit_to}
use Rattle.lexical_digits.proofs.ShiftedWords.{IsShifted, ascii_bytes, padded_ascii, word_again, writes_text}
use Rattle.lexical_digits.proofs.WordsOfDigits.{AllBytes, all_after, all_bytes, all_taken, bytes_after, all_dropped, bytes_again, digits_joined, holds_digits, value_joined, padded, padded_value, raised_none}

-- a byte that is no decimal digit
pub stop_none : (byte : ℕ) → byte < 256 → 10 ≤ (byte + 208) % 256 → is_some (digit 10 byte) ≡ false
stop_none byte below stops = by_test (is_some (digit 10 byte)) refl
  where
    by_test : (b : Bool) → is_some (digit 10 byte) ≡ b → b ≡ false
    by_test false e = refl
    by_test true e =
        let d = digit_to 10 byte e (omega arith) in
        let low = d.0 in
        let high = d.1 in
        absurd (omega arith)

-- ---- what a word holds of a text

-- a text's first word is its first bytes, and bytes 0 behind them
word_holds : (text : List ℕ) (word : ℕ) → ((k : ℕ) → get_or text k 0 < 256) → word ≡ bytes_number (take 8 text) → word_bytes 8 word ≡ take 8 (text ++ replicate 8 0)
word_holds text word below is =
    let longer : List ℕ = text ++ replicate 8 0 in
    let size : length (take 8 longer) ≡ 8 = length-take-le 8 longer (let e = length-append text (replicate 8 0) in omega arith) in
    ap (word_bytes 8) (is ∙ sym (bytes_after 8 8 text)) ∙ ap (λ n. word_bytes n (bytes_number (take 8 longer))) (sym size) ∙ bytes_again (take 8 longer) (all_taken 8 longer (all_after 8 text (all_bytes text below)))

same_byte : (text : List ℕ) (n k : ℕ) → get_or (text ++ replicate n 0) k 0 ≡ get_or text k 0
same_byte [] zero k = refl
same_byte [] (suc n) zero = refl
same_byte [] (suc n) (suc k) = same_byte [] n k
same_byte (b ∷ bs) n zero = refl
same_byte (b ∷ bs) n (suc k) = same_byte bs n k

-- bytes 0 are no digits
within_text : (text : List ℕ) (n k : ℕ) → k ≤ n → AreAsciiDigits 10 (take k (text ++ replicate n 0)) → k ≤ length text
within_text text n zero few digits = omega arith
within_text [] zero (suc k) few digits = absurd (omega arith)
within_text [] (suc n) (suc k) few digits = let low = digits.0.0 in absurd (omega arith)
within_text (b ∷ bs) n (suc k) few digits = let rest = within_text bs n k (omega arith) digits.1 in omega arith

take_twice : (j k : ℕ) (bs : List ℕ) → j ≤ k → take j (take k bs) ≡ take j bs
take_twice zero k bs few = refl
take_twice (suc j) zero bs few = absurd (omega arith)
take_twice (suc j) (suc k) [] few = refl
take_twice (suc j) (suc k) (b ∷ bs) few = ap (λ (rest : List ℕ). b ∷ rest) (take_twice j k bs (omega arith))

-- the digits that a text's first word begins with are those of the text
pub front_of_word : (text : List ℕ) (word number count : ℕ) → ((k : ℕ) → get_or text k 0 < 256) → word ≡ bytes_number (take 8 text) → count ≤ 8 → AreDigits 10 (take count (word_bytes 8 word)) →
    number ≡ word_value 10 (take count (word_bytes 8 word)) → (count < 8 → 10 ≤ (get_or (word_bytes 8 word) count 0 + 208) % 256) → WritesFirst text number count
front_of_word text word number count below is few digits worth stops =
    let longer : List ℕ = text ++ replicate 8 0 in
    let holds = word_holds text word below is in
    let front : take count (word_bytes 8 word) ≡ take count longer = ap (take count) holds ∙ take_twice count 8 longer few in
    let ascii : AreAsciiDigits 10 (take count longer) = ascii_from_digits 10 (take count longer) (omega arith) (subst (λ (bs : List ℕ). AreDigits 10 bs) front digits) in
    let within : count ≤ length text = within_text text 8 count few ascii in
    let same : take count (word_bytes 8 word) ≡ take count text = front ∙ take-append-le count text (replicate 8 0) within in
    record {
      few = few;
      within = within;
      writes = writes_text (take count text) number (subst (λ (bs : List ℕ). AreDigits 10 bs) same digits) (worth ∙ ap (word_value 10) same);
      stops = λ less more.
          let byte : get_or (word_bytes 8 word) count 0 ≡ get_or text count 0 = ap (λ (bs : List ℕ). get_or bs count 0) holds ∙ get_or-take 8 longer count 0 less ∙ same_byte text 8 count in
          let stop : 10 ≤ (get_or text count 0 + 208) % 256 = subst (λ n. 10 ≤ (n + 208) % 256) byte (stops less) in
          stop_none (get_or text count 0) (below count) stop;
    }

-- ---- the digits in front, behind digits 0

-- eight bytes, of which the first `k` stay
shifted_in : (k a b c d e f g h : ℕ) → 1 ≤ k → k ≤ 8 → a < 256 → b < 256 → c < 256 → d < 256 → e < 256 → f < 256 → g < 256 → h < 256 → AreAsciiDigits 10 (take k (a ∷ b ∷ c ∷ d ∷ e ∷ f ∷ g ∷ h ∷ [])) →
    (bytes_number (a ∷ b ∷ c ∷ d ∷ e ∷ f ∷ g ∷ h ∷ []) + 14974415777481871312) % 18446744073709551616 * 2 ^ (64 - 8 * k) % 18446744073709551616 + 3472328296227680304
    ≡ bytes_number (padded (8 - k) (with_more 0 (take k (a ∷ b ∷ c ∷ d ∷ e ∷ f ∷ g ∷ h ∷ []))))
shifted_in zero a b c d e f g h some few la lb lc ld le lf lg lh digits = absurd (omega arith)
shifted_in (suc zero) a b c d e f g h some few la lb lc ld le lf lg lh digits = omega (arith, digits.0)
shifted_in (suc (suc zero)) a b c d e f g h some few la lb lc ld le lf lg lh digits = omega (arith, digits.0, digits.1.0)
shifted_in (suc (suc (suc zero))) a b c d e f g h some few la lb lc ld le lf lg lh digits = omega (arith, digits.0, digits.1.0, digits.1.1.0)
shifted_in (suc (suc (suc (suc zero)))) a b c d e f g h some few la lb lc ld le lf lg lh digits = omega (arith, digits.0, digits.1.0, digits.1.1.0, digits.1.1.1.0)
shifted_in (suc (suc (suc (suc (suc zero))))) a b c d e f g h some few la lb lc ld le lf lg lh digits = omega (arith, digits.0, digits.1.0, digits.1.1.0, digits.1.1.1.0, digits.1.1.1.1.0)
shifted_in (suc (suc (suc (suc (suc (suc zero)))))) a b c d e f g h some few la lb lc ld le lf lg lh digits = omega (arith, digits.0, digits.1.0, digits.1.1.0, digits.1.1.1.0, digits.1.1.1.1.0, digits.1.1.1.1.1.0)
shifted_in (suc (suc (suc (suc (suc (suc (suc zero))))))) a b c d e f g h some few la lb lc ld le lf lg lh digits = omega (arith, digits.0, digits.1.0, digits.1.1.0, digits.1.1.1.0, digits.1.1.1.1.0, digits.1.1.1.1.1.0, digits.1.1.1.1.1.1.0)
shifted_in (suc (suc (suc (suc (suc (suc (suc (suc zero)))))))) a b c d e f g h some few la lb lc ld le lf lg lh digits = omega (arith, digits.0, digits.1.0, digits.1.1.0, digits.1.1.1.0, digits.1.1.1.1.0, digits.1.1.1.1.1.0, digits.1.1.1.1.1.1.0, digits.1.1.1.1.1.1.1.0)
shifted_in (suc (suc (suc (suc (suc (suc (suc (suc (suc k))))))))) a b c d e f g h some few la lb lc ld le lf lg lh digits = absurd (omega arith)

-- a word shifted by all but its first digits holds zeros and these digits
pub shifted_front : (k word : ℕ) → 1 ≤ k → k ≤ 8 → word < 18446744073709551616 → AreDigits 10 (take k (word_bytes 8 word)) →
    IsShifted k word ((word + 14974415777481871312) % 18446744073709551616 * 2 ^ (64 - 8 * k) % 18446744073709551616 + 3472328296227680304)
shifted_front k word some few small digits =
    let bs : List ℕ = word_bytes 8 word in
    let taken = ascii_from_digits 10 (take k bs) (omega arith) digits in
    let again : bytes_number bs ≡ word = word_again 8 word small in
    let size : length (take k bs) ≡ k = length-take-le k bs few in
    let is : (word + 14974415777481871312) % 18446744073709551616 * 2 ^ (64 - 8 * k) % 18446744073709551616 + 3472328296227680304 ≡ bytes_number (padded (8 - k) (with_more 0 (take k bs))) =
    ap (λ (w : ℕ). (w + 14974415777481871312) % 18446744073709551616 * 2 ^ (64 - 8 * k) % 18446744073709551616 + 3472328296227680304) (sym again)
    ∙ shifted_in k _ _ _ _ _ _ _ _ some few (omega arith) (omega arith) (omega arith) (omega arith) (omega arith) (omega arith) (omega arith) (omega arith) taken in
    let holds = holds_digits (8 - k) 0 (take k bs) _ (omega arith) (ascii_bytes (take k bs) taken) (first_small (take k bs) taken) is in
    let bytes = holds.bytes ∙ ap (λ (cs : List ℕ). padded (8 - k) cs) (raised_none (take k bs)) in
    record {
      digits = subst (λ (cs : List ℕ). AreDigits 10 cs) (sym bytes) (digits_from_ascii 10 (padded (8 - k) (take k bs)) (omega arith) (padded_ascii (8 - k) (take k bs) taken));
      worth = ap (word_value 10) bytes ∙ padded_value (8 - k) (take k bs);
      small = holds.small;
    }
  where
    first_small : (bs : List ℕ) → AreAsciiDigits 10 bs → get_or bs 0 0 + 0 < 256
    first_small [] ascii = omega arith
    first_small (b ∷ bs) ascii = let high = ascii.0.1 in omega arith

-- ---- words behind the first

-- the bytes behind the first `j`
bytes_behind : (j : ℕ) (bytes : List ℕ) → AllBytes bytes → bytes_number bytes / 256 ^ j ≡ bytes_number (drop j bytes)
bytes_behind zero bytes all = ap (λ n. bytes_number bytes / n) (pow-zero 256) ∙ omega arith
bytes_behind (suc j) [] all = none (256 ^ suc j)
  where
    none : (n : ℕ) → 0 / n ≡ 0
    none n = grind arith
bytes_behind (suc j) (b ∷ bs) all =
    let low = all.0 in
    let one : (b + 256 * bytes_number bs) / 256 ≡ bytes_number bs = omega arith in
    let power : 256 ^ suc j ≡ 256 * 256 ^ j = omega (arith, pow-suc 256 j) in
    ap (λ n. (b + 256 * bytes_number bs) / n) power ∙ sym (div-div-eq-div-mul (b + 256 * bytes_number bs) 256 (256 ^ j)) ∙ ap (λ n. n / 256 ^ j) one ∙ bytes_behind j bs all.1

byte_power : (j : ℕ) → j ≤ 8 → 2 ^ (8 * j) ≡ 256 ^ j
byte_power zero few = refl
byte_power (suc zero) few = refl
byte_power (suc (suc zero)) few = refl
byte_power (suc (suc (suc zero))) few = refl
byte_power (suc (suc (suc (suc zero)))) few = refl
byte_power (suc (suc (suc (suc (suc zero))))) few = refl
byte_power (suc (suc (suc (suc (suc (suc zero)))))) few = refl
byte_power (suc (suc (suc (suc (suc (suc (suc zero))))))) few = refl
byte_power (suc (suc (suc (suc (suc (suc (suc (suc zero)))))))) few = refl
byte_power (suc (suc (suc (suc (suc (suc (suc (suc (suc j))))))))) few = absurd (omega arith)

-- what stands from a place on
pub rest_is : (text : List ℕ) (at : ℕ) → slice_range text at (length text) ≡ drop at text
rest_is text at = ap (λ k. take k (drop at text)) (sym (length-drop at text)) ∙ take-length (drop at text)

-- the last eight bytes, of which those before the place are shifted out
pub later_word : (text : List ℕ) (at last : ℕ) → ((k : ℕ) → get_or text k 0 < 256) → 8 ≤ at → at < length text → length text - at < 8 → last ≡ bytes_number (slice_range text (length text - 8) (length text - 8 + 8)) →
    last / 2 ^ (64 - 8 * (length text - at)) ≡ bytes_number (take 8 (slice_range text at (length text)))
later_word text at last below behind within short is =
    let n : ℕ = length text in
    let j : ℕ = 8 - (n - at) in
    let back : n - 8 + 8 ≡ n = omega arith in
    let whole : last ≡ bytes_number (drop (n - 8) text) = is ∙ ap (λ k. bytes_number (slice_range text (n - 8) k)) back ∙ ap bytes_number (rest_is text (n - 8)) in
    let shift : 64 - 8 * (n - at) ≡ 8 * j = omega arith in
    let power : 2 ^ (64 - 8 * (n - at)) ≡ 256 ^ j = ap (λ k. 2 ^ k) shift ∙ byte_power j (omega arith) in
    let here : n - 8 + j ≡ at = omega arith in
    let size : length (slice_range text at n) ≡ n - at = ap length (rest_is text at) ∙ length-drop at text in
    ap (λ k. last / k) power ∙ ap (λ k. k / 256 ^ j) whole ∙ bytes_behind j (drop (n - 8) text) (all_dropped (n - 8) text (all_bytes text below))
    ∙ ap bytes_number (drop-drop j (n - 8) text ∙ ap (λ k. drop k text) here ∙ sym (rest_is text at)) ∙ ap bytes_number (sym (take_all 8 (slice_range text at n) (omega arith)))

-- ---- one to three bytes

pub few_bytes : (text : List ℕ) → 1 ≤ length text → length text ≤ 3 → ((k : ℕ) → get_or text k 0 < 256) →
    bit_or (bit_or (get_or text 0 0) (get_or text (length text / 2) 0 * 2 ^ (8 * (length text / 2)) % 18446744073709551616)) (get_or text (length text - 1) 0 * 2 ^ (8 * (length text - 1)) % 18446744073709551616)
    ≡ bytes_number (take 8 text)
few_bytes [] some few below = absurd (omega arith)
few_bytes (a ∷ []) some few below =
    let one : a * 2 ^ (8 * 0) % 18446744073709551616 ≡ a = omega (arith, below 0) in
    ap (λ n. bit_or (bit_or a n) n) one ∙ ap (λ n. bit_or n a) (or_self a) ∙ or_self a ∙ omega arith
few_bytes (a ∷ b ∷ []) some few below =
    let last : b * 2 ^ (8 * 1) % 18446744073709551616 ≡ b * 256 + 0 = omega (arith, below 1) in
    let first : a ≡ 0 * 256 + a = omega arith in
    let two : bit_or a (b * 256 + 0) ≡ b * 256 + a = ap (λ n. bit_or n (b * 256 + 0)) first ∙ or_block 8 0 b a 0 (below 0) (omega arith) ∙ (let e = or_zero_r a in let f = or_zero_l b in omega arith) in
    let again : bit_or (b * 256 + a) (b * 256 + 0) ≡ b * 256 + a = or_block 8 b b a 0 (below 0) (omega arith) ∙ (let e = or_zero_r a in let f = or_self b in omega arith) in
    ap (λ n. bit_or (bit_or a n) n) last ∙ ap (λ n. bit_or n (b * 256 + 0)) two ∙ again ∙ omega arith
few_bytes (a ∷ b ∷ c ∷ []) some few below =
    let middle : b * 2 ^ (8 * 1) % 18446744073709551616 ≡ b * 256 + 0 = omega (arith, below 1) in
    let last : c * 2 ^ (8 * 2) % 18446744073709551616 ≡ c * 65536 + 0 = omega (arith, below 2) in
    let first : a ≡ 0 * 256 + a = omega arith in
    let two : bit_or a (b * 256 + 0) ≡ b * 256 + a = ap (λ n. bit_or n (b * 256 + 0)) first ∙ or_block 8 0 b a 0 (below 0) (omega arith) ∙ (let e = or_zero_r a in let f = or_zero_l b in omega arith) in
    let front : b * 256 + a ≡ 0 * 65536 + (b * 256 + a) = omega arith in
    let small : b * 256 + a < 65536 = omega (arith, below 0, below 1) in
    let three : bit_or (b * 256 + a) (c * 65536 + 0) ≡ c * 65536 + (b * 256 + a) =
    ap (λ n. bit_or n (c * 65536 + 0)) front ∙ or_block 16 0 c (b * 256 + a) 0 small (omega arith) ∙ (let e = or_zero_r (b * 256 + a) in let f = or_zero_l c in omega arith) in
    ap (λ n. bit_or (bit_or a n) (c * 2 ^ (8 * 2) % 18446744073709551616)) middle ∙ ap (λ n. bit_or (bit_or a (b * 256 + 0)) n) last ∙ ap (λ n. bit_or n (c * 65536 + 0)) two ∙ three ∙ omega arith
few_bytes (a ∷ b ∷ c ∷ d ∷ rest) some few below = absurd (omega arith)

-- ---- words one behind another

-- digits, and others behind them
pub joined_texts : (j count a b : ℕ) (digits : List ℕ) → count ≤ length (drop j digits) → WritesDecimal 0 (take j digits) a → WritesDecimal 0 (take count (drop j digits)) b → WritesDecimal 0 (take (j + count) digits) (a * 10 ^ count + b)
joined_texts j count a b digits few w v =
    let size : length (take count (drop j digits)) ≡ count = length-take-le count (drop j digits) few in
    let parts : take (j + count) digits ≡ take j digits ++ take count (drop j digits) = take-add j count digits in
    let before = raised_none (take j digits) in
    let behind = raised_none (take count (drop j digits)) in
    let first : AreDigits 10 (take j digits) = subst (λ (bs : List ℕ). AreDigits 10 bs) before w.digits in
    let last : AreDigits 10 (take count (drop j digits)) = subst (λ (bs : List ℕ). AreDigits 10 bs) behind v.digits in
    let first_worth : a ≡ word_value 10 (take j digits) = w.worth ∙ ap (word_value 10) before in
    let last_worth : b ≡ word_value 10 (take count (drop j digits)) = v.worth ∙ ap (word_value 10) behind in
    let value : word_value 10 (take j digits ++ take count (drop j digits)) ≡ a * 10 ^ count + b =
    value_joined 10 (take j digits) (take count (drop j digits)) ∙ ap (λ n. word_value 10 (take j digits) * 10 ^ n + word_value 10 (take count (drop j digits))) size
    ∙ ap (λ n. n * 10 ^ count + word_value 10 (take count (drop j digits))) (sym first_worth) ∙ ap (λ n. a * 10 ^ count + n) (sym last_worth) in
    writes_text (take (j + count) digits) (a * 10 ^ count + b) (subst (λ (bs : List ℕ). AreDigits 10 bs) (sym parts) (digits_joined 10 (take j digits) (take count (drop j digits)) first last)) (sym value ∙ ap (word_value 10) (sym parts))

-- digits, and those of a word behind them
pub joined : (j count a b : ℕ) (digits : List ℕ) → WritesDecimal 0 (take j digits) a → WritesFirst (slice_range digits j (length digits)) b count → WritesDecimal 0 (take (j + count) digits) (a * 10 ^ count + b)
joined j count a b digits w v =
    let rest : slice_range digits j (length digits) ≡ drop j digits = rest_is digits j in
    joined_texts j count a b digits (subst (λ (bs : List ℕ). count ≤ length bs) rest v.within) w (subst (λ (bs : List ℕ). WritesDecimal 0 (take count bs) b) rest v.writes)

-- what a word behind the first bytes reaches
pub reaches : (digits : List ℕ) (j b count : ℕ) → WritesFirst (slice_range digits j (length digits)) b count → j ≤ length digits → j + count ≤ length digits
reaches digits j b count v within =
    let size : length (slice_range digits j (length digits)) ≡ length digits - j = ap length (rest_is digits j) ∙ length-drop j digits in
    let more = v.within in
    omega arith
