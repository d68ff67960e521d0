-- Words that hold a text's digits, with digits 0 put in front.
use Rattle.std.proofs.Common.{◌≡◌, ℕ, zero, suc, ◌+◌, ◌-◌, ◌*◌, ◌/◌, ◌%◌, ◌^◌, ◌<◌, ◌≤◌, List, [], ◌∷◌, ◌++◌, length, get_or, take, drop, map, bit_and, replicate, refl, sym, ap, ◌∙◌, subst, arith, Option, Some, None}
use Rattle.std.specs.Prelude.{slice_range, IfSome}
use Rattle.std.specs.List.{AllByRecursion}
use Rattle.std.proofs.Math.Nat.{pow-le-pow_right, pow-suc, pow-zero}
use Rattle.std.proofs.lemmas.Nat.{and_mask, one_shl}
use Rattle.lexical_digits.specs.WrittenNumbers.{WritesDecimal, bytes_number, with_more}
use Rattle.lexical_digits.specs.Words.{AreDigits, word_bytes, word_value}
use Rattle.lexical_digits.proofs.AsciiDigits.{IsAsciiDigit, ascii_from_digits, ascii_value_is, digits_from_ascii, word_below}
use Rattle.lexical_digits.specs.Value.{positional_value}
use Rattle.lexical_digits.proofs.DigitValues.{positional_value-append}
use Rattle.std.proofs.Math.Seq.{take-length}
use Rattle.std.proofs.lemmas.List.{get_or-take, length-append, length-drop, length-map, length-take-le, map-append, take-append-le}

abbrev pub AllBytes : List ℕ → Type 0
AllBytes bytes = AllByRecursion (λ byte. byte < 256) bytes

pub all_bytes : (bytes : List ℕ) → ((k : ℕ) → get_or bytes k 0 < 256) → AllBytes bytes
all_bytes [] below = tt
all_bytes (b ∷ bs) below = (below 0, all_bytes bs (λ k. below (suc k)))

all_raised : (more : ℕ) (bytes : List ℕ) → get_or bytes 0 0 + more < 256 → AllBytes bytes → AllBytes (with_more more bytes)
all_raised more [] fits all = tt
all_raised more (b ∷ bs) fits all = (fits, all.1)

pub raised_none : (bytes : List ℕ) → with_more 0 bytes ≡ bytes
raised_none [] = refl
raised_none (b ∷ bs) = let same : b + 0 ≡ b = omega arith in ap (λ (c : ℕ). c ∷ bs) same

-- zeros in front
abbrev pub padded : ℕ → List ℕ → List ℕ
padded count bytes = replicate count 48 ++ bytes

all_padded : (count : ℕ) (bytes : List ℕ) → AllBytes bytes → AllBytes (padded count bytes)
all_padded zero bytes all = all
all_padded (suc count) bytes all = (omega arith, all_padded count bytes all)

pub padded_value : (count : ℕ) (bytes : List ℕ) → word_value 10 (padded count bytes) ≡ word_value 10 bytes
padded_value zero bytes = refl
padded_value (suc count) bytes = omega (arith, padded_value count bytes)

-- the bytes of the number that bytes make
pub bytes_again : (bytes : List ℕ) → AllBytes bytes → word_bytes (length bytes) (bytes_number bytes) ≡ bytes
bytes_again [] all = refl
bytes_again (b ∷ bs) all =
    let small = all.0 in
    let low : (b + 256 * bytes_number bs) % 256 ≡ b = omega arith in
    let rest : (b + 256 * bytes_number bs) / 256 ≡ bytes_number bs = omega arith in
    rw (low, rest, bytes_again bs all.1) refl

-- ---- a word behind zeros

-- what is known of a word that is made of digits with zeros in front
pub record HoldsDigits (count more : ℕ) (text : List ℕ) (word : ℕ) : Type 0 where
  pub bytes : word_bytes 8 word ≡ padded count (with_more more text)
  pub small : word < 18446744073709551616

raised_length : (more : ℕ) (bytes : List ℕ) → length (with_more more bytes) ≡ length bytes
raised_length more [] = refl
raised_length more (b ∷ bs) = refl

pub padded_length : (count : ℕ) (bytes : List ℕ) → length (padded count bytes) ≡ count + length bytes
padded_length zero bytes = omega arith
padded_length (suc count) bytes = omega (arith, padded_length count bytes)

pub bytes_small : (bytes : List ℕ) → AllBytes bytes → bytes_number bytes < 256 ^ length bytes
bytes_small [] all = omega (arith, pow-zero 256)
bytes_small (b ∷ bs) all =
    let here = all.0 in
    let rest = bytes_small bs all.1 in
    let power = pow-suc 256 (length bs) in
    omega arith

pub holds_digits : (count more : ℕ) (text : List ℕ) (word : ℕ) → count + length text ≡ 8 → AllBytes text → get_or text 0 0 + more < 256 → word ≡ bytes_number (padded count (with_more more text)) → HoldsDigits count more text word
holds_digits count more text word size all fits is =
    let every = all_padded count (with_more more text) (all_raised more text fits all) in
    let eight : length (padded count (with_more more text)) ≡ 8 = padded_length count (with_more more text) ∙ omega (arith, raised_length more text) in
    let small = bytes_small (padded count (with_more more text)) every in
    let power : 256 ^ length (padded count (with_more more text)) ≡ 18446744073709551616 = ap (λ n. 256 ^ n) eight in
    record {
      bytes = ap (λ n. word_bytes 8 n) is ∙ ap (λ n. word_bytes n (bytes_number (padded count (with_more more text)))) (sym eight) ∙ bytes_again (padded count (with_more more text)) every;
      small = omega arith;
    }

-- ---- nine to sixteen bytes

pub all_taken : (count : ℕ) (bytes : List ℕ) → AllBytes bytes → AllBytes (take count bytes)
all_taken zero bytes all = tt
all_taken (suc count) [] all = tt
all_taken (suc count) (b ∷ bs) all = (all.0, all_taken count bs all.1)

pub all_dropped : (count : ℕ) (bytes : List ℕ) → AllBytes bytes → AllBytes (drop count bytes)
all_dropped zero bytes all = all
all_dropped (suc count) [] all = tt
all_dropped (suc count) (b ∷ bs) all = all_dropped count bs all.1

-- ---- the first word of a text

-- the first four bytes, and the last four of the first eight, without those that are among the first
pub first_word_is : (text : List ℕ) (first last n : ℕ) → 4 ≤ length text → AllBytes text → (length text < 8 → n ≡ length text) → (8 ≤ length text → n ≡ 8) →
    first ≡ bytes_number (slice_range text 0 4) → last ≡ bytes_number (slice_range text (n - 4) (n - 4 + 4)) →
    first + last / 2 ^ (64 - 8 * n) * 4294967296 % 18446744073709551616 ≡ bytes_number (take 8 text)
first_word_is [] first last n low all short long is_first is_last = absurd (omega arith)
first_word_is (a ∷ []) first last n low all short long is_first is_last = absurd (omega arith)
first_word_is (a ∷ b ∷ []) first last n low all short long is_first is_last = absurd (omega arith)
first_word_is (a ∷ b ∷ c ∷ []) first last n low all short long is_first is_last = absurd (omega arith)
first_word_is (a ∷ b ∷ c ∷ d ∷ []) first last n low all short long is_first is_last =
    let e : n ≡ 4 = short (omega arith) in
    let tail : last ≡ bytes_number (a ∷ b ∷ c ∷ d ∷ []) = is_last ∙ ap (λ (m : ℕ). bytes_number (slice_range (a ∷ b ∷ c ∷ d ∷ []) (m - 4) (m - 4 + 4))) e in
    ap (λ (m : ℕ). first + last / 2 ^ (64 - 8 * m) * 4294967296 % 18446744073709551616) e ∙ omega arith
first_word_is (a ∷ b ∷ c ∷ d ∷ f ∷ []) first last n low all short long is_first is_last =
    let e : n ≡ 5 = short (omega arith) in
    let tail : last ≡ bytes_number (b ∷ c ∷ d ∷ f ∷ []) = is_last ∙ ap (λ (m : ℕ). bytes_number (slice_range (a ∷ b ∷ c ∷ d ∷ f ∷ []) (m - 4) (m - 4 + 4))) e in
    ap (λ (m : ℕ). first + last / 2 ^ (64 - 8 * m) * 4294967296 % 18446744073709551616) e ∙ omega arith
first_word_is (a ∷ b ∷ c ∷ d ∷ f ∷ g ∷ []) first last n low all short long is_first is_last =
    let e : n ≡ 6 = short (omega arith) in
    let tail : last ≡ bytes_number (c ∷ d ∷ f ∷ g ∷ []) = is_last ∙ ap (λ (m : ℕ). bytes_number (slice_range (a ∷ b ∷ c ∷ d ∷ f ∷ g ∷ []) (m - 4) (m - 4 + 4))) e in
    ap (λ (m : ℕ). first + last / 2 ^ (64 - 8 * m) * 4294967296 % 18446744073709551616) e ∙ omega arith
first_word_is (a ∷ b ∷ c ∷ d ∷ f ∷ g ∷ h ∷ []) first last n low all short long is_first is_last =
    let e : n ≡ 7 = short (omega arith) in
    let tail : last ≡ bytes_number (d ∷ f ∷ g ∷ h ∷ []) = is_last ∙ ap (λ (m : ℕ). bytes_number (slice_range (a ∷ b ∷ c ∷ d ∷ f ∷ g ∷ h ∷ []) (m - 4) (m - 4 + 4))) e in
    ap (λ (m : ℕ). first + last / 2 ^ (64 - 8 * m) * 4294967296 % 18446744073709551616) e ∙ omega arith
first_word_is (a ∷ b ∷ c ∷ d ∷ f ∷ g ∷ h ∷ i ∷ rest) first last n low all short long is_first is_last =
    let e : n ≡ 8 = long (omega arith) in
    let tail : last ≡ bytes_number (f ∷ g ∷ h ∷ i ∷ []) = is_last ∙ ap (λ (m : ℕ). bytes_number (slice_range (a ∷ b ∷ c ∷ d ∷ f ∷ g ∷ h ∷ i ∷ rest) (m - 4) (m - 4 + 4))) e in
    ap (λ (m : ℕ). first + last / 2 ^ (64 - 8 * m) * 4294967296 % 18446744073709551616) e ∙ omega arith

pub first_word_small : (text : List ℕ) → ((k : ℕ) → get_or text k 0 < 256) → bytes_number (take 8 text) < 18446744073709551616
first_word_small text below =
    let few : length (take 8 text) ≤ 8 = length-take-most 8 text in
    let small = bytes_small (take 8 text) (all_taken 8 text (all_bytes text below)) in
    let more = pow-le-pow_right {n = 256} (omega arith) few in
    omega arith
  where
    length-take-most : (n : ℕ) (bytes : List ℕ) → length (take n bytes) ≤ n
    length-take-most zero bytes = omega arith
    length-take-most (suc n) [] = omega arith
    length-take-most (suc n) (b ∷ bs) = let rest = length-take-most n bs in omega arith

-- bytes 0 after a text add nothing to its number
zeros_after : (m k : ℕ) → bytes_number (take m (replicate k 0)) ≡ 0
zeros_after zero k = refl
zeros_after (suc m) zero = refl
zeros_after (suc m) (suc k) = let rest = zeros_after m k in omega arith

pub bytes_after : (m k : ℕ) (bytes : List ℕ) → bytes_number (take m (bytes ++ replicate k 0)) ≡ bytes_number (take m bytes)
bytes_after zero k bytes = refl
bytes_after (suc m) k [] = zeros_after (suc m) k
bytes_after (suc m) k (b ∷ bs) = let rest = bytes_after m k bs in omega arith

pub all_after : (k : ℕ) (bytes : List ℕ) → AllBytes bytes → AllBytes (bytes ++ replicate k 0)
all_after zero [] all = tt
all_after (suc k) [] all = (omega arith, all_after k [] tt)
all_after k (b ∷ bs) all = (all.0, all_after k bs all.1)

-- the word of the last eight
last_bytes : (text : List ℕ) (low : ℕ) → 8 < length text → ((k : ℕ) → get_or text k 0 < 256) → low ≡ bytes_number (slice_range text (length text - 8) (length text - 8 + 8)) → word_bytes 8 low ≡ drop (length text - 8) text
last_bytes text low many below is =
    let k : ℕ = length text - 8 in
    let size : length (drop k text) ≡ 8 = length-drop k text ∙ omega arith in
    let back : k + 8 - k ≡ length (drop k text) = omega arith in
    let whole : slice_range text k (k + 8) ≡ drop k text = ap (λ n. take n (drop k text)) back ∙ take-length (drop k text) in
    ap (λ n. word_bytes 8 n) (is ∙ ap bytes_number whole) ∙ ap (λ n. word_bytes n (bytes_number (drop k text))) (sym size) ∙ bytes_again (drop k text) (all_dropped k text (all_bytes text below))

pub digits_joined : (r : ℕ) (xs ys : List ℕ) → AreDigits r xs → AreDigits r ys → AreDigits r (xs ++ ys)
digits_joined r [] ys d e = e
digits_joined r (x ∷ xs) ys d e = (d.0, digits_joined r xs ys d.1 e)

pub value_joined : (r : ℕ) (xs ys : List ℕ) → word_value r (xs ++ ys) ≡ word_value r xs * r ^ length ys + word_value r ys
value_joined r xs ys =
    let size : length (map (λ byte. byte - 48) ys) ≡ length ys = length-map ys (λ byte. byte - 48) in
    ap (positional_value r) (map-append (λ byte. byte - 48) xs ys) ∙ positional_value-append r (map (λ byte. byte - 48) xs) (map (λ byte. byte - 48) ys)
    ∙ ap (λ n. word_value r xs * r ^ n + word_value r ys) size

raised_parts : (more k : ℕ) (text : List ℕ) → 1 ≤ k → with_more more text ≡ with_more more (take k text) ++ drop k text
raised_parts more zero text some = absurd (omega arith)
raised_parts more (suc k) [] some = refl
raised_parts more (suc k) (b ∷ bs) some = ap (λ (rest : List ℕ). (b + more) ∷ rest) (sym (take_drop k bs))
  where
    take_drop : (k : ℕ) (bs : List ℕ) → take k bs ++ drop k bs ≡ bs
    take_drop zero bs = refl
    take_drop (suc k) [] = refl
    take_drop (suc k) (b ∷ bs) = ap (λ (rest : List ℕ). b ∷ rest) (take_drop k bs)

-- the digits before the last eight, and those, write the number of the text
pub both_write : (last high low : ℕ) (text : List ℕ) → 8 < length text → ((k : ℕ) → get_or text k 0 < 256) → WritesDecimal 0 (take (length text - 8) text) high →
    last ≡ bytes_number (slice_range text (length text - 8) (length text - 8 + 8)) → AreDigits 10 (word_bytes 8 last) → low ≡ word_value 10 (word_bytes 8 last) →
    WritesDecimal 0 text (high * 100000000 + low)
both_write last high low text many below before is_last last_digits last_value =
    let k : ℕ = length text - 8 in
    let parts = raised_parts 0 k text (omega arith) in
    let bytes = last_bytes text last many below is_last in
    let digits : AreDigits 10 (drop k text) = subst (λ (bs : List ℕ). AreDigits 10 bs) bytes last_digits in
    let worth : low ≡ word_value 10 (drop k text) = last_value ∙ ap (word_value 10) bytes in
    let size : length (drop k text) ≡ 8 = length-drop k text ∙ omega arith in
    let power : 10 ^ length (drop k text) ≡ 100000000 = ap (λ n. 10 ^ n) size in
    let whole : word_value 10 (with_more 0 text) ≡ word_value 10 (with_more 0 (take k text)) * 100000000 + word_value 10 (drop k text) =
    ap (word_value 10) parts ∙ value_joined 10 (with_more 0 (take k text)) (drop k text) ∙ ap (λ n. word_value 10 (with_more 0 (take k text)) * n + word_value 10 (drop k text)) power in
    let first_worth = before.worth in
    record {
      digits = subst (λ (bs : List ℕ). AreDigits 10 bs) (sym parts) (digits_joined 10 (with_more 0 (take k text)) (drop k text) before.digits digits);
      worth = omega arith;
    }

-- digits write a number below that power of ten
pub digits_below : (bs : List ℕ) (n : ℕ) → AreDigits 10 bs → n ≡ word_value 10 bs → n < 10 ^ length bs
digits_below bs n digits worth =
    let low = word_below 10 bs (ascii_from_digits 10 bs (omega arith) digits) in
    let same = ascii_value_is 10 bs in
    omega arith

pub word_small : (word n : ℕ) → AreDigits 10 (word_bytes 8 word) → n ≡ word_value 10 (word_bytes 8 word) → n < 100000000
word_small word n digits worth = digits_below (word_bytes 8 word) n digits worth

-- ---- one to four bytes

plus_none : (byte : ℕ) → IsAsciiDigit 10 byte → IsAsciiDigit 10 (byte + 0)
plus_none byte is = let same : byte + 0 ≡ byte = omega arith in rw same is

-- the bytes of a word of four lanes, where they are digits
lanes : (word a b c d : ℕ) → a < 256 → b < 256 → c < 256 → d < 256 → word ≡ bytes_number (a ∷ 48 ∷ b ∷ 48 ∷ c ∷ 48 ∷ d ∷ 48 ∷ []) → AreDigits 10 (word_bytes 8 word) →
    IsAsciiDigit 10 a × (IsAsciiDigit 10 b × (IsAsciiDigit 10 c × IsAsciiDigit 10 d))
lanes word a b c d la lb lc ld is digits =
    let bytes : List ℕ = a ∷ 48 ∷ b ∷ 48 ∷ c ∷ 48 ∷ d ∷ 48 ∷ [] in
    let again : word_bytes 8 word ≡ bytes = ap (word_bytes 8) is ∙ bytes_again bytes (la, (omega arith, (lb, (omega arith, (lc, (omega arith, (ld, (omega arith, tt)))))))) in
    let ascii = ascii_from_digits 10 bytes (omega arith) (subst (λ (bs : List ℕ). AreDigits 10 bs) again digits) in
    (ascii.0, (ascii.1.1.0, (ascii.1.1.1.1.0, ascii.1.1.1.1.1.1.0)))

-- the digits of up to four bytes in lanes, added up by their weights, write the number of the text
pub few_write : (text : List ℕ) (word : ℕ) → 1 ≤ length text → length text ≤ 4 → ((k : ℕ) → get_or text k 0 < 256) →
    word ≡ bytes_number (get_or text 0 0 ∷ 48 ∷ get_or text (length text / 4) 0 ∷ 48 ∷ get_or text (length text / 2) 0 ∷ 48 ∷ get_or text (length text - 1) 0 ∷ 48 ∷ []) → AreDigits 10 (word_bytes 8 word) →
    WritesDecimal 0 text ((word - 3472328296227680304) * get_or (0 ∷ 1 ∷ 2814749767106561 ∷ 28147497671720961 ∷ 281475406208040961 ∷ []) (length text) 0 % 18446744073709551616 / 2 ^ 48)
few_write [] word some few below is digits = absurd (omega arith)
few_write (a ∷ []) word some few below is digits =
    let each = lanes word a a a a (below 0) (below 0) (below 0) (below 0) is digits in
    record {
      digits = digits_from_ascii 10 ((a + 0) ∷ []) (omega arith) (plus_none a each.0, tt);
      worth = omega (arith, is, each.0.0, each.0.1);
    }
few_write (a ∷ b ∷ []) word some few below is digits =
    let each = lanes word a a b b (below 0) (below 0) (below 1) (below 1) is digits in
    record {
      digits = digits_from_ascii 10 ((a + 0) ∷ b ∷ []) (omega arith) (plus_none a each.0, (each.1.1.0, tt));
      worth = omega (arith, is, each.0.0, each.0.1, each.1.1.0.0, each.1.1.0.1);
    }
few_write (a ∷ b ∷ c ∷ []) word some few below is digits =
    let each = lanes word a a b c (below 0) (below 0) (below 1) (below 2) is digits in
    record {
      digits = digits_from_ascii 10 ((a + 0) ∷ b ∷ c ∷ []) (omega arith) (plus_none a each.0, (each.1.1.0, (each.1.1.1, tt)));
      worth = omega (arith, is, each.0.0, each.0.1, each.1.1.0.0, each.1.1.0.1, each.1.1.1.0, each.1.1.1.1);
    }
few_write (a ∷ b ∷ c ∷ d ∷ []) word some few below is digits =
    let each = lanes word a b c d (below 0) (below 1) (below 2) (below 3) is digits in
    record {
      digits = digits_from_ascii 10 ((a + 0) ∷ b ∷ c ∷ d ∷ []) (omega arith) (plus_none a each.0, (each.1.0, (each.1.1.0, (each.1.1.1, tt))));
      worth = omega (arith, is, each.0.0, each.0.1, each.1.0.0, each.1.0.1, each.1.1.0.0, each.1.1.0.1, each.1.1.1.0, each.1.1.1.1);
    }
few_write (a ∷ b ∷ c ∷ d ∷ e ∷ rest) word some few below is digits = absurd (omega arith)

-- ---- seventeen bytes and more
