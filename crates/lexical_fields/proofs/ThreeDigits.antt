-- Up to twelve digits in lanes, three by three: what the shuffle leaves, and what the products add up to.
use Rattle.std.proofs.Common.{◌≡◌, ℕ, zero, suc, ◌+◌, ◌-◌, ◌*◌, ◌%◌, ◌^◌, ◌<◌, ◌≤◌, List, [], ◌∷◌, ◌++◌, Bool, true, false, length, get_or, map, take, replicate, refl, ap, ap₂, sym, subst, ◌∙◌, arith, rules, w8, length-append, length-take-le}
use lib.Dec.{T, leb, ltb, ltb→lt}
use lib.Lanes.{Each1, all_below, dots, mask_l, pair_sums}
use mir.ValLaws.{and_both}
use Rattle.std.proofs.Math.Nat.{pow-suc}
use Rattle.std.proofs.lemmas.Simd.{swz_l}
use Rattle.lexical_digits.specs.Lanes.{pairs_of}
use Rattle.std.specs.Prelude.{◌==◌, IsTrue}
use Rattle.std.proofs.lemmas.Bool.{eqb-true}
use Rattle.std.proofs.lemmas.Bool.Decides.{nat_tests}
use Rattle.std.proofs.lemmas.List.{length-map, length-replicate, take-map}
use Rattle.lexical_digits.specs.Value.{positional_value}
use Rattle.lexical_digits.specs.Words.{AreDigits, word_value}
use Rattle.lexical_digits.specs.WrittenNumbers.{WritesDecimal}
use Rattle.lexical_digits.proofs.AsciiDigits.{AreAsciiDigits, digits_from_ascii}
use Rattle.lexical_digits.proofs.WordsOfDigits.{AllBytes, raised_none}
use Rattle.lexical_fields.specs.Threes.{in_threes, lowered, weights}
use Rattle.lexical_fields.specs.declared.threes.TheConstants.{PLACES}

-- sums of four products are small
pub sums_below : (xs : List ℕ) → T (all_below 32768 xs) → Each1 (λ t. t < 65536) (pair_sums xs)
sums_below [] h = tt
sums_below (x ∷ []) h = tt
sums_below (x ∷ y ∷ xs) h =
    let first = and_both (ltb x 32768) (all_below 32768 (y ∷ xs)) h in
    let second = and_both (ltb y 32768) (all_below 32768 xs) first.1 in
    let low : x < 32768 = ltb→lt x 32768 first.0 in
    let high : y < 32768 = ltb→lt y 32768 second.0 in
    (omega arith, sums_below xs second.1)

-- a mask with each bit set
pub all_set : (ms : List Bool) → mask_l ms + 1 ≡ 2 ^ length ms → Each1 (λ m. m ≡ true) ms
all_set [] full = tt
all_set (true ∷ ms) full = let more = pow-suc 2 (length ms) in (refl, all_set ms (omega (arith, full, more)))
all_set (false ∷ ms) full = let more = pow-suc 2 (length ms) in absurd (omega (arith, full, more))

-- what is true of twelve elements and more, by their names
of_twelve : (P : List ℕ → Type 0)
    → ((a b c d e f g h i j k l : ℕ) (rest : List ℕ) → P (a ∷ b ∷ c ∷ d ∷ e ∷ f ∷ g ∷ h ∷ i ∷ j ∷ k ∷ l ∷ rest))
    → (xs : List ℕ) → 12 ≤ length xs → P xs
of_twelve P p [] long = absurd (omega arith)
of_twelve P p (a ∷ []) long = absurd (omega arith)
of_twelve P p (a ∷ b ∷ []) long = absurd (omega arith)
of_twelve P p (a ∷ b ∷ c ∷ []) long = absurd (omega arith)
of_twelve P p (a ∷ b ∷ c ∷ d ∷ []) long = absurd (omega arith)
of_twelve P p (a ∷ b ∷ c ∷ d ∷ e ∷ []) long = absurd (omega arith)
of_twelve P p (a ∷ b ∷ c ∷ d ∷ e ∷ f ∷ []) long = absurd (omega arith)
of_twelve P p (a ∷ b ∷ c ∷ d ∷ e ∷ f ∷ g ∷ []) long = absurd (omega arith)
of_twelve P p (a ∷ b ∷ c ∷ d ∷ e ∷ f ∷ g ∷ h ∷ []) long = absurd (omega arith)
of_twelve P p (a ∷ b ∷ c ∷ d ∷ e ∷ f ∷ g ∷ h ∷ i ∷ []) long = absurd (omega arith)
of_twelve P p (a ∷ b ∷ c ∷ d ∷ e ∷ f ∷ g ∷ h ∷ i ∷ j ∷ []) long = absurd (omega arith)
of_twelve P p (a ∷ b ∷ c ∷ d ∷ e ∷ f ∷ g ∷ h ∷ i ∷ j ∷ k ∷ []) long = absurd (omega arith)
of_twelve P p (a ∷ b ∷ c ∷ d ∷ e ∷ f ∷ g ∷ h ∷ i ∷ j ∷ k ∷ l ∷ rest) long = p a b c d e f g h i j k l rest

-- each row of the table, by computing
abbrev IsShuffled : ℕ → List ℕ → List ℕ → Type 0
IsShuffled n other xs = swz_l w8 16 xs 0 (get_or PLACES n other) ≡ in_threes (replicate (12 - n) 0 ++ take n xs)

shuffled : (n : ℕ) (other xs : List ℕ) → n ≤ 12 → 12 ≤ length xs → IsShuffled n other xs
shuffled zero other xs few long =
    of_twelve (IsShuffled 0 other) (λ a b c d e f g h i j k l rest. refl) xs long
shuffled (suc zero) other xs few long =
    of_twelve (IsShuffled 1 other) (λ a b c d e f g h i j k l rest. refl) xs long
shuffled (suc (suc zero)) other xs few long =
    of_twelve (IsShuffled 2 other) (λ a b c d e f g h i j k l rest. refl) xs long
shuffled (suc (suc (suc zero))) other xs few long =
    of_twelve (IsShuffled 3 other) (λ a b c d e f g h i j k l rest. refl) xs long
shuffled (suc (suc (suc (suc zero)))) other xs few long =
    of_twelve (IsShuffled 4 other) (λ a b c d e f g h i j k l rest. refl) xs long
shuffled (suc (suc (suc (suc (suc zero))))) other xs few long =
    of_twelve (IsShuffled 5 other) (λ a b c d e f g h i j k l rest. refl) xs long
shuffled (suc (suc (suc (suc (suc (suc zero)))))) other xs few long =
    of_twelve (IsShuffled 6 other) (λ a b c d e f g h i j k l rest. refl) xs long
shuffled (suc (suc (suc (suc (suc (suc (suc zero))))))) other xs few long =
    of_twelve (IsShuffled 7 other) (λ a b c d e f g h i j k l rest. refl) xs long
shuffled (suc (suc (suc (suc (suc (suc (suc (suc zero)))))))) other xs few long =
    of_twelve (IsShuffled 8 other) (λ a b c d e f g h i j k l rest. refl) xs long
shuffled (suc (suc (suc (suc (suc (suc (suc (suc (suc zero))))))))) other xs few long =
    of_twelve (IsShuffled 9 other) (λ a b c d e f g h i j k l rest. refl) xs long
shuffled (suc (suc (suc (suc (suc (suc (suc (suc (suc (suc zero)))))))))) other xs few long =
    of_twelve (IsShuffled 10 other) (λ a b c d e f g h i j k l rest. refl) xs long
shuffled (suc (suc (suc (suc (suc (suc (suc (suc (suc (suc (suc zero))))))))))) other xs few long =
    of_twelve (IsShuffled 11 other) (λ a b c d e f g h i j k l rest. refl) xs long
shuffled (suc (suc (suc (suc (suc (suc (suc (suc (suc (suc (suc (suc zero)))))))))))) other xs few long =
    of_twelve (IsShuffled 12 other) (λ a b c d e f g h i j k l rest. refl) xs long
shuffled (suc (suc (suc (suc (suc (suc (suc (suc (suc (suc (suc (suc (suc n))))))))))))) other xs few long = absurd
    (omega arith)

-- twelve digits in threes, joined in threes and these in pairs, are the halves of their number
pub record AreHalves (digits pairs : List ℕ) : Type 0 where
  pub worth : get_or pairs 0 0 * 1000000 + get_or pairs 1 0 ≡ positional_value 10 digits
  pub high : get_or pairs 0 0 < 1000000
  pub low : get_or pairs 1 0 < 1000000

abbrev HasHalves : List ℕ → Type 0
HasHalves ys =
    length ys ≡ 12 → Each1 (λ d. d < 10) (in_threes ys) → AreHalves ys (pairs_of 1000 (dots (in_threes ys) weights))

pub halves : (ys : List ℕ) → 12 ≤ length ys → HasHalves ys
halves ys long = of_twelve HasHalves named ys long
  where
    named : (a b c d e f g h i j k l : ℕ) (rest : List ℕ)
        → HasHalves (a ∷ b ∷ c ∷ d ∷ e ∷ f ∷ g ∷ h ∷ i ∷ j ∷ k ∷ l ∷ rest)
    named a b c d e f g h i j k l [] twelve small =
        let sa : a < 10 = small.0 in
        let sb : b < 10 = small.1.0 in
        let sc : c < 10 = small.1.1.0 in
        let sd : d < 10 = small.1.1.1.1.0 in
        let se : e < 10 = small.1.1.1.1.1.0 in
        let sf : f < 10 = small.1.1.1.1.1.1.0 in
        let sg : g < 10 = small.1.1.1.1.1.1.1.1.0 in
        let sh : h < 10 = small.1.1.1.1.1.1.1.1.1.0 in
        let si : i < 10 = small.1.1.1.1.1.1.1.1.1.1.0 in
        let sj : j < 10 = small.1.1.1.1.1.1.1.1.1.1.1.1.0 in
        let sk : k < 10 = small.1.1.1.1.1.1.1.1.1.1.1.1.1.0 in
        let sl : l < 10 = small.1.1.1.1.1.1.1.1.1.1.1.1.1.1.0 in
        record { worth = omega arith; high = omega arith; low = omega arith }
    named a b c d e f g h i j k l (x ∷ rest) twelve small = absurd (omega arith)

-- ---- the digits of a text

taken_lowered : (n : ℕ) (text : List ℕ) → n ≤ 12 → take n (map lowered (take 16 text)) ≡ map lowered (take n text)
taken_lowered n text few = take-map lowered n (take 16 text) ∙ ap (map lowered) (taken n 16 text (omega arith))
  where
    taken : (n m : ℕ) (xs : List ℕ) → n ≤ m → take n (take m xs) ≡ take n xs
    taken zero m xs few = refl
    taken (suc n) zero xs few = absurd (omega arith)
    taken (suc n) (suc m) [] few = refl
    taken (suc n) (suc m) (x ∷ xs) few = ap (λ l. x ∷ l) (taken n m xs (omega arith))

-- the first `n` bytes of a text, in threes behind zeros
pub text_shuffled : (n : ℕ) (other lanes text : List ℕ) → n ≤ 12 → 16 ≤ length text → lanes ≡ map lowered (take 16 text)
    → swz_l w8 16 lanes 0 (get_or PLACES n other) ≡ in_threes (replicate (12 - n) 0 ++ map lowered (take n text))
text_shuffled n other lanes text few room is =
    let size : length lanes ≡ 16 =
    ap length is ∙ length-map (take 16 text) lowered ∙ length-take-le 16 text room in
    shuffled n other lanes few (omega (arith, size))
    ∙ ap (λ l. in_threes (replicate (12 - n) 0 ++ l)) (ap (take n) is ∙ taken_lowered n text few)

-- lanes of which a mask has each bit
pub lanes_small : (lanes : List ℕ) (mask : ℕ) → length lanes ≡ 16 → mask ≡ mask_l (map (λ x. leb x 9) lanes)
    → IsTrue (mask == 65535) → Each1 (λ lane. lane < 10) lanes
lanes_small lanes mask long is full =
    let whole : mask ≡ 65535 = eqb-true mask 65535 (search rules) in
    let size : length (map (λ x. leb x 9) lanes) ≡ 16 = length-map lanes (λ x. leb x 9) ∙ long in
    let power : 2 ^ length (map (λ x. leb x 9) lanes) ≡ 65536 = ap (λ n. 2 ^ n) size in
    each lanes (all_set (map (λ x. leb x 9) lanes) (omega (arith, is, whole, power)))
  where
    each : (lanes : List ℕ) → Each1 (λ m. m ≡ true) (map (λ x. leb x 9) lanes) → Each1 (λ lane. lane < 10) lanes
    each [] set = tt
    each (x ∷ xs) set = (below x set.0, each xs set.1)
      where
        below : (x : ℕ) → leb x 9 ≡ true → x < 10
        below x e = grind (arith, nat_tests)

-- zeros in front add nothing
pub behind_zeros : (k : ℕ) (ds : List ℕ) → positional_value 10 (replicate k 0 ++ ds) ≡ positional_value 10 ds
behind_zeros zero ds = refl
behind_zeros (suc k) ds = omega (arith, behind_zeros k ds)

-- digits that were put in threes
small_in_threes : (n : ℕ) (ys : List ℕ) → length ys ≡ 3 * n → Each1 (λ d. d < 10) (in_threes ys) → Each1 (λ d. d <
    10) ys
small_in_threes n [] long small = tt
small_in_threes n (a ∷ []) long small = absurd (omega arith)
small_in_threes n (a ∷ b ∷ []) long small = absurd (omega arith)
small_in_threes n (a ∷ b ∷ c ∷ more) long small =
    (small.0, (small.1.0, (small.1.1.0, small_in_threes (n - 1) more (omega arith) small.1.1.1.1)))

small_behind : (k : ℕ) (ds : List ℕ) → Each1 (λ d. d < 10) (replicate k 0 ++ ds) → Each1 (λ d. d < 10) ds
small_behind zero ds small = small
small_behind (suc k) ds small = small_behind k ds small.1

-- bytes that are digits once `0` is taken from them
pub bytes_digits : (bytes : List ℕ) → AllBytes bytes → Each1 (λ d. d < 10) (map lowered bytes) → AreAsciiDigits 10 bytes
bytes_digits [] all small = tt
bytes_digits (b ∷ bs) all small =
    let byte = all.0 in
    let digit : (b + 208) % 256 < 10 = small.0 in
    ((omega arith, omega arith), bytes_digits bs all.1 small.1)

pub lowered_digits : (bytes : List ℕ) → AreAsciiDigits 10 bytes → map lowered bytes ≡ map (λ byte. byte - 48) bytes
lowered_digits [] digits = refl
lowered_digits (b ∷ bs) digits =
    let low = digits.0.0 in
    let high = digits.0.1 in
    let same : (b + 208) % 256 ≡ b - 48 = omega arith in
    ap₂ (λ d ds. d ∷ ds) same (lowered_digits bs digits.1)

-- what the halves of a text's digits are
pub record WritesHalves (bytes pairs : List ℕ) : Type 0 where
  pub writes : WritesDecimal 0 bytes (get_or pairs 0 0 * 1000000 + get_or pairs 1 0)
  pub high : get_or pairs 0 0 < 1000000
  pub low : get_or pairs 1 0 < 1000000

pub text_halves : (bytes digits threes pairs : List ℕ) → length bytes ≤ 12 → AllBytes bytes
    → digits ≡ in_threes (replicate (12 - length bytes) 0 ++ map lowered bytes) → Each1 (λ d. d < 10) digits
    → threes ≡ dots digits weights → pairs ≡ pairs_of 1000 threes → WritesHalves bytes pairs
text_halves bytes digits threes pairs few all is_digits small is_threes is_pairs =
    let k : ℕ = 12 - length bytes in
    let ys : List ℕ = replicate k 0 ++ map lowered bytes in
    let twelve : length ys ≡ 12 =
    length-append (replicate k 0) (map lowered bytes)
    ∙ omega (arith, length-replicate {A = ℕ} k 0, length-map bytes lowered, few) in
    let each : Each1 (λ d. d < 10) (in_threes ys) = subst (Each1 (λ d. d < 10)) is_digits small in
    let same : pairs ≡ pairs_of 1000 (dots (in_threes ys) weights) =
    is_pairs ∙ ap (pairs_of 1000) (is_threes ∙ ap (λ l. dots l weights) is_digits) in
    let h : AreHalves ys pairs = subst (AreHalves ys) (sym same) (halves ys (omega (arith, twelve)) twelve each) in
    let ascii = bytes_digits bytes all (small_behind k (map lowered bytes) (small_in_threes 4 ys twelve each)) in
    let none = raised_none bytes in
    let value : positional_value 10 ys ≡ word_value 10 bytes =
    behind_zeros k (map lowered bytes) ∙ ap (positional_value 10) (lowered_digits bytes ascii) in
    record {
      writes = record {
        digits = subst (AreDigits 10) (sym none) (digits_from_ascii 10 bytes (omega arith) ascii);
        worth = h.worth ∙ value ∙ ap (word_value 10) (sym none);
      };
      high = h.high;
      low = h.low;
    }
