-- The kinds of sixteen bytes by their halves, and how many stand in front: for `lanes`.
use Rattle.std.proofs.Common.{◌≡◌, ◌≢◌, ℕ, zero, suc, ◌+◌, ◌-◌, ◌*◌, ◌/◌, ◌^◌, ◌%◌, ◌<◌, ◌≤◌, Bool, true, false, not, cond, eqb, List, [], ◌∷◌, map, length, get_or, replicate, take, drop, length-drop, bit_and, refl, sym, ap, ap₂, ◌∙◌, arith, w8, Fits}
use Rattle.std.proofs.lemmas.Bool.{agree_below_at, ne_eqb}
use Rattle.std.proofs.lemmas.List.Sums.{prefix_len-le-length}
use Rattle.std.proofs.lemmas.List.{drop-drop, get_or-map, length-map, ext_get_or, take_all}
use Rattle.std.proofs.lemmas.Nat.{and_le_r}
use Rattle.std.proofs.lemmas.Simd.{Each1-all, Each1-weaker, Each1-zip2, Each2-splat, below_from_Fits, bitmask_splat, first_set_mask_l, get_or-swz_l_below, length-swz_l, length-zip2, swz_l, SwzOk, SwzOk-from_below, zip2_of_maps}
use Rattle.std.specs.List.{prefix_len}
use lib.Count.{count_trailing_zeros}
use lib.Lanes.{Each1, mask_l, top, zip2}
use Rattle.lexical_literals.specs.Kinds.{by_lower, skipped_by_upper, word_by_upper}
use Rattle.lexical_literals.specs.Tokens.{is_skipped, is_word_byte}

-- sixteen bytes
abbrev pub IsBlock : List ℕ → Type 0
IsBlock v = (length v ≡ 16) × Each1 (Fits w8) v

lane_fits : (v : List ℕ) (i : ℕ) → Each1 (Fits w8) v → get_or v i 0 < 256
lane_fits [] i h = omega arith
lane_fits (x ∷ xs) zero h = h.0.fits
lane_fits (x ∷ xs) (suc i) h = lane_fits xs i h.1

-- ---- look-ups by halves

abbrev pub down : ℕ → ℕ → ℕ
down a b = a / 2 ^ b

pub upper_ok : (v : List ℕ) → IsBlock v → SwzOk w8 16 16 0 (zip2 down v (replicate 16 4))
upper_ok v fits =
    let small = Each1-weaker (λ a. a < 256) (λ a. a / 16 < 16) (λ a h. omega arith) v (below_from_Fits w8 v fits.1) in
    SwzOk-from_below w8 16 1 16 0 (zip2 down v (replicate 16 4)) refl (omega (arith, length-zip2 down v (replicate 16 4) fits.0))
    (Each1-zip2 down (λ j. j < 16) v (replicate 16 4) (Each2-splat (λ a b. down a b < 16) v 16 4 small))

pub lower_ok : (v : List ℕ) → IsBlock v → SwzOk w8 16 16 0 (zip2 bit_and v (replicate 16 15))
lower_ok v fits =
    let small = Each1-all (λ a. bit_and a 15 < 16) (λ a. omega (arith, and_le_r a 15)) v in
    SwzOk-from_below w8 16 1 16 0 (zip2 bit_and v (replicate 16 15)) refl (omega (arith, length-zip2 bit_and v (replicate 16 15) fits.0))
    (Each1-zip2 bit_and (λ j. j < 16) v (replicate 16 15) (Each2-splat (λ a b. bit_and a b < 16) v 16 15 small))

-- a table read at places g x below 16
pub looked_up : (t : List ℕ) (g : ℕ → ℕ) (v js : List ℕ) → IsBlock v → js ≡ map g v → ((x : ℕ) → x < 256 → g x < 16)
    → swz_l w8 16 t 0 js ≡ map (λ x. get_or t (g x) 0) v
looked_up t g v js fits e small =
    let long : length js ≡ 16 = ap length e ∙ length-map v g ∙ fits.0 in
    ext_get_or 0 _ _ (length-swz_l w8 16 t 0 js ∙ long ∙ sym (length-map v (λ x. get_or t (g x) 0) ∙ fits.0)) (λ i h.
    let lt : i < 16 = omega (arith, length-swz_l w8 16 t 0 js) in
    let within : i < length v = omega (arith, fits.0) in
    let is : get_or js i 0 ≡ g (get_or v i 0) = ap (λ l. get_or l i 0) e ∙ get_or-map g v i 0 0 within in
    let below : get_or js i 0 < 16 = omega (arith, small (get_or v i 0) (lane_fits v i fits.1)) in
    let first : 16 * ((0 + i) / 16) + get_or js i 0 ≡ get_or js i 0 = omega arith in
    get_or-swz_l_below w8 16 t 0 js i (omega arith) below
    ∙ ap (λ k. get_or t k 0) (first ∙ is) ∙ sym (get_or-map (λ x. get_or t (g x) 0) v i 0 0 within))

-- ---- each of the 256 bytes, by computing

abbrev pub word_class : ℕ → ℕ
word_class byte = bit_and (by_lower byte) (word_by_upper byte)

abbrev pub skipped_class : ℕ → ℕ
skipped_class byte = bit_and (by_lower byte) (skipped_by_upper byte)

word_by_halves : (byte : ℕ) → byte < 256 → not (eqb (word_class byte) 0) ≡ is_word_byte byte
word_by_halves byte low = agree_below_at (λ k. not (eqb (word_class k) 0)) is_word_byte 256 byte refl low

skipped_by_halves : (byte : ℕ) → byte < 256 → not (eqb (skipped_class byte) 0) ≡ is_skipped byte
skipped_by_halves byte low = agree_below_at (λ k. not (eqb (skipped_class k) 0)) is_skipped 256 byte refl low

-- ---- how many stand in front

prefix_same : (p q : ℕ → Bool) → ((b : ℕ) → b < 256 → p b ≡ q b) → (v : List ℕ)
    → ((k : ℕ) → get_or v k 0 < 256) → prefix_len p v ≡ prefix_len q v
prefix_same p q same [] fits = refl
prefix_same p q same (b ∷ bs) fits =
    ap₂ (λ t n. cond t (1 + n) 0) (same b (fits 0)) (prefix_same p q same bs (λ k. fits (suc k)))

-- the mask of the lanes that are 0
abbrev pub zeros : List ℕ → ℕ
zeros xs = mask_l (map (top 7) (zip2 (λ x y. cond (eqb x y) 255 0) xs (replicate 16 0))) % 2 ^ 64

zeros_tell : (xs : List ℕ) → length xs ≡ 16
    → cond (eqb (zeros xs) 0) 16 (count_trailing_zeros 64 (zeros xs)) ≡ prefix_len (λ x. not (eqb x 0)) xs
zeros_tell xs long =
    ap (λ m. cond (eqb m 0) 16 (count_trailing_zeros 64 m)) (bitmask_splat w8 eqb xs 16 0 long (omega arith))
    ∙ first_set_mask_l (λ x. eqb x 0) xs 16 long (omega arith)

pub no_zero : (xs : List ℕ) → length xs ≡ 16 → zeros xs ≡ 0 → 16 ≡ prefix_len (λ x. not (eqb x 0)) xs
no_zero xs long none =
    ap (λ m. cond (eqb m 0) 16 (count_trailing_zeros 64 m)) (sym none) ∙ zeros_tell xs long

pub first_zero : (xs : List ℕ) → length xs ≡ 16 → zeros xs ≢ 0
    → count_trailing_zeros 64 (zeros xs) ≡ prefix_len (λ x. not (eqb x 0)) xs
first_zero xs long some =
    ap (λ t. cond t 16 (count_trailing_zeros 64 (zeros xs))) (sym (ne_eqb (zeros xs) 0 some)) ∙ zeros_tell xs long

pub few_ahead : (xs : List ℕ) → length xs ≡ 16 → prefix_len (λ x. not (eqb x 0)) xs ≤ 16
few_ahead xs long = omega (arith, long, prefix_len-le-length (λ x. not (eqb x 0)) xs)

prefix_mapped : (p : ℕ → Bool) (f : ℕ → ℕ) (v : List ℕ) → prefix_len p (map f v) ≡ prefix_len (λ x. p (f x)) v
prefix_mapped p f [] = refl
prefix_mapped p f (x ∷ xs) = ap (λ n. cond (p (f x)) (1 + n) 0) (prefix_mapped p f xs)

-- the bits that both halves of sixteen bytes have, by what is in the tables for them
module _ (f g : ℕ → ℕ) (v a b : List ℕ) (long : length v ≡ 16) (first : a ≡ map f (take 16 v))
    (second : b ≡ map g (take 16 v)) where
  lanes_are : zip2 bit_and a b ≡ map (λ x. bit_and (f x) (g x)) v
  lanes_are =
      let all : take 16 v ≡ v = take_all 16 v (omega (arith, long)) in
      zip2_of_maps bit_and f g v (first ∙ ap (map f) all) (second ∙ ap (map g) all)

  pub lanes_count : length (zip2 bit_and a b) ≡ 16
  lanes_count = ap length lanes_are ∙ length-map v (λ x. bit_and (f x) (g x)) ∙ long

  lanes_tell : (p : ℕ → Bool) → ((x : ℕ) → x < 256 → not (eqb (bit_and (f x) (g x)) 0) ≡ p x)
      → ((k : ℕ) → get_or v k 0 < 256)
      → prefix_len (λ x. not (eqb x 0)) (zip2 bit_and a b) ≡ prefix_len p v
  lanes_tell p same fits =
      ap (prefix_len (λ x. not (eqb x 0))) lanes_are
      ∙ prefix_mapped (λ x. not (eqb x 0)) (λ x. bit_and (f x) (g x)) v
      ∙ prefix_same (λ x. not (eqb (bit_and (f x) (g x)) 0)) p same v fits

pub words_ahead : (v a b : List ℕ) → length v ≡ 16 → a ≡ map by_lower (take 16 v)
    → b ≡ map word_by_upper (take 16 v) → ((k : ℕ) → get_or v k 0 < 256)
    → prefix_len (λ x. not (eqb x 0)) (zip2 bit_and a b) ≡ prefix_len is_word_byte v
words_ahead v a b long first second fits =
    lanes_tell by_lower word_by_upper v a b long first second is_word_byte word_by_halves fits

pub skipped_ahead : (v a b : List ℕ) → length v ≡ 16 → a ≡ map by_lower (take 16 v)
    → b ≡ map skipped_by_upper (take 16 v) → ((k : ℕ) → get_or v k 0 < 256)
    → prefix_len (λ x. not (eqb x 0)) (zip2 bit_and a b) ≡ prefix_len is_skipped v
skipped_ahead v a b long first second fits =
    lanes_tell by_lower skipped_by_upper v a b long first second is_skipped skipped_by_halves fits

-- ---- how many stand in front of a text, block by block

-- all of the first `n` bytes pass
all_of : (p : ℕ → Bool) (n : ℕ) (v : List ℕ) → n ≤ length v → prefix_len p (take n v) ≡ n
    → prefix_len p v ≡ n + prefix_len p (drop n v)
all_of p zero v few all = omega arith
all_of p (suc n) [] few all = absurd (omega arith)
all_of p (suc n) (x ∷ xs) few all = by_test (p x) refl all (all_of p n xs (omega arith))
  where
    by_test : (t : Bool) → p x ≡ t → cond t (1 + prefix_len p (take n xs)) 0 ≡ suc n
        → (prefix_len p (take n xs) ≡ n → prefix_len p xs ≡ n + prefix_len p (drop n xs))
        → prefix_len p (x ∷ xs) ≡ suc n + prefix_len p (drop n xs)
    by_test true e all more = let rest = more (omega arith) in rw e (omega arith)
    by_test false e all more = absurd (omega arith)

-- not all of them
some_of : (p : ℕ → Bool) (n : ℕ) (v : List ℕ) → n ≤ length v → prefix_len p (take n v) < n
    → prefix_len p v ≡ prefix_len p (take n v)
some_of p zero v few less = absurd (omega arith)
some_of p (suc n) [] few less = refl
some_of p (suc n) (x ∷ xs) few less = by_test (p x) refl less (some_of p n xs (omega arith))
  where
    by_test : (t : Bool) → p x ≡ t → cond t (1 + prefix_len p (take n xs)) 0 < suc n
        → (prefix_len p (take n xs) < n → prefix_len p xs ≡ prefix_len p (take n xs))
        → prefix_len p (x ∷ xs) ≡ prefix_len p (take (suc n) (x ∷ xs))
    by_test true e less more = let rest = more (omega arith) in rw e (ap (λ k. 1 + k) rest)
    by_test false e less more = rw e refl

-- a piece of a text from a place on, of which all bytes pass, or not all
pub piece_passes : (p : ℕ → Bool) (text : List ℕ) (k n c : ℕ) → k + n ≤ length text
    → c ≡ prefix_len p (take n (drop k text)) → c ≡ n → prefix_len p text ≡ k + prefix_len p (drop k text)
    → prefix_len p text ≡ k + n + prefix_len p (drop (k + n) text)
piece_passes p text k n c room told all so_far =
    let more = all_of p n (drop k text) (omega (arith, length-drop k text)) (sym told ∙ all) in
    let joined : drop n (drop k text) ≡ drop (k + n) text = drop-drop n k text in
    omega (arith, so_far, more, ap (prefix_len p) joined)

pub piece_stops : (p : ℕ → Bool) (text : List ℕ) (k n c : ℕ) → k + n ≤ length text
    → c ≡ prefix_len p (take n (drop k text)) → c < n → prefix_len p text ≡ k + prefix_len p (drop k text)
    → k + c ≡ prefix_len p text
piece_stops p text k n c room told less so_far =
    let here = some_of p n (drop k text) (omega (arith, length-drop k text)) (omega (arith, told)) in
    omega (arith, so_far, here, told)

-- the first bytes of a text, of which all pass, or not all
pub front_passes : (p : ℕ → Bool) (text : List ℕ) (n c : ℕ) → n ≤ length text → c ≡ prefix_len p (take n text) → c ≡ n
    → n + prefix_len p (take (length text - n) (drop n text)) ≡ prefix_len p text
front_passes p text n c room told all =
    let rest : take (length text - n) (drop n text) ≡ drop n text =
    take_all (length text - n) (drop n text) (omega (arith, length-drop n text)) in
    ap (λ xs. n + prefix_len p xs) rest ∙ sym (all_of p n text room (sym told ∙ all))

pub front_stops : (p : ℕ → Bool) (text : List ℕ) (n c : ℕ) → n ≤ length text → c ≡ prefix_len p (take n text) → c < n
    → c ≡ prefix_len p text
front_stops p text n c room told less = told ∙ sym (some_of p n text room (omega (arith, told)))
