-- What one look tells of where cells end: the marks of two bytes, and which of them stand outside quotes.
use Rattle.std.proofs.Common.{◌≡◌, ◌≢◌, ◌∙◌, ℕ, suc, ◌+◌, ◌-◌, ◌*◌, ◌%◌, ◌^◌, ◌==◌, ◌<◌, ◌≤◌, not, List, length, take, map, replicate, get_or, Bool, true, false, cond, min, eqb, refl, ap, ap₂, sym, arith}
use Rattle.std.specs.Prelude.{◌&&◌, ◌||◌}
use Rattle.std.specs.Int.{bit_at}
use Rattle.std.specs.Int.Bits.{bit_and, bit_or}
use Rattle.std.specs.Simd.Lanes.{zip2, mask_l, top}
use Rattle.std.proofs.lemmas.Bool.{ne_eqb}
use Rattle.std.proofs.lemmas.List.{get_or-map, get_or-replicate, get_or-take, length-map, length-replicate, take-take}
use Rattle.std.proofs.lemmas.Nat.Bits.{bit_at-lt, bit_at-zero, bit_at_and, bit_at_ones, bit_at_ones_above}
use Rattle.std.proofs.Math.Pow.{pow-lt}
use Rattle.std.proofs.lemmas.Simd.{bit_mask_l, get_or-zip2, length-zip2, mask_l-mod}
use Rattle.lexical_tables.specs.Ends.{is_end}
use Rattle.lexical_tables.specs.Quotes.{has_odd_quotes, hidden, quote, seen}
use Rattle.lexical_tables.specs.Rows.{line_feed}
use Rattle.lexical_tables.proofs.Passed.{hidden_at}
use Rattle.lexical_tables.proofs.SeenBytes.{seen_take}

-- ---- two bytes at once

module _ (n : ℕ) (v : List ℕ) (long : length v ≡ n) where
  -- the lanes that are equal to a byte
  abbrev lanes : ℕ → List ℕ
  lanes b = zip2 (λ x y. cond (eqb x y) 255 0) v (replicate n b)

  -- there are as many as bytes
  lanes_long : (b : ℕ) → length (lanes b) ≡ n
  lanes_long b = length-zip2 (λ x y. cond (eqb x y) 255 0) v (replicate n b) (omega (arith, long, length-replicate n b)) ∙ long

  -- each holds 255 or nothing
  lane_is : (b k : ℕ) → k < n → get_or (lanes b) k 0 ≡ cond (eqb (get_or v k 0) b) 255 0
  lane_is b k low =
      get_or-zip2 (λ x y. cond (eqb x y) 255 0) v (replicate n b) k 0 0 0 (omega (arith, long, low))
      (omega (arith, length-replicate n b, low))
      ∙ ap (λ y. cond (eqb (get_or v k 0) y) 255 0) (get_or-replicate n k b 0 low)

  -- a bit is set where one of the two is equal
  pub bit_of_two : n ≤ 64 → (a b k : ℕ) → k < n
      → bit_at (mask_l (map (top 7) (zip2 bit_or (lanes a) (lanes b))) % 2 ^ 64) k
      ≡ cond ((get_or v k 0 == a) || (get_or v k 0 == b)) 1 0
  bit_of_two few a b k low =
      let all = zip2 bit_or (lanes a) (lanes b) in
      let all_long : length all ≡ n =
      length-zip2 bit_or (lanes a) (lanes b) (lanes_long a ∙ sym (lanes_long b)) ∙ lanes_long a in
      ap (λ m. bit_at m k) (mask_l-mod (map (top 7) all) 64 (omega (arith, few, all_long, length-map all (top 7))))
      ∙ bit_mask_l (map (top 7) all) k
      ∙ ap (λ t. cond t 1 0) (get_or-map (top 7) all k 0 false (omega (arith, all_long, low))
      ∙ ap (top 7) (get_or-zip2 bit_or (lanes a) (lanes b) k 0 0 0 (omega (arith, lanes_long a, low))
      (omega (arith, lanes_long b, low)) ∙ ap₂ bit_or (lane_is a k low) (lane_is b k low))
      ∙ tops (eqb (get_or v k 0) a) (eqb (get_or v k 0) b))
    where
      tops : (t u : Bool) → top 7 (bit_or (cond t 255 0) (cond u 255 0)) ≡ (t || u)
      tops true true = refl
      tops true false = refl
      tops false true = refl
      tops false false = refl

-- ---- what an end is where quotes have a meaning

-- a byte within quotes is none that is sought
never : (s : ℕ) → (suc s == s) ≡ false
never s = ne_eqb (suc s) s (λ same. omega (arith, same))

-- an end stands outside quotes, and is one of the two
quoted_end : (s : ℕ) (text : List ℕ) → s ≢ quote → (k : ℕ) → k < length text → is_end true s text k
    ≡ cond (has_odd_quotes (take k text)) false ((get_or text k 0 == s) || (get_or text k 0 == line_feed))
quoted_end s text apart k low =
    ap (λ t. (get_or (cond (not t) (hidden s text) text) k 0 == s) || (get_or (hidden line_feed text) k 0 == line_feed))
    (ne_eqb s quote apart)
    ∙ ap₂ (λ x y. (x == s) || (y == line_feed)) (hidden_at s text k low) (hidden_at line_feed text k low)
    ∙ by_odd (has_odd_quotes (take k text)) (get_or text k 0)
  where
    by_odd : (w : Bool) (x : ℕ) → ((cond w (suc s) x == s) || (cond w (suc line_feed) x == line_feed))
        ≡ cond w false ((x == s) || (x == line_feed))
    by_odd true x = ap (λ t. t || (suc line_feed == line_feed)) (never s)
    by_odd false x = refl

-- in front of a text no quote is odd
pub none_within : (q : Bool) (text : List ℕ) → false ≡ (q && has_odd_quotes (take 0 text))
none_within true text = refl
none_within false text = refl

-- where quotes have a meaning, the marks of two bytes that stand outside quotes are those of the ends
module _ (q : Bool) (s : ℕ) (text : List ℕ) (quoted : q ≡ true) (apart : s ≢ quote) (place k ends : ℕ)
    (low : place + k < length text)
    (is : bit_at ends k ≡ cond ((get_or text (place + k) 0 == s) || (get_or text (place + k) 0 == line_feed)) 1 0) where
  found_as : (found : ℕ) → bit_at found k ≡ cond (cond (has_odd_quotes (take (place + k) text)) false
      ((get_or text (place + k) 0 == s) || (get_or text (place + k) 0 == line_feed))) 1 0
      → bit_at found k ≡ cond (is_end q s text (place + k)) 1 0
  found_as found same =
      same ∙ ap (λ t. cond {A = ℕ} t 1 0) (sym (quoted_end s text apart (place + k) low))
      ∙ ap (λ t. cond {A = ℕ} (is_end t s text (place + k)) 1 0) (sym quoted)

  -- by the places outside quotes
  pub outside_end : (outside : ℕ) → bit_at outside k ≡ cond (has_odd_quotes (take (place + k) text)) 0 1
      → bit_at (bit_and ends outside) k ≡ cond (is_end q s text (place + k)) 1 0
  outside_end outside other =
      found_as (bit_and ends outside) (bit_at_and ends outside k ∙ ap₂ min is other
      ∙ by_both (has_odd_quotes (take (place + k) text))
      ((get_or text (place + k) 0 == s) || (get_or text (place + k) 0 == line_feed)))
    where
      by_both : (h t : Bool) → min (cond t 1 0) (cond h 0 1) ≡ cond {A = ℕ} (cond h false t) 1 0
      by_both true true = refl
      by_both true false = refl
      by_both false true = refl
      by_both false false = refl

  -- and where no quote is among the bytes
  pub alike_end : (w : Bool) (found : ℕ) → has_odd_quotes (take (place + k) text) ≡ w → (w ≡ true → found ≡ 0)
      → (w ≡ false → found ≡ ends) → bit_at found k ≡ cond (is_end q s text (place + k)) 1 0
  alike_end w found alike inner outer =
      found_as found (by_within w inner outer
      ∙ ap (λ h. cond {A = ℕ} (cond h false ((get_or text (place + k) 0 == s) || (get_or text (place + k) 0 == line_feed))) 1 0)
      (sym alike))
    where
      by_within : (w : Bool) → (w ≡ true → found ≡ 0) → (w ≡ false → found ≡ ends) → bit_at found k
          ≡ cond (cond w false ((get_or text (place + k) 0 == s) || (get_or text (place + k) 0 == line_feed))) 1 0
      by_within true inner outer = ap (λ m. bit_at m k) (inner refl) ∙ bit_at-zero k
      by_within false inner outer = ap (λ m. bit_at m k) (outer refl) ∙ is

-- ---- a look at a copy of the first bytes

-- the first bytes tell of the ends among them
pub same_end : (q : Bool) (s : ℕ) (bytes text : List ℕ) (n k : ℕ) → take n bytes ≡ take n text → k < n
    → is_end q s bytes k ≡ is_end q s text k
same_end q s bytes text n k same low = ap₂ (λ x y. (x == s) || (y == line_feed)) (at s) (at line_feed)
  where
    at : (sought : ℕ) → get_or (seen q sought bytes) k 0 ≡ get_or (seen q sought text) k 0
    at sought =
        sym (get_or-take n (seen q sought bytes) k 0 low)
        ∙ ap (λ l. get_or l k 0) (sym (seen_take q sought n bytes) ∙ ap (seen q sought) same ∙ seen_take q sought n text)
        ∙ get_or-take n (seen q sought text) k 0 low

-- fewer bytes are the same where more are
pub fewer_same : (bytes text : List ℕ) (m n : ℕ) → take n bytes ≡ take n text → m ≤ n → take m bytes ≡ take m text
fewer_same bytes text m n same low = sym (take-take m n bytes low) ∙ ap (take m) same ∙ take-take m n text low

-- the marks below a place
abbrev pub marks_below : ℕ → ℕ → ℕ
marks_below n marks = bit_and marks (1 * 2 ^ n % 2 ^ 64 - 1)

ones : (n : ℕ) → n < 64 → 1 * 2 ^ n % 2 ^ 64 - 1 ≡ 2 ^ n - 1
ones n few = ap (λ m. m - 1) (small (2 ^ n) (pow-lt few))
  where
    small : (m : ℕ) → m < 18446744073709551616 → 1 * m % 18446744073709551616 ≡ m
    small m low = omega (arith, low)

-- are those that were there
pub low_mark : (marks n k : ℕ) → n < 64 → k < n → bit_at (marks_below n marks) k ≡ bit_at marks k
low_mark marks n k few low =
    ap (λ m. bit_at (bit_and marks m) k) (ones n few) ∙ bit_at_and marks (2 ^ n - 1) k
    ∙ ap (min (bit_at marks k)) (bit_at_ones n k low) ∙ bit (bit_at marks k) (bit_at-lt marks k)
  where
    bit : (b : ℕ) → b < 2 → min b 1 ≡ b
    bit b small = omega (arith, small)

-- and no other
pub no_mark : (marks n k : ℕ) → n < 64 → n ≤ k → bit_at (marks_below n marks) k ≡ 0
no_mark marks n k few high =
    ap (λ m. bit_at (bit_and marks m) k) (ones n few) ∙ bit_at_and marks (2 ^ n - 1) k
    ∙ ap (min (bit_at marks k)) (bit_at_ones_above n k high) ∙ none (bit_at marks k)
  where
    none : (b : ℕ) → min b 0 ≡ 0
    none b = omega arith
