-- What the marks of quotes and of separators tell of the bytes of a text from a place on.
use Rattle.std.proofs.Common.{◌≡◌, ◌∙◌, ℕ, zero, suc, ◌+◌, ◌-◌, ◌%◌, ◌==◌, ◌<◌, ◌≤◌, List, length, take, get_or, slice_range, get_or-drop, Bool, true, false, not, cond, min, eqb, refl, ap, ap₂, sym, arith}
use Rattle.std.specs.Int.{bit_at}
use Rattle.std.specs.Int.Bits.{bit_and}
use Rattle.std.proofs.lemmas.Bool.{ne_eqb}
use Rattle.std.proofs.lemmas.List.{get_or-take}
use Rattle.std.proofs.lemmas.Nat.Bits.{bit_at-zero, bit_at_and}
use Rattle.std.proofs.Math.Nat.{mod-lt}
use mathlib.Core.Bool.{beq}
use Rattle.lexical_tables.specs.Looks.{bits_below}
use Rattle.lexical_tables.specs.Quotes.{has_odd_quotes, quote, seen_at}
use Rattle.lexical_tables.proofs.QuoteSteps.{next_within}
use Rattle.lexical_tables.proofs.SeenBytes.{odd_by}

-- a byte of some
pub byte_of : (text : List ℕ) (place n k : ℕ) → k < n
    → get_or (slice_range text place (place + n)) k 0 ≡ get_or text (place + k) 0
byte_of text place n k low = get_or-take (place + n - place) _ k 0 (omega arith) ∙ get_or-drop place text k 0

-- `marks` has a bit for each of the n bytes from a place on, set where it is `byte`
abbrev pub AreSeen : ℕ → List ℕ → ℕ → ℕ → ℕ → Type 0
AreSeen byte text place n marks = (k : ℕ) → k < n → bit_at marks k ≡ cond (eqb (get_or text (place + k) 0) byte) 1 0

turn : (t w odd : Bool) → cond t (not (cond w (not odd) odd)) (cond w (not odd) odd)
    ≡ cond w (not (cond t (not odd) odd)) (cond t (not odd) odd)
turn true true true = refl
turn true true false = refl
turn true false true = refl
turn true false false = refl
turn false true true = refl
turn false true false = refl
turn false false true = refl
turn false false false = refl

module _ (text : List ℕ) (place n quotes : ℕ) (w : Bool) (low : place + n ≤ length text)
    (is : w ≡ has_odd_quotes (take place text)) (seen : AreSeen quote text place n quotes) where
  -- whether what is behind some bytes stands within quotes
  pub odd_behind_some : (k : ℕ) → k ≤ n → has_odd_quotes (take (place + k) text)
      ≡ cond w (not (bits_below quotes k % 2 == 1)) (bits_below quotes k % 2 == 1)
  odd_behind_some zero few =
      let same : place + 0 ≡ place = omega arith in
      ap (λ p. has_odd_quotes (take p text)) same ∙ sym is ∙ none w
    where
      none : (w : Bool) → w ≡ cond w true false
      none true = refl
      none false = refl
  odd_behind_some (suc k) few =
      let next : place + suc k ≡ place + k + 1 = omega arith in
      let t = get_or text (place + k) 0 == quote in
      let count = bits_below quotes k in
      let zeros : count + cond t 1 0 ≡ count + (0 + cond t 1 0) = omega arith in
      let more : (bits_below quotes (suc k) % 2 == 1) ≡ cond t (not (count % 2 == 1)) (count % 2 == 1) =
      ap (λ b. (count + b) % 2 == 1) (seen k (omega (arith, few))) ∙ ap (λ m. m % 2 == 1) zeros ∙ odd_by count t in
      ap (λ p. has_odd_quotes (take p text)) next
      ∙ next_within text (place + k) (omega (arith, low, few))
      ∙ ap (λ h. cond t (not h) h) (odd_behind_some k (omega (arith, few)))
      ∙ turn t w (count % 2 == 1)
      ∙ ap (λ o. cond w (not o) o) (sym more)

  before : (odd k : ℕ) → k < n → bit_at odd k ≡ bits_below quotes (k + 1) % 2
      → (bit_at odd k + bit_at quotes k) % 2 ≡ bits_below quotes k % 2
  before odd k few bit =
      let next : k + 1 ≡ suc k = omega arith in
      ap (λ b. (b + bit_at quotes k) % 2) (bit ∙ ap (λ i. bits_below quotes i % 2) next)
      ∙ twice (bits_below quotes k) (bit_at quotes k)
    where
      twice : (a b : ℕ) → ((a + b) % 2 + b) % 2 ≡ a % 2
      twice a b = omega arith

  by_rest : (r : ℕ) → r < 2 → (r ≡ cond (not (r == 1)) 0 1) × (1 - r ≡ cond (r == 1) 0 1)
  by_rest zero small = (refl, refl)
  by_rest (suc zero) small = (refl, refl)
  by_rest (suc (suc r)) small = absurd (no_more r small)
    where
      no_more : (r : ℕ) → suc (suc r) < 2 → ⊥
      no_more r small = omega arith

  -- which bytes stand outside quotes
  pub outside_bit : (odd outside k : ℕ) → k < n → bit_at odd k ≡ bits_below quotes (k + 1) % 2
      → (w ≡ true → bit_at outside k ≡ (bit_at odd k + bit_at quotes k) % 2)
      → (w ≡ false → bit_at outside k ≡ 1 - (bit_at odd k + bit_at quotes k) % 2)
      → bit_at outside k ≡ cond (has_odd_quotes (take (place + k) text)) 0 1
  outside_bit odd outside k few bit inner outer =
      by_within w refl inner outer ∙ ap (λ h. cond h 0 1) (sym (odd_behind_some k (omega (arith, few))))
    where
      rest : (bits_below quotes k % 2 ≡ cond (not (bits_below quotes k % 2 == 1)) 0 1)
          × (1 - bits_below quotes k % 2 ≡ cond (bits_below quotes k % 2 == 1) 0 1)
      rest = by_rest (bits_below quotes k % 2) (mod-lt (bits_below quotes k) {m = 2} (omega arith))

      by_within : (v : Bool) → w ≡ v
          → (v ≡ true → bit_at outside k ≡ (bit_at odd k + bit_at quotes k) % 2)
          → (v ≡ false → bit_at outside k ≡ 1 - (bit_at odd k + bit_at quotes k) % 2)
          → bit_at outside k ≡ cond (cond v (not (bits_below quotes k % 2 == 1)) (bits_below quotes k % 2 == 1)) 0 1
      by_within true same inner outer = inner refl ∙ before odd k few bit ∙ rest.0
      by_within false same inner outer = outer refl ∙ ap (λ i. 1 - i) (before odd k few bit) ∙ rest.1

never : (s : ℕ) → (suc s == s) ≡ false
never s = ne_eqb (suc s) s (λ e. omega (arith, e))

pub none_least : (b : ℕ) → min 0 b ≡ 0
none_least b = omega arith

-- the separators among them
pub found_bit : (s : ℕ) (text : List ℕ) (place separators outside k : ℕ)
    → bit_at separators k ≡ cond (eqb (get_or text (place + k) 0) s) 1 0
    → bit_at outside k ≡ cond (has_odd_quotes (take (place + k) text)) 0 1
    → bit_at (bit_and separators outside) k ≡ cond (eqb (seen_at s text (place + k)) s) 1 0
found_bit s text place separators outside k one other =
    bit_at_and separators outside k ∙ ap₂ min one other
    ∙ by_both (get_or text (place + k) 0) (has_odd_quotes (take (place + k) text))
  where
    by_test : (t : Bool) → min (cond t 1 0) 1 ≡ cond {A = ℕ} t 1 0
    by_test true = refl
    by_test false = refl

    none : (t : Bool) → min (cond t 1 0) 0 ≡ 0
    none true = refl
    none false = refl

    by_both : (byte : ℕ) (h : Bool) → min (cond (eqb byte s) 1 0) (cond h 0 1)
        ≡ cond {A = ℕ} (eqb (cond h (suc s) byte) s) 1 0
    by_both byte true = none (eqb byte s) ∙ ap (λ t. cond {A = ℕ} t 1 0) (sym (never s))
    by_both byte false = by_test (eqb byte s)

-- whether what is behind them stands within quotes, by the last of their parities
pub turned_by : (text : List ℕ) (place n quotes : ℕ) (w : Bool) → place + n ≤ length text
    → w ≡ has_odd_quotes (take place text) → AreSeen quote text place n quotes → {last : ℕ}
    → last ≡ bits_below quotes n % 2 → not (beq w (last == 1)) ≡ has_odd_quotes (take (place + n) text)
turned_by text place n quotes w low is seen {last} odd =
    ap (λ b. not (beq w (b == 1))) odd ∙ by_both w (bits_below quotes n % 2 == 1)
    ∙ sym (odd_behind_some text place n quotes w low is seen n (omega arith))
  where
    by_both : (w p : Bool) → not (beq w p) ≡ cond w (not p) p
    by_both true true = refl
    by_both true false = refl
    by_both false true = refl
    by_both false false = refl

-- ---- where no quote is among them

none_below : (k : ℕ) → bits_below 0 k ≡ 0
none_below zero = refl
none_below (suc k) = ap₂ (λ a b. a + b) (none_below k) (bit_at-zero k)

pub none_beyond : (separators found k : ℕ) (w : Bool) → bit_at separators k ≡ 0 → (w ≡ true → found ≡ 0)
    → (w ≡ false → found ≡ separators) → bit_at found k ≡ 0
none_beyond separators found k true none inner outer = ap (λ m. bit_at m k) (inner refl) ∙ bit_at-zero k
none_beyond separators found k false none inner outer = ap (λ m. bit_at m k) (outer refl) ∙ none

module _ (text : List ℕ) (place n quotes : ℕ) (w : Bool) (low : place + n ≤ length text)
    (is : w ≡ has_odd_quotes (take place text)) (seen : AreSeen quote text place n quotes) (none : quotes ≡ 0) where
  pub within_alike : (k : ℕ) → k ≤ n → has_odd_quotes (take (place + k) text) ≡ w
  within_alike k few =
      odd_behind_some text place n quotes w low is seen k few
      ∙ ap (λ b. cond w (not (b % 2 == 1)) (b % 2 == 1)) (ap (λ m. bits_below m k) none ∙ none_below k) ∙ same w
    where
      same : (w : Bool) → cond w true false ≡ w
      same true = refl
      same false = refl

  pub alike_bit : (s separators found k : ℕ) → k < n
      → bit_at separators k ≡ cond (eqb (get_or text (place + k) 0) s) 1 0 → (w ≡ true → found ≡ 0)
      → (w ≡ false → found ≡ separators) → bit_at found k ≡ cond (eqb (seen_at s text (place + k)) s) 1 0
  alike_bit s separators found k few one inner outer =
      by_within w inner outer
      ∙ ap (λ h. cond {A = ℕ} (eqb (cond h (suc s) (get_or text (place + k) 0)) s) 1 0)
      (sym (within_alike k (omega (arith, few))))
    where
      by_within : (v : Bool) → (v ≡ true → found ≡ 0) → (v ≡ false → found ≡ separators)
          → bit_at found k ≡ cond (eqb (cond v (suc s) (get_or text (place + k) 0)) s) 1 0
      by_within true inner outer =
          ap (λ m. bit_at m k) (inner refl) ∙ bit_at-zero k ∙ ap (λ t. cond {A = ℕ} t 1 0) (sym (never s))
      by_within false inner outer = ap (λ m. bit_at m k) (outer refl) ∙ one
