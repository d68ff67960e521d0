-- Where the first separator outside quotes stands, if none is among the bytes that were passed.
use Rattle.std.proofs.Common.{◌≡◌, ◌≢◌, ◌∙◌, ℕ, ◌+◌, ◌-◌, ◌==◌, ◌<◌, ◌≤◌, suc, List, length, take, get_or, Bool, true, false, not, cond, eqb, refl, ap, subst, sym, arith, inl, inr, ◌⊎◌}
use Rattle.std.specs.Int.{bit_at}
use Rattle.std.specs.Prelude.{◌||◌}
use Rattle.std.proofs.lemmas.Bool.{cases_lt, eqb-false, eqb-true, not-false, not-true}
use mathlib.Core.Bool.{beq}
use Rattle.std.proofs.lemmas.Nat.Bits.{bit_at-zero}
use Rattle.std.proofs.lemmas.List.FromFn.{get_or-map-range_with_len, length-map-range_with_len}
use Rattle.lexical_fields.specs.Fields.{field_length}
use Rattle.lexical_fields.proofs.FieldEnds.{field_is}
use Rattle.lexical_fields.proofs.Marks.{clear_is, set_is}
use Rattle.lexical_tables.specs.Looks.{IsPassed}
use Rattle.lexical_tables.specs.Quotes.{has_odd_quotes, hidden, quote, seen_at}
use Rattle.lexical_tables.proofs.QuoteSteps.{next_within}

pub passes_none : (s : ℕ) (text : List ℕ) → IsPassed s text 0 false
passes_none s text = record { low = omega arith; within = refl; none = λ k low. absurd (omega arith) }

-- `found` marks the separators outside quotes among the n bytes from a place on
abbrev pub AreFound : ℕ → List ℕ → ℕ → ℕ → ℕ → Type 0
AreFound s text place n found = (k : ℕ) → k < n → bit_at found k ≡ cond (eqb (seen_at s text (place + k)) s) 1 0

-- no separator stands up to a place behind those that were passed
none_to : (s : ℕ) (text : List ℕ) (place m : ℕ) → ((k : ℕ) → k < place → seen_at s text k ≢ s)
    → ((k : ℕ) → k < m → seen_at s text (place + k) ≢ s) → (k : ℕ) → k < place + m → seen_at s text k ≢ s
none_to s text place m none more k low = elim (cases_lt k place) [
  | inl lt ↦ none k lt
  | inr ge ↦
      let at : place + (k - place) ≡ k = omega (arith, ge) in
      λ is. more (k - place) (omega (arith, ge, low)) (ap (seen_at s text) at ∙ is)
]

pub hidden_long : (s : ℕ) (text : List ℕ) → length (hidden s text) ≡ length text
hidden_long s text = length-map-range_with_len (seen_at s text) 0 (length text)

pub hidden_at : (s : ℕ) (text : List ℕ) (k : ℕ) → k < length text → get_or (hidden s text) k 0 ≡ seen_at s text k
hidden_at s text k low = get_or-map-range_with_len (seen_at s text) 0 (length text) k k 0 low (omega arith)

-- it is there
pub ends_at : (s : ℕ) (text : List ℕ) (end : ℕ) → end ≤ length text → ((k : ℕ) → k < end → seen_at s text k ≢ s)
    → (end < length text → seen_at s text end ≡ s) → end ≡ field_length s (hidden s text)
ends_at s text end low none found =
    let size = hidden_long s text in
    field_is s (hidden s text) end (omega (arith, low, size))
    (λ k lt is. none k lt (sym (hidden_at s text k (omega (arith, lt, low))) ∙ is))
    (λ lt. let less : end < length text = omega (arith, lt, size) in hidden_at s text end less ∙ found less)

module _ (s : ℕ) (text : List ℕ) (place : ℕ) (w : Bool) (passed : IsPassed s text place w) where
  -- a look at some bytes finds none
  pub passes_more : (n found : ℕ) → place + n ≤ length text → AreFound s text place n found
      → ((k : ℕ) → k < n → bit_at found k ≡ 0) → (now : Bool) → now ≡ has_odd_quotes (take (place + n) text)
      → IsPassed s text (place + n) now
  passes_more n found room are clear now is = record {
    low = room;
    within = is;
    none = none_to s text place n passed.none
        (λ k lt. clear_is (seen_at s text (place + k)) s (sym (are k lt) ∙ clear k lt));
  }

  -- it finds one
  pub passes_to : (n found r : ℕ) → place + n ≤ length text → AreFound s text place n found
      → ((k : ℕ) → n ≤ k → bit_at found k ≡ 0) → bit_at found r ≡ 1 → ((k : ℕ) → k < r → bit_at found k ≡ 0)
      → (place + r ≡ field_length s (hidden s text)) × (place + r ≤ length text)
  passes_to n found r room are beyond set below = by_order (cases_lt r n)
    where
      by_order : (r < n) ⊎ (n ≤ r) → (place + r ≡ field_length s (hidden s text)) × (place + r ≤ length text)
      by_order (inl lt) = (
        ends_at s text (place + r) (omega (arith, lt, room))
            (none_to s text place r passed.none
            (λ k less. clear_is (seen_at s text (place + k)) s (sym (are k (omega (arith, less, lt))) ∙ below k less)))
            (λ low. set_is (seen_at s text (place + r)) s (sym (are r lt) ∙ set)),
        omega (arith, lt, room),
      )
      by_order (inr ge) = let none : 0 ≡ 1 = sym (beyond r ge) ∙ set in absurd (omega (arith, none))

  -- one byte is none
  pub passes_one : place < length text → seen_at s text place ≢ s → (now : Bool)
      → now ≡ cond (get_or text place 0 == quote) (not w) w → IsPassed s text (place + 1) now
  passes_one more other now is = record {
    low = omega (arith, more);
    within =
        is ∙ ap (λ h. cond (get_or text place 0 == quote) (not h) h) passed.within
        ∙ sym (next_within text place more);
    none = none_to s text place 1 passed.none
        (λ k lt same. other (ap (seen_at s text) (first k lt) ∙ same));
  }
    where
      first : (k : ℕ) → k < 1 → place ≡ place + k
      first k lt = omega (arith, lt)

  -- the text ends, or the next byte is one
  pub passes_end : (place < length text → seen_at s text place ≡ s) → place ≡ field_length s (hidden s text)
  passes_end found = ends_at s text place passed.low passed.none found

  -- within quotes a byte is none, and outside by a test
  pub seen_other : (w ≡ true) ⊎ (get_or text place 0 ≢ s) → seen_at s text place ≢ s
  seen_other none = subst (λ h. cond h (suc s) (get_or text place 0) ≢ s) passed.within (by_within w none)
    where
      by_within : (v : Bool) → (v ≡ true) ⊎ (get_or text place 0 ≢ s) → cond v (suc s) (get_or text place 0) ≢ s
      by_within true none = λ is. omega (arith, is)
      by_within false (inl is) = absurd cc
      by_within false (inr other) = other

  pub seen_here : w ≡ false → get_or text place 0 ≡ s → seen_at s text place ≡ s
  seen_here outside is = ap (λ h. cond h (suc s) (get_or text place 0)) (sym passed.within ∙ outside) ∙ is

-- no bit is set
pub none_found : (found : ℕ) → found ≡ 0 → (k : ℕ) → bit_at found k ≡ 0
none_found found none k = ap (λ m. bit_at m k) none ∙ bit_at-zero k

pub turned_once : (w : Bool) (byte : ℕ) → not (beq w (byte == 34)) ≡ cond (byte == quote) (not w) w
turned_once w byte = by_both w (byte == 34)
  where
    by_both : (w t : Bool) → not (beq w t) ≡ cond t (not w) w
    by_both true true = refl
    by_both true false = refl
    by_both false true = refl
    by_both false false = refl

-- a byte that is stepped over stands within quotes or is another, and one that isn't does neither
pub stepped : (w : Bool) (byte s : ℕ) → (w || not (byte == s)) ≡ true → (w ≡ true) ⊎ (byte ≢ s)
stepped true byte s is = inl refl
stepped false byte s is = inr (eqb-false byte s (not-true (byte == s) is))

pub stopped : (w : Bool) (byte s : ℕ) → (w || not (byte == s)) ≡ false → (w ≡ false) × (byte ≡ s)
stopped true byte s is = absurd cc
stopped false byte s is = (refl, eqb-true byte s (not-false (byte == s) is))
