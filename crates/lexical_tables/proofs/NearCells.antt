-- A cell whose end one look at what is ahead shows.
use Rattle.std.proofs.Common.{◌≡◌, ◌≢◌, ◌∙◌, ℕ, suc, ◌+◌, ◌<◌, ◌≤◌, List, length, take, get_or, min, cond, eqb, ap, ap₂, sym, arith, inl, inr}
use Rattle.std.specs.Int.{bit_at}
use Rattle.std.proofs.lemmas.Bool.{cases_lt}
use Rattle.std.proofs.lemmas.List.{get_or-take, take-take}
use Rattle.lexical_fields.specs.Fields.{field_length}
use Rattle.lexical_fields.proofs.Marks.{clear_is, set_is}
use Rattle.lexical_tables.specs.Quotes.{has_odd_quotes, hidden, quote, seen_at}
use Rattle.lexical_tables.proofs.Looks.{AreSeen}
use Rattle.lexical_tables.proofs.Passed.{AreFound, ends_at}

-- what is left of a row begins what is ahead
module _ (rest ahead : List ℕ) (front : rest ≡ take (length rest) ahead) where
  -- a byte of it
  as_ahead : (k : ℕ) → k < length rest → get_or rest k 0 ≡ get_or ahead k 0
  as_ahead k low = ap (λ l. get_or l k 0) front ∙ get_or-take (length rest) ahead k 0 low

  -- as a search sees it
  seen_ahead : (s k : ℕ) → k < length rest → seen_at s rest k ≡ seen_at s ahead k
  seen_ahead s k low = ap₂ (λ q b. cond q (suc s) b) odd (as_ahead k low)
    where
      odd : has_odd_quotes (take k rest) ≡ has_odd_quotes (take k ahead)
      odd = ap has_odd_quotes (ap (take k) front ∙ take-take k (length rest) ahead (omega (arith, low)))

  -- none of the first `size` bytes is a quote
  pub near_unquoted : (quotes size : ℕ) → AreSeen quote ahead 0 16 quotes → size ≤ 16 → size ≤ length rest
      → ((k : ℕ) → k < size → bit_at quotes k ≡ 0) → (k : ℕ) → k < size → get_or rest k 0 ≢ quote
  near_unquoted quotes size seen most within none k low same =
      let here : 0 + k ≡ k = omega arith in
      clear_is (get_or ahead k 0) quote
      (ap (λ p. cond {A = ℕ} (eqb (get_or ahead p 0) quote) 1 0) (sym here)
      ∙ sym (seen k (omega (arith, low, most))) ∙ none k low)
      (sym (as_ahead k (omega (arith, low, within))) ∙ same)

  module _ (s found : ℕ) (are : AreFound s ahead 0 16 found) where
    found_at : (k : ℕ) → k < 16 → bit_at found k ≡ cond (eqb (seen_at s ahead k) s) 1 0
    found_at k low =
        let here : 0 + k ≡ k = omega arith in
        are k low ∙ ap (λ p. cond {A = ℕ} (eqb (seen_at s ahead p) s) 1 0) here

    -- where no mark stands before an end
    ends_near : (size : ℕ) → size ≤ 16 → size ≤ length rest → ((k : ℕ) → k < size → bit_at found k ≡ 0)
        → (size < length rest → (size < 16) × (bit_at found size ≡ 1)) → size ≡ field_length s (hidden s rest)
    ends_near size most within none ends =
        ends_at s rest size within
        (λ k low is. clear_is (seen_at s ahead k) s (sym (found_at k (omega (arith, low, most))) ∙ none k low)
        (sym (seen_ahead s k (omega (arith, low, within))) ∙ is))
        (λ more. seen_ahead s size more
        ∙ set_is (seen_at s ahead size) s (sym (found_at size (ends more).0) ∙ (ends more).1))

    -- no mark: all that is left, if that is as short
    pub near_all : ((k : ℕ) → bit_at found k ≡ 0) → length rest ≤ 16 → length rest ≡ field_length s (hidden s rest)
    near_all none short =
        ends_near (length rest) short (omega arith) (λ k low. none k) (λ more. absurd (omega (arith, more)))

    -- the first mark, or the end of what is left
    module _ (r : ℕ) (set : bit_at found r ≡ 1) (below : (k : ℕ) → k < r → bit_at found k ≡ 0)
        (beyond : (k : ℕ) → 16 ≤ k → bit_at found k ≡ 0) where
      pub near_low : r < 16
      near_low = elim (cases_lt r 16) [
        | inl lt ↦ lt
        | inr ge ↦ let none : 0 ≡ 1 = sym (beyond r ge) ∙ set in absurd (omega (arith, none))
      ]

      pub near_first : min r (length rest) ≡ field_length s (hidden s rest)
      near_first = elim (cases_lt (length rest) r) [
        | inl lt ↦
            let all : min r (length rest) ≡ length rest = omega (arith, lt) in
            all ∙ ends_near (length rest) (omega (arith, lt, near_low)) (omega arith)
            (λ k low. below k (omega (arith, low, lt))) (λ more. absurd (omega (arith, more)))
        | inr ge ↦
            let it : min r (length rest) ≡ r = omega (arith, ge) in
            it ∙ ends_near r (omega (arith, near_low)) ge below (λ more. (near_low, set))
      ]
