-- The whole lines of a text, one after another.
use Rattle.std.proofs.Common.{◌≡◌, ◌∙◌, ℕ, suc, ◌+◌, ◌-◌, ◌<◌, ◌≤◌, ◌==◌, ◌||◌, not, List, [], ◌∷◌, length, drop, Bool, true, false, cond, refl, ap, sym, arith, length-drop}
use Rattle.std.specs.List.{list_any}
use Rattle.lexical_fields.specs.Fields.{field_length}
use Rattle.lexical_fields.specs.Parts.{whole_fields}
use Rattle.lexical_tables.specs.Parts.{whole_lines}
use Rattle.lexical_tables.specs.Quotes.{length_outside, seen}
use Rattle.lexical_tables.specs.Rows.{line_feed}
use Rattle.lexical_tables.proofs.LineSteps.{none_of}
use Rattle.lexical_tables.proofs.SeenBytes.{seen_behind, seen_long}

-- a separator stands in a text that goes on behind its first field, and in no other
any_found : (s : ℕ) (bs : List ℕ) → field_length s bs < length bs → list_any (λ byte. byte == s) bs ≡ true
any_found s [] low = absurd (omega (arith, low))
any_found s (b ∷ bs) low = by_test (b == s) (any_found s bs) low
  where
    by_test : (t : Bool) → (field_length s bs < length bs → list_any (λ byte. byte == s) bs ≡ true)
        → cond (not t) (1 + field_length s bs) 0 < suc (length bs) → (t || list_any (λ byte. byte == s) bs) ≡ true
    by_test true there low = refl
    by_test false there low = there (omega (arith, low))

any_none : (s : ℕ) (bs : List ℕ) → field_length s bs ≡ length bs → list_any (λ byte. byte == s) bs ≡ false
any_none s [] is = refl
any_none s (b ∷ bs) is = by_test (b == s) (any_none s bs) is
  where
    by_test : (t : Bool) → (field_length s bs ≡ length bs → list_any (λ byte. byte == s) bs ≡ false)
        → cond (not t) (1 + field_length s bs) 0 ≡ suc (length bs) → (t || list_any (λ byte. byte == s) bs) ≡ false
    by_test true there is = absurd (omega (arith, is))
    by_test false there is = there (omega (arith, is))

whole_first : (s : ℕ) (bs : List ℕ) → field_length s bs < length bs
    → whole_fields s bs ≡ suc (field_length s bs) + whole_fields s (drop (field_length s bs + 1) bs)
whole_first s [] low = absurd (omega (arith, low))
whole_first s (b ∷ bs) low = by_test (b == s) low (whole_first s bs)
  where
    m : ℕ
    m = field_length s bs

    one : (k : ℕ) → suc (k + 1) ≡ 1 + k + 1
    one k = omega arith

    further : (k n : ℕ) → suc (suc k + n) ≡ suc (1 + k) + n
    further k n = omega arith

    by_test : (t : Bool) → cond (not t) (1 + m) 0 < suc (length bs)
        → (m < length bs → whole_fields s bs ≡ suc m + whole_fields s (drop (m + 1) bs))
        → cond (t || list_any (λ byte. byte == s) bs) (suc (whole_fields s bs)) 0
        ≡ suc (cond (not t) (1 + m) 0) + whole_fields s (drop (cond (not t) (1 + m) 0 + 1) (b ∷ bs))
    by_test true low there = omega arith
    by_test false low there =
        let less : m < length bs = omega (arith, low) in
        ap (λ t. cond t (suc (whole_fields s bs)) 0) (any_found s bs less) ∙ ap suc (there less)
        ∙ further m (whole_fields s (drop (m + 1) bs))
        ∙ ap (λ k. suc (1 + m) + whole_fields s (drop k (b ∷ bs))) (one m)

whole_zero : (s : ℕ) (bs : List ℕ) → field_length s bs ≡ length bs → whole_fields s bs ≡ 0
whole_zero s [] is = refl
whole_zero s (b ∷ bs) is = ap (λ t. cond t (suc (whole_fields s bs)) 0) (any_none s (b ∷ bs) is)

-- ---- of what is left

-- The bytes in front of `rest` are whole lines, and the others are those of `rest`.
pub record IsPassed (q : Bool) (text rest : List ℕ) : Type 0 where
  pub within : length rest ≤ length text
  pub whole_is : whole_lines q text ≡ length text - length rest + whole_lines q rest

pub whole_starts : (q : Bool) (text : List ℕ) → IsPassed q text text
whole_starts q text = record { within = omega arith; whole_is = omega arith }

module _ (q : Bool) (text rest : List ℕ) (reading : IsPassed q text rest) where
  pub whole_goes : (size : ℕ) (behind : List ℕ) → behind ≡ drop (size + 1) rest → size ≡ length_outside q line_feed rest
      → size < length rest → IsPassed q text behind
  whole_goes size behind cut is more =
      let n = length_outside q line_feed rest in
      let low : n < length rest = omega (arith, is, more) in
      let back : behind ≡ drop (n + 1) rest = cut ∙ ap (λ k. drop (k + 1) rest) is in
      let left : length behind ≡ length rest - (n + 1) = ap length back ∙ length-drop (n + 1) rest in
      let there : whole_lines q rest ≡ suc n + whole_lines q behind =
      whole_first line_feed (seen q line_feed rest) (omega (arith, low, seen_long q line_feed rest))
      ∙ ap (λ l. suc n + whole_fields line_feed l) (seen_behind q line_feed rest ∙ ap (seen q line_feed) (sym back)) in
      record {
        within = omega (arith, reading.within, left);
        whole_is = omega (arith, reading.within, reading.whole_is, there, left, low);
      }

  pub whole_stops : (size : ℕ) → size ≡ length_outside q line_feed rest → size ≡ length rest
      → length text - length rest ≡ whole_lines q text
  whole_stops size is all =
      let none : whole_lines q rest ≡ 0 =
      whole_zero line_feed (seen q line_feed rest) (sym is ∙ all ∙ sym (seen_long q line_feed rest)) in
      omega (arith, reading.whole_is, none)

  pub whole_ends : length rest ≡ 0 → length text ≡ whole_lines q text
  whole_ends ended =
      let none : whole_lines q rest ≡ 0 = ap (whole_lines q) (none_of rest ended) ∙ of_none q in
      omega (arith, reading.whole_is, none, ended)
    where
      of_none : (q : Bool) → whole_lines q [] ≡ 0
      of_none true = refl
      of_none false = refl
