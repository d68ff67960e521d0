-- The first field and the first piece outside quotes, and those behind it.
use Rattle.std.proofs.Common.{◌≡◌, ◌∙◌, ℕ, suc, ◌+◌, ◌-◌, ◌<◌, ◌≤◌, List, [], ◌∷◌, ◌++◌, length, take, drop, Bool, true, false, not, cond, eqb, eq-eqb, refl, ap, ap₂, sym, arith, inl, inr, length-append, length-take-le}
use Rattle.std.proofs.lemmas.Bool.Decides.{eqb_tells}
use Rattle.std.proofs.lemmas.List.{drop_all, drop-append-le, take-append-le}
use Rattle.lexical_fields.specs.Fields.{FieldView, field_length, fields_from}
use Rattle.lexical_fields.proofs.FieldSteps.{next_field}
use Rattle.lexical_tables.specs.Quotes.{as_long_as, fields_outside, length_outside, pieces_outside, seen}
use Rattle.lexical_tables.proofs.SeenBytes.{seen_behind, seen_long}

-- the first field is within its text
length_within : (s : ℕ) (bs : List ℕ) → field_length s bs ≤ length bs
length_within s [] = omega arith
length_within s (b ∷ bs) = by_test (eqb b s) (length_within s bs)
  where
    by_test : (t : Bool) → field_length s bs ≤ length bs → cond (not t) (1 + field_length s bs) 0 ≤ suc (length bs)
    by_test true low = omega arith
    by_test false low = omega arith

pub outside_within : (q : Bool) (s : ℕ) (bs : List ℕ) → length_outside q s bs ≤ length bs
outside_within q s bs = omega (arith, length_within s (seen q s bs), seen_long q s bs)

module _ (q : Bool) (s p : ℕ) (rest front behind : List ℕ) (some : 0 < length rest)
    (front_is : front ≡ take (length_outside q s rest) rest)
    (back : behind ≡ drop (length_outside q s rest + 1) rest) where
  abbrev n : ℕ
  n = length_outside q s rest

  -- what the search sees of what is behind
  left : drop (n + 1) (seen q s rest) ≡ seen q s behind
  left = seen_behind q s rest ∙ ap (seen q s) (sym back)

  sized : length (take n (seen q s rest)) ≡ n
  sized = length-take-le n (seen q s rest) (length_within s (seen q s rest))

  left_long : length (drop (n + 1) (seen q s rest)) ≡ length behind
  left_long = ap length left ∙ seen_long q s behind

  first_long : (more : List FieldView) → as_long_as (record { start = p; text = take n (seen q s rest) } ∷ more) rest
      ≡ record { start = p; text = front } ∷ as_long_as more behind
  first_long more =
      ap (λ k. record { start = p; text = take k rest } ∷ as_long_as more (drop (k + 1) rest)) sized
      ∙ ap₂ (λ f b. record { start = p; text = f } ∷ as_long_as more b) (sym front_is) (sym back)

  pub next_outside : fields_outside q s p rest
      ≡ record { start = p; text = front } ∷ fields_outside q s (p + (length rest - length behind)) behind
  next_outside =
      let at : p + (length (seen q s rest) - length (drop (n + 1) (seen q s rest))) ≡ p + (length rest - length behind) =
      omega (arith, left_long, seen_long q s rest) in
      ap (λ l. as_long_as l rest)
      (next_field s p (seen q s rest) (take n (seen q s rest)) (drop (n + 1) (seen q s rest))
      (omega (arith, some, seen_long q s rest)) refl refl)
      ∙ first_long (fields_from s (p + (length (seen q s rest) - length (drop (n + 1) (seen q s rest))))
      (drop (n + 1) (seen q s rest)))
      ∙ ap₂ (λ k l. record { start = p; text = front } ∷ as_long_as (fields_from s k l) behind) at left

-- ---- pieces: one more than separators

-- a separator that is added changes no first field
length_behind : (s : ℕ) (bs : List ℕ) → field_length s (bs ++ s ∷ []) ≡ field_length s bs
length_behind s [] = by_test (eqb s s) (eq-eqb s s refl)
  where
    by_test : (t : Bool) → t ≡ true → ◌≡◌ {A = ℕ} (cond (not t) 1 0) 0
    by_test true is = refl
    by_test false is = absurd cc
length_behind s (b ∷ bs) = ap (λ n. cond (not (eqb b s)) (1 + n) 0) (length_behind s bs)

-- the pieces behind the first, by whether that is the last
abbrev behind_first : ℕ → ℕ → Bool → List ℕ → List FieldView
behind_first s place ended behind = cond ended [] (fields_from s place (behind ++ s ∷ []))

next_cell : (s p : ℕ) (rest cell behind : List ℕ) → cell ≡ take (field_length s rest) rest
    → behind ≡ drop (field_length s rest + 1) rest → length cell ≡ field_length s rest → length cell ≤ length rest
    → fields_from s p (rest ++ s ∷ []) ≡ record { start = p; text = cell }
    ∷ behind_first s (p + (length rest - length behind)) (eqb (length cell) (length rest)) behind
next_cell s p rest cell behind front back sized within =
    let bs = rest ++ s ∷ [] in
    let n = field_length s rest in
    let same = length_behind s rest in
    let long : length bs ≡ length rest + 1 = length-append rest (s ∷ []) in
    let low : n ≤ length rest = omega (arith, sized) in
    let cell_is : cell ≡ take (field_length s bs) bs =
    front ∙ sym (take-append-le n rest (s ∷ []) low) ∙ ap (λ k. take k bs) (sym same) in
    let rest_of : drop (field_length s bs + 1) bs ≡ drop (n + 1) bs = ap (λ k. drop (k + 1) bs) same in
    elim (eqb_tells (length cell) (length rest)) [
      | inl is ↦
          let none : [] ≡ drop (field_length s bs + 1) bs =
          sym (rest_of ∙ drop_all (n + 1) bs (omega (arith, is.1, sized, long))) in
          next_field s p bs cell [] (omega (arith, long)) cell_is none
          ∙ ap (λ t. record { start = p; text = cell } ∷ behind_first s (p + (length rest - length behind)) t behind) (sym is.0)
      | inr is ↦
          let less : n < length rest = omega (arith, is.1, sized, within) in
          let left : behind ++ s ∷ [] ≡ drop (field_length s bs + 1) bs =
          ap (λ l. l ++ s ∷ []) back ∙ sym (drop-append-le (n + 1) rest (s ∷ []) (omega arith)) ∙ sym rest_of in
          let behind_long : length (behind ++ s ∷ []) ≡ length behind + 1 = length-append behind (s ∷ []) in
          let at : p + (length bs - length (behind ++ s ∷ [])) ≡ p + (length rest - length behind) =
          omega (arith, long, behind_long) in
          next_field s p bs cell (behind ++ s ∷ []) (omega (arith, long)) cell_is left
          ∙ ap (λ k. record { start = p; text = cell } ∷ fields_from s k (behind ++ s ∷ [])) at
          ∙ ap (λ t. record { start = p; text = cell } ∷ behind_first s (p + (length rest - length behind)) t behind) (sym is.0)
    ]

cond_long : (t : Bool) (more : List FieldView) (text : List ℕ)
    → as_long_as (cond t [] more) text ≡ cond t [] (as_long_as more text)
cond_long true more text = refl
cond_long false more text = refl

pub next_piece : (q : Bool) (s p : ℕ) (rest cell behind : List ℕ) → cell ≡ take (length_outside q s rest) rest
    → behind ≡ drop (length_outside q s rest + 1) rest → length cell ≡ length_outside q s rest
    → pieces_outside q s p rest ≡ record { start = p; text = cell }
    ∷ cond (eqb (length cell) (length rest)) [] (pieces_outside q s (p + (length rest - length behind)) behind)
next_piece q s p rest cell behind front back size =
    let bytes = seen q s rest in
    let k = length_outside q s rest in
    let first = take k bytes in
    let later = drop (k + 1) bytes in
    let long = seen_long q s rest in
    let first_size : length first ≡ k = length-take-le k bytes (length_within s bytes) in
    let behind_is : later ≡ seen q s behind = seen_behind q s rest ∙ ap (seen q s) (sym back) in
    let later_long : length later ≡ length behind = ap length behind_is ∙ seen_long q s behind in
    let place : p + (length bytes - length later) ≡ p + (length rest - length behind) =
    omega (arith, later_long, long) in
    let same : length first ≡ length cell = first_size ∙ sym size in
    let more = fields_from s (p + (length rest - length behind)) (seen q s behind ++ s ∷ []) in
    ap (λ l. as_long_as l rest)
    (next_cell s p bytes first later refl refl first_size (omega (arith, first_size, length_within s bytes)))
    ∙ ap₂ (λ a b. as_long_as (record { start = p; text = first }
    ∷ cond (eqb a b) [] (fields_from s (p + (length bytes - length later)) (later ++ s ∷ []))) rest) same long
    ∙ ap₂ (λ a l. as_long_as (record { start = p; text = first }
    ∷ cond (eqb (length cell) (length rest)) [] (fields_from s a (l ++ s ∷ []))) rest) place behind_is
    ∙ ap (λ j. record { start = p; text = take j rest }
    ∷ as_long_as (cond (eqb (length cell) (length rest)) [] more) (drop (j + 1) rest)) first_size
    ∙ ap₂ (λ f b. record { start = p; text = f }
    ∷ as_long_as (cond (eqb (length cell) (length rest)) [] more) b) (sym front) (sym back)
    ∙ ap (λ l. record { start = p; text = cell } ∷ l)
    (cond_long (eqb (length cell) (length rest)) more behind)
