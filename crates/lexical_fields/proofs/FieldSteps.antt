-- The first field of a text, and those behind it.
use Rattle.std.proofs.Common.{◌≤◌, ◌≡◌, ℕ, suc, ◌+◌, ◌-◌, ◌<◌, Bool, true, false, not, cond, eqb, List, [], ◌∷◌, length, map, take, drop, refl, ap, ap₂, sym, ◌∙◌, arith, length-drop}
use Rattle.std.proofs.lemmas.List.{length-map}
use Rattle.lexical_util.specs.Format.{Format}
use Rattle.lexical_util.specs.Number.{IntegerType}
use Rattle.lexical_fields.specs.Fields.{FieldView, field_length, fields_from, onto_field}
use Rattle.lexical_fields.specs.ReadFields.{read_field, read_from}

-- the fields of a text whose first field has `n` bytes
abbrev parted : ℕ → ℕ → List ℕ → ℕ → List FieldView
parted s p bs n = record { start = p; text = take n bs } ∷ fields_from s (p + suc n) (drop (suc n) bs)

-- the first field of a text that isn't empty, and the fields of what is behind its separator
first_field : (s p b : ℕ) (bs : List ℕ) → fields_from s p (b ∷ bs) ≡ parted s p (b ∷ bs) (field_length s (b ∷ bs))
first_field s p b [] = by_test (eqb b s)
  where
    by_test : (t : Bool) → cond t (record { start = p; text = [] } ∷ [])
        (record { start = p; text = b ∷ [] } ∷ []) ≡ parted s p (b ∷ []) (cond (not t) 1 0)
    by_test true = refl
    by_test false = refl
first_field s p b (c ∷ cs) = by_test (eqb b s) (first_field s (p + 1) c cs)
  where
    m : ℕ
    m = field_length s (c ∷ cs)

    by_test : (t : Bool) → fields_from s (p + 1) (c ∷ cs) ≡ parted s (p + 1) (c ∷ cs) m
        → cond t (record { start = p; text = [] } ∷ fields_from s (p + 1) (c ∷ cs))
        (onto_field p b (fields_from s (p + 1) (c ∷ cs)))
        ≡ parted s p (b ∷ c ∷ cs) (cond (not t) (1 + m) 0)
    by_test true more = refl
    by_test false more =
        let one : suc m ≡ 1 + m = omega arith in
        let at : p + 1 + suc m ≡ p + suc (suc m) = omega arith in
        ap (onto_field p b) more
        ∙ ap (λ q. record { start = p; text = b ∷ take m (c ∷ cs) } ∷ fields_from s q (drop (suc m) (c ∷ cs))) at
        ∙ ap (parted s p (b ∷ c ∷ cs)) one

-- the place behind the first field doesn't matter where no byte stands there
behind_end : (s p q : ℕ) (bs : List ℕ) → (0 < length bs → p ≡ q) → fields_from s p bs ≡ fields_from s q bs
behind_end s p q [] same = refl
behind_end s p q (b ∷ bs) same = ap (λ k. fields_from s k (b ∷ bs)) (same (omega arith))

-- the next field of a text, and what is left behind it
pub next_field : (s p : ℕ) (bs field behind : List ℕ) → 0 < length bs
    → field ≡ take (field_length s bs) bs → behind ≡ drop (field_length s bs + 1) bs
    → fields_from s p bs ≡ record { start = p; text = field } ∷ fields_from s (p + (length bs - length behind)) behind
next_field s p [] field behind some front back = absurd (omega arith)
next_field s p (b ∷ bs) field behind some front back =
    let n = field_length s (b ∷ bs) in
    let one : n + 1 ≡ suc n = omega arith in
    let rest : behind ≡ drop (suc n) (b ∷ bs) = back ∙ ap (λ k. drop k (b ∷ bs)) one in
    let size : length behind ≡ suc (length bs) - suc n = ap length rest ∙ length-drop (suc n) (b ∷ bs) in
    let P : List ℕ → List ℕ → List FieldView = λ f r. record { start = p; text = f } ∷ fields_from s (p + suc n) r in
    first_field s p b bs ∙ ap₂ P (sym front) (sym rest)
    ∙ ap (λ more. record { start = p; text = field } ∷ more)
    (behind_end s (p + suc n) (p + (suc (length bs) - length behind)) behind
    (λ lt. omega (arith, size, lt)))

-- there are no more fields than bytes
fields_are_few : (s p : ℕ) (bs : List ℕ) → length (fields_from s p bs) ≤ length bs
fields_are_few s p [] = omega arith
fields_are_few s p (b ∷ bs) = by_test (eqb b s) (fields_from s (p + 1) bs) (fields_are_few s (p + 1) bs)
  where
    by_test : (t : Bool) (more : List FieldView) → length more ≤ length bs
        → length (cond t (record { start = p; text = [] } ∷ more) (onto_field p b more))
        ≤ suc (length bs)
    by_test true more low = omega arith
    by_test false [] low = omega arith
    by_test false (field ∷ more) low = omega arith

-- ---- fields that are read

-- the next of them, and what is left behind it
pub next_read : (f : Format) (t : IntegerType) (s p : ℕ) (bs field behind : List ℕ) → 0 < length bs
    → field ≡ take (field_length s bs) bs → behind ≡ drop (field_length s bs + 1) bs
    → read_from f t s p bs ≡ read_field f t (record { start = p; text = field })
    ∷ read_from f t s (p + (length bs - length behind)) behind
next_read f t s p bs field behind some front back =
    ap (map (read_field f t)) (next_field s p bs field behind some front back)

pub read_are_few : (f : Format) (t : IntegerType) (s p : ℕ) (bs : List ℕ) → length (read_from f t s p bs) ≤ length bs
read_are_few f t s p bs =
    let few = fields_are_few s p bs in
    let same = length-map (fields_from s p bs) (read_field f t) in
    omega (arith, few, same)
