-- The fields are the pieces between the separators.
use Rattle.std.proofs.Common.{◌≡◌, ℕ, ◌+◌, List, [], ◌∷◌, map, Bool, true, false, cond, eqb, refl, ap, sym, ◌∙◌}
use Rattle.std.specs.List.{onto_first}
use Rattle.lexical_util.specs.Format.{Format}
use Rattle.lexical_util.specs.Number.{IntegerType}
use Rattle.lexical_fields.specs.Fields.{FieldView, fields_from, onto_field, pieces, without_empty_last}
use Rattle.lexical_fields.specs.ReadFields.{read_field, read_from, texts}

-- the bytes of each field
abbrev field_texts : List FieldView → List (List ℕ)
field_texts fields = map (λ field. field.text) fields

-- a byte in front of the first text, or a text of its own
abbrev onto_text : ℕ → List (List ℕ) → List (List ℕ)
onto_text b [] = (b ∷ []) ∷ []
onto_text b (text ∷ more) = (b ∷ text) ∷ more

texts_onto : (p b : ℕ) (fs : List FieldView) → field_texts (onto_field p b fs) ≡ onto_text b (field_texts fs)
texts_onto p b [] = refl
texts_onto p b (f ∷ fs) = refl

onto_pieces : (b : ℕ) (q : List ℕ) (qs : List (List ℕ))
    → onto_text b (without_empty_last (q ∷ qs)) ≡ without_empty_last ((b ∷ q) ∷ qs)
onto_pieces b [] [] = refl
onto_pieces b (c ∷ q) [] = refl
onto_pieces b q (r ∷ qs) = refl

-- at each test's answer
step : (t : Bool) (p b : ℕ) (q : List ℕ) (qs : List (List ℕ)) (fs : List FieldView)
    → field_texts fs ≡ without_empty_last (q ∷ qs)
    → field_texts (cond t (record { start = p; text = [] } ∷ fs) (onto_field p b fs))
    ≡ without_empty_last (cond t ([] ∷ q ∷ qs) (onto_first b (q ∷ qs)))
step true p b q qs fs e = ap (λ l. [] ∷ l) e
step false p b q qs fs e = texts_onto p b fs ∙ ap (λ l. onto_text b l) e ∙ onto_pieces b q qs

front : (s : ℕ) (bs : List ℕ) → (q : List ℕ) × (qs : List (List ℕ)) × (pieces s bs ≡ q ∷ qs)
front s [] = ([], [], refl)
front s (b ∷ bs) =
    let (q, qs, e) = front s bs in
    elim (eqb b s) as (λ t. (r : List ℕ) × (rs : List (List ℕ))
    × (cond t ([] ∷ pieces s bs) (onto_first b (pieces s bs)) ≡ r ∷ rs)) [
      | true ↦ ([], pieces s bs, refl)
      | false ↦ (b ∷ q, qs, ap (λ l. onto_first b l) e)
    ]

fields_are_pieces : (s p : ℕ) (bs : List ℕ) → field_texts (fields_from s p bs) ≡ without_empty_last (pieces s bs)
fields_are_pieces s p [] = refl
fields_are_pieces s p (b ∷ bs) =
    let f = front s bs in
    let ih : field_texts (fields_from s (p + 1) bs) ≡ without_empty_last (f.0 ∷ f.1) =
    fields_are_pieces s (p + 1) bs ∙ ap without_empty_last f.2 in
    step (eqb b s) p b f.0 f.1 (fields_from s (p + 1) bs) ih
    ∙ ap (λ l. without_empty_last (cond (eqb b s) ([] ∷ l) (onto_first b l))) (sym f.2)

-- a field that is read has its bytes
texts_of_read : (f : Format) (t : IntegerType) (fs : List FieldView) → texts (map (read_field f t) fs) ≡ field_texts fs
texts_of_read f t [] = refl
texts_of_read f t (field ∷ fs) = ap (λ l. field.text ∷ l) (texts_of_read f t fs)

pub read_are_pieces : (f : Format) (t : IntegerType) (s p : ℕ) (bs : List ℕ)
    → texts (read_from f t s p bs) ≡ without_empty_last (pieces s bs)
read_are_pieces f t s p bs = texts_of_read f t (fields_from s p bs) ∙ fields_are_pieces s p bs
