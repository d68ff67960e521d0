-- The lines are the pieces between the line feeds.
use Rattle.std.proofs.Common.{◌≡◌, ℕ, List, [], ◌∷◌, Bool, true, false, cond, eqb, refl, ap, sym, ◌∙◌}
use Rattle.std.specs.List.{onto_first}
use Rattle.lexical_util.specs.Ascii.{line_feed}
use Rattle.lexical_fields.specs.Fields.{pieces, without_empty_last}
use Rattle.answer_lines.specs.Lines.{lines, onto_line}

onto_pieces : (b : ℕ) (p : List ℕ) (ps : List (List ℕ))
    → onto_line b (without_empty_last (p ∷ ps)) ≡ without_empty_last ((b ∷ p) ∷ ps)
onto_pieces b [] [] = refl
onto_pieces b (c ∷ p) [] = refl
onto_pieces b p (q ∷ ps) = refl

-- at each test's answer
step : (t : Bool) (b : ℕ) (p : List ℕ) (ps ls : List (List ℕ)) → ls ≡ without_empty_last (p ∷ ps)
    → cond t ([] ∷ ls) (onto_line b ls) ≡ without_empty_last (cond t ([] ∷ p ∷ ps) (onto_first b (p ∷ ps)))
step true b p ps ls e = ap (λ l. [] ∷ l) e
step false b p ps ls e = ap (λ l. onto_line b l) e ∙ onto_pieces b p ps

front : (bs : List ℕ) → (p : List ℕ) × (ps : List (List ℕ)) × (pieces line_feed bs ≡ p ∷ ps)
front [] = ([], [], refl)
front (b ∷ bs) =
    let (p, ps, e) = front bs in
    elim (eqb b 10) as (λ t. (q : List ℕ) × (qs : List (List ℕ))
    × (cond t ([] ∷ pieces line_feed bs) (onto_first b (pieces line_feed bs)) ≡ q ∷ qs)) [
      | true ↦ ([], pieces line_feed bs, refl)
      | false ↦ (b ∷ p, ps, ap (λ l. onto_first b l) e)
    ]

pub lines_are_pieces : (bs : List ℕ) → lines bs ≡ without_empty_last (pieces line_feed bs)
lines_are_pieces [] = refl
lines_are_pieces (b ∷ bs) =
    let f = front bs in
    let ih : lines bs ≡ without_empty_last (f.0 ∷ f.1) = lines_are_pieces bs ∙ ap without_empty_last f.2 in
    step (eqb b 10) b f.0 f.1 (lines bs) ih
    ∙ ap (λ l. without_empty_last (cond (eqb b 10) ([] ∷ l) (onto_first b l))) (sym f.2)
