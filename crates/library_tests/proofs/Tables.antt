-- What a table of texts says.
use Rattle.std.specs.Prelude.{◌≡◌, ℕ, ℤ, List, map, pos, neg_ℤ}

-- a reader makes this of each text
abbrev pub Reads : {A B : Type 0} → (A → B) → List (A × B) → Type 0
Reads {A} {B} read rows =
    map (λ (row : A × B). read row.0) rows ≡ map (λ (row : A × B). row.1) rows

-- a number below 0
abbrev pub minus : ℕ → ℤ
minus size = neg_ℤ (pos size)
