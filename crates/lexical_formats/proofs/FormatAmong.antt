-- The format of a name among those that are left.
use Rattle.std.proofs.Common.{◌≡◌, ℕ, zero, suc, ◌+◌, ◌<◌, true, false, List, [], ◌∷◌, length, drop, get_or, map, Option, Some, None, refl, ap, sym, ◌∙◌, arith}
use Rattle.std.specs.Str.{bytes_eq}
use denote.Ref.{Bor}
use Rattle.lexical_util.specs.Format.{Format}
use Rattle.lexical_formats.specs.Names.{format_among}

abbrev pub Entry : Type 0
Entry = Bor (List ℕ) × Format

-- the format of a name among those from a place on
abbrev pub among_rest : List ℕ → List Entry → ℕ → Option Format
among_rest name entries i =
    format_among name (map (λ (entry : Entry). (entry.0.now, entry.1)) (drop i entries))

-- where the first of them has the name
pub found_here : (name : List ℕ) (entries : List Entry) (i : ℕ) (entry : Entry) → i < length entries
    → entry ≡ get_or entries i entry → bytes_eq name entry.0.now ≡ true
    → among_rest name entries i ≡ Some entry.1
found_here name [] i entry some is has = absurd (omega arith)
found_here name (x ∷ more) zero entry some is has = rw (sym is) (rw has refl)
found_here name (x ∷ more) (suc i) entry some is has = found_here name more i entry (omega arith) is has

-- where it has another one
pub found_behind : (name : List ℕ) (entries : List Entry) (i : ℕ) (entry : Entry) → i < length entries
    → entry ≡ get_or entries i entry → bytes_eq name entry.0.now ≡ false
    → among_rest name entries i ≡ among_rest name entries (i + 1)
found_behind name [] i entry some is has = absurd (omega arith)
found_behind name (x ∷ more) zero entry some is has = rw (sym is) (rw has refl)
found_behind name (x ∷ more) (suc i) entry some is has =
    let next : suc (i + 1) ≡ suc i + 1 = omega arith in
    found_behind name more i entry (omega arith) is has ∙ ap (among_rest name (x ∷ more)) next

-- none is left
pub found_none : (name : List ℕ) (entries : List Entry) (i : ℕ) → length entries ≡ i
    → among_rest name entries i ≡ None
found_none name [] zero all = refl
found_none name [] (suc i) all = absurd (omega arith)
found_none name (x ∷ more) zero all = absurd (omega arith)
found_none name (x ∷ more) (suc i) all = found_none name more i (omega arith)
