-- The values of the first answers, one more at a time.
use Rattle.std.proofs.Common.{◌≡◌, ◌∙◌, ℕ, zero, suc, List, [], ◌∷◌, ◌++◌, take, refl, sym, ap, add-one, Result, Ok, Err, Some}
use Rattle.std.specs.Prelude.{slice_get}
use Rattle.uses.specs.Each.{in_front_of, each}

behind_ok : {A E : Type 0} (value : A) (found : Result (List A) (ℕ × E)) (values : List A)
    → in_front_of value found ≡ Ok values
    → (rest : List A) × (found ≡ Ok rest) × (values ≡ value ∷ rest)
behind_ok value (Ok rest) values e = let same : value ∷ rest ≡ values = cc in (rest, refl, sym same)
behind_ok value (Err fault) values e = cc

-- where the next answer has a value, it is put behind theirs
pub each_more : {A E : Type 0} (answers : List (Result A E)) (n : ℕ) (values : List A) (value : A)
    → each (take n answers) ≡ Ok values → slice_get answers n ≡ Some (Ok value)
    → each (take (suc n) answers) ≡ Ok (values ++ value ∷ [])
each_more [] n values value e h = cc
each_more (Ok first ∷ answers) zero values value e h =
    let none : values ≡ [] = cc in
    let here : first ≡ value = cc in
    rw (none, here) refl
each_more (Err fault ∷ answers) zero values value e h = cc
each_more (Ok first ∷ answers) (suc n) values value e h =
    let found = behind_ok first (each (take n answers)) values e in
    ap (in_front_of first) (each_more answers n found.0 value found.1 h)
    ∙ ap (λ vs. Ok (vs ++ value ∷ [])) (sym found.2)
each_more (Err fault ∷ answers) (suc n) values value e h = cc

-- where the next answer is a fault, it is the first
pub each_fault : {A E : Type 0} (answers : List (Result A E)) (n : ℕ) (values : List A) (fault : E)
    → each (take n answers) ≡ Ok values → slice_get answers n ≡ Some (Err fault)
    → each answers ≡ Err (n, fault)
each_fault [] n values fault e h = cc
each_fault (Ok first ∷ answers) zero values fault e h = cc
each_fault (Err other ∷ answers) zero values fault e h = let same : other ≡ fault = cc in rw same refl
each_fault (Ok first ∷ answers) (suc n) values fault e h =
    let found = behind_ok first (each (take n answers)) values e in
    ap (in_front_of first) (each_fault answers n found.0 fault found.1 h) ∙ ap (λ k. Err (k, fault)) (add-one n)
each_fault (Err other ∷ answers) (suc n) values fault e h = cc
