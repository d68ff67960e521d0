-- Answers are equal where their integers are, seen as whole numbers: for laws of several answers.
use Rattle.std.proofs.Common.{◌≡◌, ℕ, ap, ◌∙◌, Ok, Err, Result, refl}
use Rattle.std.specs.Prelude.{OnOk}
use Rattle.std.proofs.Math.IntN.{ℤ}
use Rattle.lexical_parse_integer.specs.Answer.{with_place, view_of}

-- each value is seen as a number of its own
abbrev pub IsInjective : {X : Type 0} → (X → ℤ) → Type 0
IsInjective view = (a b : _) → view a ≡ view b → a ≡ b

pub view_same : {X E : Type 0} → (view : X → ℤ) → IsInjective view → (r s : Result X E) → view_of view r ≡ view_of view s → r ≡ s
view_same view injective (Ok x) (Ok y) e = let same : view x ≡ view y = cc in ap Ok (injective x y same)
view_same view injective (Ok x) (Err e') e = cc
view_same view injective (Err e') (Ok y) e = cc
view_same view injective (Err d) (Err e') e = let same : d ≡ e' = cc in ap Err same

with_place_same : {X : Type 0} → (view : X → ℤ) → IsInjective view → (x y : X × ℕ) → with_place view x ≡ with_place view y → x ≡ y
with_place_same view injective x y e =
    let value : view x.0 ≡ view y.0 = ap (λ (w : ℤ × ℕ). w.0) e in
    let place : x.1 ≡ y.1 = ap (λ (w : ℤ × ℕ). w.1) e in
    let first = injective x.0 y.0 value in
    ap (λ v. (v, x.1)) first ∙ ap (λ k. (y.0, k)) place

pub view_with_place_same : {X E : Type 0} → (view : X → ℤ) → IsInjective view → (r s : Result (X × ℕ) E) → view_of (with_place view) r ≡ view_of (with_place view) s → r ≡ s
view_with_place_same view injective (Ok x) (Ok y) e = let same : with_place view x ≡ with_place view y = cc in ap Ok (with_place_same view injective x y same)
view_with_place_same view injective (Ok x) (Err e') e = cc
view_with_place_same view injective (Err e') (Ok y) e = cc
view_with_place_same view injective (Err d) (Err e') e = let same : d ≡ e' = cc in ap Err same

-- a value that both have
pub view_ok_same : {X E : Type 0} → (view : X → ℤ) → IsInjective view → (r s : Result X E) → ((v : ℤ) → view_of view r ≡ Ok v → view_of view s ≡ Ok v) → OnOk r (s ≡ r)
view_ok_same view injective (Ok x) s told = view_same view injective s (Ok x) (told (view x) refl)
view_ok_same view injective (Err e) s told = tt
