-- Where the whole fields of a text end.
use Rattle.std.proofs.Common.{◌≡◌, ◌≢◌, ℕ, zero, suc, ◌==◌, ◌<◌, ◌≤◌, List, [], ◌∷◌, true, false, eqb, length, get_or, refl, ap, subst, arith, inl, inr}
use Rattle.std.specs.List.{list_any}
use Rattle.std.proofs.lemmas.Bool.Decides.{eqb_tells}
use Rattle.std.proofs.lemmas.List.Folds.{list_any_at}
use Rattle.lexical_fields.specs.Parts.{whole_fields}

-- no separator stands at or behind a place of the text
pub record NoneFrom (separator : ℕ) (text : List ℕ) (size : ℕ) : Type 0 where
  pub within : size ≤ length text
  pub none : (k : ℕ) → size ≤ k → k < length text → get_or text k 0 ≢ separator

-- a text without the separator
none_at_all : (s : ℕ) (text : List ℕ) → ((k : ℕ) → k < length text → get_or text k 0 ≢ s)
    → list_any (λ it. it == s) text ≡ false
none_at_all s [] none = refl
none_at_all s (b ∷ rest) none =
    elim (eqb_tells b s) [
      | inl is ↦ absurd (none 0 (omega arith) is.1)
      | inr is ↦ rw is.0 (none_at_all s rest (λ k low. none (suc k) (omega (arith, low))))
    ]

-- a text with the separator at a place
some_at : (s : ℕ) (text : List ℕ) (k : ℕ) → k < length text → get_or text k 0 ≡ s
    → list_any (λ it. it == s) text ≡ true
some_at s text k low here = list_any_at (λ it. it == s) text k 0 low (same (get_or text k 0) s here)
  where
    same : (x s : ℕ) → x ≡ s → eqb x s ≡ true
    same x s is = elim (eqb_tells x s) [ inl yet ↦ yet.0 | inr not ↦ absurd (not.1 is) ]

-- the whole fields end behind the last separator
pub whole_is : (s : ℕ) (text : List ℕ) (n : ℕ) → NoneFrom s text n
    → ((k : ℕ) → n ≡ suc k → get_or text k 0 ≡ s) → n ≡ whole_fields s text
whole_is s [] n none last = omega (arith, none.within)
whole_is s (b ∷ rest) zero none last =
    rw (none_at_all s (b ∷ rest) (λ k low. none.none k (omega arith) low)) refl
whole_is s (b ∷ rest) (suc m) none last =
    let some = some_at s (b ∷ rest) m (omega (arith, none.within)) (last m refl) in
    let behind : NoneFrom s rest m = record {
      within = omega (arith, none.within);
      none = λ k high low. none.none (suc k) (omega (arith, high)) (omega (arith, low));
    } in
    rw some (ap suc (whole_is s rest m behind (λ k is. subst (λ j. get_or (b ∷ rest) j 0 ≡ s) is (last m refl))))
