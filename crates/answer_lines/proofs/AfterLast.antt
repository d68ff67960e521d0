-- What stands after the last element that passes a test, with one more element in front.
use Rattle.std.proofs.Common.{◌≡◌, ℕ, suc, ◌+◌, ◌-◌, ◌<◌, ◌≤◌, Bool, true, false, cond, not, eqb, List, [], ◌∷◌, length, drop, refl, ap, ◌∙◌, arith}
use mathlib.Core.List.{reverse, reverse-cons}
use Rattle.std.specs.List.{after_last, prefix_len, suffix_len}
use Rattle.std.proofs.lemmas.Bool.Decides.{nat_tests}
use Rattle.std.proofs.lemmas.List.{length-reverse}
use Rattle.std.proofs.lemmas.List.Folds.{prefix_len-append}
use Rattle.std.proofs.lemmas.List.Sums.{suffix_len-le-length}

full : (k n : ℕ) → k ≡ n → eqb k n ≡ true
full k n e = grind (arith, nat_tests)

not_full : (k n : ℕ) → k < n → eqb k n ≡ false
not_full k n lt = grind (arith, nat_tests)

full_is : (k n : ℕ) → eqb k n ≡ true → k ≡ n
full_is k n e = grind (arith, nat_tests)

not_full_is : (k n : ℕ) → k ≤ n → eqb k n ≡ false → k < n
not_full_is k n le e = grind (arith, nat_tests)

drop_none : {X : Type 0} (xs : List X) (k n : ℕ) → k ≡ n → drop (n - k) xs ≡ xs
drop_none xs k n e = let z : n - k ≡ 0 = omega arith in ap (λ m. drop m xs) z

drop_first : {X : Type 0} (x : X) (xs : List X) (k n : ℕ) → k ≡ n → drop (suc n - k) (x ∷ xs) ≡ xs
drop_first x xs k n e = let one : suc n - k ≡ 1 = omega arith in ap (λ m. drop m (x ∷ xs)) one

drop_more : {X : Type 0} (x : X) (xs : List X) (k n : ℕ) → k < n → drop (suc n - k) (x ∷ xs) ≡ drop (n - k) xs
drop_more x xs k n lt = let more : suc n - k ≡ suc (n - k) = omega arith in ap (λ m. drop m (x ∷ xs)) more

module _ {X : Type 0} (p : X → Bool) where
  -- how many stand behind the last that passes
  abbrev pub behind : List X → ℕ
  behind xs = suffix_len (λ x. not (p x)) xs

  -- whether none passes
  abbrev pub is_none : List X → Bool
  is_none xs = eqb (behind xs) (length xs)

  behind-cons : (x : X) (xs : List X)
      → behind (x ∷ xs) ≡ cond (is_none xs) (length xs + cond (not (p x)) 1 0) (behind xs)
  behind-cons x xs =
      ap (prefix_len (λ y. not (p y))) (reverse-cons x xs)
      ∙ prefix_len-append (λ y. not (p y)) (reverse xs) (x ∷ []) ∙ rw (length-reverse xs) refl

  -- the first alone passes
  pub at_first : (x : X) (xs : List X) → is_none xs ≡ true → p x ≡ true
      → (is_none (x ∷ xs) ≡ false) × (after_last p xs ≡ xs) × (after_last p (x ∷ xs) ≡ xs)
  at_first x xs none passes =
      let k : behind xs ≡ length xs = full_is (behind xs) (length xs) none in
      let e : behind (x ∷ xs) ≡ length xs =
      behind-cons x xs ∙ ap (λ b. cond b (length xs + cond (not (p x)) 1 0) (behind xs)) none
      ∙ ap (λ b. length xs + cond (not b) 1 0) passes ∙ omega arith in (
        not_full (behind (x ∷ xs)) (suc (length xs)) (omega (arith, e)),
        drop_none xs (behind xs) (length xs) k,
        drop_first x xs (behind (x ∷ xs)) (length xs) e,
      )

  -- none passes
  pub at_none : (x : X) (xs : List X) → is_none xs ≡ true → p x ≡ false
      → (is_none (x ∷ xs) ≡ true) × (after_last p xs ≡ xs) × (after_last p (x ∷ xs) ≡ x ∷ xs)
  at_none x xs none fails =
      let k : behind xs ≡ length xs = full_is (behind xs) (length xs) none in
      let e : behind (x ∷ xs) ≡ suc (length xs) =
      behind-cons x xs ∙ ap (λ b. cond b (length xs + cond (not (p x)) 1 0) (behind xs)) none
      ∙ ap (λ b. length xs + cond (not b) 1 0) fails ∙ omega arith in (
        full (behind (x ∷ xs)) (suc (length xs)) e,
        drop_none xs (behind xs) (length xs) k,
        drop_none (x ∷ xs) (behind (x ∷ xs)) (suc (length xs)) e,
      )

  -- one behind the first passes
  pub at_rest : (x : X) (xs : List X) → is_none xs ≡ false
      → (is_none (x ∷ xs) ≡ false) × (after_last p (x ∷ xs) ≡ after_last p xs)
  at_rest x xs some =
      let k : behind xs < length xs = not_full_is (behind xs) (length xs)
      (suffix_len-le-length (λ y. not (p y)) xs) some in
      let e : behind (x ∷ xs) ≡ behind xs =
      behind-cons x xs ∙ ap (λ b. cond b (length xs + cond (not (p x)) 1 0) (behind xs)) some in (
        not_full (behind (x ∷ xs)) (suc (length xs)) (omega (arith, e, k)),
        ap (λ m. drop (suc (length xs) - m) (x ∷ xs)) e ∙ drop_more x xs (behind xs) (length xs) k,
      )
