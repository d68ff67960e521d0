-- A search in a row of places: for range faults, and for the digits between two places.
use Rattle.std.proofs.Common.{◌≡◌, ℕ, zero, suc, ◌+◌, ◌-◌, ◌<◌, ◌≤◌, Bool, true, false, cond, sym, ◌++◌, List, [], ◌∷◌, length, get_or, refl, ap, ◌∙◌, arith, Some, None}
use Rattle.std.specs.Prelude.{filter, find}
use Rattle.std.specs.List.{range_with_len}

-- the first of them that passes is the m-th
pub find_place : (test : ℕ → Bool) (a n m i : ℕ) → a + m ≡ i → m < n → ((j : ℕ) → a ≤ j → j < i → test j ≡ false) → test i ≡ true → find test (range_with_len a n) ≡ Some i
find_place test a zero m i e l below here = absurd (omega arith)
find_place test a (suc n) zero i e l below here =
    let same : a ≡ i = omega arith in
    let yes : test a ≡ true = ap test same ∙ here in
    rw yes (ap Some same)
find_place test a (suc n) (suc m) i e l below here =
    let no : test a ≡ false = below a (omega arith) (omega arith) in
    rw no (find_place test (a + 1) n m i (omega arith) (omega arith) (λ j low high. below j (omega arith) high) here)

-- none of them passes
pub find_no_place : (test : ℕ → Bool) (a n : ℕ) → ((j : ℕ) → a ≤ j → j < a + n → test j ≡ false) → find test (range_with_len a n) ≡ None
find_no_place test a zero none = refl
find_no_place test a (suc n) none =
    let no : test a ≡ false = none a (omega arith) (omega arith) in
    rw no (find_no_place test (a + 1) n (λ j low high. none j (omega arith) (omega arith)))

-- ---- a row of places in two parts

kept-append : (t : Bool) (a : ℕ) (xs ys zs : List ℕ) → xs ≡ ys ++ zs → cond t (a ∷ xs) xs ≡ cond t (a ∷ ys) ys ++ zs
kept-append true a xs ys zs e = ap (λ ps. a ∷ ps) e
kept-append false a xs ys zs e = e

-- a row of places in two parts
pub filter_range-split : (g : ℕ → Bool) (a m n b : ℕ) → a + m ≡ b → filter g (range_with_len a (m + n)) ≡ filter g (range_with_len a m) ++ filter g (range_with_len b n)
filter_range-split g a zero n b e =
    let same : a ≡ b = omega arith in
    let none : 0 + n ≡ n = omega arith in
    rw (none, same) refl
filter_range-split g a (suc m) n b e =
    let next : suc m + n ≡ suc (m + n) = omega arith in
    rw next (kept-append (g a) a _ _ _ (filter_range-split g (a + 1) m n b (omega arith)))

pub get_or-append_seam : (xs ys : List ℕ) → get_or (xs ++ ys) (length xs) 0 ≡ get_or ys 0 0
get_or-append_seam [] ys = refl
get_or-append_seam (x ∷ xs) ys = get_or-append_seam xs ys

-- the places that pass, parted at one of them
pub filter_range-at : (g : ℕ → Bool) (j p e : ℕ) → j ≤ p → p < e → g p ≡ true → filter g (range_with_len j (e - j)) ≡ filter g (range_with_len j (p - j)) ++ p ∷ filter g (range_with_len (p + 1) (e - p - 1))
filter_range-at g j p e low l here =
    let whole : p - j + suc (e - p - 1) ≡ e - j = omega arith in
    let first : filter g (range_with_len p (suc (e - p - 1))) ≡ p ∷ filter g (range_with_len (p + 1) (e - p - 1)) = rw here refl in
    ap (λ n. filter g (range_with_len j n)) (sym whole) ∙ filter_range-split g j (p - j) (suc (e - p - 1)) p (omega arith) ∙ ap (λ ps. filter g (range_with_len j (p - j)) ++ ps) first
