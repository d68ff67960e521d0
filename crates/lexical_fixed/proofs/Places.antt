-- A search in a row of places: for faults at a digit.
use Rattle.std.proofs.Common.{◌≡◌, ℕ, zero, suc, ◌+◌, ◌<◌, ◌≤◌, Bool, true, false, refl, sym, ap, ◌∙◌, arith, Some, None}
use Rattle.std.specs.Prelude.{find}
use Rattle.std.specs.List.{range_with_len}

-- the first `before` places fail, and the next one passes
pub find_place : (test : ℕ → Bool) (from count before : ℕ) → before < count → ((at : ℕ) → at < from + before → from ≤ at → test at ≡ false) → test (from + before) ≡ true
    → find test (range_with_len from count) ≡ Some (from + before)
find_place test from zero before more fail here = absurd (omega arith)
find_place test from (suc n) zero more fail here =
    let same : from + 0 ≡ from = omega arith in
    let yes : test from ≡ true = ap test (sym same) ∙ here in
    rw yes (ap Some (sym same))
find_place test from (suc n) (suc m) more fail here =
    let no : test from ≡ false = fail from (omega arith) (omega arith) in
    let same : from + 1 + m ≡ from + suc m = omega arith in
    rw no (find_place test (from + 1) n m (omega arith) (λ at high low. fail at (omega arith) (omega arith)) (ap test same ∙ here) ∙ ap Some same)

-- no place passes
pub find_no_place : (test : ℕ → Bool) (from count : ℕ) → ((at : ℕ) → from ≤ at → at < from + count → test at ≡ false) → find test (range_with_len from count) ≡ None
find_no_place test from zero none = refl
find_no_place test from (suc n) none =
    let no : test from ≡ false = none from (omega arith) (omega arith) in
    rw no (find_no_place test (from + 1) n (λ at low high. none at (omega arith) (omega arith)))
