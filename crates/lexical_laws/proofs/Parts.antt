-- The bytes of a text that is parts put together.
use Rattle.std.proofs.Common.{◌≡◌, ℕ, zero, suc, ◌+◌, ◌<◌, List, [], ◌∷◌, ◌++◌, length, drop, refl, sym, ap, arith, Some}
use Rattle.std.specs.Prelude.{replicate, slice_get}

-- behind a front
pub get_behind : (front rest : List ℕ) (k : ℕ) → slice_get (front ++ rest) (length front + k) ≡ slice_get rest k
get_behind [] rest k = let e : 0 + k ≡ k = omega arith in ap (slice_get rest) e
get_behind (b ∷ front) rest k = let e : suc (length front) + k ≡ suc (length front + k) = omega arith in rw e (get_behind front rest k)

-- within a front
pub get_within : (front rest : List ℕ) (k : ℕ) → k < length front → slice_get (front ++ rest) k ≡ slice_get front k
get_within [] rest k l = absurd (omega arith)
get_within (b ∷ front) rest zero l = refl
get_within (b ∷ front) rest (suc k) l = get_within front rest k (omega arith)

pub get_replicate : (n k b : ℕ) → k < n → slice_get (replicate n b) k ≡ Some b
get_replicate zero k b l = absurd (omega arith)
get_replicate (suc n) zero b l = refl
get_replicate (suc n) (suc k) b l = get_replicate n k b (omega arith)

pub get_drop : (n k : ℕ) (xs : List ℕ) → slice_get (drop n xs) k ≡ slice_get xs (n + k)
get_drop zero k xs = let e : 0 + k ≡ k = omega arith in sym (ap (slice_get xs) e)
get_drop (suc n) k [] = refl
get_drop (suc n) k (x ∷ xs) = let e : suc n + k ≡ suc (n + k) = omega arith in rw e (get_drop n k xs)

-- a front of one byte over and over
pub as_replicate : (xs : List ℕ) (n b : ℕ) → ((k : ℕ) → k < n → slice_get xs k ≡ Some b) → xs ≡ replicate n b ++ drop n xs
as_replicate xs zero b all = refl
as_replicate [] (suc n) b all = let first = all 0 (omega arith) in cc
as_replicate (x ∷ xs) (suc n) b all =
    let first : x ≡ b = let e = all 0 (omega arith) in cc in
    let rest : xs ≡ replicate n b ++ drop n xs = as_replicate xs n b (λ k l. all (suc k) (omega arith)) in
    rw first (ap (λ ys. b ∷ ys) rest)

-- the last byte, and what stands before it
pub as_push : (xs : List ℕ) (k b : ℕ) → length xs ≡ suc k → slice_get xs k ≡ Some b → (front : List ℕ) × (xs ≡ front ++ b ∷ [])
as_push [] k b size e = absurd (omega arith)
as_push (x ∷ []) zero b size e = ([], cc)
as_push (x ∷ []) (suc k) b size e = absurd (omega arith)
as_push (x ∷ y ∷ xs) zero b size e = absurd (omega arith)
as_push (x ∷ y ∷ xs) (suc k) b size e =
    let more = as_push (y ∷ xs) k b (omega arith) e in
    (x ∷ more.0, ap (λ ys. x ∷ ys) more.1)

-- the byte behind a front
pub get_pushed : (front : List ℕ) (b : ℕ) → slice_get (front ++ b ∷ []) (length front) ≡ Some b
get_pushed [] b = refl
get_pushed (x ∷ front) b = get_pushed front b
