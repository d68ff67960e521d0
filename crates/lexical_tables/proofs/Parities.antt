-- How many marks stand up to a place, by sums of two halves.
use Rattle.std.proofs.Common.{◌≡◌, ◌∙◌, ℕ, zero, suc, ◌+◌, ◌-◌, ◌*◌, ◌/◌, ◌%◌, ◌^◌, ◌<◌, ap, ap₂, sym, arith, inl, inr}
use Rattle.std.specs.Int.{bit_at}
use Rattle.std.specs.Int.Bits.{bit_xor}
use Rattle.std.proofs.lemmas.Bool.{cases_lt}
use Rattle.std.proofs.lemmas.Nat.Bits.{bit_at-zero, bit_at_cat_high, bit_at_cat_low, bit_at_xor}
use Rattle.std.proofs.lemmas.Nat.{pow_pos}
use Rattle.std.proofs.Math.Nat.{mod-add-div'}
use Rattle.lexical_tables.specs.Looks.{bits_below}

-- how many of the last n bits up to a place are set
abbrev pub among : ℕ → ℕ → ℕ → ℕ
among marks zero place = 0
among marks (suc n) zero = bit_at marks 0
among marks (suc n) (suc place) = bit_at marks (suc place) + among marks n place

among_low : (marks n m k : ℕ) → k < n → among marks (n + m) k ≡ among marks n k
among_low marks zero m k low = absurd (omega arith)
among_low marks (suc n) m zero low =
    let next : suc n + m ≡ suc (n + m) = omega arith in
    ap (λ i. among marks i 0) next
among_low marks (suc n) m (suc k) low =
    let next : suc n + m ≡ suc (n + m) = omega arith in
    ap (λ i. among marks i (suc k)) next
    ∙ ap (λ i. bit_at marks (suc k) + i) (among_low marks n m k (omega arith))

among_high : (marks n m j : ℕ) → among marks (n + m) (n + j) ≡ among marks n (n + j) + among marks m j
among_high marks zero m j =
    let left : 0 + m ≡ m = omega arith in
    let right : 0 + j ≡ j = omega arith in
    ap₂ (λ a b. among marks a b) left right ∙ omega arith
among_high marks (suc n) m j =
    let left : suc n + m ≡ suc (n + m) = omega arith in
    let right : suc n + j ≡ suc (n + j) = omega arith in
    ap₂ (λ a b. among marks a b) left right
    ∙ ap (λ i. bit_at marks (suc (n + j)) + i) (among_high marks n m j)
    ∙ further (bit_at marks (suc (n + j))) (among marks n (n + j)) (among marks m j)
    ∙ ap (λ b. among marks (suc n) b + among marks m j) (sym right)
  where
    further : (a b c : ℕ) → a + (b + c) ≡ a + b + c
    further a b c = omega arith

-- all of them, where there are more than stand up to the place
pub among_all : (marks n k : ℕ) → k < n → among marks n k ≡ bits_below marks (suc k)
among_all marks zero k low = absurd (omega arith)
among_all marks (suc n) zero low = omega arith
among_all marks (suc n) (suc k) low =
    ap (λ i. bit_at marks (suc k) + i) (among_all marks n k (omega arith)) ∙ turned (bit_at marks (suc k)) (bits_below marks (suc k))
  where
    turned : (a b : ℕ) → a + b ≡ b + a
    turned a b = omega arith

-- whether an odd number of the last n marks up to each place is set, as a bit of `odd`
abbrev pub AreOdd : ℕ → ℕ → ℕ → Type 0
AreOdd marks n odd = (k : ℕ) → k < 64 → bit_at odd k ≡ among marks n k % 2

pub odd_of_one : (marks : ℕ) → AreOdd marks 1 marks
odd_of_one marks zero low = sym (mod_bit (marks / 2 ^ 0))
  where
    mod_bit : (a : ℕ) → a % 2 % 2 ≡ a % 2
    mod_bit a = omega arith
odd_of_one marks (suc k) low = sym (mod_bit (marks / 2 ^ suc k))
  where
    mod_bit : (a : ℕ) → (a % 2 + 0) % 2 ≡ a % 2
    mod_bit a = omega arith

-- twice as many, by what two halves have
pub odd_of_twice : (marks n odd twice : ℕ) → AreOdd marks n odd → ((k : ℕ) → k < n → bit_at twice k ≡ bit_at odd k)
    → ((k : ℕ) → n + k < 64 → bit_at twice (n + k) ≡ (bit_at odd (n + k) + bit_at odd k) % 2)
    → AreOdd marks (n + n) twice
odd_of_twice marks n odd twice are low high k below = elim (cases_lt k n) [
  | inl lt ↦ low k lt ∙ are k below ∙ ap (λ i. i % 2) (sym (among_low marks n n k lt))
  | inr ge ↦
      let at : n + (k - n) ≡ k = omega (arith, ge) in
      ap (bit_at twice) (sym at) ∙ high (k - n) (omega (arith, ge, below))
      ∙ ap₂ (λ a b. (a + b) % 2) (are (n + (k - n)) (omega (arith, ge, below))) (are (k - n) (omega (arith, below)))
      ∙ halves (among marks n (n + (k - n))) (among marks n (k - n))
      ∙ ap (λ i. i % 2) (sym (among_high marks n n (k - n)))
      ∙ ap (λ i. among marks (n + n) i % 2) at
]
  where
    halves : (a b : ℕ) → (a % 2 + b % 2) % 2 ≡ (a + b) % 2
    halves a b = omega arith

-- ---- a number and its marks `by` places below

kept : (a k : ℕ) → k < 64 → bit_at (a % 2 ^ 64) k ≡ bit_at a k
kept a k low =
    sym (bit_at_cat_low (a / 2 ^ 64) 64 (a % 2 ^ 64) k low)
    ∙ ap (λ n. bit_at n k) (turned (a / 2 ^ 64 * 2 ^ 64) (a % 2 ^ 64) ∙ mod-add-div' a (2 ^ 64))
  where
    turned : (a b : ℕ) → a + b ≡ b + a
    turned a b = omega arith

add_zero : (n : ℕ) → n ≡ n + 0
add_zero n = omega arith

bit_mod : (a b : ℕ) → (a % 2 + 0) % 2 ≡ a % 2
bit_mod a b = omega arith

pub below_low : (marks by k : ℕ) → by < 64 → k < by → bit_at (bit_xor marks (marks * 2 ^ by % 2 ^ 64)) k ≡ bit_at marks k
below_low marks by k few low =
    bit_at_xor marks (marks * 2 ^ by % 2 ^ 64) k
    ∙ ap (λ b. (bit_at marks k + b) % 2)
    (kept (marks * 2 ^ by) k (omega (arith, few, low)) ∙ ap (λ n. bit_at n k) (add_zero (marks * 2 ^ by))
    ∙ bit_at_cat_low marks by 0 k low ∙ bit_at-zero k)
    ∙ bit_mod (marks / 2 ^ k) 0

pub below_high : (marks by k : ℕ) → by + k < 64
    → bit_at (bit_xor marks (marks * 2 ^ by % 2 ^ 64)) (by + k) ≡ (bit_at marks (by + k) + bit_at marks k) % 2
below_high marks by k few =
    let back : by + k - by ≡ k = omega arith in
    bit_at_xor marks (marks * 2 ^ by % 2 ^ 64) (by + k)
    ∙ ap (λ b. (bit_at marks (by + k) + b) % 2)
    (kept (marks * 2 ^ by) (by + k) few ∙ ap (λ n. bit_at n (by + k)) (add_zero (marks * 2 ^ by))
    ∙ bit_at_cat_high marks by 0 (by + k) (pow_pos by) (omega arith) ∙ ap (bit_at marks) back)
