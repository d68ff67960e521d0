-- The bound on turns, from the words and the digits that were taken: for `algorithm::counted::numeral`.
use Rattle.std.proofs.Common.{◌≡◌, ℕ, ◌+◌, ◌-◌, ◌*◌, ◌≤◌, ◌<◌, Bool, true, false, cond, min, refl, sym, ap, subst, arith, inl, inr, ◌⊎◌, ◌∙◌}
use Rattle.std.specs.Prelude.{◌/◌, nat_le}
use Rattle.lexical_parse_integer.specs.Turns.{turns_bound, digits_per_word}

-- a word has eight digits or four
word_cases : (bits : ℕ) → (digits_per_word bits ≡ 8) ⊎ (digits_per_word bits ≡ 4)
unfolding digits_per_word
word_cases bits = by_test (nat_le 64 bits)
  where
    by_test : (b : Bool) → let n : ℕ = cond b 8 4 in (n ≡ 8) ⊎ (n ≡ 4)
    by_test true = inl refl
    by_test false = inr refl

pub word_some : (bits : ℕ) → 1 ≤ digits_per_word bits
word_some bits = elim (word_cases bits) [ inl e ↦ omega arith | inr e ↦ omega arith ]

-- one word more
pub turn_of_word : (w d t d₀ t₀ d₁ t₁ : ℕ) → d₀ + w * t ≡ d + w * t₀ → d₁ ≡ d₀ + w → t₁ ≡ t₀ + 1 → d₁ + w * t ≡ d + w * t₁
turn_of_word w d t d₀ t₀ d₁ t₁ e more turn =
    let next : w * t₁ ≡ w * t₀ + w = ap (λ n. w * n) turn ∙ grind arith in
    omega (arith, e, more, next)

quotient_8 : (m k : ℕ) → 8 * k ≤ m → m < 8 * k + 8 → m / 8 ≡ k
quotient_8 m k low high = omega arith

quotient_4 : (m k : ℕ) → 4 * k ≤ m → m < 4 * k + 4 → m / 4 ≡ k
quotient_4 m k low high = omega arith

-- What the words left: d₀ digits were read by t₀ turns before them and d₁ by t₁ with them; no further word is
-- within the room o or the digits q.
pub record TakesWords (w o q d₀ t₀ d₁ t₁ : ℕ) : Type 0 where
  pub fresh : t₀ ≡ d₀
  pub first : (d₀ ≡ 0) ⊎ (q ≤ 1)
  pub words : d₁ + w * t₀ ≡ d₀ + w * t₁
  pub within : (d₁ ≡ d₀) ⊎ (d₁ ≤ o)
  pub ended : (o < d₁ + w) ⊎ (q < d₁ + w)
  pub some : d₀ ≤ q
  pub all : d₁ ≤ q

few_turns_8 : (o q d₀ t₀ d₁ t₁ : ℕ) → TakesWords 8 o q d₀ t₀ d₁ t₁ → t₁ + (q - d₁) ≤ turns_bound 8 o q
few_turns_8 o q d₀ t₀ d₁ t₁ s = by_first s.first
  where
    by_first : (d₀ ≡ 0) ⊎ (q ≤ 1) → t₁ + (q - d₁) ≤ turns_bound 8 o q
    by_first (inl zero) =
        let first : d₁ ≡ 8 * t₁ = omega (arith, s.fresh, s.words) in
        let most : d₁ ≤ o = elim s.within [ inl e ↦ omega arith | inr l ↦ l ] in
        let high : min q o < 8 * t₁ + 8 = elim s.ended [ inl l ↦ omega arith | inr l ↦ omega arith ] in
        let all = s.all in
        let quot = quotient_8 (min q o) t₁ (omega arith) high in
        omega arith
    by_first (inr few) =
        let a = s.fresh in
        let b = s.words in
        let c = s.some in
        let d = s.all in
        omega arith

few_turns_4 : (o q d₀ t₀ d₁ t₁ : ℕ) → TakesWords 4 o q d₀ t₀ d₁ t₁ → t₁ + (q - d₁) ≤ turns_bound 4 o q
few_turns_4 o q d₀ t₀ d₁ t₁ s = by_first s.first
  where
    by_first : (d₀ ≡ 0) ⊎ (q ≤ 1) → t₁ + (q - d₁) ≤ turns_bound 4 o q
    by_first (inl zero) =
        let first : d₁ ≡ 4 * t₁ = omega (arith, s.fresh, s.words) in
        let most : d₁ ≤ o = elim s.within [ inl e ↦ omega arith | inr l ↦ l ] in
        let high : min q o < 4 * t₁ + 4 = elim s.ended [ inl l ↦ omega arith | inr l ↦ omega arith ] in
        let all = s.all in
        let quot = quotient_4 (min q o) t₁ (omega arith) high in
        omega arith
    by_first (inr few) =
        let a = s.fresh in
        let b = s.words in
        let c = s.some in
        let d = s.all in
        omega arith

-- the turns stay within the bound, where each digit that is left takes one
pub few_turns : (bits o q d₀ t₀ d₁ t₁ : ℕ) → TakesWords (digits_per_word bits) o q d₀ t₀ d₁ t₁ → t₁ + (q - d₁) ≤ turns_bound (digits_per_word bits) o q
few_turns bits o q d₀ t₀ d₁ t₁ s =
    elim (word_cases bits) [
      | inl e ↦ subst (λ w. t₁ + (q - d₁) ≤ turns_bound w o q) (sym e) (few_turns_8 o q d₀ t₀ d₁ t₁ (subst (λ w. TakesWords w o q d₀ t₀ d₁ t₁) e s))
      | inr e ↦ subst (λ w. t₁ + (q - d₁) ≤ turns_bound w o q) (sym e) (few_turns_4 o q d₀ t₀ d₁ t₁ (subst (λ w. TakesWords w o q d₀ t₀ d₁ t₁) e s))
    ]

-- digits that take a turn each leave the bound as it is
pub still_few : (bound q d₁ t₁ d₂ t₂ : ℕ) → t₁ + (q - d₁) ≤ bound → t₂ + d₁ ≡ t₁ + d₂ → d₁ ≤ q → d₂ ≤ q → t₂ + (q - d₂) ≤ bound
still_few bound q d₁ t₁ d₂ t₂ few turns one two = omega arith

one_within_8 : (o q t : ℕ) → t ≤ 1 → t ≤ q → t ≤ turns_bound 8 o q
one_within_8 o q t one all = omega arith

one_within_4 : (o q t : ℕ) → t ≤ 1 → t ≤ q → t ≤ turns_bound 4 o q
one_within_4 o q t one all = omega arith

-- one digit's turn is within each bound
pub one_within : (bits o q t : ℕ) → t ≤ 1 → t ≤ q → t ≤ turns_bound (digits_per_word bits) o q
one_within bits o q t one all =
    elim (word_cases bits) [
      | inl e ↦ subst (λ w. t ≤ turns_bound w o q) (sym e) (one_within_8 o q t one all)
      | inr e ↦ subst (λ w. t ≤ turns_bound w o q) (sym e) (one_within_4 o q t one all)
    ]
