-- Integers of every type as whole numbers.
use Rattle.std.specs.Prelude.{◌≡◌, ℤ}

-- A value, what a wider type has for it, and what this is as a number: they stand for the same number.
abbrev pub Widens : {T W : Type 0} → (T → ℤ) → (T → W → Type 0) → (W → ℤ → Type 0) → Type 0
Widens {T} {W} number wide_is number_is =
    (value : T) → (wide : W) → (result : ℤ) → wide_is value wide → number_is wide result
    → result ≡ number value
