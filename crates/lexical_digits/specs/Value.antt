-- What digits are worth.
use Rattle.std.specs.Prelude.{ℕ, ◌+◌, ◌*◌, ◌^◌, Bool, if◌then◌else◌, List, [], ◌∷◌, length, ℤ, pos, neg_ℤ}

-- each digit times the radix to the power of the number of digits after it
abbrev pub positional_value : ℕ → List ℕ → ℕ
positional_value radix [] = 0
positional_value radix (digit ∷ digits) =
    digit * radix ^ length digits + positional_value radix digits

-- n, or -n behind a minus
abbrev pub with_sign : Bool → ℕ → ℤ
with_sign is_negative n = if is_negative then neg_ℤ (pos n) else pos n
