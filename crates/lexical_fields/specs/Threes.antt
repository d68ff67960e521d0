-- Decimal digits in lanes, three by three.
use Rattle.std.specs.Prelude.{ℕ, ◌+◌, ◌%◌, List, [], ◌∷◌}

-- a byte less `0`, in eight bits
abbrev pub lowered : ℕ → ℕ
lowered byte = (byte + 208) % 256

-- numbers in groups of three, each followed by its first one again
abbrev pub in_threes : List ℕ → List ℕ
in_threes [] = []
in_threes (a ∷ []) = []
in_threes (a ∷ b ∷ []) = []
in_threes (a ∷ b ∷ c ∷ more) = a ∷ b ∷ c ∷ a ∷ in_threes more

-- the weights of these lanes: none is above 64, so that no sum of products leaves a lane
abbrev pub weights : List ℕ
weights = 50 ∷ 10 ∷ 1 ∷ 50 ∷ 50 ∷ 10 ∷ 1 ∷ 50 ∷ 50 ∷ 10 ∷ 1 ∷ 50 ∷ 50 ∷ 10 ∷ 1 ∷ 50 ∷ []
