-- Digits as lanes of a vector: which bytes are digits, and how neighbours are joined.
use Rattle.std.specs.Prelude.{ℕ, ◌+◌, ◌*◌, Bool, ◌&&◌, nat_le, nat_lt, List, [], ◌∷◌}
use Rattle.std.specs.List.{list_all}
use Rattle.lexical_util.specs.Ascii.{digit_zero}

-- whether a byte is one of the `radix` bytes from `0` on
abbrev pub is_digit_lane : ℕ → ℕ → Bool
is_digit_lane radix byte = nat_le digit_zero byte && nat_lt byte (digit_zero + radix)

-- whether all bytes are
abbrev pub are_digit_lanes : ℕ → List ℕ → Bool
are_digit_lanes radix bytes = list_all (is_digit_lane radix) bytes

-- neighbours joined: the left times the scale, and the right
abbrev pub pairs_of : ℕ → List ℕ → List ℕ
pairs_of scale [] = []
pairs_of scale (left ∷ []) = []
pairs_of scale (left ∷ right ∷ more) = (left * scale + right) ∷ pairs_of scale more
