-- Bytes as digits of a radix.
use Rattle.std.specs.Prelude.{ℕ, [], ◌∷◌, Option, Some, None}
use Rattle.std.proofs.Common.{refl}
use Rattle.lexical_util.specs.Digit.{digit}
use Rattle.library_tests.proofs.Tables.{Reads}

-- what a byte is worth in a radix
abbrev worth : ℕ × ℕ → Option ℕ
worth (byte, radix) = digit radix byte

digits_of_a_radix : Reads worth (
    -- 0 to 2, 9
    ((48, 2), Some 0) ∷ ((49, 2), Some 1) ∷ ((50, 2), None) ∷ ((57, 10), Some 9) ∷ ((57, 36), Some 9) ∷
    -- `a`, `A`, `f`, `F`, `g`, `G`
    ((97, 10), None) ∷ ((97, 11), Some 10) ∷ ((65, 11), Some 10) ∷
    ((102, 16), Some 15) ∷ ((70, 16), Some 15) ∷ ((103, 16), None) ∷ ((71, 16), None) ∷
    -- `z`, `Z`
    ((122, 36), Some 35) ∷ ((90, 36), Some 35) ∷ ((122, 35), None) ∷
    -- the bytes beside digits and letters, the least byte and the greatest
    ((47, 36), None) ∷ ((58, 36), None) ∷ ((64, 36), None) ∷ ((91, 36), None) ∷ ((96, 36), None) ∷
    ((123, 36), None) ∷ ((0, 36), None) ∷ ((255, 36), None) ∷
    [])
digits_of_a_radix = refl
