-- A fraction that goes to the text's end, by the number that its digits stand for: for the quick way.
use Rattle.std.proofs.Common.{◌≡◌, ℕ, ◌-◌, Bool, true, false, List, [], ◌∷◌, map, Some, is_some, refl, sym, ap, ◌∙◌, arith}
use Rattle.std.proofs.Math.IntN.{ℤ, pos}
use Rattle.std.proofs.Math.Seq.{take-length}
use Rattle.lexical_util.specs.Digit.{digit}
use Rattle.lexical_util.specs.Number.{IntegerType}
use Rattle.lexical_digits.specs.Value.{positional_value}
use Rattle.lexical_digits.specs.Words.{AreDigits}
use Rattle.lexical_digits.specs.WrittenNumbers.{StandsFor}
use Rattle.lexical_digits.proofs.AsciiDigits.{digit_from, digit_to}
use Rattle.lexical_fixed.specs.Quick.{IsJoined}

-- bytes that have values are digits, worth these
pub record HaveValues (bytes values : List ℕ) : Type 0 where
  pub digits : AreDigits 10 bytes
  pub worth : map (λ byte. byte - 48) bytes ≡ values

pub have_values : (bytes values : List ℕ) → map (λ byte. digit 10 byte) bytes ≡ map Some values → HaveValues bytes values
have_values [] [] same = record { digits = tt; worth = refl }
have_values [] (v ∷ vs) same = absurd (cc)
have_values (b ∷ bs) [] same = absurd (cc)
have_values (b ∷ bs) (v ∷ vs) same =
    let first : digit 10 b ≡ Some v = cc in
    let more : map (λ byte. digit 10 byte) bs ≡ map Some vs = cc in
    let rest = have_values bs vs more in
    let is : is_some (digit 10 b) ≡ true = ap is_some first in
    let value : digit 10 b ≡ Some (b - 48) = digit_from 10 b (digit_to 10 b is (omega arith)) (omega arith) in
    let worth : b - 48 ≡ v = grind (arith, first, value) in
    record { digits = (is, rest.digits); worth = rw worth (ap (λ (all : List ℕ). v ∷ all) rest.worth) }

-- digits that stand for a value are its digits
pub standing_joined : (t : IntegerType) (b : Bool) (bytes : List ℕ) (value : ℤ) → (s : StandsFor t 10 b bytes value) → IsJoined bytes (positional_value 10 s.writes.values)
standing_joined t b bytes value s =
    let have = have_values bytes s.writes.values (ap (map (λ byte. digit 10 byte)) (sym (take-length bytes)) ∙ s.writes.digits) in
    record { digits = have.digits; worth = ap (positional_value 10) (sym have.worth) }

-- bytes that stand for a number are its digits
pub joined_digits : (t : IntegerType) (bytes : List ℕ) (number : ℕ) → StandsFor t 10 false bytes (pos number) → IsJoined bytes number
joined_digits t bytes number s =
    let w = s.writes in
    let same : map (λ byte. digit 10 byte) bytes ≡ map Some w.values = ap (map (λ byte. digit 10 byte)) (sym (take-length bytes)) ∙ w.digits in
    let have = have_values bytes w.values same in
    let equal : pos number ≡ pos (positional_value 10 w.values) = s.worth ∙ w.worth in
    let number_is : number ≡ positional_value 10 w.values = grind (arith, equal) in
    record {
      digits = have.digits;
      worth = number_is ∙ ap (positional_value 10) (sym have.worth);
    }
