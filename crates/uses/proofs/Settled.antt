-- What the front of a JSON number tells is final where the partial answer is settled.
use Rattle.std.proofs.Common.{◌≡◌, ◌∙◌, ℕ, zero, suc, ◌+◌, ◌-◌, ◌<◌, true, List, [], ◌∷◌, length, refl, sym, ap, subst, add-one, arith, Ok, Some}
use Rattle.std.proofs.Math.IntN.{ℤ}
use Rattle.std.proofs.lemmas.Bool.{lt-ltb}
use Rattle.std.specs.Prelude.{◌&&◌, is_some, nat_lt, option_and_then, slice_get}
use Rattle.lexical_util.specs.Digit.{digit}
use Rattle.lexical_util.specs.Format.{json}
use Rattle.lexical_util.specs.Number.{integer_type}
use Rattle.lexical_parse_integer.specs.Grammar.{partial}
use Rattle.lexical_parse_integer.specs.Runs.{digit_at}
use Rattle.lexical_parse_integer.specs.Laws.{IsLocal, IsSettledAt, SameFront}
use Rattle.lexical_parse_integer.specs.Stops.{stops_after_digit}
use Rattle.uses.specs.Json.{IsFinal}

-- texts with the same first bytes have the same byte at each place among them
same_byte : (count place : ℕ) (text other : List ℕ) → SameFront count text other → place < count
    → slice_get other place ≡ slice_get text place
same_byte zero place text other same low = absurd (omega arith)
same_byte (suc n) place [] [] same low = refl
same_byte (suc n) place [] (y ∷ ys) same low = cc
same_byte (suc n) place (x ∷ xs) [] same low = cc
same_byte (suc n) zero (x ∷ xs) (y ∷ ys) same low = let first : y ≡ x = cc in ap Some first
same_byte (suc n) (suc place) (x ∷ xs) (y ∷ ys) same low = same_byte n place xs ys (cc) (omega arith)

-- and where the one goes on behind them, so does the other
same_inside : (count : ℕ) (text other : List ℕ) → SameFront (suc count) text other
    → count < length text → count < length other
same_inside count [] other same inside = absurd (omega arith)
same_inside count (x ∷ xs) [] same inside = cc
same_inside zero (x ∷ xs) (y ∷ ys) same inside = omega arith
same_inside (suc n) (x ∷ xs) (y ∷ ys) same inside = let rest = same_inside n xs ys (cc) (omega arith) in omega arith

same_digit : (text other : List ℕ) (place : ℕ) → SameFront (suc place) text other
    → stops_after_digit 10 other place ≡ stops_after_digit 10 text place
unfolding digit_at
same_digit text other place same =
    ap (λ byte. nat_lt 0 place && is_some (option_and_then (λ c. digit 10 c) byte))
    (same_byte (suc place) (place - 1) text other same (omega arith))

-- a front that ends before the text does
pub final_behind : (text : List ℕ) (value : ℤ) (end : ℕ) → IsLocal json (integer_type 64 true)
    → partial json (integer_type 64 true) text ≡ Ok (value, end) → end < length text
    → IsFinal (end + 1) text
final_behind text value end local read inside other same =
    let settled : IsSettledAt (length text) end (partial json (integer_type 64 true) text) =
    subst (IsSettledAt (length text) end) (sym read) (refl, inside) in
    let answer : partial json (integer_type 64 true) other ≡ Ok (value, end) =
    local text other end settled same ∙ read in
    let front : SameFront (suc end) text other = rw add-one at same in
    let within : nat_lt end (length text) ≡ true = lt-ltb end (length text) inside in
    let within_other : nat_lt end (length other) ≡ true =
    lt-ltb end (length other) (same_inside end text other front inside) in
    let digit = same_digit text other end front in
    rw (answer, read, within, within_other, digit) refl
