-- The values of blocks of hexadecimal digits: their scale is the square of a root, and all that they make fits the type.
use Rattle.std.proofs.Common.{◌≡◌, ℕ, ◌+◌, ◌-◌, ◌*◌, ◌^◌, ◌%◌, ◌<◌, ◌≤◌, Bool, List, length, Option, Some, None, sym, ap, ◌∙◌, arith}
use Rattle.std.specs.Prelude.{IfSome, ℤ, ◌+ℤ◌, ◌*ℤ◌, pos}
use Rattle.std.proofs.Math.Nat.{mul-le-mul_left, one-le-pow, pow-le-pow_right}
use Rattle.std.proofs.lemmas.Bool.{ltb-true}
use Rattle.std.proofs.lemmas.Nat.{pow-add}
use Rattle.lexical_util.specs.Compare.{pos-injective}
use Rattle.lexical_util.specs.Number.{HasRoom, IntegerType, IsNumber, number_limit}
use Rattle.lexical_digits.specs.Value.{positional_value, with_sign}
use Rattle.lexical_digits.specs.WrittenNumbers.{StandsFor, WritesFront}
use Rattle.lexical_digits.proofs.LongNumbers.{parts_worth}
use Rattle.lexical_digits.proofs.NibbleBlocks.{shift_is}

-- ---- the scale

pub root_is : (k : ℕ) → k ≤ 8 → 1 * 2 ^ (2 * k) % 4294967296 ≡ 2 ^ (2 * k)
root_is k few =
    let most : 2 ^ (2 * k) ≤ 2 ^ 16 = pow-le-pow_right {n = 2} (omega arith) (let l : 2 * k ≤ 16 = omega arith in l) in
    omega arith

pub root_below : (k : ℕ) → k ≤ 8 → 1 * 2 ^ (2 * k) % 4294967296 ≤ 16 ^ k
root_below k few =
    let less : 2 ^ (2 * k) ≤ 2 ^ (4 * k) = pow-le-pow_right {n = 2} (omega arith) (let l : 2 * k ≤ 4 * k = omega arith in l) in
    let is = root_is k few in
    let same = shift_is k in
    omega arith

root_squared : (k : ℕ) → 2 ^ (2 * k) * 2 ^ (2 * k) ≡ 16 ^ k
root_squared k =
    let twice : 2 * k + 2 * k ≡ 4 * k = omega arith in
    sym (pow-add 2 (2 * k) (2 * k)) ∙ ap (λ n. 2 ^ n) twice ∙ shift_is k

pub scale_is : (root none : ℤ) (k : ℕ) → k ≤ 8 → root ≡ pos (1 * 2 ^ (2 * k) % 4294967296) → none ≡ pos 0 → (root *ℤ root) +ℤ none ≡ pos (16 ^ k)
scale_is root none k few is is_none =
    let worth : root ≡ pos (2 ^ (2 * k)) = is ∙ ap pos (root_is k few) in
    let whole : 2 ^ (2 * k) * 2 ^ (2 * k) + 0 ≡ 16 ^ k = let e = root_squared k in omega (arith, e) in
    parts_worth root root none (2 ^ (2 * k)) (2 ^ (2 * k)) 0 worth worth is_none ∙ ap pos whole

pub some_scale : (k : ℕ) → 1 ≤ 16 ^ k
some_scale k = one-le-pow k 16 (omega arith)

-- ---- what fits

-- so few digits that the type has room for them
pub room_below : (t : IntegerType) (o n : ℕ) → HasRoom t 16 o → n ≤ o → 16 ^ n ≤ number_limit t
room_below t o n room few =
    let top = ltb-true (16 ^ o - 1) (number_limit t) room.greatest in
    let up : 16 ^ n ≤ 16 ^ o = pow-le-pow_right {n = 16} (omega arith) few in
    omega arith

pub whole_below : (n : ℕ) (text : List ℕ) (limit : ℕ) → WritesFront 16 text (length text) (pos n) → 16 ^ length text ≤ limit → n < limit
whole_below n text limit w room =
    let worth : n ≡ positional_value 16 w.values = pos-injective n (positional_value 16 w.values) w.worth in
    let below : positional_value 16 w.values < 16 ^ length text = w.below in
    omega arith

pub high_below : (high low scale limit : ℕ) → 1 ≤ scale → high * scale + low < limit → high < limit
high_below high low scale limit some small =
    let more : high * 1 ≤ high * scale = mul-le-mul_left high some in
    omega arith

-- ---- up to four digits

few_is : (high low size : ℕ) (text : List ℕ) → length text ≤ 4 → WritesFront 16 text (length text) (pos (high * 16 ^ size + low)) → high * 2 ^ (4 * size) % 4294967296 + low ≡ high * 16 ^ size + low
few_is high low size text few w =
    let most : 16 ^ length text ≤ 16 ^ 4 = pow-le-pow_right {n = 16} (omega arith) few in
    let below = whole_below (high * 16 ^ size + low) text 65536 w most in
    rw (shift_is size) (omega arith)

-- the number of two blocks of few digits, where a type has it
pub few_written : {X : Type 0} (number : X → ℤ) (t : IntegerType) (is_negative : Bool) (text : List ℕ) (high low size : ℕ) (found : Option X) → length text ≤ 4 → WritesFront 16 text (length text) (pos (high * 16 ^ size + low)) →
    IfSome found (λ x. number x ≡ with_sign is_negative (high * 2 ^ (4 * size) % 4294967296 + low)) → IfSome found (λ x. IsNumber t (number x)) → IfSome found (λ x. StandsFor t 16 is_negative text (number x))
few_written number t is_negative text high low size None few w value fits = tt
few_written number t is_negative text high low size (Some x) few w value fits = record {
  magnitude = pos (high * 16 ^ size + low);
  writes = w;
  worth = value ∙ ap (with_sign is_negative) (few_is high low size text few w);
  fits = fits;
}
