-- Hexadecimal digits in blocks: the table's entries, sums that show what is no digit, and blocks that overlap.
use Rattle.std.proofs.Common.{◌≡◌, ℕ, zero, suc, ◌+◌, ◌-◌, ◌*◌, ◌/◌, ◌^◌, ◌<◌, ◌≤◌, true, List, [], ◌∷◌, ◌++◌, length, get_or, map, take, drop, refl, sym, ap, ◌∙◌, subst, arith, Option, Some, None}
use Rattle.std.specs.Prelude.{◌==◌, slice_range, unwrap_or, pos}
use Rattle.std.proofs.Math.Nat.{pow-suc, pow-zero, pow-le-pow_right}
use Rattle.std.proofs.Math.Seq.{take-length}
use Rattle.std.proofs.lemmas.Bool.{agree_below_at, eqb-true}
use Rattle.std.proofs.lemmas.List.{length-drop, length-take-le, map-append, take-append-drop}
use Rattle.std.proofs.lemmas.Nat.{div-mul-add, mul-add-lt, pow-add}
use Rattle.lexical_util.specs.Compare.{pos-injective}
use Rattle.lexical_util.specs.Digit.{digit, digit_value}
use Rattle.lexical_digits.specs.WrittenNumbers.{WritesFront}
use Rattle.lexical_digits.specs.Value.{positional_value}
use Rattle.lexical_digits.specs.declared.nibbles.table.TheConstants.{VALUES}
use Rattle.lexical_digits.proofs.DigitValues.{positional_value-append, HaveDigits, digit_below, digits_size}
use Rattle.lexical_digits.proofs.RadixFronts.{next_read}

-- each of the 256 entries, by computing
pub value_is : (c : ℕ) → c < 256 → get_or VALUES c 0 ≡ unwrap_or (digit 16 c) 4294967296
value_is c byte = eqb-true _ _ (agree_below_at (λ k. get_or VALUES k 0 == unwrap_or (digit 16 k) 4294967296) (λ _. true) 256 c refl byte)

-- ---- sums

pub value_small : (c : ℕ) → unwrap_or (digit 16 c) 4294967296 ≤ 4294967296
value_small c = by_value (digit 16 c) refl
  where
    by_value : (value : Option ℕ) → digit 16 c ≡ value → unwrap_or value 4294967296 ≤ 4294967296
    by_value None is = omega arith
    by_value (Some d) is = let low : d < 16 = digit_below 16 (digit_value c) d is in omega arith

-- one byte more: where the sum stays below the limit, that is a digit
pub next_joined : (k n v next : ℕ) (text : List ℕ) → (n < 4294967296 → WritesFront 16 text k (pos n)) → k < length text → v ≡ unwrap_or (digit 16 (get_or text k 0)) 4294967296 → next ≡ n * 16 + v → next < 4294967296 →
    WritesFront 16 text (k + 1) (pos next)
next_joined k n v next text before more is sum small = by_value (digit 16 (get_or text k 0)) refl
  where
    by_value : (value : Option ℕ) → digit 16 (get_or text k 0) ≡ value → WritesFront 16 text (k + 1) (pos next)
    by_value None none = absurd (let large : v ≡ 4294967296 = is ∙ ap (λ o. unwrap_or o 4294967296) none in omega arith)
    by_value (Some d) some =
        let same : v ≡ d = is ∙ ap (λ o. unwrap_or o 4294967296) some in
        next_read 16 k d text (pos n) (pos next) (before (omega arith)) more some (ap pos (sum ∙ ap (λ m. n * 16 + m) same))

-- sums of up to eight bytes
abbrev pub IsSum : ℕ → ℕ → Type 0
IsSum k n = 15 * n + 4294967296 ≤ 4294967296 * 16 ^ k

pub next_sum : (k n v : ℕ) → IsSum k n → v ≤ 4294967296 → IsSum (k + 1) (n * 16 + v)
next_sum k n v before small =
    let more : 16 ^ (k + 1) ≡ 16 ^ k * 16 = let e : k + 1 ≡ suc k = omega arith in ap (λ m. 16 ^ m) e ∙ pow-suc 16 k in
    omega arith

pub sum_fits : (k n v : ℕ) → IsSum k n → k < 8 → v ≤ 4294967296 → n * 16 + v < 18446744073709551616
sum_fits k n v before few small =
    let most : 16 ^ k ≤ 16 ^ 7 = pow-le-pow_right {n = 16} (omega arith) (let l : k ≤ 7 = omega arith in l) in
    omega arith

-- ---- blocks

value_below : (r : ℕ) (bytes ds : List ℕ) → HaveDigits r bytes ds → positional_value r ds < r ^ length ds
value_below r [] [] all = let one = pow-zero r in omega arith
value_below r [] (d ∷ ds) all = cc
value_below r (c ∷ cs) [] all = cc
value_below r (c ∷ cs) (d ∷ ds) all =
    let is : digit r c ≡ Some d = cc in
    let rest : HaveDigits r cs ds = cc in
    let low : d < r = digit_below r (digit_value c) d is in
    let power : r ^ suc (length ds) ≡ r ^ length ds * r = pow-suc r (length ds) in
    rw power (mul-add-lt d (r ^ length ds) (positional_value r ds) r low (value_below r cs ds rest))

first_have : (r k : ℕ) (bytes ds : List ℕ) → HaveDigits r bytes ds → HaveDigits r (take k bytes) (take k ds)
first_have r zero bytes ds all = refl
first_have r (suc k) [] [] all = refl
first_have r (suc k) [] (d ∷ ds) all = cc
first_have r (suc k) (c ∷ cs) [] all = cc
first_have r (suc k) (c ∷ cs) (d ∷ ds) all =
    let is : digit r c ≡ Some d = cc in
    let rest : HaveDigits r cs ds = cc in
    let more = first_have r k cs ds rest in
    cc

last_have : (r k : ℕ) (bytes ds : List ℕ) → HaveDigits r bytes ds → HaveDigits r (drop k bytes) (drop k ds)
last_have r zero bytes ds all = all
last_have r (suc k) [] [] all = refl
last_have r (suc k) [] (d ∷ ds) all = cc
last_have r (suc k) (c ∷ cs) [] all = cc
last_have r (suc k) (c ∷ cs) (d ∷ ds) all = let rest : HaveDigits r cs ds = cc in last_have r k cs ds rest

-- the digits of all of a text
pub all_written : (r n : ℕ) (text ds : List ℕ) → HaveDigits r text ds → n ≡ positional_value r ds → WritesFront r text (length text) (pos n)
all_written r n text ds all worth =
    let size = digits_size r text ds all in
    record {
      values = ds;
      digits = ap (map (λ byte. digit r byte)) (take-length text) ∙ all;
      worth = ap pos worth;
      below = subst (λ (m : ℕ). positional_value r ds < r ^ m) (sym size) (value_below r text ds all);
    }

pub all_have : (r n : ℕ) (text : List ℕ) (w : WritesFront r text (length text) (pos n)) → HaveDigits r text w.values
all_have r n text w = ap (map (λ byte. digit r byte)) (sym (take-length text)) ∙ w.digits

-- the number of the first `k` digits of a text
first_worth : (r n k : ℕ) (text : List ℕ) (w : WritesFront r text (length text) (pos n)) → k ≤ length text → n / r ^ (length text - k) ≡ positional_value r (take k w.values)
first_worth r n k text w few =
    let all = all_have r n text w in
    let size = digits_size r text w.values all in
    let left : length (drop k w.values) ≡ length text - k = length-drop k w.values ∙ omega arith in
    let worth : n ≡ positional_value r w.values = pos-injective n (positional_value r w.values) w.worth in
    let parts : positional_value r w.values ≡ positional_value r (take k w.values) * r ^ (length text - k) + positional_value r (drop k w.values) =
    ap (positional_value r) (sym (take-append-drop k w.values)) ∙ positional_value-append r (take k w.values) (drop k w.values)
    ∙ ap (λ (m : ℕ). positional_value r (take k w.values) * r ^ m + positional_value r (drop k w.values)) left in
    let low : positional_value r (drop k w.values) < r ^ (length text - k) = subst (λ (m : ℕ). positional_value r (drop k w.values) < r ^ m) left (value_below r (drop k text) (drop k w.values) (last_have r k text w.values all)) in
    ap (λ (m : ℕ). m / r ^ (length text - k)) (worth ∙ parts) ∙ div-mul-add (positional_value r (take k w.values)) (r ^ (length text - k)) (positional_value r (drop k w.values)) low

-- the digits of a front and of the rest
pub joined_have : (r : ℕ) (front rest ds es : List ℕ) → HaveDigits r front ds → HaveDigits r rest es → HaveDigits r (front ++ rest) (ds ++ es)
joined_have r front rest ds es all more =
    map-append (λ byte. digit r byte) front rest ∙ ap (λ (os : List (Option ℕ)). os ++ map (λ byte. digit r byte) rest) all
    ∙ ap (λ (os : List (Option ℕ)). map Some ds ++ os) more ∙ sym (map-append Some ds es)

take_less : (k m : ℕ) (bytes : List ℕ) → k ≤ m → take k (take m bytes) ≡ take k bytes
take_less zero m bytes less = refl
take_less (suc k) zero bytes less = absurd (omega arith)
take_less (suc k) (suc m) [] less = refl
take_less (suc k) (suc m) (b ∷ bs) less = ap (λ (rest : List ℕ). b ∷ rest) (take_less k m bs (omega arith))

-- two blocks of one size make up a text, though they overlap
pub blocks_write : (r size first last : ℕ) (text front back : List ℕ) → size ≤ length text → length text ≤ 2 * size → front ≡ take size text → back ≡ drop (length text - size) text →
    WritesFront r front (length front) (pos first) → WritesFront r back (length back) (pos last) →
    WritesFront r text (length text) (pos (first / r ^ (2 * size - length text) * r ^ size + last))
blocks_write r size first last text front back many few is_front is_back w v =
    let k : ℕ = length text - size in
    let front_size : length front ≡ size = ap length is_front ∙ length-take-le size text many in
    let back_size : length back ≡ size = ap length is_back ∙ length-drop k text ∙ omega arith in
    let rest : length front - k ≡ 2 * size - length text = omega arith in
    let begins : take k front ≡ take k text = ap (take k) is_front ∙ take_less k size text (omega arith) in
    let worth : first / r ^ (2 * size - length text) ≡ positional_value r (take k w.values) = ap (λ (m : ℕ). first / r ^ m) (sym rest) ∙ first_worth r first k front w (omega arith) in
    let before : HaveDigits r (take k text) (take k w.values) = subst (λ (bs : List ℕ). HaveDigits r bs (take k w.values)) begins (first_have r k front w.values (all_have r first front w)) in
    let after : HaveDigits r (drop k text) v.values = subst (λ (bs : List ℕ). HaveDigits r bs v.values) is_back (all_have r last back v) in
    let whole : HaveDigits r text (take k w.values ++ v.values) = subst (λ (bs : List ℕ). HaveDigits r bs (take k w.values ++ v.values)) (take-append-drop k text) (joined_have r (take k text) (drop k text) (take k w.values) v.values before after) in
    let last_is : last ≡ positional_value r v.values = pos-injective last (positional_value r v.values) v.worth in
    let size_is : length v.values ≡ size = sym (digits_size r back v.values (all_have r last back v)) ∙ back_size in
    all_written r _ text (take k w.values ++ v.values) whole
    (ap (λ (m : ℕ). m * r ^ size + last) worth ∙ ap (λ (m : ℕ). positional_value r (take k w.values) * r ^ size + m) last_is
    ∙ ap (λ (m : ℕ). positional_value r (take k w.values) * r ^ m + positional_value r v.values) (sym size_is)
    ∙ sym (positional_value-append r (take k w.values) v.values))

-- a shift by four bits a digit
pub shift_is : (k : ℕ) → 2 ^ (4 * k) ≡ 16 ^ k
shift_is zero = refl
shift_is (suc k) =
    let e : 4 * suc k ≡ 4 * k + 4 = omega arith in
    ap (λ n. 2 ^ n) e ∙ pow-add 2 (4 * k) 4 ∙ ap (λ n. n * 16) (shift_is k) ∙ sym (pow-suc 16 k)

pub blocks_shifted : (size first last : ℕ) (text : List ℕ) → size ≤ length text → length text ≤ 2 * size → WritesFront 16 (take size text) (length (take size text)) (pos first) →
    WritesFront 16 (slice_range text (length text - size) (length text)) (length (slice_range text (length text - size) (length text))) (pos last) →
    WritesFront 16 text (length text) (pos (first / 2 ^ (4 * (2 * size - length text)) * 16 ^ size + last))
blocks_shifted size first last text many few w v =
    let k : ℕ = length text - size in
    let left : length text - k ≡ length (drop k text) = sym (length-drop k text) in
    let back : slice_range text k (length text) ≡ drop k text = ap (λ (n : ℕ). take n (drop k text)) left ∙ take-length (drop k text) in
    subst (λ (n : ℕ). WritesFront 16 text (length text) (pos (first / n * 16 ^ size + last))) (sym (shift_is (2 * size - length text)))
    (blocks_write 16 size first last text (take size text) (slice_range text k (length text)) many few refl back w v)
