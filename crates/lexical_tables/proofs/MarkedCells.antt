-- The cells of a row, found by the marks of the text from there on.
use Rattle.std.proofs.Common.{◌≡◌, ◌∙◌, ℕ, zero, suc, ◌+◌, ◌-◌, ◌<◌, ◌≤◌, List, [], ◌∷◌, Bool, true, false, not, cond, eqb, length, length-drop, take, drop, refl, ap, sym, arith}
use Rattle.std.proofs.lemmas.List.{drop-drop, drop-take, length-take, length-take-le, take-take}
use Rattle.lexical_fields.specs.Fields.{field_length}

-- a first field that ends in front of a place does so in the bytes up to there
ends_before : (s : ℕ) (bs : List ℕ) (n : ℕ) → field_length s bs < n → field_length s (take n bs) ≡ field_length s bs
ends_before s [] zero low = refl
ends_before s [] (suc n) low = refl
ends_before s (b ∷ bs) zero low = absurd (omega arith)
ends_before s (b ∷ bs) (suc n) low = by_test (not (eqb b s)) (ends_before s bs n) low
  where
    by_test : (t : Bool) → (field_length s bs < n → field_length s (take n bs) ≡ field_length s bs)
        → cond t (1 + field_length s bs) 0 < suc n
        → cond t (1 + field_length s (take n bs)) 0 ≡ cond t (1 + field_length s bs) 0
    by_test true further low = ap (λ k. 1 + k) (further (omega (arith, low)))
    by_test false further low = refl

-- one that doesn't has all of them
ends_behind : (s : ℕ) (bs : List ℕ) (n : ℕ) → n ≤ field_length s bs → field_length s (take n bs) ≡ n
ends_behind s [] zero high = refl
ends_behind s [] (suc n) high = absurd (omega arith)
ends_behind s (b ∷ bs) zero high = refl
ends_behind s (b ∷ bs) (suc n) high = by_test (not (eqb b s)) (ends_behind s bs n) high
  where
    by_test : (t : Bool) → (n ≤ field_length s bs → field_length s (take n bs) ≡ n)
        → suc n ≤ cond t (1 + field_length s bs) 0 → cond t (1 + field_length s (take n bs)) 0 ≡ suc n
    by_test true further high = omega (arith, further (omega (arith, high)))
    by_test false further high = absurd (omega (arith, high))

-- the first field of what is left of a row, by that of the text from there on
pub field_here : (s : ℕ) (rest ahead : List ℕ) (size : ℕ) → rest ≡ take (length rest) ahead → size ≡ field_length s ahead
    → size < length rest → field_length s rest ≡ size
field_here s rest ahead size front is low =
    ap (field_length s) front ∙ ends_before s ahead (length rest) (omega (arith, is)) ∙ sym is

pub field_last : (s : ℕ) (rest ahead : List ℕ) (size : ℕ) → rest ≡ take (length rest) ahead → size ≡ field_length s ahead
    → length rest ≤ size → field_length s rest ≡ length rest
field_last s rest ahead size front is high = ap (field_length s) front ∙ ends_behind s ahead (length rest) (omega (arith, is))

-- What is left of a row stands in front of the text from there on.
pub record IsAhead (row ahead rest : List ℕ) : Type 0 where
  pub within : length rest ≤ length row
  pub front : rest ≡ take (length rest) (drop (length row - length rest) ahead)

-- behind the first `passed` bytes of the row
pub ahead_starts : (row ahead : List ℕ) (passed : ℕ) → passed ≤ length row → row ≡ take (length row) ahead
    → IsAhead row ahead (drop passed row)
ahead_starts row ahead passed low front =
    let left = length row - passed in
    let whole : length row ≡ passed + left = omega arith in
    let size : length (drop passed row) ≡ left = length-drop passed row in
    let at : length row - left ≡ passed = omega arith in
    record {
      within = omega (arith, size);
      front =
          ap (drop passed) (front ∙ ap (λ k. take k ahead) whole) ∙ drop-take passed left ahead
          ∙ sym (ap (λ n. take n (drop (length row - n) ahead)) size ∙ ap (λ k. take left (drop k ahead)) at);
    }

-- what is left is the row behind what was passed
pub ahead_rest : (row ahead rest : List ℕ) → IsAhead row ahead rest → row ≡ take (length row) ahead
    → rest ≡ drop (length row - length rest) row
ahead_rest row ahead rest here front =
    let from = length row - length rest in
    let whole : from + length rest ≡ length row = omega (arith, here.within) in
    here.front ∙ sym (drop-take from (length rest) ahead)
    ∙ ap (drop from) (ap (λ k. take k ahead) whole ∙ sym front)

-- behind a cell
pub behind_ahead : (row ahead rest behind : List ℕ) → IsAhead row ahead rest
    → behind ≡ drop (length rest - length behind) rest → length behind ≤ length rest → IsAhead row ahead behind
behind_ahead row ahead rest behind here cut shorter =
    let from = length row - length rest in
    let by = length rest - length behind in
    let place : from + by ≡ length row - length behind = omega (arith, here.within) in
    let at : drop by (drop from ahead) ≡ drop (length row - length behind) ahead =
    drop-drop by from ahead ∙ ap (λ k. drop k ahead) place in
    let whole : by + length behind ≡ length rest = omega arith in
    record {
      within = omega (arith, here.within);
      front =
          cut ∙ ap (drop by) (here.front ∙ ap (λ k. take k (drop from ahead)) (sym whole))
          ∙ drop-take by (length behind) (drop from ahead) ∙ ap (take (length behind)) at;
    }

-- ---- bytes within a cell

-- what a cell begins has its bytes
pub ahead_long : (text ahead : List ℕ) → text ≡ take (length text) ahead → length text ≤ length ahead
ahead_long text ahead front = omega (arith, ap length front, length-take (length text) ahead)

-- bytes of a cell begin what is ahead from there on
pub begins_ahead : (text ahead : List ℕ) (k n : ℕ) → text ≡ take (length text) ahead → k + n ≤ length text
    → take n (drop k text) ≡ take (length (take n (drop k text))) (drop k ahead)
begins_ahead text ahead k n front low =
    let m = length text - k in
    let whole : length text ≡ k + m = omega arith in
    let size : length (take n (drop k text)) ≡ n =
    length-take-le n (drop k text) (omega (arith, length-drop k text)) in
    ap (λ l. take n (drop k l)) (front ∙ ap (λ j. take j ahead) whole)
    ∙ ap (take n) (drop-take k m ahead)
    ∙ take-take n m (drop k ahead) (omega arith)
    ∙ ap (λ j. take j (drop k ahead)) (sym size)
