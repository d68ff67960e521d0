-- The places of digits, as a stretch grows: for the count of a cursor.
use Rattle.std.proofs.Common.{◌≡◌, ℕ, zero, suc, ◌+◌, ◌-◌, ◌≤◌, ◌<◌, Bool, true, cond, List, [], ◌∷◌, ◌++◌, length, length-append, filter, Some, None, is_some, refl, ◌∙◌, ap, arith}
use Rattle.std.specs.List.{range_with_len}
use Rattle.std.proofs.lemmas.List.{append-nil}
use Rattle.std.proofs.lemmas.List.Elements.{filter-append}
use Rattle.std.proofs.lemmas.List.FromFn.{length-range_with_len}
use Rattle.std.proofs.lemmas.List.Sums.{length-filter, count_by-le-length}
use Rattle.lexical_parse_integer.specs.Runs.{digit_at, digits_between}
use Rattle.lexical_parse_integer.specs.Seeking.{HasNoDigit}
use Rattle.lexical_parse_integer.proofs.grammar.Stretches.{range_more}

-- one place more
pub digits_between_more : (r : ℕ) (b : List ℕ) (j k : ℕ) → j ≤ k → digits_between r b j (k + 1) ≡ digits_between r b j k ++ cond (is_some (digit_at r b k)) (k ∷ []) []
unfolding digits_between
digits_between_more r b j k low =
    let test : ℕ → Bool = λ m. is_some (digit_at r b m) in
    let e : k + 1 - j ≡ suc (k - j) = omega arith in
    ap (λ n. filter test (range_with_len j n)) e ∙ ap (filter test) (range_more j (k - j) k (omega arith)) ∙ filter-append test (range_with_len j (k - j)) (k ∷ [])

pub digits_between_none : (r : ℕ) (b : List ℕ) (j : ℕ) → digits_between r b j j ≡ []
unfolding digits_between
digits_between_none r b j = let e : j - j ≡ 0 = omega arith in rw e refl

-- a digit more
pub digits_between_digit : (r : ℕ) (b : List ℕ) (j k v : ℕ) → j ≤ k → digit_at r b k ≡ Some v → digits_between r b j (k + 1) ≡ digits_between r b j k ++ k ∷ []
digits_between_digit r b j k v low e = digits_between_more r b j k low ∙ rw e refl

-- places that hold no digit
pub digits_between_skip : (r : ℕ) (b : List ℕ) (j p n : ℕ) → j ≤ p → HasNoDigit r b p (p + n) → digits_between r b j (p + n) ≡ digits_between r b j p
digits_between_skip r b j p zero low none = let e : p + 0 ≡ p = omega arith in rw e refl
digits_between_skip r b j p (suc n) low none =
    let e : p + suc n ≡ p + n + 1 = omega arith in
    let here : digit_at r b (p + n) ≡ None = none (p + n) (omega arith) (omega arith) in
    let more : digits_between r b j (p + n + 1) ≡ digits_between r b j (p + n) ++ [] = digits_between_more r b j (p + n) (omega arith) ∙ rw here refl in
    rw e (more ∙ append-nil (digits_between r b j (p + n)) ∙ digits_between_skip r b j p n low (λ k l h. none k l (omega arith)))

pub digits_between_to : (r : ℕ) (b : List ℕ) (j p q : ℕ) → j ≤ p → p ≤ q → HasNoDigit r b p q → digits_between r b j q ≡ digits_between r b j p
digits_between_to r b j p q low high none =
    let e : p + (q - p) ≡ q = omega arith in
    let t = digits_between_skip r b j p (q - p) low (λ k l h. none k l (omega arith)) in
    rw e at t

-- each place holds a digit
pub length-digits_between_all : (r : ℕ) (b : List ℕ) (j p n : ℕ) → j ≤ p → ((k : ℕ) → p ≤ k → k < p + n → is_some (digit_at r b k) ≡ true) → length (digits_between r b j (p + n)) ≡ length (digits_between r b j p) + n
length-digits_between_all r b j p zero low all = let e : p + 0 ≡ p = omega arith in rw e (omega arith)
length-digits_between_all r b j p (suc n) low all =
    let e : p + suc n ≡ p + n + 1 = omega arith in
    let here : is_some (digit_at r b (p + n)) ≡ true = all (p + n) (omega arith) (omega arith) in
    let more : digits_between r b j (p + n + 1) ≡ digits_between r b j (p + n) ++ (p + n) ∷ [] = digits_between_more r b j (p + n) (omega arith) ∙ rw here refl in
    let count : length (digits_between r b j (p + n + 1)) ≡ length (digits_between r b j (p + n)) + 1 = ap length more ∙ length-append (digits_between r b j (p + n)) ((p + n) ∷ []) in
    let rest = length-digits_between_all r b j p n low (λ k l h. all k l (omega arith)) in
    rw e (omega arith)

-- never more digits than places
pub length-digits_between : (r : ℕ) (b : List ℕ) (j k : ℕ) → length (digits_between r b j k) ≤ k - j
unfolding digits_between
length-digits_between r b j k =
    let test : ℕ → Bool = λ m. is_some (digit_at r b m) in
    omega (arith, length-filter test (range_with_len j (k - j)), count_by-le-length test (range_with_len j (k - j)), length-range_with_len j (k - j))
