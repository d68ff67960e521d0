-- Texts with the same first bytes have the same digits and punctuation there: for `Locality`.
use Rattle.std.proofs.Common.{◌≡◌, ℕ, zero, suc, ◌+◌, ◌<◌, ◌≤◌, Bool, true, false, ◌&&◌, List, [], ◌∷◌, length, refl, sym, ap, ◌∙◌, arith, Some, None, inl, inr, option_and_then, cond}
use Rattle.std.proofs.lemmas.Bool.{cases_lt}
use Rattle.std.proofs.lemmas.Option.{slice_get_past, slice_get-get_or}
use Rattle.std.specs.Prelude.{slice_get}
use Rattle.std.specs.Option.{unwrap_or}
use Rattle.lexical_util.specs.Digit.{digit}
use Rattle.lexical_util.specs.Format.{Format}
use Rattle.lexical_util.specs.Number.{IntegerType}
use Rattle.lexical_parse_integer.specs.Affixes.{is_affix, named_radix, octal_zero_at, prefix_radix, suffix_at}
use Rattle.lexical_parse_integer.specs.Head.{sign, sign_by}
use Rattle.lexical_parse_integer.specs.Laws.{SameFront}
use Rattle.lexical_parse_integer.specs.Runs.{are_same, digit_at}
use Rattle.lexical_parse_integer.proofs.grammar.DigitsInARow.{row}
use Rattle.lexical_parse_integer.proofs.reading.OctalZeros.{is_zero}

-- both texts have the same byte at each of the first places, or both have none
abbrev pub Agree : ℕ → List ℕ → List ℕ → Type 0
Agree n text other = (k : ℕ) → k < n → slice_get text k ≡ slice_get other k

pub agree : (n : ℕ) (text other : List ℕ) → SameFront n text other → Agree n text other
agree zero text other same k l = absurd (omega arith)
agree (suc n) [] [] same k l = refl
agree (suc n) [] (d ∷ ds) same k l = cc
agree (suc n) (c ∷ cs) [] same k l = cc
agree (suc n) (c ∷ cs) (d ∷ ds) same zero l = let e : c ≡ d = cc in ap Some e
agree (suc n) (c ∷ cs) (d ∷ ds) same (suc k) l = agree n cs ds (cc) k (omega arith)

-- a place of the one text is one of the other
pub agree_inside : (n k : ℕ) (text other : List ℕ) → Agree n text other → k < n → k < length text → k < length other
agree_inside n k text other same l inside =
    elim (cases_lt k (length other)) [
      | inl lt ↦ lt
      | inr ge ↦
          let here = slice_get-get_or text k 0 inside in
          let none = slice_get_past other k ge in
          let both = same k l in
          absurd (cc)
    ]

pub agree_digit : (r n k : ℕ) (text other : List ℕ) → Agree n text other → k < n → digit_at r text k ≡ digit_at r other k
unfolding digit_at
agree_digit r n k text other same l = ap (option_and_then (λ byte. digit r byte)) (same k l)

pub agree_suffix : (f : Format) (n k : ℕ) (text other : List ℕ) → Agree n text other → k < n → suffix_at f text k ≡ suffix_at f other k
unfolding suffix_at
agree_suffix f n k text other same l = ap (is_affix f.case_sensitive_base_suffix f.base_suffix) (same k l)

-- the sign hangs on the first byte
pub agree_sign : (f : Format) (t : IntegerType) (n : ℕ) (text other : List ℕ) → Agree n text other → 0 < n → sign f t text ≡ sign f t other
unfolding sign
agree_sign f t n text other same l = ap (sign_by f t) (same 0 l)

-- a prefix hangs on the byte at its place, and where that is a zero on the next one
pub agree_prefix : (f : Format) (n k : ℕ) (text other : List ℕ) → Agree n text other → k < n → (slice_get text k ≡ Some 48 → k + 1 < n) → prefix_radix f text k ≡ prefix_radix f other k
unfolding prefix_radix
agree_prefix f n k text other same l deep = by_zero (are_same (Some 48) (slice_get text k)) refl
  where
    by_zero : (b : Bool) → are_same (Some 48) (slice_get text k) ≡ b →
        cond (are_same (Some 48) (slice_get text k)) (named_radix f (slice_get text (k + 1))) None
        ≡ cond (are_same (Some 48) (slice_get other k)) (named_radix f (slice_get other (k + 1))) None
    by_zero true e =
        let next = same (k + 1) (deep (is_zero (slice_get text k) e)) in
        let here = same k l in
        rw (here, next) refl
    by_zero false e =
        let e' : are_same (Some 48) (slice_get other k) ≡ false = ap (are_same (Some 48)) (sym (same k l)) ∙ e in
        rw (e, e') refl

-- an octal zero hangs on the byte at its place
pub agree_octal : (f : Format) (n k : ℕ) (text other : List ℕ) → Agree n text other → k < n → octal_zero_at f text k ≡ octal_zero_at f other k
unfolding octal_zero_at
agree_octal f n k text other same l = ap (λ o. f.literal_octal_zero && are_same (Some 48) o) (same k l)

-- digits in a row that both have
pub agree_row : (r n start count : ℕ) (text other : List ℕ) → Agree n text other → start + count ≤ n → row r text start count ≡ row r other start count
agree_row r n start zero text other same low = refl
agree_row r n start (suc count) text other same low =
    let here : unwrap_or (digit_at r text start) 0 ≡ unwrap_or (digit_at r other start) 0 = ap (λ o. unwrap_or o 0) (agree_digit r n start text other same (omega arith)) in
    let rest = agree_row r n (start + 1) count text other same (omega arith) in
    cc
