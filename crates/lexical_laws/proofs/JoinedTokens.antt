-- The tokens of two sources put together at a byte that parts tokens are those of both.
use Rattle.std.proofs.Common.{◌≡◌, ℕ, zero, suc, ◌+◌, ◌-◌, ◌≤◌, Bool, true, false, cond, List, [], ◌∷◌, ◌++◌, length, take, map, IsNone, is_some, Result, Ok, Err, refl, ap, ◌∙◌, arith, inl, inr}
use Rattle.std.proofs.lemmas.Bool.Decides.{nat_tests}
use Rattle.std.proofs.Math.IntN.{ℤ}
use Rattle.lexical_util.specs.declared.error.Error.{Error}
use Rattle.lexical_util.specs.Digit.{digit}
use Rattle.lexical_util.specs.Format.{Format}
use Rattle.lexical_util.specs.Number.{integer_type}
use Rattle.lexical_util.specs.Validity.{fault}
use Rattle.lexical_parse_integer.specs.Affixes.{is_affix, literal_radix, named_radix, matches}
use Rattle.lexical_parse_integer.specs.Grammar.{partial}
use Rattle.lexical_parse_integer.specs.Runs.{are_same, digit_at}
use Rattle.lexical_laws.specs.Keeping.{PartsTokens, moved}
use Rattle.lexical_laws.proofs.ForeignBytes.{asked_is_same, digit_is_same}
use Rattle.lexical_literals.proofs.TokenSteps.{FrontEnds, front_size}
use Rattle.lexical_literals.specs.Tokens.{TokenView, front_of, is_skipped, is_word_byte, literals, number_by, number_of, token_at, token_of, tokens_from, tokens_under, word_length}
use Rattle.lexical_literals.specs.declared.Kind.{Kind}
use Rattle.lexical_literals.specs.declared.Kind.TheVariants.{Byte, Fault, Word}

-- ---- places

-- the tokens of a text that stands later
pub tokens_later : (f : Format) (n p k : ℕ) (bs : List ℕ) → tokens_from f (n + p) k bs ≡ map (moved n) (tokens_from f p k bs)
tokens_later f n p k [] = refl
tokens_later f n p (suc k) (b ∷ bs) =
    let e : n + p + 1 ≡ n + (p + 1) = omega arith in
    ap (λ q. tokens_from f q k bs) e ∙ tokens_later f n (p + 1) k bs
tokens_later f n p zero (b ∷ bs) =
    by_test (is_skipped b) (next 0 (tokens_later f n (p + 1) 0 bs))
    (next ((front_of f (b ∷ bs)).1 - 1) (tokens_later f n (p + 1) ((front_of f (b ∷ bs)).1 - 1) bs))
  where
    next : (k : ℕ) → tokens_from f (n + (p + 1)) k bs ≡ map (moved n) (tokens_from f (p + 1) k bs)
        → tokens_from f (n + p + 1) k bs ≡ map (moved n) (tokens_from f (p + 1) k bs)
    next k later = let e : n + p + 1 ≡ n + (p + 1) = omega arith in ap (λ q. tokens_from f q k bs) e ∙ later

    here : token_at f (n + p) (b ∷ bs) ≡ moved n (token_at f p (b ∷ bs))
    here = let e : n + p + (front_of f (b ∷ bs)).1 ≡ n + (p + (front_of f (b ∷ bs)).1) = omega arith in
        ap (λ q. record { kind = (front_of f (b ∷ bs)).0; start = n + p; stop = q; text = take (front_of f (b ∷ bs)).1 (b ∷ bs) }) e

    by_test : (t : Bool) → tokens_from f (n + p + 1) 0 bs ≡ map (moved n) (tokens_from f (p + 1) 0 bs)
        → tokens_from f (n + p + 1) ((front_of f (b ∷ bs)).1 - 1) bs ≡ map (moved n) (tokens_from f (p + 1) ((front_of f (b ∷ bs)).1 - 1) bs)
        → cond t (tokens_from f (n + p + 1) 0 bs) (token_at f (n + p) (b ∷ bs) ∷ tokens_from f (n + p + 1) ((front_of f (b ∷ bs)).1 - 1) bs)
        ≡ map (moved n) (cond t (tokens_from f (p + 1) 0 bs) (token_at f p (b ∷ bs) ∷ tokens_from f (p + 1) ((front_of f (b ∷ bs)).1 - 1) bs))
    by_test true skipped token = skipped
    by_test false skipped token = ap (λ t. t ∷ tokens_from f (n + p + 1) ((front_of f (b ∷ bs)).1 - 1) bs) here ∙ ap (λ ts. moved n (token_at f p (b ∷ bs)) ∷ ts) token

-- ---- fronts

skipped_no_word : (b : ℕ) → is_skipped b ≡ true → is_word_byte b ≡ false
skipped_no_word b e = grind (arith, nat_tests)

word_alike : (byte : ℕ) (rest bs : List ℕ) → is_word_byte byte ≡ false → word_length (bs ++ byte ∷ rest) ≡ word_length bs
word_alike byte rest [] none = rw none refl
word_alike byte rest (b ∷ bs) none = ap (λ n. cond (is_word_byte b) (1 + n) 0) (word_alike byte rest bs none)

take_alike : (n : ℕ) (bs more : List ℕ) → n ≤ length bs → take n (bs ++ more) ≡ take n bs
take_alike zero bs more low = refl
take_alike (suc n) [] more low = absurd (omega arith)
take_alike (suc n) (b ∷ bs) more low = ap (λ xs. b ∷ xs) (take_alike n bs more (omega arith))

module _ (ends : FrontEnds) (f : Format) (byte : ℕ) (rest : List ℕ) (valid : IsNone (fault f)) (parts : PartsTokens f byte) where
  read_alike : (b : ℕ) (bs : List ℕ) → is_some (digit f.mantissa_radix b) ≡ true → partial f (integer_type 128 false) (b ∷ (bs ++ byte ∷ rest)) ≡ partial f (integer_type 128 false) (b ∷ bs)
  unfolding digit_at
  read_alike b bs first = elim parts.ends [
    | inl w ↦ digit_is_same f (integer_type 128 false) (b ∷ bs) rest byte valid parts.foreign w.0 w.1 first
    | inr w ↦ asked_is_same f (integer_type 128 false) (b ∷ bs) rest byte valid parts.foreign w.0 w.1
  ]

  number_alike : (b : ℕ) (bs : List ℕ) → is_some (digit f.mantissa_radix b) ≡ true → number_of f (b ∷ (bs ++ byte ∷ rest)) ≡ number_of f (b ∷ bs)
  unfolding number_of
  number_alike b bs first =
      ap (number_by (b ∷ (bs ++ byte ∷ rest))) (read_alike b bs first)
      ∙ by_answer (partial f (integer_type 128 false) (b ∷ bs))
    where
      by_answer : (r : Result (ℤ × ℕ) Error) → number_by (b ∷ (bs ++ byte ∷ rest)) r ≡ number_by (b ∷ bs) r
      by_answer (Ok found) = refl
      by_answer (Err e) = ap (λ n. (Fault e, n)) (word_alike byte rest (b ∷ bs) (skipped_no_word byte parts.skipped))

  front_alike : (b : ℕ) (bs : List ℕ) → front_of f (b ∷ (bs ++ byte ∷ rest)) ≡ front_of f (b ∷ bs)
  front_alike b bs = by_tests (is_some (digit f.mantissa_radix b)) refl (is_word_byte b)
    where
      by_tests : (d : Bool) → is_some (digit f.mantissa_radix b) ≡ d → (w : Bool)
          → cond d (number_of f (b ∷ (bs ++ byte ∷ rest))) (cond w (Word, word_length (b ∷ (bs ++ byte ∷ rest))) (Byte, 1))
          ≡ cond d (number_of f (b ∷ bs)) (cond w (Word, word_length (b ∷ bs)) (Byte, 1))
      by_tests true first w = number_alike b bs first
      by_tests false first true = ap (λ n. (Word, n)) (word_alike byte rest (b ∷ bs) (skipped_no_word byte parts.skipped))
      by_tests false first false = refl

  token_alike : (p b : ℕ) (bs : List ℕ) → token_at f p (b ∷ (bs ++ byte ∷ rest)) ≡ token_at f p (b ∷ bs)
  token_alike p b bs =
      let size = front_size ends f b bs in
      ap (token_of p (b ∷ (bs ++ byte ∷ rest))) (front_alike b bs)
      ∙ ap (λ xs. record { kind = (front_of f (b ∷ bs)).0; start = p; stop = p + (front_of f (b ∷ bs)).1; text = xs }) (take_alike (front_of f (b ∷ bs)).1 (b ∷ bs) (byte ∷ rest) size.within)

  -- ---- all tokens

  joined : (p k : ℕ) (bs : List ℕ) → k ≤ length bs → tokens_from f p k (bs ++ byte ∷ rest) ≡ tokens_from f p k bs ++ tokens_from f (p + length bs + 1) 0 rest
  joined p zero [] low =
      let skipped = parts.skipped in
      let e : p + 1 ≡ p + 0 + 1 = omega arith in
      rw skipped (ap (λ q. tokens_from f q 0 rest) e)
  joined p (suc k) [] low = absurd (omega arith)
  joined p (suc k) (b ∷ bs) low =
      let e : p + 1 + length bs + 1 ≡ p + suc (length bs) + 1 = omega arith in
      joined (p + 1) k bs (omega arith) ∙ ap (λ q. tokens_from f (p + 1) k bs ++ tokens_from f q 0 rest) e
  joined p zero (b ∷ bs) low =
      let size = front_size ends f b bs in
      by_test (is_skipped b) (next 0 (joined (p + 1) 0 bs (omega arith)))
      (ap (λ (w : Kind × ℕ). tokens_from f (p + 1) (w.1 - 1) (bs ++ byte ∷ rest)) (front_alike b bs)
      ∙ next ((front_of f (b ∷ bs)).1 - 1) (joined (p + 1) ((front_of f (b ∷ bs)).1 - 1) bs (omega (arith, size.within, size.some))))
    where
      later : List TokenView
      later = tokens_from f (p + suc (length bs) + 1) 0 rest

      next : (k : ℕ) → tokens_from f (p + 1) k (bs ++ byte ∷ rest) ≡ tokens_from f (p + 1) k bs ++ tokens_from f (p + 1 + length bs + 1) 0 rest → tokens_from f (p + 1) k (bs ++ byte ∷ rest) ≡ tokens_from f (p + 1) k bs ++ later
      next k more = let e : p + 1 + length bs + 1 ≡ p + suc (length bs) + 1 = omega arith in more ∙ ap (λ q. tokens_from f (p + 1) k bs ++ tokens_from f q 0 rest) e

      by_test : (t : Bool) → tokens_from f (p + 1) 0 (bs ++ byte ∷ rest) ≡ tokens_from f (p + 1) 0 bs ++ later
          → tokens_from f (p + 1) ((front_of f (b ∷ (bs ++ byte ∷ rest))).1 - 1) (bs ++ byte ∷ rest) ≡ tokens_from f (p + 1) ((front_of f (b ∷ bs)).1 - 1) bs ++ later
          → cond t (tokens_from f (p + 1) 0 (bs ++ byte ∷ rest)) (token_at f p (b ∷ (bs ++ byte ∷ rest)) ∷ tokens_from f (p + 1) ((front_of f (b ∷ (bs ++ byte ∷ rest))).1 - 1) (bs ++ byte ∷ rest))
          ≡ cond t (tokens_from f (p + 1) 0 bs) (token_at f p (b ∷ bs) ∷ tokens_from f (p + 1) ((front_of f (b ∷ bs)).1 - 1) bs) ++ later
      by_test true skipped token = skipped
      by_test false skipped token = ap (λ t. t ∷ tokens_from f (p + 1) ((front_of f (b ∷ (bs ++ byte ∷ rest))).1 - 1) (bs ++ byte ∷ rest)) (token_alike p b bs) ∙ ap (λ ts. token_at f p (b ∷ bs) ∷ ts) token

  -- those of both sources
  pub tokens_joined : (first : List ℕ) → tokens_under f (first ++ byte ∷ rest) ≡ tokens_under f first ++ map (moved (length first + 1)) (tokens_under f rest)
  tokens_joined first =
      let e : 0 + length first + 1 ≡ length first + 1 + 0 = omega arith in
      joined 0 0 first (omega arith)
      ∙ ap (λ q. tokens_from f 0 0 first ++ tokens_from f q 0 rest) e
      ∙ ap (λ ts. tokens_from f 0 0 first ++ ts) (tokens_later f (length first + 1) 0 0 rest)

-- ---- literals

-- a line feed parts their tokens
pub line_feed_parts : PartsTokens literals 10
unfolding named_radix literal_radix is_affix matches are_same
line_feed_parts = record {
  skipped = refl;
  foreign = record { digit = refl; plus = λ e. omega arith; minus = λ e. omega arith; separator = refl; prefix = refl; suffix = refl };
  ends = inr (refl, refl);
}
