-- The next token of a text.
use Rattle.std.proofs.Common.{◌≡◌, ℕ, zero, suc, ◌+◌, ◌-◌, ◌<◌, ◌≤◌, Bool, true, false, cond, List, [], ◌∷◌, length, drop, get_or, slice_get, Option, Some, None, is_some, Result, Ok, Err, refl, ap, ap₂, subst, sym, ◌∙◌, arith, get_or-drop, length-drop}
use Rattle.std.proofs.lemmas.Bool.Decides.{nat_tests}
use Rattle.std.proofs.lemmas.List.Sums.{prefix_len_stops, prefix_len-le-length}
use Rattle.std.proofs.Math.IntN.{ℤ}
use Rattle.std.specs.List.{prefix_len}
use Rattle.lexical_util.specs.declared.error.Error.{Error}
use Rattle.lexical_util.specs.Digit.{digit}
use Rattle.lexical_util.specs.Format.{Format}
use Rattle.lexical_util.specs.Number.{IntegerType, integer_type}
use Rattle.lexical_parse_integer.specs.Grammar.{partial}
use Rattle.lexical_parse_integer.specs.Runs.{digit_at}
use Rattle.lexical_literals.specs.Tokens.{TokenView, front_of, is_skipped, is_word_byte, number_by, number_of, token_at, token_of, tokens_from, word_length}
use Rattle.lexical_literals.specs.declared.Kind.{Kind}
use Rattle.lexical_literals.specs.declared.Kind.TheVariants.{Byte, Word}

-- ---- how many bytes a token has

-- what the law of fronts says
pub record FrontEnds : Type 0 where
  pub within : (format : Format) (type : IntegerType) (text : List ℕ) (value : ℤ) (place : ℕ)
      → partial format type text ≡ Ok (value, place) → place ≤ length text
  pub some : (format : Format) (type : IntegerType) (text : List ℕ) (value : ℤ)
      (place value_of_digit : ℕ) → digit_at format.mantissa_radix text 0 ≡ Some value_of_digit
      → partial format type text ≡ Ok (value, place) → 0 < place

-- some bytes of a text
pub record IsSize (text : List ℕ) (size : ℕ) : Type 0 where
  pub some : 0 < size
  pub within : size ≤ length text

digit_is_word : (r b : ℕ) → is_some (digit r b) ≡ true → is_word_byte b ≡ true
digit_is_word r b e = grind (arith, nat_tests)

word_size : (b : ℕ) (bs : List ℕ) → is_word_byte b ≡ true → IsSize (b ∷ bs) (word_length (b ∷ bs))
word_size b bs e = record {
  some = rw (ap (λ t. cond t (1 + prefix_len is_word_byte bs) 0) e) (omega arith);
  within = prefix_len-le-length is_word_byte (b ∷ bs);
}

number_size : FrontEnds → (f : Format) (b : ℕ) (bs : List ℕ)
    → is_some (digit f.mantissa_radix b) ≡ true → IsSize (b ∷ bs) (number_of f (b ∷ bs)).1
unfolding number_of digit_at
number_size ends f b bs e = by_answer (digit f.mantissa_radix b) refl (partial f (integer_type 128 false) (b ∷ bs)) refl
  where
    by_answer : (d : Option ℕ) → digit f.mantissa_radix b ≡ d → (r : Result (ℤ × ℕ) Error)
        → partial f (integer_type 128 false) (b ∷ bs) ≡ r
        → IsSize (b ∷ bs) (number_by (b ∷ bs) r).1
    by_answer None none r told = absurd (let no = rw none at e in cc)
    by_answer (Some d) is_digit (Ok found) told = record {
      some = ends.some f (integer_type 128 false) (b ∷ bs) found.0 found.1 d is_digit told;
      within = ends.within f (integer_type 128 false) (b ∷ bs) found.0 found.1 told;
    }
    by_answer (Some d) is_digit (Err fault) told = word_size b bs (digit_is_word f.mantissa_radix b e)

pub front_size : FrontEnds → (f : Format) (b : ℕ) (bs : List ℕ) → IsSize (b ∷ bs) (front_of f (b ∷ bs)).1
front_size ends f b bs =
    by_tests (is_some (digit f.mantissa_radix b)) (is_word_byte b) (number_size ends f b bs)
    (word_size b bs)
  where
    by_tests : (d w : Bool) → (d ≡ true → IsSize (b ∷ bs) (number_of f (b ∷ bs)).1)
        → (w ≡ true → IsSize (b ∷ bs) (word_length (b ∷ bs)))
        → IsSize (b ∷ bs) (cond d (number_of f (b ∷ bs)) (cond w (Word, word_length (b ∷ bs)) (Byte, 1))).1
    by_tests true w number word = number refl
    by_tests false true number word = word refl
    by_tests false false number word = record { some = omega arith; within = omega arith }

-- ---- the tokens of a text by its next one

skip : (f : Format) (p : ℕ) (bs : List ℕ)
    → tokens_from f p 0 bs ≡ tokens_from f (p + prefix_len is_skipped bs) 0
    (drop (prefix_len is_skipped bs) bs)
skip f p [] = refl
skip f p (b ∷ bs) = by_test (is_skipped b) refl (skip f (p + 1) bs)
  where
    by_test : (t : Bool) → is_skipped b ≡ t
        → tokens_from f (p + 1) 0 bs ≡ tokens_from f (p + 1 + prefix_len is_skipped bs) 0
        (drop (prefix_len is_skipped bs) bs)
        → tokens_from f p 0 (b ∷ bs) ≡ tokens_from f (p + prefix_len is_skipped (b ∷ bs)) 0
        (drop (prefix_len is_skipped (b ∷ bs)) (b ∷ bs))
    by_test true e more =
        let n = prefix_len is_skipped bs in
        let one : p + 1 + n ≡ p + suc n = omega arith in
        let all : prefix_len is_skipped (b ∷ bs) ≡ suc n = ap (λ t. cond t (1 + n) 0) e ∙ omega arith in
        ap (λ t. cond t (tokens_from f (p + 1) 0 bs)
        (token_at f p (b ∷ bs) ∷ tokens_from f (p + 1) ((front_of f (b ∷ bs)).1 - 1) bs)) e
        ∙ more ∙ ap (λ q. tokens_from f q 0 (drop n bs)) one
        ∙ sym (ap (λ k. tokens_from f (p + k) 0 (drop k (b ∷ bs))) all)
    by_test false e more =
        let none : p ≡ p + 0 = omega arith in
        let all : prefix_len is_skipped (b ∷ bs) ≡ 0 = ap (λ t. cond t (1 + prefix_len is_skipped bs) 0) e in
        ap (λ q. tokens_from f q 0 (b ∷ bs)) none ∙ sym (ap (λ k. tokens_from f (p + k) 0 (drop k (b ∷ bs))) all)

pub taken : (f : Format) (p k : ℕ) (bs : List ℕ) → k ≤ length bs
    → tokens_from f p k bs ≡ tokens_from f (p + k) 0 (drop k bs)
taken f p zero bs low = let none : p ≡ p + 0 = omega arith in ap (λ q. tokens_from f q 0 bs) none
taken f p (suc k) [] low = absurd (omega arith)
taken f p (suc k) (b ∷ bs) low =
    let one : p + 1 + k ≡ p + suc k = omega arith in
    taken f (p + 1) k bs (omega arith) ∙ ap (λ q. tokens_from f q 0 (drop k bs)) one

first_token : FrontEnds → (f : Format) (p : ℕ) (b : ℕ) (bs : List ℕ) → is_skipped b ≡ false
    → tokens_from f p 0 (b ∷ bs) ≡ token_at f p (b ∷ bs)
    ∷ tokens_from f (p + (front_of f (b ∷ bs)).1) 0 (drop (front_of f (b ∷ bs)).1 (b ∷ bs))
first_token ends f p b bs e =
    let n = (front_of f (b ∷ bs)).1 in
    let size = front_size ends f b bs in
    let one : n ≡ suc (n - 1) = omega (arith, size.some) in
    let at : p + 1 + (n - 1) ≡ p + n = omega (arith, size.some) in
    let rest : tokens_from f (p + 1) (n - 1) bs ≡ tokens_from f (p + n) 0 (drop n (b ∷ bs)) =
    taken f (p + 1) (n - 1) bs (omega (arith, size.within, size.some))
    ∙ ap₂ (λ q k. tokens_from f q 0 (drop k (b ∷ bs))) at (sym one) in
    ap (λ t. cond t (tokens_from f (p + 1) 0 bs)
    (token_at f p (b ∷ bs) ∷ tokens_from f (p + 1) (n - 1) bs)) e
    ∙ ap (λ more. token_at f p (b ∷ bs) ∷ more) rest

-- the first byte behind those that are skipped
stops : (bs : List ℕ) (b : ℕ) (more : List ℕ) → drop (prefix_len is_skipped bs) bs ≡ b ∷ more → is_skipped b ≡ false
stops bs b more e =
    let n = prefix_len is_skipped bs in
    let some : n < length bs = omega (arith, length-drop n bs, ap length e) in
    let at : get_or bs n 0 ≡ b = ap (λ k. get_or bs k 0) (omega arith) ∙ sym (get_or-drop n bs 0 0)
    ∙ ap (λ l. get_or l 0 0) e in
    ap is_skipped (sym at) ∙ prefix_len_stops is_skipped bs 0 some

-- nothing is left where all is skipped
pub next-none : (f : Format) (p n : ℕ) (bs rest : List ℕ) → n ≡ prefix_len is_skipped bs
    → rest ≡ drop n bs → None ≡ slice_get rest 0 → tokens_from f p 0 bs ≡ []
next-none f p n bs rest count rest_is none =
    skip f p bs ∙ ap (λ k. tokens_from f (p + k) 0 (drop k bs)) (sym count)
    ∙ ap (λ l. tokens_from f (p + n) 0 l) (sym rest_is) ∙ ended rest none
  where
    ended : (l : List ℕ) → None ≡ slice_get l 0 → tokens_from f (p + n) 0 l ≡ []
    ended [] e = refl
    ended (b ∷ bs) e = absurd (cc)

-- what is found at the front of what is left
pub found_size : FrontEnds → (f : Format) (rest : List ℕ) (b : ℕ) (found : Kind × ℕ)
    → Some b ≡ slice_get rest 0 → found ≡ front_of f rest → IsSize rest found.1
found_size ends f [] b found first found_is = absurd (cc)
found_size ends f (c ∷ more) b found first found_is =
    subst (λ (k : Kind × ℕ). IsSize (c ∷ more) k.1) (sym found_is) (front_size ends f c more)

-- the next token, and what is left behind it
pub next-some : FrontEnds → (f : Format) (p m n : ℕ) (bs rest : List ℕ) (b : ℕ) (found : Kind × ℕ)
    → n ≡ prefix_len is_skipped bs → m ≡ n → rest ≡ drop n bs
    → Some b ≡ slice_get rest 0 → found ≡ front_of f rest
    → tokens_from f p 0 bs ≡ token_of (p + m) rest found
    ∷ tokens_from f (p + m + found.1) 0 (drop found.1 rest)
next-some ends f p m n bs [] b found count same rest_is first found_is = absurd (cc)
next-some ends f p m n bs (c ∷ more) b found count same rest_is first found_is =
    let all : drop (prefix_len is_skipped bs) bs ≡ c ∷ more = ap (λ k. drop k bs) (sym count) ∙ sym rest_is in
    let P : ℕ → Kind × ℕ → List TokenView =
    λ k found. token_of (p + k) (c ∷ more) found
    ∷ tokens_from f (p + k + found.1) 0 (drop found.1 (c ∷ more)) in
    skip f p bs ∙ ap (λ k. tokens_from f (p + k) 0 (drop k bs)) (sym count)
    ∙ ap (λ l. tokens_from f (p + n) 0 l) (sym rest_is)
    ∙ first_token ends f (p + n) c more (stops bs c more all) ∙ ap₂ P (sym same) (sym found_is)
