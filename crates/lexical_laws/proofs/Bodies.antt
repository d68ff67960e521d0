-- Bodies in a text: the values of their digits.
use Rattle.std.proofs.Common.{◌≡◌, ℕ, zero, suc, ◌+◌, ◌<◌, Bool, true, false, not, cond, List, [], ◌∷◌, length, map, filter, refl, sym, ap, ◌∙◌, arith, Option, Some, None, is_some}
use Rattle.std.proofs.lemmas.Bool.{false≢true}
use Rattle.std.specs.Prelude.{slice_get}
use Rattle.std.specs.List.{range_with_len}
use Rattle.std.specs.Option.{unwrap_or}
use Rattle.lexical_util.specs.Digit.{digit}
use Rattle.lexical_util.specs.Format.{Format}
use Rattle.lexical_parse_integer.specs.Runs.{digit_at}
use Rattle.lexical_laws.specs.Integer.{is_separator}

-- the body stands in the text from a place on
abbrev pub StandsAt : List ℕ → ℕ → List ℕ → Type 0
StandsAt text start body = (k : ℕ) → k < length body → slice_get text (start + k) ≡ slice_get body k

-- no separator is a digit
abbrev pub NoDigit : Format → ℕ → Type 0
NoDigit f r = (b : ℕ) → is_separator f b ≡ true → digit r b ≡ None

-- each byte of a body is a separator or a digit
abbrev pub EachFits : Format → ℕ → List ℕ → Type 0
EachFits f r body = (k b : ℕ) → slice_get body k ≡ Some b → is_separator f b ≡ false → is_some (digit r b) ≡ true

abbrev pub with_digit : Option ℕ → List ℕ → List ℕ
with_digit None ds = ds
with_digit (Some d) ds = d ∷ ds

-- the values of the digits among bytes
abbrev pub values : ℕ → List ℕ → List ℕ
values r [] = []
values r (b ∷ body) = with_digit (digit r b) (values r body)

-- what IsBody says of the bytes
abbrev pub BytesAre : Format → ℕ → List ℕ → List ℕ → Type 0
BytesAre f r body ds = map (λ byte. digit r byte) (filter (λ byte. not (is_separator f byte)) body) ≡ map Some ds

pub stands_first : (text : List ℕ) (start b : ℕ) (body : List ℕ) → StandsAt text start (b ∷ body) → slice_get text start ≡ Some b
stands_first text start b body at = let e : start + 0 ≡ start = omega arith in let first = at 0 (omega arith) in rw e at first

pub stands_rest : (text : List ℕ) (start b : ℕ) (body : List ℕ) → StandsAt text start (b ∷ body) → StandsAt text (start + 1) body
stands_rest text start b body at k l = let e : start + suc k ≡ start + 1 + k = omega arith in let next = at (suc k) (omega arith) in rw e at next

pub digit_at-some : (r : ℕ) (text : List ℕ) (k b : ℕ) → slice_get text k ≡ Some b → digit_at r text k ≡ digit r b
unfolding digit_at
digit_at-some r text k b e = rw e refl

-- the value of the digit at a place, or 0
abbrev value_at : ℕ → List ℕ → ℕ → ℕ
value_at r text place = unwrap_or (digit_at r text place) 0

pub first_value : (r : ℕ) (text : List ℕ) (start : ℕ) (places : List ℕ) (o : Option ℕ) → digit_at r text start ≡ o →
    map (value_at r text) (cond (is_some (digit_at r text start)) (start ∷ places) places) ≡ with_digit o (map (value_at r text) places)
first_value r text start places None e = rw e refl
first_value r text start places (Some d) e = rw e (ap (λ o. unwrap_or o 0 ∷ map (value_at r text) places) e)

-- the digits of a text where a body stands
pub values_at : (r : ℕ) (text : List ℕ) (start : ℕ) (body : List ℕ) → StandsAt text start body →
    map (λ place. unwrap_or (digit_at r text place) 0) (filter (λ place. is_some (digit_at r text place)) (range_with_len start (length body))) ≡ values r body
values_at r text start [] at = refl
values_at r text start (b ∷ body) at =
    let rest = values_at r text (start + 1) body (stands_rest text start b body at) in
    first_value r text start _ (digit r b) (digit_at-some r text start b (stands_first text start b body at)) ∙ ap (with_digit (digit r b)) rest

-- the bytes that are no separators
abbrev others : Format → List ℕ → List ℕ
others f body = filter (λ byte. not (is_separator f byte)) body

abbrev digits_of : ℕ → List ℕ → List (Option ℕ)
digits_of r body = map (λ byte. digit r byte) body

-- the digits that a body has are the values of its bytes
pub bytes_values : (f : Format) (r : ℕ) (body ds : List ℕ) → NoDigit f r → BytesAre f r body ds → values r body ≡ ds
bytes_values f r [] [] none e = refl
bytes_values f r [] (d ∷ ds) none e = cc
bytes_values f r (b ∷ body) ds none e = by_separator (is_separator f b) refl ds e (λ ds e. bytes_values f r body ds none e)
  where
    by_separator : (t : Bool) → is_separator f b ≡ t → (ds : List ℕ) → digits_of r (cond (not t) (b ∷ others f body) (others f body)) ≡ map Some ds →
        ((ds : List ℕ) → BytesAre f r body ds → values r body ≡ ds) → with_digit (digit r b) (values r body) ≡ ds
    by_separator true s ds e more = rw (none b s) (more ds e)
    by_separator false s [] e more = cc
    by_separator false s (d ∷ ds) e more =
        let here : digit r b ≡ Some d = cc in
        rw here (ap (λ xs. d ∷ xs) (more ds (cc)))

pub bytes_fit : (f : Format) (r : ℕ) (body ds : List ℕ) → BytesAre f r body ds → EachFits f r body
bytes_fit f r [] ds e k b here other = cc
bytes_fit f r (c ∷ body) ds e k b here other = by_separator (is_separator f c) refl ds e k here (λ ds e k here. bytes_fit f r body ds e k b here) other
  where
    by_separator : (t : Bool) → is_separator f c ≡ t → (ds : List ℕ) → digits_of r (cond (not t) (c ∷ others f body) (others f body)) ≡ map Some ds → (k : ℕ) → slice_get (c ∷ body) k ≡ Some b →
        ((ds : List ℕ) → BytesAre f r body ds → (k : ℕ) → slice_get body k ≡ Some b → is_separator f b ≡ false → is_some (digit r b) ≡ true) →
        is_separator f b ≡ false → is_some (digit r b) ≡ true
    by_separator true s ds e zero here more other = let same : c ≡ b = cc in absurd (false≢true (sym other ∙ ap (is_separator f) (sym same) ∙ s))
    by_separator true s ds e (suc k) here more other = more ds e k here other
    by_separator false s [] e k here more other = cc
    by_separator false s (d ∷ ds) e zero here more other = let same : c ≡ b = cc in let first : digit r c ≡ Some d = cc in ap (λ x. is_some (digit r x)) (sym same) ∙ ap is_some first
    by_separator false s (d ∷ ds) e (suc k) here more other = more ds (cc) k here other

pub fitting_bytes : (f : Format) (r : ℕ) (body : List ℕ) → NoDigit f r → EachFits f r body → BytesAre f r body (values r body)
fitting_bytes f r [] none each = refl
fitting_bytes f r (c ∷ body) none each = by_separator (is_separator f c) refl (fitting_bytes f r body none (λ k b. each (suc k) b))
  where
    by_digit : (o : Option ℕ) → is_some o ≡ true → BytesAre f r body (values r body) → o ∷ digits_of r (others f body) ≡ map Some (with_digit o (values r body))
    by_digit None t rest = absurd (false≢true t)
    by_digit (Some d) t rest = ap (λ os. Some d ∷ os) rest

    by_separator : (t : Bool) → is_separator f c ≡ t → BytesAre f r body (values r body) → digits_of r (cond (not t) (c ∷ others f body) (others f body)) ≡ map Some (with_digit (digit r c) (values r body))
    by_separator true s rest = rw (none c s) rest
    by_separator false s rest = by_digit (digit r c) (each 0 c refl s) rest
