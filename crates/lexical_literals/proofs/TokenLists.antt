-- Where the tokens of a source stand.
use Rattle.std.proofs.Common.{◌≡◌, ℕ, zero, suc, ◌+◌, ◌-◌, ◌<◌, ◌≤◌, ◌⊎◌, Bool, true, false, cond, List, [], ◌∷◌, length, take, drop, get_or, slice_index, All, refl, ap, subst, sym, ◌∙◌, arith, inl, inr, length-drop}
use Rattle.std.proofs.lemmas.Bool.{cases_lt}
use Rattle.std.proofs.lemmas.List.{drop_all, drop_more}
use Rattle.std.proofs.lemmas.List.Elements.{All-cons, All-nil}
use Rattle.lexical_util.specs.Format.{Format}
use Rattle.lexical_literals.proofs.TokenSteps.{FrontEnds, front_size}
use Rattle.lexical_literals.specs.Tokens.{AreSkipped, FollowUnder, IsPartOf, TokenView, front_of, is_skipped, token_at, tokens_from, tokens_under}

-- ---- how many

few : (f : Format) (p k : ℕ) (bs : List ℕ) → length (tokens_from f p k bs) ≤ length bs
few f p k [] = omega arith
few f p (suc k) (b ∷ bs) = let more = few f (p + 1) k bs in omega arith
few f p zero (b ∷ bs) = by_test (is_skipped b) (few f (p + 1) 0 bs) (few f (p + 1) ((front_of f (b ∷ bs)).1 - 1) bs)
  where
    by_test : (t : Bool) → length (tokens_from f (p + 1) 0 bs) ≤ length bs
        → length (tokens_from f (p + 1) ((front_of f (b ∷ bs)).1 - 1) bs) ≤ length bs
        → length (cond t (tokens_from f (p + 1) 0 bs)
        (token_at f p (b ∷ bs) ∷ tokens_from f (p + 1) ((front_of f (b ∷ bs)).1 - 1) bs))
        ≤ suc (length bs)
    by_test true skipped token = omega arith
    by_test false skipped token = omega arith

pub tokens_are_few : (f : Format) (source : List ℕ) → length (tokens_under f source) ≤ length source
tokens_are_few f source = few f 0 0 source

-- ---- what stands at a place of a source

-- a byte of a source, and what is behind it
record IsAt (source : List ℕ) (p : ℕ) (b : ℕ) (bs : List ℕ) : Type 0 where
  pub low : p < length source
  pub here : slice_index source p ≡ b
  pub behind : bs ≡ drop (p + 1) source
  pub count : p + suc (length bs) ≡ length source

is_at : (source : List ℕ) (p : ℕ) (b : ℕ) (bs : List ℕ) → b ∷ bs ≡ drop p source → IsAt source p b bs
is_at source p b bs e = by_place (cases_lt p (length source))
  where
    first_is : (x y : ℕ) (xs ys : List ℕ) → x ∷ xs ≡ y ∷ ys → y ≡ x
    first_is x y xs ys same = cc

    more_are : (x y : ℕ) (xs ys : List ℕ) → x ∷ xs ≡ y ∷ ys → xs ≡ ys
    more_are x y xs ys same = cc

    by_place : (p < length source) ⊎ (length source ≤ p) → IsAt source p b bs
    by_place (inl lt) =
        let same = e ∙ drop_more source p 0 lt in
        let size : suc (length bs) ≡ length source - p = ap length e ∙ length-drop p source in
        record {
          low = lt;
          here = first_is b (get_or source p 0) bs (drop (p + 1) source) same;
          behind = more_are b (get_or source p 0) bs (drop (p + 1) source) same;
          count = omega (arith, size);
        }
    by_place (inr ge) = let none = e ∙ drop_all p source ge in absurd (cc)

-- ---- in turn

-- one skipped byte more in front
one_more : (source : List ℕ) (p to : ℕ) → is_skipped (slice_index source p) ≡ true
    → AreSkipped source (p + 1) to → AreSkipped source p to
one_more source p to skipped rest k low high =
    elim (cases_lt p k) [
      | inl lt ↦ rest k (omega arith) high
      | inr ge ↦ let same : p ≡ k = omega arith in subst (λ i. is_skipped (slice_index source i) ≡ true) same skipped
    ]

one_before : (f : Format) (source : List ℕ) (p : ℕ) (ts : List TokenView)
    → is_skipped (slice_index source p) ≡ true → FollowUnder f source (p + 1) ts
    → FollowUnder f source p ts
one_before f source p [] skipped follow = one_more source p (length source) skipped follow
one_before f source p (t ∷ ts) skipped follow = (
  record {
    behind = omega (arith, follow.0.behind);
    between = one_more source p t.start skipped follow.0.between;
    here = follow.0.here;
    token_is = follow.0.token_is;
  },
  follow.1,
)

follow_from : FrontEnds → (f : Format) (source : List ℕ) (p k : ℕ) (bs : List ℕ)
    → bs ≡ drop p source → k ≤ length bs → FollowUnder f source (p + k) (tokens_from f p k bs)
follow_from ends f source p k [] e low =
    λ i from to. let none : 0 ≡ length source - p =
    ap length e ∙ length-drop p source in absurd (omega (arith, none))
follow_from ends f source p (suc k) (b ∷ bs) e low =
    let at = is_at source p b bs e in
    let one : p + 1 + k ≡ p + suc k = omega arith in
    subst (λ q. FollowUnder f source q (tokens_from f (p + 1) k bs)) one
    (follow_from ends f source (p + 1) k bs at.behind (omega arith))
follow_from ends f source p zero (b ∷ bs) e low =
    let at = is_at source p b bs e in
    let n = (front_of f (b ∷ bs)).1 in
    let size = front_size ends f b bs in
    let none : p ≡ p + 0 = omega arith in
    let next : p + 1 + 0 ≡ p + 1 = omega arith in
    let stop : p + 1 + (n - 1) ≡ p + n = omega (arith, size.some) in
    subst (λ q. FollowUnder f source q (tokens_from f p 0 (b ∷ bs))) none
    (by_test (is_skipped b) (ap is_skipped at.here)
    (subst (λ q. FollowUnder f source q (tokens_from f (p + 1) 0 bs)) next
    (follow_from ends f source (p + 1) 0 bs at.behind (omega arith)))
    (subst (λ q. FollowUnder f source q (tokens_from f (p + 1) (n - 1) bs)) stop
    (follow_from ends f source (p + 1) (n - 1) bs at.behind
    (omega (arith, size.within, size.some)))))
  where
    n : ℕ
    n = (front_of f (b ∷ bs)).1

    by_test : (t : Bool) → is_skipped (slice_index source p) ≡ t
        → FollowUnder f source (p + 1) (tokens_from f (p + 1) 0 bs)
        → FollowUnder f source (p + n) (tokens_from f (p + 1) (n - 1) bs)
        → FollowUnder f source p (cond t (tokens_from f (p + 1) 0 bs)
        (token_at f p (b ∷ bs) ∷ tokens_from f (p + 1) (n - 1) bs))
    by_test true skipped rest token = one_before f source p (tokens_from f (p + 1) 0 bs) skipped rest
    by_test false skipped rest token = (
      record {
        behind = omega arith;
        between = λ k low high. absurd (omega arith);
        here = skipped;
        token_is = ap (token_at f p) e;
      },
      token,
    )

pub tokens_in_turn : FrontEnds → (f : Format) (source : List ℕ) → FollowUnder f source 0 (tokens_under f source)
tokens_in_turn ends f source = follow_from ends f source 0 0 source refl (omega arith)

-- ---- each by itself

part_at : FrontEnds → (f : Format) (source : List ℕ) (p : ℕ) (b : ℕ) (bs : List ℕ)
    → b ∷ bs ≡ drop p source → IsPartOf source (token_at f p (b ∷ bs))
part_at ends f source p b bs e =
    let at = is_at source p b bs e in
    let n = (front_of f (b ∷ bs)).1 in
    let size = front_size ends f b bs in
    let back : p + n - p ≡ n = omega arith in
    record {
      some = omega (arith, size.some);
      within = omega (arith, size.within, at.count);
      bytes = ap (take n) e ∙ ap (λ k. take k (drop p source)) (sym back);
    }

parts_from : FrontEnds → (f : Format) (source : List ℕ) (p k : ℕ) (bs : List ℕ) → bs ≡ drop p source
    → All (IsPartOf source) (tokens_from f p k bs)
parts_from ends f source p k [] e = All-nil (IsPartOf source)
parts_from ends f source p (suc k) (b ∷ bs) e = parts_from ends f source (p + 1) k bs (is_at source p b bs e).behind
parts_from ends f source p zero (b ∷ bs) e =
    let at = is_at source p b bs e in
    by_test (is_skipped b) (parts_from ends f source (p + 1) 0 bs at.behind)
    (parts_from ends f source (p + 1) ((front_of f (b ∷ bs)).1 - 1) bs at.behind)
  where
    n : ℕ
    n = (front_of f (b ∷ bs)).1

    by_test : (t : Bool) → All (IsPartOf source) (tokens_from f (p + 1) 0 bs)
        → All (IsPartOf source) (tokens_from f (p + 1) (n - 1) bs)
        → All (IsPartOf source) (cond t (tokens_from f (p + 1) 0 bs)
        (token_at f p (b ∷ bs) ∷ tokens_from f (p + 1) (n - 1) bs))
    by_test true rest token = rest
    by_test false rest token =
        All-cons (IsPartOf source) (token_at f p (b ∷ bs)) (tokens_from f (p + 1) (n - 1) bs)
        (part_at ends f source p b bs e) token

pub tokens_are_parts : FrontEnds → (f : Format) (source : List ℕ) → All (IsPartOf source) (tokens_under f source)
tokens_are_parts ends f source = parts_from ends f source 0 0 source refl
