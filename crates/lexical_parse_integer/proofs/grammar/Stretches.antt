-- The first and the last place of a stretch: for the ends and runs of numerals.
use Rattle.std.proofs.Common.{◌≡◌, ℕ, zero, suc, ◌+◌, ◌-◌, ◌≤◌, ◌<◌, Bool, true, false, ◌&&◌, cond, List, [], ◌∷◌, ◌++◌, get_or, refl, sym, ◌∙◌, ap, arith, inl, inr, ◌⊎◌, leb}
use Rattle.std.proofs.lemmas.Bool.Decides.{nat_tests}
use Rattle.std.proofs.lemmas.Bool.{false≢true, cases_lt}
use Rattle.std.specs.List.{range_with_len, prefix_len, suffix_len}
use Rattle.std.proofs.lemmas.List.{reverse-append}
use Rattle.std.proofs.lemmas.List.FromFn.{get_or-range_with_len, length-range_with_len}
use Rattle.std.proofs.lemmas.List.Sums.{prefix_len_passes, prefix_len_stops, prefix_len-le-length}
use Rattle.lexical_parse_integer.specs.Runs.{begin_of, stop_of}

-- p holds from one place to before another
abbrev pub HoldsBetween : (ℕ → Bool) → ℕ → ℕ → Type 0
HoldsBetween p from to = (k : ℕ) → from ≤ k → k < to → p k ≡ true

-- `stop` is the greatest place, at most `to`, such that p holds from `from` to before it
pub record IsStop (p : ℕ → Bool) (from to stop : ℕ) : Type 0 where
  pub low : from ≤ stop
  pub high : stop ≤ to
  pub holds : HoldsBetween p from stop
  pub fails : stop < to → p stop ≡ false

pub true_or_false : (b : Bool) → (b ≡ true) ⊎ (b ≡ false)
true_or_false true = inl refl
true_or_false false = inr refl

place_is : (from n k : ℕ) → from ≤ k → k < from + n → get_or (range_with_len from n) (k - from) 0 ≡ k
place_is from n k low high = get_or-range_with_len from n (k - from) 0 (omega arith) ∙ omega arith

pub IsStop-stop_of : (p : ℕ → Bool) (from to : ℕ) → from ≤ to → IsStop p from to (stop_of p from to)
IsStop-stop_of p from to h =
    let size = length-range_with_len from (to - from) in
    let short = prefix_len-le-length p (range_with_len from (to - from)) in
    record {
      low = omega arith;
      high = omega arith;
      holds = λ k low high. ap p (sym (place_is from (to - from) k low (omega arith))) ∙ prefix_len_passes p (range_with_len from (to - from)) (k - from) 0 (omega arith);
      fails = λ more.
          let back : from + prefix_len p (range_with_len from (to - from)) - from ≡ prefix_len p (range_with_len from (to - from)) = omega arith in
          let at : get_or (range_with_len from (to - from)) (prefix_len p (range_with_len from (to - from))) 0 ≡ from + prefix_len p (range_with_len from (to - from)) =
          ap (λ i. get_or (range_with_len from (to - from)) i 0) (sym back) ∙ place_is from (to - from) (from + prefix_len p (range_with_len from (to - from))) (omega arith) (omega arith) in
          ap p (sym at) ∙ prefix_len_stops p (range_with_len from (to - from)) 0 (omega arith);
    }

differ : (p : ℕ → Bool) (k : ℕ) → p k ≡ true → p k ≡ false → ⊥
differ p k a b = false≢true (sym b ∙ a)

-- there is one such place
pub IsStop-unique : (p : ℕ → Bool) (from to s t : ℕ) → IsStop p from to s → IsStop p from to t → s ≡ t
IsStop-unique p from to s t a b =
    elim (cases_lt s t) [
      | inl lt ↦ absurd (differ p s (b.holds s a.low lt) (a.fails (omega (arith, b.high))))
      | inr ge ↦ elim (cases_lt t s) [
        | inl lt ↦ absurd (differ p t (a.holds t b.low lt) (b.fails (omega (arith, a.high))))
        | inr le ↦ omega arith
      ]
    ]

pub stop_of_is : (p : ℕ → Bool) (from to stop : ℕ) → from ≤ to → IsStop p from to stop → stop_of p from to ≡ stop
stop_of_is p from to stop h s = IsStop-unique p from to _ stop (IsStop-stop_of p from to h) s

-- what holds on to a place reaches no farther than the stop
pub below_stop : (p : ℕ → Bool) (from to stop q : ℕ) → IsStop p from to stop → q ≤ to → HoldsBetween p stop q → q ≤ stop
below_stop p from to stop q s high holds =
    elim (cases_lt stop q) [
      | inl lt ↦ absurd (differ p stop (holds stop (omega arith) lt) (s.fails (omega arith)))
      | inr ge ↦ ge
    ]

-- two stretches, one behind the other
pub HoldsBetween-joined : (p : ℕ → Bool) (from mid to : ℕ) → HoldsBetween p from mid → HoldsBetween p mid to → HoldsBetween p from to
HoldsBetween-joined p from mid to a b k low high =
    elim (cases_lt k mid) [ inl lt ↦ a k low lt | inr ge ↦ b k ge high ]

-- one place more in a row
pub range_more : (a n k : ℕ) → a + n ≡ k → range_with_len a (suc n) ≡ range_with_len a n ++ k ∷ []
range_more a zero k e = let same : a ≡ k = omega arith in rw same refl
range_more a (suc n) k e = ap (λ xs. a ∷ xs) (range_more (a + 1) n k (omega arith))

suffix_len-more : (p : ℕ → Bool) (xs : List ℕ) (x : ℕ) → suffix_len p (xs ++ x ∷ []) ≡ cond (p x) (1 + suffix_len p xs) 0
suffix_len-more p xs x = ap (prefix_len p) (reverse-append xs (x ∷ []))

one_more : (k s : ℕ) (t : Bool) → suc k - cond t (1 + s) 0 ≡ cond t (k - s) (suc k)
one_more k s true = omega arith
one_more k s false = omega arith

pub begin_of_if : (p : ℕ → Bool) (j k : ℕ) (v : Bool) → (leb j k && p k) ≡ v → begin_of p j (suc k) ≡ cond v (begin_of p j k) (suc k)
unfolding begin_of
begin_of_if p j k v e =
    elim (cases_lt k j) [
      | inl lt ↦
          let none : suc k - j ≡ 0 = omega arith in
          let out : leb j k ≡ false = grind (arith, nat_tests) in
          let no : v ≡ false = sym e ∙ ap (λ w. w && p k) out in
          ap (λ n. suc k - suffix_len p (range_with_len j n)) none ∙ (let e₀ : suc k - 0 ≡ suc k = omega arith in e₀) ∙ ap (λ w. cond w (begin_of p j k) (suc k)) (sym no)
      | inr ge ↦
          let more : suc k - j ≡ suc (k - j) = omega arith in
          let at : leb j k ≡ true = grind (arith, nat_tests) in
          let same : p k ≡ v = sym (ap (λ w. w && p k) at) ∙ e in
          ap (λ n. suc k - suffix_len p (range_with_len j n)) more
          ∙ ap (λ xs. suc k - suffix_len p xs) (range_more j (k - j) k (omega arith))
          ∙ ap (λ n. suc k - n) (suffix_len-more p (range_with_len j (k - j)) k)
          ∙ one_more k (suffix_len p (range_with_len j (k - j))) (p k)
          ∙ ap (λ w. cond w (k - suffix_len p (range_with_len j (k - j))) (suc k)) same
    ]

-- a stretch that begins at `from` has that place as its begin at each of its places
pub begin_of_is : (p : ℕ → Bool) (j from k : ℕ) → j ≤ from → from ≤ k → HoldsBetween p from k → (j < from → p (from - 1) ≡ false) → begin_of p j k ≡ from
unfolding begin_of
begin_of_is p j from zero low high holds edge = omega arith
begin_of_is p j from (suc k) low high holds edge =
    elim (cases_lt from (suc k)) [
      | inl lt ↦
          let here : p k ≡ true = holds k (omega arith) (omega arith) in
          let both : (leb j k && p k) ≡ true = rw here (let le : j ≤ k = omega arith in grind (arith, nat_tests)) in
          begin_of_if p j k true both ∙ begin_of_is p j from k low (omega arith) (λ m l h. holds m l (omega arith)) edge
      | inr ge ↦
          let e : from ≡ suc k = omega arith in
          elim (cases_lt k j) [
            | inl lt ↦
                let out : leb j k ≡ false = grind (arith, nat_tests) in
                begin_of_if p j k false (ap (λ w. w && p k) out) ∙ sym e
            | inr le ↦
                let at : p (from - 1) ≡ false = edge (omega arith) in
                let same : from - 1 ≡ k = omega arith in
                let here : p k ≡ false = rw same at at in
                let both : (leb j k && p k) ≡ false = rw here (let le' : j ≤ k = omega arith in grind (arith, nat_tests)) in
                begin_of_if p j k false both ∙ sym e
          ]
    ]
