-- Two texts that are the same up to a place at which no numeral goes on have the same numeral.
use Rattle.std.proofs.Common.{◌≡◌, ℕ, zero, suc, ◌+◌, ◌-◌, ◌<◌, ◌≤◌, Bool, true, false, ◌&&◌, ◌||◌, cond, List, ◌∷◌, length, map, filter, Option, Some, None, is_some, Ok, Err, Result, option_and_then, refl, sym, ap, ◌∙◌, arith, inl, inr}
use Rattle.std.proofs.lemmas.Bool.{cases_lt, false≢true}
use Rattle.std.specs.List.{range_with_len}
use Rattle.std.specs.Option.{unwrap_or}
use Rattle.std.specs.Prelude.{nat_lt, slice_get}
use Rattle.lexical_util.specs.declared.error.Error.{Error}
use Rattle.lexical_util.specs.Digit.{digit}
use Rattle.lexical_util.specs.Format.{Format}
use Rattle.lexical_util.specs.Number.{IntegerType}
use Rattle.lexical_parse_integer.specs.Affixes.{named_radix, numeral_stop, octal_zero_at, prefix_radix, suffix_at}
use Rattle.lexical_parse_integer.specs.Head.{head_after, head_behind, head_of, sign}
use Rattle.lexical_parse_integer.specs.Numeral.{numeral_in}
use Rattle.lexical_parse_integer.specs.Runs.{are_same, digit_at, digits_between, end_of, is_in_numeral, is_in_passing_run, places, run_passes, separator_at}
use Rattle.lexical_parse_integer.proofs.ForCallers.{IsStop-end_of, IsStop-unique, true_or_false}
use Rattle.lexical_laws.proofs.Bodies.{first_value, with_digit}
use Rattle.lexical_laws.proofs.Runs.{IsRun, run_at, run_of}

-- A text is cut at a place: there stands no digit, no run of separators goes over it, and no numeral does.
pub record IsCut (f : Format) (pre : Bool) (r : ℕ) (text : List ℕ) (start n : ℕ) : Type 0 where
  pub within : n ≤ length text
  pub digit : digit_at r text n ≡ None
  pub run : start < n → separator_at f text (n - 1) ≡ true → separator_at f text n ≡ false
  pub over : is_in_numeral f pre r text start n ≡ false

-- both texts have the same bytes before a place
abbrev pub SameBytes : List ℕ → List ℕ → ℕ → Type 0
SameBytes a b n = (k : ℕ) → k < n → slice_get a k ≡ slice_get b k

pub same_digit : (r : ℕ) (a b : List ℕ) (k : ℕ) → slice_get a k ≡ slice_get b k → digit_at r a k ≡ digit_at r b k
unfolding digit_at
same_digit r a b k e = ap (option_and_then (λ byte. digit r byte)) e

pub same_separator : (f : Format) (a b : List ℕ) (k : ℕ) → slice_get a k ≡ slice_get b k → separator_at f a k ≡ separator_at f b k
unfolding separator_at
same_separator f a b k e = ap (are_same f.digit_separator) e

-- ---- runs

-- a run that begins before the place ends there at the latest
run_ends : (f : Format) (pre : Bool) (r : ℕ) (a : List ℕ) (start n p q : ℕ) → IsCut f pre r a start n → IsRun f a start p q → p < n → q ≤ n
run_ends f pre r a start n p q cut run low = elim (cases_lt n q) [
  | inl lt ↦
      let first = run.low in
      let last = run.holds (n - 1) (omega arith) (omega arith) in
      let next = run.holds n (omega arith) lt in
      absurd (false≢true (sym (cut.run (omega arith) last) ∙ next))
  | inr ge ↦ ge
]

module _ (f : Format) (pre : Bool) (r : ℕ) (a b : List ℕ) (start n : ℕ) (ca : IsCut f pre r a start n) (cb : IsCut f pre r b start n) (same : SameBytes a b n) where
  separators : (k : ℕ) → k < n → separator_at f a k ≡ separator_at f b k
  separators k l = same_separator f a b k (same k l)

  digits : (k : ℕ) → k < n → digit_at r a k ≡ digit_at r b k
  digits k l = same_digit r a b k (same k l)

  digits_to : (k : ℕ) → k ≤ n → digit_at r a k ≡ digit_at r b k
  digits_to k l = elim (cases_lt k n) [
    | inl lt ↦ digits k lt
    | inr ge ↦ (let e : k ≡ n = omega arith in rw e (ca.digit ∙ sym cb.digit))
  ]

  -- it is one of the other text
  same_run : (p q : ℕ) → IsRun f a start p q → q ≤ n → IsRun f b start p q
  same_run p q run inside =
      let some = run.some in
      let low = run.low in
      record {
        low = run.low;
        some = run.some;
        holds = λ k l h. sym (separators k (omega arith)) ∙ run.holds k l h;
        before = λ l. sym (separators (p - 1) (omega arith)) ∙ run.before l;
        behind = elim (cases_lt q n) [
          | inl lt ↦ sym (separators q lt) ∙ run.behind
          | inr ge ↦
              let e : q ≡ n = omega arith in
              let last = run.holds (n - 1) (omega arith) (omega arith) in
              ap (separator_at f b) e ∙ cb.run (omega arith) (sym (separators (n - 1) (omega arith)) ∙ last)
        ];
      }

  -- and passes alike
  same_passes : (p q : ℕ) → p < q → q ≤ n → run_passes f pre r a start p q ≡ run_passes f pre r b start p q
  unfolding run_passes
  same_passes p q some inside =
      let before = digits_to (p - 1) (omega arith) in
      let behind = digits_to q inside in
      rw (before, behind) refl

  same_run_at : (k : ℕ) → start ≤ k → k < n → separator_at f a k ≡ true → is_in_passing_run f pre r a start k ≡ is_in_passing_run f pre r b start k
  same_run_at k low high here =
      let run = run_of f a start k low here in
      let inside = run_ends f pre r a start n run.0 run.1 ca run.2 (let first = run.3 in omega arith) in
      run_at f pre r a start run.0 run.1 k run.2 run.3 run.4
      ∙ same_passes run.0 run.1 (run.2).some inside
      ∙ sym (run_at f pre r b start run.0 run.1 k (same_run run.0 run.1 run.2 inside) run.3 run.4)

  -- ---- the end

  belongs : (k : ℕ) → start ≤ k → k < n → is_in_numeral f pre r a start k ≡ is_in_numeral f pre r b start k
  unfolding is_in_numeral
  belongs k low high = elim (true_or_false (separator_at f a k)) [
    | inl on ↦
        ap (λ o. is_some o || (separator_at f a k && is_in_passing_run f pre r a start k)) (digits k high)
        ∙ ap (λ s. is_some (digit_at r b k) || (s && is_in_passing_run f pre r a start k)) (separators k high)
        ∙ ap (λ p. is_some (digit_at r b k) || (separator_at f b k && p)) (same_run_at k low high on)
    | inr off ↦
        let off' : separator_at f b k ≡ false = sym (separators k high) ∙ off in
        let here = digits k high in
        rw (off, off', here) refl
  ]

  ends_low : (text : List ℕ) → start ≤ n → IsCut f pre r text start n → end_of f pre r text start ≤ n
  ends_low text low cut = elim (cases_lt n (end_of f pre r text start)) [
    | inl lt ↦ (let stop = IsStop-end_of f pre r text start (let w = cut.within in omega arith) in absurd (false≢true (sym cut.over ∙ stop.holds n low lt)))
    | inr ge ↦ ge
  ]

  pub same_end : start ≤ n → end_of f pre r a start ≡ end_of f pre r b start
  same_end low =
      let wa = ca.within in
      let wb = cb.within in
      let sa = IsStop-end_of f pre r a start (omega arith) in
      let sb = IsStop-end_of f pre r b start (omega arith) in
      let la = ends_low a low ca in
      let lb = ends_low b low cb in
      IsStop-unique (is_in_numeral f pre r b start) start n (end_of f pre r a start) (end_of f pre r b start)
      (record {
        low = sa.low;
        high = la;
        holds = λ k l h. sym (belongs k l (omega arith)) ∙ sa.holds k l h;
        fails = λ l. sym (belongs (end_of f pre r a start) sa.low l) ∙ sa.fails (omega arith);
      })
      (record { low = sb.low; high = lb; holds = sb.holds; fails = λ l. sb.fails (omega arith) })

  -- ---- the digits

  same_places : (from count : ℕ) → from + count ≤ n → filter (λ place. is_some (digit_at r a place)) (range_with_len from count) ≡ filter (λ place. is_some (digit_at r b place)) (range_with_len from count)
  same_places from zero low = refl
  same_places from (suc count) low =
      let rest = same_places (from + 1) count (omega arith) in
      let more : List ℕ = filter (λ place. is_some (digit_at r a place)) (range_with_len (from + 1) count) in
      ap (λ o. cond (is_some o) (from ∷ more) more) (digits from (omega arith))
      ∙ ap (λ xs. cond (is_some (digit_at r b from)) (from ∷ xs) xs) rest

  same_values : (from count : ℕ) → from + count ≤ n →
      map (λ place. unwrap_or (digit_at r a place) 0) (filter (λ place. is_some (digit_at r a place)) (range_with_len from count))
      ≡ map (λ place. unwrap_or (digit_at r b place) 0) (filter (λ place. is_some (digit_at r b place)) (range_with_len from count))
  same_values from zero low = refl
  same_values from (suc count) low =
      let rest = same_values (from + 1) count (omega arith) in
      first_value r a from (filter (λ place. is_some (digit_at r a place)) (range_with_len (from + 1) count)) (digit_at r b from) (digits from (omega arith))
      ∙ ap (with_digit (digit_at r b from)) rest
      ∙ sym (first_value r b from (filter (λ place. is_some (digit_at r b place)) (range_with_len (from + 1) count)) (digit_at r b from) refl)

  -- ---- the numeral

  pub places_same : start ≤ n → places f pre r a start ≡ places f pre r b start
  unfolding digits_between
  places_same low =
      let sa = IsStop-end_of f pre r a start (let wa = ca.within in omega arith) in
      let la = ends_low a low ca in
      same_places start (end_of f pre r a start - start) (omega (arith, sa.low))
      ∙ ap (λ e. digits_between r b start e) (same_end low)

  -- where the suffix stands behind both or behind none
  abbrev CloseAlike : Type 0
  CloseAlike = (nat_lt 0 (length (places f pre r a start)) && suffix_at f a (end_of f pre r a start)) ≡ (nat_lt 0 (length (places f pre r b start)) && suffix_at f b (end_of f pre r b start))

  stops : CloseAlike → end_of f pre r a start ≡ end_of f pre r b start → numeral_stop f pre r a start ≡ numeral_stop f pre r b start
  unfolding numeral_stop
  stops closes end = ap (λ c. cond c (end_of f pre r a start + 1) (end_of f pre r a start)) closes ∙ ap (λ e. cond (nat_lt 0 (length (places f pre r b start)) && suffix_at f b (end_of f pre r b start)) (e + 1) e) end

  pub numeral_same : start ≤ n → CloseAlike → numeral_in f pre r a start ≡ numeral_in f pre r b start
  unfolding numeral_in digits_between
  numeral_same low closes =
      let sa = IsStop-end_of f pre r a start (let wa = ca.within in omega arith) in
      let la = ends_low a low ca in
      let end = same_end low in
      let spots = places_same low in
      let values : map (λ place. unwrap_or (digit_at r a place) 0) (places f pre r a start) ≡ map (λ place. unwrap_or (digit_at r b place) 0) (places f pre r b start) =
      same_values start (end_of f pre r a start - start) (omega (arith, sa.low))
      ∙ ap (λ e. map (λ place. unwrap_or (digit_at r b place) 0) (digits_between r b start e)) end in
      let stop : numeral_stop f pre r a start ≡ numeral_stop f pre r b start = stops closes end in
      rw (values, spots, end, stop) refl

-- ---- the head

behind_alike : (f : Format) (a b : List ℕ) (s : Bool × ℕ) (p : Option ℕ) → octal_zero_at f a s.1 ≡ octal_zero_at f b s.1 → head_behind f a s p ≡ head_behind f b s p
behind_alike f a b s None same = ap (λ o. record { is_negative = s.0; is_prefixed = false; is_octal = o; start = s.1; radix = cond o 8 f.mantissa_radix }) same
behind_alike f a b s (Some r) same = refl

-- Two texts have the same zero at a place, and behind it what names the same radix.
pub record ArePrefixedAlike (f : Format) (a b : List ℕ) (k : ℕ) : Type 0 where
  pub zero : are_same (Some 48) (slice_get a k) ≡ are_same (Some 48) (slice_get b k)
  pub letter : are_same (Some 48) (slice_get b k) ≡ true → named_radix f (slice_get a (k + 1)) ≡ named_radix f (slice_get b (k + 1))

prefix_alike : (f : Format) (a b : List ℕ) (k : ℕ) → ArePrefixedAlike f a b k → prefix_radix f a k ≡ prefix_radix f b k
unfolding prefix_radix
prefix_alike f a b k w = elim (true_or_false (are_same (Some 48) (slice_get b k))) [
  | inl on ↦ (let m = w.letter on in let z = w.zero in rw (z, on, m) refl)
  | inr off ↦ (let z = w.zero in rw (z, off) refl)
]

octal_alike : (f : Format) (a b : List ℕ) (k : ℕ) → ArePrefixedAlike f a b k → octal_zero_at f a k ≡ octal_zero_at f b k
unfolding octal_zero_at
octal_alike f a b k w = ap (λ z. f.literal_octal_zero && z) w.zero

pub head_alike : (f : Format) (t : IntegerType) (a b : List ℕ) → sign f t a ≡ sign f t b → ((s : Bool × ℕ) → sign f t b ≡ Ok s → ArePrefixedAlike f a b s.1) → head_of f t a ≡ head_of f t b
unfolding head_of
head_alike f t a b same prefixed = ap (head_after f a) same ∙ by_sign (sign f t b) refl
  where
    by_sign : (s : Result (Bool × ℕ) Error) → sign f t b ≡ s → head_after f a s ≡ head_after f b s
    by_sign (Err e) is = refl
    by_sign (Ok s) is =
        ap (λ p. Ok (head_behind f a s p)) (prefix_alike f a b s.1 (prefixed s is))
        ∙ ap Ok (behind_alike f a b s (prefix_radix f b s.1) (octal_alike f a b s.1 (prefixed s is)))
