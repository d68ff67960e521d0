-- Which places belong to a numeral, and what its end follows from: for the search of the next digit.
use Rattle.std.proofs.Common.{◌≡◌, ℕ, suc, ◌+◌, ◌-◌, ◌≤◌, ◌<◌, ◌&&◌, ◌||◌, Bool, true, false, List, length, Some, None, is_some, option_and_then, refl, sym, ◌∙◌, ap, arith, inl, inr}
use Rattle.std.proofs.lemmas.Bool.{false≢true, cases_lt}
use Rattle.std.proofs.lemmas.Option.{slice_get_past}
use Rattle.lexical_parse_integer.specs.Runs.{are_same, is_in_numeral, digit_at, end_of, is_in_passing_run, run_begin, run_passes, run_stop, separator_at}
use Rattle.lexical_parse_integer.specs.Seeking.{Finds, HasNoDigit, IsAtRunStart, IsSeparatorNoDigit}
use Rattle.lexical_util.specs.Digit.{digit}
use Rattle.lexical_util.specs.Format.{Format}
use Rattle.lexical_parse_integer.specs.declared.seek.Found.TheVariants.{Digit, End}
use Rattle.lexical_parse_integer.proofs.grammar.Stretches.{HoldsBetween, IsStop, IsStop-stop_of, IsStop-unique, stop_of_is, below_stop, HoldsBetween-joined, begin_of_is}

pub digit_at_past : (r : ℕ) (b : List ℕ) (k : ℕ) → length b ≤ k → digit_at r b k ≡ None
unfolding digit_at
digit_at_past r b k h = ap (option_and_then (λ c. digit r c)) (slice_get_past b k h)

pub separator_at_past : (f : Format) (b : List ℕ) (k : ℕ) → length b ≤ k → separator_at f b k ≡ false
unfolding separator_at are_same
separator_at_past f b k h = rw (slice_get_past b k h) (elim f.digit_separator as (λ s. are_same s None ≡ false) [ None ↦ refl | Some s ↦ refl ])

pub digit_at_within : (r : ℕ) (b : List ℕ) (k v : ℕ) → digit_at r b k ≡ Some v → k < length b
digit_at_within r b k v e =
    elim (cases_lt k (length b)) [ inl lt ↦ lt | inr ge ↦ let none = digit_at_past r b k ge in absurd (cc) ]

pub separator_at_within : (f : Format) (b : List ℕ) (k : ℕ) → separator_at f b k ≡ true → k < length b
separator_at_within f b k e =
    elim (cases_lt k (length b)) [ inl lt ↦ lt | inr ge ↦ absurd (false≢true (sym (separator_at_past f b k ge) ∙ e)) ]

-- a run reaches behind its first byte
pub run_below : (f : Format) (b : List ℕ) (p q : ℕ) → separator_at f b p ≡ true → IsStop (separator_at f b) p (length b) q → p < q
run_below f b p q first run =
    elim (cases_lt p q) [
      | inl lt ↦ lt
      | inr ge ↦
          let e : q ≡ p = omega (arith, run.low) in
          let outside = run.fails (omega (arith, separator_at_within f b p first)) in
          absurd (false≢true (sym (rw e at outside) ∙ first))
    ]

-- it ends where the run from its second byte on ends
pub run_from_second : (f : Format) (b : List ℕ) (p : ℕ) → separator_at f b p ≡ true → run_stop f b (p + 1) ≡ run_stop f b p
run_from_second f b p first =
    let within = separator_at_within f b p first in
    let rest = IsStop-stop_of (separator_at f b) (p + 1) (length b) (omega arith) in
    let low = rest.low in
    sym (stop_of_is (separator_at f b) p (length b) (run_stop f b (p + 1)) (omega arith) (record {
      low = omega arith;
      high = rest.high;
      holds = λ k l h. elim (cases_lt p k) [ inl lt ↦ rest.holds k (omega arith) h | inr ge ↦ let e : k ≡ p = omega arith in ap (separator_at f b) e ∙ first ];
      fails = rest.fails;
    }))

module _ (f : Format) (pre : Bool) (r : ℕ) (b : List ℕ) (j : ℕ) where
  pub belongs_digit : (k v : ℕ) → digit_at r b k ≡ Some v → is_in_numeral f pre r b j k ≡ true
  unfolding is_in_numeral
  belongs_digit k v e = rw e refl

  pub belongs_separator : (k : ℕ) → separator_at f b k ≡ true → digit_at r b k ≡ None → is_in_passing_run f pre r b j k ≡ true → is_in_numeral f pre r b j k ≡ true
  unfolding is_in_numeral
  belongs_separator k s e p = rw (e, s, p) refl

  pub belongs_other : (k : ℕ) → separator_at f b k ≡ false → digit_at r b k ≡ None → is_in_numeral f pre r b j k ≡ false
  unfolding is_in_numeral
  belongs_other k s e = rw (e, s) refl

  pub belongs_refused : (k : ℕ) → separator_at f b k ≡ true → digit_at r b k ≡ None → is_in_passing_run f pre r b j k ≡ false → is_in_numeral f pre r b j k ≡ false
  unfolding is_in_numeral
  belongs_refused k s e p = rw (e, s, p) refl

  pub IsStop-end_of : j ≤ length b → IsStop (is_in_numeral f pre r b j) j (length b) (end_of f pre r b j)
  unfolding end_of
  IsStop-end_of h = IsStop-stop_of (is_in_numeral f pre r b j) j (length b) h

  -- a place that the numeral reaches, and from which on all belongs up to q, which doesn't
  pub is_end : (p q : ℕ) → j ≤ p → p ≤ end_of f pre r b j → p ≤ q → q ≤ length b → HoldsBetween (is_in_numeral f pre r b j) p q → (q < length b → is_in_numeral f pre r b j q ≡ false) → q ≡ end_of f pre r b j
  is_end p q low high pq within holds fails =
      let s = IsStop-end_of (omega arith) in
      IsStop-unique (is_in_numeral f pre r b j) j (length b) q (end_of f pre r b j) (record {
        low = omega arith;
        high = within;
        holds = HoldsBetween-joined (is_in_numeral f pre r b j) j p q (λ k l h. s.holds k l (omega arith)) holds;
        fails = fails;
      }) s

  -- a place that the numeral reaches, from which on all belongs up to q and q too, is before its end
  pub is_inside : (p q : ℕ) → j ≤ p → p ≤ end_of f pre r b j → p ≤ q → HoldsBetween (is_in_numeral f pre r b j) p q → q < length b → is_in_numeral f pre r b j q ≡ true → q < end_of f pre r b j
  is_inside p q low high pq holds within here =
      let s = IsStop-end_of (omega arith) in
      let reach : suc q ≤ end_of f pre r b j =
      below_stop (is_in_numeral f pre r b j) j (length b) (end_of f pre r b j) (suc q) s (omega arith) (λ k l h.
      elim (cases_lt k q) [ inl lt ↦ holds k (omega arith) lt | inr ge ↦ let e : k ≡ q = omega arith in rw e here ]) in
      omega arith

  -- what belongs is within the numeral
  pub reaches : (p q : ℕ) → j ≤ p → p ≤ end_of f pre r b j → q ≤ length b → p ≤ length b → HoldsBetween (is_in_numeral f pre r b j) p q → q ≤ end_of f pre r b j
  reaches p q low high within inside holds =
      below_stop (is_in_numeral f pre r b j) j (length b) (end_of f pre r b j) q (IsStop-end_of (omega arith)) within (λ k l h. holds k (omega arith) h)

  -- a run that begins at p is the run of each of its places
  pub passes_is : (p q k : ℕ) → j ≤ p → p ≤ length b → IsAtRunStart f b j p → IsStop (separator_at f b) p (length b) q → p ≤ k → k < q → is_in_passing_run f pre r b j k ≡ run_passes f pre r b j p q
  passes_is p q k low within edge s from to =
      let e₁ : run_begin f b j k ≡ p =
      begin_of_is (separator_at f b) j p k low from (λ m l h. s.holds m l (omega arith)) (λ h. edge h (s.holds p (omega arith) (omega arith))) in
      let e₂ : run_stop f b k ≡ q =
      stop_of_is (separator_at f b) k (length b) q (omega (arith, s.high)) (record { low = omega arith; high = s.high; holds = λ m l h. s.holds m (omega arith) h; fails = s.fails }) in
      rw (e₁, e₂) refl

  module _ (p : ℕ) (low : j ≤ p) (reached : p ≤ end_of f pre r b j) (within : p ≤ length b) where
    none_here : HoldsBetween (is_in_numeral f pre r b j) p p
    none_here k l h = absurd (omega arith)

    no_digit_here : HasNoDigit r b p p
    no_digit_here k l h = absurd (omega arith)

    pub finds_here : (v : ℕ) → digit_at r b p ≡ Some v → Finds f pre r b j p (Digit p v)
    finds_here v e =
        (omega arith, is_inside p p low reached (omega arith) none_here (digit_at_within r b p v e) (belongs_digit p v e), no_digit_here, e)

    pub ends_here : digit_at r b p ≡ None → separator_at f b p ≡ false → Finds f pre r b j p (End p)
    ends_here e s = (is_end p p low reached (omega arith) within none_here (λ h. belongs_other p s e), no_digit_here, λ _ t. absurd (false≢true (sym s ∙ t)))

    -- before a run stands a digit, unless the numeral begins with the run
    pub digit_before : separator_at f b p ≡ true → IsAtRunStart f b j p → j < p → is_some (digit_at r b (p - 1)) ≡ true
    unfolding is_in_numeral
    digit_before first edge behind =
        let s = IsStop-end_of (omega arith) in
        by_tests _ _ _ (edge behind first) (s.holds (p - 1) (omega arith) (omega arith))
      where
        by_tests : (digit separator passes : Bool) → separator ≡ false → (digit || (separator && passes)) ≡ true → digit ≡ true
        by_tests true separator passes apart belongs = refl
        by_tests false false passes apart belongs = absurd (false≢true belongs)
        by_tests false true passes apart belongs = absurd (false≢true (sym apart))

    module _ (q : ℕ) (first : separator_at f b p ≡ true) (plain : IsSeparatorNoDigit f r b) (edge : IsAtRunStart f b j p) (run : IsStop (separator_at f b) p (length b) q) where
      p_below_q : p < q
      p_below_q = run_below f b p q first run

      pub ends_refused : run_passes f pre r b j p q ≡ false → Finds f pre r b j p (End p)
      ends_refused v =
          let e : is_in_passing_run f pre r b j p ≡ false = passes_is p q p low within edge run (omega arith) p_below_q ∙ v in
          (is_end p p low reached (omega arith) within none_here (λ h. belongs_refused p first (plain p first) e), no_digit_here, edge)

      no_digit_in_run : HasNoDigit r b p q
      no_digit_in_run k l h = plain k (run.holds k l h)

      run_belongs : run_passes f pre r b j p q ≡ true → HoldsBetween (is_in_numeral f pre r b j) p q
      run_belongs v k l h =
          let s : separator_at f b k ≡ true = run.holds k l h in
          belongs_separator k s (plain k s) (passes_is p q k low within edge run l h ∙ v)

      pub finds_behind : run_passes f pre r b j p q ≡ true → (v : ℕ) → digit_at r b q ≡ Some v → Finds f pre r b j p (Digit q v)
      finds_behind pass v e =
          (run.low, is_inside p q low reached run.low (run_belongs pass) (digit_at_within r b q v e) (belongs_digit q v e), no_digit_in_run, e)

      pub ends_behind : run_passes f pre r b j p q ≡ true → digit_at r b q ≡ None → Finds f pre r b j p (End q)
      ends_behind pass e =
          (is_end p q low reached run.low run.high (run_belongs pass) (λ h. belongs_other q (run.fails h) e), no_digit_in_run, λ _ t. absurd (false≢true (sym (run.fails (separator_at_within f b q t)) ∙ t)))
