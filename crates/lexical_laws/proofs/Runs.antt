-- Runs of separators in a body are those of the text that it stands in, and the numeral's end is the body's.
use Rattle.std.proofs.Common.{◌≡◌, ℕ, ◌+◌, ◌-◌, ◌<◌, ◌≤◌, Bool, true, false, ◌&&◌, ◌||◌, List, length, refl, sym, ap, ◌∙◌, arith, Option, Some, None, is_some, inl, inr}
use Rattle.std.proofs.Math.Bool.{and-true, or-false}
use Rattle.std.proofs.lemmas.Bool.{false≢true, cases_lt, lt-ltb, le-ltb}
use Rattle.std.proofs.lemmas.Bool.Decides.{nat_tests}
use Rattle.std.specs.Prelude.{◌==◌, nat_lt, slice_get}
use Rattle.lexical_util.specs.Format.{Format}
use Rattle.lexical_parse_integer.specs.Runs.{are_same, begin_of, digit_at, end_of, flag_for, is_in_numeral, is_in_passing_run, run_begin, run_passes, run_stop, separator_at, stop_of}
use Rattle.lexical_parse_integer.proofs.ForCallers.{HoldsBetween, IsBegin-begin_of, IsStop-end_of, IsStop-stop_of, IsStop-unique, begin_of_is, belongs_other, belongs_separator, separator_at_past, separator_at_within, stop_of_is, true_or_false}

-- ---- separators of a text, and of a body

same_byte : (b : ℕ) → (b == b) ≡ true
same_byte b = grind (arith, nat_tests)

pub separator_byte : (f : Format) (text : List ℕ) (k s : ℕ) → f.digit_separator ≡ Some s → slice_get text k ≡ Some s → separator_at f text k ≡ true
unfolding separator_at are_same
separator_byte f text k s set here = rw (set, here) (same_byte s)

pub separator_told : (f : Format) (text : List ℕ) (k : ℕ) → separator_at f text k ≡ true → (s : ℕ) × (f.digit_separator ≡ Some s) × (slice_get text k ≡ Some s)
unfolding separator_at are_same
separator_told f text k here = by_bytes f.digit_separator (slice_get text k) here
  where
    by_bytes : (o c : Option ℕ) → are_same o c ≡ true → (s : ℕ) × (o ≡ Some s) × (c ≡ Some s)
    by_bytes None c t = absurd (false≢true t)
    by_bytes (Some s) None t = absurd (false≢true t)
    by_bytes (Some s) (Some c) t = let e : c ≡ s = grind (arith, nat_tests) in (s, refl, ap Some e)

-- ---- a run of separators in a region of a text

-- Separators stand from p to before q, in the region from start on, and none beside them.
pub record IsRun (f : Format) (text : List ℕ) (start p q : ℕ) : Type 0 where
  pub low : start ≤ p
  pub some : p < q
  pub holds : HoldsBetween (separator_at f text) p q
  pub before : start < p → separator_at f text (p - 1) ≡ false
  pub behind : separator_at f text q ≡ false

run_within : (f : Format) (text : List ℕ) (start p q : ℕ) → IsRun f text start p q → q ≤ length text
run_within f text start p q run =
    let last = separator_at_within f text (q - 1) (run.holds (q - 1) (omega (arith, run.some)) (omega (arith, run.some))) in
    omega (arith, run.some)

-- each of its places is in it
pub run_at : (f : Format) (pre : Bool) (r : ℕ) (text : List ℕ) (start p q k : ℕ) → IsRun f text start p q → p ≤ k → k < q → is_in_passing_run f pre r text start k ≡ run_passes f pre r text start p q
run_at f pre r text start p q k run low high =
    let begin : run_begin f text start k ≡ p = begin_of_is (separator_at f text) start p k run.low low (λ j l h. run.holds j l (omega arith)) run.before in
    let within = run_within f text start p q run in
    let stop : run_stop f text k ≡ q = stop_of_is (separator_at f text) k (length text) q (omega arith) (record { low = omega arith; high = within; holds = λ j l h. run.holds j (omega arith) h; fails = λ _. run.behind }) in
    rw (begin, stop) refl

-- the run of a separator
pub run_of : (f : Format) (text : List ℕ) (start k : ℕ) → start ≤ k → separator_at f text k ≡ true → (p : ℕ) × (q : ℕ) × (IsRun f text start p q) × (p ≤ k) × (k < q)
run_of f text start k low here =
    let sep : ℕ → Bool = separator_at f text in
    let inside = separator_at_within f text k here in
    let b = IsBegin-begin_of sep start k low in
    let s = IsStop-stop_of sep k (length text) (omega arith) in
    let p : ℕ = begin_of sep start k in
    let q : ℕ = stop_of sep k (length text) in
    let behind : k < q = elim (cases_lt k q) [
      | inl lt ↦ lt
      | inr ge ↦ (let e : q ≡ k = omega (arith, s.low) in absurd (false≢true (sym (s.fails (omega arith)) ∙ ap sep e ∙ here)))
    ] in (
      p,
      q,
      record {
        low = b.low;
        some = omega (arith, b.high);
        holds = λ j l h. elim (cases_lt j k) [ inl lt ↦ b.holds j l lt | inr ge ↦ s.holds j ge h ];
        before = b.fails;
        behind = elim (cases_lt q (length text)) [ inl lt ↦ s.fails lt | inr ge ↦ separator_at_past f text q ge ];
      },
      b.high,
      behind,
    )

-- ---- a region of digits and separators alone

-- From start to before e stand digits and separators, and at e neither.
pub record IsRegion (f : Format) (r : ℕ) (text : List ℕ) (start e : ℕ) : Type 0 where
  pub low : start ≤ e
  pub high : e ≤ length text
  pub each : (k : ℕ) → start ≤ k → k < e → separator_at f text k ≡ false → is_some (digit_at r text k) ≡ true
  pub none : (k : ℕ) → separator_at f text k ≡ true → digit_at r text k ≡ None
  pub stop_digit : digit_at r text e ≡ None
  pub stop_separator : separator_at f text e ≡ false

-- each run of the region passes
abbrev pub RunsPass : Format → Bool → ℕ → List ℕ → ℕ → ℕ → Type 0
RunsPass f pre r text start e = (p q : ℕ) → IsRun f text start p q → q ≤ e → run_passes f pre r text start p q ≡ true

run_ends : (f : Format) (text : List ℕ) (start e p q : ℕ) → IsRun f text start p q → separator_at f text e ≡ false → p ≤ e → q ≤ e
run_ends f text start e p q run stop low = elim (cases_lt e q) [ inl lt ↦ absurd (false≢true (sym stop ∙ run.holds e low lt)) | inr ge ↦ ge ]

-- a run passes by the flag for what stands beside it
pub passes_by_flag : (f : Format) (pre : Bool) (r : ℕ) (text : List ℕ) (start e p q : ℕ) → IsRegion f r text start e → IsRun f text start p q → q ≤ e →
    run_passes f pre r text start p q ≡ ((f.integer_consecutive_digit_separator || (q == p + 1)) && flag_for f pre (nat_lt start p) (nat_lt q e))
unfolding run_passes
passes_by_flag f pre r text start e p q g run inside = rw (before, behind) refl
  where
    before : (nat_lt start p && is_some (digit_at r text (p - 1))) ≡ nat_lt start p
    before = elim (cases_lt start p) [
      | inl lt ↦ (let here = g.each (p - 1) (omega arith) (omega (arith, run.some)) (run.before lt) in rw here (and-true (nat_lt start p)))
      | inr ge ↦ (let none = le-ltb start p ge in rw none refl)
    ]

    behind : is_some (digit_at r text q) ≡ nat_lt q e
    behind = elim (cases_lt q e) [
      | inl lt ↦ g.each q (omega (arith, run.low, run.some)) lt run.behind ∙ sym (lt-ltb q e lt)
      | inr ge ↦ (let e' : q ≡ e = omega arith in ap (λ k. is_some (digit_at r text k)) e' ∙ ap is_some g.stop_digit ∙ sym (le-ltb q e ge))
    ]

belongs_some : (f : Format) (pre : Bool) (r : ℕ) (text : List ℕ) (start k : ℕ) → is_some (digit_at r text k) ≡ true → is_in_numeral f pre r text start k ≡ true
unfolding is_in_numeral
belongs_some f pre r text start k e = rw e refl

-- where all runs pass, the numeral's end is the region's
pub region_end : (f : Format) (pre : Bool) (r : ℕ) (text : List ℕ) (start e : ℕ) → IsRegion f r text start e → RunsPass f pre r text start e → end_of f pre r text start ≡ e
region_end f pre r text start e g pass =
    IsStop-unique (is_in_numeral f pre r text start) start (length text) (end_of f pre r text start) e (IsStop-end_of f pre r text start (omega (arith, g.low, g.high))) (record {
      low = g.low;
      high = g.high;
      holds = λ k low high. elim (true_or_false (separator_at f text k)) [
        | inl t ↦
            let run = run_of f text start k low t in
            let ends = run_ends f text start e run.0 run.1 run.2 g.stop_separator (omega (arith, run.3)) in
            belongs_separator f pre r text start k t (g.none k t) (run_at f pre r text start run.0 run.1 k run.2 run.3 run.4 ∙ pass run.0 run.1 run.2 ends)
        | inr t ↦ belongs_some f pre r text start k (g.each k low high t)
      ];
      fails = λ _. belongs_other f pre r text start e g.stop_separator g.stop_digit;
    })

other_is_digit : (f : Format) (pre : Bool) (r : ℕ) (text : List ℕ) (start k : ℕ) → is_in_numeral f pre r text start k ≡ true → separator_at f text k ≡ false → is_some (digit_at r text k) ≡ true
unfolding is_in_numeral
other_is_digit f pre r text start k here s = let told = rw s at here in sym (or-false (is_some (digit_at r text k))) ∙ told

pub run_in_numeral : (f : Format) (pre : Bool) (r : ℕ) (text : List ℕ) (start k : ℕ) → is_in_numeral f pre r text start k ≡ true → digit_at r text k ≡ None → separator_at f text k ≡ true → is_in_passing_run f pre r text start k ≡ true
unfolding is_in_numeral
run_in_numeral f pre r text start k here none s = rw (none, s) at here

-- where the numeral ends, each place before holds a digit or a separator
pub numeral_each : (f : Format) (pre : Bool) (r : ℕ) (text : List ℕ) (start k : ℕ) → start ≤ length text → start ≤ k → k < end_of f pre r text start → separator_at f text k ≡ false → is_some (digit_at r text k) ≡ true
numeral_each f pre r text start k within low high s =
    other_is_digit f pre r text start k ((IsStop-end_of f pre r text start within).holds k low high) s

-- and each run passes
pub numeral_runs : (f : Format) (pre : Bool) (r : ℕ) (text : List ℕ) (start : ℕ) → start ≤ length text → ((k : ℕ) → separator_at f text k ≡ true → digit_at r text k ≡ None) → RunsPass f pre r text start (end_of f pre r text start)
numeral_runs f pre r text start within none p q run ends =
    let first = run.holds p (omega arith) run.some in
    let here = (IsStop-end_of f pre r text start within).holds p run.low (omega (arith, run.some)) in
    sym (run_at f pre r text start p q p run (omega arith) run.some) ∙ run_in_numeral f pre r text start p here (none p first) first
