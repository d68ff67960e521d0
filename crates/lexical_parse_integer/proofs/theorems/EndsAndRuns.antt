-- Ends are greatest and runs are longest: for `laws::grammar`.
use Rattle.std.proofs.Common.{◌≡◌, ℕ, zero, suc, ◌-◌, ◌≤◌, ◌<◌, Bool, true, false, ◌&&◌, leb, List, length, sym, ◌∙◌, ap, arith, inl, inr}
use Rattle.std.proofs.lemmas.Bool.{false≢true, cases_lt}
use Rattle.std.proofs.lemmas.Bool.Decides.{nat_tests}
use Rattle.lexical_parse_integer.specs.Laws.{IsGreatestEnd, IsLongestRun}
use Rattle.lexical_parse_integer.specs.Runs.{begin_of, is_in_numeral, end_of, run_begin, run_stop, separator_at}
use Rattle.lexical_util.specs.Format.{Format}
use Rattle.lexical_parse_integer.proofs.grammar.Stretches.{HoldsBetween, IsStop-stop_of, below_stop, begin_of_if, true_or_false}
use Rattle.lexical_parse_integer.proofs.grammar.NumeralEnd.{IsStop-end_of, separator_at_within, run_below}

pub greatest_end_is : (f : Format) (pre : Bool) (r : ℕ) (b : List ℕ) (j : ℕ) → j ≤ length b → IsGreatestEnd f pre r b j
greatest_end_is f pre r b j h =
    let s = IsStop-end_of f pre r b j h in
    record {
      from = s.low;
      within = s.high;
      belong = s.holds;
      greatest = λ e within all. below_stop (is_in_numeral f pre r b j) j (length b) (end_of f pre r b j) e s within (λ k l h'. all k (omega (arith, s.low)) h');
    }

-- the begin of a stretch: at most k, p holds from it on, and p fails just before it
pub record IsBegin (p : ℕ → Bool) (j k from : ℕ) : Type 0 where
  pub low : j ≤ from
  pub high : from ≤ k
  pub holds : HoldsBetween p from k
  pub fails : j < from → p (from - 1) ≡ false

begin_later : (p : ℕ → Bool) (j k from : ℕ) → p k ≡ true → IsBegin p j k from → IsBegin p j (suc k) from
begin_later p j k from here s = record {
  low = s.low;
  high = omega (arith, s.high);
  holds = λ m l h. elim (cases_lt m k) [ inl lt ↦ s.holds m l lt | inr ge ↦ let e : m ≡ k = omega arith in rw e here ];
  fails = s.fails;
}

pub IsBegin-begin_of : (p : ℕ → Bool) (j k : ℕ) → j ≤ k → IsBegin p j k (begin_of p j k)
unfolding begin_of
IsBegin-begin_of p j zero h =
    let none : begin_of p j 0 ≡ 0 = omega arith in
    rw none (record { low = h; high = omega arith; holds = λ m l h'. absurd (omega arith); fails = λ h'. absurd (omega arith) })
IsBegin-begin_of p j (suc k) h =
    elim (cases_lt k j) [
      | inl lt ↦
          let out : leb j k ≡ false = grind (arith, nat_tests) in
          rw (begin_of_if p j k false (ap (λ w. w && p k) out)) (record { low = h; high = omega arith; holds = λ m l h'. absurd (omega arith); fails = λ h'. absurd (omega arith) })
      | inr ge ↦
          let at : leb j k ≡ true = grind (arith, nat_tests) in
          let back : suc k - 1 ≡ k = omega arith in
          elim (true_or_false (p k)) [
            | inl t ↦ rw (begin_of_if p j k true (ap (λ w. w && p k) at ∙ t)) (begin_later p j k (begin_of p j k) t (IsBegin-begin_of p j k ge))
            | inr t ↦ rw (begin_of_if p j k false (ap (λ w. w && p k) at ∙ t)) (record { low = h; high = omega arith; holds = λ m l h'. absurd (omega arith); fails = λ h'. rw back t })
          ]
    ]

pub longest_run_is : (f : Format) (b : List ℕ) (j k : ℕ) → j ≤ k → separator_at f b k ≡ true → IsLongestRun f b j k
longest_run_is f b j k low here =
    let sep : ℕ → Bool = separator_at f b in
    let inside = separator_at_within f b k here in
    let s = IsStop-stop_of sep k (length b) (omega arith) in
    let t = IsBegin-begin_of sep j k low in
    let last = run_below f b k (run_stop f b k) here s in
    record {
      from = t.low;
      holds_first = t.high;
      holds_last = last;
      within = s.high;
      separators = λ m l h. elim (cases_lt m k) [ inl lt ↦ t.holds m l lt | inr ge ↦ s.holds m ge h ];
      longest_before = λ p l h all. elim (cases_lt p (run_begin f b j k)) [
        | inl lt ↦ absurd (false≢true (sym (t.fails (omega arith)) ∙ all (run_begin f b j k - 1) (omega arith) (omega (arith, t.high))))
        | inr ge ↦ ge
      ];
      longest_behind = λ q l h all. below_stop sep k (length b) (run_stop f b k) q s h (λ m l' h'. all m (omega (arith, s.low)) h');
    }
