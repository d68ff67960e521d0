-- The front of a text that begins with a digit isn't empty: for `front_end`.
use Rattle.std.proofs.Common.{◌≡◌, ℕ, zero, suc, ◌+◌, ◌<◌, ◌≤◌, Bool, true, false, cond, List, ◌++◌, length, Option, Some, None, Ok, Err, Result, refl, ap, sym, subst, ◌∙◌, arith, inl, inr}
use Rattle.std.proofs.lemmas.Bool.{false≢true, cases_lt}
use Rattle.std.proofs.Math.IntN.{ℤ}
use Rattle.std.specs.Prelude.{◌&&◌, nat_lt}
use Rattle.lexical_util.specs.declared.error.Error.{Error}
use Rattle.lexical_util.specs.Format.{Format}
use Rattle.lexical_util.specs.Number.{IntegerType}
use Rattle.lexical_parse_integer.specs.Affixes.{bare_radix, numeral_stop, octal_zero_at, prefix_radix, suffix_at}
use Rattle.lexical_parse_integer.specs.Grammar.{after_head, common_faults, first_fault_or, partial, partial_faults}
use Rattle.lexical_parse_integer.specs.Head.{Head, head_after, head_behind, head_of, sign}
use Rattle.lexical_parse_integer.specs.Numeral.{Numeral, numeral_in, numeral_value, numeral_behind}
use Rattle.lexical_parse_integer.specs.Runs.{digit_at, end_of, places}
use Rattle.lexical_parse_integer.proofs.theorems.CompleteByPartial.{head_within, sign_within, ok_told}
use Rattle.lexical_parse_integer.proofs.reading.FirstDigit.{zero_ahead}
use Rattle.lexical_parse_integer.proofs.reading.OctalZeros.{bare_octal, bare_own, octal_byte}
use Rattle.lexical_parse_integer.proofs.grammar.NumeralEnd.{IsStop-end_of, belongs_digit, digit_at_within}

-- a numeral that begins at the text's front, and a digit there
end_behind : (f : Format) (text : List ℕ) (r d : ℕ) → digit_at r text 0 ≡ Some d → 0 < end_of f false r text 0
end_behind f text r d first =
    let some : 0 < length text = digit_at_within r text 0 d first in
    let stop = IsStop-end_of f false r text 0 (omega arith) in
    elim (cases_lt 0 (end_of f false r text 0)) [
      | inl lt ↦ lt
      | inr ge ↦
          let e : end_of f false r text 0 ≡ 0 = omega arith in
          let outside = stop.fails (omega (arith, some, e)) in
          absurd (false≢true (sym (rw e at outside) ∙ belongs_digit f false r text 0 0 d first))
    ]

-- behind a sign or a prefix the numeral begins past the front already
head_end : (f : Format) (text : List ℕ) (s : Bool × ℕ) (p : Option ℕ) (d : ℕ) → digit_at f.mantissa_radix text 0 ≡ Some d → (head_behind f text s p).start ≤ length text
    → 0 < end_of f (head_behind f text s p).is_prefixed (head_behind f text s p).radix text (head_behind f text s p).start
head_end f text (minus, zero) None d first low = by_zero (octal_zero_at f text 0) refl
  where
    by_zero : (octal : Bool) → octal_zero_at f text 0 ≡ octal → 0 < end_of f false (bare_radix f text 0) text 0
    by_zero true e = subst (λ (r : ℕ). 0 < end_of f false r text 0) (sym (bare_octal f text 0 e)) (end_behind f text 8 0 (zero_ahead 8 text 0 (omega arith) (octal_byte f text 0 e)))
    by_zero false e = subst (λ (r : ℕ). 0 < end_of f false r text 0) (sym (bare_own f text 0 e)) (end_behind f text f.mantissa_radix d first)
head_end f text (minus, suc n) None d first low = let stop = IsStop-end_of f false (bare_radix f text (suc n)) text (suc n) low in omega (arith, stop.low)
head_end f text (minus, n) (Some r) d first low = let stop = IsStop-end_of f true r text (n + 2) low in omega (arith, stop.low)

stop_behind : (f : Format) (pre : Bool) (text : List ℕ) (start r : ℕ) → 0 < end_of f pre r text start → 0 < (numeral_in f pre r text start).stop
unfolding numeral_in numeral_stop
stop_behind f pre text start r some = by_test (nat_lt 0 (length (places f pre r text start)) && suffix_at f text (end_of f pre r text start))
  where
    by_test : (b : Bool) → 0 < cond b (end_of f pre r text start + 1) (end_of f pre r text start)
    by_test true = omega arith
    by_test false = some

pub front_is_some : (f : Format) (t : IntegerType) (text : List ℕ) (v : ℤ) (k d : ℕ) → digit_at f.mantissa_radix text 0 ≡ Some d → partial f t text ≡ Ok (v, k) → 0 < k
unfolding partial head_of
front_is_some f t text v k d first = behind (sign f t text) refl
  where
    behind : (r : Result (Bool × ℕ) Error) → sign f t text ≡ r →
        after_head {A = ℤ × ℕ} (head_after f text r) (λ h. let x = numeral_behind f text h in first_fault_or (common_faults f t text h x ++ partial_faults f text x) (numeral_value h.is_negative x, x.stop)) ≡ Ok (v, k) → 0 < k
    behind (Ok s) e told =
        let h : Head = head_behind f text s (prefix_radix f text s.1) in
        let x : Numeral = numeral_behind f text h in
        let low : h.start ≤ length text = head_within f text s _ (sign_within f t text s e) refl in
        let some : 0 < x.stop = stop_behind f h.is_prefixed text h.start h.radix (head_end f text s (prefix_radix f text s.1) d first low) in
        let same = ok_told (common_faults f t text h x ++ partial_faults f text x) (numeral_value h.is_negative x, x.stop) (v, k) told in
        let at : x.stop ≡ k = ap (λ (w : ℤ × ℕ). w.1) same in
        omega arith
    behind (Err e) h told = cc
