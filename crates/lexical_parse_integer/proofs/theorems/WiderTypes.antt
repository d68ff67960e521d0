-- What is read as one type is read alike as a wider one of the same sign.
use Rattle.std.proofs.Common.{◌≡◌, ℕ, ◌+◌, ◌-◌, ◌≤◌, Bool, true, false, ◌&&◌, cond, not, List, [], ◌∷◌, ◌++◌, refl, sym, ap, arith, Option, Some, None, Ok, Err, Result}
use Rattle.std.proofs.Math.Pow.{pow_mono}
use Rattle.std.proofs.lemmas.Bool.{false≢true}
use Rattle.std.proofs.lemmas.Bool.Decides.{nat_tests}
use Rattle.std.specs.List.{range_with_len}
use Rattle.std.specs.Option.{option_map}
use Rattle.std.specs.Prelude.{◌^◌, find, nat_lt, slice_get, slice_index, ℤ, pos, negsuc}
use Rattle.lexical_util.specs.declared.error.Error.{Error}
use Rattle.lexical_util.specs.Format.{Format}
use Rattle.lexical_util.specs.Number.{IntegerType, IsNumber, is_number, number_limit}
use Rattle.lexical_parse_integer.specs.Grammar.{after_head, common_faults, first_fault_or, first_outside, partial, partial_faults, prefix_fault, range_error, range_fault, zero_fault}
use Rattle.lexical_parse_integer.specs.Head.{Head, chooses_radix, head_after, head_of, sign, sign_by}
use Rattle.lexical_parse_integer.specs.Numeral.{Numeral, digit_count, front_value, numeral_behind, numeral_value}

-- a third fault that isn't there makes no difference
without_third : {A : Type 0} (a b c d : Option Error) (rest : List (Option Error)) (w z : A)
    → (c ≡ None → d ≡ None) → first_fault_or (a ∷ b ∷ c ∷ rest) w ≡ Ok z
    → first_fault_or (a ∷ b ∷ d ∷ rest) w ≡ Ok z
without_third None None None d rest w z both read = rw (both refl) read
without_third None None (Some e) d rest w z both read = cc
without_third None (Some e) c d rest w z both read = cc
without_third (Some e) b c d rest w z both read = cc

none_fails : (p q : ℕ → Bool) (xs : List ℕ) → ((i : ℕ) → q i ≡ true → p i ≡ true) → find p xs ≡ None → find q xs ≡ None
none_fails p q [] fewer none = refl
none_fails p q (x ∷ xs) fewer none = by_tests (p x) (q x) (fewer x) none (none_fails p q xs fewer)
  where
    by_tests : (a b : Bool) → (b ≡ true → a ≡ true) → cond a (Some x) (find p xs) ≡ None
        → (find p xs ≡ None → find q xs ≡ None) → cond b (Some x) (find q xs) ≡ None
    by_tests true b both none more = absurd (cc)
    by_tests false true both none more = absurd (false≢true (both refl))
    by_tests false false both none more = more none

unmapped : {A B : Type 0} (g : A → B) (found : Option A) → option_map g found ≡ None → found ≡ None
unmapped g None e = refl
unmapped g (Some x) e = cc

outside_both : (a b : Bool) → (a ≡ true → b ≡ true) → not b ≡ true → not a ≡ true
outside_both false b both out = refl
outside_both true true both out = out
outside_both true false both out = absurd (false≢true (both refl))

module _ (f : Format) (t u : IntegerType) (text : List ℕ) (same : u.is_signed ≡ t.is_signed) (wide : t.bits ≤ u.bits) where
  limits : number_limit t ≤ number_limit u
  limits = by_sign t.is_signed u.is_signed same
    where
      by_sign : (a b : Bool) → b ≡ a → 2 ^ (cond a (t.bits - 1) t.bits) ≤ 2 ^ (cond b (u.bits - 1) u.bits)
      by_sign true true e = pow_mono (omega (arith, wide))
      by_sign false false e = pow_mono wide
      by_sign true false e = absurd (false≢true e)
      by_sign false true e = absurd (false≢true (sym e))

  numbers : (v : ℤ) → IsNumber t v → IsNumber u v
  numbers (pos n) is = let most = limits in grind (arith, nat_tests)
  numbers (negsuc n) is = by_signs t.is_signed u.is_signed same is
    where
      by_signs : (a b : Bool) → b ≡ a → (a && nat_lt n (number_limit t)) ≡ true → (b && nat_lt n (number_limit u)) ≡ true
      by_signs true true e low = let most = limits in grind (arith, nat_tests)
      by_signs true false e low = absurd (false≢true e)
      by_signs false b e low = absurd (false≢true low)

  same_sign : sign f t text ≡ sign f u text
  unfolding sign
  same_sign = by_first (slice_get text 0)
    where
      by_first : (first : Option ℕ) → sign_by f t first ≡ sign_by f u first
      by_first None = refl
      by_first (Some byte) = rw same refl

  same_head : head_of f t text ≡ head_of f u text
  unfolding head_of
  same_head = ap (head_after f text) same_sign

  no_range : (m : Bool) (x : Numeral) → range_fault t m x ≡ None → range_fault u m x ≡ None
  unfolding range_fault
  no_range m x none =
      let found = unmapped (λ index. range_error m (slice_index x.places index)) (first_outside t m x) none in
      let none_wider : first_outside u m x ≡ None =
      none_fails (λ index. not (is_number t (front_value m x (index + 1)))) (λ index. not (is_number u (front_value m x (index + 1))))
      (range_with_len 0 (digit_count x)) (λ i out. outside_both _ _ (numbers (front_value m x (i + 1))) out) found in
      rw none_wider refl

  -- what stands behind a head
  abbrev behind : IntegerType → Head → Result (ℤ × ℕ) Error
  behind type head =
      let numeral = numeral_behind f text head in
      first_fault_or
      (common_faults f type text head numeral ++ partial_faults f text numeral)
      (numeral_value head.is_negative numeral, numeral.stop)

  pub wider_read : (found : ℤ × ℕ) → partial f t text ≡ Ok found → partial f u text ≡ Ok found
  unfolding partial
  wider_read found read = rw (sym same_head) (by_head (head_of f t text) read)
    where
      by_head : (h : Result Head Error) → after_head h (behind t) ≡ Ok found → after_head h (behind u) ≡ Ok found
      by_head (Err e) told = cc
      by_head (Ok h) told =
          let x : Numeral = numeral_behind f text h in
          without_third (prefix_fault text h) (zero_fault f (chooses_radix h) x) _ _ (partial_faults f text x) _ _
          (no_range h.is_negative x) told
