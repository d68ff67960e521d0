-- The number in front of a text, by the answer of its front: for `number`.
use Rattle.std.proofs.Common.{◌≡◌, ◌≢◌, ℕ, Bool, true, false, List, [], ◌∷◌, ◌++◌, length, take, Option, Some, None, IsNone, Ok, Err, Result, not, refl, sym, ap, ◌∙◌, arith}
use Rattle.std.proofs.lemmas.Bool.{false≢true}
use Rattle.std.proofs.lemmas.Bool.Decides.{nat_tests}
use Rattle.std.proofs.Math.IntN.{ℤ}
use Rattle.std.specs.Prelude.{nat_lt, pos}
use Rattle.lexical_util.specs.declared.error.Error.{Error}
use Rattle.lexical_util.specs.Format.{Format}
use Rattle.lexical_util.specs.Number.{IntegerType}
use Rattle.lexical_util.specs.Validity.{fault}
use Rattle.lexical_parse_integer.specs.Fronts.{has_digit, has_digit_behind, if_digit, number_in_front, number_in_front_if_valid}
use Rattle.lexical_parse_integer.specs.Grammar.{after_head, common_faults, first_fault_or, if_valid, partial, partial_faults, partial_if_valid}
use Rattle.lexical_parse_integer.specs.Head.{Head, head_of}
use Rattle.lexical_parse_integer.specs.Numeral.{Numeral, numeral_value, numeral_behind}
use Rattle.lexical_digits.specs.Value.{positional_value, with_sign}
use Rattle.lexical_parse_integer.proofs.theorems.CompleteByPartial.{ok_told}

-- a numeral without digits is worth 0
worth_nothing : (b : Bool) (r : ℕ) (digits : List ℕ) → nat_lt 0 (length digits) ≡ false → with_sign b (positional_value r (take (length digits) digits)) ≡ pos 0
worth_nothing true r [] none = refl
worth_nothing false r [] none = refl
worth_nothing b r (d ∷ ds) none = grind (arith, nat_tests)

-- a test holds, or it doesn't
pub not_both : (b : Bool) → true ≡ not b → b ≡ true → ⊥
not_both true other same = false≢true (sym other)
not_both false other same = false≢true same

module _ (f : Format) (t : IntegerType) (text : List ℕ) where
  -- a front without digits is read as 0
  zero_without_digit : (v : ℤ) (place : ℕ) → partial f t text ≡ Ok (v, place) → has_digit f t text ≡ false → v ≡ pos 0
  unfolding partial
  zero_without_digit v place told none = by_head (head_of f t text) told none
    where
      by_head : (h : Result Head Error) → after_head {A = ℤ × ℕ} h (λ head. let numeral = numeral_behind f text head in first_fault_or (common_faults f t text head numeral ++ partial_faults f text numeral) (numeral_value head.is_negative numeral, numeral.stop)) ≡ Ok (v, place) → has_digit_behind f text h ≡ false → v ≡ pos 0
      by_head (Err e) told none = cc
      by_head (Ok h) told none =
          let x : Numeral = numeral_behind f text h in
          let same : (numeral_value h.is_negative x, x.stop) ≡ (v, place) = ok_told (common_faults f t text h x ++ partial_faults f text x) (numeral_value h.is_negative x, x.stop) (v, place) told in
          sym (ap (λ (w : ℤ × ℕ). w.0) same) ∙ worth_nothing h.is_negative x.radix x.digits none

  -- a front is read under a valid format alone
  no_fault : (found : ℤ × ℕ) → Ok found ≡ partial_if_valid f t text → fault f ≡ None
  no_fault found told = by_fault (fault f) told
    where
      by_fault : (e : Option Error) → Ok found ≡ if_valid e (partial f t text) → e ≡ None
      by_fault None told = refl
      by_fault (Some e) told = cc

  pub is_valid : (found : ℤ × ℕ) → Ok found ≡ partial_if_valid f t text → IsNone (fault f)
  is_valid found told = let none = no_fault found told in rw none refl

  read : (found : ℤ × ℕ) → Ok found ≡ partial_if_valid f t text → partial f t text ≡ Ok found
  read found told = let none = no_fault found told in sym (told ∙ ap (λ e. if_valid e (partial f t text)) none)

  -- what is no 0 has a digit
  pub digit_of_value : (v : ℤ) (place : ℕ) → Ok (v, place) ≡ partial_if_valid f t text → v ≢ pos 0 → has_digit f t text ≡ true
  digit_of_value v place told other = by_digit (has_digit f t text) refl
    where
      by_digit : (b : Bool) → has_digit f t text ≡ b → has_digit f t text ≡ true
      by_digit true e = e
      by_digit false e = absurd (other (zero_without_digit v place (read (v, place) told) e))

  -- the answers, by whether a digit was read
  pub front_number : (b : Bool) (v : ℤ) (place : ℕ) → Ok (v, place) ≡ partial_if_valid f t text → has_digit f t text ≡ b → if_digit b (Ok (v, place)) ≡ number_in_front_if_valid f t text
  front_number b v place told digit =
      let none = no_fault (v, place) told in
      let front = read (v, place) told in
      ap (λ d. if_digit d (Ok (v, place))) (sym digit)
      ∙ ap (if_digit (has_digit f t text)) (sym front)
      ∙ ap (λ e. if_valid e (number_in_front f t text)) (sym none)

  -- a fault stays
  pub front_fault : (e : Error) → Err e ≡ partial_if_valid f t text → Err e ≡ number_in_front_if_valid f t text
  front_fault e told = by_fault (fault f) told
    where
      by_digit : (b : Bool) → Err e ≡ partial f t text → Err e ≡ if_digit b (partial f t text)
      by_digit true told = told
      by_digit false told = ap (if_digit false) told

      by_fault : (x : Option Error) → Err e ≡ if_valid x (partial f t text) → Err e ≡ if_valid x (number_in_front f t text)
      by_fault (Some x) told = told
      by_fault None told = by_digit (has_digit f t text) told
