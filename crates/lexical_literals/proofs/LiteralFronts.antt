-- A number in front of a text ends within it.
use Rattle.std.proofs.Common.{◌≡◌, ℕ, ◌≤◌, Bool, true, false, List, length, Option, Some, None, Ok, Err, Result, refl, sym, ◌∙◌}
use Rattle.std.proofs.Math.IntN.{ℤ}
use Rattle.lexical_util.specs.declared.error.Error.{Error}
use Rattle.lexical_util.specs.Format.{Format}
use Rattle.lexical_util.specs.Number.{IntegerType}
use Rattle.lexical_util.specs.Validity.{fault}
use Rattle.lexical_parse_integer.specs.Fronts.{has_digit, if_digit, number_in_front, number_in_front_if_valid}
use Rattle.lexical_parse_integer.specs.Grammar.{if_valid, partial}

-- what the law of fronts says of where they end
abbrev pub EndWithin : Type 0
EndWithin = (format : Format) (type : IntegerType) (text : List ℕ) (value : ℤ) (place : ℕ)
    → partial format type text ≡ Ok (value, place) → place ≤ length text

module _ (ends : EndWithin) (f : Format) (t : IntegerType) (text : List ℕ) (v : ℤ) (place : ℕ) where
  by_digit : (b : Bool) (r : Result (ℤ × ℕ) Error) → partial f t text ≡ r
      → Ok (v, place) ≡ if_digit b r → place ≤ length text
  by_digit true r is told = ends f t text v place (is ∙ sym told)
  by_digit false (Ok found) is told = cc
  by_digit false (Err e) is told = cc

  by_fault : (e : Option Error) → Ok (v, place) ≡ if_valid e (number_in_front f t text)
      → place ≤ length text
  by_fault None told = by_digit (has_digit f t text) (partial f t text) refl told
  by_fault (Some e) told = cc

  pub number_within : Ok (v, place) ≡ number_in_front_if_valid f t text → place ≤ length text
  number_within told = by_fault (fault f) told
