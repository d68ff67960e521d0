-- What a field stands for, by what the parser answered.
use Rattle.std.proofs.Common.{◌≡◌, ℕ, ◌+◌, ◌<◌, ◌≤◌, ◌^◌, List, refl, ap, sym, subst, ◌∙◌, arith, Err, Result, Option, Some, None}
use Rattle.std.proofs.Math.IntN.{ℤ}
use Rattle.std.specs.Prelude.{IfErr, IfSome, IsNone}
use Rattle.lexical_util.specs.declared.error.Error.{Error}
use Rattle.lexical_util.specs.Faults.{place_of}
use Rattle.lexical_util.specs.Format.{Format}
use Rattle.lexical_util.specs.Number.{IntegerType}
use Rattle.lexical_util.specs.Validity.{fault}
use Rattle.lexical_parse_integer.specs.Grammar.{complete, if_valid}
use Rattle.lexical_parse_integer.specs.Laws.{StandsWithin}
use Rattle.lexical_fields.specs.Places.{in_text}
use Rattle.lexical_fields.specs.ReadFields.{field_answer}

-- a fault that isn't there
pub valid_of : (found : Option Error) → IsNone found → found ≡ None
valid_of None none = refl
valid_of (Some error) none = cc

-- the place of a fault of a field, where the field is within a text
pub place_fits : (start size : ℕ) (error : Error) → StandsWithin size error → start + size < 2 ^ 64
    → IfSome (place_of error) (λ place. start + place < 2 ^ 64)
place_fits start size error within fits = by_place (place_of error) within
  where
    by_place : (found : Option ℕ) → IfSome found (λ place. place ≤ size)
        → IfSome found (λ place. start + place < 2 ^ 64)
    by_place None within = tt
    by_place (Some place) within = omega (arith, fits)

-- the fault that was answered
pub fault_within : (size : ℕ) (answer : Result ℤ Error) (error : Error) → Err error ≡ answer
    → IfErr answer (StandsWithin size) → StandsWithin size error
fault_within size answer error told within = subst (λ r. IfErr r (StandsWithin size)) (sym told) within

module _ (f : Format) (t : IntegerType) (start : ℕ) (field : List ℕ) where
  -- under a valid format
  pub answered : (answer : Result ℤ Error) → IsNone (fault f) → answer ≡ complete f t field
      → in_text start answer ≡ field_answer f t (record { start = start; text = field })
  answered answer none told =
      ap (in_text start) told ∙ ap (λ e. if_valid e (in_text start (complete f t field)))
      (sym (valid_of (fault f) none))

  -- under an invalid one
  pub refused : (error : Error) → Some error ≡ fault f
      → Err error ≡ field_answer f t (record { start = start; text = field })
  refused error invalid = ap (λ e. if_valid e (in_text start (complete f t field))) invalid
