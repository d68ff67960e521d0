-- Where a text stands further behind, so do its fields and their faults.
use Rattle.std.proofs.Common.{◌≡◌, ◌∙◌, ℕ, ◌+◌, ◌==◌, List, [], ◌∷◌, map, ℤ, Result, None, Ok, Err, Bool, true, false, cond, refl, ap, arith}
use Rattle.lexical_util.specs.declared.error.Error.{Error}
use Rattle.lexical_util.specs.declared.error.Error.TheVariants.{Overflow, Underflow, InvalidDigit, Empty, MissingSign, InvalidPositiveSign, InvalidLeadingZeros, InvalidMantissaRadix, InvalidDigitSeparator, InvalidBasePrefix, InvalidBaseSuffix, InvalidPunctuation, InvalidLiteralPrefixes}
use Rattle.lexical_util.specs.Format.{Format}
use Rattle.lexical_util.specs.Number.{IntegerType}
use Rattle.lexical_util.specs.Validity.{fault}
use Rattle.lexical_parse_integer.specs.Grammar.{complete}
use Rattle.lexical_fields.specs.Fields.{FieldView, fields_from, onto_field}
use Rattle.lexical_fields.specs.Places.{error_in_text, in_text}
use Rattle.lexical_fields.specs.ReadFields.{field_answer}

-- a field that starts `more` bytes later
abbrev pub moved : ℕ → FieldView → FieldView
moved more field = record { start = more + field.start; text = field.text }

onto_moved : (more place byte : ℕ) (fs : List FieldView)
    → map (moved more) (onto_field place byte fs) ≡ onto_field (more + place) byte (map (moved more) fs)
onto_moved more place byte [] = refl
onto_moved more place byte (f ∷ fs) = refl

pub fields_moved : (separator more place : ℕ) (text : List ℕ)
    → map (moved more) (fields_from separator place text) ≡ fields_from separator (more + place) text
fields_moved separator more place [] = refl
fields_moved separator more place (byte ∷ rest) =
    let at : more + (place + 1) ≡ more + place + 1 = omega arith in
    by_test (byte == separator) (fields_from separator (place + 1) rest)
    (fields_from separator (more + place + 1) rest)
    (fields_moved separator more (place + 1) rest ∙ ap (λ p. fields_from separator p rest) at)
  where
    by_test : (t : Bool) (fs gs : List FieldView) → map (moved more) fs ≡ gs
        → map (moved more) (cond t (record { start = place; text = [] } ∷ fs) (onto_field place byte fs))
        ≡ cond t (record { start = more + place; text = [] } ∷ gs) (onto_field (more + place) byte gs)
    by_test true fs gs same = ap (λ it. record { start = more + place; text = [] } ∷ it) same
    by_test false fs gs same =
        onto_moved more place byte fs ∙ ap (λ it. onto_field (more + place) byte it) same

-- a place counted from `q`, which is counted from `p`
further : (p q k : ℕ) → p + (q + k) ≡ p + q + k
further p q k = omega arith

pub error_moved : (p q : ℕ) (e : Error) → error_in_text p (error_in_text q e) ≡ error_in_text (p + q) e
error_moved p q (Overflow k) = ap Overflow (further p q k)
error_moved p q (Underflow k) = ap Underflow (further p q k)
error_moved p q (InvalidDigit k) = ap InvalidDigit (further p q k)
error_moved p q (Empty k) = ap Empty (further p q k)
error_moved p q (MissingSign k) = ap MissingSign (further p q k)
error_moved p q (InvalidPositiveSign k) = ap InvalidPositiveSign (further p q k)
error_moved p q (InvalidLeadingZeros k) = ap InvalidLeadingZeros (further p q k)
error_moved p q InvalidMantissaRadix = refl
error_moved p q InvalidDigitSeparator = refl
error_moved p q InvalidBasePrefix = refl
error_moved p q InvalidBaseSuffix = refl
error_moved p q InvalidPunctuation = refl
error_moved p q InvalidLiteralPrefixes = refl

result_moved : (p q : ℕ) (r : Result ℤ Error) → in_text p (in_text q r) ≡ in_text (p + q) r
result_moved p q (Ok value) = refl
result_moved p q (Err e) = ap Err (error_moved p q e)

pub answer_moved : (format : Format) (type : IntegerType) (more : ℕ) → fault format ≡ None → (field : FieldView)
    → in_text more (field_answer format type field) ≡ field_answer format type (moved more field)
answer_moved format type more valid field =
    rw valid (result_moved more field.start (complete format type field.text))

-- two maps that agree at each element
pub map_same : {A B : Type 0} (f g : A → B) → ((x : A) → f x ≡ g x) → (xs : List A) → map f xs ≡ map g xs
map_same f g same [] = refl
map_same f g same (x ∷ xs) = ap (λ it. it ∷ map f xs) (same x) ∙ ap (λ it. g x ∷ it) (map_same f g same xs)
