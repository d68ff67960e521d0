-- The value of a numeral's first digits, one digit more at a time, and its range fault: for loops over digits.
use Rattle.std.proofs.Common.{◌≡◌, ℕ, ◌+◌, ◌<◌, Bool, false, not, [], ◌∷◌, ◌++◌, get_or, take, refl, sym, ap, ◌∙◌, arith, Some, None}
use Rattle.std.proofs.Math.IntN.{pos}
use Rattle.std.proofs.lemmas.List.{take_more}
use Rattle.lexical_parse_integer.specs.Grammar.{first_outside, range_error, range_fault}
use Rattle.lexical_parse_integer.specs.Numeral.{Numeral, digit_count, front_value}
use Rattle.lexical_parse_integer.specs.Reading.{FrontsFit}
use Rattle.lexical_digits.specs.Value.{positional_value, with_sign}
use Rattle.lexical_util.specs.Number.{IntegerType, is_number, mul_add}
use Rattle.lexical_parse_integer.proofs.grammar.PlaceSearch.{find_place, find_no_place}
use Rattle.lexical_digits.proofs.DigitValues.{positional_value-push, with_sign-step}

-- the next front
pub front_value-next : (b : Bool) (x : Numeral) (m d : ℕ) → m < digit_count x → get_or x.digits m 0 ≡ d → mul_add b (front_value b x m) (pos x.radix) (pos d) ≡ front_value b x (m + 1)
front_value-next b x m d l e =
    with_sign-step b (positional_value x.radix (take m x.digits)) x.radix d
    ∙ ap (with_sign b) (sym (ap (positional_value x.radix) (take_more x.digits m 0 l ∙ ap (λ c. take m x.digits ++ c ∷ []) e) ∙ positional_value-push x.radix (take m x.digits) d))

-- where all fit there is no fault
pub fitting_fault : (t : IntegerType) (b : Bool) (x : Numeral) → FrontsFit t b x (digit_count x) → range_fault t b x ≡ None
unfolding range_fault
fitting_fault t b x fit =
    let none : first_outside t b x ≡ None = find_no_place _ 0 (digit_count x) (λ j low high. ap not (fit j (omega arith))) in
    rw none refl

-- where the next one doesn't, the fault stands at its digit
pub leaving_fault : (t : IntegerType) (b : Bool) (x : Numeral) (m : ℕ) → m < digit_count x → FrontsFit t b x m → is_number t (front_value b x (m + 1)) ≡ false → range_fault t b x ≡ Some (range_error b (get_or x.places m 0))
unfolding range_fault
leaving_fault t b x m l fit leaves =
    let first : first_outside t b x ≡ Some m = find_place _ 0 (digit_count x) m m (omega arith) l (λ j low high. ap not (fit j high)) (ap not leaves) in
    rw first refl
