-- What a loop has read of a numeral, digit by digit: for `DigitLoop` and for words.
use Rattle.std.proofs.Common.{◌≡◌, ℕ, zero, suc, ◌+◌, ◌<◌, Bool, true, false, get_or, refl, sym, ap, subst, ◌∙◌, arith, Some, None, below_more}
use Rattle.std.proofs.Math.IntN.{ℤ, pos}
use Rattle.std.proofs.lemmas.Int.{ints}
use Rattle.lexical_parse_integer.specs.Grammar.{range_error, range_fault}
use Rattle.lexical_parse_integer.specs.Numeral.{Numeral, digit_count, front_value, numeral_value}
use Rattle.lexical_parse_integer.specs.Reading.{FrontsFit, Reads}
use Rattle.lexical_digits.specs.Value.{with_sign}
use Rattle.lexical_util.specs.Number.{HasSign, IntegerType, is_number, mul_add}
use Rattle.lexical_parse_integer.proofs.grammar.FrontValues.{front_value-next, fitting_fault, leaving_fault}

pub reads_none : (t : IntegerType) (b : Bool) (x : Numeral) (value : ℤ) → value ≡ pos 0 → Reads t b x 0 value
reads_none t b x value e = record {
  count = omega arith;
  front = e ∙ signed_zero b;
  fit = λ k l. absurd (omega arith);
}
  where
    signed_zero : (b : Bool) → pos 0 ≡ with_sign b 0
    signed_zero true = refl
    signed_zero false = refl

-- one digit more
pub reads_more : (t : IntegerType) (b : Bool) (x : Numeral) (m d : ℕ) (value next : ℤ) → Reads t b x m value → m < digit_count x → get_or x.digits m 0 ≡ d → next ≡ mul_add b value (pos x.radix) (pos d) → is_number t next ≡ true → Reads t b x (m + 1) next
reads_more t b x m d value next r l digit step fits =
    let here : next ≡ front_value b x (m + 1) = step ∙ ap (λ v. mul_add b v (pos x.radix) (pos d)) r.front ∙ front_value-next b x m d l digit in
    record {
      count = omega arith;
      front = here;
      fit = below_more (λ k. is_number t (front_value b x (k + 1)) ≡ true) m r.fit (ap (is_number t) (sym here) ∙ fits);
    }

-- one digit more leaves the type
pub reads_leaving : (t : IntegerType) (b : Bool) (x : Numeral) (m d : ℕ) (value : ℤ) → Reads t b x m value → m < digit_count x → get_or x.digits m 0 ≡ d → is_number t (mul_add b value (pos x.radix) (pos d)) ≡ false → range_fault t b x ≡ Some (range_error b (get_or x.places m 0))
reads_leaving t b x m d value r l digit leaves =
    let here : mul_add b value (pos x.radix) (pos d) ≡ front_value b x (m + 1) = ap (λ v. mul_add b v (pos x.radix) (pos d)) r.front ∙ front_value-next b x m d l digit in
    leaving_fault t b x m l r.fit (ap (is_number t) (sym here) ∙ leaves)

-- all digits are read
pub reads_all : (t : IntegerType) (b : Bool) (x : Numeral) (m : ℕ) (value : ℤ) → Reads t b x m value → m ≡ digit_count x → (range_fault t b x ≡ None) × (value ≡ numeral_value b x)
reads_all t b x m value r e =
    let all : FrontsFit t b x (digit_count x) = subst (FrontsFit t b x) e r.fit in
    (fitting_fault t b x all, r.front ∙ ap (front_value b x) e)

-- the value has the numeral's sign
sign_stays : (b : Bool) (n : ℕ) → HasSign b (with_sign b n)
sign_stays true zero = omega (arith, ints)
sign_stays true (suc n) = omega (arith, ints)
sign_stays false n = omega (arith, ints)

pub reads_sign : (t : IntegerType) (b : Bool) (x : Numeral) (m : ℕ) (value : ℤ) → Reads t b x m value → HasSign b value
reads_sign t b x m value r = subst (HasSign b) (sym r.front) (sign_stays b _)
