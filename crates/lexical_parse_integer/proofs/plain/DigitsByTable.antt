-- Texts of digits of any radix, read one byte after another.
use Rattle.std.proofs.Common.{◌≡◌, ℕ, ◌<◌, Bool, true, false, ◌&&◌, not, List, [], ◌∷◌, length, map, refl, sym, ap, ◌∙◌, subst, arith, Some, Ok}
use Rattle.std.specs.Prelude.{◌==◌, nat_le, slice_index, ℤ, neg_ℤ, if◌then◌else◌}
use Rattle.std.proofs.Math.Bool.{and-false}
use Rattle.std.proofs.Math.Seq.{take-length}
use Rattle.std.proofs.lemmas.Bool.{eqb-true}
use Rattle.std.proofs.lemmas.Bool.Decides.{nat_tests}
use Rattle.lexical_util.specs.Digit.{IsRadix, digit}
use Rattle.lexical_util.specs.Format.{Format}
use Rattle.lexical_util.specs.Number.{IntegerType, is_number}
use Rattle.lexical_parse_integer.specs.Grammar.{complete}
use Rattle.lexical_parse_integer.specs.Plain.{IsBehind, IsPlain, keeps_zero_rule}
use Rattle.lexical_digits.specs.WrittenNumbers.{StandsFor}
use Rattle.lexical_digits.specs.Value.{positional_value, with_sign}
use Rattle.lexical_digits.proofs.DigitValues.{HaveDigits, digits_size}
use Rattle.lexical_parse_integer.proofs.plain.DigitsAlone.{digits_alone_read}

-- ---- the whole text

zero_byte : (c r : ℕ) → digit r c ≡ Some 0 → c ≡ 48
zero_byte c r is = grind (arith, nat_tests)

pub rule_in : (f : Format) (r : ℕ) (bytes ds : List ℕ) → HaveDigits r bytes ds → keeps_zero_rule f bytes ≡ true → ((f.no_integer_leading_zeros && nat_le 2 (length ds)) && (slice_index ds 0 == 0)) ≡ false
rule_in f r [] [] all rule = rw (and-false) refl
rule_in f r [] (d ∷ ds) all rule = cc
rule_in f r (c ∷ cs) [] all rule = cc
rule_in f r (c ∷ cs) (d ∷ ds) all rule = by_zero (d == 0) refl
  where
    unnot : (a : Bool) → not a ≡ true → a ≡ false
    unnot true e = sym e
    unnot false e = refl

    by_zero : (b : Bool) → (d == 0) ≡ b → ((f.no_integer_leading_zeros && nat_le 2 (length (d ∷ ds))) && b) ≡ false
    by_zero false e = rw (and-false) refl
    by_zero true e =
        let none : d ≡ 0 = eqb-true d 0 e in
        let first : digit r c ≡ Some d = cc in
        let byte : c ≡ 48 = zero_byte c r (first ∙ ap Some none) in
        let test : (c == 48) ≡ true = ap (λ (b : ℕ). b == 48) byte in
        let told : ((f.no_integer_leading_zeros && nat_le 2 (length (c ∷ cs))) && true) ≡ false =
        subst (λ (x : Bool). ((f.no_integer_leading_zeros && nat_le 2 (length (c ∷ cs))) && x) ≡ false) test (unnot _ rule) in
        let size = digits_size r (c ∷ cs) (d ∷ ds) all in
        let same : length (d ∷ ds) ≡ length (c ∷ cs) = omega arith in
        ap (λ (n : ℕ). (f.no_integer_leading_zeros && nat_le 2 n) && true) same ∙ told

-- digits, alone or behind a minus, are read as the number that they write
pub table_read : (f : Format) (t : IntegerType) (r : ℕ) (is_negative : Bool) (text digits : List ℕ) (value : ℤ) → IsPlain f → f.mantissa_radix ≡ r → IsRadix r → IsBehind is_negative t text digits → 0 < length digits → keeps_zero_rule f digits ≡ true →
    StandsFor t r is_negative digits value → complete f t text ≡ Ok value
table_read f t r is_negative text digits value plain same radix behind some rule s =
    let w = s.writes in
    let all : HaveDigits r digits w.values = ap (map (λ byte. digit r byte)) (sym (take-length digits)) ∙ w.digits in
    let here : HaveDigits f.mantissa_radix digits w.values = subst (λ (n : ℕ). HaveDigits n digits w.values) (sym same) all in
    let low = radix.low in
    let signed_is : with_sign is_negative (positional_value f.mantissa_radix w.values) ≡ value = ap (λ (n : ℕ). with_sign is_negative (positional_value n w.values)) same ∙ ap (λ (z : ℤ). if is_negative then neg_ℤ z else z) (sym w.worth) ∙ sym s.worth in
    digits_alone_read f t is_negative text digits w.values plain (omega arith) behind here some (rule_in f r digits w.values all rule) (ap (is_number t) signed_is ∙ s.fits) ∙ ap Ok signed_is

-- ---- what the parts of the code say

pub some_bytes : (text : List ℕ) (empty : Bool) → empty ≡ (length text == 0) → empty ≡ false → 0 < length text
some_bytes [] empty is none = cc
some_bytes (b ∷ bs) empty is none = omega arith
