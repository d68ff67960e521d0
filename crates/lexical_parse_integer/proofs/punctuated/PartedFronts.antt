-- The front of digits with separators between them, as a loop over the bytes leaves it: for `value_of_threes`.
use Rattle.std.proofs.Common.{rules, ◌≡◌, ◌≢◌, ℕ, zero, suc, ◌+◌, ◌-◌, ◌<◌, ◌≤◌, Bool, true, false, List, [], ◌∷◌, ◌++◌, length, get_or, take, refl, sym, ap, ◌∙◌, subst, arith, Some, inl, inr}
use Rattle.std.specs.Int.Signed.{≤ℤ_refl}
use Rattle.std.proofs.lemmas.Bool.Decides.{nat_tests}
use Rattle.std.specs.Prelude.{ℤ, pos}
use Rattle.std.proofs.Math.Seq.{take-length}
use Rattle.std.proofs.lemmas.Bool.{cases_lt, false≢true}
use Rattle.std.proofs.lemmas.List.{take_more}
use Rattle.std.proofs.lemmas.List.Elements.{filter_map-append}
use Rattle.lexical_util.specs.Digit.{digit}
use Rattle.lexical_util.specs.Format.{Format}
use Rattle.lexical_util.specs.Number.{HasSign, IntegerType}
use Rattle.lexical_parse_integer.specs.Grouped.{AreGrouped, AreWorth, digits_among, is_digit_in}
use Rattle.lexical_digits.specs.Value.{positional_value, with_sign}
use Rattle.lexical_parse_integer.proofs.grammar.Stretches.{true_or_false}

-- The first `count` bytes are digits and separators, of which the first is a digit. Where no two
-- separators may stand side by side, a digit follows each separator but one that is the last byte.
-- If `may_part`, a separator may stand next.
pub record IsParted (r separator : ℕ) (is_consecutive : Bool) (bytes : List ℕ) (count : ℕ) (may_part : Bool) : Type 0 where
  pub separators : (k : ℕ) → k < count → is_digit_in r bytes k ≡ false → get_or bytes k 0 ≡ separator
  pub first : 0 < count → is_digit_in r bytes 0 ≡ true
  pub alone : is_consecutive ≡ false → (k : ℕ) → k + 1 < count → is_digit_in r bytes k ≡ false → is_digit_in r bytes (k + 1) ≡ true
  pub some : may_part ≡ true → 0 < count
  pub last : may_part ≡ true → is_consecutive ≡ false → is_digit_in r bytes (count - 1) ≡ true

-- a digit more
pub digit_parted : (r separator : ℕ) (many may : Bool) (bytes : List ℕ) (k : ℕ) → IsParted r separator many bytes k may → is_digit_in r bytes k ≡ true → IsParted r separator many bytes (k + 1) true
digit_parted r separator many may bytes k p here = record {
  separators = λ i l none. elim (cases_lt i k) [
    | inl lt ↦ p.separators i lt none
    | inr ge ↦ let e : k ≡ i = omega arith in absurd (false≢true (sym none ∙ ap (is_digit_in r bytes) (sym e) ∙ here))
  ];
  first = λ l. elim (cases_lt 0 k) [ inl lt ↦ p.first lt | inr ge ↦ let e : 0 ≡ k = omega arith in ap (is_digit_in r bytes) e ∙ here ];
  alone = λ e i l none. elim (cases_lt (i + 1) k) [
    | inl lt ↦ p.alone e i lt none
    | inr ge ↦ let at : i + 1 ≡ k = omega arith in ap (is_digit_in r bytes) at ∙ here
  ];
  some = λ t. omega arith;
  last = λ t e. let back : k + 1 - 1 ≡ k = omega arith in ap (is_digit_in r bytes) back ∙ here;
}

-- a separator more
pub separator_parted : (r separator : ℕ) (many : Bool) (bytes : List ℕ) (k : ℕ) → IsParted r separator many bytes k true → get_or bytes k 0 ≡ separator → IsParted r separator many bytes (k + 1) many
separator_parted r separator many bytes k p here = record {
  separators = λ i l none. elim (cases_lt i k) [
    | inl lt ↦ p.separators i lt none
    | inr ge ↦ let e : i ≡ k = omega arith in ap (λ j. get_or bytes j 0) e ∙ here
  ];
  first = λ l. p.first (p.some refl);
  alone = λ e i l none. elim (cases_lt (i + 1) k) [
    | inl lt ↦ p.alone e i lt none
    | inr ge ↦ let back : k - 1 ≡ i = omega arith in absurd (false≢true (sym none ∙ ap (is_digit_in r bytes) (sym back) ∙ p.last refl e))
  ];
  some = λ t. omega arith;
  last = λ t e. absurd (false≢true (sym e ∙ t));
}

-- all of them, where the last is no separator
pub parted_grouped : (f : Format) (r separator : ℕ) (may : Bool) (bytes : List ℕ) (k : ℕ) → f.digit_separator ≡ Some separator → f.integer_internal_digit_separator ≡ true → 0 < length bytes → length bytes ≤ k →
    get_or bytes (length bytes - 1) 0 ≢ separator → IsParted r separator f.integer_consecutive_digit_separator bytes k may → AreGrouped f r bytes
parted_grouped f r separator may bytes k separator_is internal some all other p = record {
  separators = λ i l none. separator_is ∙ ap Some (sym (p.separators i (omega arith) none));
  internal = λ i l none. internal;
  some = some;
  first = p.first (omega arith);
  last = elim (true_or_false (is_digit_in r bytes (length bytes - 1))) [
    | inl t ↦ t
    | inr none ↦ absurd (other (p.separators (length bytes - 1) (omega arith) none))
  ];
  alone = λ e i l none. p.alone e i (omega arith) none;
}

-- ---- what they are worth

pub more_among : (r k : ℕ) (bytes : List ℕ) → k < length bytes → digits_among r (take (k + 1) bytes) ≡ digits_among r (take k bytes) ++ digits_among r (get_or bytes k 0 ∷ [])
more_among r k bytes l = ap (digits_among r) (take_more bytes k 0 l) ∙ filter_map-append (λ byte. digit r byte) (take k bytes) (get_or bytes k 0 ∷ [])

pub all_worth : (t : IntegerType) (r : ℕ) (is_negative : Bool) (bytes : List ℕ) (k : ℕ) (value : ℤ) → k ≡ length bytes → AreWorth t r is_negative (take k bytes) value → AreWorth t r is_negative bytes value
all_worth t r is_negative bytes k value all w = subst (λ (bs : List ℕ). AreWorth t r is_negative bs value) (ap (λ (n : ℕ). take n bytes) all ∙ take-length bytes) w

pub worth_sign : (t : IntegerType) (r : ℕ) (is_negative : Bool) (bytes : List ℕ) (value : ℤ) → AreWorth t r is_negative bytes value → HasSign is_negative value
worth_sign t r is_negative bytes value w = subst (HasSign is_negative) (sym w.worth) (by_sign is_negative (positional_value r (digits_among r bytes)))
  where
    by_sign : (b : Bool) (n : ℕ) → HasSign b (with_sign b n)
    by_sign true zero = ≤ℤ_refl (pos 0)
    by_sign true (suc n) = search rules
    by_sign false n = grind (arith, nat_tests)

-- ---- the front of a text
