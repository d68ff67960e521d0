-- The number of digits around a point, or of digits alone, with zeros for places that lack, is what the whole text stands for.
use Rattle.std.proofs.Common.{◌≡◌, ℕ, zero, suc, ◌+◌, ◌-◌, ◌*◌, ◌^◌, ◌≤◌, Bool, true, false, List, [], ◌∷◌, length, take, drop, IsNone, Ok, refl, sym, ap, subst, ◌∙◌, arith}
use Rattle.std.proofs.Math.IntN.{ℤ}
use Rattle.std.proofs.Math.Nat.{one-le-pow, mul-le-mul_left}
use Rattle.std.proofs.lemmas.Bool.Decides.{nat_tests}
use Rattle.std.proofs.lemmas.List.{take_all}
use Rattle.std.specs.Prelude.{◌==◌}
use Rattle.lexical_util.specs.Number.{IntegerType, is_number}
use Rattle.lexical_digits.specs.Value.{with_sign}
use Rattle.lexical_digits.specs.Words.{AreDigits, word_value}
use Rattle.lexical_digits.proofs.LongNumbers.{stands}
use Rattle.lexical_digits.proofs.ShiftedWords.{writes_text}
use Rattle.lexical_digits.proofs.WordsOfDigits.{value_joined}
use Rattle.lexical_parse_integer.specs.Laws.{TellsDigits}
use Rattle.lexical_parse_integer.specs.Plain.{IsBehind, IsPlain}
use Rattle.lexical_fixed.specs.Fixed.{Fixed}
use Rattle.lexical_fixed.specs.Fraction.{read_zeros, with_zeros}
use Rattle.lexical_fixed.specs.Grammar.{complete_fixed, is_negative}
use Rattle.lexical_fixed.specs.Parted.{IsSummed, point_place}
use Rattle.lexical_fixed.specs.Quick.{IsInUnits, IsJoined, leads_with_zero, without, without_point}
use Rattle.lexical_fixed.specs.Validity.{fixed_fault}
use Rattle.lexical_fixed.proofs.Digits.{is_number-below, times_is, with_digits_is}
use Rattle.lexical_fixed.proofs.PartedTexts.{parted_read}
use Rattle.lexical_fixed.proofs.QuickDigits.{no_zeros_fault}
use Rattle.lexical_fixed.proofs.ShortNumbers.{digits_parted}

-- digits around a point, or alone, as those before it and those behind it
pub record ArePartsOf (digits : List ℕ) (count number : ℕ) : Type 0 where
  pub before : AreDigits 10 (take (point_place digits count) digits)
  pub behind : AreDigits 10 (drop (length digits - count) digits)
  pub worth : number ≡ word_value 10 (take (point_place digits count) digits) * 10 ^ length (drop (length digits - count) digits)
      + word_value 10 (drop (length digits - count) digits)

pub parts_of : (digits : List ℕ) (count number : ℕ) → (1 ≤ count → count + 2 ≤ length digits) → IsJoined (without_point count digits) number → ArePartsOf digits count number
parts_of digits zero number room joined =
    let all : take (length digits) digits ≡ digits = take_all (length digits) digits (omega arith) in
    let size : length digits - 0 ≡ length digits = omega arith in
    let none : drop (length digits - 0) digits ≡ [] = ap (λ k. drop k digits) size ∙ drop_all digits in
    let one : word_value 10 digits * 10 ^ 0 + 0 ≡ word_value 10 digits = omega arith in
    record {
      before = subst (λ (bs : List ℕ). AreDigits 10 bs) (sym all) joined.digits;
      behind = subst (λ (bs : List ℕ). AreDigits 10 bs) (sym none) tt;
      worth = joined.worth ∙ sym one ∙ ap (λ (bs : List ℕ). word_value 10 bs * 10 ^ 0 + 0) (sym all)
          ∙ ap (λ (bs : List ℕ). word_value 10 (take (length digits) digits) * 10 ^ length bs + word_value 10 bs) (sym none);
    }
  where
    drop_all : (xs : List ℕ) → drop (length xs) xs ≡ []
    drop_all [] = refl
    drop_all (x ∷ xs) = drop_all xs
parts_of digits (suc n) number room joined =
    let place : ℕ = length digits - 1 - suc n in
    let next : place + 1 ≡ length digits - suc n = let long = room (omega arith) in omega (arith, long) in
    let some : (suc n == 0) ≡ false = grind (arith, nat_tests) in
    let around : IsJoined (without place digits) number = rw some at joined in
    let ends : place ≡ point_place digits (suc n) = rw some refl in
    let parts = digits_parted (take place digits) (drop (place + 1) digits) around.digits in
    record {
      before = subst (λ k. AreDigits 10 (take k digits)) ends parts.0;
      behind = subst (λ k. AreDigits 10 (drop k digits)) next parts.1;
      worth = subst (λ k. number ≡ word_value 10 (take k digits) * 10 ^ length (drop (length digits - suc n) digits) + word_value 10 (drop (length digits - suc n) digits)) ends
          (subst (λ k. number ≡ word_value 10 (take place digits) * 10 ^ length (drop k digits) + word_value 10 (drop k digits)) next
          (around.worth ∙ value_joined 10 (take place digits) (drop (place + 1) digits)));
    }

-- it is what the text stands for
pub units_read : (f : Fixed) (t : IntegerType) (b : Bool) (text digits : List ℕ) (value : ℤ) → IsNone (fixed_fault f) → IsPlain f.integer → leads_with_zero f digits ≡ false
    → (IsNone f.integer.digit_separator → IsNone f.integer.base_suffix → TellsDigits f.integer t text)
    → IsBehind b t text digits → b ≡ is_negative t text → IsInUnits f t b digits value → complete_fixed f t text ≡ Ok value
units_read f t b text digits value valid plain lead law behind minus it =
    let count : ℕ = it.count in
    let number : ℕ = it.number in
    let zeros : ℕ = f.places - count in
    let parts = parts_of digits count number it.parted.before it.joined in
    let before : List ℕ = take (point_place digits count) digits in
    let rest : List ℕ = drop (length digits - count) digits in
    let whole : ℕ = word_value 10 before in
    let scale : 1 ≤ 10 ^ zeros = one-le-pow zeros 10 (omega arith) in
    let up : number * 1 ≤ number * 10 ^ zeros = mul-le-mul_left number scale in
    let power : 1 ≤ 10 ^ length rest = one-le-pow (length rest) 10 (omega arith) in
    let more : whole * 1 ≤ whole * 10 ^ length rest = mul-le-mul_left whole power in
    let low : whole ≤ number = let worth = parts.worth in omega (arith, more, worth) in
    let number_fits : is_number t (with_sign b number) ≡ true = is_number-below t b number (number * 10 ^ zeros) (omega (arith, up)) (ap (is_number t) (sym it.worth) ∙ it.fits) in
    let summed : IsSummed t b digits count (with_sign b number) = record {
      whole = with_sign b whole;
      stands = stands t b before whole (with_sign b whole) (writes_text before whole parts.before refl) refl (is_number-below t b whole number low number_fits);
      appended = record {
        digits = parts.behind;
        worth = ap (with_sign b) parts.worth ∙ sym (with_digits_is b whole rest);
        fits = λ some. number_fits;
      };
    } in
    let filled : with_zeros (with_sign b number) zeros ≡ value = times_is b number (10 ^ zeros) ∙ sym it.worth in
    let none = no_zeros_fault t b (with_sign b number) zeros (length text) (ap (is_number t) filled ∙ it.fits) in
    let units : Ok value ≡ read_zeros t b (with_sign b number) zeros (length text) = rw none (ap Ok (sym filled)) in
    parted_read f t b text digits count (with_sign b number) value valid plain lead law behind minus it.parted summed units
