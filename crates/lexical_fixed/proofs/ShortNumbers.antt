-- What stands behind a minus or none, and the digits in it: for whole texts that are read at once.
use Rattle.std.proofs.Common.{◌≡◌, ℕ, zero, suc, ◌+◌, ◌-◌, ◌≤◌, ◌<◌, Bool, true, false, cond, not, ◌&&◌, List, [], ◌∷◌, ◌++◌, length, get_or, take, drop, Option, Some, None, IsNone, is_some, option_and_then, refl, sym, ap, ◌∙◌, arith}
use Rattle.std.specs.Prelude.{◌==◌, nat_le, slice_get}
use Rattle.std.proofs.lemmas.Bool.{eqb-true, lt-ltb}
use Rattle.std.proofs.lemmas.Bool.Decides.{nat_tests}
use mir.Val.{bool_byte}
use Rattle.lexical_util.specs.declared.error.Error.{Error}
use Rattle.lexical_util.specs.Digit.{digit}
use Rattle.lexical_util.specs.Number.{IntegerType}
use Rattle.lexical_util.specs.Validity.{fault}
use Rattle.lexical_digits.specs.Words.{AreDigits}
use Rattle.lexical_parse_integer.specs.Plain.{IsBehind, IsPlain, keeps_zero_rule}
use Rattle.lexical_parse_integer.specs.Runs.{are_same, digit_at}
use Rattle.lexical_parse_integer.specs.Stops.{stops_after_digit}
use Rattle.lexical_fixed.specs.Fixed.{Fixed}
use Rattle.lexical_fixed.specs.Grammar.{is_negative}
use Rattle.lexical_fixed.specs.Quick.{IsBare, leads_with_zero}
use Rattle.lexical_fixed.specs.Validity.{fixed_fault, fixed_fault_by, has_affix, is_unfit_point}
use Rattle.lexical_fixed.specs.declared.error.FixedFormatError.{FixedFormatError}
use Rattle.lexical_fixed.specs.declared.error.FixedFormatError.TheVariants.{Affix, Point, Radix}
use Rattle.lexical_fixed.proofs.QuickParts.{decimal_of, first_false, second_false}

-- ---- the point

-- the point of a valid description is no digit
pub point_no_digit : (f : Fixed) → IsNone (fixed_fault f) → is_some (digit 10 f.point) ≡ false
point_no_digit f valid = by_fault (fault f.integer) valid
  where
    by_tests : (a b c : Bool) (rest : Option FixedFormatError) → is_unfit_point f.integer f.point ≡ c
        → IsNone (cond (not a) (Some Radix) (cond b (Some Affix) (cond c (Some Point) rest))) → is_some (digit 10 f.point) ≡ false
    by_tests true false false rest fit valid =
        let tail = second_false (f.point == 43) _ fit in
        first_false (is_some (digit 10 f.point)) _ (second_false (f.point == 45) _ tail)
    by_tests true false true rest fit valid = absurd (cc)
    by_tests true true c rest fit valid = absurd (cc)
    by_tests false b c rest fit valid = absurd (cc)

    by_fault : (found : Option Error) → IsNone (fixed_fault_by f found) → is_some (digit 10 f.point) ≡ false
    by_fault None valid = by_tests (f.integer.mantissa_radix == 10) (has_affix f.integer) (is_unfit_point f.integer f.point) _ refl valid
    by_fault (Some error) valid = absurd (cc)

-- the byte that stands at a place
pub byte_there : (byte : ℕ) (bytes : List ℕ) (place : ℕ) → are_same (Some byte) (slice_get bytes place) ≡ true → get_or bytes place 0 ≡ byte
unfolding are_same
byte_there byte [] place some = cc
byte_there byte (b ∷ bs) zero some = eqb-true b byte some
byte_there byte (b ∷ bs) (suc n) some = byte_there byte bs n some

pub stands_there : (byte : ℕ) (bytes : List ℕ) (place : ℕ) → place < length bytes → get_or bytes place 0 ≡ byte → are_same (Some byte) (slice_get bytes place) ≡ true
unfolding are_same
stands_there byte [] place within same = absurd (omega arith)
stands_there byte (b ∷ bs) zero within same = grind (arith, nat_tests)
stands_there byte (b ∷ bs) (suc n) within same = stands_there byte bs n (omega arith) same

-- ---- behind a minus or none

pub behind_get : (b : Bool) (t : IntegerType) (text digits : List ℕ) (place : ℕ) → IsBehind b t text digits → slice_get text (bool_byte b + place) ≡ slice_get digits place
behind_get false t text digits place same = let e : 0 + place ≡ place = omega arith in ap (slice_get text) e ∙ ap (λ (bs : List ℕ). slice_get bs place) same
behind_get true t text digits place same = let e : 1 + place ≡ suc place = omega arith in ap (slice_get text) e ∙ ap (λ (bs : List ℕ). slice_get bs (suc place)) same.0

pub behind_drop : (b : Bool) (t : IntegerType) (text digits : List ℕ) (place : ℕ) → IsBehind b t text digits → drop (bool_byte b + place) text ≡ drop place digits
behind_drop false t text digits place same = let e : 0 + place ≡ place = omega arith in ap (λ k. drop k text) e ∙ ap (λ (bs : List ℕ). drop place bs) same
behind_drop true t text digits place same = let e : 1 + place ≡ suc place = omega arith in ap (λ k. drop k text) e ∙ ap (λ (bs : List ℕ). drop (suc place) bs) same.0

pub behind_length : (b : Bool) (t : IntegerType) (text digits : List ℕ) → IsBehind b t text digits → length text ≡ bool_byte b + length digits
behind_length false t text digits same = ap length same ∙ omega arith
behind_length true t text digits same = ap length same.0 ∙ omega arith

-- the minus of a text
pub minus_is : (t : IntegerType) (text : List ℕ) → 0 < length text → (t.is_signed && (get_or text 0 0 == 45)) ≡ is_negative t text
unfolding is_negative are_same
minus_is t [] some = absurd (omega arith)
minus_is t (c ∷ cs) some = refl

-- what stands behind it is known
pub behind_same : (b : Bool) (t : IntegerType) (text digits others : List ℕ) → IsBehind b t text digits → IsBehind b t text others → digits ≡ others
behind_same false t text digits others one two = sym one ∙ two
behind_same true t text digits others one two = ap (drop 1) (sym one.0 ∙ two.0)

-- ---- the digits

-- digits joined are digits apart
pub digits_parted : (xs ys : List ℕ) → AreDigits 10 (xs ++ ys) → AreDigits 10 xs × AreDigits 10 ys
digits_parted [] ys digits = (tt, digits)
digits_parted (x ∷ xs) ys digits = let rest = digits_parted xs ys digits.1 in ((digits.0, rest.0), rest.1)

digit_there : (bytes : List ℕ) (place : ℕ) → suc place ≤ length bytes → AreDigits 10 (take (suc place) bytes) → is_some (digit_at 10 bytes place) ≡ true
unfolding digit_at
digit_there [] place within digits = absurd (omega arith)
digit_there (b ∷ bs) zero within digits = digits.0
digit_there (b ∷ bs) (suc n) within digits = digit_there bs n (omega arith) digits.1

-- a digit stands before a place
pub ends_with_digit : (b : Bool) (t : IntegerType) (text digits : List ℕ) (place : ℕ) → IsBehind b t text digits → 1 ≤ place → place ≤ length digits → AreDigits 10 (take place digits) → stops_after_digit 10 text (bool_byte b + place) ≡ true
unfolding digit_at
ends_with_digit b t text digits zero behind some within all = absurd (omega arith)
ends_with_digit b t text digits (suc n) behind some within all =
    let back : bool_byte b + suc n - 1 ≡ bool_byte b + n = omega arith in
    let here : is_some (digit_at 10 digits n) ≡ true = digit_there digits n within all in
    let same : is_some (digit_at 10 text (bool_byte b + suc n - 1)) ≡ true = ap (λ k. is_some (digit_at 10 text k)) back ∙ ap (λ (o : Option ℕ). is_some (option_and_then (λ byte. digit 10 byte) o)) (behind_get b t text digits n behind) ∙ here in
    rw (lt-ltb 0 (bool_byte b + suc n) (omega arith), same) refl

-- ---- the number

pub plain_of : (f : Fixed) → IsNone (fixed_fault f) → IsBare f.integer → IsPlain f.integer
plain_of f valid bare =
    let d = decimal_of f valid in
    record {
      no_separator = bare.no_separator;
      no_prefix = d.no_prefix;
      no_suffix = d.no_suffix;
      no_literals = d.no_literals;
      no_octal_zeros = d.no_octal_zeros;
      no_sign = bare.no_sign;
    }

-- where zeros may stand in front, none that may not leads
pub no_zero_leads : (f : Fixed) (digits : List ℕ) → IsBare f.integer → leads_with_zero f digits ≡ false
no_zero_leads f digits bare = rw bare.no_rule refl

-- digits before the point keep the rule on zeros, where no zero leads
pub rule_before : (f : Fixed) (digits : List ℕ) (place : ℕ) → IsNone (fixed_fault f) → leads_with_zero f digits ≡ false → AreDigits 10 (take place digits) → keeps_zero_rule f.integer (take place digits) ≡ true
rule_before f digits place valid lead all = by_rule f.integer.no_integer_leading_zeros refl
  where
    first_two : (d e : ℕ) (rest : List ℕ) (n : ℕ) (is_zero is_point : Bool) → (d == 48) ≡ is_zero → (e == f.point) ≡ is_point → f.integer.no_integer_leading_zeros ≡ true
        → leads_with_zero f (d ∷ e ∷ rest) ≡ false → is_some (digit 10 e) ≡ true → keeps_zero_rule f.integer (d ∷ e ∷ take n rest) ≡ true
    first_two d e rest n false is_point zeros point rule lead there =
        let two : nat_le 2 (length (d ∷ e ∷ take n rest)) ≡ true = grind (arith, nat_tests) in
        rw (rule, two, zeros) refl
    first_two d e rest n true true zeros point rule lead there = absurd (let none = point_no_digit f valid in let same = eqb-true e f.point point in cc)
    first_two d e rest n true false zeros point rule lead there =
        let two : nat_le 2 (length (d ∷ e ∷ rest)) ≡ true = grind (arith, nat_tests) in
        absurd (let no = rw (rule, two, zeros, point) at lead in cc)

    by_place : (ds : List ℕ) (n : ℕ) → f.integer.no_integer_leading_zeros ≡ true → leads_with_zero f ds ≡ false → AreDigits 10 (take n ds) → keeps_zero_rule f.integer (take n ds) ≡ true
    by_place [] zero rule lead all = rw rule refl
    by_place [] (suc n) rule lead all = rw rule refl
    by_place (d ∷ ds) zero rule lead all = rw rule refl
    by_place (d ∷ ds) (suc zero) rule lead all = rw rule refl
    by_place (d ∷ []) (suc (suc n)) rule lead all = rw rule refl
    by_place (d ∷ e ∷ ds) (suc (suc n)) rule lead all = first_two d e ds n (d == 48) (e == f.point) refl refl rule lead all.1.0

    by_rule : (b : Bool) → f.integer.no_integer_leading_zeros ≡ b → keeps_zero_rule f.integer (take place digits) ≡ true
    by_rule false rule = rw rule refl
    by_rule true rule = by_place digits place rule lead all
