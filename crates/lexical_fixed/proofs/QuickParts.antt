-- An integer part that ends with a digit is the text's front: for the quick way.
use Rattle.std.proofs.Common.{◌≡◌, ℕ, ◌+◌, Bool, true, false, cond, not, ◌||◌, List, Option, Some, None, IsNone, is_some, Result, Ok, Err, refl, sym, ap, ◌∙◌, arith}
use Rattle.std.proofs.Math.IntN.{ℤ}
use Rattle.std.proofs.lemmas.Bool.{eqb-true}
use Rattle.std.specs.Prelude.{◌==◌, slice_get}
use Rattle.lexical_util.specs.Ascii.{digit_zero}
use Rattle.lexical_util.specs.declared.error.Error.{Error}
use Rattle.lexical_util.specs.Format.{Format}
use Rattle.lexical_util.specs.Number.{IntegerType}
use Rattle.lexical_util.specs.Validity.{fault}
use Rattle.lexical_parse_integer.specs.Affixes.{is_affix, named_radix, octal_zero_at, prefix_radix}
use Rattle.lexical_parse_integer.specs.Fronts.{has_digit, has_digit_behind, number_in_front}
use Rattle.lexical_parse_integer.specs.Grammar.{digits_required, partial}
use Rattle.lexical_parse_integer.specs.Head.{Head, chooses_radix, head_after, head_behind, head_of, sign}
use Rattle.lexical_parse_integer.specs.Runs.{are_same}
use Rattle.lexical_parse_integer.specs.Stops.{stops_after_digit}
use Rattle.lexical_parse_integer.specs.Laws.{TellsDigits}
use Rattle.lexical_fixed.proofs.Valid.{is_none}
use Rattle.lexical_fixed.specs.Fixed.{Fixed}
use Rattle.lexical_fixed.specs.Grammar.{integer_part}
use Rattle.lexical_fixed.specs.Validity.{fixed_fault, fixed_fault_by, has_affix}
use Rattle.lexical_fixed.specs.declared.error.FixedFormatError.{FixedFormatError}
use Rattle.lexical_fixed.specs.declared.error.FixedFormatError.TheVariants.{Affix, Radix}

-- A format of radix 10 without prefix, suffix and literals.
pub record IsDecimal (format : Format) : Type 0 where
  pub radix : format.mantissa_radix ≡ 10
  pub no_prefix : format.base_prefix ≡ None
  pub no_suffix : format.base_suffix ≡ None
  pub no_literals : format.literal_prefixes ≡ false
  pub no_octal_zeros : format.literal_octal_zero ≡ false

pub first_false : (a b : Bool) → (a || b) ≡ false → a ≡ false
first_false true b e = e
first_false false b e = refl

pub second_false : (a b : Bool) → (a || b) ≡ false → b ≡ false
second_false true b e = cc
second_false false b e = e

pub none_of : (o : Option ℕ) → is_some o ≡ false → o ≡ None
none_of None e = refl
none_of (Some x) e = cc

-- the integer part of a valid description has such a format
pub decimal_of : (f : Fixed) → IsNone (fixed_fault f) → IsDecimal f.integer
decimal_of f valid = by_fault (fault f.integer) valid
  where
    by_tests : (a b : Bool) (rest : Option FixedFormatError) → (f.integer.mantissa_radix == 10) ≡ a → has_affix f.integer ≡ b
        → IsNone (cond (not a) (Some Radix) (cond b (Some Affix) rest)) → IsDecimal f.integer
    by_tests true false rest ten none valid =
        let tail = second_false (is_some f.integer.base_prefix) _ none in
        let last = second_false (is_some f.integer.base_suffix) _ tail in
        record {
          radix = eqb-true f.integer.mantissa_radix 10 ten;
          no_prefix = none_of f.integer.base_prefix (first_false (is_some f.integer.base_prefix) _ none);
          no_suffix = none_of f.integer.base_suffix (first_false (is_some f.integer.base_suffix) _ tail);
          no_literals = first_false f.integer.literal_prefixes _ last;
          no_octal_zeros = second_false f.integer.literal_prefixes _ last;
        }
    by_tests true true rest ten none valid = absurd (cc)
    by_tests false b rest ten none valid = absurd (cc)

    by_fault : (found : Option Error) → IsNone (fixed_fault_by f found) → IsDecimal f.integer
    by_fault None valid = by_tests (f.integer.mantissa_radix == 10) (has_affix f.integer) _ refl refl valid
    by_fault (Some error) valid = absurd (cc)

-- a text under such a format chooses no radix
no_prefix_at : (f : Format) (text : List ℕ) (place : ℕ) → IsDecimal f → prefix_radix f text place ≡ None
unfolding prefix_radix named_radix is_affix
no_prefix_at f text place d = rw (d.no_prefix, d.no_literals) (by_tests (are_same (Some digit_zero) (slice_get text place)) (slice_get text (place + 1)))
  where
    by_tests : (a : Bool) (byte : Option ℕ) → cond a (named_radix (record f { base_prefix = None; literal_prefixes = false }) byte) None ≡ None
    by_tests true None = refl
    by_tests true (Some byte) = refl
    by_tests false byte = refl

chosen_none : (f : Format) (t : IntegerType) (text : List ℕ) (h : Head) → IsDecimal f → head_of f t text ≡ Ok h → chooses_radix h ≡ false
unfolding head_of octal_zero_at
chosen_none f t text h d = behind (sign f t text)
  where
    told : (s : Bool × ℕ) → head_behind f text s (prefix_radix f text s.1) ≡ h → chooses_radix h ≡ false
    told s is =
        let bare : head_behind f text s None ≡ h = ap (head_behind f text s) (sym (no_prefix_at f text s.1 d)) ∙ is in
        sym (ap chooses_radix bare) ∙ rw d.no_octal_zeros refl

    behind : (r : Result (Bool × ℕ) Error) → head_after f text r ≡ Ok h → chooses_radix h ≡ false
    behind (Ok s) is = told s (grind arith)
    behind (Err error) is = cc

-- a front that ends with a digit has one
digit_there : (f : Format) (t : IntegerType) (text : List ℕ) (v : ℤ) (k : ℕ) → IsDecimal f → TellsDigits f t text
    → partial f t text ≡ Ok (v, k) → stops_after_digit 10 text k ≡ true → has_digit f t text ≡ true
unfolding partial
digit_there f t text v k d law told stops = by_head (head_of f t text) refl
  where
    by_head : (r : Result Head Error) → head_of f t text ≡ r → has_digit_behind f text r ≡ true
    by_head (Ok h) is =
        sym (law h v k is (chosen_none f t text h d is) told)
        ∙ ap (λ radix. stops_after_digit radix text k) d.radix ∙ stops
    by_head (Err error) is = absurd (let no = rw is at told in cc)

-- so it is the integer part, whether the format asks for a digit or not
pub part_by_front : (f : Fixed) (t : IntegerType) (text : List ℕ) (v : ℤ) (k : ℕ) → IsNone (fixed_fault f) → (IsNone f.integer.base_suffix → TellsDigits f.integer t text)
    → partial f.integer t text ≡ Ok (v, k) → stops_after_digit 10 text k ≡ true → integer_part f.integer t text ≡ Ok (v, k)
unfolding integer_part
part_by_front f t text v k valid law told stops =
    let decimal = decimal_of f valid in
    let has : has_digit f.integer t text ≡ true = digit_there f.integer t text v k decimal (law (is_none f.integer.base_suffix decimal.no_suffix)) told stops in
    by_test (digits_required f.integer) (rw has told)
  where
    by_test : (b : Bool) → number_in_front f.integer t text ≡ Ok (v, k) → cond b (number_in_front f.integer t text) (partial f.integer t text) ≡ Ok (v, k)
    by_test true both = both
    by_test false both = told
