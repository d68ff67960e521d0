-- What a format's validity says of the bytes of a body and of a suffix: none is a sign, and none makes a prefix.
use Rattle.std.proofs.Common.{◌≡◌, ℕ, Bool, true, false, not, ◌&&◌, ◌||◌, cond, Option, Some, None, is_some, refl, sym, ap, ◌∙◌, arith, ◌⊎◌, inl, inr}
use Rattle.std.specs.Prelude.{◌==◌, ◌≢◌}
use Rattle.std.proofs.lemmas.Bool.{eq-eqb, false≢true, or_parts}
use Rattle.std.proofs.lemmas.Bool.Decides.{nat_tests}
use Rattle.lexical_util.specs.declared.error.Error.{Error}
use Rattle.lexical_util.specs.Digit.{digit}
use Rattle.lexical_util.specs.Format.{Format}
use Rattle.lexical_util.specs.Validity.{are_alike, fault, has_unfit_literals, is_literal_letter, is_unfit_beside_literals, lower_case}
use Rattle.lexical_util.proofs.Valid.{digit-alike, fit_no_digit, literals_fit, not_alike, passes_rules}
use Rattle.lexical_parse_integer.specs.Affixes.{is_affix, literal_radix, named_radix, matches}
use Rattle.lexical_parse_integer.specs.Runs.{are_same}
use Rattle.lexical_parse_integer.proofs.ForCallers.{true_or_false}
use Rattle.lexical_laws.specs.Integer.{is_separator}

-- a byte is of a body or of a suffix
abbrev pub MayFollow : Format → ℕ → Type 0
MayFollow f c =
    (is_separator f c ≡ true) ⊎ (is_some (digit f.mantissa_radix c) ≡ true)
    ⊎ (is_affix f.case_sensitive_base_suffix f.base_suffix (Some c) ≡ true)

pub separator_is : (f : Format) (c : ℕ) → is_separator f c ≡ true → f.digit_separator ≡ Some c
unfolding are_same
separator_is f c t = by_set f.digit_separator t
  where
    by_set : (o : Option ℕ) → are_same o (Some c) ≡ true → o ≡ Some c
    by_set None t = absurd (false≢true t)
    by_set (Some s) t = let e : s ≡ c = grind (arith, nat_tests) in ap Some e

matches_lower : (sensitive : Bool) (m c : ℕ) → matches sensitive m c ≡ true → lower_case c ≡ lower_case m
unfolding matches
matches_lower true m c t = let e : c ≡ m = grind (arith, nat_tests) in ap lower_case e
matches_lower false m c t = grind (arith, nat_tests)

-- what an affix matches is the affix, but for letter case
pub affix_is : (sensitive : Bool) (o : Option ℕ) (c : ℕ) → is_affix sensitive o (Some c) ≡ true → (m : ℕ) × (o ≡ Some m) × (lower_case c ≡ lower_case m)
unfolding is_affix
affix_is sensitive None c t = absurd (false≢true t)
affix_is sensitive (Some m) c t = (m, refl, matches_lower sensitive m c t)

none_and_some : (o : Option ℕ) → o ≡ None → is_some o ≡ true → ⊥
none_and_some o none some = false≢true (sym (ap is_some none) ∙ some)

-- such a byte is no prefix of the format
no_own_prefix : (f : Format) (c : ℕ) → fault f ≡ None → MayFollow f c → (m : ℕ) → f.base_prefix ≡ Some m → lower_case c ≡ lower_case m → ⊥
no_own_prefix f c valid (inl s) m set alike =
    let rules = passes_rules f valid in
    let apart = (or_parts (are_alike f.digit_separator f.base_prefix) _ rules.apart).0 in
    not_alike f.digit_separator f.base_prefix m c apart set alike (separator_is f c s)
no_own_prefix f c valid (inr (inl d)) m set alike =
    none_and_some _ (fit_no_digit f.mantissa_radix f.base_prefix m c (passes_rules f valid).prefix set alike) d
no_own_prefix f c valid (inr (inr u)) m set alike =
    let rules = passes_rules f valid in
    let rest = (or_parts (are_alike f.digit_separator f.base_prefix) _ rules.apart).1 in
    let apart = (or_parts (are_alike f.digit_separator f.base_suffix) _ rest).1 in
    let suffix = affix_is f.case_sensitive_base_suffix f.base_suffix c u in
    not_alike f.base_prefix f.base_suffix suffix.0 m apart suffix.1 (sym alike ∙ suffix.2) set

-- nor the letter of a literal prefix
unfit_letter : (o : Option ℕ) (m : ℕ) → is_unfit_beside_literals o ≡ false → o ≡ Some m → is_literal_letter m ≡ false
unfit_letter o m fit set = let fit' = rw set at fit in (or_parts (is_some (digit 16 m)) _ fit').1

letter_alike : (c m : ℕ) → lower_case c ≡ lower_case m → is_literal_letter c ≡ is_literal_letter m
letter_alike c m alike = rw alike refl

letter_no_digit : (c l : ℕ) → lower_case c ≡ l → lower_case l ≡ l → digit 10 l ≡ None → digit 10 c ≡ None
letter_no_digit c l alike same none = digit-alike 10 c l (alike ∙ sym same) ∙ none

digit_no_letter : (c : ℕ) → is_some (digit 10 c) ≡ true → is_literal_letter c ≡ false
digit_no_letter c d = by_tests (lower_case c == 120) (lower_case c == 111) (lower_case c == 98) refl refl refl
  where
    by_tests : (x o b : Bool) → (lower_case c == 120) ≡ x → (lower_case c == 111) ≡ o → (lower_case c == 98) ≡ b → (x || (o || b)) ≡ false
    by_tests true o b e g h = let alike : lower_case c ≡ 120 = grind (arith, nat_tests) in absurd (none_and_some _ (letter_no_digit c 120 alike refl refl) d)
    by_tests false true b e g h = let alike : lower_case c ≡ 111 = grind (arith, nat_tests) in absurd (none_and_some _ (letter_no_digit c 111 alike refl refl) d)
    by_tests false false true e g h = let alike : lower_case c ≡ 98 = grind (arith, nat_tests) in absurd (none_and_some _ (letter_no_digit c 98 alike refl refl) d)
    by_tests false false false e g h = refl

literal_ten : (f : Format) → fault f ≡ None → f.literal_prefixes ≡ true → f.mantissa_radix ≡ 10
literal_ten f valid asked =
    let all : has_unfit_literals f ≡ false = (passes_rules f valid).literals in
    let first = (or_parts ((f.literal_prefixes || f.literal_octal_zero) && not (f.mantissa_radix == 10)) _ all).0 in
    let first' = rw asked at first in
    grind (arith, nat_tests)

no_letter : (f : Format) (c : ℕ) → fault f ≡ None → f.literal_prefixes ≡ true → MayFollow f c → is_literal_letter c ≡ false
no_letter f c valid asked (inl s) = unfit_letter f.digit_separator c (literals_fit f valid asked).0 (separator_is f c s)
no_letter f c valid asked (inr (inl d)) = digit_no_letter c (ap (λ r. is_some (digit r c)) (sym (literal_ten f valid asked)) ∙ d)
no_letter f c valid asked (inr (inr u)) =
    let suffix = affix_is f.case_sensitive_base_suffix f.base_suffix c u in
    letter_alike c suffix.0 suffix.2 ∙ unfit_letter f.base_suffix suffix.0 (literals_fit f valid asked).1 suffix.1

other_letter : (sensitive : Bool) (c l : ℕ) → lower_case l ≡ l → (lower_case c == l) ≡ false → is_affix sensitive (Some l) (Some c) ≡ false
other_letter sensitive c l same differ = elim (true_or_false (is_affix sensitive (Some l) (Some c))) [
  | inl t ↦
      let found = affix_is sensitive (Some l) c t in
      let letter : found.0 ≡ l = (let e = found.1 in cc) in
      let alike : lower_case c ≡ l = found.2 ∙ ap lower_case letter ∙ same in
      absurd (false≢true (sym differ ∙ eq-eqb (lower_case c) l alike))
  | inr t ↦ t
]

no_literal_radix : (sensitive : Bool) (c : ℕ) → is_literal_letter c ≡ false → literal_radix sensitive (Some c) ≡ None
unfolding literal_radix
no_literal_radix sensitive c none =
    let x = or_parts (lower_case c == 120) _ none in
    let o = or_parts (lower_case c == 111) _ x.1 in
    let not_x = other_letter sensitive c 120 refl x.0 in
    let not_o = other_letter sensitive c 111 refl o.0 in
    let not_b = other_letter sensitive c 98 refl o.1 in
    rw (not_x, not_o, not_b) refl

-- behind a zero such a byte names no radix
pub not_named : (f : Format) (c : ℕ) → fault f ≡ None → MayFollow f c → named_radix f (Some c) ≡ None
unfolding named_radix
not_named f c valid may = rw own (by_asked f.literal_prefixes refl)
  where
    own : is_affix f.case_sensitive_base_prefix f.base_prefix (Some c) ≡ false
    own = elim (true_or_false (is_affix f.case_sensitive_base_prefix f.base_prefix (Some c))) [
      | inl t ↦ (let found = affix_is f.case_sensitive_base_prefix f.base_prefix c t in absurd (no_own_prefix f c valid may found.0 found.1 found.2))
      | inr t ↦ t
    ]

    by_asked : (asked : Bool) → f.literal_prefixes ≡ asked → cond asked (literal_radix f.case_sensitive_base_prefix (Some c)) None ≡ None
    by_asked true a = no_literal_radix f.case_sensitive_base_prefix c (no_letter f c valid a may)
    by_asked false a = refl

-- no byte at a text's end names one
pub none_named : (f : Format) → named_radix f None ≡ None
unfolding named_radix is_affix literal_radix
none_named f = rw (own f.base_prefix) (by_asked f.literal_prefixes)
  where
    own : (o : Option ℕ) → is_affix f.case_sensitive_base_prefix o None ≡ false
    own None = refl
    own (Some m) = refl

    by_asked : (asked : Bool) → cond {A = Option ℕ} asked (literal_radix f.case_sensitive_base_prefix None) None ≡ None
    by_asked true = refl
    by_asked false = refl

-- ---- signs

two_faults : (b : Bool) (x y : Error) → cond b (Some x) (Some y) ≡ None → ⊥
two_faults true x y e = cc
two_faults false x y e = cc

no_plus : (f : Format) → fault f ≡ None → f.digit_separator ≢ Some 43
no_plus f valid set = let valid' = rw set at valid in two_faults _ _ _ valid'

no_minus : (f : Format) → fault f ≡ None → f.digit_separator ≢ Some 45
no_minus f valid set = let valid' = rw set at valid in two_faults _ _ _ valid'

-- neither a separator nor a digit is a sign
pub no_sign_byte : (f : Format) (r c : ℕ) → fault f ≡ None → (is_separator f c ≡ true) ⊎ (is_some (digit r c) ≡ true) → (c ≢ 43) × (c ≢ 45)
no_sign_byte f r c valid (inl s) = (λ e. no_plus f valid (separator_is f c s ∙ ap Some e), λ e. no_minus f valid (separator_is f c s ∙ ap Some e))
no_sign_byte f r c valid (inr d) = (λ e. (let d' = rw e at d in false≢true d'), λ e. (let d' = rw e at d in false≢true d'))

-- ---- the suffix

pub affix_matches : (sensitive : Bool) (o : Option ℕ) (c : ℕ) → is_affix sensitive o (Some c) ≡ true → (m : ℕ) × (o ≡ Some m) × (matches sensitive m c ≡ true)
unfolding is_affix
affix_matches sensitive None c t = absurd (false≢true t)
affix_matches sensitive (Some m) c t = (m, refl, t)
