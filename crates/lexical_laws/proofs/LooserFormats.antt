-- A value stays under a format that admits more.
use Rattle.std.proofs.Common.{◌≡◌, ℕ, ◌+◌, Bool, true, false, not, ◌&&◌, ◌||◌, cond, List, [], ◌∷◌, ◌++◌, length, map, Option, Some, None, IsNone, is_some, Ok, refl, sym, ap, subst, ◌∙◌, arith, ◌⊎◌, inl, inr}
use Rattle.std.proofs.Math.IntN.{ℤ}
use Rattle.std.proofs.lemmas.Bool.{eq-eqb, false≢true, or_parts}
use Rattle.std.proofs.lemmas.Bool.Decides.{nat_tests}
use Rattle.std.proofs.lemmas.List.{length-replicate}
use Rattle.std.specs.Prelude.{◌==◌, replicate, slice_get}
use Rattle.lexical_util.specs.Format.{Format}
use Rattle.lexical_util.specs.Number.{IntegerType}
use Rattle.lexical_util.specs.Validity.{fault, has_unfit_literals, lower_case}
use Rattle.lexical_util.proofs.Valid.{passes_rules}
use Rattle.lexical_parse_integer.specs.Affixes.{bare_radix, is_affix, literal_radix, named_radix, matches, octal_zero_at}
use Rattle.lexical_parse_integer.specs.Grammar.{complete}
use Rattle.lexical_parse_integer.specs.Runs.{are_same}
use Rattle.lexical_laws.specs.Integer.{HasRun, IsInteger, IsPrefix, IsSign, IsSuffix, is_separator, may_lead, may_part}
use Rattle.lexical_laws.specs.Integer.IsPrefix.{no_prefix, a_prefix}
use Rattle.lexical_laws.specs.Integer.IsSign.{no_sign as none, a_plus, a_minus}
use Rattle.lexical_laws.specs.Integer.IsSuffix.{no_suffix, a_suffix}
use Rattle.lexical_laws.specs.Keeping.{AdmitsMore, Implies}
use Rattle.lexical_laws.proofs.Bodies.{BytesAre, bytes_fit, bytes_values, fitting_bytes}
use Rattle.lexical_laws.proofs.MadeIsRead.{integer_is_read}
use Rattle.lexical_laws.proofs.Punctuation.{separator_is}
use Rattle.lexical_laws.proofs.Parts.{get_behind, get_replicate, get_within}
use Rattle.lexical_laws.proofs.ReadIsMade.{read_is_integer}
use Rattle.lexical_laws.proofs.WhatIsRead.{no_digit, none_of, prefix_fit}

unset : (a b : Bool) → Implies b a → a ≡ false → b ≡ false
unset a true implies off = absurd (false≢true (sym off ∙ implies refl))
unset a false implies off = refl

or_mono : (a b c d : Bool) → Implies a c → Implies b d → (a || b) ≡ true → (c || d) ≡ true
or_mono true b c d i j e = rw (i refl) refl
or_mono false b true d i j e = refl
or_mono false b false d i j e = j e

-- ---- affixes

matches_loose : (s l : Bool) (m c : ℕ) → Implies l s → matches s m c ≡ true → matches l m c ≡ true
unfolding matches
matches_loose true true m c implies t = t
matches_loose false false m c implies t = t
matches_loose false true m c implies t = absurd (false≢true (implies refl))
matches_loose true false m c implies t = let same : c ≡ m = grind (arith, nat_tests) in eq-eqb (lower_case c) (lower_case m) (ap lower_case same)

affix_loose : (s l : Bool) (o : Option ℕ) (c : ℕ) → Implies l s → is_affix s o (Some c) ≡ true → is_affix l o (Some c) ≡ true
unfolding is_affix
affix_loose s l None c implies t = t
affix_loose s l (Some m) c implies t = matches_loose s l m c implies t

set_affix : (s : Bool) (o p : Option ℕ) (c : ℕ) → (o ≡ None) ⊎ (p ≡ o) → is_affix s o (Some c) ≡ true → is_affix s p (Some c) ≡ true
unfolding is_affix
set_affix s None p c same t = absurd (false≢true t)
set_affix s (Some m) p c (inl e) t = cc
set_affix s (Some m) p c (inr e) t = rw e t

none_set : (s : Bool) (c : Option ℕ) → is_affix s None c ≡ false
unfolding is_affix
none_set s c = refl

same_byte : (s : ℕ) → are_same (Some s) (Some s) ≡ true
unfolding are_same
same_byte s = eq-eqb s s refl

-- ---- prefixes

small_letter : (c r : ℕ) → literal_radix true (Some c) ≡ Some r → literal_radix false (Some c) ≡ Some r
unfolding literal_radix is_affix matches
small_letter c r e = by_tests (c == 120) (c == 111) (c == 98) refl refl refl e
  where
    by_tests : (x o b : Bool) → (c == 120) ≡ x → (c == 111) ≡ o → (c == 98) ≡ b → cond {A = Option ℕ} x (Some 16) (cond o (Some 8) (cond b (Some 2) None)) ≡ Some r → literal_radix false (Some c) ≡ Some r
    by_tests true o b u v w e = let same : c ≡ 120 = grind (arith, nat_tests) in ap (λ k. literal_radix false (Some k)) same ∙ e
    by_tests false true b u v w e = let same : c ≡ 111 = grind (arith, nat_tests) in ap (λ k. literal_radix false (Some k)) same ∙ e
    by_tests false false true u v w e = let same : c ≡ 98 = grind (arith, nat_tests) in ap (λ k. literal_radix false (Some k)) same ∙ e
    by_tests false false false u v w e = cc

literal_loose : (s l : Bool) (c r : ℕ) → Implies l s → literal_radix s (Some c) ≡ Some r → literal_radix l (Some c) ≡ Some r
literal_loose true true c r implies e = e
literal_loose false false c r implies e = e
literal_loose false true c r implies e = absurd (false≢true (implies refl))
literal_loose true false c r implies e = small_letter c r e

-- beside literal prefixes a format has no prefix of its own
no_own : (f : Format) → fault f ≡ None → f.literal_prefixes ≡ true → f.base_prefix ≡ None
no_own f valid asked =
    let all : has_unfit_literals f ≡ false = (passes_rules f valid).literals in
    let beside = (or_parts ((f.literal_prefixes || f.literal_octal_zero) && not (f.mantissa_radix == 10)) _ all).1 in
    let rules = rw asked at beside in
    none_from (or_parts (is_some f.base_prefix) _ rules).0
  where
    none_from : is_some f.base_prefix ≡ false → f.base_prefix ≡ None
    none_from e = by_prefix f.base_prefix e
      where
        by_prefix : (o : Option ℕ) → is_some o ≡ false → o ≡ None
        by_prefix None e = refl
        by_prefix (Some m) e = absurd (false≢true (sym e))

module _ (f g : Format) (valid_f : IsNone (fault f)) (valid : IsNone (fault g)) (more : AdmitsMore f g) where
  named_loose : (c r : ℕ) → named_radix f (Some c) ≡ Some r → named_radix g (Some c) ≡ Some r
  unfolding named_radix
  named_loose c r e = by_own (is_affix f.case_sensitive_base_prefix f.base_prefix (Some c)) refl e
    where
      by_asked : (asked : Bool) → f.literal_prefixes ≡ asked → cond asked (literal_radix f.case_sensitive_base_prefix (Some c)) None ≡ Some r → named_radix g (Some c) ≡ Some r
      by_asked false a e = cc
      by_asked true a e =
          let asked : g.literal_prefixes ≡ true = more.literals ∙ a in
          let own : is_affix g.case_sensitive_base_prefix g.base_prefix (Some c) ≡ false = ap (λ o. is_affix g.case_sensitive_base_prefix o (Some c)) (no_own g (none_of (fault g) valid) asked) ∙ none_set g.case_sensitive_base_prefix (Some c) in
          let letter = literal_loose f.case_sensitive_base_prefix g.case_sensitive_base_prefix c r more.prefix_case e in
          rw (own, asked) letter

      by_own : (own : Bool) → is_affix f.case_sensitive_base_prefix f.base_prefix (Some c) ≡ own → cond own (Some f.mantissa_radix) (cond f.literal_prefixes (literal_radix f.case_sensitive_base_prefix (Some c)) None) ≡ Some r → named_radix g (Some c) ≡ Some r
      by_own false o e = by_asked f.literal_prefixes refl e
      by_own true o e =
          let own : is_affix g.case_sensitive_base_prefix g.base_prefix (Some c) ≡ true = affix_loose f.case_sensitive_base_prefix g.case_sensitive_base_prefix g.base_prefix c more.prefix_case (set_affix f.case_sensitive_base_prefix f.base_prefix g.base_prefix c more.prefix o) in
          rw own (ap Some more.radix ∙ e)

  same_octal : (body : List ℕ) → octal_zero_at g body 0 ≡ octal_zero_at f body 0
  unfolding octal_zero_at
  same_octal body = ap (λ b. b && are_same (Some 48) (slice_get body 0)) more.octal

  same_bare : (body : List ℕ) → bare_radix g body 0 ≡ bare_radix f body 0
  same_bare body = ap (λ o. cond o 8 g.mantissa_radix) (same_octal body) ∙ ap (λ r. cond (octal_zero_at f body 0) 8 r) more.radix

  loose_prefix : (body prefix : List ℕ) (r : ℕ) → IsPrefix f body prefix r → IsPrefix g body prefix r
  loose_prefix body _ _ no_prefix = subst (IsPrefix g body []) (same_bare body) no_prefix
  loose_prefix body _ _ (a_prefix c r named some) = a_prefix c r (named_loose c r named) some

  loose_sign : (t : IntegerType) (front : List ℕ) (m : Bool) → IsSign f t front m → IsSign g t front m
  loose_sign t _ _ (none off) = none (unset f.required_mantissa_sign g.required_mantissa_sign more.sign off)
  loose_sign t _ _ (a_plus off) = a_plus (unset f.no_positive_mantissa_sign g.no_positive_mantissa_sign more.no_plus off)
  loose_sign t _ _ (a_minus on) = a_minus on

  loose_suffix : (ds suffix : List ℕ) → IsSuffix f ds suffix → IsSuffix g ds suffix
  loose_suffix ds _ no_suffix = no_suffix
  loose_suffix ds _ (a_suffix c some t) = a_suffix c some (affix_loose f.case_sensitive_base_suffix g.case_sensitive_base_suffix g.base_suffix c more.suffix_case (set_affix f.case_sensitive_base_suffix f.base_suffix g.base_suffix c more.suffix t))

  -- ---- bodies

  separator_stays : (c : ℕ) → is_separator f c ≡ true → is_separator g c ≡ true
  separator_stays c s = elim more.separator [
    | inl e ↦ (let set = separator_is f c s in let other = sym e ∙ set in cc)
    | inr e ↦ ap (λ o. are_same o (Some c)) e ∙ s
  ]

  loose_bytes : (prefix body ds : List ℕ) (r : ℕ) → IsPrefix f body prefix r → BytesAre f r body ds → BytesAre g r body ds
  loose_bytes prefix body ds r may bytes =
      let plain = no_digit f r (prefix_fit f body prefix r valid_f may) in
      let plain' = no_digit g r (prefix_fit g body prefix r valid (loose_prefix body prefix r may)) in
      fitting_bytes g r body plain' (λ k b here other. bytes_fit f r body ds bytes k b here (unset (is_separator g b) (is_separator f b) (separator_stays b) other))
      ∙ ap (map Some) (bytes_values f r body ds plain bytes)

  -- a run of the looser format is one of the strict one: its separator is no digit
  strict_run : (prefix body ds before behind : List ℕ) (r count : ℕ) → IsPrefix f body prefix r → BytesAre f r body ds → HasRun g body before count behind → HasRun f body before count behind
  unfolding are_same
  strict_run prefix body ds before behind r count may bytes h =
      let s : ℕ = h.separator in
      let set : f.digit_separator ≡ Some s = elim more.separator [
        | inl e ↦
            let place : length before + 0 ≡ length before = omega arith in
            let one : slice_get (replicate count s ++ behind) 0 ≡ Some s = get_within (replicate count s) behind 0 (omega (arith, length-replicate count s, h.some)) ∙ get_replicate count 0 s h.some in
            let here : slice_get body (length before) ≡ Some s = ap (λ x. slice_get x (length before)) h.parts ∙ ap (slice_get (before ++ (replicate count s ++ behind))) (sym place) ∙ get_behind before (replicate count s ++ behind) 0 ∙ one in
            let other : is_separator f s ≡ false = ap (λ o. are_same o (Some s)) e in
            let digit' = bytes_fit f r body ds bytes (length before) s here other in
            let none' = no_digit g r (prefix_fit g body prefix r valid (loose_prefix body prefix r may)) s (ap (λ o. are_same o (Some s)) h.is_set ∙ same_byte s) in
            absurd (false≢true (sym (ap is_some none') ∙ digit'))
        | inr e ↦ sym e ∙ h.is_set
      ] in
      record { separator = s; is_set = set; parts = h.parts; some = h.some; none_before = h.none_before; none_behind = h.none_behind }

  loose_lead : (prefix : List ℕ) → may_lead f prefix ≡ true → may_lead g prefix ≡ true
  loose_lead [] e = more.leading e
  loose_lead (b ∷ prefix) e = or_mono _ _ _ _ more.leading more.behind_prefix e

  loose_part : (prefix before behind : List ℕ) → may_part f prefix before behind ≡ true → may_part g prefix before behind ≡ true
  loose_part prefix [] [] e = or_mono (may_lead f prefix) _ (may_lead g prefix) _ (loose_lead prefix) more.trailing e
  loose_part prefix [] (c ∷ behind) e = loose_lead prefix e
  loose_part prefix (b ∷ before) [] e = more.trailing e
  loose_part prefix (b ∷ before) (c ∷ behind) e = more.internal e

  pub loose_integer : (t : IntegerType) (text : List ℕ) (v : ℤ) → IsInteger f t text v → IsInteger g t text v
  loose_integer t text v i = record {
    sign = i.sign;
    prefix = i.prefix;
    body = i.body;
    suffix = i.suffix;
    is_negative = i.is_negative;
    radix = i.radix;
    digits = i.digits;
    parts = i.parts;
    sign_may = loose_sign t i.sign i.is_negative i.sign_may;
    prefix_may = loose_prefix i.body i.prefix i.radix i.prefix_may;
    body_may = record {
      bytes = loose_bytes i.prefix i.body i.digits i.radix i.prefix_may i.body_may.bytes;
      runs = λ before behind count run. loose_part i.prefix before behind (i.body_may.runs before behind count (strict_run i.prefix i.body i.digits before behind i.radix count i.prefix_may i.body_may.bytes run));
      single = λ before behind count run off. i.body_may.single before behind count (strict_run i.prefix i.body i.digits before behind i.radix count i.prefix_may i.body_may.bytes run) (unset g.integer_consecutive_digit_separator f.integer_consecutive_digit_separator more.consecutive off);
    };
    suffix_may = loose_suffix i.digits i.suffix i.suffix_may;
    enough = λ on. i.enough (or_mono _ _ _ _ more.integer_digits more.mantissa_digits on);
    zeros = λ on bare octal. i.zeros (more.no_zeros on) bare (sym (same_octal i.body) ∙ octal);
    worth = i.worth;
    fits = i.fits;
  }

pub relaxing_keeps : (f g : Format) (t : IntegerType) (text : List ℕ) (v : ℤ) → IsNone (fault f) → IsNone (fault g) → AdmitsMore f g → complete f t text ≡ Ok v → complete g t text ≡ Ok v
relaxing_keeps f g t text v valid_f valid more read = integer_is_read g t text v valid (loose_integer f g valid_f valid more t text v (read_is_integer f t text v valid_f read))
