-- A text keeps its value without its separators.
use Rattle.std.proofs.Common.{◌≡◌, ℕ, zero, suc, ◌+◌, ◌≤◌, Bool, true, false, not, cond, List, [], ◌∷◌, ◌++◌, length, map, Some, IsNone, Ok, refl, sym, ap, subst, ◌∙◌, arith, inl, inr}
use Rattle.std.proofs.Math.IntN.{ℤ}
use Rattle.std.proofs.lemmas.Bool.{eq-eqb, false≢true, lt-ltb}
use Rattle.std.proofs.lemmas.List.{length-replicate}
use Rattle.std.proofs.lemmas.List.Elements.{filter-append}
use Rattle.std.specs.Prelude.{◌≢◌, nat_lt, replicate, slice_get}
use Rattle.lexical_util.specs.Digit.{digit}
use Rattle.lexical_util.specs.Format.{Format}
use Rattle.lexical_util.specs.Number.{IntegerType}
use Rattle.lexical_util.specs.Validity.{fault}
use Rattle.lexical_parse_integer.specs.Affixes.{bare_radix, octal_zero_at}
use Rattle.lexical_parse_integer.specs.Grammar.{complete, digits_required}
use Rattle.lexical_parse_integer.specs.Runs.{are_same}
use Rattle.lexical_parse_integer.proofs.ForCallers.{IsFit, true_or_false}
use Rattle.lexical_laws.specs.Integer.{HasRun, IsInteger, IsPrefix, IsSign, IsSuffix, is_separator}
use Rattle.lexical_laws.specs.Integer.IsPrefix.{no_prefix, a_prefix}
use Rattle.lexical_laws.specs.Integer.IsSign.{no_sign as none, a_plus, a_minus}
use Rattle.lexical_laws.specs.Integer.IsSuffix.{no_suffix, a_suffix}
use Rattle.lexical_laws.specs.Keeping.{without_separators}
use Rattle.lexical_laws.proofs.Bodies.{BytesAre}
use Rattle.lexical_laws.proofs.MadeIsRead.{integer_is_read}
use Rattle.lexical_laws.proofs.Punctuation.{affix_matches, no_sign_byte, not_named, separator_is}
use Rattle.lexical_laws.proofs.Parts.{get_behind, get_replicate, get_within}
use Rattle.lexical_laws.proofs.ReadIsMade.{read_is_integer}
use Rattle.lexical_laws.proofs.WhatIsRead.{none_of, prefix_fit}

digit_zero : (r : ℕ) → 2 ≤ r → digit r 48 ≡ Some 0
digit_zero r low = let t : nat_lt 0 r ≡ true = lt-ltb 0 r (omega arith) in rw t refl

module _ (f : Format) (valid : IsNone (fault f)) where
  -- a byte that is no separator stays
  stays : (c : ℕ) (rest : List ℕ) → is_separator f c ≡ false → without_separators f (c ∷ rest) ≡ c ∷ without_separators f rest
  stays c rest other = rw other refl

  -- a byte of a sign, a prefix or a suffix is no separator
  no_separator : (c : ℕ) → (is_separator f c ≡ true → ⊥) → is_separator f c ≡ false
  no_separator c apart = elim (true_or_false (is_separator f c)) [ inl s ↦ absurd (apart s) | inr s ↦ s ]

  sign_stays : (t : IntegerType) (front : List ℕ) (m : Bool) → IsSign f t front m → without_separators f front ≡ front
  sign_stays t _ _ (none off) = refl
  sign_stays t _ _ (a_plus off) = stays 43 [] (no_separator 43 (λ s. (no_sign_byte f 10 43 (none_of (fault f) valid) (inl s)).0 refl))
  sign_stays t _ _ (a_minus on) = stays 45 [] (no_separator 45 (λ s. (no_sign_byte f 10 45 (none_of (fault f) valid) (inl s)).1 refl))

  zero_stays : (r : ℕ) → IsFit f r → is_separator f 48 ≡ false
  zero_stays r fit = no_separator 48 (λ s. (let none' = fit.separator 48 (separator_is f 48 s) in let here = digit_zero r fit.is_radix.low in cc))

  prefix_stays : (body prefix : List ℕ) (r : ℕ) → IsPrefix f body prefix r → without_separators f prefix ≡ prefix
  prefix_stays body _ _ no_prefix = refl
  prefix_stays body _ _ (a_prefix c r named some) =
      let zero' = zero_stays r (prefix_fit f body (48 ∷ c ∷ []) r valid (a_prefix c r named some)) in
      let other : is_separator f c ≡ false = no_separator c (λ s. (let none' = not_named f c (none_of (fault f) valid) (inl s) in cc)) in
      stays 48 (c ∷ []) zero' ∙ ap (λ xs. 48 ∷ xs) (stays c [] other)

  suffix_stays : (ds suffix : List ℕ) (r : ℕ) → IsFit f r → IsSuffix f ds suffix → without_separators f suffix ≡ suffix
  suffix_stays ds _ r fit no_suffix = refl
  suffix_stays ds _ r fit (a_suffix c some t) =
      let told = affix_matches f.case_sensitive_base_suffix f.base_suffix c t in
      stays c [] (fit.suffix_separator told.0 c told.1 told.2)

  -- ---- the body

  others_alone : (body : List ℕ) (k c : ℕ) → slice_get (without_separators f body) k ≡ Some c → is_separator f c ≡ false
  others_alone [] k c here = cc
  others_alone (b ∷ body) k c here = by_separator (is_separator f b) refl k here (λ k. others_alone body k c)
    where
      by_separator : (t : Bool) → is_separator f b ≡ t → (k : ℕ) → slice_get (cond (not t) (b ∷ without_separators f body) (without_separators f body)) k ≡ Some c → ((k : ℕ) → slice_get (without_separators f body) k ≡ Some c → is_separator f c ≡ false) → is_separator f c ≡ false
      by_separator true s k here more = more k here
      by_separator false s zero here more = let same : b ≡ c = cc in ap (is_separator f) (sym same) ∙ s
      by_separator false s (suc k) here more = more k here

  twice : (body : List ℕ) → without_separators f (without_separators f body) ≡ without_separators f body
  twice [] = refl
  twice (b ∷ body) = by_separator (is_separator f b) refl (twice body)
    where
      by_separator : (t : Bool) → is_separator f b ≡ t → without_separators f (without_separators f body) ≡ without_separators f body → without_separators f (cond (not t) (b ∷ without_separators f body) (without_separators f body)) ≡ cond (not t) (b ∷ without_separators f body) (without_separators f body)
      by_separator true s rest = rest
      by_separator false s rest = stays b (without_separators f body) s ∙ ap (λ xs. b ∷ xs) rest

  -- it has no runs
  no_run : (body before behind : List ℕ) (count : ℕ) → HasRun f (without_separators f body) before count behind → ⊥
  unfolding are_same
  no_run body before behind count h =
      let s : ℕ = h.separator in
      let place : length before + 0 ≡ length before = omega arith in
      let one : slice_get (replicate count s ++ behind) 0 ≡ Some s = get_within (replicate count s) behind 0 (omega (arith, length-replicate count s, h.some)) ∙ get_replicate count 0 s h.some in
      let here : slice_get (without_separators f body) (length before) ≡ Some s = ap (λ x. slice_get x (length before)) h.parts ∙ ap (slice_get (before ++ (replicate count s ++ behind))) (sym place) ∙ get_behind before (replicate count s ++ behind) 0 ∙ one in
      let other = others_alone body (length before) s here in
      false≢true (sym other ∙ ap (λ o. are_same o (Some s)) h.is_set ∙ eq-eqb s s refl)

  octal_off : (body : List ℕ) → f.literal_octal_zero ≡ false → octal_zero_at f body 0 ≡ false
  unfolding octal_zero_at
  octal_off body off = rw off refl

  same_bare : (body other : List ℕ) → f.literal_octal_zero ≡ false → bare_radix f body 0 ≡ bare_radix f other 0
  same_bare body other off = ap (λ o. cond o 8 f.mantissa_radix) (octal_off body off ∙ sym (octal_off other off))

  no_digits : (body ds : List ℕ) (r : ℕ) → without_separators f body ≡ [] → BytesAre f r body ds → ds ≡ []
  no_digits body [] r empty bytes = refl
  no_digits body (d ∷ ds) r empty bytes = let none' : [] ≡ map Some (d ∷ ds) = sym (ap (map (λ b. digit r b)) empty) ∙ bytes in cc

  less_prefix : (body prefix ds : List ℕ) (r : ℕ) → f.literal_octal_zero ≡ false → BytesAre f r body ds → ds ≢ [] → IsPrefix f body prefix r → IsPrefix f (without_separators f body) prefix r
  less_prefix body _ ds _ off bytes enough no_prefix = subst (IsPrefix f (without_separators f body) []) (same_bare (without_separators f body) body off) no_prefix
  less_prefix body _ ds _ off bytes enough (a_prefix c r named some) = a_prefix c r named (λ empty. enough (no_digits body ds r empty bytes))

  less_integer : (t : IntegerType) (text : List ℕ) (v : ℤ) → f.literal_octal_zero ≡ false → digits_required f ≡ true → IsInteger f t text v → IsInteger f t (without_separators f text) v
  less_integer t text v off required i =
      let fit = prefix_fit f i.body i.prefix i.radix valid i.prefix_may in
      let keep : ℕ → Bool = λ byte. not (is_separator f byte) in
      record {
        sign = i.sign;
        prefix = i.prefix;
        body = without_separators f i.body;
        suffix = i.suffix;
        is_negative = i.is_negative;
        radix = i.radix;
        digits = i.digits;
        parts = ap (without_separators f) i.parts ∙ filter-append keep i.sign (i.prefix ++ (i.body ++ i.suffix))
            ∙ ap (λ xs. xs ++ without_separators f (i.prefix ++ (i.body ++ i.suffix))) (sign_stays t i.sign i.is_negative i.sign_may)
            ∙ ap (λ xs. i.sign ++ xs) (filter-append keep i.prefix (i.body ++ i.suffix)
            ∙ ap (λ xs. xs ++ without_separators f (i.body ++ i.suffix)) (prefix_stays i.body i.prefix i.radix i.prefix_may)
            ∙ ap (λ xs. i.prefix ++ xs) (filter-append keep i.body i.suffix
            ∙ ap (λ xs. without_separators f i.body ++ xs) (suffix_stays i.digits i.suffix i.radix fit i.suffix_may)));
        sign_may = i.sign_may;
        prefix_may = less_prefix i.body i.prefix i.digits i.radix off i.body_may.bytes (i.enough required) i.prefix_may;
        body_may = record {
          bytes = ap (map (λ b. digit i.radix b)) (twice i.body) ∙ i.body_may.bytes;
          runs = λ before behind count run. absurd (no_run i.body before behind count run);
          single = λ before behind count run. absurd (no_run i.body before behind count run);
        };
        suffix_may = i.suffix_may;
        enough = i.enough;
        zeros = λ on bare octal. i.zeros on bare (octal_off i.body off);
        worth = i.worth;
        fits = i.fits;
      }

pub less_is_read : (f : Format) (t : IntegerType) (text : List ℕ) (v : ℤ) → IsNone (fault f) → f.literal_octal_zero ≡ false → digits_required f ≡ true → complete f t text ≡ Ok v → complete f t (without_separators f text) ≡ Ok v
less_is_read f t text v valid off required read = integer_is_read f t (without_separators f text) v valid (less_integer f valid t text v off required (read_is_integer f t text v valid read))
