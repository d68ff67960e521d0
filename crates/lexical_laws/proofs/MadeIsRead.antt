-- A text that the grammar makes is read.
use Rattle.std.proofs.Common.{◌||◌, ◌≡◌, ℕ, zero, suc, ◌+◌, ◌-◌, ◌≤◌, Bool, true, false, ◌&&◌, cond, List, [], ◌∷◌, ◌++◌, length, get_or, map, filter, Option, Some, None, IsNone, is_some, Ok, refl, sym, ap, subst, ◌∙◌, arith, ◌⊎◌, inl, inr, length-append}
use Rattle.std.proofs.Math.IntN.{ℤ}
use Rattle.std.proofs.Math.Bool.{and-false}
use Rattle.std.proofs.lemmas.Bool.{and_parts, cases_lt, false≢true, lt-ltb, ne_eqb}
use Rattle.std.proofs.lemmas.List.{length-map}
use Rattle.std.proofs.lemmas.Option.{slice_get-get_or}
use Rattle.std.specs.List.{range_with_len}
use Rattle.std.specs.Option.{unwrap_or}
use Rattle.std.specs.Prelude.{◌==◌, ◌≢◌, nat_lt, slice_get}
use Rattle.lexical_util.specs.Digit.{digit}
use Rattle.lexical_util.specs.Format.{Format}
use Rattle.lexical_util.specs.Number.{IntegerType, is_number}
use Rattle.lexical_util.specs.Validity.{fault}
use Rattle.lexical_util.proofs.Valid.{digit_below, octal_zero_radix}
use Rattle.lexical_parse_integer.specs.Affixes.{bare_radix, is_affix, numeral_stop, octal_zero_at, suffix_at}
use Rattle.lexical_parse_integer.specs.Grammar.{complete, digits_required}
use Rattle.lexical_parse_integer.specs.Head.{Head, head_of}
use Rattle.lexical_parse_integer.specs.Numeral.{numeral_in, numeral_behind}
use Rattle.lexical_parse_integer.specs.Runs.{digit_at, digits_between, end_of, places, separator_at}
use Rattle.lexical_parse_integer.specs.Value.{positional_value, with_sign}
use Rattle.lexical_parse_integer.proofs.ForCallers.{IsFit, complete_by, true_or_false}
use Rattle.lexical_laws.specs.Integer.{IsBody, IsInteger, IsPrefix, IsSign, IsSuffix, is_separator}
use Rattle.lexical_laws.specs.Integer.IsPrefix.{no_prefix, a_prefix}
use Rattle.lexical_laws.specs.Integer.IsSuffix.{no_suffix, a_suffix}
use Rattle.lexical_laws.specs.Keeping.{IsRangeFault}
use Rattle.lexical_laws.proofs.Bodies.{BytesAre, StandsAt, bytes_fit, bytes_values, digit_at-some, values_at}
use Rattle.lexical_laws.proofs.Heads.{BeginsUnsigned, head_bare, head_named, no_prefix_radix}
use Rattle.lexical_laws.proofs.Punctuation.{MayFollow, no_sign_byte, not_named}
use Rattle.lexical_laws.proofs.Parts.{get_behind, get_within}
use Rattle.lexical_laws.proofs.RunParts.{runs_pass, some_in}
use Rattle.lexical_laws.proofs.Runs.{IsRegion, region_end}
use Rattle.lexical_laws.proofs.WhatIsRead.{answer_by, leaves_by, digit_at-none, no_digit, none_of, prefix_fit, separator_at-none, separator_at-some, separator_no_digit, suffix_stops}

-- ---- bytes of a body and of its suffix

-- each is a separator or a digit
body_byte : (f : Format) (r : ℕ) (body ds : List ℕ) (k c : ℕ) → BytesAre f r body ds → slice_get body k ≡ Some c → (is_separator f c ≡ true) ⊎ (is_some (digit r c) ≡ true)
body_byte f r body ds k c bytes here = elim (true_or_false (is_separator f c)) [
  | inl t ↦ inl t
  | inr t ↦ inr (bytes_fit f r body ds bytes k c here t)
]

-- behind an empty body stands no suffix
empty_suffix : (f : Format) (r : ℕ) (ds suffix : List ℕ) → BytesAre f r [] ds → IsSuffix f ds suffix → suffix ≡ []
empty_suffix f r ds _ bytes no_suffix = refl
empty_suffix f r [] _ bytes (a_suffix c some t) = absurd (some refl)
empty_suffix f r (d ∷ ds) _ bytes (a_suffix c some t) = cc

-- an octal zero is the body's first byte
pub octal_of_body : (f : Format) (r : ℕ) (body ds suffix : List ℕ) → BytesAre f r body ds → IsSuffix f ds suffix → octal_zero_at f (body ++ suffix) 0 ≡ octal_zero_at f body 0
unfolding octal_zero_at
octal_of_body f r [] ds suffix bytes may = ap (λ x. octal_zero_at f x 0) (empty_suffix f r ds suffix bytes may)
octal_of_body f r (b ∷ body) ds suffix bytes may = refl

octal_asked : (f : Format) (body : List ℕ) → octal_zero_at f body 0 ≡ true → f.literal_octal_zero ≡ true
unfolding octal_zero_at
octal_asked f body e = (and_parts f.literal_octal_zero _ e).0

-- a digit of the effective radix without a prefix is one of the format's
own_digit : (f : Format) (body : List ℕ) (c : ℕ) → fault f ≡ None → is_some (digit (bare_radix f body 0) c) ≡ true → is_some (digit f.mantissa_radix c) ≡ true
own_digit f body c valid d = by_zero (octal_zero_at f body 0) refl d
  where
    by_digit : (o : Option ℕ) → digit 10 c ≡ o → is_some (digit 8 c) ≡ true → is_some o ≡ true
    by_digit None e d = absurd (false≢true (sym (ap is_some (digit_below 10 8 c (omega arith) e)) ∙ d))
    by_digit (Some x) e d = refl

    by_zero : (o : Bool) → octal_zero_at f body 0 ≡ o → is_some (digit (cond o 8 f.mantissa_radix) c) ≡ true → is_some (digit f.mantissa_radix c) ≡ true
    by_zero false e d = d
    by_zero true e d = ap (λ r. is_some (digit r c)) (octal_zero_radix f valid (octal_asked f body e)) ∙ by_digit (digit 10 c) refl d

-- ---- the head

-- A text that is made so has this head.
record HeadMade (f : Format) (t : IntegerType) (text prefix body : List ℕ) (m : Bool) (start r : ℕ) : Type 0 where
  octal : Bool
  head : head_of f t text ≡ Ok (record { is_negative = m; is_prefixed = some_in prefix; is_octal = octal; start = start; radix = r })
  some : some_in prefix ≡ true → body ≢ []
  unprefixed : (some_in prefix || octal) ≡ false → (prefix ≡ []) × (octal_zero_at f body 0 ≡ false)

module _ (f : Format) (t : IntegerType) (body suffix ds : List ℕ) (valid : IsNone (fault f)) (may_close : IsSuffix f ds suffix) where
  suffix_byte : (sfx : List ℕ) → IsSuffix f ds sfx → (k c : ℕ) → slice_get sfx k ≡ Some c → is_affix f.case_sensitive_base_suffix f.base_suffix (Some c) ≡ true
  suffix_byte _ no_suffix k c here = cc
  suffix_byte _ (a_suffix b some t) zero c here = let same : b ≡ c = cc in ap (λ x. is_affix f.case_sensitive_base_suffix f.base_suffix (Some x)) (sym same) ∙ t
  suffix_byte _ (a_suffix b some t) (suc k) c here = cc

  -- a byte without a prefix before it
  may_follow : BytesAre f (bare_radix f body 0) body ds → (k c : ℕ) → slice_get (body ++ suffix) k ≡ Some c → MayFollow f c
  may_follow bytes k c here = elim (cases_lt k (length body)) [
    | inl lt ↦ elim (body_byte f (bare_radix f body 0) body ds k c bytes (sym (get_within body suffix k lt) ∙ here)) [
      | inl s ↦ inl s
      | inr d ↦ inr (inl (own_digit f body c (none_of (fault f) valid) d))
    ]
    | inr ge ↦ (let place : length body + (k - length body) ≡ k = omega arith in
        let behind : slice_get suffix (k - length body) ≡ Some c = sym (get_behind body suffix (k - length body)) ∙ ap (slice_get (body ++ suffix)) place ∙ here in
        inr (inr (suffix_byte suffix may_close (k - length body) c behind)))
  ]

  unsigned : (r : ℕ) → BytesAre f r body ds → BeginsUnsigned (body ++ suffix)
  unsigned r bytes = by_body body bytes
    where
      by_body : (xs : List ℕ) → BytesAre f r xs ds → BeginsUnsigned (xs ++ suffix)
      by_body [] bytes b here = let none : slice_get suffix 0 ≡ None = ap (λ xs. slice_get xs 0) (empty_suffix f r ds suffix bytes may_close) in absurd (cc)
      by_body (x ∷ xs) bytes b here = no_sign_byte f r b (none_of (fault f) valid) (body_byte f r (x ∷ xs) ds 0 b bytes here)

  head_made : (front prefix : List ℕ) (m : Bool) (r : ℕ) → IsSign f t front m → BytesAre f r body ds → IsPrefix f body prefix r → HeadMade f t (front ++ (prefix ++ (body ++ suffix))) prefix body m (length front + length prefix) r
  head_made front _ m _ may bytes no_prefix =
      let radix = none_of (fault f) valid in
      let none_here = no_prefix_radix f (body ++ suffix) (λ c e. not_named f c radix (may_follow bytes 1 c e)) in
      let bare = head_bare f t front (body ++ suffix) m may (unsigned (bare_radix f body 0) bytes) none_here in
      let octal = octal_of_body f (bare_radix f body 0) body ds suffix bytes may_close in
      let place : length front + 0 ≡ length front = omega arith in
      record {
        octal = octal_zero_at f body 0;
        head = bare ∙ ap (λ o. Ok (record { is_negative = m; is_prefixed = false; is_octal = o; start = length front; radix = cond o 8 f.mantissa_radix })) octal
            ∙ ap (λ n. Ok (record { is_negative = m; is_prefixed = false; is_octal = octal_zero_at f body 0; start = n; radix = bare_radix f body 0 })) (sym place);
        some = λ e. absurd (false≢true e);
        unprefixed = λ e. (refl, e);
      }
  head_made front _ m _ may bytes (a_prefix byte r named some) = record {
    octal = false;
    head = head_named f t front (body ++ suffix) m byte r may named;
    some = λ _. some;
    unprefixed = λ e. absurd (false≢true (sym e));
  }

-- ---- the whole text

pub complete_is : (f : Format) (t : IntegerType) (text : List ℕ) (h : Head) → head_of f t text ≡ Ok h → complete f t text ≡ complete_by f t text h (numeral_behind f text h)
unfolding complete
complete_is f t text h head = rw head refl

pub no_affix : (sensitive : Bool) (o : Option ℕ) → is_affix sensitive o None ≡ false
unfolding is_affix
no_affix sensitive None = refl
no_affix sensitive (Some m) = refl

pub some_length : (xs : List ℕ) → xs ≢ [] → 1 ≤ length xs
some_length [] some = absurd (some refl)
some_length (x ∷ xs) some = omega arith

pub radix_is : (f : Format) (pre : Bool) (text : List ℕ) (start r : ℕ) → (numeral_in f pre r text start).radix ≡ r
unfolding numeral_in
radix_is f pre text start r = refl

radix_kept : (f : Format) (pre : Bool) (text : List ℕ) (start r : ℕ) → 1 ≤ r → 1 ≤ (numeral_in f pre r text start).radix
unfolding numeral_in
radix_kept f pre text start r low = low

module _ (f : Format) (t : IntegerType) (front prefix body suffix ds : List ℕ) (m : Bool) (r : ℕ) (valid : IsNone (fault f))
    (may : IsSign f t front m) (has_prefix : IsPrefix f body prefix r) (made : IsBody f prefix r body ds) (close : IsSuffix f ds suffix) where
  abbrev text : List ℕ
  text = front ++ (prefix ++ (body ++ suffix))

  abbrev start : ℕ
  start = length front + length prefix

  abbrev pre : Bool
  pre = some_in prefix

  abbrev end : ℕ
  end = start + length body

  fit : IsFit f r
  fit = prefix_fit f body prefix r valid has_prefix

  at_more : (k : ℕ) → slice_get text (start + k) ≡ slice_get (body ++ suffix) k
  at_more k =
      let e : length front + (length prefix + k) ≡ start + k = omega arith in
      ap (slice_get text) (sym e) ∙ get_behind front (prefix ++ (body ++ suffix)) (length prefix + k) ∙ get_behind prefix (body ++ suffix) k

  at : StandsAt text start body
  at k l = at_more k ∙ get_within body suffix k l

  at_end : slice_get text end ≡ slice_get suffix 0
  at_end =
      let e : length body + 0 ≡ length body = omega arith in
      at_more (length body) ∙ ap (slice_get (body ++ suffix)) (sym e) ∙ get_behind body suffix 0

  size : length text ≡ end + length suffix
  size = omega (arith, length-append front (prefix ++ (body ++ suffix)), length-append prefix (body ++ suffix), length-append body suffix)

  stops : (digit_at r text end ≡ None) × (separator_at f text end ≡ false)
  stops = by_suffix suffix close at_end
    where
      by_suffix : (sfx : List ℕ) → IsSuffix f ds sfx → slice_get text end ≡ slice_get sfx 0 → (digit_at r text end ≡ None) × (separator_at f text end ≡ false)
      by_suffix _ no_suffix e = (digit_at-none r text end e, separator_at-none f text end e)
      by_suffix _ (a_suffix c some t) e = suffix_stops f r text end c fit e t

  region : IsRegion f r text start end
  region = record {
    low = omega arith;
    high = omega (arith, size);
    each = λ k low high s.
        let j : ℕ = k - start in
        let place : start + j ≡ k = omega arith in
        let inside : slice_get body j ≡ Some (get_or body j 0) = slice_get-get_or body j 0 (omega arith) in
        let here : slice_get text k ≡ Some (get_or body j 0) = ap (slice_get text) (sym place) ∙ at j (omega arith) ∙ inside in
        let other : is_separator f (get_or body j 0) ≡ false = sym (separator_at-some f text k (get_or body j 0) here) ∙ s in
        ap is_some (digit_at-some r text k (get_or body j 0) here) ∙ bytes_fit f r body ds made.bytes j (get_or body j 0) inside other;
    none = separator_no_digit f r text fit;
    stop_digit = stops.0;
    stop_separator = stops.1;
  }

  ends : end_of f pre r text start ≡ end
  ends = region_end f pre r text start end region (runs_pass f pre r text body start end region refl at prefix refl made.runs made.single)

  digits_are : (numeral_in f pre r text start).digits ≡ ds
  unfolding numeral_in digits_between
  digits_are =
      let count : end_of f pre r text start - start ≡ length body = omega (arith, ends) in
      ap (λ n. map (λ place. unwrap_or (digit_at r text place) 0) (filter (λ place. is_some (digit_at r text place)) (range_with_len start n))) count
      ∙ values_at r text start body at ∙ bytes_values f r body ds (no_digit f r fit) made.bytes

  places_count : length (places f pre r text start) ≡ length ds
  unfolding numeral_in
  places_count = sym (length-map (places f pre r text start) (λ place. unwrap_or (digit_at r text place) 0)) ∙ ap length digits_are

  stop_is : (numeral_in f pre r text start).stop ≡ length text
  unfolding numeral_in numeral_stop suffix_at
  stop_is = by_suffix suffix close at_end size
    where
      by_suffix : (sfx : List ℕ) → IsSuffix f ds sfx → slice_get text end ≡ slice_get sfx 0 → length text ≡ end + length sfx →
          cond (nat_lt 0 (length (places f pre r text start)) && is_affix f.case_sensitive_base_suffix f.base_suffix (slice_get text (end_of f pre r text start))) (end_of f pre r text start + 1) (end_of f pre r text start) ≡ length text
      by_suffix _ no_suffix e n =
          let none' : is_affix f.case_sensitive_base_suffix f.base_suffix (slice_get text (end_of f pre r text start)) ≡ false = ap (is_affix f.case_sensitive_base_suffix f.base_suffix) (ap (slice_get text) ends ∙ e) ∙ no_affix f.case_sensitive_base_suffix f.base_suffix in
          rw (none', and-false) (omega (arith, ends))
      by_suffix _ (a_suffix c some t) e n =
          let here : is_affix f.case_sensitive_base_suffix f.base_suffix (slice_get text (end_of f pre r text start)) ≡ true = ap (is_affix f.case_sensitive_base_suffix f.base_suffix) (ap (slice_get text) ends ∙ e) ∙ t in
          let count = places_count in
          let there : nat_lt 0 (length (places f pre r text start)) ≡ true = lt-ltb 0 (length (places f pre r text start)) (let n = some_length ds some in omega arith) in
          rw (here, there) (omega (arith, ends))

  head : HeadMade f t text prefix body m start r
  head = head_made f t body suffix ds valid close front prefix m r may made.bytes has_prefix

  prefixed : (some_in prefix && (start == length text)) ≡ false
  prefixed = elim (true_or_false (some_in prefix)) [
    | inl on ↦ (let some = some_length body (head.some on) in let apart : (start == length text) ≡ false = ne_eqb start (length text) (λ e. omega (arith, size)) in rw apart (and-false (some_in prefix)))
    | inr off ↦ rw off refl
  ]

  -- no zero stands in front, where none may
  abbrev KeepsZeros : Type 0
  KeepsZeros = f.no_integer_leading_zeros ≡ true → prefix ≡ [] → octal_zero_at f body 0 ≡ false → (d : ℕ) (rest : List ℕ) → ds ≢ 0 ∷ d ∷ rest

  zeros_kept : KeepsZeros → f.no_integer_leading_zeros ≡ true → (some_in prefix || head.octal) ≡ false → (d : ℕ) (rest : List ℕ) → ds ≢ 0 ∷ d ∷ rest
  zeros_kept zeros on off = let bare = head.unprefixed off in zeros on bare.0 bare.1

  pub made_is_read : (v : ℤ) → (digits_required f ≡ true → ds ≢ []) → KeepsZeros → v ≡ with_sign m (positional_value r ds) → is_number t v ≡ true → complete f t text ≡ Ok v
  made_is_read v enough zeros worth fits =
      let h : Head = record { is_negative = m; is_prefixed = some_in prefix; is_octal = head.octal; start = start; radix = r } in
      let least = fit.is_radix.low in
      complete_is f t text h head.head
      ∙ answer_by f t text h (numeral_in f pre r text start) ds digits_are stop_is (radix_kept f pre text start r (omega arith)) prefixed (zeros_kept zeros) enough
      (ap (λ k. is_number t (with_sign m (positional_value k ds))) (radix_is f pre text start r) ∙ ap (is_number t) (sym worth) ∙ fits)
      ∙ ap (λ k. Ok (with_sign m (positional_value k ds))) (radix_is f pre text start r) ∙ ap (λ z. Ok z) (sym worth)

  pub made_leaves : (v : ℤ) → KeepsZeros → v ≡ with_sign m (positional_value r ds) → is_number t v ≡ false → IsRangeFault (complete f t text)
  made_leaves v zeros worth leaves =
      let h : Head = record { is_negative = m; is_prefixed = some_in prefix; is_octal = head.octal; start = start; radix = r } in
      subst IsRangeFault (sym (complete_is f t text h head.head))
      (leaves_by f t text h (numeral_in f pre r text start) ds digits_are prefixed (zeros_kept zeros)
      (ap (λ k. is_number t (with_sign m (positional_value k ds))) (radix_is f pre text start r) ∙ ap (is_number t) (sym worth) ∙ leaves))

-- a text that the grammar makes is read
pub integer_is_read : (f : Format) (t : IntegerType) (text : List ℕ) (v : ℤ) → IsNone (fault f) → IsInteger f t text v → complete f t text ≡ Ok v
integer_is_read f t whole v valid i =
    ap (complete f t) i.parts ∙ made_is_read f t i.sign i.prefix i.body i.suffix i.digits i.is_negative i.radix valid i.sign_may i.prefix_may i.body_may i.suffix_may v i.enough i.zeros i.worth i.fits
