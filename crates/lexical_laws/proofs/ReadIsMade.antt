-- A text that is read is one that the grammar makes.
use Rattle.std.proofs.Common.{◌≡◌, ℕ, ◌+◌, ◌-◌, ◌≤◌, Bool, true, false, not, ◌&&◌, cond, List, [], ◌∷◌, ◌++◌, length, map, filter, take, drop, Option, Some, None, IsNone, is_some, Ok, Err, Result, refl, sym, ap, subst, ◌∙◌, arith, ◌⊎◌, inl, inr, length-append, length-take, length-drop}
use Rattle.std.proofs.Math.IntN.{ℤ}
use Rattle.std.proofs.lemmas.Bool.{cases_lt, eq-eqb, false≢true, ltb-false, ltb-true}
use Rattle.std.proofs.lemmas.List.{length-map, take-append-drop, take_all}
use Rattle.std.proofs.lemmas.Option.{slice_get_past, slice_get_within}
use Rattle.std.specs.List.{range_with_len}
use Rattle.std.specs.Option.{unwrap_or}
use Rattle.std.specs.Prelude.{◌==◌, ◌≢◌, nat_lt, nat_le, slice_get, slice_index}
use Rattle.lexical_util.specs.declared.error.Error.{Error}
use Rattle.lexical_util.specs.declared.error.Error.TheVariants.{InvalidDigit}
use Rattle.lexical_util.specs.Format.{Format}
use Rattle.lexical_util.specs.Number.{IntegerType, is_number}
use Rattle.lexical_util.specs.Validity.{fault}
use Rattle.lexical_parse_integer.specs.Affixes.{is_affix, numeral_stop, octal_zero_at, suffix_at}
use Rattle.lexical_parse_integer.specs.Grammar.{complete, digits_required, fault_if, first_fault_or, lacks_digits, range_fault}
use Rattle.lexical_parse_integer.specs.Head.{Head, head_of, chooses_radix}
use Rattle.lexical_parse_integer.specs.Numeral.{Numeral, digit_count, numeral_in, numeral_value, numeral_behind}
use Rattle.lexical_parse_integer.specs.Runs.{digit_at, digits_between, end_of, is_in_numeral, places, separator_at}
use Rattle.lexical_parse_integer.specs.Value.{positional_value, with_sign}
use Rattle.lexical_parse_integer.proofs.ForCallers.{IsFit, IsStop, IsStop-end_of, complete_by, fits_named, fits_told, zero_is_number}
use Rattle.lexical_laws.specs.Integer.{IsBody, IsInteger, IsPrefix, IsSuffix}
use Rattle.lexical_laws.specs.Integer.IsPrefix.{no_prefix, a_prefix}
use Rattle.lexical_laws.specs.Integer.IsSuffix.{no_suffix, a_suffix}
use Rattle.lexical_laws.proofs.Bodies.{EachFits, StandsAt, digit_at-some, fitting_bytes, values, values_at}
use Rattle.lexical_laws.proofs.Heads.{HeadSplit, HasPrefix, head_split}
use Rattle.lexical_laws.proofs.MadeIsRead.{complete_is, no_affix, octal_of_body, radix_is}
use Rattle.lexical_laws.proofs.Parts.{get_behind, get_within}
use Rattle.lexical_laws.proofs.RunParts.{runs_may, some_in}
use Rattle.lexical_laws.proofs.Runs.{IsRegion, numeral_each, numeral_runs}
use Rattle.lexical_laws.proofs.WhatIsRead.{bare_fit, digit_at-none, no_digit, separator_at-none, separator_at-some, separator_no_digit, suffix_stops, zeros_told}

-- ---- what a value tells

five_none : {A : Type 0} (a b c d e : Option Error) (v w : A) → first_fault_or (a ∷ b ∷ c ∷ d ∷ e ∷ []) v ≡ Ok w → (a ≡ None) × (b ≡ None) × (c ≡ None) × (d ≡ None) × (e ≡ None) × (v ≡ w)
five_none None None None None None v w h = (refl, refl, refl, refl, refl, cc)
five_none (Some x) b c d e v w h = cc
five_none None (Some x) c d e v w h = cc
five_none None None (Some x) d e v w h = cc
five_none None None None (Some x) e v w h = cc
five_none None None None None (Some x) v w h = cc

no_fault : (b : Bool) (e : Error) → fault_if b e ≡ None → b ≡ false
no_fault true e h = cc
no_fault false e h = refl

-- What it means that a numeral has no fault.
record IsFaultless (f : Format) (t : IntegerType) (text : List ℕ) (h : Head) (x : Numeral) (v : ℤ) : Type 0 where
  prefix : (h.is_prefixed && (h.start == length text)) ≡ false
  zeros : (((f.no_integer_leading_zeros && not (chooses_radix h)) && nat_le 2 (digit_count x)) && (slice_index x.digits 0 == 0)) ≡ false
  range : range_fault t h.is_negative x ≡ None
  over : length text ≤ x.stop
  enough : lacks_digits f x ≡ false
  value : numeral_value h.is_negative x ≡ v

faultless : (f : Format) (t : IntegerType) (text : List ℕ) (h : Head) (x : Numeral) (v : ℤ) → complete_by f t text h x ≡ Ok v → IsFaultless f t text h x v
faultless f t text h x v read =
    let w = five_none _ _ _ _ _ _ _ read in
    record {
      prefix = no_fault _ _ w.0;
      zeros = no_fault _ _ w.1;
      range = w.2;
      over = ltb-false x.stop (length text) (no_fault (nat_lt x.stop (length text)) (InvalidDigit x.stop) w.3);
      enough = no_fault _ _ w.4;
      value = w.5;
    }

pub head_fit : (f : Format) (prefix more : List ℕ) (h : Head) → IsNone (fault f) → HasPrefix f prefix more h → IsFit f h.radix
head_fit f prefix more h valid (inl w) = subst (IsFit f) (sym w.1) (bare_fit f more valid)
head_fit f prefix more h valid (inr w) = fits_named f (Some w.0) h.radix valid w.2

behind_head : (f : Format) (prefix more : List ℕ) (h : Head) → HasPrefix f prefix more h → h.is_prefixed ≡ some_in prefix
behind_head f prefix more h (inl w) = w.3 ∙ ap some_in (sym w.0)
behind_head f prefix more h (inr w) = w.3 ∙ ap some_in (sym w.1)

-- the byte of a suffix
pub suffix_here : (f : Format) (text : List ℕ) (k : ℕ) → suffix_at f text k ≡ true → (c : ℕ) × (slice_get text k ≡ Some c) × (is_affix f.case_sensitive_base_suffix f.base_suffix (Some c) ≡ true)
unfolding suffix_at
suffix_here f text k t = by_byte (slice_get text k) refl t
  where
    by_byte : (o : Option ℕ) → slice_get text k ≡ o → is_affix f.case_sensitive_base_suffix f.base_suffix o ≡ true → (c : ℕ) × (slice_get text k ≡ Some c) × (is_affix f.case_sensitive_base_suffix f.base_suffix (Some c) ≡ true)
    by_byte None e t = absurd (false≢true (sym (no_affix f.case_sensitive_base_suffix f.base_suffix) ∙ t))
    by_byte (Some c) e t = (c, e, t)

no_byte : (xs : List ℕ) → length xs ≡ 0 → xs ≡ []
no_byte [] e = refl
no_byte (x ∷ xs) e = absurd (omega arith)

one_byte : (xs : List ℕ) (c : ℕ) → length xs ≡ 1 → slice_get xs 0 ≡ Some c → xs ≡ c ∷ []
one_byte [] c e first = cc
one_byte (x ∷ []) c e first = let same : x ≡ c = cc in ap (λ y. y ∷ []) same
one_byte (x ∷ y ∷ xs) c e first = absurd (omega arith)

head_fault : (f : Format) (t : IntegerType) (text : List ℕ) (e : Error) → head_of f t text ≡ Err e → complete f t text ≡ Err e
unfolding complete
head_fault f t text e is = rw is refl

module _ (f : Format) (t : IntegerType) (text : List ℕ) (h : Head) (v : ℤ) (valid : IsNone (fault f)) (w : HeadSplit f t text h) (ok : IsFaultless f t text h (numeral_behind f text h) v) where
  abbrev r : ℕ
  r = h.radix

  abbrev start : ℕ
  start = h.start

  abbrev pre : Bool
  pre = h.is_prefixed

  abbrev end : ℕ
  end = end_of f pre r text start

  abbrev body : List ℕ
  body = take (end - start) w.more

  abbrev suffix : List ℕ
  suffix = drop (end - start) w.more

  fit : IsFit f r
  fit = head_fit f w.prefix w.more h valid w.prefixed

  size : length text ≡ start + length w.more
  size = omega (arith, ap length w.parts, length-append w.front (w.prefix ++ w.more), length-append w.prefix w.more, w.start)

  stop : IsStop (is_in_numeral f pre r text start) start (length text) end
  stop = IsStop-end_of f pre r text start (omega (arith, size))

  body_size : length body ≡ end - start
  body_size = omega (arith, length-take (end - start) w.more, size, stop.low, stop.high)

  at_more : (k : ℕ) → slice_get text (start + k) ≡ slice_get w.more k
  at_more k =
      let e : length w.front + (length w.prefix + k) ≡ start + k = omega (arith, w.start) in
      ap (slice_get text) (sym e) ∙ ap (λ x. slice_get x (length w.front + (length w.prefix + k))) w.parts ∙ get_behind w.front (w.prefix ++ w.more) (length w.prefix + k) ∙ get_behind w.prefix w.more k

  at : StandsAt text start body
  at k l = at_more k ∙ ap (λ x. slice_get x k) (sym (take-append-drop (end - start) w.more)) ∙ get_within body suffix k l

  digits_are : (numeral_in f pre r text start).digits ≡ values r body
  unfolding numeral_in digits_between
  digits_are =
      ap (λ n. map (λ place. unwrap_or (digit_at r text place) 0) (filter (λ place. is_some (digit_at r text place)) (range_with_len start n))) (sym body_size)
      ∙ values_at r text start body at

  -- how the text ends
  stops : (end ≡ length text) ⊎ ((end + 1 ≡ length text) × (1 ≤ length (values r body)) × (suffix_at f text end ≡ true))
  unfolding numeral_in numeral_stop
  stops = by_tests (nat_lt 0 (length (places f pre r text start))) (suffix_at f text end) refl refl ok.over
    where
      by_tests : (a b : Bool) → nat_lt 0 (length (places f pre r text start)) ≡ a → suffix_at f text end ≡ b → length text ≤ cond (a && b) (end + 1) end → (end ≡ length text) ⊎ ((end + 1 ≡ length text) × (1 ≤ length (values r body)) × (suffix_at f text end ≡ true))
      by_tests true true a b over =
          let here = suffix_here f text end b in
          let inside = slice_get_within text end here.0 here.1 in
          let some = ltb-true 0 (length (places f pre r text start)) a in
          let count = length-map (places f pre r text start) (λ place. unwrap_or (digit_at r text place) 0) in
          let same = ap length digits_are in
          inr (omega arith, omega arith, b)
      by_tests true false a b over = inl (omega (arith, stop.high))
      by_tests false b a b' over = inl (omega (arith, stop.high))

  ends : (digit_at r text end ≡ None) × (separator_at f text end ≡ false)
  ends = elim stops [
    | inl e ↦ (let none = slice_get_past text end (omega arith) in (digit_at-none r text end none, separator_at-none f text end none))
    | inr u ↦ (let here = suffix_here f text end u.2 in suffix_stops f r text end here.0 fit here.1 here.2)
  ]

  suffix_may : IsSuffix f (values r body) suffix
  suffix_may = elim stops [
    | inl e ↦ subst (IsSuffix f (values r body)) (sym (no_byte suffix (omega (arith, length-drop (end - start) w.more, size, stop.low)))) no_suffix
    | inr u ↦
        let here = suffix_here f text end u.2 in
        let e = u.0 in
        let n = body_size in
        let place : length body + 0 ≡ end - start = omega arith in
        let back : start + (end - start) ≡ end = omega (arith, stop.low) in
        let first : slice_get suffix 0 ≡ Some here.0 = sym (get_behind body suffix 0) ∙ ap (slice_get (body ++ suffix)) place ∙ ap (λ x. slice_get x (end - start)) (take-append-drop (end - start) w.more) ∙ sym (at_more (end - start)) ∙ ap (slice_get text) back ∙ here.1 in
        subst (IsSuffix f (values r body)) (sym (one_byte suffix here.0 (omega (arith, length-drop (end - start) w.more, size, stop.low)) first)) (a_suffix here.0 (λ is. (let none = ap length is in let some = u.1 in absurd (omega arith))) here.2)
  ]

  region : IsRegion f r text start end
  region = record {
    low = stop.low;
    high = stop.high;
    each = λ k low high s. numeral_each f pre r text start k (omega (arith, size)) low high s;
    none = separator_no_digit f r text fit;
    stop_digit = ends.0;
    stop_separator = ends.1;
  }

  each : EachFits f r body
  each k b here other =
      let inside = slice_get_within body k b here in
      let there : slice_get text (start + k) ≡ Some b = at k inside ∙ here in
      let apart : separator_at f text (start + k) ≡ false = separator_at-some f text (start + k) b there ∙ other in
      let n = body_size in
      ap is_some (sym (digit_at-some r text (start + k) b there)) ∙ numeral_each f pre r text start (start + k) (omega (arith, size)) (omega arith) (omega arith) apart

  body_may : IsBody f w.prefix r body (values r body)
  body_may =
      let passes = numeral_runs f pre r text start (omega (arith, size)) (separator_no_digit f r text fit) in
      let behind : pre ≡ some_in w.prefix = behind_head f w.prefix w.more h w.prefixed in
      let each_run = runs_may f pre r text body start end region (omega (arith, body_size, stop.low)) at w.prefix behind passes in
      record {
        bytes = fitting_bytes f r body (no_digit f r fit) each;
        runs = λ before behind count run. (each_run before behind count run).0;
        single = λ before behind count run. (each_run before behind count run).1;
      }

  same_octal : octal_zero_at f w.more 0 ≡ octal_zero_at f body 0
  same_octal = ap (λ x. octal_zero_at f x 0) (sym (take-append-drop (end - start) w.more)) ∙ octal_of_body f r body (values r body) suffix body_may.bytes suffix_may

  some_body : h.is_prefixed ≡ true → body ≢ []
  some_body on is = elim stops [
    | inl e ↦
        let n = ap length is in
        let m = body_size in
        let same : (start == length text) ≡ true = eq-eqb start (length text) (omega (arith, stop.low)) in
        let test = rw (on, same) at ok.prefix in
        false≢true (sym test)
    | inr u ↦ (let none : length (values r body) ≡ 0 = ap (λ x. length (values r x)) is in let some = u.1 in absurd (omega arith))
  ]

  prefix_may : IsPrefix f body w.prefix r
  prefix_may = elim w.prefixed [
    | inl m ↦ subst (λ p. IsPrefix f body p r) (sym m.0) (subst (IsPrefix f body []) (sym (m.1 ∙ ap (λ o. cond o 8 f.mantissa_radix) same_octal)) no_prefix)
    | inr m ↦ subst (λ p. IsPrefix f body p r) (sym m.1) (a_prefix m.0 r m.2 (some_body m.3))
  ]

  zeros : f.no_integer_leading_zeros ≡ true → w.prefix ≡ [] → octal_zero_at f body 0 ≡ false → (d : ℕ) (rest : List ℕ) → values r body ≢ 0 ∷ d ∷ rest
  zeros on none octal d rest is =
      let digits : (numeral_in f pre r text start).digits ≡ 0 ∷ d ∷ rest = digits_are ∙ is in
      let off : chooses_radix h ≡ false = elim w.prefixed [
        | inl m ↦ (let bare = m.3 in let plain = m.2 ∙ same_octal ∙ octal in rw (bare, plain) refl)
        | inr m ↦ (let both = sym none ∙ m.1 in cc)
      ] in
      zeros_told f.no_integer_leading_zeros (chooses_radix h) d rest (sym (ap (λ y. ((f.no_integer_leading_zeros && not (chooses_radix h)) && nat_le 2 (length y)) && (slice_index y 0 == 0)) digits) ∙ ok.zeros) on off

  enough : digits_required f ≡ true → values r body ≢ []
  enough on is =
      let lacks : (digits_required f && (length (values r body) == 0)) ≡ false = sym (ap (λ y. digits_required f && (length y == 0)) digits_are) ∙ ok.enough in
      let test = rw (on, is) at lacks in
      false≢true (sym test)

  worth : numeral_value h.is_negative (numeral_in f pre r text start) ≡ with_sign h.is_negative (positional_value r (values r body))
  worth =
      ap (λ y. with_sign h.is_negative (positional_value (numeral_in f pre r text start).radix y)) (take_all (length (numeral_in f pre r text start).digits) (numeral_in f pre r text start).digits (omega arith) ∙ digits_are)
      ∙ ap (λ k. with_sign h.is_negative (positional_value k (values r body))) (radix_is f pre text start r)

  fits : is_number t v ≡ true
  fits = elim (cases_lt 0 (digit_count (numeral_in f pre r text start))) [
    | inl lt ↦ ap (is_number t) (sym ok.value) ∙ fits_told t h.is_negative (numeral_in f pre r text start) lt ok.range
    | inr ge ↦
        let none : values r body ≡ [] = no_byte (values r body) (omega (arith, ap length digits_are)) in
        ap (is_number t) (sym ok.value ∙ worth ∙ ap (λ y. with_sign h.is_negative (positional_value r y)) none) ∙ zero_is_number t h.is_negative
  ]

  is_made : IsInteger f t text v
  is_made = record {
    sign = w.front;
    prefix = w.prefix;
    body = body;
    suffix = suffix;
    is_negative = h.is_negative;
    radix = r;
    digits = values r body;
    parts = w.parts ∙ ap (λ x. w.front ++ (w.prefix ++ x)) (sym (take-append-drop (end - start) w.more));
    sign_may = w.may;
    prefix_may = prefix_may;
    body_may = body_may;
    suffix_may = suffix_may;
    enough = enough;
    zeros = zeros;
    worth = sym ok.value ∙ worth;
    fits = fits;
  }

-- a text that is read is one that the grammar makes
pub read_is_integer : (f : Format) (t : IntegerType) (text : List ℕ) (v : ℤ) → IsNone (fault f) → complete f t text ≡ Ok v → IsInteger f t text v
read_is_integer f t whole v valid read = by_head (head_of f t whole) refl
  where
    by_head : (o : Result Head Error) → head_of f t whole ≡ o → IsInteger f t whole v
    by_head (Err e) is = let faulty = head_fault f t whole e is in absurd (cc)
    by_head (Ok h) is = is_made f t whole h v valid (head_split f t whole h is) (faultless f t whole h (numeral_behind f whole h) v (sym (complete_is f t whole h is) ∙ read))
