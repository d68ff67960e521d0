-- What keeps a cursor sound: for the answers of `cursor`.
use Rattle.std.proofs.Common.{◌≡◌, ℕ, ◌+◌, ◌-◌, ◌≤◌, ◌<◌, Bool, true, false, List, [], ◌∷◌, length, length-append, ◌&&◌, ltb, Option, Some, None, is_some, IsNone, option_and_then, slice_get, refl, sym, ◌∙◌, ap, arith, inl, inr, cond, subst}
use Rattle.std.proofs.lemmas.Bool.{false≢true, cases_lt, ltb-false, ltb-true}
use Rattle.std.proofs.lemmas.Bool.Decides.{nat_tests}
use Rattle.std.specs.Prelude.{nat_le, nat_lt}
use Rattle.std.proofs.lemmas.Option.{slice_get_past}
use Rattle.lexical_parse_integer.specs.Affixes.{bare_radix, is_affix, literal_radix, named_radix, matches, numeral_stop, octal_zero_at, prefix_radix, suffix_at}
use Rattle.lexical_parse_integer.specs.CursorView.{CursorView, IsSound, IsSuffixNoDigit, IsSuffixNoSeparator, ReachesEnd, TakesDigit, closes, numeral_end}
use Rattle.lexical_parse_integer.specs.Runs.{are_same, is_in_numeral, digit_at, digits_between, end_of, places, separator_at}
use Rattle.lexical_parse_integer.specs.Seeking.{Finds, HasNoDigit, IsSeparatorNoDigit, starts_behind_prefix}
use Rattle.lexical_util.specs.Digit.{digit}
use Rattle.lexical_util.specs.Format.{Format}
use Rattle.lexical_util.specs.Validity.{fault}
use Rattle.lexical_parse_integer.specs.declared.seek.Found.TheVariants.{Digit, End}
use Rattle.lexical_parse_integer.proofs.reading.FormatBytes.{fits, fits_octal, fits_prefix}
use Rattle.lexical_parse_integer.proofs.reading.OctalZeros.{bare_octal, bare_own}
use Rattle.lexical_parse_integer.proofs.grammar.Stretches.{true_or_false}
use Rattle.lexical_parse_integer.proofs.grammar.NumeralEnd.{IsStop-end_of, is_end, belongs_other, reaches, digit_at_within, digit_at_past}
use Rattle.lexical_parse_integer.proofs.grammar.DigitCounts.{digits_between_digit, digits_between_none, digits_between_to, length-digits_between, length-digits_between_all}

-- no cursor counts more digits than the text has bytes
pub digits_bound : (v : CursorView) → IsSound v → v.closed ≡ false → v.digits ≤ v.position
digits_bound v s e =
    let o = s.while_open e in
    omega (arith, o.digits, length-digits_between v.radix v.bytes v.start v.position)

-- where no separator is a digit, a digit is no separator
digit_no_separator : (f : Format) (r : ℕ) (b : List ℕ) (k v : ℕ) → IsSeparatorNoDigit f r b → digit_at r b k ≡ Some v → separator_at f b k ≡ false
digit_no_separator f r b k v plain e =
    elim (true_or_false (separator_at f b k)) [
      | inl t ↦ let none = plain k t in absurd (cc)
      | inr t ↦ t
    ]

by_option : (r : ℕ) (s c : Option ℕ) → ((x : ℕ) → s ≡ Some x → digit r x ≡ None) → are_same s c ≡ true → option_and_then (λ c. digit r c) c ≡ None
unfolding are_same
by_option r (Some s) (Some c) fit t = let e : c ≡ s = grind (arith, nat_tests) in rw e (fit s refl)
by_option r (Some s) None fit t = refl
by_option r None c fit t = absurd (false≢true t)

-- a separator that is no digit stands nowhere as one
pub separator_no_digit : (f : Format) (r : ℕ) (b : List ℕ) → ((s : ℕ) → f.digit_separator ≡ Some s → digit r s ≡ None) → IsSeparatorNoDigit f r b
unfolding separator_at are_same digit_at
separator_no_digit f r b fit k t = by_option r f.digit_separator (slice_get b k) fit t

by_affix : (sensitive : Bool) (affix c : Option ℕ) (P : Option ℕ → Type 0) → ((m x : ℕ) → affix ≡ Some m → matches sensitive m x ≡ true → P (Some x)) → is_affix sensitive affix c ≡ true → P c
unfolding is_affix
by_affix sensitive (Some m) (Some x) P fit t = fit m x refl t
by_affix sensitive (Some m) None P fit t = absurd (false≢true t)
by_affix sensitive None c P fit t = absurd (false≢true t)

pub suffix_no_digit : (f : Format) (r : ℕ) (b : List ℕ) → ((m x : ℕ) → f.base_suffix ≡ Some m → matches f.case_sensitive_base_suffix m x ≡ true → digit r x ≡ None) → IsSuffixNoDigit f r b
unfolding suffix_at digit_at
suffix_no_digit f r b fit k t = by_affix f.case_sensitive_base_suffix f.base_suffix (slice_get b k) (λ o. option_and_then (λ c. digit r c) o ≡ None) fit t

pub suffix_no_separator : (f : Format) (b : List ℕ) → ((m x : ℕ) → f.base_suffix ≡ Some m → matches f.case_sensitive_base_suffix m x ≡ true → are_same f.digit_separator (Some x) ≡ false) → IsSuffixNoSeparator f b
unfolding suffix_at separator_at
suffix_no_separator f b fit k t = by_affix f.case_sensitive_base_suffix f.base_suffix (slice_get b k) (λ c. are_same f.digit_separator c ≡ false) fit t

pub IsSound-digit : (v : CursorView) (turns place value : ℕ) → IsSound v → v.closed ≡ false → turns ≡ v.turns + 1 → Finds v.format v.is_prefixed v.radix v.bytes v.start v.position (Digit place value) → IsSound (record v { position = place + 1; digits = v.digits + 1; turns = turns })
IsSound-digit v turns place value s open_now one_more found =
    let o = s.while_open open_now in
    let low : v.start ≤ place = omega (arith, s.after_start, found.0) in
    let taken : length (digits_between v.radix v.bytes v.start (place + 1)) ≡ length (digits_between v.radix v.bytes v.start place) + 1 =
    ap length (digits_between_digit v.radix v.bytes v.start place value low found.3) ∙ length-append (digits_between v.radix v.bytes v.start place) (place ∷ []) in
    let skipped = ap length (digits_between_to v.radix v.bytes v.start v.position place s.after_start found.0 found.2) in
    let back : place + 1 - 1 ≡ place = omega arith in
    let plain = digit_no_separator v.format v.radix v.bytes place value s.separator found.3 in
    record {
      valid = s.valid;
      radix = s.radix;
      separator = s.separator;
      suffix_digit = s.suffix_digit;
      suffix_separator = s.suffix_separator;
      effective = s.effective;
      own = s.own;
      prefixed = s.prefixed;
      after_start = omega arith;
      within = omega (arith, digit_at_within v.radix v.bytes place value found.3);
      turns = omega (arith, s.turns);
      while_open = λ _. record {
        before_end = omega (arith, found.1);
        digits = omega (arith, o.digits);
        at_run_start = λ _ _. rw back plain;
      };
      once_closed = λ t. absurd (false≢true (sym open_now ∙ t));
    }

pub IsSound-end : (v : CursorView) (place : ℕ) → IsSound v → v.closed ≡ false → Finds v.format v.is_prefixed v.radix v.bytes v.start v.position (End place) → IsSound (record v { position = place })
IsSound-end v place s open_now found =
    let o = s.while_open open_now in
    let stop = IsStop-end_of v.format v.is_prefixed v.radix v.bytes v.start (omega (arith, s.after_start, s.within)) in
    let low : v.position ≤ place = omega (arith, o.before_end, found.0) in
    let skipped = ap length (digits_between_to v.radix v.bytes v.start v.position place s.after_start low found.1) in
    record {
      valid = s.valid;
      radix = s.radix;
      separator = s.separator;
      suffix_digit = s.suffix_digit;
      suffix_separator = s.suffix_separator;
      effective = s.effective;
      own = s.own;
      prefixed = s.prefixed;
      after_start = omega (arith, s.after_start);
      within = omega (arith, stop.high, found.0);
      turns = s.turns;
      while_open = λ _. record {
        before_end = omega (arith, found.0);
        digits = omega (arith, o.digits);
        at_run_start = found.2;
      };
      once_closed = λ t. absurd (false≢true (sym open_now ∙ t));
    }

-- what the steps do, by what was found
pub takes_found : (v : CursorView) (turns place value : ℕ) → turns ≡ v.turns + 1 → Finds v.format v.is_prefixed v.radix v.bytes v.start v.position (Digit place value) → TakesDigit v (record v { position = place + 1; digits = v.digits + 1; turns = turns }) value
takes_found v turns place value one_more found = record {
  place = place;
  from = found.0;
  least = found.2;
  before_end = found.1;
  value_is = found.3;
  after = ap (λ (n : ℕ). record v { position = place + 1; digits = v.digits + 1; turns = n }) one_more;
}

pub reaches_found : (v : CursorView) (place : ℕ) → Finds v.format v.is_prefixed v.radix v.bytes v.start v.position (End place) → ReachesEnd v (record v { position = place })
reaches_found v place found = record {
  none_left = subst (λ (e : ℕ). HasNoDigit v.radix v.bytes v.position e) found.0 found.1;
  after = ap (λ (n : ℕ). record v { position = n }) found.0;
}

no_separator : (f : Format) (b : List ℕ) (k : ℕ) → f.digit_separator ≡ None → separator_at f b k ≡ false
unfolding separator_at are_same
no_separator f b k e = rw e refl

belongs_some : (f : Format) (pre : Bool) (r : ℕ) (b : List ℕ) (j k : ℕ) → is_some (digit_at r b k) ≡ true → is_in_numeral f pre r b j k ≡ true
unfolding is_in_numeral
belongs_some f pre r b j k e = rw e refl

some_within : (r : ℕ) (b : List ℕ) (k : ℕ) → is_some (digit_at r b k) ≡ true → k < length b
some_within r b k e =
    elim (cases_lt k (length b)) [ inl lt ↦ lt | inr ge ↦ absurd (false≢true (sym (ap is_some (digit_at_past r b k ge)) ∙ e)) ]

-- a word of digits
pub IsSound-word : (v : CursorView) (turns n : ℕ) → IsSound v → v.closed ≡ false → v.format.digit_separator ≡ None → 0 < n → turns ≡ v.turns + 1 → ((k : ℕ) → v.position ≤ k → k < v.position + n → is_some (digit_at v.radix v.bytes k) ≡ true) → IsSound (record v { position = v.position + n; digits = v.digits + n; turns = turns })
IsSound-word v turns n s open_now contiguous some one_more all =
    let o = s.while_open open_now in
    let last : v.position + n - 1 < length v.bytes = some_within v.radix v.bytes (v.position + n - 1) (all (v.position + n - 1) (omega arith) (omega arith)) in
    let count = length-digits_between_all v.radix v.bytes v.start v.position n s.after_start all in
    record {
      valid = s.valid;
      radix = s.radix;
      separator = s.separator;
      suffix_digit = s.suffix_digit;
      suffix_separator = s.suffix_separator;
      effective = s.effective;
      own = s.own;
      prefixed = s.prefixed;
      after_start = omega (arith, s.after_start);
      within = omega arith;
      turns = omega (arith, s.turns);
      while_open = λ _. record {
        before_end = reaches v.format v.is_prefixed v.radix v.bytes v.start v.position (v.position + n) s.after_start o.before_end (omega arith) s.within (λ k l h. belongs_some v.format v.is_prefixed v.radix v.bytes v.start k (all k l h));
        digits = omega (arith, o.digits);
        at_run_start = λ _ t. absurd (false≢true (sym (no_separator v.format v.bytes (v.position + n) contiguous) ∙ t));
      };
      once_closed = λ t. absurd (false≢true (sym open_now ∙ t));
    }

-- a fresh cursor
pub IsSound-new : (b : List ℕ) (f : Format) (turns identity : ℕ) → IsNone (fault f) → turns ≡ 0 → IsSound (record { bytes = b; format = f; is_prefixed = false; radix = f.mantissa_radix; start = 0; position = 0; digits = 0; closed = false; turns = turns; identity = identity })
IsSound-new b f turns identity valid none =
    let fit = fits f valid in
    let stop = IsStop-end_of f false f.mantissa_radix b 0 (omega arith) in
    record {
      valid = valid;
      radix = fit.is_radix;
      separator = separator_no_digit f f.mantissa_radix b fit.separator;
      suffix_digit = suffix_no_digit f f.mantissa_radix b fit.suffix_digit;
      suffix_separator = suffix_no_separator f b fit.suffix_separator;
      effective = λ _. inl refl;
      own = λ _ _. refl;
      prefixed = refl;
      after_start = omega arith;
      within = omega arith;
      turns = omega arith;
      while_open = λ _. record { before_end = omega arith; digits = sym (ap length (digits_between_none f.mantissa_radix b 0)); at_run_start = λ h _. absurd (omega arith) };
      once_closed = λ t. absurd (false≢true t);
    }

-- behind a sign
own_radix : (v : CursorView) → IsSound v → v.start ≡ 0 → octal_zero_at v.format v.bytes 0 ≡ false → v.radix ≡ v.format.mantissa_radix
own_radix v s start other =
    elim (s.effective (s.prefixed ∙ ap starts_behind_prefix start)) [
      | inl e ↦ e
      | inr e ↦ e ∙ ap (bare_radix v.format v.bytes) start ∙ bare_own v.format v.bytes 0 other
    ]

pub IsSound-sign : (v : CursorView) → IsSound v → v.position ≡ 0 → 0 < length v.bytes → octal_zero_at v.format v.bytes 0 ≡ false → IsSound (record v { is_prefixed = false; start = 1; position = 1 })
IsSound-sign v s front some other =
    let start : v.start ≡ 0 = omega (arith, s.after_start) in
    elim (true_or_false v.closed) [
      | inl t ↦ absurd (omega (arith, (s.once_closed t).behind_end))
      | inr open_now ↦
          let o = s.while_open open_now in
          let none : v.digits ≡ 0 = omega (arith, o.digits, length-digits_between v.radix v.bytes v.start v.position) in
          let stop = IsStop-end_of v.format false v.radix v.bytes 1 (omega arith) in
          record {
            valid = s.valid;
            radix = s.radix;
            separator = s.separator;
            suffix_digit = s.suffix_digit;
            suffix_separator = s.suffix_separator;
            effective = λ _. inl (own_radix v s start other);
            own = s.own;
            prefixed = refl;
            after_start = omega arith;
            within = omega arith;
            turns = s.turns;
            while_open = λ _. record { before_end = stop.low; digits = none ∙ sym (ap length (digits_between_none v.radix v.bytes 1)); at_run_start = λ h _. absurd (omega arith) };
            once_closed = λ t. absurd (false≢true (sym open_now ∙ t));
          }
    ]

pub none_from_IsNone : (o : Option ℕ) → IsNone o → o ≡ None
none_from_IsNone None h = refl
none_from_IsNone (Some x) h = absurd (false≢true (sym h))

-- the count of a word fits
pub word_fits : (v : CursorView) (n : ℕ) → IsSound v → v.closed ≡ false → 0 < n → ((k : ℕ) → v.position ≤ k → k < v.position + n → is_some (digit_at v.radix v.bytes k) ≡ true) → v.digits + n ≤ length v.bytes
word_fits v n s open_now some all =
    let last : v.position + n - 1 < length v.bytes = some_within v.radix v.bytes (v.position + n - 1) (all (v.position + n - 1) (omega arith) (omega arith)) in
    omega (arith, digits_bound v s open_now)

affix_within : (sensitive : Bool) (affix : Option ℕ) (b : List ℕ) (k : ℕ) → is_affix sensitive affix (slice_get b k) ≡ true → k < length b
affix_within sensitive affix b k t =
    elim (cases_lt k (length b)) [
      | inl lt ↦ lt
      | inr ge ↦ let e = slice_get_past b k ge in let t' = rw e at t in absurd (by_affix sensitive affix None (λ c. c ≡ None → ⊥) (λ m x _ _ h. (cc)) t' refl)
    ]

pub suffix_at_within : (f : Format) (b : List ℕ) (k : ℕ) → suffix_at f b k ≡ true → k < length b
unfolding suffix_at
suffix_at_within f b k t = affix_within f.case_sensitive_base_suffix f.base_suffix b k t

letter_within : (sensitive : Bool) (b : List ℕ) (k r : ℕ) → literal_radix sensitive (slice_get b k) ≡ Some r → k < length b
unfolding literal_radix
letter_within sensitive b k r e = by_letter (is_affix sensitive (Some 120) (slice_get b k)) (is_affix sensitive (Some 111) (slice_get b k)) (is_affix sensitive (Some 98) (slice_get b k)) refl refl refl e
  where
    by_letter : (x o c : Bool) → is_affix sensitive (Some 120) (slice_get b k) ≡ x → is_affix sensitive (Some 111) (slice_get b k) ≡ o → is_affix sensitive (Some 98) (slice_get b k) ≡ c
        → cond x (Some 16) (cond o (Some 8) (cond c (Some 2) None)) ≡ Some r → k < length b
    by_letter true o c t u v h = affix_within sensitive (Some 120) b k t
    by_letter false true c t u v h = affix_within sensitive (Some 111) b k u
    by_letter false false true t u v h = affix_within sensitive (Some 98) b k v
    by_letter false false false t u v h = cc

named_within : (f : Format) (b : List ℕ) (k r : ℕ) → named_radix f (slice_get b k) ≡ Some r → k < length b
unfolding named_radix
named_within f b k r e = by_own (is_affix f.case_sensitive_base_prefix f.base_prefix (slice_get b k)) f.literal_prefixes refl e
  where
    by_own : (own asked : Bool) → is_affix f.case_sensitive_base_prefix f.base_prefix (slice_get b k) ≡ own
        → cond own (Some f.mantissa_radix) (cond asked (literal_radix f.case_sensitive_base_prefix (slice_get b k)) None) ≡ Some r → k < length b
    by_own true asked t h = affix_within f.case_sensitive_base_prefix f.base_prefix b k t
    by_own false true t h = letter_within f.case_sensitive_base_prefix b k r h
    by_own false false t h = cc

pub prefix_within : (f : Format) (b : List ℕ) (k r : ℕ) → prefix_radix f b k ≡ Some r → k + 1 < length b
unfolding prefix_radix
prefix_within f b k r e = by_zero (are_same (Some 48) (slice_get b k)) e
  where
    by_zero : (zero : Bool) → cond zero (named_radix f (slice_get b (k + 1))) None ≡ Some r → k + 1 < length b
    by_zero true h = named_within f b (k + 1) r h
    by_zero false h = cc

-- without literal prefixes, a prefix leaves the format's radix
pub prefix_own : (f : Format) (b : List ℕ) (k r : ℕ) → f.literal_prefixes ≡ false → prefix_radix f b k ≡ Some r → r ≡ f.mantissa_radix
unfolding prefix_radix named_radix
prefix_own f b k r off e = by_zero (are_same (Some 48) (slice_get b k)) (is_affix f.case_sensitive_base_prefix f.base_prefix (slice_get b (k + 1))) f.literal_prefixes off e
  where
    by_zero : (zero own asked : Bool) → asked ≡ false
        → cond zero (cond own (Some f.mantissa_radix) (cond asked (literal_radix f.case_sensitive_base_prefix (slice_get b (k + 1))) None)) None ≡ Some r → r ≡ f.mantissa_radix
    by_zero true true asked t h = cc
    by_zero true false true t h = absurd (false≢true (sym t))
    by_zero true false false t h = cc
    by_zero false own asked t h = cc

octal_off : (f : Format) (b : List ℕ) (k : ℕ) → f.literal_octal_zero ≡ false → octal_zero_at f b k ≡ true → ⊥
unfolding octal_zero_at
octal_off f b k off here = false≢true (rw off at here)

-- behind a prefix
pub IsSound-prefix : (v : CursorView) (r : ℕ) → IsSound v → v.digits ≡ 0 → prefix_radix v.format v.bytes v.position ≡ Some r → IsSound (record v { is_prefixed = true; radix = r; start = v.position + 2; position = v.position + 2 })
IsSound-prefix v r s none here =
    let inside = prefix_within v.format v.bytes v.position r here in
    let fit = fits_prefix v.format v.bytes v.position r s.valid here in
    let stop = IsStop-end_of v.format true r v.bytes (v.position + 2) (omega arith) in
    record {
      valid = s.valid;
      radix = fit.is_radix;
      separator = separator_no_digit v.format r v.bytes fit.separator;
      suffix_digit = suffix_no_digit v.format r v.bytes fit.suffix_digit;
      suffix_separator = s.suffix_separator;
      effective = λ h. absurd (false≢true (sym h));
      own = λ off _. prefix_own v.format v.bytes v.position r off here;
      prefixed = let two : nat_le 2 (v.position + 2) ≡ true = grind (arith, nat_tests) in sym two;
      after_start = omega arith;
      within = omega arith;
      turns = s.turns;
      while_open = λ _. record { before_end = stop.low; digits = none ∙ sym (ap length (digits_between_none r v.bytes (v.position + 2))); at_run_start = λ h _. absurd (omega arith) };
      once_closed = λ t. absurd (omega (arith, (s.once_closed t).some_digit));
    }

-- at an octal zero
pub IsSound-octal : (v : CursorView) → IsSound v → v.position ≡ v.start → v.digits ≡ 0 → octal_zero_at v.format v.bytes v.position ≡ true → IsSound (record v { radix = 8 })
IsSound-octal v s at none here =
    let fit = fits_octal v.format v.bytes v.position s.valid here in
    let stop = IsStop-end_of v.format v.is_prefixed 8 v.bytes v.start (omega (arith, at, s.within)) in
    let there : octal_zero_at v.format v.bytes v.start ≡ true = ap (octal_zero_at v.format v.bytes) (sym at) ∙ here in
    record {
      valid = s.valid;
      radix = fit.is_radix;
      separator = separator_no_digit v.format 8 v.bytes fit.separator;
      suffix_digit = suffix_no_digit v.format 8 v.bytes fit.suffix_digit;
      suffix_separator = s.suffix_separator;
      effective = λ _. inr (sym (bare_octal v.format v.bytes v.start there));
      own = λ _ off. absurd (octal_off v.format v.bytes v.position off here);
      prefixed = s.prefixed;
      after_start = s.after_start;
      within = s.within;
      turns = s.turns;
      while_open = λ _. record {
        before_end = omega (arith, at, stop.low);
        digits = none ∙ sym (ap (λ p. length (digits_between 8 v.bytes v.start p)) at ∙ ap length (digits_between_none 8 v.bytes v.start));
        at_run_start = λ h _. absurd (omega arith);
      };
      once_closed = λ t. absurd (omega (arith, (s.once_closed t).some_digit));
    }

-- a suffix stands at no place of the numeral
pub suffix_at_end : (v : CursorView) → IsSound v → v.closed ≡ false → suffix_at v.format v.bytes v.position ≡ true → v.position ≡ numeral_end v
suffix_at_end v s open_now here =
    let o = s.while_open open_now in
    is_end v.format v.is_prefixed v.radix v.bytes v.start v.position v.position s.after_start o.before_end (omega arith) s.within
    (λ k l h. absurd (omega arith))
    (λ h. belongs_other v.format v.is_prefixed v.radix v.bytes v.start v.position (s.suffix_separator v.position here) (s.suffix_digit v.position here))

stop_behind : (f : Format) (pre : Bool) (r : ℕ) (b : List ℕ) (j : ℕ) → 0 < length (places f pre r b j) → suffix_at f b (end_of f pre r b j) ≡ true → numeral_stop f pre r b j ≡ end_of f pre r b j + 1
unfolding numeral_stop
stop_behind f pre r b j some here = let t : ltb 0 (length (places f pre r b j)) ≡ true = grind (arith, nat_tests) in rw (t, here) refl

-- behind a suffix
pub IsSound-suffix : (v : CursorView) → IsSound v → v.closed ≡ false → 0 < v.digits → suffix_at v.format v.bytes v.position ≡ true → IsSound (record v { position = v.position + 1; closed = true })
IsSound-suffix v s open_now some suffix =
    let o = s.while_open open_now in
    let at_end = suffix_at_end v s open_now suffix in
    let all = rw at_end at o.digits in
    let there = rw at_end at suffix in
    record {
      valid = s.valid;
      radix = s.radix;
      separator = s.separator;
      suffix_digit = s.suffix_digit;
      suffix_separator = s.suffix_separator;
      effective = s.effective;
      own = s.own;
      prefixed = s.prefixed;
      after_start = omega (arith, s.after_start);
      within = omega (arith, suffix_at_within v.format v.bytes v.position suffix);
      turns = s.turns;
      while_open = λ t. absurd (false≢true (sym t));
      once_closed = λ _. record {
        behind_end = omega arith;
        digits = all;
        some_digit = some;
        at_stop = ap (λ n. n + 1) at_end ∙ sym (stop_behind v.format v.is_prefixed v.radix v.bytes v.start (omega arith) there);
      };
    }

stop_no_digit : (f : Format) (pre : Bool) (r : ℕ) (b : List ℕ) (j : ℕ) → length (places f pre r b j) ≡ 0 → numeral_stop f pre r b j ≡ end_of f pre r b j
unfolding numeral_stop
stop_no_digit f pre r b j none = let t : ltb 0 (length (places f pre r b j)) ≡ false = grind (arith, nat_tests) in rw t refl

and-false : (x : Bool) → (x && false) ≡ false
and-false true = refl
and-false false = refl

stop_other : (f : Format) (pre : Bool) (r : ℕ) (b : List ℕ) (j : ℕ) → suffix_at f b (end_of f pre r b j) ≡ false → numeral_stop f pre r b j ≡ end_of f pre r b j
unfolding numeral_stop
stop_other f pre r b j other = rw (other, and-false) refl

-- the stop of the numeral in the cursor's region
abbrev pub view_stop : CursorView → ℕ
view_stop v = numeral_stop v.format v.is_prefixed v.radix v.bytes v.start

pub at_stop_behind : (v : CursorView) → IsSound v → v.closed ≡ false → 0 < v.digits → suffix_at v.format v.bytes v.position ≡ true → v.position ≡ numeral_end v → v.position + 1 ≡ view_stop v
at_stop_behind v s open_now some suffix at_end =
    let o = s.while_open open_now in
    let all = rw at_end at o.digits in
    let there = rw at_end at suffix in
    ap (λ n. n + 1) at_end ∙ sym (stop_behind v.format v.is_prefixed v.radix v.bytes v.start (omega arith) there)

at_stop_no_digit : (v : CursorView) → IsSound v → v.closed ≡ false → v.digits ≡ 0 → v.position ≡ numeral_end v → v.position ≡ view_stop v
at_stop_no_digit v s open_now none at_end =
    let o = s.while_open open_now in
    let all = rw at_end at o.digits in
    at_end ∙ sym (stop_no_digit v.format v.is_prefixed v.radix v.bytes v.start (sym all ∙ none))

at_stop_other : (v : CursorView) → suffix_at v.format v.bytes v.position ≡ false → v.position ≡ numeral_end v → v.position ≡ view_stop v
at_stop_other v other at_end =
    let there = rw at_end at other in
    at_end ∙ sym (stop_other v.format v.is_prefixed v.radix v.bytes v.start there)

-- where the suffix may be read, a digit was read and the suffix stands there
pub may_close : (v : CursorView) → closes v ≡ true → (0 < v.digits) × (suffix_at v.format v.bytes v.position ≡ true)
may_close v here = by_tests (nat_lt 0 v.digits) (suffix_at v.format v.bytes v.position) refl refl here
  where
    by_tests : (some suffix : Bool) → nat_lt 0 v.digits ≡ some → suffix_at v.format v.bytes v.position ≡ suffix → (some && suffix) ≡ true → (0 < v.digits) × (suffix_at v.format v.bytes v.position ≡ true)
    by_tests true true a b h = (ltb-true 0 v.digits a, b)
    by_tests true false a b h = cc
    by_tests false suffix a b h = cc

-- where it may not, the end is where reading stops
pub at_stop_open : (v : CursorView) → IsSound v → v.closed ≡ false → closes v ≡ false → v.position ≡ numeral_end v → v.position ≡ view_stop v
at_stop_open v s open_now here at_end = by_tests (nat_lt 0 v.digits) (suffix_at v.format v.bytes v.position) refl refl here
  where
    by_tests : (some suffix : Bool) → nat_lt 0 v.digits ≡ some → suffix_at v.format v.bytes v.position ≡ suffix → (some && suffix) ≡ false → v.position ≡ view_stop v
    by_tests false suffix a b h = let none = ltb-false 0 v.digits a in at_stop_no_digit v s open_now (omega arith) at_end
    by_tests true false a b h = at_stop_other v b at_end
    by_tests true true a b h = cc
