-- What stands behind a byte that is no part of a number counts for nothing.
use Rattle.std.proofs.Common.{◌≡◌, ℕ, zero, suc, ◌+◌, ◌-◌, ◌<◌, ◌≤◌, Bool, true, false, ◌&&◌, ◌||◌, cond, List, [], ◌∷◌, ◌++◌, length, filter, map, not, Option, Some, None, IsNone, IsSome, is_some, Ok, Err, Result, refl, sym, ap, ◌∙◌, arith, inl, inr, length-append}
use Rattle.std.proofs.Math.IntN.{ℤ}
use Rattle.std.proofs.Math.Bool.{and-false}
use Rattle.std.proofs.lemmas.Bool.{and_parts, cases_lt, false≢true, ne_eqb}
use Rattle.std.proofs.lemmas.Bool.Decides.{nat_tests}
use Rattle.std.proofs.lemmas.Option.{slice_get_past}
use Rattle.std.specs.List.{range_with_len}
use Rattle.std.specs.Option.{option_map, unwrap_or}
use Rattle.std.specs.Prelude.{◌==◌, ◌≢◌, find, nat_le, nat_lt, slice_get, slice_index}
use Rattle.lexical_util.specs.declared.error.Error.{Error}
use Rattle.lexical_util.specs.declared.error.Error.TheVariants.{Empty, InvalidLeadingZeros, MissingSign}
use Rattle.lexical_util.specs.Digit.{digit}
use Rattle.lexical_util.specs.Format.{Format}
use Rattle.lexical_util.specs.Number.{IntegerType, is_number}
use Rattle.lexical_util.specs.Validity.{fault}
use Rattle.lexical_util.proofs.Valid.{digit_below}
use Rattle.lexical_parse_integer.specs.Affixes.{bare_radix, is_affix, named_radix, numeral_stop, octal_zero_at, prefix_radix, suffix_at}
use Rattle.lexical_parse_integer.specs.Fronts.{has_digit, has_digit_behind, if_digit, number_in_front}
use Rattle.lexical_parse_integer.specs.Grammar.{common_faults, digits_required, fault_if, first_fault_or, first_outside, lacks_digits, partial, partial_faults, range_error, range_fault, zero_fault}
use Rattle.lexical_parse_integer.specs.Head.{Head, chooses_radix, head_after, head_behind, head_of, no_sign, sign, sign_by}
use Rattle.lexical_parse_integer.specs.Numeral.{Numeral, digit_count, front_value, numeral_in, numeral_value}
use Rattle.lexical_parse_integer.specs.Runs.{are_same, digit_at, digits_between, end_of, is_in_numeral, places, separator_at}
use Rattle.lexical_parse_integer.proofs.ForCallers.{IsFit, IsStop-end_of, belongs_other, true_or_false}
use Rattle.lexical_laws.specs.Keeping.{IsForeign}
use Rattle.lexical_laws.proofs.Bodies.{digit_at-some}
use Rattle.lexical_laws.proofs.Cuts.{ArePrefixedAlike, IsCut, head_alike, numeral_same, places_same, same_end}
use Rattle.lexical_laws.proofs.Heads.{head_split, no_prefix_radix, sign_split}
use Rattle.lexical_laws.proofs.Punctuation.{no_sign_byte, none_named}
use Rattle.lexical_laws.proofs.MadeIsRead.{no_affix}
use Rattle.lexical_laws.proofs.Parts.{get_behind, get_within}
use Rattle.lexical_laws.proofs.ReadIsMade.{head_fit, suffix_here}
use Rattle.lexical_laws.proofs.WhatIsRead.{digit_at-none, none_of, separator_at-none, separator_at-some}

-- ---- answers, by head and numeral

-- the partial answer by the head and the numeral
abbrev pub partial_by : Format → IntegerType → List ℕ → Head → Numeral → Result (ℤ × ℕ) Error
partial_by f t text h x = first_fault_or (common_faults f t text h x ++ partial_faults f text x) (numeral_value h.is_negative x, x.stop)

pub partial_is : (f : Format) (t : IntegerType) (text : List ℕ) (h : Head) → head_of f t text ≡ Ok h → partial f t text ≡ partial_by f t text h (numeral_in f h.is_prefixed h.radix text h.start)
unfolding partial
partial_is f t text h head = rw head refl

pub partial_fault : (f : Format) (t : IntegerType) (text : List ℕ) (e : Error) → head_of f t text ≡ Err e → partial f t text ≡ Err e
unfolding partial
partial_fault f t text e head = rw head refl

-- where reading stops is within the text
pub stop_within : (f : Format) (pre : Bool) (text : List ℕ) (start r : ℕ) → start ≤ length text → (start ≤ (numeral_in f pre r text start).stop) × ((numeral_in f pre r text start).stop ≤ length text)
unfolding numeral_in numeral_stop
stop_within f pre text start r low = by_tests (nat_lt 0 (length (places f pre r text start))) (suffix_at f text (end_of f pre r text start)) refl
  where
    by_tests : (a b : Bool) → suffix_at f text (end_of f pre r text start) ≡ b → (start ≤ cond (a && b) (end_of f pre r text start + 1) (end_of f pre r text start)) × (cond (a && b) (end_of f pre r text start + 1) (end_of f pre r text start) ≤ length text)
    by_tests true true e =
        let here = suffix_here f text (end_of f pre r text start) e in
        let stop = IsStop-end_of f pre r text start low in
        elim (cases_lt (end_of f pre r text start) (length text)) [
          | inl lt ↦ (omega (arith, stop.low), omega arith)
          | inr ge ↦ (let none = slice_get_past text (end_of f pre r text start) ge in let some = here.1 in absurd (cc))
        ]
    by_tests true false e = let stop = IsStop-end_of f pre r text start low in (stop.low, stop.high)
    by_tests false b e = let stop = IsStop-end_of f pre r text start low in (stop.low, stop.high)

-- where the text ends counts for the faults of missing digits alone
more_behind : (prefix lacks separated ended : Bool) (zeros range : Option Error) (size stop : ℕ) (v : ℤ × ℕ) → (ended ≡ true → stop ≡ size) →
    first_fault_or (fault_if prefix (Empty size) ∷ zeros ∷ range ∷ fault_if (lacks && (separated || ended)) (Empty stop) ∷ []) v ≢ Err (Empty size) →
    first_fault_or (None ∷ zeros ∷ range ∷ fault_if (lacks && (separated || false)) (Empty stop) ∷ []) v
    ≡ first_fault_or (fault_if prefix (Empty size) ∷ zeros ∷ range ∷ fault_if (lacks && (separated || ended)) (Empty stop) ∷ []) v
more_behind true lacks separated ended zeros range size stop v last other = absurd (other refl)
more_behind false lacks separated ended (Some e) range size stop v last other = refl
more_behind false lacks separated ended None (Some e) size stop v last other = refl
more_behind false false separated ended None None size stop v last other = refl
more_behind false true true ended None None size stop v last other = refl
more_behind false true false false None None size stop v last other = refl
more_behind false true false true None None size stop v last other = absurd (other (ap (λ k. Err (Empty k)) (last refl)))

-- nor for these, where a digit is asked for and there is a separator
asked_behind : (prefix lacks separated ended : Bool) (zeros range : Option Error) (size stop : ℕ) (v : ℤ × ℕ) → separated ≡ true →
    (prefix ≡ true → (zeros ≡ None) × (range ≡ None) × (lacks ≡ true) × (stop ≡ size)) →
    first_fault_or (None ∷ zeros ∷ range ∷ fault_if (lacks && (separated || false)) (Empty stop) ∷ []) v
    ≡ first_fault_or (fault_if prefix (Empty size) ∷ zeros ∷ range ∷ fault_if (lacks && (separated || ended)) (Empty stop) ∷ []) v
asked_behind false lacks true ended zeros range size stop v on none = refl
asked_behind prefix lacks false ended zeros range size stop v on none = absurd (false≢true on)
asked_behind true lacks true ended zeros range size stop v on none = let w = none refl in let zero = w.0 in let out = w.1 in let lack = w.2 in rw (zero, out, lack) (ap (λ k. Err (Empty k)) w.3)

-- a numeral without digits has neither of these faults
no_zero_fault : (f : Format) (m : Bool) (x : Numeral) → x.digits ≡ [] → zero_fault f m x ≡ None
no_zero_fault f m x none =
    ap (λ ds. fault_if (((f.no_integer_leading_zeros && not m) && nat_le 2 (length ds)) && (slice_index ds 0 == 0)) (InvalidLeadingZeros (slice_index x.places 0))) none
    ∙ rw (and-false (f.no_integer_leading_zeros && not m)) refl

no_range_fault : (t : IntegerType) (m : Bool) (x : Numeral) → x.digits ≡ [] → range_fault t m x ≡ None
unfolding range_fault
no_range_fault t m x none =
    ap (λ ds. option_map (λ index. range_error m (slice_index x.places index)) (find (λ index. not (is_number t (front_value m x (index + 1)))) (range_with_len 0 (length ds)))) none

-- ---- the text and a longer one

module _ (f : Format) (t : IntegerType) (text rest : List ℕ) (byte : ℕ) (valid : IsNone (fault f)) (other : IsForeign f byte) where
  abbrev longer : List ℕ
  longer = text ++ byte ∷ rest

  size : length longer ≡ length text + suc (length rest)
  size = length-append text (byte ∷ rest)

  within : (k : ℕ) → k < length text → slice_get longer k ≡ slice_get text k
  within k l = get_within text (byte ∷ rest) k l

  next : slice_get longer (length text) ≡ Some byte
  next = let e : length text + 0 ≡ length text = omega arith in ap (slice_get longer) (sym e) ∙ get_behind text (byte ∷ rest) 0

  ended : slice_get text (length text) ≡ None
  ended = slice_get_past text (length text) (omega arith)

  no_zero : are_same (Some 48) (Some byte) ≡ false
  unfolding are_same
  no_zero = elim (true_or_false (byte == 48)) [
    | inl on ↦ (let is : byte ≡ 48 = grind (arith, nat_tests) in let none : digit 36 byte ≡ None = other.digit in absurd (let none' = rw is at none in cc))
    | inr off ↦ off
  ]

  no_byte : are_same (Some 48) None ≡ false
  unfolding are_same
  no_byte = refl

  -- ---- the head

  same_sign : sign f t longer ≡ sign f t text
  unfolding sign
  same_sign = by_text text
    where
      by_text : (xs : List ℕ) → sign_by f t (slice_get (xs ++ byte ∷ rest) 0) ≡ sign_by f t (slice_get xs 0)
      by_text [] =
          let plus : (byte == 43) ≡ false = ne_eqb byte 43 other.plus in
          let minus : (byte == 45) ≡ false = ne_eqb byte 45 other.minus in
          rw (plus, minus) refl
      by_text (c ∷ cs) = refl

  prefixed : (k : ℕ) → k ≤ length text → ArePrefixedAlike f longer text k
  prefixed k low = elim (cases_lt k (length text)) [
    | inl lt ↦ record {
      zero = ap (are_same (Some 48)) (within k lt);
      letter = λ on. next_named (k + 1) (omega arith);
    }
    | inr ge ↦
        let e : k ≡ length text = omega arith in
        let none : are_same (Some 48) (slice_get text k) ≡ false = ap (λ j. are_same (Some 48) (slice_get text j)) e ∙ ap (are_same (Some 48)) ended ∙ no_byte in
        record {
          zero = ap (λ j. are_same (Some 48) (slice_get longer j)) e ∙ ap (are_same (Some 48)) next ∙ no_zero ∙ sym none;
          letter = λ on. absurd (false≢true (sym none ∙ on));
        }
  ]
    where
      next_named : (j : ℕ) → j ≤ length text → named_radix f (slice_get longer j) ≡ named_radix f (slice_get text j)
      next_named j low = elim (cases_lt j (length text)) [
        | inl lt ↦ ap (named_radix f) (within j lt)
        | inr ge ↦
            let e : j ≡ length text = omega arith in
            ap (λ i. named_radix f (slice_get longer i)) e ∙ ap (named_radix f) next ∙ other.prefix
            ∙ sym (ap (λ i. named_radix f (slice_get text i)) e ∙ ap (named_radix f) ended ∙ none_named f)
      ]

  same_head : head_of f t longer ≡ head_of f t text
  same_head = head_alike f t longer text same_sign (λ s is. prefixed s.1 (let w = sign_split f t text s is in omega (arith, ap length w.parts, length-append w.front w.rest, w.size)))

  -- ---- the numeral

  module _ (h : Head) (head : head_of f t text ≡ Ok h) where
    start_low : h.start ≤ length text
    start_low =
        let w = head_split f t text h head in
        omega (arith, ap length w.parts, length-append w.front (w.prefix ++ w.more), length-append w.prefix w.more, w.start)

    fit : IsFit f h.radix
    fit = let w = head_split f t text h head in head_fit f w.prefix w.more h valid w.prefixed

    no_digit : digit h.radix byte ≡ None
    no_digit = digit_below 36 h.radix byte (fit.is_radix.high) other.digit

    separator_off : separator_at f longer (length text) ≡ false
    separator_off = separator_at-some f longer (length text) byte next ∙ other.separator

    digit_off : digit_at h.radix longer (length text) ≡ None
    digit_off = digit_at-some h.radix longer (length text) byte next ∙ no_digit

    cut_longer : IsCut f h.is_prefixed h.radix longer h.start (length text)
    cut_longer = record {
      within = omega (arith, size);
      digit = digit_off;
      run = λ _ _. separator_off;
      over = belongs_other f h.is_prefixed h.radix longer h.start (length text) separator_off digit_off;
    }

    cut_text : IsCut f h.is_prefixed h.radix text h.start (length text)
    cut_text = record {
      within = omega arith;
      digit = digit_at-none h.radix text (length text) ended;
      run = λ _ _. separator_at-none f text (length text) ended;
      over = belongs_other f h.is_prefixed h.radix text h.start (length text) (separator_at-none f text (length text) ended) (digit_at-none h.radix text (length text) ended);
    }

    same_suffix : (k : ℕ) → k ≤ length text → suffix_at f longer k ≡ suffix_at f text k
    unfolding suffix_at
    same_suffix k low = elim (cases_lt k (length text)) [
      | inl lt ↦ ap (is_affix f.case_sensitive_base_suffix f.base_suffix) (within k lt)
      | inr ge ↦
          let e : k ≡ length text = omega arith in
          ap (λ j. is_affix f.case_sensitive_base_suffix f.base_suffix (slice_get longer j)) e ∙ ap (is_affix f.case_sensitive_base_suffix f.base_suffix) next ∙ other.suffix
          ∙ sym (ap (λ j. is_affix f.case_sensitive_base_suffix f.base_suffix (slice_get text j)) e ∙ ap (is_affix f.case_sensitive_base_suffix f.base_suffix) ended ∙ no_affix f.case_sensitive_base_suffix f.base_suffix)
    ]

    same_numeral : numeral_in f h.is_prefixed h.radix longer h.start ≡ numeral_in f h.is_prefixed h.radix text h.start
    same_numeral =
        let end = same_end f h.is_prefixed h.radix longer text h.start (length text) cut_longer cut_text within start_low in
        let spots = places_same f h.is_prefixed h.radix longer text h.start (length text) cut_longer cut_text within start_low in
        let stop = IsStop-end_of f h.is_prefixed h.radix text h.start start_low in
        numeral_same f h.is_prefixed h.radix longer text h.start (length text) cut_longer cut_text within start_low
        (ap (λ ps. nat_lt 0 (length ps) && suffix_at f longer (end_of f h.is_prefixed h.radix longer h.start)) spots
        ∙ ap (λ e. nat_lt 0 (length (places f h.is_prefixed h.radix text h.start)) && suffix_at f longer e) end
        ∙ ap (λ b. nat_lt 0 (length (places f h.is_prefixed h.radix text h.start)) && b) (same_suffix (end_of f h.is_prefixed h.radix text h.start) stop.high))

    -- ---- the answer

    abbrev x : Numeral
    x = numeral_in f h.is_prefixed h.radix text h.start

    -- the longer text's answer: none of its faults is one of the end
    longer_is : partial f t longer
        ≡ first_fault_or (None ∷ zero_fault f (chooses_radix h) x ∷ range_fault t h.is_negative x ∷ fault_if (lacks_digits f x && (is_some f.digit_separator || false)) (Empty x.stop) ∷ []) (numeral_value h.is_negative x, x.stop)
    longer_is =
        let stop = stop_within f h.is_prefixed text h.start h.radix start_low in
        let start_off : (h.start == length longer) ≡ false = ne_eqb h.start (length longer) (λ e. omega (arith, size, start_low)) in
        let stop_off : (x.stop == length longer) ≡ false = ne_eqb x.stop (length longer) (λ e. omega (arith, size, stop.1)) in
        partial_is f t longer h (same_head ∙ head) ∙ ap (partial_by f t longer h) same_numeral ∙ rw (start_off, stop_off, and-false h.is_prefixed) refl

    read_alike : partial f t text ≢ Err (Empty (length text)) → partial f t longer ≡ partial f t text
    read_alike other' =
        let whole = partial_is f t text h head in
        longer_is
        ∙ more_behind (h.is_prefixed && (h.start == length text)) (lacks_digits f x) (is_some f.digit_separator) (x.stop == length text) (zero_fault f (chooses_radix h) x) (range_fault t h.is_negative x) (length text) x.stop (numeral_value h.is_negative x, x.stop)
        (λ on. (grind (arith, nat_tests))) (λ e. other' (whole ∙ e))
        ∙ sym whole

    no_digits : h.start ≡ length text → x.digits ≡ []
    unfolding numeral_in digits_between
    no_digits at_end =
        let stop = IsStop-end_of f h.is_prefixed h.radix text h.start start_low in
        let none : end_of f h.is_prefixed h.radix text h.start - h.start ≡ 0 = omega (arith, stop.high) in
        ap (λ n. map (λ place. unwrap_or (digit_at h.radix text place) 0) (filter (λ place. is_some (digit_at h.radix text place)) (range_with_len h.start n))) none

    asked_alike : digits_required f ≡ true → is_some f.digit_separator ≡ true → partial f t longer ≡ partial f t text
    asked_alike asked separated =
        longer_is
        ∙ asked_behind (h.is_prefixed && (h.start == length text)) (lacks_digits f x) (is_some f.digit_separator) (x.stop == length text) (zero_fault f (chooses_radix h) x) (range_fault t h.is_negative x) (length text) x.stop (numeral_value h.is_negative x, x.stop) separated
        (λ on.
        let both = and_parts h.is_prefixed (h.start == length text) on in
        let at_end : h.start ≡ length text = (let test = both.1 in grind (arith, nat_tests)) in
        let none = no_digits at_end in
        let stop = stop_within f h.is_prefixed text h.start h.radix start_low in (
          no_zero_fault f (chooses_radix h) x none,
          no_range_fault t h.is_negative x none,
          ap (λ ds. digits_required f && (length ds == 0)) none ∙ rw asked refl,
          omega (arith, stop.0, stop.1),
        ))
        ∙ sym (partial_is f t text h head)

  pub asked_is_same : digits_required f ≡ true → is_some f.digit_separator ≡ true → partial f t longer ≡ partial f t text
  asked_is_same asked separated = by_head (head_of f t text) refl
    where
      by_head : (r : Result Head Error) → head_of f t text ≡ r → partial f t longer ≡ partial f t text
      by_head (Err e) is = partial_fault f t longer e (same_head ∙ is) ∙ sym (partial_fault f t text e is)
      by_head (Ok h) is = asked_alike h is asked separated

  pub read_is_same : partial f t text ≢ Err (Empty (length text)) → partial f t longer ≡ partial f t text
  read_is_same other' = by_head (head_of f t text) refl
    where
      by_head : (r : Result Head Error) → head_of f t text ≡ r → partial f t longer ≡ partial f t text
      by_head (Err e) is = partial_fault f t longer e (same_head ∙ is) ∙ sym (partial_fault f t text e is)
      by_head (Ok h) is = read_alike h is other'

  -- a digit is read in both, or in none
  same_digit : has_digit f t longer ≡ has_digit f t text
  same_digit = by_head (head_of f t text) refl
    where
      by_head : (r : Result Head Error) → head_of f t text ≡ r → has_digit f t longer ≡ has_digit f t text
      by_head (Err e) is = ap (has_digit_behind f longer) (same_head ∙ is) ∙ sym (ap (has_digit_behind f text) is)
      by_head (Ok h) is =
          ap (has_digit_behind f longer) (same_head ∙ is) ∙ ap (λ x. nat_lt 0 (digit_count x)) (same_numeral h is)
          ∙ sym (ap (has_digit_behind f text) is)

  pub number_is_same : partial f t text ≢ Err (Empty (length text)) → number_in_front f t longer ≡ number_in_front f t text
  number_is_same other' =
      ap (λ b. if_digit b (partial f t longer)) same_digit ∙ ap (if_digit (has_digit f t text)) (read_is_same other')

-- ---- texts that begin with a digit

not_empty : (zeros m : Bool) (outside : Option ℕ) (at : ℕ → ℕ) (place size : ℕ) (v : ℤ × ℕ) →
    first_fault_or (None ∷ fault_if zeros (InvalidLeadingZeros place) ∷ option_map (λ k. range_error m (at k)) outside ∷ None ∷ []) v ≢ Err (Empty size)
not_empty true m outside at place size v e = cc
not_empty false true (Some k) at place size v e = cc
not_empty false false (Some k) at place size v e = cc
not_empty false m None at place size v e = cc

-- the first digit is one in the effective radix
digit_in_force : (f : Format) (c : ℕ) (cs : List ℕ) → is_some (digit f.mantissa_radix c) ≡ true → is_some (digit (bare_radix f (c ∷ cs) 0) c) ≡ true
unfolding octal_zero_at are_same
digit_in_force f c cs first = by_zero (f.literal_octal_zero && (c == 48)) refl
  where
    by_zero : (b : Bool) → (f.literal_octal_zero && (c == 48)) ≡ b → is_some (digit (cond b 8 f.mantissa_radix) c) ≡ true
    by_zero false e = first
    by_zero true e =
        let both = and_parts f.literal_octal_zero (c == 48) e in
        let is : c ≡ 48 = (let test = both.1 in grind (arith, nat_tests)) in
        ap (λ b. is_some (digit 8 b)) is

first_belongs : (f : Format) (pre : Bool) (r c : ℕ) (cs : List ℕ) → is_some (digit r c) ≡ true → is_in_numeral f pre r (c ∷ cs) 0 0 ≡ true
unfolding is_in_numeral digit_at
first_belongs f pre r c cs first = rw first refl

-- so the numeral has one
some_digit : (f : Format) (pre : Bool) (r c : ℕ) (cs : List ℕ) → is_some (digit r c) ≡ true → (digit_count (numeral_in f pre r (c ∷ cs) 0) == 0) ≡ false
unfolding numeral_in digits_between digit_at
some_digit f pre r c cs first = by_end (end_of f pre r (c ∷ cs) 0) refl
  where
    here : is_in_numeral f pre r (c ∷ cs) 0 0 ≡ true
    here = first_belongs f pre r c cs first

    by_end : (n : ℕ) → end_of f pre r (c ∷ cs) 0 ≡ n → (length (map (λ place. unwrap_or (digit_at r (c ∷ cs) place) 0) (filter (λ place. is_some (digit_at r (c ∷ cs) place)) (range_with_len 0 (n - 0)))) == 0) ≡ false
    by_end zero e =
        let stop = IsStop-end_of f pre r (c ∷ cs) 0 (omega arith) in
        let off = stop.fails (omega (arith, e)) in
        absurd (false≢true (sym off ∙ ap (is_in_numeral f pre r (c ∷ cs) 0) e ∙ here))
    by_end (suc n) e = let size : suc n - 0 ≡ suc n = omega arith in rw size (rw first (ne_eqb (suc _) 0 (λ e. omega arith)))

-- no byte names a radix
pub unprefixed : (f : Format) (c : ℕ) → f.base_prefix ≡ None → f.literal_prefixes ≡ false → named_radix f (Some c) ≡ None
unfolding named_radix is_affix
unprefixed f c none unasked = rw (none, unasked) refl

-- what can be wrong with a numeral that has a digit
faults_are : (f : Format) (t : IntegerType) (text : List ℕ) (h : Head) (x : Numeral) → (h.start == length text) ≡ false → (digit_count x == 0) ≡ false →
    partial_by f t text h x ≡ first_fault_or (None ∷ fault_if (((f.no_integer_leading_zeros && not (chooses_radix h)) && nat_le 2 (digit_count x)) && (slice_index x.digits 0 == 0)) (InvalidLeadingZeros (slice_index x.places 0))
    ∷ option_map (λ k. range_error h.is_negative (slice_index x.places k)) (first_outside t h.is_negative x) ∷ None ∷ []) (numeral_value h.is_negative x, x.stop)
unfolding range_fault
faults_are f t text h x start some = rw (start, some, and-false h.is_prefixed, and-false (digits_required f)) refl

pub digit_read : (f : Format) (t : IntegerType) (c : ℕ) (cs : List ℕ) → IsNone (fault f) → is_some (digit f.mantissa_radix c) ≡ true → f.base_prefix ≡ None → f.literal_prefixes ≡ false → partial f t (c ∷ cs) ≢ Err (Empty (length (c ∷ cs)))
unfolding head_of sign
digit_read f t c cs valid first none unasked = by_flag f.required_mantissa_sign refl
  where
    unsigned : sign f t (c ∷ cs) ≡ no_sign f
    unsigned =
        let apart = no_sign_byte f f.mantissa_radix c (none_of (fault f) valid) (inr first) in
        let plus : (c == 43) ≡ false = ne_eqb c 43 apart.0 in
        let minus : (c == 45) ≡ false = ne_eqb c 45 apart.1 in
        rw (plus, minus) refl

    by_flag : (b : Bool) → f.required_mantissa_sign ≡ b → partial f t (c ∷ cs) ≢ Err (Empty (length (c ∷ cs)))
    by_flag true on e =
        let sign_is : sign f t (c ∷ cs) ≡ Err (MissingSign 0) = unsigned ∙ ap (λ b. cond b (Err (MissingSign 0)) (Ok (false, 0))) on in
        let faulty = partial_fault f t (c ∷ cs) (MissingSign 0) (ap (head_after f (c ∷ cs)) sign_is) in
        let both = sym faulty ∙ e in cc
    by_flag false off e =
        let sign_is : sign f t (c ∷ cs) ≡ Ok (false, 0) = unsigned ∙ ap (λ b. cond b (Err (MissingSign 0)) (Ok (false, 0))) off in
        let prefix : prefix_radix f (c ∷ cs) 0 ≡ None = no_prefix_radix f (c ∷ cs) (λ b here. unprefixed f b none unasked) in
        let h : Head = head_behind f (c ∷ cs) (false, 0) None in
        let head : head_of f t (c ∷ cs) ≡ Ok h = ap (head_after f (c ∷ cs)) sign_is ∙ ap (λ p. Ok (head_behind f (c ∷ cs) (false, 0) p)) prefix in
        let x : Numeral = numeral_in f false (bare_radix f (c ∷ cs) 0) (c ∷ cs) 0 in
        let some = some_digit f false (bare_radix f (c ∷ cs) 0) c cs (digit_in_force f c cs first) in
        let answer = faults_are f t (c ∷ cs) h x (ne_eqb 0 (length (c ∷ cs)) (λ e. omega arith)) some in
        not_empty _ false (first_outside t false x) (λ k. slice_index x.places k) _ (length (c ∷ cs)) (numeral_value false x, x.stop) (sym answer ∙ sym (partial_is f t (c ∷ cs) h head) ∙ e)

-- so a longer text is read alike
pub digit_is_same : (f : Format) (t : IntegerType) (text rest : List ℕ) (byte : ℕ) → IsNone (fault f) → IsForeign f byte → IsNone f.base_prefix → f.literal_prefixes ≡ false → IsSome (digit_at f.mantissa_radix text 0) → partial f t (text ++ byte ∷ rest) ≡ partial f t text
unfolding digit_at
digit_is_same f t [] rest byte valid other bare unasked first = absurd (false≢true first)
digit_is_same f t (c ∷ cs) rest byte valid other bare unasked first =
    read_is_same f t (c ∷ cs) rest byte valid other (digit_read f t c cs valid first (no_byte_is f.base_prefix bare) unasked)
  where
    no_byte_is : (o : Option ℕ) → IsNone o → o ≡ None
    no_byte_is None h = refl
    no_byte_is (Some x) h = absurd (false≢true (sym h))
