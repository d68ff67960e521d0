-- The front that is read of a text is an integer by itself, and where there is no separator the longest one.
use Rattle.std.proofs.Common.{◌≡◌, ℕ, ◌+◌, ◌-◌, ◌<◌, ◌≤◌, Bool, true, false, ◌&&◌, cond, List, [], ◌∷◌, ◌++◌, filter, length, map, take, drop, Option, Some, None, IsNone, is_some, Ok, Err, Result, refl, sym, ap, ◌∙◌, arith, inl, inr, length-append, length-take}
use Rattle.std.proofs.Math.IntN.{ℤ}
use Rattle.std.proofs.Math.Bool.{and-false}
use Rattle.std.proofs.lemmas.Bool.{and_parts, or_parts, cases_lt, false≢true, lt-ltb, le-ltb, ltb-true, ne_eqb}
use Rattle.std.proofs.lemmas.List.{length-map, take-append-drop, take-take}
use Rattle.std.proofs.lemmas.Option.{slice_get_past}
use Rattle.std.specs.List.{range_with_len}
use Rattle.std.specs.Option.{unwrap_or}
use Rattle.std.specs.Prelude.{◌==◌, nat_lt, slice_get}
use Rattle.lexical_util.specs.declared.error.Error.{Error}
use Rattle.lexical_util.specs.Format.{Format}
use Rattle.lexical_util.specs.Number.{IntegerType}
use Rattle.lexical_util.specs.Validity.{fault}
use Rattle.lexical_parse_integer.specs.Affixes.{is_affix, named_radix, numeral_stop, prefix_radix, suffix_at}
use Rattle.lexical_parse_integer.specs.Fronts.{has_digit, has_digit_behind, if_digit, number_in_front}
use Rattle.lexical_parse_integer.specs.Grammar.{complete, digits_required, first_fault_or, partial, range_fault, zero_fault}
use Rattle.lexical_parse_integer.specs.Head.{Head, chooses_radix, head_after, head_behind, head_of, sign, sign_by}
use Rattle.lexical_parse_integer.specs.Laws.{IsLocal, SameFront, completion_of}
use Rattle.lexical_parse_integer.specs.Numeral.{Numeral, digit_count, numeral_in, numeral_value}
use Rattle.lexical_parse_integer.specs.Runs.{are_same, digit_at, digits_between, end_of, is_in_numeral, places, separator_at}
use Rattle.lexical_parse_integer.proofs.ForCallers.{IsFit, IsStop, IsStop-end_of, belongs_other, belongs_separator, complete_by, digit_at_past, separator_at_past, true_or_false}
use Rattle.lexical_laws.specs.Keeping.{IsDead, IsLongestFront}
use Rattle.lexical_laws.proofs.Cuts.{IsCut, head_alike, numeral_same, places_same, same_end}
use Rattle.lexical_laws.proofs.DeadPlaces.{inside_other, settled_dead}
use Rattle.lexical_laws.proofs.ForeignBytes.{partial_is, partial_fault}
use Rattle.lexical_laws.proofs.Heads.{head_split}
use Rattle.lexical_laws.proofs.MadeIsRead.{complete_is, integer_is_read, no_affix}
use Rattle.lexical_laws.proofs.Punctuation.{none_named}
use Rattle.lexical_laws.proofs.Parts.{get_within}
use Rattle.lexical_laws.proofs.ReadIsMade.{head_fit, read_is_integer, suffix_here}
use Rattle.lexical_laws.proofs.Runs.{run_at, run_in_numeral, run_of}
use Rattle.lexical_laws.proofs.WhatIsRead.{digit_at-none, separator_at-none, separator_no_digit, suffix_stops}

-- ---- a number in front

-- such an answer is the partial parser's, with a digit
pub front_told : (f : Format) (t : IntegerType) (text : List ℕ) (v : ℤ) (place : ℕ) → number_in_front f t text ≡ Ok (v, place) → (partial f t text ≡ Ok (v, place)) × (has_digit f t text ≡ true)
front_told f t text v place read = by_digit (has_digit f t text) (partial f t text) refl refl read
  where
    by_digit : (b : Bool) (r : Result (ℤ × ℕ) Error) → has_digit f t text ≡ b → partial f t text ≡ r → if_digit b r ≡ Ok (v, place) → (partial f t text ≡ Ok (v, place)) × (has_digit f t text ≡ true)
    by_digit true r some is told = (is ∙ told, some)
    by_digit false (Ok found) some is told = cc
    by_digit false (Err e) some is told = cc

-- ---- no longer front

module _ (f : Format) (t : IntegerType) (local : IsLocal f t) (whole : (text : List ℕ) → complete f t text ≡ completion_of (length text) (partial f t text)) where
  -- no text that goes on so is an integer
  front_is_last : (text : List ℕ) (v : ℤ) (place : ℕ) → partial f t text ≡ Ok (v, place) → place < length text → IsDead f t text place
  front_is_last text v place read low other w same =
      let inside = inside_other place text other same low in
      settled_dead f t text other place w local whole (Ok (v, place)) read (refl, low) same inside
      (λ told. (let test : nat_lt place (length other) ≡ true = lt-ltb place (length other) inside in let told' = rw test at told in cc))

-- ---- by itself

sign_alike : (f : Format) (t : IntegerType) (a b : List ℕ) → slice_get a 0 ≡ slice_get b 0 → sign f t a ≡ sign f t b
unfolding sign
sign_alike f t a b e = ap (sign_by f t) e

four_none : {A : Type 0} (a b c d : Option Error) (v w : A) → first_fault_or (a ∷ b ∷ c ∷ d ∷ []) v ≡ Ok w → (a ≡ None) × (b ≡ None) × (c ≡ None) × (v ≡ w)
four_none None None None None v w e = (refl, refl, refl, cc)
four_none (Some x) b c d v w e = cc
four_none None (Some x) c d v w e = cc
four_none None None (Some x) d v w e = cc
four_none None None None (Some x) v w e = cc

none_told : (o : Option ℕ) → is_some o ≡ false → o ≡ None
none_told None e = refl
none_told (Some x) e = absurd (false≢true (sym e))

no_digit_told : (f : Format) (pre : Bool) (r : ℕ) (text : List ℕ) (start k : ℕ) → is_in_numeral f pre r text start k ≡ false → digit_at r text k ≡ None
unfolding is_in_numeral
no_digit_told f pre r text start k off = none_told (digit_at r text k) (or_parts (is_some (digit_at r text k)) _ off).0

-- a numeral ends at a cut
end_is_cut : (f : Format) (pre : Bool) (r : ℕ) (text : List ℕ) (start : ℕ) → IsFit f r → start ≤ length text → IsCut f pre r text start (end_of f pre r text start)
end_is_cut f pre r text start fit low = record {
  within = stop.high;
  digit = no_digit_told f pre r text start e over;
  run = λ some last. elim (true_or_false (separator_at f text e)) [
    | inl on ↦
        let run = run_of f text start (e - 1) (omega arith) last in
        let first = run.3 in
        let next = run.4 in
        let reach : e < run.1 = elim (cases_lt e run.1) [
          | inl lt ↦ lt
          | inr ge ↦ (let same : run.1 ≡ e = omega arith in absurd (false≢true (sym (run.2).behind ∙ ap (separator_at f text) same ∙ on)))
        ] in
        let here = run_in_numeral f pre r text start (e - 1) (stop.holds (e - 1) (omega arith) (omega arith)) (separator_no_digit f r text fit (e - 1) last) last in
        let same = run_at f pre r text start run.0 run.1 (e - 1) run.2 run.3 run.4 in
        let there = run_at f pre r text start run.0 run.1 e run.2 (omega arith) reach in
        absurd (false≢true (sym over ∙ belongs_separator f pre r text start e on (separator_no_digit f r text fit e on) (there ∙ sym same ∙ here)))
    | inr off ↦ off
  ];
  over = over;
}
  where
    e : ℕ
    e = end_of f pre r text start

    stop : IsStop (is_in_numeral f pre r text start) start (length text) (end_of f pre r text start)
    stop = IsStop-end_of f pre r text start low

    over : is_in_numeral f pre r text start (end_of f pre r text start) ≡ false
    over = elim (cases_lt (end_of f pre r text start) (length text)) [
      | inl lt ↦ stop.fails lt
      | inr ge ↦ belongs_other f pre r text start (end_of f pre r text start) (separator_at_past f text (end_of f pre r text start) ge) (digit_at_past r text (end_of f pre r text start) ge)
    ]

some_end : (f : Format) (pre : Bool) (r : ℕ) (text : List ℕ) (start : ℕ) → start ≤ length text → nat_lt 0 (length (places f pre r text start)) ≡ true → start < end_of f pre r text start
unfolding digits_between
some_end f pre r text start low some = elim (cases_lt start (end_of f pre r text start)) [
  | inl lt ↦ lt
  | inr ge ↦
      let none : end_of f pre r text start - start ≡ 0 = omega arith in
      let off = ap (λ n. nat_lt 0 (length (filter (λ place. is_some (digit_at r text place)) (range_with_len start n)))) none in
      absurd (false≢true (sym off ∙ some))
]

-- without a fault the whole is its value
front_without_fault : (f : Format) (t : IntegerType) (text : List ℕ) (h : Head) (x : Numeral) → (h.start == length text) ≡ false → zero_fault f (chooses_radix h) x ≡ None → range_fault t h.is_negative x ≡ None → nat_lt x.stop (length text) ≡ false → (digit_count x == 0) ≡ false → complete_by f t text h x ≡ Ok (numeral_value h.is_negative x)
front_without_fault f t text h x start zeros range over some = rw (start, and-false h.is_prefixed, zeros, range, over, some, and-false (digits_required f)) refl

module _ (f : Format) (t : IntegerType) (text : List ℕ) (p : ℕ) (h : Head) (valid : IsNone (fault f)) (head : head_of f t text ≡ Ok h)
    (some : nat_lt 0 (length (places f h.is_prefixed h.radix text h.start)) ≡ true) (low : p ≤ length text) where
  abbrev front : List ℕ
  front = take p text

  abbrev end : ℕ
  end = end_of f h.is_prefixed h.radix text h.start

  size : length front ≡ p
  size = omega (arith, length-take p text)

  bytes : (k : ℕ) → k < p → slice_get front k ≡ slice_get text k
  bytes k l = sym (get_within front (drop p text) k (omega (arith, size))) ∙ ap (λ xs. slice_get xs k) (take-append-drop p text)

  start_low : h.start ≤ length text
  start_low =
      let w = head_split f t text h head in
      omega (arith, ap length w.parts, length-append w.front (w.prefix ++ w.more), length-append w.prefix w.more, w.start)

  fit : IsFit f h.radix
  fit = let w = head_split f t text h head in head_fit f w.prefix w.more h valid w.prefixed

  begins : h.start < end
  begins = some_end f h.is_prefixed h.radix text h.start start_low some

  front_cut : end ≤ p → separator_at f front end ≡ false → digit_at h.radix front end ≡ None → IsCut f h.is_prefixed h.radix front h.start end
  front_cut inside off none = record {
    within = omega (arith, size);
    digit = none;
    run = λ _ _. off;
    over = belongs_other f h.is_prefixed h.radix front h.start end off none;
  }

  -- the numeral is that of the front
  same_numeral : (b : Bool) → (nat_lt 0 (length (places f h.is_prefixed h.radix text h.start)) && suffix_at f text end) ≡ b → p ≡ cond b (end + 1) end → numeral_in f h.is_prefixed h.radix front h.start ≡ numeral_in f h.is_prefixed h.radix text h.start
  unfolding suffix_at
  same_numeral true on is =
      let here = suffix_here f text end (and_parts _ (is_affix f.case_sensitive_base_suffix f.base_suffix (slice_get text end)) on).1 in
      let byte : slice_get front end ≡ slice_get text end = bytes end (omega arith) in
      let stops = suffix_stops f h.radix front end here.0 fit (byte ∙ here.1) here.2 in
      let cut = front_cut (omega arith) stops.1 stops.0 in
      let cut' = end_is_cut f h.is_prefixed h.radix text h.start fit start_low in
      let same : (k : ℕ) → k < end → slice_get front k ≡ slice_get text k = λ k l. bytes k (omega arith) in
      numeral_same f h.is_prefixed h.radix front text h.start end cut cut' same (omega (arith, begins))
      (ap (λ ps. nat_lt 0 (length ps) && is_affix f.case_sensitive_base_suffix f.base_suffix (slice_get front (end_of f h.is_prefixed h.radix front h.start))) (places_same f h.is_prefixed h.radix front text h.start end cut cut' same (omega (arith, begins)))
      ∙ ap (λ e. nat_lt 0 (length (places f h.is_prefixed h.radix text h.start)) && is_affix f.case_sensitive_base_suffix f.base_suffix (slice_get front e)) (same_end f h.is_prefixed h.radix front text h.start end cut cut' same (omega (arith, begins)))
      ∙ ap (λ o. nat_lt 0 (length (places f h.is_prefixed h.radix text h.start)) && is_affix f.case_sensitive_base_suffix f.base_suffix o) byte)
  same_numeral false off is =
      let none : slice_get front end ≡ None = slice_get_past front end (omega (arith, size)) in
      let cut = front_cut (omega arith) (separator_at-none f front end none) (digit_at-none h.radix front end none) in
      let cut' = end_is_cut f h.is_prefixed h.radix text h.start fit start_low in
      let same : (k : ℕ) → k < end → slice_get front k ≡ slice_get text k = λ k l. bytes k (omega arith) in
      numeral_same f h.is_prefixed h.radix front text h.start end cut cut' same (omega (arith, begins))
      (ap (λ e. nat_lt 0 (length (places f h.is_prefixed h.radix front h.start)) && is_affix f.case_sensitive_base_suffix f.base_suffix (slice_get front e)) (same_end f h.is_prefixed h.radix front text h.start end cut cut' same (omega (arith, begins)))
      ∙ ap (λ o. nat_lt 0 (length (places f h.is_prefixed h.radix front h.start)) && is_affix f.case_sensitive_base_suffix f.base_suffix o) none
      ∙ ap (λ b. nat_lt 0 (length (places f h.is_prefixed h.radix front h.start)) && b) (no_affix f.case_sensitive_base_suffix f.base_suffix)
      ∙ and-false (nat_lt 0 (length (places f h.is_prefixed h.radix front h.start))) ∙ sym off)

  -- so is the head
  start_behind : (s : Bool × ℕ) → sign f t text ≡ Ok s → (o : Option ℕ) → prefix_radix f text s.1 ≡ o → h.start ≡ cond (is_some o) (s.1 + 2) s.1
  unfolding head_of
  start_behind s is None e = let told : ◌≡◌ {A = Result Head Error} (Ok (head_behind f text s None)) (Ok h) = sym (ap (head_after f text) is ∙ ap (λ q. Ok (head_behind f text s q)) e) ∙ head in let same : head_behind f text s None ≡ h = cc in sym (ap (λ (g : Head). g.start) same)
  start_behind s is (Some r) e = let told : ◌≡◌ {A = Result Head Error} (Ok (head_behind f text s (Some r))) (Ok h) = sym (ap (head_after f text) is ∙ ap (λ q. Ok (head_behind f text s q)) e) ∙ head in let same : head_behind f text s (Some r) ≡ h = cc in sym (ap (λ (g : Head). g.start) same)

  named_alike : (s : Bool × ℕ) → (o : Option ℕ) → prefix_radix f text s.1 ≡ o → h.start ≡ cond (is_some o) (s.1 + 2) s.1 → end ≤ p → are_same (Some 48) (slice_get text s.1) ≡ true → named_radix f (slice_get front (s.1 + 1)) ≡ named_radix f (slice_get text (s.1 + 1))
  unfolding prefix_radix
  named_alike s (Some r) e at inside on = let b = begins in ap (named_radix f) (bytes (s.1 + 1) (omega arith))
  named_alike s None e at inside on = elim (cases_lt (s.1 + 1) p) [
    | inl lt ↦ ap (named_radix f) (bytes (s.1 + 1) lt)
    | inr ge ↦ (let none = slice_get_past front (s.1 + 1) (omega (arith, size)) in ap (named_radix f) none ∙ none_named f ∙ sym (rw on at e))
  ]

  same_head : end ≤ p → head_of f t front ≡ Ok h
  same_head inside =
      let b = begins in
      head_alike f t front text same_sign (λ s is.
      (let at = start_behind s is (prefix_radix f text s.1) refl in
      let first : s.1 ≤ h.start = before (prefix_radix f text s.1) s.1 at in
      record {
        zero = ap (are_same (Some 48)) (bytes s.1 (omega arith));
        letter = named_alike s (prefix_radix f text s.1) refl at inside;
      })) ∙ head
    where
      before : (o : Option ℕ) (n : ℕ) → h.start ≡ cond (is_some o) (n + 2) n → n ≤ h.start
      before None n e = omega arith
      before (Some r) n e = omega arith

      same_sign : sign f t front ≡ sign f t text
      same_sign = sign_alike f t front text (bytes 0 (let b = begins in omega arith))

  abbrev x : Numeral
  x = numeral_in f h.is_prefixed h.radix text h.start

  stop_is : x.stop ≡ cond (nat_lt 0 (length (places f h.is_prefixed h.radix text h.start)) && suffix_at f text end) (end + 1) end
  unfolding numeral_in numeral_stop
  stop_is = refl

  end_low : (b : Bool) → cond b (end + 1) end ≡ p → end ≤ p
  end_low true e = omega arith
  end_low false e = omega arith

  some_count : (digit_count x == 0) ≡ false
  unfolding numeral_in
  some_count =
      let n = length-map (places f h.is_prefixed h.radix text h.start) (λ place. unwrap_or (digit_at h.radix text place) 0) in
      let s = ltb-true 0 (length (places f h.is_prefixed h.radix text h.start)) some in
      ne_eqb (length (map (λ place. unwrap_or (digit_at h.radix text place) 0) (places f h.is_prefixed h.radix text h.start))) 0 (λ e. omega arith)

  -- and what the whole front is
  pub whole_is : (v : ℤ) → partial f t text ≡ Ok (v, p) → complete f t front ≡ Ok v
  whole_is v read =
      let told = four_none _ _ _ _ (numeral_value h.is_negative x, x.stop) (v, p) (sym (partial_is f t text h head) ∙ read) in
      let stop : x.stop ≡ p = ap (λ (w : ℤ × ℕ). w.1) told.3 in
      let value : numeral_value h.is_negative x ≡ v = ap (λ (w : ℤ × ℕ). w.0) told.3 in
      let zeros : zero_fault f (chooses_radix h) x ≡ None = told.1 in
      let range : range_fault t h.is_negative x ≡ None = told.2 in
      let b = begins in
      let inside = end_low (nat_lt 0 (length (places f h.is_prefixed h.radix text h.start)) && suffix_at f text end) (sym stop_is ∙ stop) in
      let same = same_numeral (nat_lt 0 (length (places f h.is_prefixed h.radix text h.start)) && suffix_at f text end) refl (sym (sym stop_is ∙ stop)) in
      let start_off : (h.start == length front) ≡ false = ne_eqb h.start (length front) (λ e. omega (arith, size)) in
      let over : nat_lt x.stop (length front) ≡ false = le-ltb x.stop (length front) (omega (arith, size)) in
      complete_is f t front h (same_head inside) ∙ ap (complete_by f t front h) same
      ∙ front_without_fault f t front h x start_off zeros range over some_count ∙ ap (λ z. Ok z) value

-- the front that is read, where a digit is
pub front_is_whole : (f : Format) (t : IntegerType) (text : List ℕ) (v : ℤ) (p : ℕ) → IsNone (fault f) → number_in_front f t text ≡ Ok (v, p) → p ≤ length text → complete f t (take p text) ≡ Ok v
unfolding numeral_in
front_is_whole f t text v p valid read low =
    let told = front_told f t text v p read in
    by_head (head_of f t text) refl told.0 told.1
  where
    by_head : (r : Result Head Error) → head_of f t text ≡ r → partial f t text ≡ Ok (v, p) → has_digit f t text ≡ true → complete f t (take p text) ≡ Ok v
    by_head (Err e) is front some = let faulty = partial_fault f t text e is in let both = sym faulty ∙ front in absurd (cc)
    by_head (Ok h) is front some =
        let digits : nat_lt 0 (digit_count (numeral_in f h.is_prefixed h.radix text h.start)) ≡ true = sym (ap (has_digit_behind f text) is) ∙ some in
        whole_is f t text p h valid is (sym (ap (λ n. nat_lt 0 n) (length-map (places f h.is_prefixed h.radix text h.start) (λ place. unwrap_or (digit_at h.radix text place) 0))) ∙ digits) low v front

-- ---- the longest front

module _ (f : Format) (t : IntegerType) (valid : IsNone (fault f)) (local : IsLocal f t) (whole : (text : List ℕ) → complete f t text ≡ completion_of (length text) (partial f t text))
    (within : (text : List ℕ) (v : ℤ) (place : ℕ) → partial f t text ≡ Ok (v, place) → place ≤ length text) where
  pub front_is_longest : (text : List ℕ) (v : ℤ) (place : ℕ) → number_in_front f t text ≡ Ok (v, place) → IsLongestFront f t text v place
  front_is_longest text v place read =
      let front = (front_told f t text v place read).0 in
      let low = within text v place front in
      record {
        within = low;
        whole = read_is_integer f t (take place text) v valid (front_is_whole f t text v place valid read low);
        last = front_is_last f t local whole text v place front;
      }

  -- what goes on with the same bytes
  goes_on : (text : List ℕ) (place k : ℕ) → place < k → SameFront (place + 1) text (take k text)
  goes_on text place k low = sym (take-take (place + 1) k text (omega arith))

  -- there is one such front, where a number is in front
  pub longest_is_front : (text : List ℕ) (found : ℤ × ℕ) (v : ℤ) (place : ℕ) → number_in_front f t text ≡ Ok found → IsLongestFront f t text v place → number_in_front f t text ≡ Ok (v, place)
  longest_is_front text found v place read longest =
      let mine = front_is_longest text found.0 found.1 read in
      let low = longest.within in
      let low' = mine.within in
      let other = integer_is_read f t (take place text) v valid longest.whole in
      let this = front_is_whole f t text found.0 found.1 valid read mine.within in
      elim (cases_lt found.1 place) [
        | inl lt ↦ absurd (mine.last (omega arith) (take place text) v (goes_on text found.1 place lt) other)
        | inr ge ↦ elim (cases_lt place found.1) [
          | inl lt ↦ absurd (longest.last (omega arith) (take found.1 text) found.0 (goes_on text place found.1 lt) this)
          | inr le ↦
              let same : found.1 ≡ place = omega arith in
              let both : ◌≡◌ {A = Result ℤ Error} (Ok found.0) (Ok v) = sym this ∙ ap (λ k. complete f t (take k text)) same ∙ other in
              let value : found.0 ≡ v = cc in
              read ∙ ap (λ (z : ℤ). Ok (z, found.1)) value ∙ ap (λ (k : ℕ). Ok (v, k)) same
        ]
      ]
