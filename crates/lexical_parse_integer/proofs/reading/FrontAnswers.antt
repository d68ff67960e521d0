-- What is read of a text from its front, as a cursor there would have it: for `algorithm::front`.
use Rattle.std.proofs.Common.{◌≡◌, ◌≢◌, ℕ, ◌+◌, ◌≤◌, ◌<◌, Bool, false, true, cond, ◌&&◌, ◌||◌, List, [], ◌∷◌, length, Option, Some, None, IsNone, is_some, Ok, Err, Result, refl, sym, ap, ◌∙◌, subst, arith, inr, ◌⊎◌}
use Rattle.std.specs.Prelude.{ℤ, pos, nat_le, nat_lt, ◌==◌}
use Rattle.std.specs.Option.{option_or}
use Rattle.std.proofs.lemmas.Bool.{lt-ltb, false≢true}
use Rattle.std.proofs.lemmas.Bool.Decides.{nat_tests}
use Rattle.lexical_util.specs.declared.error.Error.{Error}
use Rattle.lexical_util.specs.declared.error.Error.TheVariants.{Empty, InvalidLeadingZeros}
use Rattle.lexical_util.specs.Format.{Format}
use Rattle.lexical_util.specs.Number.{HasRoom, IntegerType, is_number, mul_add}
use Rattle.lexical_util.specs.Validity.{fault}
use Rattle.lexical_parse_integer.specs.Affixes.{bare_radix, octal_zero_at, numeral_stop, prefix_radix, suffix_at}
use Rattle.lexical_parse_integer.specs.CursorView.{CursorView, IsSound, ReachesEnd, TakesDigit}
use Rattle.lexical_parse_integer.specs.Grammar.{complete, digits_required, fault_if, first_fault_or, partial, range_error, range_fault, zero_fault}
use Rattle.lexical_parse_integer.specs.Head.{Head, head_after, head_behind, head_of, sign, chooses_radix}
use Rattle.lexical_parse_integer.specs.Numeral.{Numeral, digit_count, numeral_in, numeral_value, numeral_behind}
use Rattle.lexical_parse_integer.specs.Reading.{MovesOn, IsRead, Reads, ReadsAll, ReadsNumeral, view_at}
use Rattle.lexical_parse_integer.specs.Runs.{digit_at, end_of, places}
use Rattle.lexical_parse_integer.specs.Seeking.{Finds, starts_behind_prefix}
use Rattle.lexical_parse_integer.specs.declared.seek.Found.{Found}
use Rattle.lexical_parse_integer.specs.declared.seek.Found.TheVariants.{Digit, End}
use Rattle.lexical_parse_integer.proofs.Folds.{folded}
use Rattle.lexical_parse_integer.proofs.grammar.DigitCounts.{digits_between_none}
use Rattle.lexical_parse_integer.proofs.grammar.NumeralEnd.{IsStop-end_of, finds_here}
use Rattle.lexical_parse_integer.proofs.punctuated.PunctuatedAnswers.{fits_head}
use Rattle.lexical_parse_integer.proofs.reading.DigitLoop.{reads_end, reads_leaves, reads_next}
use Rattle.lexical_parse_integer.proofs.reading.FirstDigit.{few_no_fault, leading_zeros, no_digit_no_zeros, other_first}
use Rattle.lexical_parse_integer.proofs.reading.NumeralSteps.{all_found, digit_found, places_count}
use Rattle.lexical_parse_integer.proofs.reading.OctalZeros.{bare_own, octal_asked}
use Rattle.lexical_parse_integer.proofs.reading.ParserAnswers.{fault_completes, fault_goes_part, sign_short}
use Rattle.lexical_parse_integer.proofs.reading.Soundness.{IsSound-digit, prefix_own, prefix_within, reaches_found, separator_no_digit, suffix_no_digit, suffix_no_separator, takes_found}
use Rattle.lexical_parse_integer.proofs.reading.UntestedDigits.{joins_digit}
use Rattle.lexical_parse_integer.proofs.theorems.CompleteByPartial.{sign_within}

-- ---- behind the head

-- where a numeral starts, and what its radix is
record HeadSays (f : Format) (text : List ℕ) (h : Head) : Type 0 where
  low : h.start ≤ length text
  prefixed : h.is_prefixed ≡ starts_behind_prefix h.start
  effective : h.is_prefixed ≡ false → (h.radix ≡ f.mantissa_radix) ⊎ (h.radix ≡ bare_radix f text h.start)
  own : f.literal_prefixes ≡ false → f.literal_octal_zero ≡ false → h.radix ≡ f.mantissa_radix

head_says : (f : Format) (t : IntegerType) (text : List ℕ) (h : Head) → head_of f t text ≡ Ok h → HeadSays f text h
unfolding head_of
head_says f t text h is = by_sign (sign f t text) refl is
  where
    by_octal : (start : ℕ) (b : Bool) → octal_zero_at f text start ≡ b → f.literal_octal_zero ≡ false → bare_radix f text start ≡ f.mantissa_radix
    by_octal start true e off = absurd (false≢true (sym off ∙ octal_asked f text start e))
    by_octal start false e off = bare_own f text start e

    by_prefix : (s : Bool × ℕ) (found : Option ℕ) → s.1 ≤ length text → s.1 ≤ 1 → prefix_radix f text s.1 ≡ found → HeadSays f text (head_behind f text s found)
    by_prefix s (Some r) low short e =
        let two = prefix_within f text s.1 r e in
        let past : nat_le 2 (s.1 + 2) ≡ true = grind (arith, nat_tests) in
        record { low = omega arith; prefixed = sym past; effective = λ h. absurd (false≢true (sym h)); own = λ plain off. prefix_own f text s.1 r plain e }
    by_prefix s None low short e =
        let n = s.1 in
        let front : n ≤ 1 = short in
        let none : nat_le 2 n ≡ false = grind (arith, nat_tests) in
        record { low = low; prefixed = sym none; effective = λ h. inr refl; own = λ plain off. by_octal s.1 (octal_zero_at f text s.1) refl off }

    by_sign : (signed : Result (Bool × ℕ) Error) → sign f t text ≡ signed → head_after f text signed ≡ Ok h → HeadSays f text h
    by_sign (Err e) here told = cc
    by_sign (Ok s) here told =
        let same : head_behind f text s (prefix_radix f text s.1) ≡ h = cc in
        subst (λ (g : Head). HeadSays f text g) same (by_prefix s (prefix_radix f text s.1) (sign_within f t text s here) (sign_short f t text s here) refl)

-- a cursor there would be sound
pub sound_head : (f : Format) (t : IntegerType) (text : List ℕ) (h : Head) → IsNone (fault f) → head_of f t text ≡ Ok h → IsSound (view_at f h.is_prefixed h.radix text h.start h.start 0)
sound_head f t text h valid is =
    let fit = fits_head f t text h valid is in
    let says = head_says f t text h is in
    record {
      valid = valid;
      radix = fit.is_radix;
      separator = separator_no_digit f h.radix text fit.separator;
      suffix_digit = suffix_no_digit f h.radix text fit.suffix_digit;
      suffix_separator = suffix_no_separator f text fit.suffix_separator;
      effective = says.effective;
      own = says.own;
      prefixed = says.prefixed;
      after_start = omega arith;
      within = says.low;
      turns = omega arith;
      while_open = λ _. record {
        before_end = (IsStop-end_of f h.is_prefixed h.radix text h.start says.low).low;
        digits = sym (ap length (digits_between_none h.radix text h.start));
        at_run_start = λ l. absurd (omega arith);
      };
      once_closed = λ e. absurd (false≢true e);
    }

-- ---- one digit more, or the end

module _ (f : Format) (pre : Bool) (text : List ℕ) (r start : ℕ) where
  abbrev at : ℕ → ℕ → CursorView
  at place count = view_at f pre r text start place count

  abbrev x : Numeral
  x = numeral_in f pre r text start

  on : (k n m j : ℕ) → IsSound (at m j) → MovesOn (at k n) (at m j)
  on k n m j s = record { bytes = refl; format = refl; prefixed = refl; radix = refl; start = refl; identity = refl; closed = refl; sound = folded s }

  -- what a search finds that is told by its start alone
  pub found_here : (k n : ℕ) (found : Found) → IsSound (at k n) → Finds f (starts_behind_prefix start) r text start k found → Finds f pre r text start k found
  found_here k n found s told = subst (λ p. Finds f p r text start k found) (sym s.prefixed) told

  -- where a search may begin
  pub may_seek : (k n : ℕ) → IsSound (at k n) → k ≤ end_of f (starts_behind_prefix start) r text start
  may_seek k n s = subst (λ p. k ≤ end_of f p r text start) s.prefixed (s.while_open refl).before_end

  -- the digit at the place to which reading has come is the next
  pub digit_here : (k n d : ℕ) → IsSound (at k n) → digit_at r text k ≡ Some d → Finds f (starts_behind_prefix start) r text start k (Digit k d)
  digit_here k n d s is = finds_here f (starts_behind_prefix start) r text start k s.after_start (may_seek k n s) s.within d is

  takes : (k n place d : ℕ) → Finds f pre r text start k (Digit place d) → TakesDigit (at k n) (at (place + 1) (n + 1)) d
  takes k n place d found = takes_found (at k n) (n + 1) place d refl found

  ends : (k n stop : ℕ) → Finds f pre r text start k (End stop) → ReachesEnd (at k n) (at stop n)
  ends k n stop found = reaches_found (at k n) stop found

  pub next_sound : (k n place d : ℕ) → IsSound (at k n) → Finds f (starts_behind_prefix start) r text start k (Digit place d) → IsSound (at (place + 1) (n + 1))
  next_sound k n place d s found = IsSound-digit (at k n) (n + 1) place d s refl refl (found_here k n (Digit place d) s found)

  pub next_reads : (t : IntegerType) (b : Bool) (k n place d : ℕ) (value next : ℤ) → IsSound (at k n) → Finds f (starts_behind_prefix start) r text start k (Digit place d) → Reads t b x n value → next ≡ mul_add b value (pos r) (pos d) → is_number t next ≡ true → Reads t b x (n + 1) next
  next_reads t b k n place d value next s found reads step fits =
      reads_next t b (at k n) (at k n) (at (place + 1) (n + 1)) d r value next (on k n k n s) (takes k n place d (found_here k n (Digit place d) s found)) reads refl step fits

  -- where the type has room for one digit more, their value is a number of the type
  pub next_fits : (t : IntegerType) (b : Bool) (room k n place d : ℕ) (value : ℤ) → IsSound (at start 0) → IsSound (at k n) → Finds f (starts_behind_prefix start) r text start k (Digit place d) → HasRoom t r room → (b ≡ true → t.is_signed ≡ true) → n < room → Reads t b x n value → is_number t (mul_add b value (pos r) (pos d)) ≡ true
  next_fits t b room k n place d value first s found has signed less reads =
      (joins_digit t.bits t.is_signed b (at start 0) (at k n) (at (place + 1) (n + 1)) room d value (pos r) (pos d) first (on start 0 k n s) (takes k n place d (found_here k n (Digit place d) s found)) has signed less reads refl refl).fits

  pub next_leaves : (t : IntegerType) (b : Bool) (k n place d : ℕ) (value : ℤ) (e : Error) → IsSound (at k n) → Finds f (starts_behind_prefix start) r text start k (Digit place d) → Reads t b x n value → e ≡ range_error b place → is_number t (mul_add b value (pos r) (pos d)) ≡ false → range_fault t b x ≡ Some e
  next_leaves t b k n place d value e s found reads is leaves =
      reads_leaves t b (at k n) (at k n) (at (place + 1) (n + 1)) d r place value e (on k n k n s) (takes k n place d (found_here k n (Digit place d) s found)) reads refl refl is leaves

  pub all_read : (t : IntegerType) (b : Bool) (k n stop : ℕ) (value : ℤ) → IsSound (at k n) → Finds f (starts_behind_prefix start) r text start k (End stop) → Reads t b x n value → ReadsAll t b (at start 0) (at stop n) value
  all_read t b k n stop value s found reads = reads_end t b (at start 0) (at k n) (at stop n) value (on start 0 k n s) (ends k n stop (found_here k n (End stop) s found)) reads

  -- ---- the rule on zeros

  pub none_first : (p : Bool) (stop : ℕ) → IsSound (at start 0) → Finds f (starts_behind_prefix start) r text start start (End stop) → zero_fault f p x ≡ None
  none_first p stop s found = no_digit_no_zeros (at start 0) (at stop 0) p s refl refl (ends start 0 stop (found_here start 0 (End stop) s found))

  pub other_digit_first : (p : Bool) (place d : ℕ) → IsSound (at start 0) → Finds f (starts_behind_prefix start) r text start start (Digit place d) → d ≢ 0 → zero_fault f p x ≡ None
  other_digit_first p place d s found other = other_first (at start 0) (at (place + 1) 1) d p s refl refl (takes start 0 place d (found_here start 0 (Digit place d) s found)) other

  pub zero_alone : (p : Bool) (place d stop : ℕ) → IsSound (at start 0) → Finds f (starts_behind_prefix start) r text start start (Digit place d) → Finds f (starts_behind_prefix start) r text start (place + 1) (End stop) → zero_fault f p x ≡ None
  zero_alone p place d stop s first found =
      let next = next_sound start 0 place d s first in
      let one : 1 ≡ digit_count x = all_found (at (place + 1) 1) next refl (at stop 1) (ends (place + 1) 1 stop (found_here (place + 1) 1 (End stop) next found)) in
      few_no_fault f p x (omega arith)

  pub zero_before : (p : Bool) (place d q e : ℕ) → IsSound (at start 0) → Finds f (starts_behind_prefix start) r text start start (Digit place d) → d ≡ 0 → Finds f (starts_behind_prefix start) r text start (place + 1) (Digit q e) → f.no_integer_leading_zeros ≡ true → p ≡ false → zero_fault f p x ≡ Some (InvalidLeadingZeros place)
  zero_before p place d q e s first zero found forbids bare =
      let next = next_sound start 0 place d s first in
      let second = digit_found (at (place + 1) 1) (at (q + 1) 2) e next refl (takes (place + 1) 1 q e (found_here (place + 1) 1 (Digit q e) next found)) in
      leading_zeros (at start 0) (at (place + 1) 1) d s refl refl (takes start 0 place d (found_here start 0 (Digit place d) s first)) (folded next) p place zero forbids bare refl (sym (lt-ltb 1 (digit_count x) second.more))

  -- ---- where reading stops

  stop_told : (n e : ℕ) → n ≡ digit_count x → e ≡ x.ends → cond (nat_lt 0 n && suffix_at f text e) (e + 1) e ≡ x.stop
  unfolding numeral_in numeral_stop
  stop_told n e count end =
      let all : n ≡ length (places f pre r text start) = count ∙ places_count f pre r text start in
      ap (λ k. cond (nat_lt 0 k && suffix_at f text e) (e + 1) e) all ∙ ap (λ j. cond (nat_lt 0 (length (places f pre r text start)) && suffix_at f text j) (j + 1) j) end

-- ---- the answers

-- without a fault that both parsers have, a text is read
pub front_read : (f : Format) (t : IntegerType) (text : List ℕ) (h : Head) (value : ℤ) (n e stop : ℕ) → head_of f t text ≡ Ok h → false ≡ (h.is_prefixed && (h.start == length text)) → ReadsNumeral t h.is_negative (chooses_radix h) (view_at f h.is_prefixed h.radix text h.start h.start 0) (view_at f h.is_prefixed h.radix text h.start e n) value → stop ≡ cond (nat_lt 0 n && suffix_at f text e) (e + 1) e → IsRead f t text value (view_at f h.is_prefixed h.radix text h.start stop n)
front_read f t text h value n e stop head more reads stop_is =
    let all = reads.all in
    record {
      head = h;
      head_is = head;
      no_prefix_fault = ap (λ b. cond b (Some (Empty (length text))) None) (sym more);
      no_zero_fault = reads.no_zeros;
      no_range_fault = all.fits;
      value_is = all.value_is;
      bytes = refl;
      format = refl;
      at_stop = stop_is ∙ stop_told f h.is_prefixed text h.radix h.start n e all.all all.at_end;
      all_digits = all.all;
    }

-- a missing digit is a fault, or the front is the answer
pub front_answer : (f : Format) (t : IntegerType) (text : List ℕ) (value : ℤ) (v : CursorView) (b : Bool) → IsRead f t text value v → b ≡ ((digits_required f && (v.digits == 0)) && (is_some f.digit_separator || (v.position == length text))) → partial f t text ≡ cond b (Err (Empty v.position)) (Ok (value, v.position))
unfolding partial
front_answer f t text value v b r told =
    let x : Numeral = numeral_behind f text r.head in
    let stop : x.stop ≡ v.position = sym r.at_stop in
    let test : ((digits_required f && (digit_count x == 0)) && (is_some f.digit_separator || (v.position == length text))) ≡ b =
    ap (λ n. (digits_required f && (n == 0)) && (is_some f.digit_separator || (v.position == length text))) (sym r.all_digits) ∙ sym told in
    let e₁ = r.head_is in
    let e₂ = r.no_prefix_fault in
    let e₃ = r.no_zero_fault in
    let e₄ = r.no_range_fault in
    rw (e₁, e₂, e₃, e₄, stop, test) (by_test b)
  where
    by_test : (b : Bool) → first_fault_or {A = ℤ × ℕ} (fault_if b (Empty v.position) ∷ []) (numeral_value r.head.is_negative (numeral_behind f text r.head), v.position) ≡ cond b (Err (Empty v.position)) (Ok (value, v.position))
    by_test true = refl
    by_test false = ap (λ z. Ok (z, v.position)) (sym r.value_is)

-- a prefix alone
pub prefix_answer : (f : Format) (t : IntegerType) (text : List ℕ) (h : Head) → head_of f t text ≡ Ok h → true ≡ (h.is_prefixed && (h.start == length text)) → partial f t text ≡ Err (Empty (length text))
prefix_answer f t text h head alone =
    fault_goes_part f t text h (Empty (length text)) head
    (ap (λ b. option_or (cond b (Some (Empty (length text))) None) (option_or (zero_fault f (chooses_radix h) (numeral_behind f text h)) (range_fault t h.is_negative (numeral_behind f text h)))) (sym alone))

pub prefix_completes : (f : Format) (t : IntegerType) (text : List ℕ) (h : Head) → head_of f t text ≡ Ok h → true ≡ (h.is_prefixed && (h.start == length text)) → complete f t text ≡ Err (Empty (length text))
prefix_completes f t text h head alone =
    fault_completes f t text h (Empty (length text)) head
    (ap (λ b. option_or (cond b (Some (Empty (length text))) None) (option_or (zero_fault f (chooses_radix h) (numeral_behind f text h)) (range_fault t h.is_negative (numeral_behind f text h)))) (sym alone))

-- the fault of a numeral
pub numeral_answer : (f : Format) (t : IntegerType) (text : List ℕ) (h : Head) (e : Error) → head_of f t text ≡ Ok h → false ≡ (h.is_prefixed && (h.start == length text)) → option_or (zero_fault f (chooses_radix h) (numeral_behind f text h)) (range_fault t h.is_negative (numeral_behind f text h)) ≡ Some e → partial f t text ≡ Err e
numeral_answer f t text h e head more fault =
    fault_goes_part f t text h e head
    (ap (λ b. option_or (cond b (Some (Empty (length text))) None) (option_or (zero_fault f (chooses_radix h) (numeral_behind f text h)) (range_fault t h.is_negative (numeral_behind f text h)))) (sym more) ∙ fault)
