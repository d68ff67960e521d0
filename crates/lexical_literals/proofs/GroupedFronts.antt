-- Groups of digits at the front of a text: what a format with separators between digits, or behind a prefix, reads there.
use Rattle.std.proofs.Common.{◌≡◌, ◌≢◌, ℕ, zero, suc, ◌+◌, ◌-◌, ◌*◌, ◌^◌, ◌<◌, ◌≤◌, Bool, true, false, ◌&&◌, ◌||◌, List, [], ◌∷◌, ◌++◌, IsNone, length, filter, map, refl, sym, ap, ◌∙◌, subst, arith, Option, Some, None, is_some, Ok, inl, inr, option_and_then}
use Rattle.std.specs.Prelude.{◌==◌, nat_abs, nat_lt, slice_get, slice_index, pos}
use Rattle.std.specs.List.{range_with_len}
use Rattle.std.specs.Option.{unwrap_or}
use Rattle.std.proofs.Math.Bool.{and-false}
use Rattle.std.proofs.Math.Seq.{take-length}
use Rattle.std.proofs.lemmas.Bool.{cases_lt, false≢true, lt-ltb, ne_eqb}
use Rattle.std.proofs.lemmas.Bool.Decides.{nat_tests}
use Rattle.std.proofs.lemmas.Option.{slice_get-get_or, slice_get_past}
use Rattle.std.proofs.lemmas.List.{append-nil, map-append}
use Rattle.std.proofs.lemmas.List.Elements.{filter-append}
use Rattle.lexical_digits.specs.Value.{positional_value}
use Rattle.lexical_digits.proofs.DigitValues.{positional_value-push}
use Rattle.lexical_util.specs.Digit.{digit}
use Rattle.lexical_util.specs.Format.{Format, standard}
use Rattle.lexical_util.specs.Number.{IntegerType, integer_type, is_number}
use Rattle.lexical_util.specs.Validity.{fault}
use Rattle.lexical_parse_integer.specs.Affixes.{is_affix, literal_radix, matches, named_radix, numeral_stop, octal_zero_at, prefix_radix, suffix_at}
use Rattle.lexical_parse_integer.specs.Grammar.{partial, range_fault, zero_fault}
use Rattle.lexical_parse_integer.specs.Head.{head_of}
use Rattle.lexical_parse_integer.specs.Numeral.{digit_count, numeral_in, numeral_value}
use Rattle.lexical_parse_integer.specs.Runs.{are_same, digit_at, digits_between, end_of, flag_for, is_in_numeral, is_in_passing_run, run_begin, run_passes, run_stop, separator_at}
use Rattle.lexical_parse_integer.proofs.ForCallers.{HoldsBetween, IsStop-end_of, IsStop-unique, begin_of_is, belongs_digit, belongs_other, belongs_separator, digit_at_past, fits, fits_named, fitting_fault, shorter_fronts_fit, not_asked, sign_of_digit_under, stop_of_is, true_or_false}
use Rattle.lexical_literals.proofs.DecimalFronts.{IsStandard, bare_by_letter, head_is_bare, no_octal_zero, some_digits, standard_told}
use Rattle.lexical_literals.specs.Decimal.{ReadsDecimals, zero_leads}
use Rattle.lexical_literals.specs.Groups.{AreDigitsBetween, AreGroups, AreSeparatorsBetween, Parts, StartsAt, WritesGroups, WritesOn, WritesRow, has_digit, number_between}

-- ---- the digits between two places, one place more

some_same : {a b : ℕ} → Some a ≡ Some b → a ≡ b
some_same e = cc

within_of : (text : List ℕ) (k b : ℕ) → slice_get text k ≡ Some b → k < length text
within_of text k b e = elim (cases_lt k (length text)) [
  | inl lt ↦ lt
  | inr ge ↦ absurd (let past = slice_get_past text k ge in cc)
]

not_zero : (r b : ℕ) → (b == 48) ≡ false → is_some (digit r b) ≡ true → (unwrap_or (digit r b) 0 == 0) ≡ false
not_zero r b other some = grind (arith, nat_tests)

-- their values
abbrev values : ℕ → List ℕ → ℕ → ℕ → List ℕ
values r text from to = map (λ place. unwrap_or (digit_at r text place) 0) (digits_between r text from to)

range_more : (a n k : ℕ) → a + n ≡ k → range_with_len a (suc n) ≡ range_with_len a n ++ k ∷ []
range_more a zero k e = let same : a ≡ k = omega arith in rw same refl
range_more a (suc n) k e = ap (λ xs. a ∷ xs) (range_more (a + 1) n k (omega arith))

between_more : (r : ℕ) (text : List ℕ) (from to : ℕ) → from ≤ to
    → digits_between r text from (to + 1)
    ≡ digits_between r text from to ++ filter (λ place. is_some (digit_at r text place)) (to ∷ [])
unfolding digits_between
between_more r text from to low =
    let size : to + 1 - from ≡ suc (to - from) = omega arith in
    let p : ℕ → Bool = λ place. is_some (digit_at r text place) in
    ap (λ n. filter p (range_with_len from n)) size
    ∙ ap (filter p) (range_more from (to - from) to (omega arith))
    ∙ filter-append p (range_with_len from (to - from)) (to ∷ [])

pub digit_more : (r : ℕ) (text : List ℕ) (from to d : ℕ) → from ≤ to → digit_at r text to ≡ Some d
    → number_between r text from (to + 1) ≡ number_between r text from to * r + d
unfolding number_between
digit_more r text from to d low here =
    let f : ℕ → ℕ = λ place. unwrap_or (digit_at r text place) 0 in
    let one : filter (λ place. is_some (digit_at r text place)) (to ∷ []) ≡ to ∷ [] = rw here refl in
    let more : digits_between r text from (to + 1) ≡ digits_between r text from to ++ (to ∷ []) =
    between_more r text from to low ∙ ap (λ xs. digits_between r text from to ++ xs) one in
    let value : f to ≡ d = ap (λ o. unwrap_or o 0) here in
    ap (λ xs. positional_value r (map f xs)) more
    ∙ ap (positional_value r) (map-append f (digits_between r text from to) (to ∷ [])
    ∙ ap (λ x. map f (digits_between r text from to) ++ x ∷ []) value)
    ∙ positional_value-push r (map f (digits_between r text from to)) d

pub other_more : (r : ℕ) (text : List ℕ) (from to : ℕ) → from ≤ to → digit_at r text to ≡ None
    → number_between r text from (to + 1) ≡ number_between r text from to
unfolding number_between
other_more r text from to low here =
    let f : ℕ → ℕ = λ place. unwrap_or (digit_at r text place) 0 in
    let none : filter (λ place. is_some (digit_at r text place)) (to ∷ []) ≡ [] = rw here refl in
    let same : digits_between r text from (to + 1) ≡ digits_between r text from to ++ [] =
    between_more r text from to low ∙ ap (λ xs. digits_between r text from to ++ xs) none in
    ap (λ xs. positional_value r (map f xs)) same
    ∙ ap (λ xs. positional_value r (map f xs)) (append-nil (digits_between r text from to))

-- the value of a digit that isn't `0`
value_of_first : (r : ℕ) (text : List ℕ) (k : ℕ) → has_digit r text k ≡ true → (slice_index text k == 48) ≡ false
    → (unwrap_or (digit_at r text k) 0 == 0) ≡ false
unfolding digit_at
value_of_first r text k is other = by_byte (slice_get text k) refl is
  where
    by_byte : (o : Option ℕ) → slice_get text k ≡ o → is_some (option_and_then (λ byte. digit r byte) o) ≡ true
        → (unwrap_or (option_and_then (λ byte. digit r byte) o) 0 == 0) ≡ false
    by_byte None e some = absurd (false≢true some)
    by_byte (Some b) e some =
        let low : k < length text = within_of text k b e in
        let byte : slice_index text k ≡ b = some_same (sym (slice_get-get_or text k 0 low) ∙ e) in
        not_zero r b (sym (ap (λ c. c == 48) byte) ∙ other) some

some_values : (r : ℕ) (text : List ℕ) (from to : ℕ) → from < to → has_digit r text from ≡ true
    → 0 < length (values r text from to)
unfolding digits_between
some_values r text from to low is =
    let size : to - from ≡ suc (to - from - 1) = omega arith in
    rw (size, is) (omega arith)

-- the first of them isn't 0, where no zero stands there
first_value : (r : ℕ) (text : List ℕ) (from to : ℕ) → from < to → has_digit r text from ≡ true
    → (slice_index text from == 48) ≡ false → (slice_index (values r text from to) 0 == 0) ≡ false
unfolding digits_between
first_value r text from to some is other =
    let size : to - from ≡ suc (to - from - 1) = omega arith in
    rw (size, is) (value_of_first r text from is other)

wide : (n : ℕ) → n < 2 ^ 64 → n < 2 ^ 128
wide n low = omega arith

-- ---- what the loops over digits keep

pub digit_here : (r : ℕ) (text : List ℕ) (k d : ℕ) → k < length text → digit r (slice_index text k) ≡ Some d
    → digit_at r text k ≡ Some d
unfolding digit_at
digit_here r text k d low is = ap (option_and_then (λ byte. digit r byte)) (slice_get-get_or text k 0 low) ∙ is

-- no digit is between a place and itself
pub nothing_between : (r : ℕ) (text : List ℕ) (k : ℕ) → 0 ≡ number_between r text k k
unfolding number_between digits_between
nothing_between r text k = let none : k - k ≡ 0 = omega arith in rw none refl

pub row_more : (r : ℕ) (text : List ℕ) (from k d : ℕ) → digit_at r text k ≡ Some d
    → AreDigitsBetween r text from k → AreDigitsBetween r text from (k + 1)
row_more r text from k d here row i low high = elim (cases_lt i k) [
  | inl lt ↦ row i low lt
  | inr ge ↦ let e : k ≡ i = omega arith in subst (λ (j : ℕ). has_digit r text j ≡ true) e (ap is_some here)
]

pub number_more : (r : ℕ) (text : List ℕ) (before from number k d : ℕ) → from ≤ k → digit_at r text k ≡ Some d
    → WritesOn r text before from number k → WritesOn r text before from (number * r + d) (k + 1)
number_more r text before from number k d low here writes start first told =
    ap (λ n. n * r + d) (writes start first told) ∙ sym (digit_more r text start k d (omega arith) here)

-- a byte that is no digit adds nothing
pub part_within : (r : ℕ) (text : List ℕ) (k : ℕ) → has_digit r text k ≡ true → k < length text
part_within r text k is = elim (cases_lt k (length text)) [
  | inl lt ↦ lt
  | inr ge ↦ absurd (false≢true (sym (ap is_some (digit_at_past r text k ge)) ∙ is))
]

-- a row of digits is a group
pub row_groups : (many : Bool) (sep r : ℕ) (text : List ℕ) (start number stop : ℕ) → WritesRow r text start number stop
    → WritesGroups many sep r text start number stop
row_groups many sep r text start number stop row =
    let some = row.some in
    record {
      some = row.some;
      within = row.within;
      groups = λ k low high none. absurd (false≢true (sym none ∙ row.digits k low high));
      writes = row.writes;
      last = λ none. row.digits (stop - 1) (omega arith) (omega arith);
    }

-- ---- a separator at a place

pub stands_here : (text : List ℕ) (k byte : ℕ) → k < length text → slice_index text k ≡ byte → slice_get text k ≡ Some byte
stands_here text k byte low is = slice_get-get_or text k 0 low ∙ ap Some is

pub other_here : (text : List ℕ) (k byte : ℕ) → k < length text → slice_index text k ≢ byte → slice_get text k ≢ Some byte
other_here text k byte low other here = other (some_same (sym (slice_get-get_or text k 0 low) ∙ here))

pub not_past : (text : List ℕ) (k byte : ℕ) → length text ≤ k → slice_get text k ≢ Some byte
not_past text k byte past here = let low = within_of text k byte here in omega arith

pub other_apart : (f : Format) (text : List ℕ) (k sep : ℕ) → f.digit_separator ≡ Some sep → k < length text
    → slice_index text k ≢ sep → separator_at f text k ≡ false
unfolding separator_at are_same
other_apart f text k sep own low other =
    let here = slice_get-get_or text k 0 low in
    let apart = ne_eqb (slice_index text k) sep other in
    rw (own, here) apart

pub elsewhere : (f : Format) (text : List ℕ) (k sep : ℕ) → f.digit_separator ≡ Some sep → slice_get text k ≢ Some sep
    → separator_at f text k ≡ false
unfolding separator_at are_same
elsewhere f text k sep own other = rw own (by_byte (slice_get text k) other)
  where
    by_byte : (o : Option ℕ) → o ≢ Some sep → are_same (Some sep) o ≡ false
    by_byte None apart = refl
    by_byte (Some b) apart = ne_eqb b sep (λ e. apart (ap Some e))

pub own_here : (f : Format) (text : List ℕ) (k sep : ℕ) → f.digit_separator ≡ Some sep → slice_get text k ≡ Some sep
    → separator_at f text k ≡ true
unfolding separator_at are_same
own_here f text k sep own here = rw (own, here) (grind (arith, nat_tests))

pub no_separator : (f : Format) (text : List ℕ) (k : ℕ) → f.digit_separator ≡ None → separator_at f text k ≡ false
unfolding separator_at are_same
no_separator f text k none = rw none refl

-- what stands where a separator does is no digit
none_at : (r sep : ℕ) (text : List ℕ) (k : ℕ) → digit r sep ≡ None → slice_get text k ≡ Some sep → digit_at r text k ≡ None
unfolding digit_at
none_at r sep text k other here = rw (here, other) refl

-- separators add nothing
others_more : (sep r : ℕ) (text : List ℕ) (start k n : ℕ) → digit r sep ≡ None → start ≤ k
    → AreSeparatorsBetween sep text k (k + n) → number_between r text start (k + n) ≡ number_between r text start k
others_more sep r text start k zero other low run = let e : k + 0 ≡ k = omega arith in ap (number_between r text start) e
others_more sep r text start k (suc n) other low run =
    let e : k + suc n ≡ k + n + 1 = omega arith in
    let here = none_at r sep text (k + n) other (run (k + n) (omega arith) (omega arith)) in
    ap (number_between r text start) e ∙ other_more r text start (k + n) (omega arith) here
    ∙ others_more sep r text start k n other low (λ i l h. run i l (omega arith))

run_more : (sep r : ℕ) (text : List ℕ) (start k next : ℕ) → digit r sep ≡ None → start ≤ k → k ≤ next
    → AreSeparatorsBetween sep text k next → number_between r text start next ≡ number_between r text start k
run_more sep r text start k next other low forward run =
    let e : k + (next - k) ≡ next = omega arith in
    sym (ap (number_between r text start) e)
    ∙ others_more sep r text start k (next - k) other low (λ i l h. run i l (omega arith))

group_more : (many : Bool) (sep r : ℕ) (text : List ℕ) (start k next stop : ℕ) → AreGroups many sep r text start k
    → ((i : ℕ) → k ≤ i → i < next → Parts many sep r text start i)
    → AreDigitsBetween r text next stop → AreGroups many sep r text start stop
group_more many sep r text start k next stop groups parts row i low high none = elim (cases_lt i k) [
  | inl lt ↦ groups i low lt none
  | inr ge ↦ elim (cases_lt i next) [
    | inl lt ↦ parts i ge lt
    | inr past ↦ absurd (false≢true (sym none ∙ row i past high))
  ]
]

-- one row more, behind a run of separators
pub groups_more : (many : Bool) (sep r : ℕ) (text : List ℕ) (start number k next grown to : ℕ) → digit r sep ≡ None
    → WritesGroups many sep r text start number k → k < next → AreSeparatorsBetween sep text k next
    → has_digit r text next ≡ true → (many ≡ false → next ≡ k + 1) → next ≤ to → to ≤ length text
    → AreDigitsBetween r text next to → WritesOn r text number next grown to
    → WritesGroups many sep r text start grown to
groups_more many sep r text start number k next grown to other w more run after alone low high row writes =
    let some = w.some in
    let none = none_at r sep text k other (run k (omega arith) more) in
    record {
      some = omega arith;
      within = high;
      groups = group_more many sep r text start k next to w.groups
          (λ i l h. record {
            from = k;
            to = next;
            behind = some;
            low = l;
            high = h;
            run = run;
            before = w.last (ap is_some none);
            after = after;
            alone = alone;
          }) row;
      writes = writes start (omega arith)
          (w.writes ∙ sym (run_more sep r text start k next other (omega arith) (omega arith) run));
      last = λ missing. elim (cases_lt next to) [
        | inl lt ↦ row (to - 1) (omega arith) (omega arith)
        | inr ge ↦ let e : to ≡ next = omega arith in absurd (false≢true (sym missing ∙ ap (has_digit r text) e ∙ after))
      ];
    }

-- a separator alone is a run
pub one_run : (sep : ℕ) (text : List ℕ) (k : ℕ) → slice_get text k ≡ Some sep → AreSeparatorsBetween sep text k (k + 1)
one_run sep text k here i low high =
    let e : k ≡ i = omega arith in subst (λ (j : ℕ). slice_get text j ≡ Some sep) e here

pub separator_more : (sep : ℕ) (text : List ℕ) (from k : ℕ) → slice_get text k ≡ Some sep
    → AreSeparatorsBetween sep text from k → AreSeparatorsBetween sep text from (k + 1)
separator_more sep text from k here run i low high = elim (cases_lt i k) [
  | inl lt ↦ run i low lt
  | inr ge ↦ let e : k ≡ i = omega arith in subst (λ (j : ℕ). slice_get text j ≡ Some sep) e here
]

-- what stands behind a separator, where no digit ends its run
pub no_digit_behind : (sep r : ℕ) (text : List ℕ) (k stop : ℕ) → digit r sep ≡ None → k ≤ stop
    → AreSeparatorsBetween sep text k stop → slice_get text stop ≢ Some sep → has_digit r text stop ≡ false
    → slice_get text k ≡ Some sep → has_digit r text (k + 1) ≡ false
no_digit_behind sep r text k stop other low run ends none here = elim (cases_lt (k + 1) stop) [
  | inl lt ↦ ap is_some (none_at r sep text (k + 1) other (run (k + 1) (omega arith) lt))
  | inr ge ↦ elim (cases_lt k stop) [
    | inl lt ↦ let e : stop ≡ k + 1 = omega arith in sym (ap (has_digit r text) e) ∙ none
    | inr past ↦ let e : k ≡ stop = omega arith in absurd (ends (sym (ap (slice_get text) e) ∙ here))
  ]
]

-- ---- where the groups end

same_byte_test : (o : Option ℕ) (b : ℕ) → o ≢ Some b → are_same o (Some b) ≡ false
unfolding are_same
same_byte_test None b apart = refl
same_byte_test (Some s) b apart = ne_eqb b s (λ e. apart (ap Some (sym e)))

module _ (f : Format) (r : ℕ) (text : List ℕ) (pre : Bool) (start : ℕ) (s : StartsAt f pre r text start) where
  digit_apart : (k : ℕ) → has_digit r text k ≡ true → separator_at f text k ≡ false
  unfolding digit_at separator_at
  digit_apart k is = by_byte (slice_get text k) is
    where
      by_byte : (o : Option ℕ) → is_some (option_and_then (λ byte. digit r byte) o) ≡ true
          → are_same f.digit_separator o ≡ false
      by_byte None is = absurd (false≢true is)
      by_byte (Some b) is =
          same_byte_test f.digit_separator b (λ e. absurd (false≢true (sym (ap is_some (s.separator b e)) ∙ is)))

  none_there : (k : ℕ) → has_digit r text k ≡ false → digit_at r text k ≡ None
  none_there k none = by_digit (digit_at r text k) none
    where
      by_digit : (o : Option ℕ) → is_some o ≡ false → o ≡ None
      by_digit None e = refl
      by_digit (Some d) e = absurd (false≢true (sym e))

  digit_belongs : (k : ℕ) (o : Option ℕ) → digit_at r text k ≡ o → is_some o ≡ true
      → is_in_numeral f pre r text start k ≡ true
  digit_belongs k None e is = absurd (false≢true is)
  digit_belongs k (Some d) e is = belongs_digit f pre r text start k d e

  -- ---- the numeral

  -- a numeral that begins with a digit, where it ends, and the number of its digits
  record Reads (number n : ℕ) : Type 0 where
    some : start < n
    within : n ≤ length text
    first : has_digit r text start ≡ true
    holds : HoldsBetween (is_in_numeral f pre r text start) start n
    fails : is_in_numeral f pre r text start n ≡ false
    writes : number ≡ number_between r text start n

  end_is : (number n : ℕ) → Reads number n → end_of f pre r text start ≡ n
  end_is number n e =
      let some = e.some in
      let within = e.within in
      IsStop-unique (is_in_numeral f pre r text start) start (length text) _ _
      (IsStop-end_of f pre r text start (omega arith)) (record {
        low = omega arith;
        high = within;
        holds = e.holds;
        fails = λ l. e.fails;
      })

  digits_are : (number n : ℕ) → Reads number n → (numeral_in f pre r text start).digits ≡ values r text start n
  unfolding numeral_in
  digits_are number n e = let end = end_is number n e in rw end refl

  stops_at_end : (numeral_in f pre r text start).stop ≡ end_of f pre r text start
  unfolding numeral_in numeral_stop suffix_at is_affix
  stops_at_end = let none = s.no_suffix in rw (none, and-false) refl

  stops_at : (number n : ℕ) → Reads number n → (numeral_in f pre r text start).stop ≡ n
  stops_at number n e = stops_at_end ∙ end_is number n e

  count_is : (number n : ℕ) → Reads number n → (digit_count (numeral_in f pre r text start) == 0) ≡ false
  count_is number n e =
      ap (λ (ds : List ℕ). length ds == 0) (digits_are number n e)
      ∙ ne_eqb _ 0 (λ none. let some = some_values r text start n e.some e.first in absurd (omega arith))

  value_is : (number n : ℕ) → Reads number n → numeral_value false (numeral_in f pre r text start) ≡ pos number
  unfolding numeral_in number_between
  value_is number n e =
      let x = numeral_in f pre r text start in
      ap (λ ds. pos (positional_value r ds)) (take-length x.digits ∙ digits_are number n e) ∙ ap pos (sym e.writes)

  fits_type : (number n : ℕ) → Reads number n → 1 ≤ r → number < 2 ^ 128
      → range_fault (integer_type 128 false) false (numeral_in f pre r text start) ≡ None
  unfolding numeral_in
  fits_type number n e positive low =
      let x = numeral_in f pre r text start in
      let t = integer_type 128 false in
      fitting_fault t false x (shorter_fronts_fit t false x (digit_count x) positive
      (ap (is_number t) (value_is number n e) ∙ lt-ltb number (2 ^ 128) low))

  -- no rule for zeros goes against it
  no_zero_fault : (number n : ℕ) → Reads number n → zero_fault f (pre || false) (numeral_in f pre r text start) ≡ None
  no_zero_fault number n e = by_tests pre (slice_index text start == 48) refl refl
    where
      by_tests : (chosen nil : Bool) → pre ≡ chosen → (slice_index text start == 48) ≡ nil
          → zero_fault f (pre || false) (numeral_in f pre r text start) ≡ None
      by_tests true nil a b = rw (a, and-false) refl
      by_tests false true a b = rw (s.zeros a b) refl
      by_tests false false a b =
          let x = numeral_in f pre r text start in
          let other : (slice_index x.digits 0 == 0) ≡ false =
          ap (λ ds. slice_index ds 0 == 0) (digits_are number n e) ∙ first_value r text start n e.some e.first b in
          rw (other, and-false) refl

  read_by : (number n : ℕ) → Reads number n → 1 ≤ r → number < 2 ^ 64
      → partial f (integer_type 128 false) text ≡ Ok (pos number, n)
  unfolding partial
  read_by number n e positive low =
      let some = e.some in
      let within = e.within in
      let head = s.head in
      let fits = fits_type number n e positive (wide number low) in
      let more : (start == length text) ≡ false = ne_eqb start (length text) (λ same. omega arith) in
      let zeros = no_zero_fault number n e in
      let there = count_is number n e in
      let value = value_is number n e in
      let stop = stops_at number n e in
      rw (head, fits, value, stop, more, there, and-false, and-false, zeros) refl

  -- ---- what the parts of the code say

  -- digits in a row
  pub row_read : (number n : ℕ) → 1 ≤ r → number < 2 ^ 64 → WritesRow r text start number n → has_digit r text n ≡ false
      → separator_at f text n ≡ false → partial f (integer_type 128 false) text ≡ Ok (pos number, n)
  row_read number n positive low row none apart =
      read_by number n (record {
        some = row.some;
        within = row.within;
        first = row.digits start (omega arith) row.some;
        holds = λ k from to. digit_belongs k (digit_at r text k) refl (row.digits k from to);
        fails = belongs_other f pre r text start n apart (none_there n none);
        writes = row.writes;
      }) positive low

  module _ (sep : ℕ) (own : f.digit_separator ≡ Some sep) (internal : f.integer_internal_digit_separator ≡ true) where
    separator_here : (k : ℕ) → slice_get text k ≡ Some sep → separator_at f text k ≡ true
    separator_here k here = own_here f text k sep own here

    -- a separator alone, behind a digit
    begins : (k : ℕ) → start < k → has_digit r text (k - 1) ≡ true → run_begin f text start k ≡ k
    begins k low before =
        begin_of_is (separator_at f text) start k k (omega arith) (omega arith)
        (λ i l h. absurd (omega arith)) (λ l. digit_apart (k - 1) before)

    stops : (k : ℕ) → slice_get text k ≡ Some sep → k < length text → separator_at f text (k + 1) ≡ false
        → run_stop f text k ≡ k + 1
    stops k here inside apart =
        stop_of_is (separator_at f text) k (length text) (k + 1) (omega arith) (record {
          low = omega arith;
          high = omega arith;
          holds = λ i l h. let e : k ≡ i = omega arith in
              subst (λ (j : ℕ). separator_at f text j ≡ true) e (separator_here k here);
          fails = λ l. apart;
        })

    -- it passes by its flag
    alone_by_flag : (k : ℕ) (after flag : Bool) → start < k → k < length text → slice_get text k ≡ Some sep
        → has_digit r text (k - 1) ≡ true → has_digit r text (k + 1) ≡ after → separator_at f text (k + 1) ≡ false
        → flag_for f pre true after ≡ flag → is_in_passing_run f pre r text start k ≡ flag
    unfolding run_passes
    alone_by_flag k after flag low inside here before behind apart asked =
        let begin = begins k low before in
        let stop = stops k here inside apart in
        let there : nat_lt start k ≡ true = lt-ltb start k low in
        rw (begin, stop, there, before, behind, asked) (one k f.integer_consecutive_digit_separator flag)
      where
        one : (n : ℕ) (many flag : Bool) → ((many || (n + 1 == n + 1)) && flag) ≡ flag
        one n true flag = refl
        one n false true = grind (arith, nat_tests)
        one n false false = and-false (n + 1 == n + 1)

    flagged : flag_for f pre true true ≡ true
    unfolding flag_for
    flagged = internal

    abbrev many : Bool
    many = f.integer_consecutive_digit_separator

    passes : (k : ℕ) → Parts many sep r text start k → is_in_passing_run f pre r text start k ≡ true
    unfolding run_passes
    passes k p =
        let from = p.from in
        let to = p.to in
        let behind = p.behind in
        let low = p.low in
        let high = p.high in
        let before = p.before in
        let after = p.after in
        let inside = part_within r text to after in
        let begin : run_begin f text start k ≡ from =
        begin_of_is (separator_at f text) start from k (omega arith) low
        (λ i l h. separator_here i (p.run i l (omega arith))) (λ l. digit_apart (from - 1) before) in
        let stop : run_stop f text k ≡ to =
        stop_of_is (separator_at f text) k (length text) to (omega arith) (record {
          low = omega arith;
          high = omega arith;
          holds = λ i l h. separator_here i (p.run i (omega arith) h);
          fails = λ l. digit_apart to after;
        }) in
        let there : nat_lt start from ≡ true = lt-ltb start from behind in
        let may = some_or_one many to from p.alone in
        rw (begin, stop, there, before, after, flagged, may) refl
      where
        some_or_one : (many : Bool) (to from : ℕ) → (many ≡ false → to ≡ from + 1) → (many || (to == from + 1)) ≡ true
        some_or_one true to from alone = refl
        some_or_one false to from alone = let e = alone refl in grind (arith, nat_tests)

    belongs : (n : ℕ) → AreGroups many sep r text start n → HoldsBetween (is_in_numeral f pre r text start) start n
    belongs n groups k low high = elim (true_or_false (has_digit r text k)) [
      | inl is ↦ digit_belongs k (digit_at r text k) refl is
      | inr none ↦
          let p = groups k low high none in
          belongs_separator f pre r text start k (separator_here k (p.run k p.low p.high)) (none_there k none) (passes k p)
    ]

    first_digit : (n : ℕ) → start < n → AreGroups many sep r text start n → has_digit r text start ≡ true
    first_digit n some groups = elim (true_or_false (has_digit r text start)) [
      | inl is ↦ is
      | inr none ↦
          let p = groups start (omega arith) some none in
          let behind = p.behind in
          let low = p.low in
          absurd (omega arith)
    ]

    -- groups, and behind them neither a digit nor a separator
    pub groups_read : (number n : ℕ) → 1 ≤ r → number < 2 ^ 64 → WritesGroups many sep r text start number n
        → has_digit r text n ≡ false → separator_at f text n ≡ false
        → partial f (integer_type 128 false) text ≡ Ok (pos number, n)
    groups_read number n positive low w none apart =
        read_by number n (record {
          some = w.some;
          within = w.within;
          first = first_digit n w.some w.groups;
          holds = belongs n w.groups;
          fails = belongs_other f pre r text start n apart (none_there n none);
          writes = w.writes;
        }) positive low

    -- groups, and behind them a separator alone, which no digit follows
    module _ (number n : ℕ) (positive : 1 ≤ r) (low : number < 2 ^ 64) (w : WritesGroups many sep r text start number n)
        (here : slice_get text n ≡ Some sep) (inside : n < length text) (behind : has_digit r text (n + 1) ≡ false)
        (apart : separator_at f text (n + 1) ≡ false) where
      no_digit : digit_at r text n ≡ None
      no_digit = none_at r sep text n (s.separator sep own) here

      by_trailing : (flag : Bool) → f.integer_trailing_digit_separator ≡ flag → is_in_passing_run f pre r text start n ≡ flag
      unfolding flag_for
      by_trailing flag asked =
          alone_by_flag n false flag w.some inside here (w.last (ap is_some no_digit)) behind apart asked

      left_out : f.integer_trailing_digit_separator ≡ false → is_in_numeral f pre r text start n ≡ false
      unfolding is_in_numeral
      left_out asked = rw (no_digit, by_trailing false asked, and-false) refl

      pub trailing_left : f.integer_trailing_digit_separator ≡ false
          → partial f (integer_type 128 false) text ≡ Ok (pos number, n)
      trailing_left asked =
          read_by number n (record {
            some = w.some;
            within = w.within;
            first = first_digit n w.some w.groups;
            holds = belongs n w.groups;
            fails = left_out asked;
            writes = w.writes;
          }) positive low

      with_last : f.integer_trailing_digit_separator ≡ true
          → HoldsBetween (is_in_numeral f pre r text start) start (n + 1)
      with_last asked k from to = elim (cases_lt k n) [
        | inl lt ↦ belongs n w.groups k from lt
        | inr ge ↦
            let e : n ≡ k = omega arith in
            subst (λ (j : ℕ). is_in_numeral f pre r text start j ≡ true) e
            (belongs_separator f pre r text start n (separator_here n here) no_digit (by_trailing true asked))
      ]

      pub trailing_taken : f.integer_trailing_digit_separator ≡ true
          → partial f (integer_type 128 false) text ≡ Ok (pos number, n + 1)
      trailing_taken asked =
          let some = w.some in
          read_by number (n + 1) (record {
            some = omega arith;
            within = omega arith;
            first = first_digit n w.some w.groups;
            holds = with_last asked;
            fails = belongs_other f pre r text start (n + 1) apart (none_there (n + 1) behind);
            writes = w.writes ∙ sym (other_more r text start n (omega arith) no_digit);
          }) positive low

-- ---- decimal digits

-- what the standard format reads is a row
pub standard_row : (text : List ℕ) (v n : ℕ) → is_some (digit 10 (slice_index text 0)) ≡ true
    → partial standard (integer_type 128 false) text ≡ Ok (pos v, n) → WritesRow 10 text 0 v n
unfolding numeral_in number_between
standard_row [] v n first read = absurd (false≢true first)
standard_row (c ∷ cs) v n first read = by_digit (digit 10 c) refl first
  where
    text : List ℕ
    text = c ∷ cs

    number_is : IsStandard text (pos v) n → pos v ≡ pos (number_between 10 text 0 n)
    number_is s =
        let x = numeral_in standard false 10 text 0 in
        let end = s.end in
        let same : x.digits ≡ values 10 text 0 n = rw end refl in
        sym s.value ∙ ap (λ ds. pos (positional_value 10 ds)) (take-length x.digits ∙ same)

    by_digit : (found : Option ℕ) → digit 10 c ≡ found → is_some found ≡ true → WritesRow 10 text 0 v n
    by_digit None none some = absurd (false≢true some)
    by_digit (Some d) is some =
        let s = standard_told c d cs (pos v) n is read in
        record {
          some = some_digits c d cs n is s.row;
          within = s.row.high;
          digits = s.row.holds;
          writes = ap nat_abs (number_is s);
        }

-- a digit or the separator follows the first digit
follows : (f : Format) (text : List ℕ) (v n : ℕ) → WritesRow 10 text 0 v n → separator_at f text n ≡ true
    → (is_some (digit_at 10 text 1) || separator_at f text 1) ≡ true
follows f text v n row here = elim (cases_lt 1 n) [
  | inl lt ↦ let is = row.digits 1 (omega arith) lt in rw is refl
  | inr ge ↦
      let some = row.some in
      let e : n ≡ 1 = omega arith in
      either (is_some (digit_at 10 text 1)) (separator_at f text 1) (sym (ap (separator_at f text) e) ∙ here)
]
  where
    either : (a b : Bool) → b ≡ true → (a || b) ≡ true
    either true b e = refl
    either false b e = e

-- so no rule for zeros is left for it
no_rule : (f : Format) (text : List ℕ) → zero_leads f text ≡ false → (slice_index text 0 == 48) ≡ true
    → (is_some (digit_at 10 text 1) || separator_at f text 1) ≡ true
    → (f.no_integer_leading_zeros || f.literal_octal_zero) ≡ false
no_rule f text quiet nil more = by_tests (f.no_integer_leading_zeros || f.literal_octal_zero) _ _ nil more quiet
  where
    by_tests : (rule first next : Bool) → first ≡ true → next ≡ true → ((first && rule) && next) ≡ false → rule ≡ false
    by_tests false first next a b e = refl
    by_tests true true true a b e = e
    by_tests true false next a b e = absurd (false≢true a)
    by_tests true true false a b e = absurd (false≢true b)

both_off : (a b : Bool) → (a || b) ≡ false → (a ≡ false) × (b ≡ false)
both_off false false e = (refl, refl)
both_off false true e = absurd (false≢true (sym e))
both_off true b e = absurd (false≢true (sym e))

pub decimal_starts : (f : Format) (text : List ℕ) (sep v n : ℕ) → ReadsDecimals f → IsNone (fault f)
    → prefix_radix f text 0 ≡ None → zero_leads f text ≡ false → f.digit_separator ≡ Some sep
    → WritesRow 10 text 0 v n → slice_get text n ≡ Some sep → StartsAt f false 10 text 0
unfolding digit_at
decimal_starts f [] sep v n decimal valid bare quiet own row here =
    let some = row.some in let within = row.within in absurd (omega arith)
decimal_starts f (c ∷ cs) sep v n decimal valid bare quiet own row here =
    by_digit (digit 10 c) refl (row.digits 0 (omega arith) row.some)
  where
    text : List ℕ
    text = c ∷ cs

    same : separator_at f text n ≡ true
    same = own_here f text n sep own here

    rules : (c == 48) ≡ true → (f.no_integer_leading_zeros ≡ false) × (f.literal_octal_zero ≡ false)
    rules nil = both_off _ _ (no_rule f text quiet nil (follows f text v n row same))

    no_octal : (nil : Bool) → (c == 48) ≡ nil → octal_zero_at f text 0 ≡ false
    no_octal true e = not_asked f text 0 (rules e).1
    no_octal false e = no_octal_zero f c cs e

    by_digit : (found : Option ℕ) → digit 10 c ≡ found → is_some found ≡ true → StartsAt f false 10 text 0
    by_digit None none some = absurd (false≢true some)
    by_digit (Some d) is some = record {
      head = head_is_bare f (integer_type 128 false) c d cs decimal (no_octal (c == 48) refl) is bare;
      zeros = λ pre nil. (rules nil).0;
      separator = subst (λ (k : ℕ). (byte : ℕ) → f.digit_separator ≡ Some byte → digit k byte ≡ None) decimal.radix
          (fits f valid).separator;
      no_suffix = decimal.no_suffix;
    }

-- ---- behind a prefix

named_head : (f : Format) (t : IntegerType) (r : ℕ) (rest : List ℕ) → ReadsDecimals f
    → named_radix f (slice_get (48 ∷ rest) 1) ≡ Some r
    → head_of f t (48 ∷ rest)
    ≡ Ok (record { is_negative = false; is_prefixed = true; is_octal = false; start = 2; radix = r })
unfolding head_of prefix_radix are_same
named_head f t r rest decimal named =
    let sign_is = sign_of_digit_under f t 10 48 0 rest decimal.no_sign refl in
    rw (sign_is, named) refl

pub prefix_starts : (f : Format) (text : List ℕ) (r : ℕ) → ReadsDecimals f → IsNone (fault f) → slice_index text 0 ≡ 48
    → named_radix f (slice_get text 1) ≡ Some r → StartsAt f true r text 2
prefix_starts f [] r decimal valid nil named = absurd (omega (arith, nil))
prefix_starts f (c ∷ cs) r decimal valid nil named =
    subst (λ (k : ℕ). named_radix f (slice_get (k ∷ cs) 1) ≡ Some r → StartsAt f true r (k ∷ cs) 2) (sym nil)
    (λ named. record {
      head = named_head f (integer_type 128 false) r cs decimal named;
      zeros = λ pre first. absurd (false≢true (sym pre));
      separator = (fits_named f (slice_get (48 ∷ cs) 1) r valid named).separator;
      no_suffix = decimal.no_suffix;
    }) named

-- the row behind a place
pub first_row : (r : ℕ) (text : List ℕ) (start number stop : ℕ) → has_digit r text start ≡ true
    → has_digit r text stop ≡ false → start ≤ stop → stop ≤ length text → AreDigitsBetween r text start stop
    → WritesOn r text 0 start number stop → WritesRow r text start number stop
first_row r text start number stop first none low high digits writes = record {
  some = elim (cases_lt start stop) [
    | inl lt ↦ lt
    | inr ge ↦
        let e : stop ≡ start = omega arith in
        absurd (false≢true (sym none ∙ ap (has_digit r text) e ∙ first))
  ];
  within = high;
  digits = digits;
  writes = writes start (omega arith) (nothing_between r text start);
}

-- a letter that tells a radix
pub named_by_letter : (f : Format) (text : List ℕ) (byte letter r : ℕ) → ReadsDecimals f → f.literal_prefixes ≡ true
    → slice_get text 1 ≡ Some byte
    → literal_radix f.case_sensitive_base_prefix (Some byte) ≡ literal_radix true (Some letter)
    → literal_radix true (Some letter) ≡ Some r → named_radix f (slice_get text 1) ≡ Some r
unfolding named_radix is_affix
named_by_letter f text byte letter r decimal asked second same is =
    let none = decimal.no_prefix in
    rw (second, none, asked, same, is) refl

other_letter : (l : ℕ) → l ≢ 120 → l ≢ 111 → l ≢ 98 → literal_radix true (Some l) ≡ None
unfolding literal_radix is_affix matches
other_letter l x o b = grind (arith, nat_tests)

-- or none
pub none_by_letter : (f : Format) (text : List ℕ) (byte letter : ℕ) → ReadsDecimals f → slice_get text 1 ≡ Some byte
    → literal_radix f.case_sensitive_base_prefix (Some byte) ≡ literal_radix true (Some letter)
    → letter ≢ 120 → letter ≢ 111 → letter ≢ 98 → prefix_radix f text 0 ≡ None
none_by_letter f text byte letter decimal second same x o b =
    bare_by_letter f text decimal (λ asked. ap (literal_radix f.case_sensitive_base_prefix) second ∙ same
    ∙ other_letter letter x o b)

-- a capital letter where case doesn't matter, and any other byte
pub same_letter : (b : ℕ) → 65 ≤ b → b ≤ 90 → literal_radix false (Some b) ≡ literal_radix true (Some (b + 32))
unfolding literal_radix is_affix matches
same_letter b low high = grind (arith, nat_tests)

pub same_byte : (b : ℕ) → b < 65 → literal_radix false (Some b) ≡ literal_radix true (Some b)
unfolding literal_radix is_affix matches
same_byte b low = grind (arith, nat_tests)

pub same_small : (b : ℕ) → 90 < b → literal_radix false (Some b) ≡ literal_radix true (Some b)
unfolding literal_radix is_affix matches
same_small b low = grind (arith, nat_tests)

-- the radix behind a letter
pub of_x : literal_radix true (Some 120) ≡ Some 16
unfolding literal_radix is_affix matches
of_x = refl

pub of_o : literal_radix true (Some 111) ≡ Some 8
unfolding literal_radix is_affix matches
of_o = refl

pub of_b : literal_radix true (Some 98) ≡ Some 2
unfolding literal_radix is_affix matches
of_b = refl
