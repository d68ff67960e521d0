-- What the parsers answer where a numeral of digits, with separators between them, stands behind sign and prefix.
use Rattle.std.proofs.Common.{◌≡◌, ℕ, ◌+◌, ◌-◌, ◌<◌, ◌≤◌, Bool, true, false, not, ◌&&◌, ◌||◌, cond, List, [], ◌∷◌, ◌++◌, length, refl, sym, ap, ◌∙◌, subst, arith, Option, Some, None, IsNone, is_some, Ok, Err, Result}
use Rattle.std.specs.Prelude.{◌==◌, nat_le, nat_lt, slice_index, slice_range, ℤ, IfSome}
use Rattle.std.proofs.Math.Bool.{and-false}
use Rattle.std.proofs.lemmas.Bool.{eqb-true, false≢true, le-ltb, lt-ltb, ne_eqb}
use Rattle.std.proofs.lemmas.Bool.Decides.{nat_tests}
use Rattle.std.proofs.lemmas.List.{take_all}
use Rattle.std.proofs.lemmas.Option.{slice_get_past}
use Rattle.lexical_util.specs.declared.error.Error.{Error}
use Rattle.lexical_util.specs.declared.error.Error.TheVariants.{InvalidLeadingZeros}
use Rattle.lexical_util.specs.Digit.{digit}
use Rattle.lexical_util.specs.Format.{Format}
use Rattle.lexical_util.specs.Number.{IntegerType, is_number}
use Rattle.lexical_util.specs.Validity.{fault}
use Rattle.lexical_parse_integer.specs.Affixes.{is_affix, numeral_stop, octal_zero_at, prefix_radix, suffix_at}
use Rattle.lexical_parse_integer.specs.Grammar.{common_faults, complete, complete_faults, fault_if, first_fault_or, prefix_fault, range_fault, zero_fault}
use Rattle.lexical_parse_integer.specs.Head.{Head, head_after, head_behind, head_of, sign, chooses_radix}
use Rattle.lexical_parse_integer.specs.Grouped.{AreGrouped, AreWorth, digits_among, is_digit_in, stop_after}
use Rattle.lexical_parse_integer.specs.Numeral.{Numeral, digit_count, numeral_in, numeral_value, numeral_behind}
use Rattle.lexical_parse_integer.specs.Plain.{keeps_zero_rule}
use Rattle.lexical_parse_integer.specs.Runs.{digits_between, end_of, is_in_numeral, places}
use Rattle.lexical_digits.specs.Value.{positional_value, with_sign}
use Rattle.lexical_digits.specs.WrittenNumbers.{StandsFor}
use Rattle.lexical_parse_integer.proofs.grammar.FrontValues.{fitting_fault}
use Rattle.lexical_parse_integer.proofs.grammar.NumeralEnd.{belongs_other}
use Rattle.lexical_parse_integer.proofs.grammar.RangeOfFronts.{shorter_fronts_fit}
use Rattle.lexical_parse_integer.proofs.punctuated.DigitsAmong.{digits_alone, digits_worth, row_grouped, values_between}
use Rattle.lexical_parse_integer.proofs.punctuated.GroupedNumerals.{grouped_end}
use Rattle.lexical_parse_integer.proofs.reading.FormatBytes.{IsFit, fits, fits_octal, fits_prefix}
use Rattle.lexical_parse_integer.proofs.reading.NumeralSteps.{places_count}
use Rattle.lexical_parse_integer.proofs.reading.ParserAnswers.{sign_minus}
use Rattle.lexical_parse_integer.proofs.reading.Soundness.{separator_no_digit, suffix_no_digit, suffix_no_separator}
use Rattle.lexical_parse_integer.proofs.words.WordsInTexts.{StandsAt, length-ahead, stands_ahead}

-- ---- the effective radix is fit

pub fits_head : (f : Format) (t : IntegerType) (text : List ℕ) (h : Head) → IsNone (fault f) → head_of f t text ≡ Ok h → IsFit f h.radix
unfolding head_of
fits_head f t text h valid is = by_sign (sign f t text) is
  where
    by_octal : (place : ℕ) (b : Bool) → octal_zero_at f text place ≡ b → IsFit f (cond b 8 f.mantissa_radix)
    by_octal place true e = fits_octal f text place valid e
    by_octal place false e = fits f valid

    by_prefix : (s : Bool × ℕ) (found : Option ℕ) → prefix_radix f text s.1 ≡ found → IsFit f (head_behind f text s found).radix
    by_prefix s (Some r) e = fits_prefix f text s.1 r valid e
    by_prefix s None e = by_octal s.1 (octal_zero_at f text s.1) refl

    by_sign : (signed : Result (Bool × ℕ) Error) → head_after f text signed ≡ Ok h → IsFit f h.radix
    by_sign (Err e) told = cc
    by_sign (Ok s) told =
        let same : head_behind f text s (prefix_radix f text s.1) ≡ h = cc in
        subst (λ (g : Head). IsFit f g.radix) same (by_prefix s (prefix_radix f text s.1) refl)

-- a minus is read for signed types alone
pub head_signed : (f : Format) (t : IntegerType) (text : List ℕ) (h : Head) → head_of f t text ≡ Ok h → h.is_negative ≡ true → t.is_signed ≡ true
unfolding head_of
head_signed f t text h is minus = by_sign (sign f t text) refl is
  where
    by_prefix : (s : Bool × ℕ) (found : Option ℕ) → (head_behind f text s found).is_negative ≡ s.0
    by_prefix s (Some r) = refl
    by_prefix s None = refl

    by_sign : (signed : Result (Bool × ℕ) Error) → sign f t text ≡ signed → head_after f text signed ≡ Ok h → t.is_signed ≡ true
    by_sign (Err e) here told = cc
    by_sign (Ok s) here told =
        let same : head_behind f text s (prefix_radix f text s.1) ≡ h = cc in
        let is_negative : s.0 ≡ true = sym (by_prefix s (prefix_radix f text s.1)) ∙ ap (λ (g : Head). g.is_negative) same ∙ minus in
        sign_minus f t text s.1 (here ∙ ap (λ (b : Bool). Ok (b, s.1)) is_negative)

-- a type with a minus is signed
pub signed_minus : (f : Format) (t : IntegerType) (text : List ℕ) (s : Bool × ℕ) → sign f t text ≡ Ok s → s.0 ≡ true → t.is_signed ≡ true
signed_minus f t text s signed minus = sign_minus f t text s.1 (signed ∙ ap (λ (b : Bool). Ok (b, s.1)) minus)

-- the head by its parts
pub head_named : (f : Format) (t : IntegerType) (text : List ℕ) (s : Bool × ℕ) (r : ℕ) → sign f t text ≡ Ok s → Some r ≡ prefix_radix f text s.1 → head_of f t text ≡ Ok (record { is_negative = s.0; is_prefixed = true; is_octal = false; start = s.1 + 2; radix = r })
unfolding head_of
head_named f t text s r signed here = let here' : prefix_radix f text s.1 ≡ Some r = sym here in rw (signed, here') refl

pub head_bare : (f : Format) (t : IntegerType) (text : List ℕ) (s : Bool × ℕ) (octal : Bool) (r : ℕ) → sign f t text ≡ Ok s → None ≡ prefix_radix f text s.1 → octal ≡ octal_zero_at f text s.1 → r ≡ cond octal 8 f.mantissa_radix →
    head_of f t text ≡ Ok (record { is_negative = s.0; is_prefixed = false; is_octal = octal; start = s.1; radix = r })
unfolding head_of
head_bare f t text s octal r signed none octal_is radix_is =
    let none' : prefix_radix f text s.1 ≡ None = sym none in
    let told : head_of f t text ≡ Ok (record { is_negative = s.0; is_prefixed = false; is_octal = octal_zero_at f text s.1; start = s.1; radix = cond (octal_zero_at f text s.1) 8 f.mantissa_radix }) = rw (signed, none') refl in
    told ∙ ap (λ (b : Bool). Ok (record { is_negative = s.0; is_prefixed = false; is_octal = b; start = s.1; radix = cond b 8 f.mantissa_radix })) (sym octal_is)
    ∙ ap (λ (n : ℕ). Ok (record { is_negative = s.0; is_prefixed = false; is_octal = octal; start = s.1; radix = n })) (sym radix_is)

-- ---- the numeral

some_among : (r : ℕ) (bytes : List ℕ) → 0 < length bytes → is_digit_in r bytes 0 ≡ true → 0 < length (digits_among r bytes)
some_among r [] some first = absurd (omega arith)
some_among r (c ∷ cs) some first = by_digit (digit r c) refl first
  where
    by_digit : (o : Option ℕ) → digit r c ≡ o → is_some (digit r c) ≡ true → 0 < length (digits_among r (c ∷ cs))
    by_digit None e t = absurd (false≢true (sym (ap is_some e) ∙ t))
    by_digit (Some d) e t = rw e (omega arith)

few_among : (r : ℕ) (bytes : List ℕ) → length (digits_among r bytes) ≤ length bytes
few_among r [] = omega arith
few_among r (c ∷ cs) = by_digit (digit r c) refl (few_among r cs)
  where
    by_digit : (o : Option ℕ) → digit r c ≡ o → length (digits_among r cs) ≤ length cs → length (digits_among r (c ∷ cs)) ≤ length (c ∷ cs)
    by_digit None e low = rw e (omega arith)
    by_digit (Some d) e low = rw e (omega arith)

numeral_digits : (f : Format) (pre : Bool) (r : ℕ) (text bytes : List ℕ) (start : ℕ) → StandsAt text bytes start → end_of f pre r text start ≡ start + length bytes → (numeral_in f pre r text start).digits ≡ digits_among r bytes
unfolding numeral_in digits_between
numeral_digits f pre r text bytes start s end =
    let back : end_of f pre r text start - start ≡ length bytes = omega arith in
    rw back (values_between r text bytes start s)

numeral_stops : (f : Format) (pre : Bool) (r : ℕ) (text : List ℕ) (start end : ℕ) → end_of f pre r text start ≡ end → 0 < length (places f pre r text start) → (numeral_in f pre r text start).stop ≡ stop_after f text end
unfolding numeral_in numeral_stop
numeral_stops f pre r text start end is some =
    let more : nat_lt 0 (length (places f pre r text start)) ≡ true = lt-ltb 0 (length (places f pre r text start)) some in
    rw (more, is) refl

-- ---- no fault

zero_byte : (c r : ℕ) → digit r c ≡ Some 0 → c ≡ 48
zero_byte c r is = grind (arith, nat_tests)

no_leading_zero : (f : Format) (r : ℕ) (bytes : List ℕ) → 0 < length bytes → is_digit_in r bytes 0 ≡ true → keeps_zero_rule f bytes ≡ true →
    ((f.no_integer_leading_zeros && nat_le 2 (length (digits_among r bytes))) && (slice_index (digits_among r bytes) 0 == 0)) ≡ false
no_leading_zero f r [] some first rule = absurd (omega arith)
no_leading_zero f r (c ∷ cs) some first rule = by_digit (digit r c) refl first
  where
    unnot : (a : Bool) → not a ≡ true → a ≡ false
    unnot true e = sym e
    unnot false e = refl

    by_size : (a b m : Bool) → (m ≡ true → b ≡ true) → ((a && b) && true) ≡ false → ((a && m) && true) ≡ false
    by_size false b m up e = refl
    by_size true b false up e = refl
    by_size true true true up e = e
    by_size true false true up e = sym (up refl)

    by_zero : (d : ℕ) (b : Bool) → digit r c ≡ Some d → (d == 0) ≡ b → ((f.no_integer_leading_zeros && nat_le 2 (length (d ∷ digits_among r cs))) && b) ≡ false
    by_zero d false is e = rw (and-false) refl
    by_zero d true is e =
        let none : d ≡ 0 = eqb-true d 0 e in
        let byte : c ≡ 48 = zero_byte c r (is ∙ ap Some none) in
        let test : (c == 48) ≡ true = ap (λ (b : ℕ). b == 48) byte in
        let told : ((f.no_integer_leading_zeros && nat_le 2 (length (c ∷ cs))) && true) ≡ false =
        subst (λ (x : Bool). ((f.no_integer_leading_zeros && nat_le 2 (length (c ∷ cs))) && x) ≡ false) test (unnot _ rule) in
        let few = few_among r cs in
        by_size f.no_integer_leading_zeros (nat_le 2 (length (c ∷ cs))) (nat_le 2 (length (d ∷ digits_among r cs))) (λ e. grind (arith, nat_tests)) told

    by_digit : (o : Option ℕ) → digit r c ≡ o → is_some (digit r c) ≡ true →
        ((f.no_integer_leading_zeros && nat_le 2 (length (digits_among r (c ∷ cs)))) && (slice_index (digits_among r (c ∷ cs)) 0 == 0)) ≡ false
    by_digit None e t = absurd (false≢true (sym (ap is_some e) ∙ t))
    by_digit (Some d) e t = rw e (by_zero d (d == 0) e refl)

zero_rule : (f : Format) (r : ℕ) (bytes : List ℕ) (is_prefixed : Bool) (x : Numeral) → x.digits ≡ digits_among r bytes → 0 < length bytes → is_digit_in r bytes 0 ≡ true → (is_prefixed || keeps_zero_rule f bytes) ≡ true → zero_fault f is_prefixed x ≡ None
zero_rule f r bytes is_prefixed x digits some first rule = told is_prefixed rule
  where
    told : (b : Bool) → (b || keeps_zero_rule f bytes) ≡ true → zero_fault f b x ≡ None
    told true e = rw (and-false) refl
    told false e =
        let none = no_leading_zero f r bytes some first e in
        let same : (((f.no_integer_leading_zeros && true) && nat_le 2 (digit_count x)) && (slice_index x.digits 0 == 0)) ≡ false = rw digits (by_asked f.no_integer_leading_zeros (nat_le 2 (length (digits_among r bytes))) (slice_index (digits_among r bytes) 0 == 0) none) in
        ap (λ (b : Bool). fault_if b (InvalidLeadingZeros (slice_index x.places 0))) same
      where
        by_asked : (a b c : Bool) → ((a && b) && c) ≡ false → (((a && true) && b) && c) ≡ false
        by_asked true b c e = e
        by_asked false b c e = refl

-- ---- the answers

complete_by : Format → IntegerType → List ℕ → Head → Numeral → Result ℤ Error
complete_by f t text h x = first_fault_or (common_faults f t text h x ++ complete_faults f text x) (numeral_value h.is_negative x)

complete_is : (f : Format) (t : IntegerType) (text : List ℕ) (h : Head) → head_of f t text ≡ Ok h → complete f t text ≡ complete_by f t text h (numeral_behind f text h)
unfolding complete complete_by
complete_is f t text h head = rw head refl

-- digits with separators between them, behind a sign and a prefix
pub record IsPunctuated (f : Format) (t : IntegerType) (text : List ℕ) (h : Head) (bytes : List ℕ) (value : ℤ) : Type 0 where
  pub head : head_of f t text ≡ Ok h
  pub fit : IsFit f h.radix
  pub stands : StandsAt text bytes h.start
  pub grouped : AreGrouped f h.radix bytes
  pub rule : (chooses_radix h || keeps_zero_rule f bytes) ≡ true
  pub worth : AreWorth t h.radix h.is_negative bytes value

module _ (f : Format) (t : IntegerType) (text : List ℕ) (h : Head) (bytes : List ℕ) (value : ℤ) (m : IsPunctuated f t text h bytes value) where
  abbrev x : Numeral
  x = numeral_behind f text h

  abbrev end : ℕ
  end = h.start + length bytes

  within : end ≤ length text
  within = m.stands.within

  -- nothing that belongs follows
  abbrev IsOver : Type 0
  IsOver = end < length text → is_in_numeral f h.is_prefixed h.radix text h.start end ≡ false

  digits_are : IsOver → x.digits ≡ digits_among h.radix bytes
  digits_are over = numeral_digits f h.is_prefixed h.radix text bytes h.start m.stands (grouped_end f h.is_prefixed h.radix text bytes h.start (separator_no_digit f h.radix text m.fit.separator) m.stands m.grouped over)

  some_digits : IsOver → 0 < digit_count x
  some_digits over = let some = some_among h.radix bytes m.grouped.some m.grouped.first in rw (digits_are over) some

  stop_is : IsOver → x.stop ≡ stop_after f text end
  stop_is over =
      let some = some_digits over in
      let count = places_count f h.is_prefixed h.radix text h.start in
      numeral_stops f h.is_prefixed h.radix text h.start end (grouped_end f h.is_prefixed h.radix text bytes h.start (separator_no_digit f h.radix text m.fit.separator) m.stands m.grouped over) (omega arith)

  radix_is : x.radix ≡ h.radix
  unfolding numeral_in
  radix_is = refl

  value_is : IsOver → numeral_value h.is_negative x ≡ value
  value_is over =
      let all : numeral_value h.is_negative x ≡ with_sign h.is_negative (positional_value x.radix x.digits) = ap (λ (ds : List ℕ). with_sign h.is_negative (positional_value x.radix ds)) (take_all (digit_count x) x.digits (omega arith)) in
      all ∙ ap (λ (r : ℕ). with_sign h.is_negative (positional_value r x.digits)) radix_is ∙ ap (λ (ds : List ℕ). with_sign h.is_negative (positional_value h.radix ds)) (digits_are over) ∙ sym m.worth.worth

  no_prefix_fault : prefix_fault text h ≡ None
  no_prefix_fault =
      let some = m.grouped.some in
      let low = within in
      let more : (h.start == length text) ≡ false = ne_eqb h.start (length text) (λ e. omega arith) in
      rw (more, and-false) refl

  no_range_fault : IsOver → range_fault t h.is_negative x ≡ None
  no_range_fault over =
      let radix = m.fit.is_radix.low in
      let positive : 1 ≤ x.radix = let e = radix_is in omega arith in
      fitting_fault t h.is_negative x (shorter_fronts_fit t h.is_negative x (digit_count x) positive (ap (is_number t) (value_is over) ∙ m.worth.fits))

  -- the whole text
  whole_with : IsOver → stop_after f text end ≡ length text → complete f t text ≡ Ok value
  unfolding complete_by
  whole_with over reached =
      let zeros : zero_fault f (chooses_radix h) x ≡ None = zero_rule f h.radix bytes (chooses_radix h) x (digits_are over) m.grouped.some m.grouped.first m.rule in
      let some = some_digits over in
      let stop : x.stop ≡ length text = stop_is over ∙ reached in
      let ended : nat_lt x.stop (length text) ≡ false = le-ltb x.stop (length text) (omega arith) in
      let there : (digit_count x == 0) ≡ false = ne_eqb (digit_count x) 0 (λ e. omega arith) in
      let answer : complete_by f t text h x ≡ Ok (numeral_value h.is_negative x) = rw (no_prefix_fault, zeros, no_range_fault over, ended, there, and-false) refl in
      complete_is f t text h m.head ∙ answer ∙ ap (λ (z : ℤ). Ok z) (value_is over)

  -- before the text's end only a suffix stands
  over_at_suffix : stop_after f text end ≡ length text → IsOver
  over_at_suffix reached more = by_suffix (suffix_at f text end) refl reached
    where
      by_suffix : (b : Bool) → suffix_at f text end ≡ b → cond b (end + 1) end ≡ length text → is_in_numeral f h.is_prefixed h.radix text h.start end ≡ false
      by_suffix false e at = absurd (omega arith)
      by_suffix true e at = belongs_other f h.is_prefixed h.radix text h.start end (suffix_no_separator f text m.fit.suffix_separator end e) (suffix_no_digit f h.radix text m.fit.suffix_digit end e)

  pub whole_punctuated : stop_after f text end ≡ length text → complete f t text ≡ Ok value
  whole_punctuated reached = whole_with (over_at_suffix reached) reached

-- behind the text's end no suffix stands
pub no_suffix_past : (f : Format) (text : List ℕ) → stop_after f text (length text) ≡ length text
unfolding suffix_at is_affix
no_suffix_past f text = rw (slice_get_past text (length text) (omega arith)) (by_suffix f.base_suffix)
  where
    by_suffix : (o : Option ℕ) → cond (is_affix f.case_sensitive_base_suffix o None) (length text + 1) (length text) ≡ length text
    by_suffix (Some byte) = refl
    by_suffix None = refl

-- ---- the whole text behind its head

-- what follows from two facts of a value that was found
pub if_both : {X : Type 0} {P Q R : X → Type 0} (found : Option X) → ((x : X) → P x → Q x → R x) → IfSome found P → IfSome found Q → IfSome found R
if_both None step p q = tt
if_both (Some x) step p q = step x p q

pub valid_from : (o : Option Error) → o ≡ None → IsNone o
valid_from o e = rw e refl

-- groups of digits
pub groups_read : (f : Format) (t : IntegerType) (text : List ℕ) (h : Head) (value : ℤ) (r : ℕ) → IsNone (fault f) → head_of f t text ≡ Ok h → h.radix ≡ r → h.start < length text →
    (chooses_radix h || keeps_zero_rule f (slice_range text h.start (length text))) ≡ true → AreGrouped f r (slice_range text h.start (length text)) → AreWorth t r h.is_negative (slice_range text h.start (length text)) value → complete f t text ≡ Ok value
groups_read f t text h value r valid head radix some rule grouped worth =
    let bytes : List ℕ = slice_range text h.start (length text) in
    let size : h.start + (length text - h.start) ≡ length text = omega arith in
    let stands : StandsAt text bytes h.start = subst (λ (k : ℕ). StandsAt text (slice_range text h.start k) h.start) size (stands_ahead text h.start (length text - h.start) (omega arith)) in
    let count : length bytes ≡ length text - h.start = subst (λ (k : ℕ). length (slice_range text h.start k) ≡ length text - h.start) size (length-ahead text h.start (length text - h.start) (omega arith)) in
    let place : h.start + length bytes ≡ length text = omega arith in
    let m : IsPunctuated f t text h bytes value = record {
      head = head;
      fit = fits_head f t text h valid head;
      stands = stands;
      grouped = subst (λ (n : ℕ). AreGrouped f n bytes) (sym radix) grouped;
      rule = rule;
      worth = subst (λ (n : ℕ). AreWorth t n h.is_negative bytes value) (sym radix) worth;
    } in
    whole_punctuated f t text h bytes value m (ap (stop_after f text) place ∙ no_suffix_past f text)

-- digits alone
pub digits_read : (f : Format) (t : IntegerType) (text : List ℕ) (h : Head) (value : ℤ) (r : ℕ) → IsNone (fault f) → head_of f t text ≡ Ok h → h.radix ≡ r → h.start < length text →
    (chooses_radix h || keeps_zero_rule f (slice_range text h.start (length text))) ≡ true → StandsFor t r h.is_negative (slice_range text h.start (length text)) value → complete f t text ≡ Ok value
digits_read f t text h value r valid head radix some rule stands =
    let bytes : List ℕ = slice_range text h.start (length text) in
    let size : h.start + (length text - h.start) ≡ length text = omega arith in
    let count : length bytes ≡ length text - h.start = subst (λ (k : ℕ). length (slice_range text h.start k) ≡ length text - h.start) size (length-ahead text h.start (length text - h.start) (omega arith)) in
    groups_read f t text h value r valid head radix some rule (row_grouped f r bytes (omega arith) (digits_alone t r h.is_negative bytes value stands)) (digits_worth t r h.is_negative bytes value stands)
