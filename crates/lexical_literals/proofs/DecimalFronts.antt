-- Decimal digits at the front of a text, behind which no separator stands: read as under the standard format.
use Rattle.std.proofs.Common.{◌≡◌, ◌≢◌, ℕ, zero, suc, ◌+◌, ◌<◌, ◌≤◌, Bool, true, false, ◌&&◌, ◌||◌, cond, List, [], ◌∷◌, length, refl, sym, ap, ap₂, ◌∙◌, subst, arith, inl, inr, Option, Some, None, is_some, option_and_then, Ok}
use Rattle.std.specs.Prelude.{◌==◌, nat_le, nat_lt, pos, slice_get, slice_index, ℤ}
use Rattle.std.specs.Option.{unwrap_or}
use Rattle.std.proofs.Math.Bool.{and-false}
use Rattle.std.proofs.lemmas.Bool.{cases_lt, eqb-true, ne_eqb, false≢true}
use Rattle.std.proofs.lemmas.Bool.Decides.{nat_tests}
use Rattle.std.proofs.lemmas.List.FromFn.{length-map-range_with_len}
use Rattle.lexical_util.specs.declared.error.Error.{Error}
use Rattle.lexical_util.specs.Digit.{digit}
use Rattle.lexical_util.specs.Format.{Format, standard}
use Rattle.lexical_util.specs.Number.{IntegerType, integer_type}
use Rattle.lexical_parse_integer.specs.Affixes.{is_affix, literal_radix, named_radix, matches, numeral_stop, octal_zero_at, prefix_radix, suffix_at}
use Rattle.lexical_parse_integer.specs.Grammar.{first_fault_or, partial, range_fault, zero_fault}
use Rattle.lexical_parse_integer.specs.Head.{Head, head_of}
use Rattle.lexical_parse_integer.specs.Numeral.{Numeral, digit_count, numeral_in, numeral_value}
use Rattle.lexical_parse_integer.specs.Runs.{are_same, digit_at, digits_between, end_of, is_in_numeral, separator_at}
use Rattle.lexical_parse_integer.proofs.ForCallers.{EndsRow, end_of_row, has_digit, numeral_in_a_row, row_numeral, IsStop-end_of, IsStop-unique, fitting_fault, shorter_fronts_fit, zero_is_number, sign_of_digit_under, not_asked, head_is}
use Rattle.lexical_literals.specs.Decimal.{ReadsDecimals, zero_leads}

-- ---- the head

-- a head without sign and prefix
abbrev pub bare : Head
bare = record { is_negative = false; is_prefixed = false; is_octal = false; start = 0; radix = 10 }

pub head_is_bare : (f : Format) (t : IntegerType) (c d : ℕ) (cs : List ℕ) → ReadsDecimals f
    → octal_zero_at f (c ∷ cs) 0 ≡ false → digit 10 c ≡ Some d → prefix_radix f (c ∷ cs) 0 ≡ None
    → head_of f t (c ∷ cs) ≡ Ok bare
unfolding head_of
head_is_bare f t c d cs decimal own first none =
    rw (
      sign_of_digit_under f t 10 c d cs decimal.no_sign first,
      none,
      own,
      decimal.radix,
    ) refl

-- ---- the numeral

stands_in : (f : Format) (text : List ℕ) (k : ℕ) → has_digit 10 text k ≡ true → is_in_numeral f false 10 text 0 k ≡ true
unfolding is_in_numeral
stands_in f text k is = rw is refl

stands_not : (f : Format) (text : List ℕ) (k : ℕ) → has_digit 10 text k ≡ false
    → separator_at f text k ≡ false → is_in_numeral f false 10 text 0 k ≡ false
unfolding is_in_numeral
stands_not f text k none apart = rw (none, apart) refl

end_is : (f : Format) (text : List ℕ) (n : ℕ) → EndsRow 10 text 0 n
    → separator_at f text n ≡ false → end_of f false 10 text 0 ≡ n
end_is f text n s apart =
    IsStop-unique (is_in_numeral f false 10 text 0) 0 (length text) _ _ (IsStop-end_of f false 10 text 0 (omega arith))
    (record {
      low = s.low;
      high = s.high;
      holds = λ k low high. stands_in f text k (s.holds k low high);
      fails = λ low. stands_not f text n (s.fails low) apart;
    })

same_numeral : (f : Format) (text : List ℕ) → f.base_suffix ≡ None
    → end_of f false 10 text 0 ≡ end_of standard false 10 text 0
    → numeral_in f false 10 text 0 ≡ numeral_in standard false 10 text 0
unfolding numeral_in numeral_stop suffix_at is_affix
same_numeral f text none same = rw (same, none) refl

-- ---- the answer

ok_parts : {A : Type 0} (a b : Option Error) (w z : A) → first_fault_or (a ∷ b ∷ []) w ≡ Ok z → (a ≡ None) × (w ≡ z)
ok_parts None None w z e = (refl, cc)
ok_parts None (Some x) w z e = cc
ok_parts (Some x) b w z e = cc

-- what the standard answer says: its value and place are those of the numeral, whose value no digit takes out of
-- the type
pub record IsStandard (text : List ℕ) (v : ℤ) (n : ℕ) : Type 0 where
  pub row : EndsRow 10 text 0 n
  pub end : end_of standard false 10 text 0 ≡ n
  pub fits : range_fault (integer_type 128 false) false (numeral_in standard false 10 text 0) ≡ None
  pub value : numeral_value false (numeral_in standard false 10 text 0) ≡ v
  pub stop : (numeral_in standard false 10 text 0).stop ≡ n

standard_head : (t : IntegerType) (c d : ℕ) (cs : List ℕ) → digit 10 c ≡ Some d → head_of standard t (c ∷ cs) ≡ Ok bare
standard_head t c d cs first =
    head_is standard t (c ∷ cs) (false, 0) refl refl refl
    (sign_of_digit_under standard t 10 c d cs refl first)

stop_is : (text : List ℕ) → (numeral_in standard false 10 text 0).stop ≡ end_of standard false 10 text 0
unfolding numeral_in numeral_stop suffix_at is_affix
stop_is text = rw and-false refl

pub standard_told : (c d : ℕ) (cs : List ℕ) (v : ℤ) (n : ℕ) → digit 10 c ≡ Some d
    → partial standard (integer_type 128 false) (c ∷ cs) ≡ Ok (v, n) → IsStandard (c ∷ cs) v n
unfolding partial
standard_told c d cs v n first read =
    let text : List ℕ = c ∷ cs in
    let x : Numeral = numeral_in standard false 10 text 0 in
    let head = standard_head (integer_type 128 false) c d cs first in
    let parts = ok_parts (range_fault (integer_type 128 false) false x) _
    (numeral_value false x, x.stop) (v, n) (rw head at read) in
    let stop : x.stop ≡ n = ap (λ (w : ℤ × ℕ). w.1) parts.1 in
    let end : end_of standard false 10 text 0 ≡ n = sym (stop_is text) ∙ stop in
    record {
      row = subst (λ (k : ℕ). EndsRow 10 text 0 k) end (end_of_row standard false 10 text 0 refl (omega arith));
      end = end;
      fits = parts.0;
      value = ap (λ (w : ℤ × ℕ). w.0) parts.1;
      stop = stop;
    }

-- the first digit is one of the numeral
pub some_digits : (c d : ℕ) (cs : List ℕ) (n : ℕ) → digit 10 c ≡ Some d → EndsRow 10 (c ∷ cs) 0 n → 0 < n
unfolding digit_at
some_digits c d cs zero first s =
    let none : is_some (digit 10 c) ≡ false = s.fails (omega arith) in
    absurd (let there = ap is_some first in false≢true (sym none ∙ there))
some_digits c d cs (suc n) first s = omega arith

numeral_told : (text : List ℕ) (n : ℕ) → EndsRow 10 text 0 n
    → numeral_in standard false 10 text 0 ≡ row_numeral standard text 0 10 n
numeral_told text n s =
    let at_zero : n ≡ 0 + n = omega arith in
    numeral_in_a_row standard false text 0 10 n refl (omega arith) (subst (λ (k : ℕ). EndsRow 10 text 0 k) at_zero s)

size_told : (text : List ℕ) (n : ℕ) → EndsRow 10 text 0 n → digit_count (numeral_in standard false 10 text 0) ≡ n
size_told text n s =
    ap (λ (x : Numeral). digit_count x) (numeral_told text n s)
    ∙ length-map-range_with_len (λ place. unwrap_or (digit_at 10 text place) 0) 0 n

-- ---- a zero in front

-- a digit that isn't 0
no_zero : (c d : ℕ) → digit 10 c ≡ Some d → (c == 48) ≡ false → (d == 0) ≡ false
no_zero c d first other = grind (arith, nat_tests)

first_digit : (c d : ℕ) (cs : List ℕ) (n : ℕ) → 0 < n → digit 10 c ≡ Some d
    → slice_index (row_numeral standard (c ∷ cs) 0 10 n).digits 0 ≡ d
unfolding digit_at
first_digit c d cs zero some first = absurd (omega arith)
first_digit c d cs (suc n) some first = ap (λ o. unwrap_or o 0) first

-- no fault, as the first digit isn't 0
none_by_digit : (f : Format) (x : Numeral) → (slice_index x.digits 0 == 0) ≡ false → zero_fault f false x ≡ None
none_by_digit f x other = rw (other, and-false) refl

-- no fault, as there is but one digit
none_by_count : (f : Format) (x : Numeral) → nat_le 2 (digit_count x) ≡ false → zero_fault f false x ≡ None
none_by_count f x few = rw (few, and-false) refl

-- no fault, as the format has no such rule
none_by_rule : (f : Format) (x : Numeral) → f.no_integer_leading_zeros ≡ false → zero_fault f false x ≡ None
none_by_rule f x none = rw none refl

pub no_octal_zero : (f : Format) (c : ℕ) (cs : List ℕ) → (c == 48) ≡ false → octal_zero_at f (c ∷ cs) 0 ≡ false
unfolding octal_zero_at are_same
no_octal_zero f c cs other = rw other (and-false f.literal_octal_zero)

-- a digit behind which none stands is alone
alone : (text : List ℕ) (n : ℕ) → EndsRow 10 text 0 n → 0 < n → has_digit 10 text 1 ≡ false → n ≡ 1
alone text n s some none = elim (cases_lt 1 n) [
  | inl lt ↦ absurd (false≢true (sym none ∙ s.holds 1 (omega arith) lt))
  | inr ge ↦ omega arith
]

-- ---- an octal zero alone

-- the head and the numeral of an octal zero
abbrev octal : Head
octal = record { is_negative = false; is_prefixed = false; is_octal = true; start = 0; radix = 8 }

abbrev zero_alone : Numeral
zero_alone = record { radix = 8; places = 0 ∷ []; digits = 0 ∷ []; ends = 1; stop = 1 }

octal_zero_here : (f : Format) (cs : List ℕ) → f.literal_octal_zero ≡ true → octal_zero_at f (48 ∷ cs) 0 ≡ true
unfolding octal_zero_at are_same
octal_zero_here f cs asked = rw asked refl

octal_head : (f : Format) (t : IntegerType) (cs : List ℕ) → ReadsDecimals f → f.literal_octal_zero ≡ true
    → prefix_radix f (48 ∷ cs) 0 ≡ None → head_of f t (48 ∷ cs) ≡ Ok octal
unfolding head_of
octal_head f t cs decimal asked none =
    rw (
      sign_of_digit_under f t 10 48 0 cs decimal.no_sign refl,
      none,
      octal_zero_here f cs asked,
    ) refl

-- a byte that is no decimal digit is no octal one
no_octal_digit : (b : ℕ) → is_some (digit 10 b) ≡ false → is_some (digit 8 b) ≡ false
no_octal_digit b none = grind (arith, nat_tests)

no_octal_digit_at : (text : List ℕ) (k : ℕ) → has_digit 10 text k ≡ false → has_digit 8 text k ≡ false
unfolding digit_at
no_octal_digit_at text k none = by_byte (slice_get text k) none
  where
    by_byte : (o : Option ℕ) → is_some (option_and_then (λ byte. digit 10 byte) o) ≡ false
        → is_some (option_and_then (λ byte. digit 8 byte) o) ≡ false
    by_byte None none = refl
    by_byte (Some b) none = no_octal_digit b none

octal_stands : (f : Format) (cs : List ℕ) → is_in_numeral f false 8 (48 ∷ cs) 0 0 ≡ true
unfolding is_in_numeral digit_at
octal_stands f cs = refl

octal_stands_not : (f : Format) (text : List ℕ) → has_digit 8 text 1 ≡ false → separator_at f text 1 ≡ false
    → is_in_numeral f false 8 text 0 1 ≡ false
unfolding is_in_numeral
octal_stands_not f text none apart = rw (none, apart) refl

octal_end : (f : Format) (cs : List ℕ) → has_digit 10 (48 ∷ cs) 1 ≡ false
    → separator_at f (48 ∷ cs) 1 ≡ false → end_of f false 8 (48 ∷ cs) 0 ≡ 1
octal_end f cs none apart =
    let text : List ℕ = 48 ∷ cs in
    IsStop-unique (is_in_numeral f false 8 text 0) 0 (length text) _ _ (IsStop-end_of f false 8 text 0 (omega arith))
    (record {
      low = omega arith;
      high = omega arith;
      holds = λ k low high. let e : 0 ≡ k = omega arith in
          subst (λ (j : ℕ). is_in_numeral f false 8 text 0 j ≡ true) e (octal_stands f cs);
      fails = λ low. octal_stands_not f text (no_octal_digit_at text 1 none) apart;
    })

octal_numeral : (f : Format) (cs : List ℕ) → f.base_suffix ≡ None → end_of f false 8 (48 ∷ cs) 0 ≡ 1
    → numeral_in f false 8 (48 ∷ cs) 0 ≡ zero_alone
unfolding numeral_in numeral_stop suffix_at is_affix digits_between digit_at
octal_numeral f cs none end = rw (end, none) refl

octal_fits : range_fault (integer_type 128 false) false zero_alone ≡ None
octal_fits =
    let t = integer_type 128 false in
    fitting_fault t false zero_alone (shorter_fronts_fit t false zero_alone 1 (omega arith) (zero_is_number t false))

-- the standard value of a zero alone
zero_value : (cs : List ℕ) (v : ℤ) → numeral_value false (row_numeral standard (48 ∷ cs) 0 10 1) ≡ v → pos 0 ≡ v
unfolding digit_at
zero_value cs v told = told

octal_zero_read : (f : Format) (cs : List ℕ) (v : ℤ) (n : ℕ) → ReadsDecimals f → f.literal_octal_zero ≡ true
    → prefix_radix f (48 ∷ cs) 0 ≡ None → IsStandard (48 ∷ cs) v n → has_digit 10 (48 ∷ cs) 1 ≡ false
    → separator_at f (48 ∷ cs) n ≡ false
    → partial f (integer_type 128 false) (48 ∷ cs) ≡ Ok (v, n)
unfolding partial
octal_zero_read f cs v n decimal asked letter s none apart =
    let text : List ℕ = 48 ∷ cs in
    let one : n ≡ 1 = alone text n s.row (some_digits 48 0 cs n refl s.row) none in
    let told = numeral_told text 1 (subst (λ (k : ℕ). EndsRow 10 text 0 k) one s.row) in
    let same : pos 0 ≡ v = zero_value cs v (sym (ap (numeral_value false) told) ∙ s.value) in
    let end = octal_end f cs none (subst (λ (k : ℕ). separator_at f text k ≡ false) one apart) in
    rw (
      octal_head f (integer_type 128 false) cs decimal asked letter,
      octal_numeral f cs decimal.no_suffix end,
      octal_fits,
      and-false f.no_integer_leading_zeros,
      and-false,
    ) (ap₂ (λ (w : ℤ) (k : ℕ). Ok (w, k)) same (sym one))

-- ---- all texts

-- a text that the standard format reads, and behind whose digits no separator stands, where a zero in front is neither
-- forbidden nor octal
decimal_digits : (f : Format) (c d : ℕ) (cs : List ℕ) (v : ℤ) (n : ℕ) → ReadsDecimals f
    → octal_zero_at f (c ∷ cs) 0 ≡ false → zero_fault f false (numeral_in standard false 10 (c ∷ cs) 0) ≡ None
    → digit 10 c ≡ Some d → IsStandard (c ∷ cs) v n → prefix_radix f (c ∷ cs) 0 ≡ None
    → separator_at f (c ∷ cs) n ≡ false → partial f (integer_type 128 false) (c ∷ cs) ≡ Ok (v, n)
unfolding partial
decimal_digits f c d cs v n decimal own zeros first s bare_text apart =
    let text : List ℕ = c ∷ cs in
    let same = same_numeral f text decimal.no_suffix (end_is f text n s.row apart ∙ sym s.end) in
    let some = some_digits c d cs n first s.row in
    let there : (digit_count (numeral_in standard false 10 text 0) == 0) ≡ false =
    ne_eqb _ 0 (λ none. let size = size_told text n s.row in omega arith) in
    rw (
      head_is_bare f (integer_type 128 false) c d cs decimal own first bare_text,
      same,
      zeros,
      s.fits,
      there,
      and-false,
      s.value,
      s.stop,
    ) refl

-- the same under any rule for zeros, where none leads that is forbidden or octal
decimal_zeros : (f : Format) (c d : ℕ) (cs : List ℕ) (v : ℤ) (n : ℕ) → ReadsDecimals f
    → zero_leads f (c ∷ cs) ≡ false → digit 10 c ≡ Some d → IsStandard (c ∷ cs) v n → prefix_radix f (c ∷ cs) 0 ≡ None
    → separator_at f (c ∷ cs) n ≡ false → partial f (integer_type 128 false) (c ∷ cs) ≡ Ok (v, n)
decimal_zeros f c d cs v n decimal quiet first s bare_text apart =
    by_tests (c == 48) (has_digit 10 (c ∷ cs) 1) f.no_integer_leading_zeros f.literal_octal_zero refl refl refl refl quiet
  where
    text : List ℕ
    text = c ∷ cs

    x : Numeral
    x = numeral_in standard false 10 text 0

    some : 0 < n
    some = some_digits c d cs n first s.row

    by_tests : (zero_first digit_next ruled octals : Bool) → (c == 48) ≡ zero_first → has_digit 10 (c ∷ cs) 1 ≡ digit_next
        → f.no_integer_leading_zeros ≡ ruled → f.literal_octal_zero ≡ octals
        → ((zero_first && (ruled || octals)) && (digit_next || separator_at f (c ∷ cs) 1)) ≡ false
        → partial f (integer_type 128 false) (c ∷ cs) ≡ Ok (v, n)
    by_tests false next ruled octals a b e h none =
        let digits = ap (λ (y : Numeral). slice_index y.digits 0) (numeral_told text n s.row) in
        let zeros = none_by_digit f x (ap (λ k. k == 0) (digits ∙ first_digit c d cs n some first) ∙ no_zero c d first a) in
        decimal_digits f c d cs v n decimal (no_octal_zero f c cs a) zeros first s bare_text apart
    by_tests true next false false a b e h none =
        decimal_digits f c d cs v n decimal (not_asked f text 0 h) (none_by_rule f x e) first s bare_text apart
    by_tests true false ruled true a b e h none =
        subst (λ (k : ℕ). IsStandard (k ∷ cs) v n → prefix_radix f (k ∷ cs) 0 ≡ None → has_digit 10 (k ∷ cs) 1 ≡ false
        → separator_at f (k ∷ cs) n ≡ false → partial f (integer_type 128 false) (k ∷ cs) ≡ Ok (v, n))
        (sym (eqb-true c 48 a)) (λ s bare_text b apart. octal_zero_read f cs v n decimal h bare_text s b apart) s bare_text b apart
    by_tests true false true false a b e h none =
        let one = alone text n s.row some b in
        let few : nat_le 2 (digit_count x) ≡ false = ap (nat_le 2) (size_told text n s.row ∙ one) in
        decimal_digits f c d cs v n decimal (not_asked f text 0 h) (none_by_count f x few) first s bare_text apart
    by_tests true true true octals a b e h none = cc
    by_tests true true false true a b e h none = cc

-- ---- what the parts of the code say

-- any text that begins with a digit has the front that it has under the standard format
pub decimal_read : (f : Format) (text : List ℕ) (v : ℤ) (n : ℕ) → ReadsDecimals f
    → zero_leads f text ≡ false → prefix_radix f text 0 ≡ None → is_some (digit 10 (slice_index text 0)) ≡ true
    → partial standard (integer_type 128 false) text ≡ Ok (v, n) → separator_at f text n ≡ false
    → partial f (integer_type 128 false) text ≡ Ok (v, n)
decimal_read f [] v n decimal quiet bare_text first read apart = absurd (false≢true first)
decimal_read f (c ∷ cs) v n decimal quiet bare_text first read apart = by_digit (digit 10 c) refl first
  where
    by_digit : (found : Option ℕ) → digit 10 c ≡ found → is_some found ≡ true
        → partial f (integer_type 128 false) (c ∷ cs) ≡ Ok (v, n)
    by_digit None none some = absurd (false≢true some)
    by_digit (Some d) is some =
        decimal_zeros f c d cs v n decimal quiet is (standard_told c d cs v n is read) bare_text apart

-- a text that begins with a digit isn't empty
pub some_byte : (r : ℕ) (text : List ℕ) → is_some (digit r (slice_index text 0)) ≡ true → 0 < length text
some_byte r [] first = absurd (false≢true first)
some_byte r (c ∷ cs) first = omega arith

-- ---- no prefix

-- a byte up to `9` is the letter of none
no_letter : (s : Bool) (b : ℕ) → b ≤ 57 → literal_radix s (Some b) ≡ None
unfolding literal_radix is_affix matches
no_letter true b low = grind (arith, nat_tests)
no_letter false b low = grind (arith, nat_tests)

-- behind a zero stands the letter of none, or nothing
pub bare_by_letter : (f : Format) (text : List ℕ) → ReadsDecimals f
    → (f.literal_prefixes ≡ true → literal_radix f.case_sensitive_base_prefix (slice_get text 1) ≡ None)
    → prefix_radix f text 0 ≡ None
unfolding prefix_radix named_radix is_affix
bare_by_letter f text decimal none =
    rw decimal.no_prefix (by_tests (are_same (Some 48) (slice_get text 0)) f.literal_prefixes refl)
  where
    by_tests : (zero asked : Bool) → f.literal_prefixes ≡ asked
        → ◌≡◌ {A = Option ℕ}
        (cond zero (cond asked (literal_radix f.case_sensitive_base_prefix (slice_get text 1)) None) None) None
    by_tests true true e = none e
    by_tests true false e = refl
    by_tests false asked e = refl

other_first : (f : Format) (c : ℕ) (cs : List ℕ) → c ≢ 48 → prefix_radix f (c ∷ cs) 0 ≡ None
unfolding prefix_radix are_same
other_first f c cs other = rw (ne_eqb c 48 other) refl

-- where the first byte is no zero
pub bare_by_first : (f : Format) (text : List ℕ) → slice_index text 0 ≢ 48 → 0 < length text → prefix_radix f text 0 ≡ None
bare_by_first f [] other some = absurd (omega arith)
bare_by_first f (c ∷ cs) other some = other_first f c cs other

-- where the second byte, if there is one, isn't above the digits
pub bare_by_second : (f : Format) (text : List ℕ) → ReadsDecimals f → (1 < length text → slice_index text 1 ≤ 57)
    → prefix_radix f text 0 ≡ None
unfolding literal_radix is_affix
bare_by_second f [] decimal low = bare_by_letter f [] decimal (λ asked. refl)
bare_by_second f (c ∷ []) decimal low = bare_by_letter f (c ∷ []) decimal (λ asked. refl)
bare_by_second f (c ∷ b ∷ bs) decimal low =
    bare_by_letter f (c ∷ b ∷ bs) decimal (λ asked. no_letter f.case_sensitive_base_prefix b (low (omega arith)))

pub not_above : (b : ℕ) → nat_lt 57 b ≡ false → b ≤ 57
not_above b told = grind (arith, nat_tests)
