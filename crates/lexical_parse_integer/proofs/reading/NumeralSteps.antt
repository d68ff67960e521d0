-- What a cursor's steps say of its numeral: for loops over digits, and for the first digit.
use Rattle.std.proofs.Common.{◌≡◌, ℕ, ◌+◌, ◌-◌, ◌≤◌, ◌<◌, Bool, true, false, List, ◌∷◌, ◌++◌, length, length-append, get_or, filter, is_some, Some, None, refl, sym, ap, ◌∙◌, subst, arith, cond}
use Rattle.std.specs.Prelude.{nat_lt, option_and_then, slice_get, Option, ℤ}
use Rattle.std.specs.List.{range_with_len}
use Rattle.std.specs.Option.{unwrap_or}
use Rattle.std.proofs.lemmas.Bool.{ltb-true}
use Rattle.std.proofs.lemmas.List.{length-map, get_or-map}
use Rattle.lexical_parse_integer.specs.CursorView.{CursorView, IsSound, ReachesEnd, TakesDigit, numeral_end, numeral_of}
use Rattle.lexical_parse_integer.specs.Folded.{Folded}
use Rattle.lexical_parse_integer.specs.Grammar.{range_fault}
use Rattle.lexical_parse_integer.specs.Numeral.{Numeral, digit_count, numeral_in, numeral_value}
use Rattle.lexical_parse_integer.specs.Reading.{MovesOn, IsReading, Reads, ReadsAll, ReadsOn}
use Rattle.lexical_parse_integer.specs.Runs.{digit_at, digits_between, places}
use Rattle.lexical_util.specs.declared.error.Error.{Error}
use Rattle.lexical_util.specs.Digit.{value_if_below, digit, digit_value}
use Rattle.lexical_util.specs.Format.{Format}
use Rattle.lexical_util.specs.Number.{IntegerType}
use Rattle.lexical_parse_integer.proofs.grammar.PlaceSearch.{filter_range-at, get_or-append_seam}
use Rattle.lexical_parse_integer.proofs.grammar.DigitCounts.{digits_between_to}

-- a digit is below the radix
below_limit : (r : ℕ) (o : Option ℕ) (v : ℕ) → value_if_below r o ≡ Some v → v < r
below_limit r None v e = cc
below_limit r (Some d) v e = by_test (nat_lt d r) refl e
  where
    by_test : (b : Bool) → nat_lt d r ≡ b → cond b (Some d) None ≡ Some v → v < r
    by_test true t h = let l = ltb-true d r t in let same : d ≡ v = cc in omega arith
    by_test false t h = cc

at_byte : (r : ℕ) (o : Option ℕ) (v : ℕ) → option_and_then (λ c. digit r c) o ≡ Some v → v < r
at_byte r None v e = cc
at_byte r (Some c) v e = below_limit r (digit_value c) v e

pub digit_at_below : (r : ℕ) (b : List ℕ) (k v : ℕ) → digit_at r b k ≡ Some v → v < r
unfolding digit_at
digit_at_below r b k v e = at_byte r (slice_get b k) v e

-- the m-th digit of a numeral, and where it stands
pub record IsDigitOf (x : Numeral) (m value place : ℕ) : Type 0 where
  pub more : m < digit_count x
  pub digit : get_or x.digits m 0 ≡ value
  pub at : get_or x.places m 0 ≡ place

pub place_found : (r : ℕ) (b : List ℕ) (j p e m v : ℕ) → j ≤ p → p < e → digit_at r b p ≡ Some v → m ≡ length (digits_between r b j p) → (m < length (digits_between r b j e)) × (get_or (digits_between r b j e) m 0 ≡ p)
unfolding digits_between
place_found r b j p e m v low l here count =
    let g : ℕ → Bool = λ k. is_some (digit_at r b k) in
    let parts = filter_range-at g j p e low l (ap is_some here) in
    let size = ap length parts ∙ length-append (filter g (range_with_len j (p - j))) (p ∷ filter g (range_with_len (p + 1) (e - p - 1))) in
    (omega arith, ap (λ ps. get_or ps m 0) parts ∙ ap (λ n. get_or (filter g (range_with_len j (p - j)) ++ p ∷ filter g (range_with_len (p + 1) (e - p - 1))) n 0) count ∙ get_or-append_seam (filter g (range_with_len j (p - j))) (p ∷ filter g (range_with_len (p + 1) (e - p - 1))))

pub digit_found : (v w : CursorView) (value : ℕ) → IsSound v → v.closed ≡ false → (t : TakesDigit v w value) → IsDigitOf (numeral_of v) v.digits value t.place
unfolding numeral_in
digit_found v w value s open_now t =
    let o = s.while_open open_now in
    let skipped = ap length (digits_between_to v.radix v.bytes v.start v.position t.place s.after_start t.from t.least) in
    let found = place_found v.radix v.bytes v.start t.place (numeral_end v) v.digits value (omega (arith, s.after_start, t.from)) t.before_end t.value_is (o.digits ∙ sym skipped) in
    let h : ℕ → ℕ = λ k. unwrap_or (digit_at v.radix v.bytes k) 0 in
    let all : List ℕ = places v.format v.is_prefixed v.radix v.bytes v.start in
    let size = length-map all h in
    record {
      more = omega (arith, found.0);
      digit = get_or-map h all v.digits 0 0 found.0 ∙ ap h found.1 ∙ ap (λ d. unwrap_or d 0) t.value_is;
      at = found.1;
    }

pub all_found : (v : CursorView) → IsSound v → v.closed ≡ false → (w : CursorView) → ReachesEnd v w → v.digits ≡ digit_count (numeral_of v)
unfolding numeral_in
all_found v s open_now w t =
    let o = s.while_open open_now in
    let skipped = ap length (digits_between_to v.radix v.bytes v.start v.position (numeral_end v) s.after_start o.before_end t.none_left) in
    o.digits ∙ sym skipped ∙ sym (length-map (places v.format v.is_prefixed v.radix v.bytes v.start) (λ k. unwrap_or (digit_at v.radix v.bytes k) 0))

-- as many values as places
pub places_count : (f : Format) (pre : Bool) (r : ℕ) (text : List ℕ) (start : ℕ) → length (numeral_in f pre r text start).digits ≡ length (places f pre r text start)
unfolding numeral_in
places_count f pre r text start = length-map (places f pre r text start) (λ place. unwrap_or (digit_at r text place) 0)

-- ---- going on

pub goes_on_none : (v : CursorView) → Folded (IsSound v) → v.closed ≡ false → MovesOn v v
goes_on_none v s open_now = record { bytes = refl; format = refl; prefixed = refl; radix = refl; start = refl; identity = refl; closed = open_now; sound = s }

pub goes_on_digit : (u v w : CursorView) (value : ℕ) → MovesOn u v → TakesDigit v w value → Folded (IsSound w) → MovesOn u w
goes_on_digit u v w value g t s =
    record {
      bytes = ap (λ (z : CursorView). z.bytes) t.after ∙ g.bytes;
      format = ap (λ (z : CursorView). z.format) t.after ∙ g.format;
      prefixed = ap (λ (z : CursorView). z.is_prefixed) t.after ∙ g.prefixed;
      radix = ap (λ (z : CursorView). z.radix) t.after ∙ g.radix;
      start = ap (λ (z : CursorView). z.start) t.after ∙ g.start;
      identity = ap (λ (z : CursorView). z.identity) t.after ∙ g.identity;
      closed = ap (λ (z : CursorView). z.closed) t.after ∙ g.closed;
      sound = s;
    }

pub goes_on_end : (u v w : CursorView) → MovesOn u v → ReachesEnd v w → Folded (IsSound w) → MovesOn u w
goes_on_end u v w g t s =
    record {
      bytes = ap (λ (z : CursorView). z.bytes) t.after ∙ g.bytes;
      format = ap (λ (z : CursorView). z.format) t.after ∙ g.format;
      prefixed = ap (λ (z : CursorView). z.is_prefixed) t.after ∙ g.prefixed;
      radix = ap (λ (z : CursorView). z.radix) t.after ∙ g.radix;
      start = ap (λ (z : CursorView). z.start) t.after ∙ g.start;
      identity = ap (λ (z : CursorView). z.identity) t.after ∙ g.identity;
      closed = ap (λ (z : CursorView). z.closed) t.after ∙ g.closed;
      sound = s;
    }

pub goes_on_further : (u v w : CursorView) → MovesOn u v → MovesOn v w → MovesOn u w
goes_on_further u v w g h =
    record {
      bytes = h.bytes ∙ g.bytes;
      format = h.format ∙ g.format;
      prefixed = h.prefixed ∙ g.prefixed;
      radix = h.radix ∙ g.radix;
      start = h.start ∙ g.start;
      identity = h.identity ∙ g.identity;
      closed = h.closed;
      sound = h.sound;
    }

-- the numeral stays the same
pub same_numeral : (u v : CursorView) → MovesOn u v → numeral_of v ≡ numeral_of u
same_numeral u v g =
    ap (λ f. numeral_in f v.is_prefixed v.radix v.bytes v.start) g.format
    ∙ ap (λ p. numeral_in u.format p v.radix v.bytes v.start) g.prefixed
    ∙ ap (λ b. numeral_in u.format u.is_prefixed v.radix b v.start) g.bytes
    ∙ ap (λ j. numeral_in u.format u.is_prefixed v.radix u.bytes j) g.start
    ∙ ap (λ r. numeral_in u.format u.is_prefixed r u.bytes u.start) g.radix

-- ---- reading on

-- from where it has come, reading may go on
pub reading_from : (t : IntegerType) (b : Bool) (u v : CursorView) (before value : ℤ) → IsReading t b u before → ReadsOn t b u v value → IsReading t b v value
reading_from t b u v before value ready on =
    record {
      still_open = on.goes_on.closed;
      sound = on.goes_on.sound;
      minus = ready.minus;
      reads = subst (λ (x : Numeral). Reads t b x v.digits value) (sym (same_numeral u v on.goes_on)) on.reads;
    }

-- what was read behind, was read from the start on
pub reads_further : (t : IntegerType) (b : Bool) (u v w : CursorView) (before value : ℤ) → ReadsOn t b u v before → ReadsOn t b v w value → ReadsOn t b u w value
reads_further t b u v w before value first next =
    record {
      reads = subst (λ (x : Numeral). Reads t b x w.digits value) (same_numeral u v first.goes_on) next.reads;
      goes_on = goes_on_further u v w first.goes_on next.goes_on;
    }

pub reads_all_further : (t : IntegerType) (b : Bool) (u v w : CursorView) (value : ℤ) → MovesOn u v → ReadsAll t b v w value → ReadsAll t b u w value
reads_all_further t b u v w value g all =
    let same = same_numeral u v g in
    record {
      value_is = all.value_is ∙ ap (numeral_value b) same;
      fits = ap (range_fault t b) (sym same) ∙ all.fits;
      at_end = all.at_end ∙ ap (λ (x : Numeral). x.ends) same;
      all = all.all ∙ ap digit_count same;
    }

-- nothing more is read
pub reads_no_more : (t : IntegerType) (b : Bool) (u : CursorView) (value : ℤ) → IsReading t b u value → ReadsOn t b u u value
reads_no_more t b u value ready = record { reads = ready.reads; goes_on = goes_on_none u ready.sound ready.still_open }

-- a fault of the numeral stays its fault
pub fault_further : (t : IntegerType) (b : Bool) (u v : CursorView) (e : Error) → MovesOn u v → range_fault t b (numeral_of v) ≡ Some e → range_fault t b (numeral_of u) ≡ Some e
fault_further t b u v e g fault = ap (range_fault t b) (sym (same_numeral u v g)) ∙ fault
