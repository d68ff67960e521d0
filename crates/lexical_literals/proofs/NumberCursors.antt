-- Cursors that go over a number to where it stops: for literals with types.
use Rattle.std.proofs.Common.{◌≡◌, ℕ, ◌≤◌, Bool, true, false, ◌&&◌, cond, List, Option, Some, None, is_some, Ok, Err, Result, refl, subst, sym, ap, ◌∙◌, arith}
use Rattle.std.proofs.lemmas.Bool.{false≢true}
use Rattle.std.specs.Prelude.{◌==◌, slice_get}
use Rattle.std.specs.Result.{IsErr, OnOk, is_err}
use Rattle.lexical_util.specs.Format.{Format}
use Rattle.lexical_util.specs.Validity.{fault}
use Rattle.lexical_util.specs.declared.error.Error.{Error}
use Rattle.lexical_util.specs.declared.error.Error.TheVariants.{InvalidPositiveSign, MissingSign}
use Rattle.lexical_parse_integer.specs.Answer.{view_of}
use Rattle.lexical_parse_integer.specs.Affixes.{numeral_stop, octal_zero_at, prefix_radix}
use Rattle.lexical_parse_integer.specs.CursorView.{CursorView, behind_prefix}
use Rattle.lexical_parse_integer.specs.Head.{Head, head_after, head_behind, head_of, sign, sign_by}
use Rattle.lexical_parse_integer.specs.Numeral.{numeral_behind, numeral_in}
use Rattle.lexical_literals.specs.TypedLiterals.{StandsAtEnd, StandsBehindHead}
use Rattle.lexical_literals.proofs.NumberFaults.{wide}

-- a sign that isn't allowed is the fault of the head
pub fault_of_sign : (f : Format) (text : List ℕ) (read : Result Bool Error) (at : ℕ) → true ≡ is_err read
    → view_of (λ negative. (negative, at)) read ≡ sign f wide text → IsErr (head_of f wide text)
unfolding head_of
fault_of_sign f text (Ok negative) at fault told = absurd (false≢true (sym fault))
fault_of_sign f text (Err e) at fault told = let here : sign f wide text ≡ Err e = sym told in rw here refl

-- a sign has at most one byte
short_by : (f : Format) (first : Option ℕ) (s : Bool × ℕ) → sign_by f wide first ≡ Ok s → s.1 ≤ 1
short_by f None s told = by_asked f.required_mantissa_sign told
  where
    by_asked : (b : Bool) → cond {A = Result (Bool × ℕ) Error} b (Err (MissingSign 0)) (Ok (false, 0)) ≡ Ok s → s.1 ≤ 1
    by_asked true told = cc
    by_asked false told = let same : (false, 0) ≡ s = cc in subst (λ (s : Bool × ℕ). s.1 ≤ 1) same (omega arith)
short_by f (Some byte) s told = by_tests (byte == 43) f.no_positive_mantissa_sign ((byte == 45) && false) f.required_mantissa_sign told
  where
    at_most : (t : Bool × ℕ) → t.1 ≤ 1 → ◌≡◌ {A = Result (Bool × ℕ) Error} (Ok t) (Ok s) → s.1 ≤ 1
    at_most t low told = let same : t ≡ s = cc in subst (λ (s : Bool × ℕ). s.1 ≤ 1) same low

    by_tests : (plus refused minus asked : Bool) → cond {A = Result (Bool × ℕ) Error} plus (cond refused (Err (InvalidPositiveSign 0)) (Ok (false, 1)))
        (cond minus (Ok (true, 1)) (cond asked (Err (MissingSign 0)) (Ok (false, 0)))) ≡ Ok s → s.1 ≤ 1
    by_tests true true minus asked told = cc
    by_tests true false minus asked told = at_most (false, 1) (omega arith) told
    by_tests false refused true asked told = at_most (true, 1) (omega arith) told
    by_tests false refused false true told = cc
    by_tests false refused false false told = at_most (false, 0) (omega arith) told

-- What a sign leaves of a cursor that was at the front of its text.
pub record ReadsSign (v w : CursorView) : Type 0 where
  pub negative : Bool
  pub is : sign v.format wide v.bytes ≡ Ok (negative, w.position)
  pub moved : w ≡ record v { start = w.position; position = w.position }

pub reads_sign : (v w : CursorView) (read : Result Bool Error) → false ≡ is_err read
    → view_of (λ negative. (negative, w.position)) read ≡ sign v.format wide v.bytes
    → OnOk read (w ≡ record v { start = w.position; position = w.position }) → ReadsSign v w
reads_sign v w (Ok negative) fine told moved = record { negative = negative; is = sym told; moved = moved }
reads_sign v w (Err e) fine told moved = absurd (false≢true fine)

pub sign_is_short : (v w : CursorView) → ReadsSign v w → w.position ≤ 1
unfolding sign
sign_is_short v w read = short_by v.format (slice_get v.bytes 0) (read.negative, w.position) read.is

head_is_behind : (v w : CursorView) → (read : ReadsSign v w) → (found : Option ℕ) → prefix_radix v.format v.bytes w.position ≡ found
    → head_of v.format wide v.bytes ≡ Ok (head_behind v.format v.bytes (read.negative, w.position) found)
unfolding head_of
head_is_behind v w read found is = ap (head_after v.format v.bytes) read.is ∙ ap (λ (p : Option ℕ). Ok (head_behind v.format v.bytes (read.negative, w.position) p)) is

-- the prefix is that of the text from the front on
same_prefix : (v w : CursorView) → ReadsSign v w → prefix_radix w.format w.bytes w.position ≡ prefix_radix v.format v.bytes w.position
same_prefix v w read =
    let format : w.format ≡ v.format = ap (λ (c : CursorView). c.format) read.moved in
    let bytes : w.bytes ≡ v.bytes = ap (λ (c : CursorView). c.bytes) read.moved in
    rw (format, bytes) refl

pub behind_a_prefix : (v w u : CursorView) → ReadsSign v w → v.closed ≡ false → true ≡ is_some (prefix_radix w.format w.bytes w.position)
    → u ≡ behind_prefix w (prefix_radix w.format w.bytes w.position) → StandsBehindHead v.format v.bytes u
behind_a_prefix v w u read is_open some after = by_found (prefix_radix w.format w.bytes w.position) refl some after
  where
    by_found : (found : Option ℕ) → prefix_radix w.format w.bytes w.position ≡ found → true ≡ is_some found → u ≡ behind_prefix w found → StandsBehindHead v.format v.bytes u
    by_found None is some after = absurd (false≢true (sym some))
    by_found (Some r) is some after = record {
      head = head_behind v.format v.bytes (read.negative, w.position) (Some r);
      head_is = head_is_behind v w read (Some r) (sym (same_prefix v w read) ∙ is);
      bytes = ap (λ (c : CursorView). c.bytes) after ∙ ap (λ (c : CursorView). c.bytes) read.moved;
      under = ap (λ (c : CursorView). c.format) after ∙ ap (λ (c : CursorView). c.format) read.moved;
      prefixed = ap (λ (c : CursorView). c.is_prefixed) after;
      radix = ap (λ (c : CursorView). c.radix) after;
      start = ap (λ (c : CursorView). c.start) after;
      still_open = ap (λ (c : CursorView). c.closed) after ∙ ap (λ (c : CursorView). c.closed) read.moved ∙ is_open;
    }

pub stays_bare : (w u : CursorView) → false ≡ is_some (prefix_radix w.format w.bytes w.position)
    → u ≡ behind_prefix w (prefix_radix w.format w.bytes w.position) → (u ≡ w) × (prefix_radix w.format w.bytes w.position ≡ None)
stays_bare w u none after = by_found (prefix_radix w.format w.bytes w.position) none after
  where
    by_found : (found : Option ℕ) → false ≡ is_some found → u ≡ behind_prefix w found → (u ≡ w) × (found ≡ None)
    by_found None none after = (after, refl)
    by_found (Some r) none after = absurd (false≢true none)

pub behind_bare : (v w u x : CursorView) (octal : Bool) → ReadsSign v w → v.closed ≡ false → v.is_prefixed ≡ false → v.radix ≡ v.format.mantissa_radix
    → (u ≡ w) × (prefix_radix w.format w.bytes w.position ≡ None) → octal ≡ octal_zero_at u.format u.bytes u.position
    → x ≡ cond octal (record u { radix = 8 }) u → StandsBehindHead v.format v.bytes x
behind_bare v w u x octal read is_open bare own stays is after = by_octal octal (sym (is ∙ here)) after
  where
    moved : u ≡ record v { start = w.position; position = w.position }
    moved = stays.0 ∙ read.moved

    here : octal_zero_at u.format u.bytes u.position ≡ octal_zero_at v.format v.bytes w.position
    here = ap (λ (c : CursorView). octal_zero_at c.format c.bytes c.position) moved

    by_octal : (b : Bool) → octal_zero_at v.format v.bytes w.position ≡ b → x ≡ cond b (record u { radix = 8 }) u → StandsBehindHead v.format v.bytes x
    by_octal true told after = record {
      head = head_behind v.format v.bytes (read.negative, w.position) None;
      head_is = head_is_behind v w read None (sym (same_prefix v w read) ∙ stays.1);
      bytes = ap (λ (c : CursorView). c.bytes) after ∙ ap (λ (c : CursorView). c.bytes) moved;
      under = ap (λ (c : CursorView). c.format) after ∙ ap (λ (c : CursorView). c.format) moved;
      prefixed = ap (λ (c : CursorView). c.is_prefixed) after ∙ ap (λ (c : CursorView). c.is_prefixed) moved ∙ bare;
      radix = ap (λ (c : CursorView). c.radix) after ∙ sym (ap (λ (b : Bool). cond b 8 v.format.mantissa_radix) told);
      start = ap (λ (c : CursorView). c.start) after ∙ ap (λ (c : CursorView). c.start) moved;
      still_open = ap (λ (c : CursorView). c.closed) after ∙ ap (λ (c : CursorView). c.closed) moved ∙ is_open;
    }
    by_octal false told after = record {
      head = head_behind v.format v.bytes (read.negative, w.position) None;
      head_is = head_is_behind v w read None (sym (same_prefix v w read) ∙ stays.1);
      bytes = ap (λ (c : CursorView). c.bytes) after ∙ ap (λ (c : CursorView). c.bytes) moved;
      under = ap (λ (c : CursorView). c.format) after ∙ ap (λ (c : CursorView). c.format) moved;
      prefixed = ap (λ (c : CursorView). c.is_prefixed) after ∙ ap (λ (c : CursorView). c.is_prefixed) moved ∙ bare;
      radix = ap (λ (c : CursorView). c.radix) after ∙ ap (λ (c : CursorView). c.radix) moved ∙ own
          ∙ sym (ap (λ (b : Bool). cond b 8 v.format.mantissa_radix) told);
      start = ap (λ (c : CursorView). c.start) after ∙ ap (λ (c : CursorView). c.start) moved;
      still_open = ap (λ (c : CursorView). c.closed) after ∙ ap (λ (c : CursorView). c.closed) moved ∙ is_open;
    }

-- a cursor that has read all of a number stands where the number stops
pub stops_at : (f : Format) (text : List ℕ) (u w : CursorView) (head : Head) (place : ℕ) → StandsBehindHead f text u → StandsAtEnd u w
    → place ≡ numeral_stop w.format w.is_prefixed w.radix w.bytes w.start → head_of f wide text ≡ Ok head → place ≡ (numeral_behind f text head).stop
unfolding numeral_in
stops_at f text u w head place behind end at is =
    let told = behind.head_is in
    let same : behind.head ≡ head = cc in
    let format : w.format ≡ f = end.under ∙ behind.under in
    let bytes : w.bytes ≡ text = end.bytes ∙ behind.bytes in
    let prefixed : w.is_prefixed ≡ behind.head.is_prefixed = end.prefixed ∙ behind.prefixed in
    let radix : w.radix ≡ behind.head.radix = end.radix ∙ behind.radix in
    let start : w.start ≡ behind.head.start = end.start ∙ behind.start in
    at ∙ rw (format, bytes, prefixed, radix, start, same) refl

pub stands_behind : (v u : CursorView) (f : Format) (text : List ℕ) → v.format ≡ f → v.bytes ≡ text → StandsBehindHead v.format v.bytes u → StandsBehindHead f text u
stands_behind v u f text format bytes behind = rw (format, bytes) at behind
