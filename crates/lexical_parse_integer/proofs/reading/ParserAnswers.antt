-- The answers of the two parsers, from what was read: for `algorithm::counted::head`, `read` and the two calls on a cursor.
use Rattle.std.proofs.Common.{◌≡◌, ℕ, ◌+◌, ◌≤◌, ◌<◌, Bool, false, true, cond, ◌&&◌, ◌||◌, List, [], ◌∷◌, length, is_some, Option, Some, None, Ok, Err, Result, refl, sym, ap, ◌∙◌, subst, arith, inl, inr, ◌⊎◌}
use Rattle.std.specs.Prelude.{◌↔◌, IsTrue, ℤ, nat_lt, slice_get, ◌==◌}
use Rattle.std.specs.Option.{option_or}
use Rattle.std.proofs.lemmas.Bool.{lt-ltb, le-ltb, cases_lt, false≢true}
use Rattle.lexical_util.specs.declared.error.Error.{Error}
use Rattle.lexical_util.specs.declared.error.Error.TheVariants.{InvalidDigit, Empty, MissingSign, InvalidPositiveSign}
use Rattle.lexical_parse_integer.specs.Affixes.{bare_radix, numeral_stop, octal_zero_at, prefix_radix}
use Rattle.lexical_parse_integer.specs.CursorView.{CursorView, behind_prefix, IsSound, numeral_end, numeral_of}
use Rattle.lexical_parse_integer.specs.Grammar.{complete, digits_required, first_fault_or, partial, prefix_fault, range_fault, zero_fault}
use Rattle.lexical_parse_integer.specs.Head.{Head, head_of, no_sign, sign, sign_by, chooses_radix}
use Rattle.lexical_parse_integer.specs.Numeral.{Numeral, digit_count, numeral_in, numeral_value, numeral_behind}
use Rattle.lexical_parse_integer.specs.Reading.{MovesOn, IsAtHead, IsOver, IsRead, IsReading, Reads, ReadsNumeral, StandsAtStop}
use Rattle.lexical_util.specs.Format.{Format}
use Rattle.lexical_util.specs.Number.{IntegerType}
use Rattle.lexical_parse_integer.specs.Seeking.{starts_behind_prefix}
use Rattle.lexical_parse_integer.proofs.Folds.{fact_of}
use Rattle.lexical_parse_integer.proofs.reading.Soundness.{digits_bound}
use Rattle.lexical_parse_integer.proofs.reading.OctalZeros.{bare_own, octal_byte}
use Rattle.lexical_parse_integer.proofs.reading.NumeralSteps.{same_numeral}
use Rattle.lexical_parse_integer.proofs.reading.DigitLoop.{numeral_ends}

-- ---- a fresh cursor

pub record IsFresh (v : CursorView) : Type 0 where
  pub start : v.start ≡ 0
  pub closed : v.closed ≡ false
  pub no_digit : v.digits ≡ 0
  pub no_turn : v.turns ≡ 0
  pub bare : v.is_prefixed ≡ false
  pub effective : (v.radix ≡ v.format.mantissa_radix) ⊎ (v.radix ≡ bare_radix v.format v.bytes v.start)

cases_bool : (b : Bool) → (b ≡ true) ⊎ (b ≡ false)
cases_bool true = inl refl
cases_bool false = inr refl

pub is_fresh : (v : CursorView) → IsSound v → v.position ≡ 0 → IsFresh v
is_fresh v s front =
    let start : v.start ≡ 0 = omega (arith, s.after_start) in
    let bare : v.is_prefixed ≡ false = s.prefixed ∙ ap starts_behind_prefix start in
    let open_now : v.closed ≡ false = elim (cases_bool v.closed) [ inl t ↦ absurd (omega (arith, (s.once_closed t).behind_end)) | inr t ↦ t ] in
    let none : v.digits ≡ 0 = omega (arith, digits_bound v s open_now) in
    record { start = start; closed = open_now; no_digit = none; no_turn = omega (arith, s.turns); bare = bare; effective = s.effective bare }

-- where nothing was read, the region starts at the position
pub stays_at_front : (v : CursorView) → IsSound v → v.position ≡ 0 → v ≡ record v { start = v.position; position = v.position }
stays_at_front v s front =
    let start : v.start ≡ v.position = omega (arith, s.after_start) in
    ap (λ (n : ℕ). record v { start = n; position = v.position }) start

-- ---- sign and prefix

pair_len : (b : Bool) (n k : ℕ) (s : Bool × ℕ) → n ≤ k → ◌≡◌ {A = Result (Bool × ℕ) Error} (Ok (b, n)) (Ok s) → s.1 ≤ k
pair_len b n k s low e =
    let same : (b, n) ≡ s = cc in
    let at : n ≡ s.1 = ap (λ (w : Bool × ℕ). w.1) same in
    omega arith

no_sign_short : (f : Format) (s : Bool × ℕ) → no_sign f ≡ Ok s → s.1 ≤ 1
no_sign_short f s = by_test f.required_mantissa_sign
  where
    by_test : (b : Bool) → cond b (Err (MissingSign 0)) (Ok (false, 0)) ≡ Ok s → s.1 ≤ 1
    by_test true e = cc
    by_test false e = pair_len false 0 1 s (omega arith) e

pub sign_short : (f : Format) (t : IntegerType) (text : List ℕ) (s : Bool × ℕ) → sign f t text ≡ Ok s → s.1 ≤ 1
unfolding sign
sign_short f t [] s signed = no_sign_short f s signed
sign_short f t (c ∷ cs) s signed = by_tests (c == 43) f.no_positive_mantissa_sign ((c == 45) && t.is_signed) signed
  where
    by_tests : (a b d : Bool) → cond a (cond b (Err (InvalidPositiveSign 0)) (Ok (false, 1))) (cond d (Ok (true, 1)) (no_sign f)) ≡ Ok s → s.1 ≤ 1
    by_tests true true d e = cc
    by_tests true false d e = pair_len false 1 1 s (omega arith) e
    by_tests false b true e = pair_len true 1 1 s (omega arith) e
    by_tests false b false e = no_sign_short f s e

minus_false : (f : Format) (n : ℕ) → no_sign f ≡ Ok (true, n) → ⊥
minus_false f n = by_test f.required_mantissa_sign
  where
    by_test : (b : Bool) → ◌≡◌ {A = Result (Bool × ℕ) Error} (cond b (Err (MissingSign 0)) (Ok (false, 0))) (Ok (true, n)) → ⊥
    by_test true e = cc
    by_test false e = pair_apart 0 n (cc)
      where
        pair_apart : (a c : ℕ) → ◌≡◌ {A = Bool × ℕ} (false, a) (true, c) → ⊥
        pair_apart a c e = false≢true (ap (λ (w : Bool × ℕ). w.0) e)

-- a minus is read for signed types alone
pub sign_minus : (f : Format) (t : IntegerType) (text : List ℕ) (n : ℕ) → sign f t text ≡ Ok (true, n) → t.is_signed ≡ true
unfolding sign
sign_minus f t [] n e = absurd (minus_false f n e)
sign_minus f t (c ∷ cs) n e = by_tests (c == 43) f.no_positive_mantissa_sign (c == 45) t.is_signed refl e
  where
    pair_apart : (a k : ℕ) → ◌≡◌ {A = Bool × ℕ} (false, a) (true, k) → ⊥
    pair_apart a k h = false≢true (ap (λ (w : Bool × ℕ). w.0) h)

    by_tests : (a b d s : Bool) → t.is_signed ≡ s → ◌≡◌ {A = Result (Bool × ℕ) Error} (cond a (cond b (Err (InvalidPositiveSign 0)) (Ok (false, 1))) (cond (d && s) (Ok (true, 1)) (no_sign f))) (Ok (true, n)) → t.is_signed ≡ true
    by_tests true true d s h e = cc
    by_tests true false d s h e = absurd (pair_apart 1 n (cc))
    by_tests false b true true h e = h
    by_tests false b true false h e = absurd (minus_false f n e)
    by_tests false b false s h e = absurd (minus_false f n e)

minus_signed : (t : IntegerType) (u : CursorView) (minus : Bool) (n : ℕ) → minus ≡ true → sign u.format t u.bytes ≡ Ok (minus, n) → t.is_signed ≡ true
minus_signed t u minus n m signed = sign_minus u.format t u.bytes n (signed ∙ ap (λ b. Ok (b, n)) m)

pub head_fault : (f : Format) (t : IntegerType) (text : List ℕ) (e : Error) → sign f t text ≡ Err e → head_of f t text ≡ Err e
unfolding head_of
head_fault f t text e h = rw h refl

-- a text that begins with a zero has no sign
no_sign_place : (f : Format) (s : Bool × ℕ) → no_sign f ≡ Ok s → s.1 ≡ 0
no_sign_place f s = by_test f.required_mantissa_sign
  where
    by_test : (b : Bool) → ◌≡◌ {A = Result (Bool × ℕ) Error} (cond b (Err (MissingSign 0)) (Ok (false, 0))) (Ok s) → s.1 ≡ 0
    by_test true e = cc
    by_test false e = let same : (false, 0) ≡ s = cc in ap (λ (w : Bool × ℕ). w.1) (sym same)

zero_no_sign : (f : Format) (t : IntegerType) (text : List ℕ) (s : Bool × ℕ) → slice_get text 0 ≡ Some 48 → sign f t text ≡ Ok s → s.1 ≡ 0
unfolding sign
zero_no_sign f t text s zero signed =
    let signed' : sign_by f t (Some 48) ≡ Ok s = ap (sign_by f t) (sym zero) ∙ signed in
    no_sign_place f s signed'

-- without an octal zero behind the sign, a fresh cursor has the format's radix
own_in_force : (t : IntegerType) (u : CursorView) (s : Bool × ℕ) → IsFresh u → sign u.format t u.bytes ≡ Ok s → octal_zero_at u.format u.bytes s.1 ≡ false → u.radix ≡ u.format.mantissa_radix
own_in_force t u s fresh signed other =
    elim fresh.effective [
      | inl e ↦ e
      | inr e ↦ e ∙ ap (bare_radix u.format u.bytes) fresh.start ∙ by_zero (octal_zero_at u.format u.bytes 0) refl
    ]
  where
    by_zero : (octal : Bool) → octal_zero_at u.format u.bytes 0 ≡ octal → bare_radix u.format u.bytes 0 ≡ u.format.mantissa_radix
    by_zero false e = bare_own u.format u.bytes 0 e
    by_zero true e =
        let front : s.1 ≡ 0 = zero_no_sign u.format t u.bytes s (octal_byte u.format u.bytes 0 e) signed in
        absurd (false≢true (sym other ∙ ap (octal_zero_at u.format u.bytes) front ∙ e))

-- behind the sign
module _ (t : IntegerType) (u v : CursorView) (minus : Bool) (fresh : IsFresh u) (signed : sign u.format t u.bytes ≡ Ok (minus, v.position)) (moved : v ≡ record u { start = v.position; position = v.position }) where
  bytes : v.bytes ≡ u.bytes
  bytes = ap (λ (z : CursorView). z.bytes) moved

  format : v.format ≡ u.format
  format = ap (λ (z : CursorView). z.format) moved

  start : v.start ≡ v.position
  start = ap (λ (z : CursorView). z.start) moved

  closed : v.closed ≡ false
  closed = ap (λ (z : CursorView). z.closed) moved ∙ fresh.closed

  no_digit : v.digits ≡ 0
  no_digit = ap (λ (z : CursorView). z.digits) moved ∙ fresh.no_digit

  no_turn : v.turns ≡ 0
  no_turn = ap (λ (z : CursorView). z.turns) moved ∙ fresh.no_turn

  bare_head : v.is_prefixed ≡ false
  bare_head = ap (λ (z : CursorView). z.is_prefixed) moved ∙ fresh.bare

  same_prefix : prefix_radix v.format v.bytes v.position ≡ prefix_radix u.format u.bytes v.position
  same_prefix = ap (λ f. prefix_radix f v.bytes v.position) format ∙ ap (λ b. prefix_radix u.format b v.position) bytes

  -- and behind the prefix
  pub at_prefix : (w : CursorView) → true ≡ is_some (prefix_radix v.format v.bytes v.position) → w ≡ behind_prefix v (prefix_radix v.format v.bytes v.position) → IsAtHead u.format t u.bytes minus true false w
  unfolding head_of
  at_prefix w prefixed after = by_prefix (prefix_radix u.format u.bytes v.position) refl (prefixed ∙ ap is_some same_prefix) (after ∙ ap (behind_prefix v) same_prefix)
    where
      by_prefix : (found : Option ℕ) → prefix_radix u.format u.bytes v.position ≡ found → true ≡ is_some found → w ≡ behind_prefix v found → IsAtHead u.format t u.bytes minus true false w
      by_prefix None h is e = absurd (false≢true (sym is))
      by_prefix (Some r) h is e = rw e (record {
        head_is = rw (signed, h) refl;
        prefixed = refl;
        bytes = bytes;
        format = format;
        at_start = refl;
        closed = closed;
        no_digit = no_digit;
        no_turn = no_turn;
        minus = λ m. minus_signed t u minus v.position m signed;
      })

  -- where there is no prefix, the cursor stays
  pub stays_bare : (w : CursorView) → false ≡ is_some (prefix_radix v.format v.bytes v.position) → w ≡ behind_prefix v (prefix_radix v.format v.bytes v.position) → w ≡ v
  stays_bare w bare after = by_prefix (prefix_radix v.format v.bytes v.position) bare after
    where
      by_prefix : (found : Option ℕ) → false ≡ is_some found → w ≡ behind_prefix v found → w ≡ v
      by_prefix None is e = e
      by_prefix (Some r) is e = absurd (false≢true is)

  none_bare : false ≡ is_some (prefix_radix v.format v.bytes v.position) → prefix_radix u.format u.bytes v.position ≡ None
  none_bare bare = by_prefix (prefix_radix u.format u.bytes v.position) (bare ∙ ap is_some same_prefix)
    where
      by_prefix : (found : Option ℕ) → false ≡ is_some found → found ≡ None
      by_prefix None is = refl
      by_prefix (Some r) is = absurd (false≢true is)

  -- there an octal zero may stand
  pub at_bare : (w x : CursorView) (o : Bool) → false ≡ is_some (prefix_radix v.format v.bytes v.position) → w ≡ behind_prefix v (prefix_radix v.format v.bytes v.position) → o ≡ octal_zero_at w.format w.bytes w.position → x ≡ cond o (record w { radix = 8 }) w → IsAtHead u.format t u.bytes minus false o x
  unfolding head_of
  at_bare w x o bare after told put =
      let same : w ≡ v = stays_bare w bare after in
      let told' : o ≡ octal_zero_at u.format u.bytes v.position = told ∙ ap (λ (z : CursorView). octal_zero_at z.format z.bytes z.position) same ∙ ap (λ f. octal_zero_at f v.bytes v.position) format ∙ ap (λ b. octal_zero_at u.format b v.position) bytes in
      by_octal o told' (put ∙ ap (λ (z : CursorView). cond o (record z { radix = 8 }) z) same)
    where
      none : prefix_radix u.format u.bytes v.position ≡ None
      none = none_bare bare

      by_octal : (q : Bool) → q ≡ octal_zero_at u.format u.bytes v.position → x ≡ cond q (record v { radix = 8 }) v → IsAtHead u.format t u.bytes minus false q x
      by_octal true h e = let h' : octal_zero_at u.format u.bytes v.position ≡ true = sym h in rw e (record {
        head_is = rw (signed, none, h', start) refl;
        prefixed = bare_head;
        bytes = bytes;
        format = format;
        at_start = sym start;
        closed = closed;
        no_digit = no_digit;
        no_turn = no_turn;
        minus = λ m. minus_signed t u minus v.position m signed;
      })
      by_octal false h e =
          let h' : octal_zero_at u.format u.bytes v.position ≡ false = sym h in
          let radix : v.radix ≡ u.format.mantissa_radix = ap (λ (z : CursorView). z.radix) moved ∙ own_in_force t u (minus, v.position) fresh signed h' in
          rw e (record {
            head_is = rw (signed, none, h', radix, start) refl;
            prefixed = bare_head;
            bytes = bytes;
            format = format;
            at_start = sym start;
            closed = closed;
            no_digit = no_digit;
            no_turn = no_turn;
            minus = λ m. minus_signed t u minus v.position m signed;
          })

-- ---- faults of both parsers

first_told : {A : Type 0} (p z r : Option Error) (rest : List (Option Error)) (v : A) (e : Error) → option_or p (option_or z r) ≡ Some e → first_fault_or (p ∷ z ∷ r ∷ rest) v ≡ Err e
first_told (Some d) z r rest v e h = cc
first_told None (Some d) r rest v e h = cc
first_told None None (Some d) rest v e h = cc
first_told None None None rest v e h = cc

pub sign_completes : (f : Format) (t : IntegerType) (text : List ℕ) (e : Error) → head_of f t text ≡ Err e → complete f t text ≡ Err e
unfolding complete
sign_completes f t text e h = rw h refl

pub sign_goes_part : (f : Format) (t : IntegerType) (text : List ℕ) (e : Error) → head_of f t text ≡ Err e → partial f t text ≡ Err e
unfolding partial
sign_goes_part f t text e h = rw h refl

abbrev pub common_fault : Format → IntegerType → List ℕ → Head → Option Error
common_fault f t text h = option_or (prefix_fault text h) (option_or (zero_fault f (chooses_radix h) (numeral_behind f text h)) (range_fault t h.is_negative (numeral_behind f text h)))

pub fault_completes : (f : Format) (t : IntegerType) (text : List ℕ) (h : Head) (e : Error) → head_of f t text ≡ Ok h → common_fault f t text h ≡ Some e → complete f t text ≡ Err e
unfolding complete
fault_completes f t text h e is fault = rw is (first_told (prefix_fault text h) (zero_fault f (chooses_radix h) (numeral_behind f text h)) (range_fault t h.is_negative (numeral_behind f text h)) _ _ e fault)

pub fault_goes_part : (f : Format) (t : IntegerType) (text : List ℕ) (h : Head) (e : Error) → head_of f t text ≡ Ok h → common_fault f t text h ≡ Some e → partial f t text ≡ Err e
unfolding partial
fault_goes_part f t text h e is fault = rw is (first_told (prefix_fault text h) (zero_fault f (chooses_radix h) (numeral_behind f text h)) (range_fault t h.is_negative (numeral_behind f text h)) _ _ e fault)

-- both at once, by the cursor at the head
module _ (f : Format) (t : IntegerType) (text : List ℕ) (minus p o : Bool) (v : CursorView) (at : IsAtHead f t text minus p o v) where
  abbrev head : Head
  head = record { is_negative = minus; is_prefixed = p; is_octal = o; start = v.start; radix = v.radix }

  pub same_text : numeral_behind f text head ≡ numeral_of v
  same_text =
      ap (λ g. numeral_in g p v.radix text v.start) (sym at.format)
      ∙ ap (λ q. numeral_in v.format q v.radix text v.start) (sym at.prefixed)
      ∙ ap (λ b. numeral_in v.format v.is_prefixed v.radix b v.start) (sym at.bytes)

  both : (e : Error) → common_fault f t text head ≡ Some e → (complete f t text ≡ Err e) × (partial f t text ≡ Err e)
  both e fault = (fault_completes f t text head e at.head_is fault, fault_goes_part f t text head e at.head_is fault)

  alone_is : (b : Bool) → b ≡ (p && (v.position == length v.bytes)) → b ≡ (p && (v.start == length text))
  alone_is b e = e ∙ ap (λ n. p && (n == length v.bytes)) at.at_start ∙ ap (λ bs. p && (v.start == length bs)) at.bytes

  pub prefix_alone : (n : ℕ) → true ≡ (p && (v.position == length v.bytes)) → n ≡ length v.bytes → (complete f t text ≡ Err (Empty n)) × (partial f t text ≡ Err (Empty n))
  prefix_alone n e size =
      let test = sym (alone_is true e) in
      let same : length text ≡ n = ap length (sym at.bytes) ∙ sym size in
      both (Empty n) (ap (λ b. option_or (cond b (Some (Empty (length text))) None) (option_or (zero_fault f (p || o) (numeral_behind f text head)) (range_fault t minus (numeral_behind f text head)))) test ∙ ap (λ k. Some (Empty k)) same)

  pub not_alone : false ≡ (p && (v.position == length v.bytes)) → prefix_fault text head ≡ None
  not_alone e = ap (λ b. cond b (Some (Empty (length text))) None) (sym (alone_is false e))

  pub digit_fault : (e : Error) → false ≡ (p && (v.position == length v.bytes)) → option_or (zero_fault v.format (p || o) (numeral_of v)) (range_fault t minus (numeral_of v)) ≡ Some e → (complete f t text ≡ Err e) × (partial f t text ≡ Err e)
  digit_fault e goes fault =
      both e (ap (λ q. option_or q (option_or (zero_fault f (p || o) (numeral_behind f text head)) (range_fault t minus (numeral_behind f text head)))) (not_alone goes)
      ∙ ap (λ x. option_or (zero_fault f (p || o) x) (range_fault t minus x)) same_text ∙ ap (λ g. option_or (zero_fault g (p || o) (numeral_of v)) (range_fault t minus (numeral_of v))) (sym at.format) ∙ fault)

pub range_behind : (t : IntegerType) (minus p : Bool) (v w : CursorView) (e : Error) → MovesOn v w → zero_fault v.format p (numeral_of v) ≡ None → range_fault t minus (numeral_of w) ≡ Some e → option_or (zero_fault v.format p (numeral_of v)) (range_fault t minus (numeral_of v)) ≡ Some e
range_behind t minus p v w e g none fault =
    ap (λ z. option_or z (range_fault t minus (numeral_of v))) none ∙ ap (range_fault t minus) (sym (same_numeral v w g)) ∙ fault

-- behind the first digit, reading may go on
pub reading_behind : (t : IntegerType) (minus : Bool) (v w : CursorView) (value : ℤ) → (minus ≡ true → t.is_signed ≡ true) → MovesOn v w → Reads t minus (numeral_of v) w.digits value → IsReading t minus w value
reading_behind t minus v w value signed g reads =
    record {
      still_open = g.closed;
      sound = g.sound;
      minus = signed;
      reads = subst (λ (x : Numeral). Reads t minus x w.digits value) (sym (same_numeral v w g)) reads;
    }

-- ---- all is read

stop_of_numeral : (v : CursorView) → (numeral_of v).stop ≡ numeral_stop v.format v.is_prefixed v.radix v.bytes v.start
unfolding numeral_in
stop_of_numeral v = refl

pub same_but_place : (b : Bool) (v w : CursorView) → w ≡ cond b (record v { position = v.position + 1; closed = true }) v → (w.bytes ≡ v.bytes) × (w.format ≡ v.format) × (w.digits ≡ v.digits) × (w.turns ≡ v.turns) × (w.identity ≡ v.identity)
same_but_place true v w e = (ap (λ (z : CursorView). z.bytes) e, ap (λ (z : CursorView). z.format) e, ap (λ (z : CursorView). z.digits) e, ap (λ (z : CursorView). z.turns) e, ap (λ (z : CursorView). z.identity) e)
same_but_place false v w e = (ap (λ (z : CursorView). z.bytes) e, ap (λ (z : CursorView). z.format) e, ap (λ (z : CursorView). z.digits) e, ap (λ (z : CursorView). z.turns) e, ap (λ (z : CursorView). z.identity) e)

pub is_read : (f : Format) (t : IntegerType) (text : List ℕ) (minus p o b : Bool) (v w x : CursorView) (value : ℤ) → IsAtHead f t text minus p o v → false ≡ (p && (v.position == length v.bytes)) → MovesOn v w → ReadsNumeral t minus (p || o) v w value
    → (w.position ≡ numeral_end w → x.position ≡ numeral_stop w.format w.is_prefixed w.radix w.bytes w.start) → x ≡ cond b (record w { position = w.position + 1; closed = true }) w → IsRead f t text value x
is_read f t text minus p o b v w x value at goes g reads stops after =
    let all = reads.all in
    let h : Head = record { is_negative = minus; is_prefixed = p; is_octal = o; start = v.start; radix = v.radix } in
    let here : Numeral = numeral_behind f text h in
    let first : numeral_of v ≡ here = sym (same_text f t text minus p o v at) in
    let second : numeral_of w ≡ here = same_numeral v w g ∙ first in
    let kept = same_but_place b w x after in
    let ends : w.position ≡ numeral_end w = all.at_end ∙ ap (λ (y : Numeral). y.ends) (sym (same_numeral v w g)) ∙ numeral_ends w in
    let digits : x.digits ≡ w.digits = kept.2 in
    record {
      head = h;
      head_is = at.head_is;
      no_prefix_fault = not_alone f t text minus p o v at goes;
      no_zero_fault = ap (λ g. zero_fault g (p || o) here) (sym at.format) ∙ ap (zero_fault v.format (p || o)) (sym first) ∙ reads.no_zeros;
      no_range_fault = ap (range_fault t minus) (sym first) ∙ all.fits;
      value_is = all.value_is ∙ ap (numeral_value minus) first;
      bytes = kept.0 ∙ g.bytes ∙ at.bytes;
      format = kept.1 ∙ g.format ∙ at.format;
      at_stop = stops ends ∙ sym (stop_of_numeral w) ∙ ap (λ (y : Numeral). y.stop) second;
      all_digits = digits ∙ all.all ∙ ap digit_count first;
    }

-- ---- the cursor's text and format

-- a cursor that stays as it is
pub over_same : (v w : CursorView) → IsSound v → w ≡ v → IsOver v.bytes v.format w
over_same v w s same = subst (λ (u : CursorView). IsOver v.bytes v.format u) (sym same) (record { bytes = refl; format = refl; sound = s })

-- a cursor behind sign and prefix
pub over_head : (f : Format) (t : IntegerType) (text : List ℕ) (minus p o : Bool) (v : CursorView) → IsAtHead f t text minus p o v → IsSound v → IsOver text f v
over_head f t text minus p o v at s = record { bytes = at.bytes; format = at.format; sound = s }

-- a cursor that has gone on from there
pub over_numeral : (f : Format) (t : IntegerType) (text : List ℕ) (minus p o : Bool) (v w : CursorView) → IsAtHead f t text minus p o v → MovesOn v w → IsOver text f w
over_numeral f t text minus p o v w at g = record { bytes = g.bytes ∙ at.bytes; format = g.format ∙ at.format; sound = fact_of g.sound }

-- a cursor from which the suffix was looked for
pub over_suffix : (f : Format) (t : IntegerType) (text : List ℕ) (minus p o b : Bool) (v w x : CursorView) → IsAtHead f t text minus p o v → MovesOn v w → x ≡ cond b (record w { position = w.position + 1; closed = true }) w → IsSound x → IsOver text f x
over_suffix f t text minus p o b v w x at g after s =
    let kept = same_but_place b w x after in
    record { bytes = kept.0 ∙ g.bytes ∙ at.bytes; format = kept.1 ∙ g.format ∙ at.format; sound = s }

-- a step over a prefix, and one that makes 8 the effective radix, are the same cursor's
pub identity_behind : (v w : CursorView) (radix : Option ℕ) → w ≡ behind_prefix v radix → w.identity ≡ v.identity
identity_behind v w None e = ap (λ (z : CursorView). z.identity) e
identity_behind v w (Some radix) e = ap (λ (z : CursorView). z.identity) e

pub identity_octal : (b : Bool) (v w : CursorView) → w ≡ cond b (record v { radix = 8 }) v → w.identity ≡ v.identity
identity_octal true v w e = ap (λ (z : CursorView). z.identity) e
identity_octal false v w e = ap (λ (z : CursorView). z.identity) e

-- behind all that is read, it stands where reading stops
pub at_stop_read : (f : Format) (t : IntegerType) (text : List ℕ) (value : ℤ) (v : CursorView) → IsRead f t text value v → StandsAtStop f t text v
at_stop_read f t text value v r = record { head = r.head; head_is = r.head_is; at_stop = r.at_stop; all_digits = r.all_digits }

-- ---- the answers

lacks_is : (f : Format) (t : IntegerType) (text : List ℕ) (value : ℤ) (v : CursorView) (b : Bool) → (r : IsRead f t text value v) → b ≡ (digits_required v.format && (v.digits == 0)) → (digits_required f && (digit_count (numeral_behind f text r.head) == 0)) ≡ b
lacks_is f t text value v b r e = ap (λ n. digits_required f && (n == 0)) (sym r.all_digits) ∙ ap (λ g. digits_required g && (v.digits == 0)) (sym r.format) ∙ sym e

pub complete_stops : (f : Format) (t : IntegerType) (text : List ℕ) (value : ℤ) (v : CursorView) → IsRead f t text value v → v.position < length v.bytes → complete f t text ≡ Err (InvalidDigit v.position)
unfolding complete
complete_stops f t text value v r l =
    let x : Numeral = numeral_behind f text r.head in
    let size : length v.bytes ≡ length text = ap length r.bytes in
    let stop : x.stop ≡ v.position = sym r.at_stop in
    let more : nat_lt v.position (length text) ≡ true = lt-ltb v.position (length text) (omega arith) in
    let e₁ = r.head_is in
    let e₂ = r.no_prefix_fault in
    let e₃ = r.no_zero_fault in
    let e₄ = r.no_range_fault in
    rw (e₁, e₂, e₃, e₄, stop, more) refl

pub complete_empty : (f : Format) (t : IntegerType) (text : List ℕ) (value : ℤ) (v : CursorView) (n : ℕ) → IsRead f t text value v → v.position ≡ length v.bytes → n ≡ length v.bytes → true ≡ (digits_required v.format && (v.digits == 0)) → complete f t text ≡ Err (Empty n)
unfolding complete
complete_empty f t text value v n r end is lacks =
    let x : Numeral = numeral_behind f text r.head in
    let size : length v.bytes ≡ length text = ap length r.bytes in
    let stop : x.stop ≡ v.position = sym r.at_stop in
    let no_more : nat_lt v.position (length text) ≡ false = le-ltb v.position (length text) (omega arith) in
    let test = lacks_is f t text value v true r lacks in
    let e₁ = r.head_is in
    let e₂ = r.no_prefix_fault in
    let e₃ = r.no_zero_fault in
    let e₄ = r.no_range_fault in
    let same : length text ≡ n = omega arith in
    rw (e₁, e₂, e₃, e₄, stop, no_more, test) (ap (λ k. Err (Empty k)) same)

pub complete_value : (f : Format) (t : IntegerType) (text : List ℕ) (value : ℤ) (v : CursorView) → IsRead f t text value v → v.position ≡ length v.bytes → false ≡ (digits_required v.format && (v.digits == 0)) → complete f t text ≡ Ok value
unfolding complete
complete_value f t text value v r end lacks =
    let x : Numeral = numeral_behind f text r.head in
    let size : length v.bytes ≡ length text = ap length r.bytes in
    let stop : x.stop ≡ v.position = sym r.at_stop in
    let no_more : nat_lt v.position (length text) ≡ false = le-ltb v.position (length text) (omega arith) in
    let test = lacks_is f t text value v false r lacks in
    let e₁ = r.head_is in
    let e₂ = r.no_prefix_fault in
    let e₃ = r.no_zero_fault in
    let e₄ = r.no_range_fault in
    rw (e₁, e₂, e₃, e₄, stop, no_more, test) (ap Ok (sym r.value_is))

settled_is : (f : Format) (t : IntegerType) (text : List ℕ) (value : ℤ) (v : CursorView) (b : Bool) → (r : IsRead f t text value v) → b ≡ (is_some v.format.digit_separator || (v.position == length v.bytes)) → (is_some f.digit_separator || (v.position == length text)) ≡ b
settled_is f t text value v b r e = ap (λ g. is_some g.digit_separator || (v.position == length text)) (sym r.format) ∙ ap (λ bs. is_some v.format.digit_separator || (v.position == length bs)) (sym r.bytes) ∙ sym e

pub partial_empty : (f : Format) (t : IntegerType) (text : List ℕ) (value : ℤ) (v : CursorView) → IsRead f t text value v → true ≡ (digits_required v.format && (v.digits == 0)) → true ≡ (is_some v.format.digit_separator || (v.position == length v.bytes)) → partial f t text ≡ Err (Empty v.position)
unfolding partial
partial_empty f t text value v r lacks settled =
    let x : Numeral = numeral_behind f text r.head in
    let stop : x.stop ≡ v.position = sym r.at_stop in
    let test = lacks_is f t text value v true r lacks in
    let ends = settled_is f t text value v true r settled in
    let e₁ = r.head_is in
    let e₂ = r.no_prefix_fault in
    let e₃ = r.no_zero_fault in
    let e₄ = r.no_range_fault in
    rw (e₁, e₂, e₃, e₄, stop, test, ends) refl

pub partial_value : (f : Format) (t : IntegerType) (text : List ℕ) (value : ℤ) (v : CursorView) → IsRead f t text value v → false ≡ (digits_required v.format && (v.digits == 0)) → partial f t text ≡ Ok (value, v.position)
unfolding partial
partial_value f t text value v r lacks =
    let x : Numeral = numeral_behind f text r.head in
    let stop : x.stop ≡ v.position = sym r.at_stop in
    let test = lacks_is f t text value v false r lacks in
    let e₁ = r.head_is in
    let e₂ = r.no_prefix_fault in
    let e₃ = r.no_zero_fault in
    let e₄ = r.no_range_fault in
    rw (e₁, e₂, e₃, e₄, stop, test) (ap (λ z. Ok (z, v.position)) (sym r.value_is))

pub partial_goes_on : (f : Format) (t : IntegerType) (text : List ℕ) (value : ℤ) (v : CursorView) → IsRead f t text value v → true ≡ (digits_required v.format && (v.digits == 0)) → false ≡ (is_some v.format.digit_separator || (v.position == length v.bytes)) → partial f t text ≡ Ok (value, v.position)
unfolding partial
partial_goes_on f t text value v r lacks settled =
    let x : Numeral = numeral_behind f text r.head in
    let stop : x.stop ≡ v.position = sym r.at_stop in
    let test = lacks_is f t text value v true r lacks in
    let ends = settled_is f t text value v false r settled in
    let e₁ = r.head_is in
    let e₂ = r.no_prefix_fault in
    let e₃ = r.no_zero_fault in
    let e₄ = r.no_range_fault in
    rw (e₁, e₂, e₃, e₄, stop, test, ends) (ap (λ z. Ok (z, v.position)) (sym r.value_is))

pub before_end : (b : Bool) (p n : ℕ) → (IsTrue b ↔ (p ≡ n)) → b ≡ false → p ≤ n → p < n
before_end b p n told fails low = elim (cases_lt p n) [ inl l ↦ l | inr l ↦ absurd (false≢true (sym fails ∙ told.1 (omega arith))) ]
