-- What taking words leaves of a numeral without separators: for `read_words`.
use Rattle.std.proofs.Common.{◌≡◌, ℕ, zero, suc, ◌+◌, ◌-◌, ◌*◌, ◌^◌, ◌≤◌, ◌<◌, Bool, true, false, ◌||◌, ◌&&◌, List, [], ◌∷◌, ◌++◌, length, get_or, take, map, is_some, Option, Some, None, refl, sym, ap, ◌∙◌, subst, arith, inl, inr}
use Rattle.std.specs.Prelude.{ℤ, pos, slice_range}
use Rattle.std.specs.Option.{unwrap_or}
use Rattle.std.proofs.Math.Nat.{pow-zero, pow-suc, mul-le-mul_right}
use Rattle.std.proofs.lemmas.Bool.{cases_lt, false≢true}
use Rattle.std.proofs.lemmas.List.{take_more, get_or-map, length-map}
use Rattle.lexical_parse_integer.specs.CursorView.{AreDigitsAhead, CursorView, IsSound, numeral_end, numeral_of}
use Rattle.lexical_parse_integer.specs.Numeral.{Numeral, digit_count, front_value, numeral_in}
use Rattle.lexical_parse_integer.specs.Reading.{FrontsFit, MovesOn, Reads}
use Rattle.lexical_parse_integer.specs.Runs.{is_in_numeral, digit_at, digits_between, places, separator_at}
use Rattle.lexical_digits.specs.Value.{positional_value, with_sign}
use Rattle.lexical_digits.specs.Words.{word_value}
use Rattle.lexical_digits.proofs.AsciiDigits.{AreAsciiDigits, ascii_value, ascii_value_is}
use Rattle.lexical_util.specs.Format.{Format}
use Rattle.lexical_util.specs.Number.{HasRoom, IsNumber, integer_type, is_number, mul_add}
use Rattle.lexical_parse_integer.specs.Folded.{Folded}
use Rattle.lexical_parse_integer.proofs.Folds.{fact_of}
use Rattle.lexical_parse_integer.proofs.grammar.NumeralEnd.{IsStop-end_of, reaches}
use Rattle.lexical_parse_integer.proofs.grammar.DigitCounts.{length-digits_between_all}
use Rattle.lexical_digits.proofs.DigitValues.{positional_value-push, with_sign-step}
use Rattle.lexical_parse_integer.proofs.reading.NumeralSteps.{place_found, same_numeral, digit_at_below}
use Rattle.lexical_parse_integer.proofs.reading.DigitLoop.{numeral_radix}
use Rattle.lexical_parse_integer.proofs.reading.FirstDigit.{no_separator}
use Rattle.lexical_parse_integer.proofs.words.WordsInTexts.{StandsAt, stands_ahead, are_digits, word_digit, length-ahead, past_end}
use Rattle.lexical_digits.proofs.RadixFronts.{few_fit}

-- ---- without a separator, digits alone

digit_alone : (f : Format) (pre : Bool) (r : ℕ) (b : List ℕ) (j k : ℕ) → f.digit_separator ≡ None → is_in_numeral f pre r b j k ≡ true → is_some (digit_at r b k) ≡ true
unfolding is_in_numeral
digit_alone f pre r b j k none t = by_tests (is_some (digit_at r b k)) (separator_at f b k) _ (no_separator f b k none) t
  where
    by_tests : (a s p : Bool) → s ≡ false → (a || (s && p)) ≡ true → a ≡ true
    by_tests true s p e h = refl
    by_tests false true p e h = absurd (false≢true (sym e))
    by_tests false false p e h = h

every_digit : (v : CursorView) → IsSound v → v.format.digit_separator ≡ None → (k : ℕ) → v.start ≤ k → k < numeral_end v → is_some (digit_at v.radix v.bytes k) ≡ true
every_digit v s none k low high =
    digit_alone v.format v.is_prefixed v.radix v.bytes v.start k none ((IsStop-end_of v.format v.is_prefixed v.radix v.bytes v.start (omega (arith, s.after_start, s.within))).holds k low high)

end_count : (v : CursorView) → IsSound v → v.closed ≡ false → v.format.digit_separator ≡ None → numeral_end v + v.digits ≡ v.position + digit_count (numeral_of v)
unfolding numeral_in
end_count v s open_now none =
    let o = s.while_open open_now in
    let whole : v.position + (numeral_end v - v.position) ≡ numeral_end v = omega (arith, o.before_end) in
    let rest = length-digits_between_all v.radix v.bytes v.start v.position (numeral_end v - v.position) s.after_start (λ k low high. every_digit v s none k (omega (arith, s.after_start)) (omega arith)) in
    let all : length (places v.format v.is_prefixed v.radix v.bytes v.start) ≡ length (digits_between v.radix v.bytes v.start v.position) + (numeral_end v - v.position) = ap (λ e. length (digits_between v.radix v.bytes v.start e)) (sym whole) ∙ rest in
    let count = length-map (places v.format v.is_prefixed v.radix v.bytes v.start) (λ k. unwrap_or (digit_at v.radix v.bytes k) 0) in
    omega (arith, o.digits, o.before_end)

-- where the next `w` bytes aren't all digits, fewer than `w` digits are left
pub few_left : (v : CursorView) (w : ℕ) → IsSound v → v.closed ≡ false → v.format.digit_separator ≡ None → (AreDigitsAhead v w → ⊥) → digit_count (numeral_of v) < v.digits + w
few_left v w s open_now none no_word =
    elim (cases_lt (digit_count (numeral_of v)) (v.digits + w)) [
      | inl l ↦ l
      | inr l ↦ let count = end_count v s open_now none in absurd (no_word (λ k low high. every_digit v s none k (omega (arith, s.after_start)) (omega arith)))
    ]

-- ---- the digits of a word in the numeral

record IsPart (x : Numeral) (m : ℕ) (bs : List ℕ) : Type 0 where
  more : (i : ℕ) → i < length bs → m + i < digit_count x
  digit : (i : ℕ) → i < length bs → get_or x.digits (m + i) 0 ≡ get_or bs i 0 - 48

is_part : (v : CursorView) (bs : List ℕ) → IsSound v → v.closed ≡ false → v.radix ≤ 10 → StandsAt v.bytes bs v.position → AreAsciiDigits v.radix bs → ((k : ℕ) → v.position ≤ k → k < v.position + length bs → is_some (digit_at v.radix v.bytes k) ≡ true) → v.position + length bs ≤ numeral_end v → IsPart (numeral_of v) v.digits bs
unfolding numeral_in
is_part v bs s open_now ten stands digits all inside =
    let o = s.while_open open_now in
    let h : ℕ → ℕ = λ k. unwrap_or (digit_at v.radix v.bytes k) 0 in
    let ps : List ℕ = places v.format v.is_prefixed v.radix v.bytes v.start in
    let size = length-map ps h in
    let here = λ (i : ℕ) (l : i < length bs). word_digit v.radix v.bytes bs v.position ten stands digits i (v.position + i) (omega arith) l in
    let count = λ (i : ℕ) (l : i < length bs). length-digits_between_all v.radix v.bytes v.start v.position i s.after_start (λ k low high. all k low (omega arith)) in
    let found = λ (i : ℕ) (l : i < length bs). place_found v.radix v.bytes v.start (v.position + i) (numeral_end v) (v.digits + i) (get_or bs i 0 - 48) (omega (arith, s.after_start)) (omega arith) (here i l) (omega (arith, o.digits, count i l)) in
    record {
      more = λ i l. omega (arith, (found i l).0);
      digit = λ i l. get_or-map h ps (v.digits + i) 0 0 (found i l).0 ∙ ap h (found i l).1 ∙ ap (λ d. unwrap_or d 0) (here i l);
    }

word_front : (r : ℕ) (ds bs : List ℕ) (m : ℕ) → ((i : ℕ) → i < length bs → m + i < length ds) → ((i : ℕ) → i < length bs → get_or ds (m + i) 0 ≡ get_or bs i 0 - 48) → positional_value r (take (m + length bs) ds) ≡ positional_value r (take m ds) * r ^ length bs + ascii_value r bs
word_front r ds [] m more digit =
    let same : m + 0 ≡ m = omega arith in
    let one = pow-zero r in
    ap (λ k. positional_value r (take k ds)) same ∙ (let e : positional_value r (take m ds) ≡ positional_value r (take m ds) * r ^ 0 + 0 = rw one (omega arith) in e)
word_front r ds (c ∷ cs) m more digit =
    let next : m + suc (length cs) ≡ m + 1 + length cs = omega arith in
    let first : get_or ds m 0 ≡ c - 48 = ap (λ k. get_or ds k 0) (let e : m ≡ m + 0 = omega arith in e) ∙ digit 0 (omega arith) in
    let l : m < length ds = let h = more 0 (omega arith) in omega arith in
    let rest = word_front r ds cs (m + 1) (λ i h. let g = more (suc i) (omega arith) in omega arith) (λ i h. ap (λ k. get_or ds k 0) (let e : m + 1 + i ≡ m + suc i = omega arith in e) ∙ digit (suc i) (omega arith)) in
    let push : positional_value r (take (m + 1) ds) ≡ positional_value r (take m ds) * r + (c - 48) = ap (positional_value r) (take_more ds m 0 l ∙ ap (λ d. take m ds ++ d ∷ []) first) ∙ positional_value-push r (take m ds) (c - 48) in
    let power = pow-suc r (length cs) in
    ap (λ k. positional_value r (take k ds)) next ∙ rest ∙ ap (λ n. n * r ^ length cs + ascii_value r cs) push ∙ regroup (positional_value r (take m ds)) r (c - 48) (r ^ length cs) (ascii_value r cs) (r ^ suc (length cs)) power
  where
    regroup : (a r d q w p : ℕ) → p ≡ q * r → (a * r + d) * q + w ≡ a * p + (d * q + w)
    regroup a r d q w p e = rw e (grind arith)

-- ---- few digits never leave the type

front_below : (r : ℕ) (ds : List ℕ) (m : ℕ) → ((k : ℕ) → k < length ds → get_or ds k 0 < r) → m ≤ length ds → positional_value r (take m ds) < r ^ m
front_below r ds zero digits h = let one = pow-zero r in omega arith
front_below r ds (suc m) digits h =
    let before = front_below r ds m digits (omega arith) in
    let d = digits m (omega arith) in
    let next : suc m ≡ m + 1 = omega arith in
    let e : positional_value r (take (suc m) ds) ≡ positional_value r (take m ds) * r + get_or ds m 0 = ap (λ k. positional_value r (take k ds)) next ∙ ap (positional_value r) (take_more ds m 0 (omega arith)) ∙ positional_value-push r (take m ds) (get_or ds m 0) in
    let p = pow-suc r m in
    let up : suc (positional_value r (take m ds)) * r ≤ r ^ m * r = mul-le-mul_right r before in
    let spread : suc (positional_value r (take m ds)) * r ≡ positional_value r (take m ds) * r + r = grind arith in
    omega (arith, e, p, up, spread)

value_below : (r : ℕ) (o : Option ℕ) → 1 ≤ r → ((v : ℕ) → o ≡ Some v → v < r) → unwrap_or o 0 < r
value_below r None one h = omega arith
value_below r (Some d) one h = h d refl

digits_below : (v : CursorView) → 1 ≤ v.radix → (k : ℕ) → k < digit_count (numeral_of v) → get_or (numeral_of v).digits k 0 < v.radix
unfolding numeral_in
digits_below v one k l =
    let h : ℕ → ℕ = λ k. unwrap_or (digit_at v.radix v.bytes k) 0 in
    let ps : List ℕ = places v.format v.is_prefixed v.radix v.bytes v.start in
    let size = length-map ps h in
    let e : get_or (map h ps) k 0 ≡ h (get_or ps k 0) = get_or-map h ps k 0 0 (omega arith) in
    let low : h (get_or ps k 0) < v.radix = value_below v.radix (digit_at v.radix v.bytes (get_or ps k 0)) one (digit_at_below v.radix v.bytes (get_or ps k 0)) in
    omega arith

pub room_fits : (bits : ℕ) (s b : Bool) (v : CursorView) (o n : ℕ) → IsSound v → HasRoom (integer_type bits s) v.radix o → (b ≡ true → s ≡ true) → n ≤ o → n ≤ digit_count (numeral_of v) → FrontsFit (integer_type bits s) b (numeral_of v) n
room_fits bits s b v o n sound room may le count k l =
    let two = sound.radix.low in
    let low : positional_value v.radix (take (k + 1) (numeral_of v).digits) < v.radix ^ (k + 1) = front_below v.radix (numeral_of v).digits (k + 1) (digits_below v (omega arith)) (omega arith) in
    rw (numeral_radix v) (few_fit (integer_type bits s) b v.radix o _ (k + 1) room may (omega arith) (omega arith) low)

-- ---- a word is read

belongs_some : (v : CursorView) (k : ℕ) → is_some (digit_at v.radix v.bytes k) ≡ true → is_in_numeral v.format v.is_prefixed v.radix v.bytes v.start k ≡ true
unfolding is_in_numeral
belongs_some v k e = rw e refl

pub record ReadsWord (bits : ℕ) (s b : Bool) (u v : CursorView) (w : ℕ) (next : ℤ) : Type 0 where
  pub fits : IsNumber (integer_type bits s) next
  pub reads : Reads (integer_type bits s) b (numeral_of u) (v.digits + w) next

pub reads_word : (bits : ℕ) (s b : Bool) (u v : CursorView) (w o : ℕ) (value scale word : ℤ) → 1 ≤ w → MovesOn u v → v.radix ≤ 10 → HasRoom (integer_type bits s) v.radix o → (b ≡ true → s ≡ true) → v.digits + w ≤ o → AreDigitsAhead v w → Reads (integer_type bits s) b (numeral_of u) v.digits value
    → scale ≡ pos (v.radix ^ w) → word ≡ pos (word_value v.radix (slice_range v.bytes v.position (v.position + w))) → ReadsWord bits s b u v w (mul_add b value scale word)
reads_word bits s b u v w o value scale word some g ten room may le ahead reads is_scale is_word =
    let sound = fact_of g.sound in
    let state = sound.while_open g.closed in
    let bs : List ℕ = slice_range v.bytes v.position (v.position + w) in
    let within : v.position + w ≤ length v.bytes = elim (cases_lt (length v.bytes) (v.position + w)) [ inl l ↦ absurd (past_end v.radix v.bytes v.position w some l ahead) | inr l ↦ l ] in
    let size : length bs ≡ w = length-ahead v.bytes v.position w within in
    let stands = stands_ahead v.bytes v.position w within in
    let all = λ (k : ℕ) (low : v.position ≤ k) (high : k < v.position + length bs). ahead k low (omega arith) in
    let digits : AreAsciiDigits v.radix bs = are_digits v.radix v.bytes bs v.position ten stands all in
    let inside : v.position + w ≤ numeral_end v = reaches v.format v.is_prefixed v.radix v.bytes v.start v.position (v.position + w) sound.after_start state.before_end within sound.within (λ k low high. belongs_some v k (ahead k low high)) in
    let part = is_part v bs sound g.closed ten stands digits all (omega arith) in
    let same = same_numeral u v g in
    let last = part.more (w - 1) (omega arith) in
    let front = word_front v.radix (numeral_of v).digits bs v.digits part.more part.digit in
    let whole : v.digits + length bs ≡ v.digits + w = omega arith in
    let value_is : positional_value v.radix (take (v.digits + w) (numeral_of v).digits) ≡ positional_value v.radix (take v.digits (numeral_of v).digits) * v.radix ^ w + ascii_value v.radix bs =
    ap (λ k. positional_value v.radix (take k (numeral_of v).digits)) (sym whole) ∙ front ∙ ap (λ k. positional_value v.radix (take v.digits (numeral_of v).digits) * v.radix ^ k + ascii_value v.radix bs) size in
    let radix = numeral_radix v in
    let before : value ≡ with_sign b (positional_value v.radix (take v.digits (numeral_of v).digits)) = reads.front ∙ ap (λ (x : Numeral). front_value b x v.digits) (sym same) ∙ ap (λ r. with_sign b (positional_value r (take v.digits (numeral_of v).digits))) radix in
    let next : mul_add b value scale word ≡ front_value b (numeral_of v) (v.digits + w) =
    ap (λ z. mul_add b z scale word) before ∙ ap (λ z. mul_add b (with_sign b (positional_value v.radix (take v.digits (numeral_of v).digits))) z word) is_scale
    ∙ ap (λ z. mul_add b (with_sign b (positional_value v.radix (take v.digits (numeral_of v).digits))) (pos (v.radix ^ w)) z) (is_word ∙ ap pos (sym (ascii_value_is v.radix bs)))
    ∙ with_sign-step b (positional_value v.radix (take v.digits (numeral_of v).digits)) (v.radix ^ w) (ascii_value v.radix bs)
    ∙ ap (with_sign b) (sym value_is) ∙ ap (λ r. with_sign b (positional_value r (take (v.digits + w) (numeral_of v).digits))) (sym radix) in
    let fit : FrontsFit (integer_type bits s) b (numeral_of v) (v.digits + w) = room_fits bits s b v o (v.digits + w) sound room may le (omega arith) in
    let lasts : v.digits + (w - 1) + 1 ≡ v.digits + w = omega arith in
    let here : is_number (integer_type bits s) (front_value b (numeral_of v) (v.digits + w)) ≡ true = ap (λ k. is_number (integer_type bits s) (front_value b (numeral_of v) k)) (sym lasts) ∙ fit (v.digits + (w - 1)) (omega arith) in
    let there : Reads (integer_type bits s) b (numeral_of v) (v.digits + w) (mul_add b value scale word) = record { count = omega arith; front = next; fit = fit } in
    record {
      fits = ap (is_number (integer_type bits s)) next ∙ here;
      reads = subst (λ (x : Numeral). Reads (integer_type bits s) b x (v.digits + w) (mul_add b value scale word)) same there;
    }

pub goes_on_word : (u v next : CursorView) (w : ℕ) → MovesOn u v → Folded (IsSound next) → next ≡ record v { position = v.position + w; digits = v.digits + w; turns = v.turns + 1 } → MovesOn u next
goes_on_word u v next w g s e = record {
  bytes = ap (λ (z : CursorView). z.bytes) e ∙ g.bytes;
  format = ap (λ (z : CursorView). z.format) e ∙ g.format;
  prefixed = ap (λ (z : CursorView). z.is_prefixed) e ∙ g.prefixed;
  radix = ap (λ (z : CursorView). z.radix) e ∙ g.radix;
  start = ap (λ (z : CursorView). z.start) e ∙ g.start;
  identity = ap (λ (z : CursorView). z.identity) e ∙ g.identity;
  closed = ap (λ (z : CursorView). z.closed) e ∙ g.closed;
  sound = s;
}

pub few_left_from : (u v : CursorView) (w : ℕ) → MovesOn u v → v.format.digit_separator ≡ None → (AreDigitsAhead v w → ⊥) → digit_count (numeral_of u) < v.digits + w
few_left_from u v w g none no_word =
    let low = few_left v w (fact_of g.sound) g.closed none no_word in
    let same : digit_count (numeral_of v) ≡ digit_count (numeral_of u) = ap digit_count (same_numeral u v g) in
    omega arith
