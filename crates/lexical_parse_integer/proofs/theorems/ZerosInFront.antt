-- Zeros in front of the first digit leave the value: for `zeros_in_front` and `zeros`.
use Rattle.std.proofs.Common.{◌≡◌, ℕ, zero, suc, ◌+◌, ◌<◌, ◌≤◌, Bool, true, false, ◌&&◌, List, [], ◌∷◌, ◌++◌, length, length-append, map, refl, sym, ap, subst, ◌∙◌, arith, Option, Some, None, is_some, IsSome, Ok, Result, inl, inr, cond}
use Rattle.std.proofs.Math.IntN.{ℤ}
use Rattle.std.proofs.lemmas.Bool.{cases_lt}
use Rattle.std.proofs.lemmas.Bool.Decides.{nat_tests}
use Rattle.std.specs.Prelude.{◌==◌, OnOk, option_and_then, replicate, slice_get}
use Rattle.std.specs.Option.{unwrap_or}
use Rattle.lexical_util.specs.declared.error.Error.{Error}
use Rattle.lexical_util.specs.Digit.{digit}
use Rattle.lexical_util.specs.Format.{standard}
use Rattle.lexical_util.specs.Number.{IntegerType, is_number}
use Rattle.lexical_parse_integer.specs.Answer.{view_of}
use Rattle.lexical_parse_integer.specs.Grammar.{complete}
use Rattle.lexical_parse_integer.specs.Head.{sign}
use Rattle.lexical_parse_integer.specs.Laws.{PadsZeros, ReadsPadded}
use Rattle.lexical_parse_integer.specs.Runs.{digit_at}
use Rattle.lexical_parse_integer.specs.Seeking.{HasNoDigit}
use Rattle.lexical_digits.specs.Value.{positional_value, with_sign}
use Rattle.lexical_parse_integer.proofs.theorems.DigitTexts.{digits_read, rest_value, whole_told}
use Rattle.lexical_parse_integer.proofs.grammar.DigitsInARow.{has_digit}
use Rattle.lexical_digits.proofs.DigitValues.{HaveDigits}
use Rattle.lexical_parse_integer.proofs.theorems.ReadBack.{GoesOnWith, all_there, rest_is, sign_of_digit}
use Rattle.lexical_parse_integer.proofs.grammar.Stretches.{HoldsBetween}
use Rattle.lexical_parse_integer.proofs.theorems.EqualViews.{IsInjective, view_ok_same}

-- ---- the bytes behind a front

goes_on_behind : (front bytes : List ℕ) → GoesOnWith (front ++ bytes) (length front) bytes
goes_on_behind front bytes = record { at = at front; size = length-append front bytes }
  where
    at : (front : List ℕ) (k : ℕ) → slice_get (front ++ bytes) (length front + k) ≡ slice_get bytes k
    at [] k = ap (slice_get bytes) (omega arith)
    at (c ∷ cs) k = ap (slice_get (c ∷ (cs ++ bytes))) (let e : suc (length cs) + k ≡ suc (length cs + k) = omega arith in e) ∙ at cs k

byte_values : List ℕ → List ℕ
byte_values bytes = map (λ byte. unwrap_or (digit 10 byte) 0) bytes

some_is : (o : Option ℕ) → is_some o ≡ true → o ≡ Some (unwrap_or o 0)
some_is None h = cc
some_is (Some d) h = refl

are_digits : (bytes : List ℕ) → ((k : ℕ) → k < length bytes → is_some (option_and_then (λ byte. digit 10 byte) (slice_get bytes k)) ≡ true) → HaveDigits 10 bytes (byte_values bytes)
unfolding byte_values
are_digits [] all = refl
are_digits (c ∷ cs) all =
    let here : digit 10 c ≡ Some (unwrap_or (digit 10 c) 0) = some_is (digit 10 c) (all 0 (omega arith)) in
    let rest = are_digits cs (λ k l. all (suc k) (omega arith)) in
    cc

-- the bytes behind a front, where digits alone stand there
rest_digits : (text bytes : List ℕ) (start : ℕ) → GoesOnWith text start bytes → HoldsBetween (has_digit 10 text) start (length text) → HaveDigits 10 bytes (byte_values bytes)
unfolding digit_at
rest_digits text bytes start on all =
    are_digits bytes (λ k l. ap (λ o. is_some (option_and_then (λ byte. digit 10 byte) o)) (sym (on.at k)) ∙ all (start + k) (omega arith) (omega (arith, on.size)))

-- ---- zeros

zeros_digits : (n : ℕ) (bytes ds : List ℕ) → HaveDigits 10 bytes ds → HaveDigits 10 (replicate n 48 ++ bytes) (replicate n 0 ++ ds)
zeros_digits zero bytes ds all = all
zeros_digits (suc n) bytes ds all = ap (λ (os : List (Option ℕ)). Some 0 ∷ os) (zeros_digits n bytes ds all)

zeros_value : (n : ℕ) (ds : List ℕ) → positional_value 10 (replicate n 0 ++ ds) ≡ positional_value 10 ds
zeros_value zero ds = refl
zeros_value (suc n) ds = let rest = zeros_value n ds in omega arith

-- what is read behind the same sign
padded_read : (t : IntegerType) (text padded bytes : List ℕ) (s : Bool × ℕ) (n : ℕ) → sign standard t padded ≡ Ok s → GoesOnWith text s.1 bytes → GoesOnWith padded s.1 (replicate n 48 ++ bytes) → s.1 < length text →
    HoldsBetween (has_digit 10 text) s.1 (length text) → is_number t (with_sign s.0 (rest_value 10 text s.1)) ≡ true → complete standard t padded ≡ Ok (with_sign s.0 (rest_value 10 text s.1))
padded_read t text padded bytes s n sign_is on on' some all fits =
    let ds : List ℕ = byte_values bytes in
    let digits : HaveDigits 10 bytes ds = rest_digits text bytes s.1 on all in
    let more : HaveDigits 10 (replicate n 48 ++ bytes) (replicate n 0 ++ ds) = zeros_digits n bytes ds digits in
    let value : rest_value 10 padded s.1 ≡ rest_value 10 text s.1 = rest_is 10 padded (replicate n 48 ++ bytes) (replicate n 0 ++ ds) s.1 on' more ∙ zeros_value n ds ∙ sym (rest_is 10 text bytes ds s.1 on digits) in
    let size = length-append (replicate n 48) bytes in
    digits_read 10 t padded s (omega arith) sign_is (omega (arith, on.size, on'.size)) (all_there 10 padded (replicate n 48 ++ bytes) (replicate n 0 ++ ds) s.1 on' more) (ap (λ (m : ℕ). is_number t (with_sign s.0 m)) value ∙ fits)
    ∙ ap (λ (m : ℕ). Ok (with_sign s.0 m)) value

-- ---- the first digit stands directly behind the sign

-- a sign has at most one byte, and that is no digit
pub record IsSignOf (text : List ℕ) (place : ℕ) : Type 0 where
  pub short : place ≤ 1
  pub no_digit : place ≡ 1 → digit_at 10 text 0 ≡ None

byte_is : (b : Bool) (c n : ℕ) → (c == n) ≡ b → b ≡ true → c ≡ n
byte_is b c n e t = grind (arith, nat_tests)

at_place : (b : Bool) (n : ℕ) (s : Bool × ℕ) → ◌≡◌ {A = Result (Bool × ℕ) Error} (Ok (b, n)) (Ok s) → n ≡ s.1
at_place b n s e = let same : (b, n) ≡ s = cc in ap (λ (w : Bool × ℕ). w.1) same

sign_told : (t : IntegerType) (text : List ℕ) (s : Bool × ℕ) → sign standard t text ≡ Ok s → IsSignOf text s.1
unfolding sign digit_at
sign_told t [] s h = let at = at_place false 0 s h in record { short = omega arith; no_digit = λ e. refl }
sign_told t (c ∷ cs) s h = by_tests (c == 43) refl (c == 45) refl t.is_signed h
  where
    by_tests : (a : Bool) → (c == 43) ≡ a → (b : Bool) → (c == 45) ≡ b → (d : Bool) → ◌≡◌ {A = Result (Bool × ℕ) Error} (cond a (Ok (false, 1)) (cond (b && d) (Ok (true, 1)) (Ok (false, 0)))) (Ok s) → IsSignOf (c ∷ cs) s.1
    by_tests true ea b eb d h = let at = at_place false 1 s h in let is = byte_is true c 43 ea refl in record { short = omega arith; no_digit = λ e. ap (λ (x : ℕ). digit 10 x) is }
    by_tests false ea true eb true h = let at = at_place true 1 s h in let is = byte_is true c 45 eb refl in record { short = omega arith; no_digit = λ e. ap (λ (x : ℕ). digit 10 x) is }
    by_tests false ea true eb false h = let at = at_place false 0 s h in record { short = omega arith; no_digit = λ e. absurd (omega arith) }
    by_tests false ea false eb d h = let at = at_place false 0 s h in record { short = omega arith; no_digit = λ e. absurd (omega arith) }

-- the first digit of a text that is read
front_is : (text : List ℕ) (place m : ℕ) → IsSignOf text place → is_some (digit_at 10 text place) ≡ true → HasNoDigit 10 text 0 m → IsSome (digit_at 10 text m) → m ≡ place
front_is text place m of here none there =
    elim (cases_lt place m) [
      | inl l ↦ let no = none place (omega arith) l in absurd (cc)
      | inr l ↦ elim (cases_lt m place) [
        | inl l' ↦
            let short = of.short in
            let first : m ≡ 0 = omega arith in
            let no : digit_at 10 text m ≡ None = ap (digit_at 10 text) first ∙ of.no_digit (omega arith) in
            absurd (no_some (digit_at 10 text m) no there)
        | inr l' ↦ omega arith
      ]
    ]
  where
    no_some : (o : Option ℕ) → o ≡ None → IsSome o → ⊥
    no_some None e h = cc
    no_some (Some d) e h = cc

sign_of_first : (t : IntegerType) (d : ℕ) (ds : List ℕ) → is_some (digit_at 10 (d ∷ ds) 0) ≡ true → sign standard t (d ∷ ds) ≡ Ok (false, 0)
unfolding digit_at
sign_of_first t d ds h = sign_of_digit 10 t d (unwrap_or (digit 10 d) 0) ds (some_is (digit 10 d) h)

-- the sign is the same
same_sign : (t : IntegerType) (front rest : List ℕ) (s : Bool × ℕ) (n : ℕ) → length front ≡ s.1 → is_some (digit_at 10 (front ++ rest) (length front)) ≡ true → sign standard t (front ++ rest) ≡ Ok s → sign standard t (front ++ (replicate n 48 ++ rest)) ≡ Ok s
unfolding sign
same_sign t (c ∷ cs) rest s n size digit is = is
same_sign t [] rest s zero size digit is = is
same_sign t [] [] s (suc n) size digit is = is
same_sign t [] (d ∷ ds) s (suc n) size digit is = sign_of_digit 10 t 48 0 (replicate n 48 ++ d ∷ ds) refl ∙ sym (sign_of_first t d ds digit) ∙ is

pub reads_padded : (t : IntegerType) → ReadsPadded t
reads_padded t text padded v pads read =
    let whole = whole_told 10 t text v read in
    let s : Bool × ℕ = whole.s in
    let here : is_some (digit_at 10 text s.1) ≡ true = whole.all s.1 (omega arith) whole.some in
    let place : length pads.front ≡ s.1 = front_is text s.1 (length pads.front) (sign_told t text s whole.sign_is) here pads.no_digit_before pads.digit_behind in
    let sign_text : sign standard t (pads.front ++ pads.rest) ≡ Ok s = ap (sign standard t) (sym pads.text_is) ∙ whole.sign_is in
    let digit_text : is_some (digit_at 10 (pads.front ++ pads.rest) (length pads.front)) ≡ true = ap (λ (b : List ℕ). is_some (digit_at 10 b (length pads.front))) (sym pads.text_is) ∙ ap (λ k. is_some (digit_at 10 text k)) place ∙ here in
    let sign_padded : sign standard t padded ≡ Ok s = ap (sign standard t) pads.padded_is ∙ same_sign t pads.front pads.rest s pads.zeros place digit_text sign_text in
    let on : GoesOnWith text s.1 pads.rest = subst (λ (k : ℕ). GoesOnWith text k pads.rest) place (subst (λ (b : List ℕ). GoesOnWith b (length pads.front) pads.rest) (sym pads.text_is) (goes_on_behind pads.front pads.rest)) in
    let on' : GoesOnWith padded s.1 (replicate pads.zeros 48 ++ pads.rest) = subst (λ (k : ℕ). GoesOnWith padded k (replicate pads.zeros 48 ++ pads.rest)) place (subst (λ (b : List ℕ). GoesOnWith b (length pads.front) (replicate pads.zeros 48 ++ pads.rest)) (sym pads.padded_is) (goes_on_behind pads.front (replicate pads.zeros 48 ++ pads.rest))) in
    padded_read t text padded pads.rest s pads.zeros sign_padded on on' whole.some whole.all whole.fits ∙ ap (λ (z : ℤ). Ok z) (sym whole.value)

-- the law, at two answers that calls gave
pub answers_padded : {X : Type 0} → (view : X → ℤ) → IsInjective view → (t : IntegerType) (text padded : List ℕ) (first second : Result X Error) → view_of view first ≡ complete standard t text → view_of view second ≡ complete standard t padded → PadsZeros text padded → OnOk first (second ≡ first)
answers_padded view injective t text padded first second a b pads =
    view_ok_same view injective first second (λ v read. b ∙ reads_padded t text padded v pads (sym a ∙ read))
