-- The first field of a column, where it is digits alone behind an optional minus.
use Rattle.std.proofs.Common.{◌≡◌, ◌≢◌, ℕ, zero, suc, ◌+◌, ◌<◌, Bool, true, false, not, cond, eqb, List, [], ◌∷◌, length, get_or, map, take, refl, sym, ap, ◌∙◌, subst, arith, Option, Some, None, Ok, inl, inr}
use Rattle.std.specs.Prelude.{ℤ, IsNone, IsSome}
use Rattle.std.proofs.Math.Seq.{take-length}
use Rattle.std.proofs.lemmas.Bool.{ne_eqb}
use Rattle.std.proofs.lemmas.Bool.Decides.{eqb_tells}
use Rattle.std.proofs.lemmas.List.{length-take-le}
use mir.Val.{bool_byte}
use Rattle.lexical_util.specs.Digit.{digit}
use Rattle.lexical_util.specs.Format.{Format}
use Rattle.lexical_util.specs.Number.{IntegerType}
use Rattle.lexical_parse_integer.specs.Grammar.{complete}
use Rattle.lexical_parse_integer.specs.Plain.{BeginsWith, IsBehind, IsPlain}
use Rattle.lexical_parse_integer.specs.Separated.{IsSeparated, field_length}
use Rattle.lexical_digits.specs.Words.{AreDigits}
use Rattle.lexical_parse_integer.proofs.plain.DigitsByTable.{table_read}
use Rattle.lexical_digits.proofs.LongNumbers.{have_are}

-- the front of a text is behind the same minus
front_behind : (t : IntegerType) (is_negative : Bool) (text digits : List ℕ) (count : ℕ) → IsBehind is_negative t text digits → IsBehind is_negative t (take (bool_byte is_negative + count) text) (take count digits)
front_behind t false text digits count behind =
    let none : 0 + count ≡ count = omega arith in
    ap (λ k. take k text) none ∙ ap (take count) behind
front_behind t true text digits count behind =
    let one : 1 + count ≡ suc count = omega arith in
    (ap (take (1 + count)) behind.0 ∙ ap (λ k. take k (45 ∷ digits)) one, behind.1)

-- digits at the front are what their field stands for
pub field_read : (f : Format) (t : IntegerType) (is_negative : Bool) (text digits : List ℕ) (value : ℤ) (count start : ℕ) → IsPlain f → f.mantissa_radix ≡ 10 → IsBehind is_negative t text digits → start ≡ bool_byte is_negative → BeginsWith f t is_negative digits value count → complete f t (take (start + count) text) ≡ Ok value
field_read f t is_negative text digits value count start plain ten behind at b =
    let taken : length (take count digits) ≡ count = length-take-le count digits b.within in
    let some : 0 < length (take count digits) = omega (arith, b.some) in
    ap (λ k. complete f t (take (k + count) text)) at
    ∙ table_read f t 10 is_negative (take (bool_byte is_negative + count) text) (take count digits) value plain ten (record { low = omega arith; high = omega arith }) (front_behind t is_negative text digits count behind) some b.rule b.stands

-- a byte that the separator is not
apart : (s b : ℕ) → b ≢ s → not (eqb b s) ≡ true
apart s b other = ap not (ne_eqb b s other)

-- a digit is no separator
digit_apart : (s b : ℕ) → IsNone (digit 10 s) → IsSome (digit 10 b) → b ≢ s
digit_apart s b none some same = by_digit (digit 10 s) none (subst (λ c. IsSome (digit 10 c)) same some)
  where
    by_digit : (o : Option ℕ) → IsNone o → IsSome o → ⊥
    by_digit None none some = cc
    by_digit (Some d) none some = cc

-- the field of digits ends at the separator behind them
digits_end : (s : ℕ) (digits : List ℕ) (count : ℕ) → IsNone (digit 10 s) → AreDigits 10 (take count digits) → count < length digits → get_or digits count 0 ≡ s → field_length s digits ≡ count
digits_end s [] count none all low stop = absurd (omega arith)
digits_end s (b ∷ bs) zero none all low stop = rw stop (at_once s bs)
  where
    at_once : (s : ℕ) (bs : List ℕ) → field_length s (s ∷ bs) ≡ 0
    at_once s bs = elim (eqb_tells s s) [ inl is ↦ ap (λ k. cond (not k) (1 + field_length s bs) 0) is.0 | inr is ↦ absurd (is.1 refl) ]
digits_end s (b ∷ bs) (suc n) none all low stop =
    let more = digits_end s bs n none all.1 (omega arith) stop in
    let here : not (eqb b s) ≡ true = apart s b (digit_apart s b none all.0) in
    let one : 1 + n ≡ suc n = omega arith in
    ap (λ k. cond k (1 + field_length s bs) 0) here ∙ ap (λ n. 1 + n) more ∙ one

-- a field of digits ends where they do, behind a minus too
pub field_ends : (f : Format) (t : IntegerType) (s : ℕ) (is_negative : Bool) (text digits : List ℕ) (value : ℤ) (count start : ℕ) → IsSeparated f s → IsBehind is_negative t text digits → start ≡ bool_byte is_negative → BeginsWith f t is_negative digits value count → start + count < length text → get_or text (start + count) 0 ≡ s → start + count ≡ field_length s text
field_ends f t s is_negative text digits value count start apart_from behind at b low stop = by_sign is_negative text start behind at b low stop
  where
    all_digits : (is_negative : Bool) → BeginsWith f t is_negative digits value count → AreDigits 10 (take count digits)
    all_digits is_negative b = have_are (take count digits) b.stands.writes.values (ap (map (λ byte. digit 10 byte)) (sym (take-length (take count digits))) ∙ b.stands.writes.digits)

    by_sign : (is_negative : Bool) (text : List ℕ) (start : ℕ) → IsBehind is_negative t text digits → start ≡ bool_byte is_negative → BeginsWith f t is_negative digits value count → start + count < length text → get_or text (start + count) 0 ≡ s → start + count ≡ field_length s text
    by_sign false text start behind at b low stop =
        let place : start + count ≡ count = omega (arith, at) in
        let size : length text ≡ length digits = ap length behind in
        let here : get_or digits count 0 ≡ s = ap (λ l. get_or l count 0) (sym behind) ∙ ap (λ k. get_or text k 0) (sym place) ∙ stop in
        place ∙ sym (digits_end s digits count apart_from.no_digit (all_digits false b) (omega (arith, size)) here) ∙ ap (field_length s) (sym behind)
    by_sign true text start behind at b low stop =
        let place : start + count ≡ suc count = omega (arith, at) in
        let size : length text ≡ suc (length digits) = ap length behind.0 in
        let here : get_or digits count 0 ≡ s = ap (λ l. get_or l (suc count) 0) (sym behind.0) ∙ ap (λ k. get_or text k 0) (sym place) ∙ stop in
        let rest : field_length s digits ≡ count = digits_end s digits count apart_from.no_digit (all_digits true b) (omega (arith, size)) here in
        let minus_apart : not (eqb 45 s) ≡ true = apart s 45 (λ same. apart_from.no_minus (sym same)) in
        let whole : field_length s (45 ∷ digits) ≡ 1 + count = ap (λ k. cond k (1 + field_length s digits) 0) minus_apart ∙ ap (λ n. 1 + n) rest in
        let one : 1 + count ≡ suc count = omega arith in
        place ∙ sym one ∙ sym whole ∙ ap (field_length s) (sym behind.0)
