-- The digits among bytes that stand in a text, and what values are known of them.
use Rattle.std.proofs.Common.{◌≡◌, ℕ, zero, suc, ◌+◌, ◌-◌, ◌<◌, Bool, true, false, List, [], ◌∷◌, length, get_or, map, filter, refl, sym, ap, ◌∙◌, arith, Option, Some, None, is_some, option_and_then}
use Rattle.std.specs.Prelude.{ℤ, neg_ℤ, pos, if◌then◌else◌}
use Rattle.std.specs.List.{range_with_len}
use Rattle.std.specs.Option.{unwrap_or}
use Rattle.std.proofs.Math.Seq.{take-length}
use Rattle.std.proofs.lemmas.Bool.{false≢true}
use Rattle.lexical_util.specs.Digit.{digit}
use Rattle.lexical_util.specs.Number.{IntegerType}
use Rattle.lexical_parse_integer.specs.Grouped.{AreGrouped, AreWorth, digits_among, is_digit_in}
use Rattle.lexical_digits.specs.WrittenNumbers.{StandsFor}
use Rattle.lexical_parse_integer.specs.Runs.{digit_at, separator_at, are_same}
use Rattle.lexical_digits.specs.Value.{positional_value}
use Rattle.lexical_util.specs.Format.{Format}
use Rattle.lexical_parse_integer.proofs.words.WordsInTexts.{StandsAt}
use Rattle.lexical_digits.proofs.DigitValues.{HaveDigits}

-- ---- places of a text

stands_rest : (text : List ℕ) (c : ℕ) (cs : List ℕ) (p : ℕ) → StandsAt text (c ∷ cs) p → StandsAt text cs (p + 1)
stands_rest text c cs p s = let w = s.within in record { within = omega arith; byte = λ i k at l. s.byte (suc i) k (omega arith) (omega arith) }

pub digit_there : (r : ℕ) (text bytes : List ℕ) (start i k : ℕ) → StandsAt text bytes start → start + i ≡ k → i < length bytes → digit_at r text k ≡ digit r (get_or bytes i 0)
unfolding digit_at
digit_there r text bytes start i k s at l = ap (option_and_then (λ byte. digit r byte)) (s.byte i k at l)

pub separator_there : (f : Format) (text bytes : List ℕ) (start i k : ℕ) → StandsAt text bytes start → start + i ≡ k → i < length bytes → separator_at f text k ≡ are_same f.digit_separator (Some (get_or bytes i 0))
unfolding separator_at
separator_there f text bytes start i k s at l = ap (are_same f.digit_separator) (s.byte i k at l)

-- the values of the digits between two places
pub values_between : (r : ℕ) (text bytes : List ℕ) (start : ℕ) → StandsAt text bytes start →
    map (λ place. unwrap_or (digit_at r text place) 0) (filter (λ place. is_some (digit_at r text place)) (range_with_len start (length bytes))) ≡ digits_among r bytes
values_between r text [] start s = refl
values_between r text (c ∷ cs) start s =
    let here : digit_at r text start ≡ digit r c = digit_there r text (c ∷ cs) start 0 start s (omega arith) (omega arith) in
    by_digit (digit r c) refl here (values_between r text cs (start + 1) (stands_rest text c cs start s))
  where
    by_digit : (o : Option ℕ) → digit r c ≡ o → digit_at r text start ≡ digit r c →
        map (λ place. unwrap_or (digit_at r text place) 0) (filter (λ place. is_some (digit_at r text place)) (range_with_len (start + 1) (length cs))) ≡ digits_among r cs →
        map (λ place. unwrap_or (digit_at r text place) 0) (filter (λ place. is_some (digit_at r text place)) (range_with_len start (length (c ∷ cs)))) ≡ digits_among r (c ∷ cs)
    by_digit (Some d) is here rest =
        let at : digit_at r text start ≡ Some d = here ∙ is in
        let there : is_some (digit_at r text start) ≡ true = ap is_some at in
        rw (there, is) (ap (λ (ds : List ℕ). unwrap_or (digit_at r text start) 0 ∷ ds) rest ∙ ap (λ (o : Option ℕ). unwrap_or o 0 ∷ digits_among r cs) at)
    by_digit None is here rest =
        let none : is_some (digit_at r text start) ≡ false = ap is_some (here ∙ is) in
        rw (none, is) rest

-- ---- digits alone

-- each byte is a digit
abbrev pub AreDigitsOnly : ℕ → List ℕ → Type 0
AreDigitsOnly radix bytes = (place : ℕ) → place < length bytes → is_digit_in radix bytes place ≡ true

among_all : (r : ℕ) (bytes ds : List ℕ) → HaveDigits r bytes ds → digits_among r bytes ≡ ds
among_all r [] [] all = refl
among_all r [] (d ∷ ds) all = cc
among_all r (c ∷ cs) [] all = cc
among_all r (c ∷ cs) (d ∷ ds) all =
    let here : digit r c ≡ Some d = cc in
    let more : HaveDigits r cs ds = cc in
    let rest = among_all r cs ds more in
    rw (here, rest) refl

all_digits : (r : ℕ) (bytes ds : List ℕ) → HaveDigits r bytes ds → AreDigitsOnly r bytes
all_digits r [] ds all place l = absurd (omega arith)
all_digits r (c ∷ cs) [] all place l = cc
all_digits r (c ∷ cs) (d ∷ ds) all zero l = let here : digit r c ≡ Some d = cc in ap is_some here
all_digits r (c ∷ cs) (d ∷ ds) all (suc place) l = let more : HaveDigits r cs ds = cc in all_digits r cs ds more place (omega arith)

module _ (t : IntegerType) (r : ℕ) (is_negative : Bool) (bytes : List ℕ) (value : ℤ) (s : StandsFor t r is_negative bytes value) where
  have : HaveDigits r bytes s.writes.values
  have = ap (map (λ byte. digit r byte)) (sym (take-length bytes)) ∙ s.writes.digits

  pub digits_alone : AreDigitsOnly r bytes
  digits_alone = all_digits r bytes s.writes.values have

  pub digits_worth : AreWorth t r is_negative bytes value
  digits_worth = record {
    worth = s.worth ∙ ap (λ (z : ℤ). if is_negative then neg_ℤ z else z) (s.writes.worth ∙ ap (λ (ds : List ℕ). pos (positional_value r ds)) (sym (among_all r bytes s.writes.values have)));
    fits = s.fits;
  }

-- they are groups too
pub row_grouped : (f : Format) (r : ℕ) (bytes : List ℕ) → 0 < length bytes → AreDigitsOnly r bytes → AreGrouped f r bytes
row_grouped f r bytes some all = record {
  separators = λ k l none. absurd (false≢true (sym none ∙ all k l));
  internal = λ k l none. absurd (false≢true (sym none ∙ all k l));
  some = some;
  first = all 0 some;
  last = all (length bytes - 1) (omega arith);
  alone = λ e k l none. all (k + 1) l;
}
