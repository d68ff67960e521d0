-- Numerals of formats without a separator, whose digits stand in a row from the start on: for laws.
use Rattle.std.proofs.Common.{◌≡◌, ℕ, zero, suc, ◌+◌, ◌-◌, ◌≤◌, Bool, true, ◌&&◌, cond, List, ◌∷◌, length, filter, map, None, is_some, refl, sym, ap, ◌∙◌, arith}
use Rattle.std.specs.Prelude.{nat_lt}
use Rattle.std.specs.List.{range_with_len}
use Rattle.std.specs.Option.{unwrap_or}
use Rattle.std.proofs.Math.Bool.{or-false}
use Rattle.std.proofs.lemmas.List.FromFn.{length-range_with_len}
use Rattle.lexical_util.specs.Format.{Format}
use Rattle.lexical_parse_integer.specs.Affixes.{numeral_stop, suffix_at}
use Rattle.lexical_parse_integer.specs.Numeral.{Numeral, numeral_in}
use Rattle.lexical_parse_integer.specs.Runs.{are_same, is_in_numeral, digit_at, digits_between, end_of, separator_at}
use Rattle.lexical_parse_integer.proofs.grammar.NumeralEnd.{IsStop-end_of}
use Rattle.lexical_parse_integer.proofs.grammar.Stretches.{HoldsBetween, IsStop, IsStop-unique}

-- whether a digit stands at a place
abbrev pub has_digit : ℕ → List ℕ → ℕ → Bool
has_digit r text k = is_some (digit_at r text k)

-- the digits from start to before the end stand in a row, and no digit follows them
abbrev pub EndsRow : ℕ → List ℕ → ℕ → ℕ → Type 0
EndsRow r text start end = IsStop (has_digit r text) start (length text) end

-- the values of the digits at the first `count` places from `start` on
abbrev pub row : ℕ → List ℕ → ℕ → ℕ → List ℕ
row r text start count = map (λ place. unwrap_or (digit_at r text place) 0) (range_with_len start count)

-- the place behind the suffix, where one follows `count` digits, and else behind these digits
abbrev pub row_stop : Format → List ℕ → ℕ → ℕ → ℕ
row_stop f text start count = cond (nat_lt 0 count && suffix_at f text (start + count)) (start + count + 1) (start + count)

-- the numeral of `count` digits in a row
abbrev pub row_numeral : Format → List ℕ → ℕ → ℕ → ℕ → Numeral
row_numeral f text start r count = record {
  radix = r;
  places = range_with_len start count;
  digits = row r text start count;
  ends = start + count;
  stop = row_stop f text start count;
}

-- without a separator only digits belong
belongs_plain : (f : Format) (pre : Bool) (r : ℕ) (text : List ℕ) (start k : ℕ) → f.digit_separator ≡ None → is_in_numeral f pre r text start k ≡ has_digit r text k
unfolding is_in_numeral separator_at are_same
belongs_plain f pre r text start k none = rw none (or-false (has_digit r text k))

pub end_of_row : (f : Format) (pre : Bool) (r : ℕ) (text : List ℕ) (start : ℕ) → f.digit_separator ≡ None → start ≤ length text → EndsRow r text start (end_of f pre r text start)
end_of_row f pre r text start none low =
    let s = IsStop-end_of f pre r text start low in
    record {
      low = s.low;
      high = s.high;
      holds = λ k l h. sym (belongs_plain f pre r text start k none) ∙ s.holds k l h;
      fails = λ h. sym (belongs_plain f pre r text start (end_of f pre r text start) none) ∙ s.fails h;
    }

-- all of them pass
filter_all : (g : ℕ → Bool) (a n : ℕ) → HoldsBetween g a (a + n) → filter g (range_with_len a n) ≡ range_with_len a n
filter_all g a zero pass = refl
filter_all g a (suc n) pass =
    let here : g a ≡ true = pass a (omega arith) (omega arith) in
    rw here (ap (λ js. a ∷ js) (filter_all g (a + 1) n (λ j low high. pass j (omega arith) (omega arith))))

digits_between_row : (r : ℕ) (text : List ℕ) (start count : ℕ) → HoldsBetween (has_digit r text) start (start + count) → digits_between r text start (start + count) ≡ range_with_len start count
unfolding digits_between
digits_between_row r text start count all =
    let back : start + count - start ≡ count = omega arith in
    rw back (filter_all (has_digit r text) start count all)

pub numeral_in_a_row : (f : Format) (pre : Bool) (text : List ℕ) (start r count : ℕ) → f.digit_separator ≡ None → start ≤ length text → EndsRow r text start (start + count) → numeral_in f pre r text start ≡ row_numeral f text start r count
unfolding numeral_in numeral_stop
numeral_in_a_row f pre text start r count none low s =
    let end : end_of f pre r text start ≡ start + count = IsStop-unique (has_digit r text) start (length text) _ _ (end_of_row f pre r text start none low) s in
    let places = digits_between_row r text start count s.holds in
    let size = length-range_with_len start count in
    rw (end, places, size) refl

-- how many digits stand in a row from start on
abbrev pub row_count : Format → Bool → ℕ → List ℕ → ℕ → ℕ
row_count f pre r text start = end_of f pre r text start - start

pub row_ends : (f : Format) (pre : Bool) (r : ℕ) (text : List ℕ) (start : ℕ) → f.digit_separator ≡ None → start ≤ length text → EndsRow r text start (start + row_count f pre r text start)
row_ends f pre r text start none low =
    let s = end_of_row f pre r text start none low in
    let same : start + (end_of f pre r text start - start) ≡ end_of f pre r text start = omega (arith, s.low) in
    rw same s
