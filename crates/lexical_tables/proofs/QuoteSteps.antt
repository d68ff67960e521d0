-- The quotes of a text that begins with one, from quote to quote.
use Rattle.std.proofs.Common.{◌≡◌, ◌≢◌, ◌∙◌, ℕ, zero, suc, ◌+◌, ◌-◌, ◌==◌, ◌&&◌, ◌||◌, ◌<◌, ◌≤◌, List, [], ◌∷◌, length, take, get_or, Bool, true, false, not, cond, eq-eqb, Some, None, refl, subst, ap, ap₂, sym, arith, inl, inr}
use Rattle.std.specs.List.{position_or_len, range_with_len}
use Rattle.std.specs.Prelude.{nat_lt}
use Rattle.std.proofs.lemmas.Bool.{le-ltb, lt-ltb, ne_eqb}
use Rattle.std.proofs.lemmas.Bool.Decides.{eqb_tells}
use Rattle.std.proofs.lemmas.List.{take_all, take_more}
use Rattle.std.proofs.lemmas.List.FromFn.{get_or-range_with_len, length-range_with_len}
use Rattle.std.proofs.lemmas.List.Sums.{position_or_len_is}
use Rattle.lexical_tables.specs.Cells.{begins_with_quote, fault_round_text, first_of, is_in_place}
use Rattle.lexical_tables.specs.Quotes.{has_odd_quotes, quote}
use Rattle.lexical_tables.proofs.SeenBytes.{odd_behind}

-- whether a byte stands within quotes, by the byte in front of it
pub next_within : (text : List ℕ) (place : ℕ) → place < length text → has_odd_quotes (take (place + 1) text)
    ≡ cond (get_or text place 0 == quote) (not (has_odd_quotes (take place text))) (has_odd_quotes (take place text))
next_within text place low =
    ap has_odd_quotes (take_more text place 0 low) ∙ odd_behind (take place text) (get_or text place 0)

-- The first `place` bytes of a text that begins with a quote are in place, and `is_within` says
-- whether the next one stands within quotes.
pub record IsUnbroken (text : List ℕ) (place : ℕ) (is_within : Bool) : Type 0 where
  pub some : 0 < place
  pub low : place ≤ length text
  pub within : is_within ≡ has_odd_quotes (take place text)
  pub before : (k : ℕ) → k + 1 < place → is_in_place text (k + 1) ≡ true

and_right : (a b : Bool) → (a && b) ≡ true → b ≡ true
and_right true b both = both
and_right false b both = absurd cc

pub quotes_start : (text : List ℕ) → begins_with_quote text ≡ true → IsUnbroken text 1 true
quotes_start [] quoted = absurd cc
quotes_start (b ∷ bs) quoted = record {
  some = omega arith;
  low = omega arith;
  within = sym (next_within (b ∷ bs) 0 (omega arith)
      ∙ ap (λ t. cond t true false) (and_right (nat_lt 0 (length (b ∷ bs))) (b == quote) quoted));
  before = λ k low. absurd (omega arith);
}

module _ (text : List ℕ) (place : ℕ) (is_within : Bool) (reading : IsUnbroken text place is_within) where
  pub quotes_go : (now : Bool) → place < length text → (is_within || (get_or text place 0 == quote)) ≡ true
      → now ≡ cond (get_or text place 0 == quote) (not is_within) is_within → IsUnbroken text (place + 1) now
  quotes_go now low right is = record {
    some = omega arith;
    low = omega arith;
    within =
        is ∙ ap (λ w. cond (get_or text place 0 == quote) (not w) w) reading.within ∙ sym (next_within text place low);
    before = λ k below. elim (eqb_tells (k + 1) place) [
      | inl same ↦
          ap (is_in_place text) same.1
          ∙ ap (λ w. w || (get_or text place 0 == quote)) (sym reading.within) ∙ right
      | inr other ↦ reading.before k (omega (arith, other.1))
    ];
  }

  at : (k : ℕ) → k < length text - 1 → get_or (range_with_len 0 (length text - 1)) k 0 ≡ k
  at k low = get_or-range_with_len 0 (length text - 1) k 0 low ∙ omega arith

  in_front : (k : ℕ) → k + 1 < place
      → not (is_in_place text (get_or (range_with_len 0 (length text - 1)) k 0 + 1)) ≡ false
  in_front k below =
      ap (λ n. not (is_in_place text (n + 1))) (at k (omega (arith, reading.low)))
      ∙ ap not (reading.before k below)

  -- the fault of the text, by the first place that is out of place
  fault_by : (n : ℕ) (t : Bool)
      → position_or_len (λ k. not (is_in_place text (k + 1))) (range_with_len 0 (length text - 1)) ≡ n
      → nat_lt n (length (range_with_len 0 (length text - 1))) ≡ t
      → fault_round_text text ≡ first_of (cond t (Some n) None) (cond (has_odd_quotes text) (Some 0) None)
  fault_by n t first is =
      ap (λ k. first_of (cond (nat_lt k (length (range_with_len 0 (length text - 1)))) (Some k) None)
      (cond (has_odd_quotes text) (Some 0) None)) first
      ∙ ap (λ b. first_of (cond b (Some n) None) (cond (has_odd_quotes text) (Some 0) None)) is

  -- a byte that is out of place
  pub quotes_break : place < length text → is_within ≡ false → (get_or text place 0 == quote) ≡ false
      → Some (place - 1) ≡ fault_round_text text
  quotes_break low outside other =
      let size = length-range_with_len 0 (length text - 1) in
      let back : place - 1 + 1 ≡ place = omega (arith, reading.some) in
      let out : not (is_in_place text place) ≡ true =
      ap₂ (λ w q. not (w || q)) (sym reading.within ∙ outside) other in
      let here : not (is_in_place text (get_or (range_with_len 0 (length text - 1)) (place - 1) 0 + 1)) ≡ true =
      ap (λ n. not (is_in_place text (n + 1))) (at (place - 1) (omega (arith, reading.some)))
      ∙ ap (λ n. not (is_in_place text n)) back ∙ out in
      sym (fault_by (place - 1) true
      (position_or_len_is (λ k. not (is_in_place text (k + 1))) (range_with_len 0 (length text - 1)) (place - 1) 0
      (omega (arith, size)) (λ k below. in_front k (omega arith)) (λ within. here))
      (lt-ltb (place - 1) (length (range_with_len 0 (length text - 1))) (omega (arith, size, reading.some))))

  -- all bytes are in place
  pub quotes_end : length text ≤ place → cond is_within (Some 0) None ≡ fault_round_text text
  quotes_end done =
      let size = length-range_with_len 0 (length text - 1) in
      ap (λ w. cond w (Some 0) None) (reading.within ∙ ap has_odd_quotes (take_all place text done))
      ∙ sym (fault_by (length text - 1) false
      (position_or_len_is (λ k. not (is_in_place text (k + 1))) (range_with_len 0 (length text - 1)) (length text - 1) 0
      (omega (arith, size)) (λ k below. in_front k (omega (arith, reading.low))) (λ within. absurd (omega (arith, size))))
      (le-ltb (length text - 1) (length (range_with_len 0 (length text - 1))) (omega (arith, size))))

-- ---- from quote to quote

-- n bytes within quotes, none of which is a quote, are in place
quotes_pass : (text : List ℕ) (place n : ℕ) → IsUnbroken text place true → place + n ≤ length text
    → ((k : ℕ) → k < n → get_or text (place + k) 0 ≢ quote) → IsUnbroken text (place + n) true
quotes_pass text place zero reading low none =
    let same : place ≡ place + 0 = omega arith in
    subst (λ p. IsUnbroken text p true) same reading
quotes_pass text place (suc n) reading low none =
    let before = quotes_pass text place n reading (omega arith) (λ k below. none k (omega arith)) in
    let next : place + n + 1 ≡ place + suc n = omega arith in
    subst (λ p. IsUnbroken text p true) next
    (quotes_go text (place + n) true before true (omega arith) refl
    (ap (λ t. cond t false true) (sym (ne_eqb (get_or text (place + n) 0) quote (none n (omega arith))))))

-- up to the next quote all bytes are in place
pub quotes_reach : (text : List ℕ) (place end : ℕ) → IsUnbroken text place true → place ≤ end → end ≤ length text
    → ((k : ℕ) → place ≤ k → k < end → get_or text k 0 ≢ quote) → IsUnbroken text end true
quotes_reach text place end reading from low none =
    let is : place + (end - place) ≡ end = omega arith in
    subst (λ p. IsUnbroken text p true) is
    (quotes_pass text place (end - place) reading (omega arith) (λ k below. none (place + k) (omega arith) (omega arith)))

-- that quote, behind which no byte stands within quotes
pub quotes_close : (text : List ℕ) (end : ℕ) → IsUnbroken text end true → end < length text
    → get_or text end 0 ≡ quote → IsUnbroken text (end + 1) false
quotes_close text end reading low is =
    quotes_go text end true reading false low refl
    (ap (λ t. cond t false true) (sym (eq-eqb (get_or text end 0) quote is)))

-- and one behind it
pub quotes_double : (text : List ℕ) (end : ℕ) → IsUnbroken text (end + 1) false → end + 1 < length text
    → get_or text (end + 1) 0 ≡ quote → IsUnbroken text (end + 2) true
quotes_double text end reading low is =
    let one = eq-eqb (get_or text (end + 1) 0) quote is in
    let next : end + 1 + 1 ≡ end + 2 = omega arith in
    subst (λ p. IsUnbroken text p true) next
    (quotes_go text (end + 1) false reading true low one (ap (λ t. cond t true false) (sym one)))
