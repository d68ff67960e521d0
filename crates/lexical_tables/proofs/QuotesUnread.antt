-- Quotes that are in place in a cell that is read are so where it isn't.
use Rattle.std.proofs.Common.{◌≡◌, ◌≢◌, ◌∙◌, ℕ, zero, suc, ◌+◌, ◌-◌, ◌<◌, ◌≤◌, ◌==◌, ◌&&◌, ◌||◌, ◌%◌, not, List, [], ◌∷◌, length, take, get_or, Bool, true, false, cond, count_by, Result, Option, Some, None, Ok, refl, ap, ap₂, sym, arith, inl, inr}
use Rattle.std.specs.Prelude.{nat_lt, option_map, slice_index}
use Rattle.std.specs.List.{position, position_or_len, prefix_len, range_with_len}
use Rattle.std.proofs.lemmas.Bool.{cases_lt, eqb-true, le-ltb, lt-ltb}
use Rattle.std.proofs.lemmas.List.FromFn.{length-range_with_len}
use Rattle.std.proofs.lemmas.List.Sums.{count_by-le-length, position_or_len_is, sum_by-append}
use Rattle.lexical_fields.specs.Fields.{FieldView}
use Rattle.lexical_fields.proofs.FieldsInParts.{either}
use Rattle.lexical_tables.specs.Readings.{Value, keeps_texts}
use Rattle.lexical_tables.specs.Cells.{Kind, answer_as, begins_with_quote, content, fault_round_number, fault_round_text, first_of, first_quote, is_in_place, misplaced_quote, quote_fault, unless, value_at}
use Rattle.lexical_tables.specs.Quotes.{has_odd_quotes, quote}
use Rattle.lexical_tables.specs.declared.answers.CellFault.{CellFault}
use Rattle.lexical_tables.specs.declared.answers.CellFault.TheVariants.{MisplacedQuote}
use Rattle.lexical_tables.specs.declared.dialect.Dialect.{Dialect}

-- the place of the first quote, or the text's length
abbrev quote_place : List ℕ → ℕ
quote_place text = position_or_len (λ byte. byte == quote) text

abbrev count : List ℕ → ℕ
count text = count_by (λ byte. byte == quote) text

-- a text's quotes, by its first byte
count_first : (byte : ℕ) (rest : List ℕ) → count (byte ∷ rest) ≡ 0 + cond (byte == quote) 1 0 + count rest
count_first byte rest = sum_by-append (λ b. cond (b == quote) 1 0) (byte ∷ []) rest

none_before : (k : ℕ) (text : List ℕ) → k ≤ quote_place text → count (take k text) ≡ 0
none_before zero text low = refl
none_before (suc k) [] low = refl
none_before (suc k) (byte ∷ rest) low =
    count_first byte (take k rest) ∙ by_test (byte == quote) low (none_before k rest)
  where
    by_test : (t : Bool) → suc k ≤ cond (not t) (1 + quote_place rest) 0
        → (k ≤ quote_place rest → count (take k rest) ≡ 0) → 0 + cond t 1 0 + count (take k rest) ≡ 0
    by_test true low there = absurd (omega (arith, low))
    by_test false low there =
        let none = there (omega (arith, low)) in
        omega (arith, none)

one_last : (text : List ℕ) → suc (quote_place text) ≡ length text → count text ≡ 1
one_last [] last = absurd (omega (arith, last))
one_last (byte ∷ rest) last = count_first byte rest ∙ by_test (byte == quote) last (one_last rest)
  where
    by_test : (t : Bool) → suc (cond (not t) (1 + quote_place rest) 0) ≡ suc (length rest)
        → (suc (quote_place rest) ≡ length rest → count rest ≡ 1) → 0 + cond t 1 0 + count rest ≡ 1
    by_test true last there = omega (arith, last, count_by-le-length (λ b. b == quote) rest)
    by_test false last there =
        let one = there (omega (arith, last)) in
        omega (arith, one)

odd_first : (first : ℕ) (rest : List ℕ) → (first == quote) ≡ true → count rest ≡ 0
    → has_odd_quotes (first ∷ rest) ≡ true
odd_first first rest is none =
    ap (λ n. n % 2 == 1) (count_first first rest) ∙ ap₂ (λ m b. (0 + cond b 1 0 + m) % 2 == 1) none is

even_both : (first : ℕ) (rest : List ℕ) → (first == quote) ≡ true → count rest ≡ 1
    → has_odd_quotes (first ∷ rest) ≡ false
even_both first rest is one =
    ap (λ n. n % 2 == 1) (count_first first rest) ∙ ap₂ (λ m b. (0 + cond b 1 0 + m) % 2 == 1) one is

-- no number of some passes
none_pass : (test : ℕ → Bool) (a n : ℕ) → ((k : ℕ) → k < a + n → test k ≡ false)
    → position test (range_with_len a n) ≡ None
none_pass test a n none =
    let places = range_with_len a n in
    ap (λ t. cond t (Some (position_or_len test places)) None)
    (le-ltb (position_or_len test places) (length places)
    (omega (arith, all a n none, length-range_with_len a n)))
  where
    all : (a n : ℕ) → ((k : ℕ) → k < a + n → test k ≡ false)
        → prefix_len (λ k. not (test k)) (range_with_len a n) ≡ n
    all a zero none = refl
    all a (suc n) none =
        let later = all (a + 1) n (λ k low. none k (omega (arith, low))) in
        ap (λ t. cond (not t) (1 + prefix_len (λ k. not (test k)) (range_with_len (a + 1) n)) 0)
        (none a (omega arith)) ∙ omega (arith, later)

-- the one quote behind the first is the last byte
round_is : (rest : List ℕ) → fault_round_number (suc (length rest)) (first_quote rest) ≡ None
    → suc (quote_place rest) ≡ length rest
round_is rest fine = elim (cases_lt (quote_place rest) (length rest)) [
  | inl lt ↦
      by_last (quote_place rest + 2 == suc (length rest)) refl
      (sym (ap (λ t. fault_round_number (suc (length rest)) (cond t (Some (quote_place rest)) None))
      (lt-ltb (quote_place rest) (length rest) lt)) ∙ fine)
  | inr ge ↦
      absurd (some_none 0
      (sym (ap (λ t. fault_round_number (suc (length rest)) (cond t (Some (quote_place rest)) None))
      (le-ltb (quote_place rest) (length rest) ge)) ∙ fine))
]
  where
    some_none : (n : ℕ) → Some n ≡ None → ⊥
    some_none n e = cc

    by_last : (t : Bool) → (quote_place rest + 2 == suc (length rest)) ≡ t
        → cond t None (Some (quote_place rest + 1)) ≡ None → suc (quote_place rest) ≡ length rest
    by_last true is fine =
        let e = eqb-true (quote_place rest + 2) (suc (length rest)) is in
        omega (arith, e)
    by_last false is fine = absurd (some_none (quote_place rest + 1) fine)

text_fine : (first : ℕ) (rest : List ℕ) → (first == quote) ≡ true → suc (quote_place rest) ≡ length rest
    → fault_round_text (first ∷ rest) ≡ None
text_fine first rest is last =
    let size : suc (length rest) - 1 ≡ length rest = omega arith in
    ap₂ (λ n t. first_of (position (λ place. not (is_in_place (first ∷ rest) (place + 1))) (range_with_len 0 n))
    (cond t (Some 0) None)) size (even_both first rest is (one_last rest last))
    ∙ ap (λ o. first_of o None) (none_pass (λ place. not (is_in_place (first ∷ rest) (place + 1))) 0 (length rest) in_place)
  where
    in_place : (k : ℕ) → k < 0 + length rest → not (is_in_place (first ∷ rest) (k + 1)) ≡ false
    in_place k low =
        let plus : k + 1 ≡ suc k = omega arith in
        let odd : has_odd_quotes (take (k + 1) (first ∷ rest)) ≡ true =
        ap (λ n. has_odd_quotes (take n (first ∷ rest))) plus
        ∙ odd_first first (take k rest) is (none_before k rest (omega (arith, low, last))) in
        ap (λ t. not (t || (slice_index (first ∷ rest) (k + 1) == quote))) odd

and_right : (a b : Bool) → (a && b) ≡ true → b ≡ true
and_right true b e = e
and_right false b e = cc

-- quotes on both sides of a text, and none within, are in place
pub round_fine : (text : List ℕ) → 2 ≤ length text → get_or text 0 0 ≡ quote
    → get_or text (length text - 1) 0 ≡ quote → ((k : ℕ) → k + 2 < length text → get_or text (suc k) 0 ≢ quote)
    → misplaced_quote false text ≡ None
round_fine [] long first_is last_is none = absurd (omega (arith, long))
round_fine (first ∷ rest) long first_is last_is none =
    ap (λ t. cond t (fault_round_text (first ∷ rest)) (first_quote (first ∷ rest))) begins ∙ text_fine first rest same whole
  where
    same : (first == quote) ≡ true
    same = ap (λ byte. byte == quote) first_is

    begins : begins_with_quote (first ∷ rest) ≡ true
    begins = ap₂ (λ a b. a && b) (lt-ltb 0 (suc (length rest)) (omega arith)) same

    is_other : (k : ℕ) → k < length rest - 1 → (get_or rest k 0 == quote) ≡ false
    is_other k low = elim (either (get_or rest k 0 == quote)) [
      | inl is ↦ absurd (none k (omega (arith, low)) (eqb-true (get_or rest k 0) quote is))
      | inr other ↦ other
    ]

    last_same : (get_or rest (length rest - 1) 0 == quote) ≡ true
    last_same =
        let at : suc (length rest) - 1 ≡ suc (length rest - 1) = omega (arith, long) in
        ap (λ byte. byte == quote) (sym (ap (λ n. get_or (first ∷ rest) n 0) at) ∙ last_is)

    whole : suc (quote_place rest) ≡ length rest
    whole =
        let place = position_or_len_is (λ byte. byte == quote) rest (length rest - 1) 0 (omega arith) is_other
        (λ within. last_same) in
        omega (arith, place, long)

misplaced_unread : (text : List ℕ) → misplaced_quote true text ≡ None → misplaced_quote false text ≡ None
misplaced_unread [] fine = fine
misplaced_unread (first ∷ rest) fine = by_begin (begins_with_quote (first ∷ rest)) refl fine
  where
    by_begin : (t : Bool) → begins_with_quote (first ∷ rest) ≡ t
        → cond t (fault_round_number (suc (length rest)) (first_quote rest)) (first_quote (first ∷ rest)) ≡ None
        → cond t (fault_round_text (first ∷ rest)) (first_quote (first ∷ rest)) ≡ None
    by_begin true is fine =
        text_fine first rest (and_right (nat_lt 0 (suc (length rest))) (first == quote) is) (round_is rest fine)
    by_begin false is fine = fine

quotes_unread : (q : Bool) (cell : FieldView) → quote_fault q true cell ≡ None → quote_fault q false cell ≡ None
quotes_unread false cell fine = refl
quotes_unread true cell fine =
    ap (option_map (λ place. MisplacedQuote (cell.start + place)))
    (misplaced_unread cell.text (none_mapped (misplaced_quote true cell.text) fine))
  where
    none_mapped : (o : Option ℕ) → option_map (λ place. MisplacedQuote (cell.start + place)) o ≡ None → o ≡ None
    none_mapped None fine = refl
    none_mapped (Some place) fine = absurd cc

unless_none : (f : Option CellFault) (answer : Result (Option Value) CellFault) (value : Option Value)
    → unless f answer ≡ Ok value → f ≡ None
unless_none None answer value is = refl
unless_none (Some fault) answer value is = absurd cc

-- a cell that is right where it is read is so where it isn't
pub unread_fine : (d : Dialect) (kind : Option Kind) (cell : FieldView) (value : Option Value)
    → answer_as d kind cell ≡ Ok value → answer_as d None cell ≡ Ok None
unread_fine d None cell value is =
    ap (λ f. unless f (Ok None)) (unless_none (quote_fault d.has_quotes false cell) (Ok None) value is)
unread_fine d (Some kind) cell value is =
    let is_number = not (keeps_texts kind.reading) in
    ap (λ f. unless f (Ok None))
    (none_unread is_number (unless_none (quote_fault d.has_quotes is_number cell)
    (value_at d kind (content d.has_quotes (is_number && d.allows_blanks) cell)) value is))
  where
    none_unread : (is_number : Bool) → quote_fault d.has_quotes is_number cell ≡ None
        → quote_fault d.has_quotes false cell ≡ None
    none_unread true fine = quotes_unread d.has_quotes cell fine
    none_unread false fine = fine
