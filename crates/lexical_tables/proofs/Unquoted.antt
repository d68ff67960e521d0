-- Whether the quotes of a cell are in place, and whether doubled ones stand in a text.
use Rattle.std.proofs.Common.{◌≡◌, ◌≢◌, ◌∙◌, ℕ, ◌+◌, ◌-◌, ◌<◌, ◌≤◌, ◌==◌, Bool, true, false, cond, eq-eqb, List, [], ◌∷◌, length, take, drop, get_or, get_or-drop, length-drop, length-take-le, Some, None, refl, ap, sym, arith, inl, inr}
use Rattle.std.proofs.lemmas.Bool.{and_right, cases_lt, eqb-true, le-ltb, lt-ltb, ne_eqb}
use Rattle.std.proofs.lemmas.List.{get_or-take}
use Rattle.std.proofs.lemmas.List.Sums.{position_or_len_is}
use Rattle.std.specs.Prelude.{is_some, nat_lt, option_map}
use Rattle.lexical_fields.specs.Fields.{FieldView}
use Rattle.lexical_fields.proofs.FieldsInParts.{either}
use Rattle.lexical_tables.specs.Cells.{begins_with_quote, fault_round_number, fault_round_text, first_quote, quote_fault}
use Rattle.lexical_tables.specs.Quotes.{quote}
use Rattle.lexical_tables.proofs.QuoteSteps.{IsUnbroken, quotes_close, quotes_end, quotes_reach, quotes_start}
use Rattle.lexical_tables.specs.declared.answers.CellFault.TheVariants.{MisplacedQuote}

-- no quote is found where a cell has none
no_quote_first : (text : List ℕ) → ((k : ℕ) → k < length text → get_or text k 0 ≢ quote) → first_quote text ≡ None
no_quote_first text none =
    ap (λ n. cond (nat_lt n (length text)) (Some n) None)
    (position_or_len_is (λ byte. byte == quote) text (length text) 0 (omega arith) (λ k low. is_other k low)
    (λ within. absurd (omega (arith, within))))
    ∙ ap (λ t. cond t (Some (length text)) None) (le-ltb (length text) (length text) (omega arith))
  where
    is_other : (k : ℕ) → k < length text → (get_or text k 0 == quote) ≡ false
    is_other k low = elim (either (get_or text k 0 == quote)) [
      | inl same ↦ absurd (none k low (eqb-true (get_or text k 0) quote same))
      | inr other ↦ other
    ]

-- it doesn't begin with one
pub begins_unquoted : (text : List ℕ) → ((k : ℕ) → k < length text → get_or text k 0 ≢ quote) → begins_with_quote text ≡ false
begins_unquoted [] none = refl
begins_unquoted (b ∷ bs) none = elim (either (b == quote)) [
  | inl same ↦ absurd (none 0 (omega arith) (eqb-true b quote same))
  | inr other ↦ and_right (nat_lt 0 (length (b ∷ bs))) (b == quote) other
]

-- so none is out of place
pub unquoted_fault : (quotes is_read : Bool) (cell : FieldView)
    → ((k : ℕ) → k < length cell.text → get_or cell.text k 0 ≢ quote) → None ≡ quote_fault quotes is_read cell
unquoted_fault false is_read cell none = refl
unquoted_fault true is_read cell none =
    sym (ap (λ t. option_map (λ place. MisplacedQuote (cell.start + place))
    (cond t (cond is_read (fault_round_number (length cell.text) (first_quote (drop 1 cell.text))) (fault_round_text cell.text))
    (first_quote cell.text))) (begins_unquoted cell.text none)
    ∙ ap (option_map (λ place. MisplacedQuote (cell.start + place))) (no_quote_first cell.text none))

-- ---- the quotes of a text

-- a text's first quote, with none in front of it
quote_first : (text : List ℕ) (place : ℕ) → place < length text → ((k : ℕ) → k < place → get_or text k 0 ≢ quote)
    → get_or text place 0 ≡ quote → first_quote text ≡ Some place
quote_first text place low none here =
    ap (λ n. cond (nat_lt n (length text)) (Some n) None)
    (position_or_len_is (λ byte. byte == quote) text place 0 (omega (arith, low))
    (λ k below. ne_eqb (get_or text k 0) quote (none k below))
    (λ within. eq-eqb (get_or text place 0) quote here))
    ∙ ap (λ t. cond t (Some place) None) (lt-ltb place (length text) low)

-- what stands within the quotes round a text
abbrev pub held_of : List ℕ → List ℕ
held_of text = take (length (drop 1 text) - 1) (drop 1 text)

held_size : (text : List ℕ) → length (held_of text) ≡ length text - 1 - 1
held_size text =
    length-take-le (length (drop 1 text) - 1) (drop 1 text) (omega arith) ∙ ap (λ n. n - 1) (length-drop 1 text)

held_byte : (text : List ℕ) (k : ℕ) → k < length (held_of text) → get_or (held_of text) k 0 ≡ get_or text (1 + k) 0
held_byte text k low =
    get_or-take (length (drop 1 text) - 1) (drop 1 text) k 0 (omega (arith, low, held_size text, length-drop 1 text))
    ∙ get_or-drop 1 text k 0

-- The first quote behind the one that a text begins with.
module _ (text : List ℕ) (end : ℕ) (quoted : begins_with_quote text ≡ true) (from : 1 ≤ end) (within : end ≤ length text)
    (before : (k : ℕ) → 1 ≤ k → k < end → get_or text k 0 ≢ quote) (found : end < length text → get_or text end 0 ≡ quote) where
  reach : IsUnbroken text end true
  reach = quotes_reach text 1 end (quotes_start text quoted) from within before

  -- where it is the last byte, all quotes are in place
  pub last_is_right : end + 1 ≡ length text → fault_round_text text ≡ None
  last_is_right last =
      let low : end < length text = omega (arith, last) in
      sym (quotes_end text (end + 1) false (quotes_close text end reach low (found low)) (omega (arith, last)))

  -- and none is doubled
  pub last_is_alone : end + 1 ≡ length text → false ≡ is_some (first_quote (held_of text))
  last_is_alone last =
      sym (ap is_some (no_quote_first (held_of text) (λ k low same.
      before (1 + k) (omega arith) (omega (arith, low, held_size text, last))
      (sym (held_byte text k low) ∙ same))))

  -- else a doubled one stands there, if all are in place
  pub other_is_doubled : end + 1 ≢ length text → fault_round_text text ≡ None → true ≡ is_some (first_quote (held_of text))
  other_is_doubled other fine = elim (cases_lt end (length text)) [
    | inl low ↦
        let back : 1 + (end - 1) ≡ end = omega (arith, from) in
        let room : end - 1 < length (held_of text) = omega (arith, low, other, from, held_size text) in
        sym (ap is_some (quote_first (held_of text) (end - 1) room
        (λ k below same. before (1 + k) (omega arith) (omega (arith, below))
        (sym (held_byte text k (omega (arith, below, room))) ∙ same))
        (held_byte text (end - 1) room ∙ ap (λ n. get_or text n 0) back ∙ found low)))
    | inr high ↦
        let open_quote = ap is_some (quotes_end text end true reach (omega (arith, high)) ∙ fine) in
        absurd cc
  ]
