-- A cell of a column of numbers: what it holds is read, alone or within quotes.
use Rattle.std.proofs.Common.{◌≡◌, ◌≢◌, ◌∙◌, ℕ, ◌+◌, ◌-◌, ◌*◌, ◌<◌, ◌≤◌, ◌&&◌, Bool, true, false, cond, not, List, length, length-drop, length-take, length-take-le, take, drop, get_or, Result, Option, Some, None, Ok, Err, refl, ap, ap₂, sym, subst, arith, inl, inr}
use Rattle.std.specs.Prelude.{is_some, option_map}
use Rattle.std.specs.Str.{bytes_eq}
use Rattle.std.proofs.lemmas.List.{drop-take, get_or-take, take-take}
use Rattle.lexical_util.specs.declared.error.Error.{Error}
use Rattle.lexical_fields.specs.Fields.{FieldView}
use Rattle.lexical_tables.specs.Amounts.{AreAmounts, IsAmountText, IsAmountsIn}
use Rattle.lexical_tables.specs.ByColumn.{IsUsable, fault_in, kind_of, put_read}
use Rattle.lexical_tables.specs.Cells.{Kind, answer_as, content, quote_fault, some_value, unless, value_at, within_quotes}
use Rattle.lexical_tables.specs.Codes.{AreQuotesRound, IsBareIn}
use Rattle.lexical_tables.specs.Quotes.{quote}
use Rattle.lexical_tables.specs.Readings.{FixedPoints, Integers, Reading, Text, Texts, Value, answer_by, keeps_texts, text_of}
use Rattle.lexical_tables.specs.Targets.{TargetView, error_in, has_bits, put_answer, put_text, text_fault}
use Rattle.lexical_tables.specs.declared.answers.CellFault.TheVariants.{MisplacedQuote}
use Rattle.lexical_tables.specs.declared.dialect.Dialect.{Dialect}
use Rattle.lexical_tables.proofs.CodedCells.{IsCellPut}
use Rattle.lexical_tables.proofs.ParsedCells.{not_true, number_anywhere}
use Rattle.lexical_tables.proofs.numerals.PlainCells.{begins, held_whole, none_misplaced, not_mark}
use Rattle.lexical_tables.proofs.Unquoted.{begins_unquoted, unquoted_fault}

are_numbers : (reading : Reading) → AreAmounts reading → keeps_texts reading ≡ false
are_numbers (Integers format type) are = absurd are
are_numbers (FixedPoints fixed type) are = refl
are_numbers Texts are = absurd are

-- no byte of a text is a quote
abbrev IsUnquoted : List ℕ → Type 0
IsUnquoted text = (k : ℕ) → k < length text → get_or text k 0 ≢ quote

-- a column of numbers, in a table whose cells have no blanks
module _ (d : Dialect) (kind : Kind) (cell : FieldView) (numbers : keeps_texts kind.reading ≡ false)
    (no_blanks : d.allows_blanks ≡ false) where
  -- what is held is no mark
  value_here : (held : FieldView) → (kind.may_miss && bytes_eq held.text d.missing.now) ≡ false
      → value_at d kind held ≡ some_value (answer_by kind.reading held)
  value_here held no_mark =
      ap (λ t. cond t (Ok None) (some_value (cond (keeps_texts kind.reading) (Ok (Text (text_of d.has_quotes held)))
      (answer_by kind.reading held)))) no_mark
      ∙ ap (λ t. some_value (cond t (Ok (Text (text_of d.has_quotes held))) (answer_by kind.reading held))) numbers

  -- the answer is that of a number
  as_number : answer_as d (Some kind) cell
      ≡ unless (quote_fault d.has_quotes true cell) (value_at d kind (content d.has_quotes d.allows_blanks cell))
  as_number =
      ap (λ t. unless (quote_fault d.has_quotes (not t) cell)
      (value_at d kind (content d.has_quotes (not t && d.allows_blanks) cell))) numbers

  plain_cell : (d.has_quotes ≡ true → IsUnquoted cell.text)
      → (kind.may_miss && bytes_eq cell.text d.missing.now) ≡ false
      → answer_as d (Some kind) cell ≡ some_value (answer_by kind.reading cell)
  plain_cell none no_mark =
      as_number
      ∙ ap₂ (λ found held. unless found (value_at d kind held)) (by_quotes d.has_quotes refl).0 (by_quotes d.has_quotes refl).1
      ∙ value_here cell no_mark
    where
      by_quotes : (has_quotes : Bool) → d.has_quotes ≡ has_quotes
          → (quote_fault d.has_quotes true cell ≡ None) × (content d.has_quotes d.allows_blanks cell ≡ cell)
      by_quotes true is = (
        sym (unquoted_fault d.has_quotes true cell (none is)),
        held_whole d.has_quotes d.allows_blanks cell no_blanks (begins_unquoted cell.text (none is)),
      )
      by_quotes false is = (
        ap (λ q. quote_fault q true cell) is,
        ap₂ (λ q b. content q b cell) is no_blanks,
      )

  quoted_cell : d.has_quotes ≡ true → (two : 2 ≤ length cell.text) → (first : get_or cell.text 0 0 ≡ quote)
      → (last : get_or cell.text (length cell.text - 1) 0 ≡ quote)
      → IsUnquoted (take (length cell.text - 2) (drop 1 cell.text))
      → (kind.may_miss && bytes_eq (within_quotes cell).text d.missing.now) ≡ false
      → answer_as d (Some kind) cell ≡ some_value (answer_by kind.reading (within_quotes cell))
  quoted_cell quotes two first last none no_mark =
      as_number
      ∙ ap₂ (λ q b. unless (quote_fault q true cell) (value_at d kind (content q b cell))) quotes no_blanks
      ∙ ap (λ found. unless (option_map (λ place. MisplacedQuote (cell.start + place)) found)
      (value_at d kind (content true false cell))) (none_misplaced cell.text two first last none)
      ∙ ap (λ t. value_at d kind (cond t (within_quotes cell) cell)) (begins cell.text two first last)
      ∙ value_here (within_quotes cell) no_mark

-- a value that is read
read_value : (row : ℕ) (target : TargetView) (answer : Result Value Error) → error_in answer ≡ None
    → (fault_in (some_value answer) ≡ None) × (put_answer row answer target ≡ put_read row (some_value answer) target)
read_value row target (Ok value) right = (refl, refl)
read_value row target (Err error) right = absurd cc

module _ (d : Dialect) (row start size : ℕ) (ahead held : List ℕ) (count : ℕ) (old new : Option TargetView)
    (no_blanks : d.allows_blanks ≡ false) (room : size + 17 ≤ length ahead)
    (round : AreQuotesRound d.has_quotes (take size ahead) (length ahead - length held))
    (tail : held ≡ drop (length ahead - length held) ahead) (whole : count + 2 * (length ahead - length held) ≡ size)
    (unquoted : d.has_quotes ≡ true → IsUnquoted (take count held))
    (no_mark_here : (target : TargetView) → old ≡ Some target
    → (is_some target.present && bytes_eq (take count held) d.missing.now) ≡ false)
    (right : (s : ℕ) → text_fault old (record { start = s; text = take count held }) ≡ None)
    (put : (s : ℕ) → new ≡ option_map (put_text row (record { start = s; text = take count held })) old) where
  abbrev cell : FieldView
  cell = record { start = start; text = take size ahead }

  long : length (take size ahead) ≡ size
  long = length-take-le size ahead (omega (arith, room))

  -- what the cell holds
  abbrev Holds : FieldView → Type 0
  Holds inner = inner.text ≡ take count held

  by_held : (target : TargetView) → old ≡ Some target → (inner : FieldView) → Holds inner
      → answer_as d (Some (kind_of target)) cell ≡ some_value (answer_by target.reading inner) → IsCellPut d row cell old new
  by_held target is inner holds answer =
      let text : FieldView = record { start = inner.start; text = take count held } in
      let same : text ≡ inner = ap (λ t. record { start = inner.start; text = t }) (sym holds) in
      let fine : error_in (answer_by target.reading inner) ≡ None =
      ap (λ it. error_in (answer_by target.reading it)) (sym same)
      ∙ ap (λ o. text_fault o text) (sym is) ∙ right inner.start in
      let both = read_value row target (answer_by target.reading inner) fine in
      let told : answer_as d (option_map kind_of old) cell ≡ some_value (answer_by target.reading inner) =
      ap (λ o. answer_as d (option_map kind_of o) cell) is ∙ answer in
      record {
        fault = ap fault_in told ∙ both.0;
        target =
            put inner.start ∙ ap (option_map (put_text row text)) is
            ∙ ap (λ it. Some (put_answer row (answer_by target.reading it) target)) same
            ∙ ap Some both.1
            ∙ ap₂ (λ a o. option_map (put_read row a) o) (sym told) (sym is);
      }

  no_mark : (target : TargetView) → old ≡ Some target → (inner : FieldView) → Holds inner
      → (is_some target.present && bytes_eq inner.text d.missing.now) ≡ false
  no_mark target is inner holds =
      ap (λ t. is_some target.present && bytes_eq t d.missing.now) holds ∙ no_mark_here target is

  inner_is : length ahead - length held ≡ 1 → 2 ≤ size → take (length cell.text - 2) (drop 1 cell.text) ≡ take count held
  inner_is one some =
      let n = size - 1 in
      let all : size ≡ 1 + n = omega (arith, some) in
      let fewer : length cell.text - 2 ≡ count = omega (arith, long, whole, one) in
      ap (λ k. take k (drop 1 cell.text)) fewer
      ∙ ap (λ k. take count (drop 1 (take k ahead))) all
      ∙ ap (take count) (drop-take 1 n ahead)
      ∙ take-take count n (drop 1 ahead) (omega (arith, whole, one))
      ∙ ap (take count) (sym (tail ∙ ap (λ q. drop q ahead) one))

  by_target : (target : TargetView) → old ≡ Some target → keeps_texts target.reading ≡ false → IsCellPut d row cell old new
  by_target target is numbers = by_round round
    where
      by_round : AreQuotesRound d.has_quotes (take size ahead) (length ahead - length held) → IsCellPut d row cell old new
      by_round (inl bare) =
          let same : count ≡ size = omega (arith, whole, bare) in
          let holds : cell.text ≡ take count held =
          ap (λ n. take n ahead) (sym same) ∙ ap (take count) (sym (tail ∙ ap (λ q. drop q ahead) bare)) in
          by_held target is cell holds
          (plain_cell d (kind_of target) cell numbers no_blanks (λ has. subst IsUnquoted (sym holds) (unquoted has))
          (no_mark target is cell holds))
      by_round (inr one) =
          let some : 2 ≤ size = omega (arith, one.2, long) in
          let inside = inner_is one.0 some in
          let last : length (drop 1 cell.text) - 1 ≡ length cell.text - 2 = omega (arith, length-drop 1 cell.text) in
          let holds : (within_quotes cell).text ≡ take count held =
          ap (λ k. take k (drop 1 cell.text)) last ∙ inside in
          by_held target is (within_quotes cell) holds
          (quoted_cell d (kind_of target) cell numbers no_blanks one.1 one.2 one.3 one.4
          (subst IsUnquoted (sym inside) (unquoted one.1)) (no_mark target is (within_quotes cell) holds))

-- what was put of the amount that a cell holds is put of the cell
pub amount_put : (d : Dialect) (row start size : ℕ) (ahead held : List ℕ) (count : ℕ) (old new : Option TargetView)
    → IsAmountsIn d old → size + 17 ≤ length ahead
    → AreQuotesRound d.has_quotes (take size ahead) (length ahead - length held)
    → held ≡ drop (length ahead - length held) ahead → count + 2 * (length ahead - length held) ≡ size
    → IsAmountText (take count held)
    → ((s : ℕ) → text_fault old (record { start = s; text = take count held }) ≡ None)
    → ((s : ℕ) → new ≡ option_map (put_text row (record { start = s; text = take count held })) old)
    → IsCellPut d row (record { start = start; text = take size ahead }) old new
amount_put d row start size ahead held count None new amounts room round tail whole bytes right put = absurd amounts.column
amount_put d row start size ahead held count (Some target) new amounts room round tail whole bytes right put =
    by_target d row start size ahead held count (Some target) new amounts.no_blanks room round tail whole
    (λ has. bytes.unquoted)
    (λ it is. not_mark (is_some it.present) (take count held) d.missing.now bytes.ends
    (λ misses. amounts.no_number (ap has_bits is ∙ misses)))
    right put target refl (are_numbers target.reading amounts.column)

-- so is what was put of a bare number, which was read at the start of a text
pub bare_put : (d : Dialect) (row start size : ℕ) (ahead held : List ℕ) (count : ℕ) (old new : Option TargetView)
    → IsBareIn d old → IsUsable (row + 1) old → size + 17 ≤ length ahead
    → AreQuotesRound d.has_quotes (take size ahead) (length ahead - length held)
    → held ≡ drop (length ahead - length held) ahead → count + 2 * (length ahead - length held) ≡ size
    → (d.has_quotes ≡ true → (k : ℕ) → k < count → get_or held k 0 ≢ quote)
    → text_fault old (record { start = 0; text = take count held }) ≡ None
    → new ≡ option_map (put_text row (record { start = 0; text = take count held })) old
    → IsCellPut d row (record { start = start; text = take size ahead }) old new
bare_put d row start size ahead held count None new bare usable room round tail whole none right put = absurd cc
bare_put d row start size ahead held count (Some target) new bare usable room round tail whole none right put =
    by_target d row start size ahead held count (Some target) new bare.no_blanks room round tail whole
    (λ has k low is. none has k (omega (arith, low, length-take count held)) (sym (get_or-take count held k 0 (omega (arith, low, length-take count held))) ∙ is))
    (λ it is. ap (λ misses. misses && bytes_eq (take count held) d.missing.now) (sym (ap has_bits is) ∙ bare.no_bits))
    (λ s. ap error_in (anywhere s) ∙ right)
    (λ s. put ∙ ap (λ a. Some (put_answer row a target)) (sym (anywhere s)))
    target refl numbers
  where
    numbers : keeps_texts target.reading ≡ false
    numbers = not_true (keeps_texts target.reading) bare.numbers

    anywhere : (s : ℕ) → answer_by target.reading (record { start = s; text = take count held })
        ≡ answer_by target.reading (record { start = 0; text = take count held })
    anywhere s = number_anywhere s target.reading (take count held) usable.0 numbers right
