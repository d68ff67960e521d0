-- A cell of digits that is read by its column's code.
use Rattle.std.proofs.Common.{◌≡◌, ◌≢◌, ◌∙◌, ℕ, suc, ◌+◌, ◌-◌, ◌*◌, ◌<◌, ◌≤◌, List, true, false, length, length-take-le, Bool, take, drop, get_or, Option, Some, None, Ok, refl, ap, sym, subst, arith, inl, inr}
use Rattle.std.specs.Prelude.{is_some, option_map}
use Rattle.std.proofs.lemmas.Grind.{get_or_after_one}
use Rattle.std.proofs.lemmas.List.{drop-take, get_or-take, take-take}
use Rattle.lexical_parse_integer.specs.Value.{with_sign}
use Rattle.lexical_util.specs.Format.{Format}
use Rattle.lexical_util.specs.Validity.{fault}
use Rattle.lexical_fields.specs.Fields.{FieldView}
use Rattle.lexical_tables.specs.ByColumn.{IsUsable, fault_in, kind_of, put_read}
use Rattle.lexical_tables.specs.Cells.{answer_as, content, ends_in_digit, quote_fault, unless}
use Rattle.lexical_tables.specs.Codes.{AreCoded, AreQuotesRound, IsCodeIn, IsDecimal, IsNumberPut, IsNumeralUnder, coded_type, has_coded_bits, has_zero_rule}
use Rattle.lexical_tables.specs.Quotes.{quote}
use Rattle.lexical_tables.specs.declared.answers.CellFault.TheVariants.{MisplacedQuote}
use Rattle.lexical_tables.specs.Readings.{FixedPoints, Integers, IsValid, Number, Reading, Texts}
use Rattle.lexical_tables.specs.Targets.{TargetView}
use Rattle.lexical_tables.specs.declared.dialect.Dialect.{Dialect}
use Rattle.lexical_tables.proofs.numerals.PlainCells.{content_answer, integers, plain_answer, quoted_answer}
use Rattle.lexical_tables.proofs.QuotesUnread.{round_fine}
use Rattle.lexical_tables.proofs.Unquoted.{unquoted_fault}

-- What is answered of a cell, and what the target then is: no fault.
pub record IsCellPut (d : Dialect) (row : ℕ) (cell : FieldView) (old new : Option TargetView) : Type 0 where
  pub fault : fault_in (answer_as d (option_map kind_of old) cell) ≡ None
  pub target : new ≡ option_map (put_read row (answer_as d (option_map kind_of old) cell)) old

-- a column that isn't read, whose quotes are in place
pub unread_put : (d : Dialect) (row : ℕ) (cell : FieldView) (target : Option TargetView) → is_some target ≡ false
    → None ≡ quote_fault d.has_quotes false cell → IsCellPut d row cell target target
unread_put d row cell None none fine =
    record { fault = ap (λ found. fault_in (unless found (Ok None))) (sym fine); target = refl }
unread_put d row cell (Some target) none fine = absurd cc

-- a cell of digits between blanks, where quotes have no meaning
pub content_put : (d : Dialect) (code row : ℕ) (cell : FieldView) (held : List ℕ) (old new : Option TargetView)
    → IsCodeIn d code old → 8 ≤ code → IsUsable (row + 1) old → d.has_quotes ≡ false
    → held ≡ (content false d.allows_blanks cell).text → IsNumberPut code row held old new → IsCellPut d row cell old new
content_put d code row cell held None new coded read usable none is put = absurd (coded.column.read read)
content_put d code row cell held (Some target) new coded read usable none is put = record {
  fault = ap fault_in (answer_is target.reading refl);
  target = put.put ∙ ap (λ a. Some (put_read row a target)) (sym (answer_is target.reading refl));
}
  where
    may_miss : Bool
    may_miss = is_some target.present

    as_kind : AreCoded code target.reading × (may_miss ≡ has_coded_bits code)
    as_kind = coded.column.read read

    no_mark : may_miss ≡ true → ends_in_digit d.missing.now ≡ false
    no_mark misses = coded.no_number read (sym as_kind.1 ∙ misses)

    answer_is : (reading : Reading) → target.reading ≡ reading
        → answer_as d (Some (kind_of target)) cell ≡ Ok (Some (Number (with_sign put.is_negative put.number)))
    answer_is (Integers format type) at =
        let coded_as : AreCoded code (Integers format type) = subst (AreCoded code) at as_kind.0 in
        ap (λ r. answer_as d (Some (record { reading = r; may_miss = may_miss })) cell) at
        ∙ ap (λ t. answer_as d (Some (integers format t may_miss)) cell) coded_as.1
        ∙ content_answer d format (coded_type code) may_miss cell put.is_negative put.number none
        (subst (IsNumeralUnder format put.is_negative put.number) is (put.numeral format coded_as.0))
        (subst IsValid at usable.0) coded_as.0.plain coded_as.0.decimal put.fits put.minus no_mark
    answer_is (FixedPoints fixed type) at = absurd (subst (AreCoded code) at as_kind.0)
    answer_is Texts at = absurd (subst (AreCoded code) at as_kind.0)

module _ (start size : ℕ) (ahead : List ℕ) where
  abbrev cell : FieldView
  cell = record { start = start; text = take size ahead }

  -- one whose cells are read
  digits_put : (d : Dialect) (code row quotes : ℕ) (old new : Option TargetView)
      → IsCodeIn d code old → 8 ≤ code → IsUsable (row + 1) old → size ≤ length ahead
      → AreQuotesRound d.has_quotes cell.text quotes
      → IsNumberPut code row (take (size - 2 * quotes) (drop quotes ahead)) old new
      → IsCellPut d row cell old new
  digits_put d code row quotes None new coded read usable low round put = absurd (coded.column.read read)
  digits_put d code row quotes (Some target) new coded read usable low round put = record {
    fault = ap fault_in (answer_is target.reading refl round);
    target = put.put ∙ ap (λ a. Some (put_read row a target)) (sym (answer_is target.reading refl round));
  }
    where
      long : length cell.text ≡ size
      long = length-take-le size ahead low

      may_miss : Bool
      may_miss = is_some target.present

      as_kind : AreCoded code target.reading × (may_miss ≡ has_coded_bits code)
      as_kind = coded.column.read read

      no_mark : may_miss ≡ true → ends_in_digit d.missing.now ≡ false
      no_mark misses = coded.no_number read (sym as_kind.1 ∙ misses)

      answer_of : (format : Format) → IsDecimal format (has_zero_rule code) → fault format ≡ None
          → AreQuotesRound d.has_quotes cell.text quotes
          → answer_as d (Some (integers format (coded_type code) may_miss)) cell
          ≡ Ok (Some (Number (with_sign put.is_negative put.number)))
      answer_of format decimal valid (inl none) =
          let whole : size - 2 * quotes ≡ size = omega (arith, none) in
          let text : take (size - 2 * quotes) (drop quotes ahead) ≡ cell.text =
          ap (λ n. take n (drop quotes ahead)) whole ∙ ap (λ q. take size (drop q ahead)) none in
          plain_answer d format (coded_type code) may_miss cell put.is_negative put.number
          (subst (IsNumeralUnder format put.is_negative put.number) text (put.numeral format decimal)) valid decimal.plain
          decimal.decimal put.fits put.minus no_mark
      answer_of format decimal valid (inr one) =
          let within : size - 2 * quotes ≡ length cell.text - 2 = omega (arith, one.0, long) in
          let some : 2 ≤ size = omega (arith, one.2, long) in
          let text : take (size - 2 * quotes) (drop quotes ahead) ≡ take (length cell.text - 2) (drop 1 cell.text) =
          ap (λ n. take n (drop quotes ahead)) within ∙ ap (λ q. take (length cell.text - 2) (drop q ahead)) one.0
          ∙ inner some in
          quoted_answer d format (coded_type code) may_miss cell put.is_negative put.number one.1 one.2
          one.3 one.4 (subst (IsNumeralUnder format put.is_negative put.number) text (put.numeral format decimal)) valid
          decimal.plain decimal.decimal put.fits put.minus no_mark
        where
          inner : 2 ≤ size → take (length cell.text - 2) (drop 1 ahead) ≡ take (length cell.text - 2) (drop 1 cell.text)
          inner some =
              let n = size - 1 in
              let whole : size ≡ 1 + n = omega (arith, some) in
              sym (ap (λ k. take (length cell.text - 2) (drop 1 (take k ahead))) whole
              ∙ ap (take (length cell.text - 2)) (drop-take 1 n ahead)
              ∙ take-take (length cell.text - 2) n (drop 1 ahead) (omega (arith, long)))

      answer_is : (reading : Reading) → target.reading ≡ reading → AreQuotesRound d.has_quotes cell.text quotes
          → answer_as d (Some (kind_of target)) cell ≡ Ok (Some (Number (with_sign put.is_negative put.number)))
      answer_is (Integers format type) is quoted =
          let coded_as : AreCoded code (Integers format type) = subst (AreCoded code) is as_kind.0 in
          ap (λ r. answer_as d (Some (record { reading = r; may_miss = may_miss })) cell) is
          ∙ ap (λ t. answer_as d (Some (integers format t may_miss)) cell) coded_as.1
          ∙ answer_of format coded_as.0 (subst IsValid is usable.0) quoted
      answer_is (FixedPoints fixed type) is quoted = absurd (subst (AreCoded code) is as_kind.0)
      answer_is Texts is quoted = absurd (subst (AreCoded code) is as_kind.0)

  -- its quotes are in place where none stands within those that are round it
  pub held_fine : (held : List ℕ) (count : ℕ) → size + 17 ≤ length ahead
      → AreQuotesRound true cell.text (length ahead - length held)
      → held ≡ drop (length ahead - length held) ahead → count + 2 * (length ahead - length held) ≡ size
      → ((k : ℕ) → k < count → get_or held k 0 ≢ quote) → None ≡ quote_fault true false cell
  held_fine held count room round tail is none = by_round round
    where
      long : length cell.text ≡ size
      long = length-take-le size ahead (omega (arith, room))

      at_cell : (k : ℕ) → k < size → get_or cell.text k 0 ≡ get_or ahead k 0
      at_cell k low = get_or-take size ahead k 0 low

      by_round : AreQuotesRound true cell.text (length ahead - length held) → None ≡ quote_fault true false cell
      by_round (inl bare) =
          let held_is : held ≡ ahead = tail ∙ ap (λ n. drop n ahead) bare in
          unquoted_fault true false cell
          (λ k low same. none k (omega (arith, low, long, is, bare))
          (ap (λ l. get_or l k 0) held_is ∙ sym (at_cell k (omega (arith, low, long))) ∙ same))
      by_round (inr one) =
          let held_is : held ≡ drop 1 ahead = tail ∙ ap (λ n. drop n ahead) one.0 in
          sym (ap (option_map (λ place. MisplacedQuote (start + place))) (round_fine cell.text one.2 one.3 one.4
          (λ k low same. let behind : 1 + k ≡ suc k = omega arith in
          none k (omega (arith, low, long, is, one.0))
          (ap (λ l. get_or l k 0) held_is ∙ get_or_after_one ahead k 0 ∙ ap (λ n. get_or ahead n 0) behind
          ∙ sym (at_cell (suc k) (omega (arith, low, long))) ∙ same))))

  -- of what stands within its quotes
  pub found_put : (d : Dialect) (code row : ℕ) (old new : Option TargetView) (held : List ℕ) (count : ℕ)
      → IsCodeIn d code old → 8 ≤ code → IsUsable (row + 1) old → size + 17 ≤ length ahead
      → AreQuotesRound d.has_quotes cell.text (length ahead - length held)
      → held ≡ drop (length ahead - length held) ahead → count + 2 * (length ahead - length held) ≡ size
      → IsNumberPut code row (take count held) old new → IsCellPut d row cell old new
  found_put d code row old new held count coded read usable room round tail is put =
      let quotes = length ahead - length held in
      let counted : count ≡ size - 2 * quotes = omega (arith, is) in
      digits_put d code row quotes old new coded read usable (omega (arith, room)) round
      (subst (λ l. IsNumberPut code row (take (size - 2 * quotes) l) old new) tail
      (subst (λ n. IsNumberPut code row (take n held) old new) counted put))
