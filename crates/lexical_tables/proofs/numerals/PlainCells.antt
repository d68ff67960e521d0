-- Cells of digits, alone or within quotes: each stands for the number that the digits write.
use Rattle.std.proofs.Common.{◌≡◌, ◌≢◌, ◌∙◌, ℕ, ◌+◌, ◌-◌, ◌<◌, ◌≤◌, ◌==◌, ◌&&◌, ◌||◌, Bool, true, false, cond, List, length, take, drop, get_or, Option, Some, None, Ok, refl, ap, ap₂, sym, subst, arith, length-drop, length-take-le}
use Rattle.std.specs.Prelude.{IsNone, nat_lt, option_map}
use Rattle.std.specs.List.{prefix_len, suffix_len}
use Rattle.std.specs.Str.{bytes_eq}
use Rattle.std.proofs.lemmas.Bool.{and_right, eq-eqb, eqb-true, false_from_ne_true, false≢true, lt-ltb}
use Rattle.std.proofs.lemmas.Grind.{get_or_after_one}
use Rattle.std.proofs.lemmas.List.{get_or-take}
use Rattle.std.proofs.lemmas.List.Sums.{position_or_len_is, prefix_len-drop_no, suffix_len-take_no}
use Rattle.std.proofs.Math.Seq.{take-length}
use Rattle.std.proofs.lemmas.Slice.Eq.{bytes_eq-Decides}
use Rattle.lexical_util.specs.declared.error.Error.{Error}
use Rattle.lexical_util.specs.Format.{Format}
use Rattle.lexical_util.specs.Number.{IntegerType, IsNumber}
use Rattle.lexical_util.specs.Validity.{fault}
use Rattle.lexical_parse_integer.specs.Answer.{view_of}
use Rattle.lexical_parse_integer.specs.Plain.{IsPlain}
use Rattle.lexical_parse_integer.specs.Value.{with_sign}
use Rattle.lexical_fields.specs.Fields.{FieldView}
use Rattle.lexical_fields.specs.Numerals.{IsNumeral}
use Rattle.lexical_fields.specs.ReadFields.{field_answer}
use Rattle.lexical_fields.proofs.FieldAnswers.{answered}
use Rattle.lexical_fields.proofs.Numerals.{numeral_complete, numeral_ends, numeral_some, numeral_without}
use Rattle.lexical_tables.specs.Cells.{Kind, answer_as, begins_with_quote, content, ends_in_digit, fault_round_number, first_quote, is_blank, misplaced_quote, quote_fault, some_value, unless, value_at, within_quotes, without_blanks}
use Rattle.lexical_tables.specs.Codes.{IsNumeralUnder}
use Rattle.lexical_tables.specs.Quotes.{quote}
use Rattle.lexical_tables.specs.Readings.{Integers, Number}
use Rattle.lexical_tables.specs.declared.answers.CellFault.TheVariants.{MisplacedQuote}
use Rattle.lexical_tables.specs.declared.dialect.Dialect.{Dialect}
use Rattle.lexical_tables.proofs.Unquoted.{begins_unquoted, unquoted_fault}

-- what ends in a digit isn't the mark, where that doesn't
pub not_mark : (may_miss : Bool) (text mark : List ℕ) → ends_in_digit text ≡ true
    → (may_miss ≡ true → ends_in_digit mark ≡ false) → (may_miss && bytes_eq text mark) ≡ false
not_mark false text mark ends other = refl
not_mark true text mark ends other = false_from_ne_true (bytes_eq text mark) same_no
  where
    same_no : bytes_eq text mark ≡ true → ⊥
    same_no same =
        false≢true (sym (other refl) ∙ ap ends_in_digit (sym ((bytes_eq-Decides text mark).0 same)) ∙ ends)

-- a fault that isn't there
none_of : (found : Option Error) → found ≡ None → IsNone found
none_of None none = refl
none_of (Some error) none = absurd cc

-- a column of integers
abbrev pub integers : Format → IntegerType → Bool → Kind
integers format type may_miss = record { reading = Integers format type; may_miss = may_miss }

-- a numeral is what its place stands for
number_here : (d : Dialect) (format : Format) (type : IntegerType) (may_miss : Bool) (held : FieldView) (is_negative : Bool)
    (number : ℕ) → IsNumeralUnder format is_negative number held.text → fault format ≡ None → IsPlain format
    → format.mantissa_radix ≡ 10 → IsNumber type (with_sign is_negative number)
    → (is_negative ≡ true → type.is_signed ≡ true) → (may_miss ≡ true → ends_in_digit d.missing.now ≡ false)
    → value_at d (integers format type may_miss) held ≡ Ok (Some (Number (with_sign is_negative number)))
number_here d format type may_miss held is_negative number n valid plain ten fits signed other =
    ap (λ is_mark. cond is_mark (Ok None) (some_value (view_of Number (field_answer format type held))))
    (not_mark may_miss held.text d.missing.now (numeral_ends is_negative number held.text n.numeral) other)
    ∙ ap (λ answer. some_value (view_of Number answer)) (sym (answered format type held.start held.text
    (Ok (with_sign is_negative number)) (none_of (fault format) valid) (sym (numeral_complete format type is_negative
    number held.text n.numeral plain ten n.rule signed fits))))

-- no byte of a numeral is a quote
unquoted : (is_negative : Bool) (number : ℕ) (text : List ℕ) → IsNumeral is_negative number text → (k : ℕ)
    → k < length text → get_or text k 0 ≢ quote
unquoted is_negative number text n k low =
    numeral_without quote refl (λ same. omega (arith, same)) is_negative number text n k low

-- nor a blank
no_blank : (is_negative : Bool) (number : ℕ) (text : List ℕ) → IsNumeral is_negative number text → (k : ℕ)
    → k < length text → is_blank (get_or text k 0) ≡ false
no_blank is_negative number text n k low =
    let byte = get_or text k 0 in
    ap₂ (λ a b. a || b)
    (false_from_ne_true (byte == 32) (λ same. numeral_without 32 refl (λ is. omega (arith, is)) is_negative number text n k low
    (eqb-true byte 32 same)))
    (false_from_ne_true (byte == 9) (λ same. numeral_without 9 refl (λ is. omega (arith, is)) is_negative number text n k low
    (eqb-true byte 9 same)))

-- so a numeral has none on either side
without_none : (is_negative : Bool) (number : ℕ) (held : FieldView) → IsNumeral is_negative number held.text
    → without_blanks held ≡ held
without_none is_negative number held n =
    let text = held.text in
    let some : 0 < length text = numeral_some is_negative number text n in
    let front : prefix_len is_blank text ≡ 0 =
    prefix_len-drop_no is_blank text 0 0 some (no_blank is_negative number text n 0 some) in
    let behind : suffix_len is_blank text ≡ 0 = ap (suffix_len is_blank) (sym (take-length text))
    ∙ suffix_len-take_no is_blank text (length text) 0 some (omega arith)
    (no_blank is_negative number text n (length text - 1) (omega (arith, some))) in
    let all : length text - suffix_len is_blank text ≡ length text = omega (arith, behind) in
    let here : held.start + 0 ≡ held.start = omega arith in
    ap (λ k. record {
      start = held.start + k;
      text = take (length (drop k text) - suffix_len is_blank (drop k text)) (drop k text);
    }) front
    ∙ ap₂ (λ place rest. record { start = place; text = rest }) here (ap (λ k. take k text) all ∙ take-length text)

blanks_none : (blanks : Bool) (is_negative : Bool) (number : ℕ) (held : FieldView) → IsNumeral is_negative number held.text
    → cond blanks (without_blanks held) held ≡ held
blanks_none true is_negative number held n = without_none is_negative number held n
blanks_none false is_negative number held n = refl

-- a numeral without quotes is what its cell holds
numeral_whole : (quotes blanks : Bool) (cell : FieldView) (is_negative : Bool) (number : ℕ)
    → IsNumeral is_negative number cell.text → begins_with_quote cell.text ≡ false → content quotes blanks cell ≡ cell
numeral_whole quotes blanks cell is_negative number n unquoted =
    ap (λ t. cond blanks (without_blanks (cond t (within_quotes cell) cell)) (cond t (within_quotes cell) cell))
    (and_right quotes (begins_with_quote cell.text) unquoted)
    ∙ blanks_none blanks is_negative number cell n

-- a cell without blanks and quotes is what it holds
pub held_whole : (quotes blanks : Bool) (cell : FieldView) → blanks ≡ false → begins_with_quote cell.text ≡ false
    → content quotes blanks cell ≡ cell
held_whole quotes blanks cell no_blanks unquoted =
    rw no_blanks (ap (λ t. cond t (within_quotes cell) cell) (and_right quotes (begins_with_quote cell.text) unquoted))

-- a numeral alone
pub plain_answer : (d : Dialect) (format : Format) (type : IntegerType) (may_miss : Bool) (cell : FieldView)
    (is_negative : Bool) (number : ℕ) → IsNumeralUnder format is_negative number cell.text
    → fault format ≡ None → IsPlain format → format.mantissa_radix ≡ 10 → IsNumber type (with_sign is_negative number)
    → (is_negative ≡ true → type.is_signed ≡ true) → (may_miss ≡ true → ends_in_digit d.missing.now ≡ false)
    → answer_as d (Some (integers format type may_miss)) cell ≡ Ok (Some (Number (with_sign is_negative number)))
plain_answer d format type may_miss cell is_negative number n valid plain ten fits signed other =
    let none = unquoted is_negative number cell.text n.numeral in
    let kind = integers format type may_miss in
    ap (λ found. unless found (value_at d kind (content d.has_quotes d.allows_blanks cell)))
    (sym (unquoted_fault d.has_quotes true cell none))
    ∙ ap (value_at d kind)
    (numeral_whole d.has_quotes d.allows_blanks cell is_negative number n.numeral (begins_unquoted cell.text none))
    ∙ number_here d format type may_miss cell is_negative number n valid plain ten fits signed other

-- a numeral that a cell holds, where quotes have no meaning
pub content_answer : (d : Dialect) (format : Format) (type : IntegerType) (may_miss : Bool) (cell : FieldView)
    (is_negative : Bool) (number : ℕ) → d.has_quotes ≡ false
    → IsNumeralUnder format is_negative number (content false d.allows_blanks cell).text
    → fault format ≡ None → IsPlain format → format.mantissa_radix ≡ 10 → IsNumber type (with_sign is_negative number)
    → (is_negative ≡ true → type.is_signed ≡ true) → (may_miss ≡ true → ends_in_digit d.missing.now ≡ false)
    → answer_as d (Some (integers format type may_miss)) cell ≡ Ok (Some (Number (with_sign is_negative number)))
content_answer d format type may_miss cell is_negative number none n valid plain ten fits signed other =
    let kind = integers format type may_miss in
    ap (λ q. unless (quote_fault q true cell) (value_at d kind (content q d.allows_blanks cell))) none
    ∙ number_here d format type may_miss (content false d.allows_blanks cell) is_negative number n valid plain ten fits signed
    other

-- ---- within quotes

-- a text of two quotes
module _ (text : List ℕ) (two : 2 ≤ length text) (first : get_or text 0 0 ≡ quote)
    (last : get_or text (length text - 1) 0 ≡ quote) where
  -- it begins with a quote
  pub begins : begins_with_quote text ≡ true
  begins = ap₂ (λ a b. a && b) (lt-ltb 0 (length text) (omega (arith, two))) (ap (λ byte. byte == quote) first)

  -- and none between them
  module _ (none : (k : ℕ) → k < length (take (length text - 2) (drop 1 text))
      → get_or (take (length text - 2) (drop 1 text)) k 0 ≢ quote) where
    -- the next quote is the last byte
    next_quote : first_quote (drop 1 text) ≡ Some (length text - 2)
    next_quote =
        let m : ℕ = length text - 2 in
        let left : length (drop 1 text) ≡ length text - 1 = length-drop 1 text in
        let size : length (take m (drop 1 text)) ≡ m = length-take-le m (drop 1 text) (omega (arith, left)) in
        let before : (k : ℕ) → k < m → (get_or (drop 1 text) k 0 == quote) ≡ false = λ k low.
        false_from_ne_true (get_or (drop 1 text) k 0 == quote) (λ same. none k (omega (arith, size, low))
        (get_or-take m (drop 1 text) k 0 low ∙ eqb-true (get_or (drop 1 text) k 0) quote same)) in
        let last_is : 1 + m ≡ length text - 1 = omega (arith, two) in
        let at : get_or (drop 1 text) m 0 ≡ quote =
        get_or_after_one text m 0 ∙ ap (λ k. get_or text k 0) last_is ∙ last in
        let place = position_or_len_is (λ byte. byte == quote) (drop 1 text) m 0 (omega (arith, left)) before
        (λ _. ap (λ byte. byte == quote) at) in
        ap (λ k. cond (nat_lt k (length (drop 1 text))) (Some k) None) place
        ∙ ap (λ t. cond t (Some m) None) (lt-ltb m (length (drop 1 text)) (omega (arith, left, two)))

    -- so none is out of place
    pub none_misplaced : misplaced_quote true text ≡ None
    none_misplaced =
        let closes : length text - 2 + 2 ≡ length text = omega (arith, two) in
        ap (λ t. cond t (fault_round_number (length text) (first_quote (drop 1 text))) (first_quote text)) begins
        ∙ ap (fault_round_number (length text)) next_quote
        ∙ ap (λ t. cond t None (Some (length text - 2 + 1))) (eq-eqb (length text - 2 + 2) (length text) closes)

  -- what stands within them
  numeral_within : (format : Format) (is_negative : Bool) (number : ℕ)
      → IsNumeralUnder format is_negative number (take (length text - 2) (drop 1 text))
      → IsNumeralUnder format is_negative number (take (length (drop 1 text) - 1) (drop 1 text))
  numeral_within format is_negative number n =
      let left : length (drop 1 text) ≡ length text - 1 = length-drop 1 text in
      let size : length text - 2 ≡ length (drop 1 text) - 1 = omega (arith, left) in
      subst (λ k. IsNumeralUnder format is_negative number (take k (drop 1 text))) size n

-- a numeral within quotes, where these have a meaning
pub quoted_answer : (d : Dialect) (format : Format) (type : IntegerType) (may_miss : Bool) (cell : FieldView)
    (is_negative : Bool) (number : ℕ)
    → d.has_quotes ≡ true → 2 ≤ length cell.text → get_or cell.text 0 0 ≡ quote
    → get_or cell.text (length cell.text - 1) 0 ≡ quote
    → IsNumeralUnder format is_negative number (take (length cell.text - 2) (drop 1 cell.text))
    → fault format ≡ None → IsPlain format → format.mantissa_radix ≡ 10 → IsNumber type (with_sign is_negative number)
    → (is_negative ≡ true → type.is_signed ≡ true) → (may_miss ≡ true → ends_in_digit d.missing.now ≡ false)
    → answer_as d (Some (integers format type may_miss)) cell ≡ Ok (Some (Number (with_sign is_negative number)))
quoted_answer d format type may_miss cell is_negative number quotes two first last n valid plain ten fits signed other =
    let kind = integers format type may_miss in
    let text = cell.text in
    let within = numeral_within text two first last format is_negative number n in
    ap (λ q. unless (quote_fault q true cell) (value_at d kind (content q d.allows_blanks cell))) quotes
    ∙ ap (λ found. unless (option_map (λ place. MisplacedQuote (cell.start + place)) found)
    (value_at d kind (content true d.allows_blanks cell))) (none_misplaced text two first last (unquoted is_negative number (take (length text - 2) (drop 1 text)) n.numeral))
    ∙ ap (λ t. value_at d kind (cond d.allows_blanks (without_blanks (cond t (within_quotes cell) cell))
    (cond t (within_quotes cell) cell))) (begins text two first last)
    ∙ ap (value_at d kind) (blanks_none d.allows_blanks is_negative number (within_quotes cell) within.numeral)
    ∙ number_here d format type may_miss (within_quotes cell) is_negative number within valid plain ten fits signed other
