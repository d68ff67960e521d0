-- A cell of a column of numbers stands for the same wherever it stands.
use Rattle.std.proofs.Common.{◌≡◌, ◌∙◌, ℕ, ◌+◌, ◌&&◌, Bool, List, cond, true, false, not, ℤ, Result, Option, Some, None, Ok, Err, refl, ap, sym, arith}
use Rattle.std.specs.Prelude.{option_map, ⊤}
use Rattle.std.specs.Str.{bytes_eq}
use Rattle.lexical_util.specs.declared.error.Error.{Error}
use Rattle.lexical_fields.specs.Fields.{FieldView}
use Rattle.lexical_fields.specs.Places.{in_text}
use Rattle.lexical_fields.specs.ReadFields.{field_answer}
use Rattle.lexical_fields.proofs.MovedFields.{answer_moved}
use Rattle.lexical_fixed.specs.Grammar.{complete_fixed}
use Rattle.lexical_parse_integer.specs.Answer.{view_of}
use Rattle.lexical_tables.specs.ByColumn.{IsUsable, fault_in, kind_of, put_read}
use Rattle.lexical_tables.specs.Cells.{Kind, answer_as, content, quote_fault, some_value, unless, value_at}
use Rattle.lexical_tables.specs.Readings.{FixedPoints, Integers, IsValid, Number, Reading, Text, Texts, Value, answer_by, fixed_answer, keeps_texts, value_by}
use Rattle.lexical_tables.specs.Targets.{TargetView, error_in, has_numbers}
use Rattle.lexical_tables.specs.declared.answers.CellFault.{CellFault}
use Rattle.lexical_tables.specs.declared.dialect.Dialect.{Dialect}
use Rattle.lexical_tables.proofs.ColumnsInParts.{answer_behind, cell_moved}

-- no text is answered
abbrev IsTextless : Result (Option Value) CellFault → Type 0
IsTextless (Ok (Some (Text text))) = ⊥
IsTextless (Ok (Some (Number number))) = ⊤
IsTextless (Ok None) = ⊤
IsTextless (Err fault) = ⊤

number_textless : (answer : Result ℤ Error) → IsTextless (some_value (view_of Number answer))
number_textless (Ok number) = tt
number_textless (Err error) = tt

value_textless : (has_quotes : Bool) (reading : Reading) (held : FieldView) → keeps_texts reading ≡ false
    → IsTextless (some_value (value_by has_quotes reading held))
value_textless has_quotes (Integers format type) held numbers = number_textless (field_answer format type held)
value_textless has_quotes (FixedPoints fixed type) held numbers = number_textless (fixed_answer fixed type held)
value_textless has_quotes Texts held numbers = absurd cc

cond_textless : (is_mark : Bool) (answer : Result (Option Value) CellFault) → IsTextless answer
    → IsTextless (cond is_mark (Ok None) answer)
cond_textless true answer textless = tt
cond_textless false answer textless = textless

unless_textless : (found : Option CellFault) (answer : Result (Option Value) CellFault) → IsTextless answer
    → IsTextless (unless found answer)
unless_textless None answer textless = textless
unless_textless (Some fault) answer textless = tt

cell_textless : (d : Dialect) (kind : Kind) (cell : FieldView) → keeps_texts kind.reading ≡ false
    → IsTextless (answer_as d (Some kind) cell)
cell_textless d kind cell numbers =
    let is_number = not (keeps_texts kind.reading) in
    let held = content d.has_quotes (is_number && d.allows_blanks) cell in
    unless_textless (quote_fault d.has_quotes is_number cell) (value_at d kind held)
    (cond_textless (kind.may_miss && bytes_eq held.text d.missing.now)
    (some_value (value_by d.has_quotes kind.reading held)) (value_textless d.has_quotes kind.reading held numbers))

-- so what is right is answered wherever it stands
same_behind : (bytes : ℕ) (answer : Result (Option Value) CellFault) → IsTextless answer → fault_in answer ≡ None
    → answer_behind bytes answer ≡ answer
same_behind bytes (Ok None) textless right = refl
same_behind bytes (Ok (Some (Number number))) textless right = refl
same_behind bytes (Ok (Some (Text text))) textless right = absurd textless
same_behind bytes (Err fault) textless right = absurd cc

pub not_true : (b : Bool) → not b ≡ true → b ≡ false
not_true true is = absurd cc
not_true false is = refl

-- What a cell of numbers is read as at the start of a text is so at each place.
pub record IsReadAnywhere (d : Dialect) (row start : ℕ) (text : List ℕ) (old new : Option TargetView) : Type 0 where
  pub fault : fault_in (answer_as d (option_map kind_of old) (record { start = start; text = text })) ≡ None
  pub target : new
      ≡ option_map (put_read row (answer_as d (option_map kind_of old) (record { start = start; text = text }))) old

pub read_anywhere : (d : Dialect) (row start : ℕ) (text : List ℕ) (old new : Option TargetView) → has_numbers old ≡ true
    → IsUsable (row + 1) old
    → fault_in (answer_as d (option_map kind_of old) (record { start = 0; text = text })) ≡ None
    → new ≡ option_map (put_read row (answer_as d (option_map kind_of old) (record { start = 0; text = text }))) old
    → IsReadAnywhere d row start text old new
read_anywhere d row start text None new numbers usable right put = absurd cc
read_anywhere d row start text (Some target) new numbers usable right put =
    let kind = kind_of target in
    let here : FieldView = record { start = 0; text = text } in
    let at : start + 0 ≡ start = omega arith in
    let no_texts : keeps_texts kind.reading ≡ false = not_true (keeps_texts kind.reading) numbers in
    let same : answer_as d (Some kind) (record { start = start; text = text }) ≡ answer_as d (Some kind) here =
    ap (λ place. answer_as d (Some kind) (record { start = place; text = text })) (sym at)
    ∙ cell_moved start d (Some kind) here (usable.0, tt)
    ∙ same_behind start (answer_as d (Some kind) here) (cell_textless d kind here no_texts) right in
    record {
      fault = ap fault_in same ∙ right;
      target = put ∙ ap (λ answer. option_map (put_read row answer) (Some target)) (sym same);
    }

right_anywhere : (start : ℕ) (answer : Result ℤ Error) → error_in (view_of Number answer) ≡ None
    → view_of Number (in_text start answer) ≡ view_of Number answer
right_anywhere start (Ok number) right = refl
right_anywhere start (Err error) right = absurd cc

fixed_anywhere : (start : ℕ) (answer : Result ℤ Error) → error_in (view_of Number (in_text 0 answer)) ≡ None
    → view_of Number (in_text start answer) ≡ view_of Number (in_text 0 answer)
fixed_anywhere start (Ok number) right = refl
fixed_anywhere start (Err error) right = absurd cc

-- So is what a text stands for, if that is a number.
pub number_anywhere : (start : ℕ) (reading : Reading) (text : List ℕ) → IsValid reading → keeps_texts reading ≡ false
    → error_in (answer_by reading (record { start = 0; text = text })) ≡ None
    → answer_by reading (record { start = start; text = text }) ≡ answer_by reading (record { start = 0; text = text })
number_anywhere start (Integers format type) text valid numbers right =
    let here : FieldView = record { start = 0; text = text } in
    let at : start ≡ start + 0 = omega arith in
    ap (λ place. view_of Number (field_answer format type (record { start = place; text = text }))) at
    ∙ ap (view_of Number) (sym (answer_moved format type start valid here))
    ∙ right_anywhere start (field_answer format type here) right
number_anywhere start (FixedPoints fixed type) text valid numbers right =
    fixed_anywhere start (complete_fixed fixed type text) right
number_anywhere start Texts text valid numbers right = absurd cc
