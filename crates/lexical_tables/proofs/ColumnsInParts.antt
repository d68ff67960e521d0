-- What is read of the columns of a text that is cut.
use Rattle.std.proofs.Common.{◌≡◌, ◌∙◌, ℕ, zero, suc, ◌+◌, List, [], ◌∷◌, ◌++◌, length, take, drop, map, cond, eqb, ◌&&◌, true, false, Bool, ℤ, Result, Option, Some, None, Ok, Err, refl, ap, ap₂, sym, arith, length-take-le}
use Rattle.std.specs.List.{prefix_len}
use Rattle.std.specs.Str.{bytes_eq}
use Rattle.std.specs.Prelude.{is_none, nat_lt, not, option_map}
use Rattle.std.proofs.lemmas.List.{length-map}
use Rattle.lexical_util.specs.declared.error.Error.{Error}
use Rattle.lexical_fields.specs.Columns as columns
use Rattle.lexical_fields.specs.Fields.{FieldView, fields_from}
use Rattle.lexical_fields.specs.Places.{in_text}
use Rattle.lexical_fields.specs.ReadFields.{field_answer}
use Rattle.lexical_fields.proofs.MovedFields.{answer_moved, error_moved, fields_moved, moved}
use Rattle.lexical_fixed.specs.Grammar.{complete_fixed}
use Rattle.lexical_parse_integer.specs.Answer.{view_of}
use Rattle.lexical_tables.specs.Readings.{FixedPoints, Integers, IsValid, Number, Reading, Texts, Value, fixed_answer, keeps_texts, value_by}
use Rattle.lexical_tables.specs.ByColumn.{cell_answers, cells_by_width, cells_left, cells_of, end_fault, fault_of, first_fault, first_of, first_start, row_answers, row_fault, row_values, values_to_fault, wrong_cell}
use Rattle.lexical_tables.specs.Cells.{Kind, answer_as, begins_with_quote, content, is_blank, misplaced_quote, quote_fault, some_value, unless, value_at, within_quotes, without_blanks, without_quotes}
use Rattle.lexical_tables.specs.Parts.{AreValid, ColumnsInParts, fault_behind, fault_in, error_behind, value_behind, values_behind, values_in, whole_rows}
use Rattle.lexical_tables.specs.Quotes.{as_long_as, seen}
use Rattle.lexical_tables.specs.Rows.{RowView, rows}
use Rattle.lexical_tables.specs.declared.answers.CellFault.{CellFault}
use Rattle.lexical_tables.specs.declared.answers.CellFault.TheVariants.{MisplacedQuote, MissingReturn, TooFewCells, TooManyCells}
use Rattle.lexical_tables.specs.declared.answers.TableError.{TableError}
use Rattle.lexical_tables.specs.declared.dialect.Dialect.{Dialect}
use Rattle.lexical_tables.specs.declared.dialect.Layout.{Layout}
use Rattle.lexical_tables.specs.declared.dialect.Layout.TheVariants.{Records, Separated, Widths}
use Rattle.lexical_tables.specs.RowSoFar.{count_in}
use Rattle.lexical_tables.proofs.RowsInParts.{long_moved, row_behind, rows_split, whole_within}

take_map : {X Y : Type 0} (f : X → Y) (n : ℕ) (xs : List X) → take n (map f xs) ≡ map f (take n xs)
take_map f zero xs = refl
take_map f (suc n) [] = refl
take_map f (suc n) (x ∷ xs) = ap (λ l. f x ∷ l) (take_map f n xs)

drop_map : {X Y : Type 0} (f : X → Y) (n : ℕ) (xs : List X) → drop n (map f xs) ≡ map f (drop n xs)
drop_map f zero xs = refl
drop_map f (suc n) [] = refl
drop_map f (suc n) (x ∷ xs) = drop_map f n xs

-- ---- a row further behind

start_moved : (bytes : ℕ) (cells : List FieldView)
    → first_start (map (moved bytes) cells) ≡ option_map (λ place. bytes + place) (first_start cells)
start_moved bytes [] = refl
start_moved bytes (cell ∷ more) = refl

-- the end of a row further behind has its fault there
end_moved : (before bytes columns index : ℕ) (row : RowView) (count : ℕ) (extra : Option ℕ)
    → end_fault columns (before + index) (row_behind bytes row) count (option_map (λ place. bytes + place) extra)
    ≡ option_map (error_behind before bytes) (end_fault columns index row count extra)
end_moved before bytes columns index row count extra =
    let end : bytes + row.start + length row.text ≡ bytes + (row.start + length row.text) = omega arith in
    by_extra extra end
  where
    by_tests : (few lacks : Bool) → bytes + row.start + length row.text ≡ bytes + (row.start + length row.text)
        → cond few (Some (wrong_cell (before + index) count (TooFewCells (bytes + row.start + length row.text))))
        (cond lacks (Some (wrong_cell (before + index) columns (MissingReturn (bytes + row.start + length row.text)))) None)
        ≡ option_map (error_behind before bytes)
        (cond few (Some (wrong_cell index count (TooFewCells (row.start + length row.text))))
        (cond lacks (Some (wrong_cell index columns (MissingReturn (row.start + length row.text)))) None))
    by_tests true lacks end = ap (λ k. Some (wrong_cell (before + index) count (TooFewCells k))) end
    by_tests false true end = ap (λ k. Some (wrong_cell (before + index) columns (MissingReturn k))) end
    by_tests false false end = refl

    by_place : (few : Bool) (place : ℕ) → bytes + row.start + length row.text ≡ bytes + (row.start + length row.text)
        → cond few (Some (wrong_cell (before + index) count (TooFewCells (bytes + row.start + length row.text))))
        (Some (wrong_cell (before + index) columns (TooManyCells (bytes + place))))
        ≡ option_map (error_behind before bytes)
        (cond few (Some (wrong_cell index count (TooFewCells (row.start + length row.text))))
        (Some (wrong_cell index columns (TooManyCells place))))
    by_place true place end = ap (λ k. Some (wrong_cell (before + index) count (TooFewCells k))) end
    by_place false place end = refl

    by_extra : (extra : Option ℕ) → bytes + row.start + length row.text ≡ bytes + (row.start + length row.text)
        → end_fault columns (before + index) (row_behind bytes row) count (option_map (λ place. bytes + place) extra)
        ≡ option_map (error_behind before bytes) (end_fault columns index row count extra)
    by_extra None end = by_tests (nat_lt count columns) row.lacks_return end
    by_extra (Some place) end = by_place (nat_lt count columns) place end

-- ---- a cell further behind

abbrev pub answer_behind : ℕ → Result (Option Value) CellFault → Result (Option Value) CellFault
answer_behind bytes (Ok value) = Ok (option_map (value_behind bytes) value)
answer_behind bytes (Err fault) = Err (fault_behind bytes fault)

-- what a cell holds is moved with it
blanks_moved : (bytes : ℕ) (allows_blanks : Bool) (cell : FieldView)
    → cond allows_blanks (without_blanks (moved bytes cell)) (moved bytes cell)
    ≡ moved bytes (cond allows_blanks (without_blanks cell) cell)
blanks_moved bytes true cell =
    let front = prefix_len is_blank cell.text in
    let at : bytes + cell.start + front ≡ bytes + (cell.start + front) = omega arith in
    ap (λ place. record (without_blanks cell) { start = place }) at
blanks_moved bytes false cell = refl

unquoted_moved : (bytes : ℕ) (has_quotes : Bool) (cell : FieldView)
    → without_quotes has_quotes (moved bytes cell) ≡ moved bytes (without_quotes has_quotes cell)
unquoted_moved bytes has_quotes cell = by_test (has_quotes && begins_with_quote cell.text)
  where
    at : bytes + cell.start + 1 ≡ bytes + (cell.start + 1)
    at = omega arith

    by_test : (t : Bool) → cond t (within_quotes (moved bytes cell)) (moved bytes cell)
        ≡ moved bytes (cond t (within_quotes cell) cell)
    by_test true = ap (λ place. record (within_quotes cell) { start = place }) at
    by_test false = refl

content_moved : (bytes : ℕ) (has_quotes allows_blanks : Bool) (cell : FieldView)
    → content has_quotes allows_blanks (moved bytes cell) ≡ moved bytes (content has_quotes allows_blanks cell)
content_moved bytes has_quotes allows_blanks cell =
    ap (λ held. cond allows_blanks (without_blanks held) held) (unquoted_moved bytes has_quotes cell)
    ∙ blanks_moved bytes allows_blanks (without_quotes has_quotes cell)

-- so are its quotes
quotes_moved : (bytes : ℕ) (has_quotes is_number : Bool) (cell : FieldView)
    → quote_fault has_quotes is_number (moved bytes cell) ≡ option_map (fault_behind bytes) (quote_fault has_quotes is_number cell)
quotes_moved bytes false is_number cell = refl
quotes_moved bytes true is_number cell = by_place (misplaced_quote is_number cell.text)
  where
    behind : (place : ℕ) → bytes + cell.start + place ≡ bytes + (cell.start + place)
    behind place = omega arith

    by_place : (found : Option ℕ) → option_map (λ place. MisplacedQuote (bytes + cell.start + place)) found
        ≡ option_map (fault_behind bytes) (option_map (λ place. MisplacedQuote (cell.start + place)) found)
    by_place None = refl
    by_place (Some place) = ap (λ k. Some (MisplacedQuote k)) (behind place)

unless_moved : (bytes : ℕ) (found : Option CellFault) (answer : Result (Option Value) CellFault)
    → unless (option_map (fault_behind bytes) found) (answer_behind bytes answer) ≡ answer_behind bytes (unless found answer)
unless_moved bytes None answer = refl
unless_moved bytes (Some fault) answer = refl

number_moved : (bytes : ℕ) (answer : Result ℤ Error)
    → some_value (view_of Number (in_text bytes answer)) ≡ answer_behind bytes (some_value (view_of Number answer))
number_moved bytes (Ok number) = refl
number_moved bytes (Err error) = refl

result_moved : (p q : ℕ) (r : Result ℤ Error) → in_text p (in_text q r) ≡ in_text (p + q) r
result_moved p q (Ok value) = refl
result_moved p q (Err error) = ap Err (error_moved p q error)

-- what a text stands for is moved with it
value_moved : (bytes : ℕ) (has_quotes : Bool) (reading : Reading) (held : FieldView) → IsValid reading
    → some_value (value_by has_quotes reading (moved bytes held))
    ≡ answer_behind bytes (some_value (value_by has_quotes reading held))
value_moved bytes has_quotes (Integers format type) held valid =
    ap (λ answer. some_value (view_of Number answer)) (sym (answer_moved format type bytes valid held))
    ∙ number_moved bytes (field_answer format type held)
value_moved bytes has_quotes (FixedPoints fixed type) held valid =
    ap (λ answer. some_value (view_of Number answer)) (sym (result_moved bytes held.start (complete_fixed fixed type held.text)))
    ∙ number_moved bytes (fixed_answer fixed type held)
value_moved bytes has_quotes Texts held valid = refl

held_moved : (bytes : ℕ) (d : Dialect) (kind : Kind) (held : FieldView) → IsValid kind.reading
    → value_at d kind (moved bytes held) ≡ answer_behind bytes (value_at d kind held)
held_moved bytes d kind held valid =
    by_mark (kind.may_miss && bytes_eq held.text d.missing.now) (value_moved bytes d.has_quotes kind.reading held valid)
  where
    by_mark : (is_mark : Bool) → some_value (value_by d.has_quotes kind.reading (moved bytes held))
        ≡ answer_behind bytes (some_value (value_by d.has_quotes kind.reading held))
        → cond is_mark (Ok None) (some_value (value_by d.has_quotes kind.reading (moved bytes held)))
        ≡ answer_behind bytes (cond is_mark (Ok None) (some_value (value_by d.has_quotes kind.reading held)))
    by_mark true there = refl
    by_mark false there = there

pub cell_moved : (bytes : ℕ) (d : Dialect) (kind : Option Kind) (cell : FieldView) → AreValid (kind ∷ [])
    → answer_as d kind (moved bytes cell) ≡ answer_behind bytes (answer_as d kind cell)
cell_moved bytes d None cell valid =
    ap (λ found. unless found (Ok None)) (quotes_moved bytes d.has_quotes false cell)
    ∙ unless_moved bytes (quote_fault d.has_quotes false cell) (Ok None)
cell_moved bytes d (Some kind) cell valid =
    let is_number = not (keeps_texts kind.reading) in
    let blanks = is_number && d.allows_blanks in
    ap₂ unless (quotes_moved bytes d.has_quotes is_number cell)
    (ap (value_at d kind) (content_moved bytes d.has_quotes blanks cell)
    ∙ held_moved bytes d kind (content d.has_quotes blanks cell) valid.0)
    ∙ unless_moved bytes (quote_fault d.has_quotes is_number cell)
    (value_at d kind (content d.has_quotes blanks cell))

answers_moved : (bytes : ℕ) (d : Dialect) (kinds : List (Option Kind)) (cells : List FieldView) → AreValid kinds
    → cell_answers d kinds (map (moved bytes) cells) ≡ map (answer_behind bytes) (cell_answers d kinds cells)
answers_moved bytes d kinds [] valid = nothing kinds
  where
    nothing : (ks : List (Option Kind)) → cell_answers d ks [] ≡ map (answer_behind bytes) (cell_answers d ks [])
    nothing [] = refl
    nothing (k ∷ ks) = refl
answers_moved bytes d [] (cell ∷ cells) valid =
    ap₂ (λ a l. a ∷ l) (cell_moved bytes d None cell tt) (answers_moved bytes d [] cells tt)
answers_moved bytes d (None ∷ kinds) (cell ∷ cells) valid =
    ap₂ (λ a l. a ∷ l) (cell_moved bytes d None cell tt) (answers_moved bytes d kinds cells valid)
answers_moved bytes d (Some kind ∷ kinds) (cell ∷ cells) valid =
    ap₂ (λ a l. a ∷ l) (cell_moved bytes d (Some kind) cell (valid.0, tt))
    (answers_moved bytes d kinds cells valid.1)

values_go : (bytes : ℕ) (answers : List (Result (Option Value) CellFault))
    → columns.values_before_fault (map (answer_behind bytes) answers)
    ≡ map (option_map (value_behind bytes)) (columns.values_before_fault answers)
values_go bytes [] = refl
values_go bytes (Ok value ∷ more) = ap (λ l. option_map (value_behind bytes) value ∷ l) (values_go bytes more)
values_go bytes (Err fault ∷ more) = refl

first_moved : (bytes : ℕ) (answers : List (Result (Option Value) CellFault))
    → columns.first_fault (map (answer_behind bytes) answers) ≡ option_map (fault_behind bytes) (columns.first_fault answers)
first_moved bytes [] = refl
first_moved bytes (Ok value ∷ more) = first_moved bytes more
first_moved bytes (Err fault ∷ more) = refl

-- cells by their widths, further behind
widths_moved : (bytes : ℕ) (widths : List ℕ) (place : ℕ) (text : List ℕ)
    → cells_by_width widths (bytes + place) text ≡ map (moved bytes) (cells_by_width widths place text)
widths_moved bytes [] place text = by_test (eqb (length text) 0)
  where
    by_test : (t : Bool) → cond t [] (record { start = bytes + place; text = text } ∷ [])
        ≡ map (moved bytes) (cond t [] (record { start = place; text = text } ∷ []))
    by_test true = refl
    by_test false = refl
widths_moved bytes (width ∷ more) place text =
    let at : bytes + place + width ≡ bytes + (place + width) = omega arith in
    by_test (nat_lt (length text) width)
    (ap (λ p. cells_by_width more p (drop width text)) at ∙ widths_moved bytes more (place + width) (drop width text))
  where
    by_test : (t : Bool) → cells_by_width more (bytes + place + width) (drop width text)
        ≡ map (moved bytes) (cells_by_width more (place + width) (drop width text))
        → cond t [] (record { start = bytes + place; text = take width text }
        ∷ cells_by_width more (bytes + place + width) (drop width text))
        ≡ map (moved bytes) (cond t [] (record { start = place; text = take width text }
        ∷ cells_by_width more (place + width) (drop width text)))
    by_test true there = refl
    by_test false there = ap (λ l. record { start = bytes + place; text = take width text } ∷ l) there

-- one fault behind another
first_assoc : (a b c : Option TableError) → first_of a (first_of b c) ≡ first_of (first_of a b) c
first_assoc None b c = refl
first_assoc (Some it) b c = refl

next_index : (a b : ℕ) → a + 1 + b ≡ a + suc b
next_index a b = omega arith

index_of_none : (n : ℕ) → n ≡ n + 0
index_of_none n = omega arith

module _ (kinds : List (Option Kind)) (d : Dialect) where
  -- rows and more
  first_append : (index : ℕ) (xs ys : List RowView) → first_fault kinds d index (xs ++ ys)
      ≡ first_of (first_fault kinds d index xs) (first_fault kinds d (index + length xs) ys)
  first_append index [] ys = ap (λ k. first_fault kinds d k ys) (index_of_none index)
  first_append index (x ∷ xs) ys =
      ap (first_of (row_fault kinds d index x)) (first_append (index + 1) xs ys
      ∙ ap (λ k. first_of (first_fault kinds d (index + 1) xs) (first_fault kinds d k ys)) (next_index index (length xs)))
      ∙ first_assoc (row_fault kinds d index x) (first_fault kinds d (index + 1) xs)
      (first_fault kinds d (index + suc (length xs)) ys)

  values_append : (index : ℕ) (xs ys : List RowView) → values_to_fault kinds d index (xs ++ ys)
      ≡ values_to_fault kinds d index xs
      ++ cond (is_none (first_fault kinds d index xs)) (values_to_fault kinds d (index + length xs) ys) []
  values_append index [] ys = ap (λ k. values_to_fault kinds d k ys) (index_of_none index)
  values_append index (x ∷ xs) ys =
      by_fault (row_fault kinds d index x) (values_append (index + 1) xs ys
      ∙ ap (λ k. values_to_fault kinds d (index + 1) xs
      ++ cond (is_none (first_fault kinds d (index + 1) xs)) (values_to_fault kinds d k ys) []) (next_index index (length xs)))
    where
      by_fault : (e : Option TableError) → values_to_fault kinds d (index + 1) (xs ++ ys)
          ≡ values_to_fault kinds d (index + 1) xs
          ++ cond (is_none (first_fault kinds d (index + 1) xs)) (values_to_fault kinds d (index + suc (length xs)) ys) []
          → row_values kinds d x ∷ cond (is_none e) (values_to_fault kinds d (index + 1) (xs ++ ys)) []
          ≡ (row_values kinds d x ∷ cond (is_none e) (values_to_fault kinds d (index + 1) xs) [])
          ++ cond (is_none (first_of e (first_fault kinds d (index + 1) xs)))
          (values_to_fault kinds d (index + suc (length xs)) ys) []
      by_fault None there = ap (λ l. row_values kinds d x ∷ l) there
      by_fault (Some it) there = refl

  module _ (valid : AreValid kinds) where
    cells_moved : (bytes : ℕ) (row : RowView) → cells_of d (row_behind bytes row) ≡ map (moved bytes) (cells_of d row)
    cells_moved bytes row = by_layout d.layout
      where
        by_layout : (layout : Layout) → cells_left layout d.has_quotes 0 (bytes + row.start) row.text
            ≡ map (moved bytes) (cells_left layout d.has_quotes 0 row.start row.text)
        by_layout (Separated s columns) =
            let bytes_seen = seen d.has_quotes s row.text ++ s ∷ [] in
            ap (λ l. as_long_as l row.text) (sym (fields_moved s bytes row.start bytes_seen))
            ∙ long_moved bytes (fields_from s row.start bytes_seen) row.text
        by_layout (Widths widths) = widths_moved bytes widths.now row.start row.text
        by_layout (Records widths) = widths_moved bytes widths.now row.start row.text

    row_moved : (bytes : ℕ) (row : RowView)
        → row_answers kinds d (row_behind bytes row) ≡ map (answer_behind bytes) (row_answers kinds d row)
    row_moved bytes row =
        ap (λ l. cell_answers d kinds (take (count_in d) l)) (cells_moved bytes row)
        ∙ ap (cell_answers d kinds) (take_map (moved bytes) (count_in d) (cells_of d row))
        ∙ answers_moved bytes d kinds (take (count_in d) (cells_of d row)) valid

    pub row_values_moved : (bytes : ℕ) (row : RowView) → row_values kinds d (row_behind bytes row)
        ≡ map (option_map (value_behind bytes)) (row_values kinds d row)
    row_values_moved bytes row =
        ap columns.values_before_fault (row_moved bytes row) ∙ values_go bytes (row_answers kinds d row)

    as_many : (bytes : ℕ) (row : RowView) → length (row_values kinds d (row_behind bytes row)) ≡ length (row_values kinds d row)
    as_many bytes row =
        ap length (row_values_moved bytes row) ∙ length-map (row_values kinds d row) (option_map (value_behind bytes))

    pub row_fault_moved : (before bytes index : ℕ) (row : RowView) → row_fault kinds d (before + index) (row_behind bytes row)
        ≡ option_map (error_behind before bytes) (row_fault kinds d index row)
    row_fault_moved before bytes index row =
        ap₂ (λ n e. fault_of d (before + index) (row_behind bytes row) n e)
        (as_many bytes row)
        (ap columns.first_fault (row_moved bytes row) ∙ first_moved bytes (row_answers kinds d row))
        ∙ by_error (length (row_values kinds d row)) (columns.first_fault (row_answers kinds d row))
      where
        by_error : (n : ℕ) (e : Option CellFault)
            → fault_of d (before + index) (row_behind bytes row) n (option_map (fault_behind bytes) e)
            ≡ option_map (error_behind before bytes) (fault_of d index row n e)
        by_error n None =
            let cells = cells_of d row in
            ap (λ l. end_fault (count_in d) (before + index) (row_behind bytes row) (length (take (count_in d) l))
            (first_start (drop (count_in d) l))) (cells_moved bytes row)
            ∙ ap₂ (λ c e. end_fault (count_in d) (before + index) (row_behind bytes row) c e)
            (ap length (take_map (moved bytes) (count_in d) cells) ∙ length-map (take (count_in d) cells) (moved bytes))
            (ap first_start (drop_map (moved bytes) (count_in d) cells) ∙ start_moved bytes (drop (count_in d) cells))
            ∙ end_moved before bytes (count_in d) index row (length (take (count_in d) cells)) (first_start (drop (count_in d) cells))
        by_error n (Some fault) = refl

    rows_first_moved : (before bytes index : ℕ) (lines : List RowView)
        → first_fault kinds d (before + index) (map (row_behind bytes) lines)
        ≡ option_map (error_behind before bytes) (first_fault kinds d index lines)
    rows_first_moved before bytes index [] = refl
    rows_first_moved before bytes index (row ∷ more) =
        ap₂ first_of (row_fault_moved before bytes index row)
        (ap (λ k. first_fault kinds d k (map (row_behind bytes) more)) (next before index)
        ∙ rows_first_moved before bytes (index + 1) more)
        ∙ both (row_fault kinds d index row) (first_fault kinds d (index + 1) more)
      where
        next : (a b : ℕ) → a + b + 1 ≡ a + (b + 1)
        next a b = omega arith

        both : (a b : Option TableError)
            → first_of (option_map (error_behind before bytes) a) (option_map (error_behind before bytes) b)
            ≡ option_map (error_behind before bytes) (first_of a b)
        both None b = refl
        both (Some it) b = refl

    values_moved : (before bytes index : ℕ) (lines : List RowView)
        → values_to_fault kinds d (before + index) (map (row_behind bytes) lines)
        ≡ values_behind bytes (values_to_fault kinds d index lines)
    values_moved before bytes index [] = refl
    values_moved before bytes index (row ∷ more) =
        ap₂ (λ v l. v ∷ l) (row_values_moved bytes row)
        (ap₂ (λ e later. cond (is_none e) later []) (row_fault_moved before bytes index row)
        (ap (λ k. values_to_fault kinds d k (map (row_behind bytes) more)) (next before index)
        ∙ values_moved before bytes (index + 1) more)
        ∙ ap (λ b. cond b (values_behind bytes (values_to_fault kinds d (index + 1) more)) [])
        (none_moved (row_fault kinds d index row))
        ∙ by_none (is_none (row_fault kinds d index row)))
      where
        by_none : (b : Bool) → cond b (values_behind bytes (values_to_fault kinds d (index + 1) more)) []
            ≡ values_behind bytes (cond b (values_to_fault kinds d (index + 1) more) [])
        by_none true = refl
        by_none false = refl

        next : (a b : ℕ) → a + b + 1 ≡ a + (b + 1)
        next a b = omega arith

        none_moved : (a : Option TableError) → is_none (option_map (error_behind before bytes) a) ≡ is_none a
        none_moved None = refl
        none_moved (Some it) = refl

-- the law of parts
pub columns_in_parts : (kinds : List (Option Kind)) (d : Dialect) (part more : List ℕ) → AreValid kinds
    → ColumnsInParts kinds d part more
columns_in_parts kinds d part more valid =
    let size = whole_rows d part in
    let front = take size part in
    let left = drop size part ++ more in
    let count = length (rows d front) in
    let within = whole_within d.layout d.has_quotes part in
    let cut = rows_split d part more size refl within in
    let long = sym (length-take-le size part within) in
    let none : 0 + count ≡ count + 0 = omega arith in
    record {
      values =
          ap (values_to_fault kinds d 0) cut
          ∙ values_append kinds d 0 (rows d front) (map (row_behind size) (rows d left))
          ∙ ap (λ l. values_in kinds d front ++ cond (is_none (fault_in kinds d front)) l [])
          (ap (λ k. values_to_fault kinds d k (map (row_behind size) (rows d left))) none
          ∙ values_moved kinds d valid count size 0 (rows d left)
          ∙ ap (λ n. values_behind n (values_in kinds d left)) long);
      fault =
          ap (first_fault kinds d 0) cut
          ∙ first_append kinds d 0 (rows d front) (map (row_behind size) (rows d left))
          ∙ ap (first_of (fault_in kinds d front))
          (ap (λ k. first_fault kinds d k (map (row_behind size) (rows d left))) none
          ∙ rows_first_moved kinds d valid count size 0 (rows d left)
          ∙ ap (λ n. option_map (error_behind count n) (fault_in kinds d left)) long);
    }
