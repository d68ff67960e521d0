-- The rows of a text that is cut.
use Rattle.std.proofs.Common.{◌≡◌, ◌∙◌, ℕ, zero, suc, ◌+◌, ◌==◌, ◌&&◌, ◌-◌, ◌*◌, ◌/◌, ◌%◌, ◌<◌, ◌≤◌, List, [], ◌∷◌, ◌++◌, length, take, drop, map, filter, Bool, true, false, not, cond, refl, ap, ap₂, sym, subst, arith, inl, inr, length-append, length-drop, length-take-le}
use Rattle.std.specs.Prelude.{nat_lt}
use Rattle.std.specs.List.{list_any}
use Rattle.std.proofs.lemmas.Bool.{lt-ltb}
use Rattle.std.proofs.lemmas.List.{map-append}
use Rattle.std.proofs.lemmas.List.Elements.{filter-append}
use Rattle.std.proofs.lemmas.Nat.{div-add-mod'}
use Rattle.lexical_fields.specs.Fields.{FieldView, fields_from, onto_field}
use Rattle.lexical_fields.specs.Parts.{whole_fields}
use Rattle.lexical_fields.proofs.FieldsInParts.{either, here, on, whole_here, whole_none, whole_on}
use Rattle.lexical_fields.proofs.MovedFields.{fields_moved, moved}
use Rattle.lexical_tables.specs.Parts.{whole_lines, whole_pieces, whole_rows}
use Rattle.lexical_tables.specs.Quotes.{as_long_as, fields_outside, seen}
use Rattle.lexical_tables.specs.Rows.{RowView, as_row, carriage_return, counts, ends_in, has_lines, line_feed, pieces_from, record_size, records_from, row_of, rows, takes_returns}
use Rattle.lexical_tables.specs.declared.dialect.Dialect.{Dialect}
use Rattle.lexical_tables.specs.declared.dialect.Layout.{Layout}
use Rattle.lexical_tables.specs.declared.dialect.Layout.TheVariants.{Records, Separated, Widths}
use Rattle.lexical_tables.proofs.OutsideInParts.{split_outside}
use Rattle.lexical_tables.proofs.RecordSteps.{records_moved, split_records}
use Rattle.lexical_tables.proofs.RowSteps.{moved_test, size_low}
use Rattle.lexical_tables.proofs.SeenBytes.{seen_long, seen_take}

-- ---- lines in front of a cut are ended

-- the first line starts at a place
abbrev StartsAt : ℕ → List FieldView → Type 0
StartsAt place [] = Unit {0}
StartsAt place (line ∷ more) = line.start ≡ place

onto_starts : (p b : ℕ) (lines : List FieldView) → StartsAt p (onto_field p b lines)
onto_starts p b [] = refl
onto_starts p b (line ∷ more) = refl

fields_start : (s p : ℕ) (bs : List ℕ) → StartsAt p (fields_from s p bs)
fields_start s p [] = tt
fields_start s p (b ∷ bs) = by_test (b == s)
  where
    by_test : (t : Bool) → StartsAt p (cond t (record { start = p; text = [] } ∷ fields_from s (p + 1) bs)
        (onto_field p b (fields_from s (p + 1) bs)))
    by_test true = refl
    by_test false = onto_starts p b (fields_from s (p + 1) bs)

-- all lines end before a place
abbrev AllBefore : ℕ → List FieldView → Type 0
AllBefore end [] = Unit {0}
AllBefore end (line ∷ more) = (line.start + length line.text < end) × AllBefore end more

-- the whole lines of a text that stands at a place end before theirs
abbrev AreEnded : ℕ → ℕ → List ℕ → ℕ → Type 0
AreEnded s place text size = AllBefore (place + size) (fields_from s place (take size text))

onto_before : (place byte end : ℕ) (lines : List FieldView) → place + 1 < end → StartsAt (place + 1) lines
    → AllBefore end lines → AllBefore end (onto_field place byte lines)
onto_before place byte end [] low at all = (omega arith, tt)
onto_before place byte end (line ∷ more) low at all = (omega (arith, at, all.0), all.1)

some_whole : (s : ℕ) (text : List ℕ) → list_any (λ byte. byte == s) text ≡ true → 0 < whole_fields s text
some_whole s [] h = cc
some_whole s (byte ∷ rest) h = rw h (omega arith)

whole_before : (s place : ℕ) (text : List ℕ) → AreEnded s place text (whole_fields s text)
whole_before s place [] = tt
whole_before s place (byte ∷ rest) =
    let size = whole_fields s rest in
    let front = fields_from s (place + 1) (take size rest) in
    let at : place + 1 + size ≡ place + suc size = omega arith in
    let there : AllBefore (place + suc size) front = subst (λ end. AllBefore end front) at (whole_before s (place + 1) rest) in
    elim (either (byte == s)) as (λ _. AreEnded s place (byte ∷ rest) (whole_fields s (byte ∷ rest))) [
      | inl e ↦ subst (AreEnded s place (byte ∷ rest)) (sym (whole_here s byte rest e))
          (subst (AllBefore (place + suc size)) (sym (here s place byte (take size rest) e)) (omega arith, there))
      | inr e ↦ elim (either (list_any (λ b. b == s) rest))
          as (λ _. AreEnded s place (byte ∷ rest) (whole_fields s (byte ∷ rest))) [
            | inl a ↦ subst (AreEnded s place (byte ∷ rest)) (sym (whole_on s byte rest e a))
                (subst (AllBefore (place + suc size)) (sym (on s place byte (take size rest) e))
                (onto_before place byte (place + suc size) front (omega (arith, some_whole s rest a))
                (fields_start s (place + 1) (take size rest)) there))
            | inr a ↦ subst (AreEnded s place (byte ∷ rest)) (sym (whole_none s byte rest e a)) tt
          ]
    ]

-- lines of fewer bytes do
long_before : (end : ℕ) (lines : List FieldView) (text : List ℕ) → AllBefore end lines → AllBefore end (as_long_as lines text)
long_before end [] text all = tt
long_before end (line ∷ more) text all =
    (omega (arith, all.0, length_take (length line.text) text), long_before end more (drop (length line.text + 1) text) all.1)
  where
    length_take : (n : ℕ) (bs : List ℕ) → length (take n bs) ≤ n
    length_take zero bs = omega arith
    length_take (suc n) [] = omega arith
    length_take (suc n) (b ∷ bs) = omega (arith, length_take n bs)

-- ---- lines as rows

-- a line as a row, by whether a line feed is behind it
abbrev row_by : Bool → Bool → FieldView → Bool → RowView
row_by takes asks line ended = record {
  start = line.start;
  text = cond ((takes && ended) && ends_in carriage_return line.text)
      (take (length line.text - 1) line.text) line.text;
  lacks_return = (asks && ended) && not (ends_in carriage_return line.text);
}

-- a row, if it stands `bytes` bytes further on
abbrev pub row_behind : ℕ → RowView → RowView
row_behind bytes row = record { start = bytes + row.start; text = row.text; lacks_return = row.lacks_return }

-- lines that end before two places are the same rows of texts that end there
rows_before : (t r : Bool) (end other : ℕ) (lines : List FieldView) → AllBefore end lines → end ≤ other
    → map (row_of t r other) lines ≡ map (row_of t r end) lines
rows_before t r end other [] all low = refl
rows_before t r end other (line ∷ more) all low =
    let place = line.start + length line.text in
    ap₂ (λ row rest. row ∷ rest)
    (ap (row_by t r line) (lt-ltb place other (omega (arith, all.0)) ∙ sym (lt-ltb place end all.0)))
    (rows_before t r end other more all.1 low)

rows_moved : (t r : Bool) (bytes end : ℕ) (lines : List FieldView)
    → map (row_of t r (bytes + end)) (map (moved bytes) lines) ≡ map (row_behind bytes) (map (row_of t r end) lines)
rows_moved t r bytes end [] = refl
rows_moved t r bytes end (line ∷ more) =
    let place = line.start + length line.text in
    let at : bytes + line.start + length line.text ≡ bytes + place = omega arith in
    ap₂ (λ row rest. row ∷ rest)
    (ap (row_by t r (moved bytes line)) (ap (λ k. nat_lt k (bytes + end)) at ∙ moved_test bytes place end))
    (rows_moved t r bytes end more)

-- the fields of a text that stands further behind
pub long_moved : (size : ℕ) (fields : List FieldView) (text : List ℕ)
    → as_long_as (map (moved size) fields) text ≡ map (moved size) (as_long_as fields text)
long_moved size [] text = refl
long_moved size (field ∷ more) text =
    ap (λ l. record { start = size + field.start; text = take (length field.text) text } ∷ l)
    (long_moved size more (drop (length field.text + 1) text))

outside_moved : (q : Bool) (s size place : ℕ) (text : List ℕ)
    → map (moved size) (fields_outside q s place text) ≡ fields_outside q s (size + place) text
outside_moved q s size place text =
    sym (long_moved size (fields_from s place (seen q s text)) text)
    ∙ ap (λ l. as_long_as l text) (fields_moved s size place (seen q s text))

-- What is made of a text and more is what is made of the text's first `size` bytes, and then of all
-- that is left.
abbrev SplitsAt : (List ℕ → List RowView) → List ℕ → List ℕ → ℕ → Type 0
SplitsAt made part more size =
    made (part ++ more) ≡ made (take size part) ++ map (row_behind size) (made (drop size part ++ more))

-- the lines of a text that is cut
lines_split : (q t r : Bool) (part more : List ℕ) (size : ℕ) → size ≡ whole_lines q part → size ≤ length part
    → SplitsAt (λ text. map (row_of t r (length text)) (fields_outside q line_feed 0 text)) part more size
lines_split q t r part more size is within =
    let front = fields_outside q line_feed 0 (take size part) in
    let bytes = seen q line_feed part in
    let left = drop size part ++ more in
    let front_size : length (take size part) ≡ size = length-take-le size part within in
    let all : length (part ++ more) ≡ size + length left =
    omega (arith, length-append part more, length-append (drop size part) more, length-drop size part) in
    let ended : AllBefore (length (take size part)) front =
    subst (λ n. AllBefore n front) (zero_add size ∙ sym front_size)
    (long_before (0 + size) (fields_from line_feed 0 (seen q line_feed (take size part))) (take size part)
    (subst (λ l. AllBefore (0 + size) (fields_from line_feed 0 l)) (sym (seen_take q line_feed size part))
    (subst (λ n. AllBefore (0 + n) (fields_from line_feed 0 (take n bytes))) (sym is) (whole_before line_feed 0 bytes)))) in
    let cut : fields_outside q line_feed 0 (part ++ more) ≡ front ++ map (moved size) (fields_outside q line_feed 0 left) =
    subst (λ n. fields_outside q line_feed 0 (part ++ more) ≡ fields_outside q line_feed 0 (take n part)
    ++ fields_outside q line_feed (0 + n) (drop n part ++ more)) (sym is) (split_outside q line_feed 0 part more)
    ∙ ap (λ p. front ++ fields_outside q line_feed p left) (zero_add size ∙ add_zero size)
    ∙ ap (λ l. front ++ l) (sym (outside_moved q line_feed size 0 left)) in
    ap (map (row_of t r (length (part ++ more)))) cut
    ∙ map-append (row_of t r (length (part ++ more))) front (map (moved size) (fields_outside q line_feed 0 left))
    ∙ ap₂ (λ a b. a ++ b)
    (rows_before t r (length (take size part)) (length (part ++ more)) front ended (omega (arith, all, front_size)))
    (ap (λ n. map (row_of t r n) (map (moved size) (fields_outside q line_feed 0 left))) all
    ∙ rows_moved t r size (length left) (fields_outside q line_feed 0 left))
  where
    zero_add : (n : ℕ) → 0 + n ≡ n
    zero_add n = omega arith

    add_zero : (n : ℕ) → n ≡ n + 0
    add_zero n = omega arith

-- the records of a text that is cut
records_split : (s : ℕ) → 0 < s → (end : ℕ) (part more : List ℕ) (size : ℕ) → size ≡ length part - length part % s
    → SplitsAt (λ text. map (row_of false false end) (records_from s 0 text)) part more size
records_split s low end part more size is =
    let count = length part / s in
    let whole : size ≡ count * s = omega (arith, is, div-add-mod' (length part) s) in
    let front = records_from s 0 (take size part) in
    let left = drop size part ++ more in
    let add : 0 + size ≡ size + 0 = omega arith in
    let cut : records_from s 0 (part ++ more) ≡ front ++ records_from s (0 + size) left =
    subst (λ n. records_from s 0 (part ++ more) ≡ records_from s 0 (take n part) ++ records_from s (0 + n) (drop n part ++ more))
    (sym whole) (split_records s low count 0 part more (omega (arith, div-add-mod' (length part) s))) in
    ap (map (row_of false false end)) (cut ∙ ap (λ p. front ++ records_from s p left) add
    ∙ ap (λ l. front ++ l) (sym (records_moved s size 0 left)))
    ∙ map-append (row_of false false end) front (map (moved size) (records_from s 0 left))
    ∙ ap (λ l. map (row_of false false end) front ++ l) (rows_moved false false size end (records_from s 0 left))

-- the lines or records of a text as rows, also those that don't count
abbrev pieces : Layout → Bool → Bool → Bool → List ℕ → List RowView
pieces layout q t r text = map (row_of (has_lines layout && t) (has_lines layout && r) (length text)) (pieces_from layout q 0 text)

pieces_split : (layout : Layout) (q t r : Bool) (part more : List ℕ) (size : ℕ) → size ≡ whole_pieces layout q part
    → size ≤ length part → SplitsAt (pieces layout q t r) part more size
pieces_split (Separated s columns) q t r part more size is within = lines_split q t r part more size is within
pieces_split (Widths widths) q t r part more size is within = lines_split q t r part more size is within
pieces_split (Records widths) q t r part more size is within =
    records_split (record_size widths.now) (size_low widths.now) 0 part more size is

-- the rows of a text that is cut
filter_behind : (d : Dialect) (size : ℕ) (lines : List RowView)
    → filter (counts d) (map (row_behind size) lines) ≡ map (row_behind size) (filter (counts d) lines)
filter_behind d size [] = refl
filter_behind d size (line ∷ more) = by_test (counts d line) (filter_behind d size more)
  where
    by_test : (t : Bool) → filter (counts d) (map (row_behind size) more) ≡ map (row_behind size) (filter (counts d) more)
        → cond t (row_behind size line ∷ filter (counts d) (map (row_behind size) more))
        (filter (counts d) (map (row_behind size) more))
        ≡ map (row_behind size) (cond t (line ∷ filter (counts d) more) (filter (counts d) more))
    by_test true same = ap (λ l. row_behind size line ∷ l) same
    by_test false same = same

-- the lines or records of a text as rows of a table
abbrev pieces_of : Dialect → List ℕ → List RowView
pieces_of d = pieces d.layout d.has_quotes (takes_returns d) d.has_returns

rows_are : (d : Dialect) (text : List ℕ) → rows d text ≡ filter (counts d) (pieces_of d text)
rows_are d text =
    ap (λ end. filter (counts d) (map (as_row d end) (pieces_from d.layout d.has_quotes 0 text))) (zero_add (length text))
  where
    zero_add : (n : ℕ) → 0 + n ≡ n
    zero_add n = omega arith

pub rows_split : (d : Dialect) (part more : List ℕ) (size : ℕ) → size ≡ whole_rows d part → size ≤ length part
    → rows d (part ++ more) ≡ rows d (take size part) ++ map (row_behind size) (rows d (drop size part ++ more))
rows_split d part more size is within =
    let front = pieces_of d (take size part) in
    let left = drop size part ++ more in
    rows_are d (part ++ more)
    ∙ ap (filter (counts d)) (pieces_split d.layout d.has_quotes (takes_returns d) d.has_returns part more size is within)
    ∙ filter-append (counts d) front (map (row_behind size) (pieces_of d left))
    ∙ ap₂ (λ a b. a ++ b) (sym (rows_are d (take size part)))
    (filter_behind d size (pieces_of d left) ∙ ap (map (row_behind size)) (sym (rows_are d left)))

-- the whole rows of a text are some of its bytes
fields_within : (s : ℕ) (text : List ℕ) → whole_fields s text ≤ length text
fields_within s [] = omega arith
fields_within s (byte ∷ rest) = by_test (list_any (λ b. b == s) (byte ∷ rest)) (fields_within s rest)
  where
    by_test : (t : Bool) → whole_fields s rest ≤ length rest → cond t (suc (whole_fields s rest)) 0 ≤ suc (length rest)
    by_test true low = omega arith
    by_test false low = omega arith

pub whole_within : (layout : Layout) (q : Bool) (text : List ℕ) → whole_pieces layout q text ≤ length text
whole_within (Separated s columns) q text =
    omega (arith, fields_within line_feed (seen q line_feed text), seen_long q line_feed text)
whole_within (Widths widths) q text =
    omega (arith, fields_within line_feed (seen q line_feed text), seen_long q line_feed text)
whole_within (Records widths) q text = omega arith
