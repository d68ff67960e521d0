-- A column, one field after another.
use Rattle.std.proofs.Common.{inl, inr, ◌⊎◌, length-drop, ◌≡◌, ℕ, zero, suc, ◌+◌, ◌-◌, ◌<◌, ◌≤◌, List, [], ◌∷◌, ◌++◌, length, take, drop, map, set, length-set, append_assoc, refl, ap, ap₂, sym, ◌∙◌, arith, Ok, Err, Result, Option, Some, None}
use Rattle.std.proofs.Math.IntN.{ℤ}
use Rattle.std.proofs.lemmas.List.{append-nil, drop_all, map-append, take_more_set, drop-drop, drop-set-lt, length-take-le, length-map}
use Rattle.std.proofs.lemmas.Grind.{drop_more_same}
use Rattle.lexical_util.specs.declared.error.Error.{Error}
use Rattle.lexical_util.specs.Format.{Format}
use Rattle.lexical_util.specs.Number.{IntegerType}
use Rattle.lexical_util.specs.Validity.{fault}
use Rattle.lexical_fields.specs.declared.columns.Column.{Column}
use Rattle.lexical_fields.specs.declared.columns.ColumnError.{ColumnError}
use Rattle.lexical_fields.specs.declared.columns.ColumnError.TheVariants.{InvalidFormat}
use Rattle.std.specs.Prelude.{IfOk}
use Rattle.std.proofs.lemmas.Bool.{cases_lt}
use Rattle.lexical_fields.specs.Columns.{GoesOn, answer_by, answer_of, answers, column, column_numbers, first_fault, next_start, numbers_by, numbers_of, outcome_at, values_before_fault}
use Rattle.lexical_fields.specs.Fields.{field_length, fields, fields_from}
use Rattle.lexical_fields.specs.ReadFields.{field_answer}
use Rattle.lexical_fields.specs.ReadSoFar.{IsReadSoFar, left_of}
use Rattle.lexical_fields.proofs.FieldSteps.{next_field}

-- before the first field
pub reading_starts : (T : Type 0) (number : T → ℤ) (f : Format) (t : IntegerType) (s : ℕ)
    (text : List ℕ) (old : List T) → IsReadSoFar T number f t s text old old 0 text
reading_starts T number f t s text old =
    let start : length text - length text ≡ 0 = omega arith in
    let room : length old - 0 ≡ length old = omega arith in
    record {
      size = refl;
      within = omega arith;
      place = ap (λ k. fields_from s k text) (sym start);
      numbers = ap₂ (λ k n. values_before_fault (answers f t n (fields_from s k text))) start room;
      first = ap₂ (λ k n. first_fault (answers f t n (fields_from s k text))) start room;
      kept = refl;
      tail = ap (λ k. drop k text) (sym start);
    }

-- what is behind a field is the text's end too
pub tail_goes : (text rest behind : List ℕ) (n : ℕ) → length rest ≤ length text
    → rest ≡ drop (length text - length rest) text → behind ≡ drop (n + 1) rest
    → behind ≡ drop (length text - length behind) text
tail_goes text rest behind n low tail back = by_order (cases_lt n (length rest))
  where
    by_order : (n < length rest) ⊎ (length rest ≤ n) → behind ≡ drop (length text - length behind) text
    by_order (inl lt) =
        let size : length behind ≡ length rest - (n + 1) = ap length back ∙ length-drop (n + 1) rest in
        let at : length text - length rest + (n + 1) ≡ length text - length behind = omega (arith, size) in
        back ∙ ap (drop (n + 1)) tail ∙ drop-drop (n + 1) (length text - length rest) text ∙ ap (λ k. drop k text) at
    by_order (inr ge) =
        let none : behind ≡ [] = back ∙ drop_all (n + 1) rest (omega arith) in
        let size : length behind ≡ 0 = ap length none in
        none ∙ sym (drop_all (length text - length behind) text (omega (arith, size)))

-- what is left begins where the text has what is left
pub start_of_left : (s : ℕ) (text rest : List ℕ)
    → next_start (length text) (left_of s text rest) ≡ length text - length rest
start_of_left s text [] = omega arith
start_of_left s text (b ∷ bs) =
    ap (next_start (length text)) (next_field s (length text - length (b ∷ bs)) (b ∷ bs) _ _
    (omega arith) refl refl)

-- What is answered of a text under a valid format, and what a slice then holds.
pub record IsRead (T : Type 0) (number : T → ℤ) (f : Format) (t : IntegerType) (s : ℕ)
    (text : List ℕ) (old now : List T) (answer : Result Column ColumnError) : Type 0 where
  pub answer_is : answer ≡ answer_of f t (length old) s text
  pub numbers_are : map number (take (length (numbers_of f t (length old) s text)) now)
      ≡ numbers_of f t (length old) s text
  pub rest_is : drop (length (numbers_of f t (length old) s text)) now
      ≡ drop (length (numbers_of f t (length old) s text)) old
  pub size_is : length now ≡ length old
  pub goes_on : IfOk answer (GoesOn s text (length old) (numbers_of f t (length old) s text))

if_outcome_at : (count stop : ℕ) (outcome : Option Error) (P : Column → Type 0)
    → P (record { count = count; stop = stop }) → IfOk (outcome_at count stop outcome) P
if_outcome_at count stop None P here = here
if_outcome_at count stop (Some error) P here = tt

-- an invalid format is told at once
pub read_invalid : (T : Type 0) (number : T → ℤ) (f : Format) (t : IntegerType) (s : ℕ)
    (text : List ℕ) (old : List T) (error : Error) → Some error ≡ fault f
    → IsRead T number f t s text old old (Err (InvalidFormat error))
unfolding answer_of numbers_of
read_invalid T number f t s text old error invalid =
    let none : numbers_of f t (length old) s text ≡ [] =
    ap (λ e. numbers_by e (column_numbers f t (length old) s text)) (sym invalid) in
    record {
      answer_is = ap (λ e. answer_by e (column f t (length old) s text)) invalid;
      numbers_are = ap (λ n. map number (take (length n) old)) none ∙ sym none;
      rest_is = refl;
      size_is = refl;
      goes_on = tt;
    }

module _ (T : Type 0) (number : T → ℤ) (f : Format) (t : IntegerType) (s : ℕ) (text : List ℕ)
    (old now : List T) (count : ℕ) (rest : List ℕ)
    (reading : IsReadSoFar T number f t s text old now count rest) where
  -- the next field, and what is left behind it
  next_left : (field behind : List ℕ) → 0 < length rest → field ≡ take (field_length s rest) rest
      → behind ≡ drop (field_length s rest + 1) rest → length behind ≤ length rest
      → left_of s text rest ≡ record { start = length text - length rest; text = field } ∷ left_of s text behind
  next_left field behind some front back shorter =
      let at : length text - length rest + (length rest - length behind)
      ≡ length text - length behind = omega (arith, reading.within) in
      next_field s (length text - length rest) rest field behind some front back
      ∙ ap (λ k. record { start = length text - length rest; text = field } ∷ fields_from s k behind) at

  next_answers : (field behind : List ℕ) → count < length old → 0 < length rest
      → field ≡ take (field_length s rest) rest → behind ≡ drop (field_length s rest + 1) rest
      → length behind ≤ length rest
      → answers f t (length old - count) (left_of s text rest)
      ≡ field_answer f t (record { start = length text - length rest; text = field })
      ∷ answers f t (length old - (count + 1)) (left_of s text behind)
  next_answers field behind room some front back shorter =
      let one : length old - count ≡ suc (length old - (count + 1)) = omega arith in
      ap₂ (λ n l. answers f t n l) one (next_left field behind some front back shorter)

  -- one number more
  pub reading_goes : (field behind : List ℕ) (value : T) → count < length old → 0 < length rest
      → field ≡ take (field_length s rest) rest → behind ≡ drop (field_length s rest + 1) rest
      → length behind ≤ length rest
      → Ok (number value) ≡ field_answer f t
      (record { start = length text - length rest; text = field })
      → IsReadSoFar T number f t s text old (set now count value) (count + 1) behind
  reading_goes field behind value room some front back shorter told =
      let next = next_answers field behind room some front back shorter in
      let more : answers f t (length old - count) (left_of s text rest)
      ≡ Ok (number value) ∷ answers f t (length old - (count + 1)) (left_of s text behind) =
      next ∙ ap (λ a. a ∷ answers f t (length old - (count + 1)) (left_of s text behind)) (sym told) in
      let low : count < length now = omega (arith, reading.size) in
      let read : map number (take (count + 1) (set now count value))
      ≡ map number (take count now) ++ number value ∷ [] =
      ap (map number) (take_more_set now count value low) ∙ map-append number (take count now) (value ∷ []) in
      let later = values_before_fault (answers f t (length old - (count + 1)) (left_of s text behind)) in
      record {
        size = length-set now count value ∙ reading.size;
        within = omega (arith, reading.within);
        place =
            sym (drop-drop 1 count (fields s text))
            ∙ ap (drop 1) (reading.place ∙ next_left field behind some front back shorter);
        numbers =
            ap (λ l. l ++ later) read ∙ append_assoc (map number (take count now))
            (number value ∷ []) later ∙ ap (λ a. map number (take count now)
            ++ values_before_fault a) (sym more) ∙ reading.numbers;
        first = ap first_fault (sym more) ∙ reading.first;
        kept = drop-set-lt (count + 1) now count value (omega arith) ∙ drop_more_same now old count reading.kept;
        tail = tail_goes text rest behind (field_length s rest) reading.within reading.tail back;
      }

  -- no number more
  reading_ends : (outcome : Option Error) → fault f ≡ None → count ≤ length old
      → values_before_fault (answers f t (length old - count) (left_of s text rest)) ≡ []
      → first_fault (answers f t (length old - count) (left_of s text rest)) ≡ outcome
      → IsRead T number f t s text old now (outcome_at count (length text - length rest) outcome)
  unfolding answer_of numbers_of
  reading_ends outcome valid room none told =
      let front = map number (take count now) in
      let numbers : column_numbers f t (length old) s text ≡ front =
      sym reading.numbers ∙ ap (λ l. front ++ l) none ∙ append-nil front in
      let low : count ≤ length now = omega (arith, reading.size) in
      let size : length (column_numbers f t (length old) s text) ≡ count =
      ap length numbers ∙ length-map (take count now) number ∙ length-take-le count now low in
      let stop : next_start (length text)
      (drop (length (column_numbers f t (length old) s text)) (fields s text))
      ≡ length text - length rest =
      ap (λ n. next_start (length text) (drop n (fields s text))) size
      ∙ ap (next_start (length text)) reading.place ∙ start_of_left s text rest in
      let first : first_fault (answers f t (length old) (fields s text)) ≡ outcome = sym reading.first ∙ told in
      let all : numbers_of f t (length old) s text ≡ column_numbers f t (length old) s text =
      ap (λ e. numbers_by e (column_numbers f t (length old) s text)) valid in
      let all_size : length (numbers_of f t (length old) s text) ≡ count = ap length all ∙ size in
      record {
        answer_is =
            sym (ap (λ e. answer_by e (column f t (length old) s text)) valid
            ∙ ap₂ (λ n k. outcome_at n k (first_fault (answers f t (length old) (fields s text))))
            size stop ∙ ap (outcome_at count (length text - length rest)) first);
        numbers_are = ap (λ n. map number (take n now)) all_size ∙ sym (all ∙ numbers);
        rest_is = ap (λ n. drop n now) all_size ∙ reading.kept ∙ ap (λ n. drop n old) (sym all_size);
        size_is = reading.size;
        goes_on =
            if_outcome_at count (length text - length rest) outcome
            (GoesOn s text (length old) (numbers_of f t (length old) s text)) (record {
              counted = sym all_size;
              within_room = room;
              within_text = omega arith;
              left = ap (fields_from s (length text - length rest)) (sym reading.tail) ∙ sym reading.place;
            });
      }

  -- no field is left
  pub read_all : fault f ≡ None → count ≤ length old → length rest ≡ 0
      → IsRead T number f t s text old now (outcome_at count (length text - length rest) None)
  read_all valid room ended =
      let none : rest ≡ [] = none_of rest ended in
      let nothing : answers f t (length old - count) (left_of s text rest) ≡ [] =
      ap (λ r. answers f t (length old - count) (left_of s text r)) none
      ∙ answers_none (length old - count) in
      reading_ends None valid room (ap values_before_fault nothing) (ap first_fault nothing)
    where
      none_of : (l : List ℕ) → length l ≡ 0 → l ≡ []
      none_of [] e = refl
      none_of (x ∷ xs) e = absurd (omega arith)

      answers_none : (n : ℕ) → answers f t n [] ≡ []
      answers_none zero = refl
      answers_none (suc n) = refl

  -- no room is left
  pub read_full : fault f ≡ None → count ≡ length old
      → IsRead T number f t s text old now (outcome_at count (length text - length rest) None)
  read_full valid full =
      let room : length old - count ≡ 0 = omega (arith, full) in
      let nothing : answers f t (length old - count) (left_of s text rest) ≡ [] =
      ap (λ n. answers f t n (left_of s text rest)) room in
      reading_ends None valid (omega (arith, full)) (ap values_before_fault nothing) (ap first_fault nothing)

  -- the next field is no number
  pub read_fault : (field behind : List ℕ) (error : Error) → fault f ≡ None → count < length old
      → 0 < length rest → field ≡ take (field_length s rest) rest
      → behind ≡ drop (field_length s rest + 1) rest → length behind ≤ length rest
      → Err error ≡ field_answer f t (record { start = length text - length rest; text = field })
      → IsRead T number f t s text old now
      (outcome_at count (length text - length rest) (Some error))
  read_fault field behind error valid room some front back shorter told =
      let more : answers f t (length old - count) (left_of s text rest)
      ≡ Err error ∷ answers f t (length old - (count + 1)) (left_of s text behind) =
      next_answers field behind room some front back shorter
      ∙ ap (λ a. a ∷ answers f t (length old - (count + 1)) (left_of s text behind)) (sym told) in
      reading_ends (Some error) valid (omega arith) (ap values_before_fault more) (ap first_fault more)
