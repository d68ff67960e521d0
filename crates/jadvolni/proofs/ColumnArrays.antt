-- What reading a column does, by the array as a list of numbers.
use Rattle.std.proofs.Common.{◌≡◌, ℕ, true, cond, List, ◌++◌, length, take, drop, map, ap, ap₂, sym, ◌∙◌, Result}
use Rattle.std.proofs.Math.IntN.{ℤ}
use Rattle.std.proofs.lemmas.List.{drop-map, length-map, map-append, take-append-drop}
use Rattle.lexical_util.specs.Format.{Format}
use Rattle.lexical_util.specs.Number.{IntegerType}
use Rattle.lexical_fields.specs.Columns.{answer_of, numbers_of}
use Rattle.lexical_fields.specs.declared.columns.Column.{Column}
use Rattle.lexical_fields.specs.declared.columns.ColumnError.{ColumnError}
use Rattle.jadvolni.specs.Columns.{ColumnEffect, column_call, effect_of_column, with_front}
use Rattle.jadvolni.specs.Effect.{unknown_field}
use Rattle.jadvolni.specs.FormatFields.{are_known, format_of}
use Rattle.jadvolni.specs.declared.format.FormatFields.{FormatFields}

-- an array whose front has these numbers, and whose rest is as it was
filled : {T : Type 0} (number : T → ℤ) (numbers : List ℤ) (old new : List T)
    → map number (take (length numbers) new) ≡ numbers
    → drop (length numbers) new ≡ drop (length numbers) old
    → map number new ≡ with_front numbers (map number old)
filled number numbers old new front rest =
    let n = length numbers in
    ap (map number) (sym (take-append-drop n new))
    ∙ map-append number (take n new) (drop n new)
    ∙ ap₂ (λ a b. a ++ b) front (ap (map number) rest ∙ sym (drop-map number n old))

-- what was answered, and the array afterwards, under a format that this version knows
pub read : {T : Type 0} (number : T → ℤ) (fields : FormatFields) (f : Format) (t : IntegerType)
    (s : ℕ) (text : List ℕ) (old new : List T) (answer : Result Column ColumnError)
    → are_known fields ≡ true → f ≡ format_of fields → answer ≡ answer_of f t (length old) s text
    → map number (take (length (numbers_of f t (length old) s text)) new) ≡ numbers_of f t (length old) s text
    → drop (length (numbers_of f t (length old) s text)) new ≡ drop (length (numbers_of f t (length old) s text)) old
    → effect_of_column answer (map number new) ≡ column_call fields t s text (map number old)
read number fields f t s text old new answer known format told front rest =
    let before = map number old in
    let F : Format → ℕ → ColumnEffect =
    λ g room. effect_of_column (answer_of g t room s text)
    (with_front (numbers_of g t room s text) before) in
    ap₂ effect_of_column told (filled number (numbers_of f t (length old) s text) old new front rest)
    ∙ ap₂ F format (sym (length-map old number))
    ∙ ap (λ k. cond k (F (format_of fields) (length before))
    (record { status = unknown_field; place = 0; count = 0; numbers = before })) (sym known)
