-- Texts that come in parts, as from a file that is read in blocks.
use Rattle.std.specs.Prelude.{◌≡◌, ◌==◌, ◌+◌, ℕ, suc, Bool, if◌then◌else◌, List, [], ◌∷◌, ◌++◌, take, drop, map, ℤ, None, Result}
use Rattle.std.specs.List.{concat, list_any}
use Rattle.lexical_util.specs.declared.error.Error.{Error}
use Rattle.lexical_util.specs.Format.{Format}
use Rattle.lexical_util.specs.Number.{IntegerType}
use Rattle.lexical_util.specs.Validity.{fault}
use Rattle.lexical_fields.specs.Fields.{fields}
use Rattle.lexical_fields.specs.Places.{in_text}
use Rattle.lexical_fields.specs.ReadFields.{field_answer}

-- how many bytes of a text are whole fields: those up to its last separator, that one counted
abbrev pub whole_fields : ℕ → List ℕ → ℕ
whole_fields separator [] = 0
whole_fields separator (byte ∷ rest) =
    if list_any (λ it. it == separator) (byte ∷ rest) then suc (whole_fields separator rest) else 0

-- what is read of a part: its whole fields, and all of the last part
abbrev pub readable : Bool → ℕ → List ℕ → List ℕ
readable is_last separator text =
    if is_last then text else take (whole_fields separator text) text

-- what the fields of a text stand for, places counted from its start
abbrev pub answers_in : Format → IntegerType → ℕ → List ℕ → List (Result ℤ Error)
answers_in format type separator text = map (field_answer format type) (fields separator text)

-- What is read of parts, each behind what is left of those before it: the answers in its whole fields, with the place at
-- which it starts added to theirs. What is left of the last one is read at the end.
abbrev pub answers_of_parts : Format → IntegerType → ℕ → ℕ → List ℕ → List (List ℕ)
    → List (Result ℤ Error)
answers_of_parts format type separator place left [] =
    map (in_text place) (answers_in format type separator left)
answers_of_parts format type separator place left (part ∷ more) =
    let size = whole_fields separator (left ++ part) in
    map (in_text place) (answers_in format type separator (take size (left ++ part)))
    ++ answers_of_parts format type separator (place + size) (drop size (left ++ part)) more

-- Wherever a text is cut into parts, they give the answers in the whole text under a valid format.
abbrev pub ReadsInParts : Type 0
ReadsInParts = (format : Format) (type : IntegerType) (separator : ℕ) (parts : List (List ℕ))
    → fault format ≡ None → answers_of_parts format type separator 0 [] parts
    ≡ answers_in format type separator (concat parts)
