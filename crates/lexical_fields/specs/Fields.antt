-- The fields of a text between one separator byte.
use Rattle.std.specs.Prelude.{ℕ, ◌+◌, if◌then◌else◌, ◌==◌, List, [], ◌∷◌}
use Rattle.std.specs.List.{slice_split}
pub use Rattle.lexical_parse_integer.specs.Separated.{field_length}

-- A field: the place in the text at which it starts, and its bytes.
pub record FieldView : Type 0 where
  pub start : ℕ
  pub text : List ℕ

-- a byte at a place, in front of the first field's bytes, or the only byte of a field of its own
abbrev pub onto_field : ℕ → ℕ → List FieldView → List FieldView
onto_field start byte [] = record { start = start; text = byte ∷ [] } ∷ []
onto_field start byte (field ∷ more) = record { start = start; text = byte ∷ field.text } ∷ more

-- The fields of a text that stands at a place. A field is the bytes up to a separator. A last field without one counts;
-- a last separator starts no further field.
abbrev pub fields_from : ℕ → ℕ → List ℕ → List FieldView
fields_from separator start [] = []
fields_from separator start (byte ∷ rest) =
    if byte == separator then record { start = start; text = [] }
    ∷ fields_from separator (start + 1) rest
    else onto_field start byte (fields_from separator (start + 1) rest)

-- the fields of a text
abbrev pub fields : ℕ → List ℕ → List FieldView
fields separator text = fields_from separator 0 text

-- ---- pieces

-- the pieces between the separators
abbrev pub pieces : ℕ → List ℕ → List (List ℕ)
pieces separator text = slice_split (λ byte. byte == separator) text

-- pieces without the last, where that is empty
abbrev pub without_empty_last : List (List ℕ) → List (List ℕ)
without_empty_last [] = []
without_empty_last ([] ∷ []) = []
without_empty_last ((byte ∷ piece) ∷ []) = (byte ∷ piece) ∷ []
without_empty_last (piece ∷ next ∷ more) = piece ∷ without_empty_last (next ∷ more)
