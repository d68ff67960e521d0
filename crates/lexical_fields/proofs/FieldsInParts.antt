-- The fields of a text that is cut behind a separator, and so of one that comes in parts.
use Rattle.std.proofs.Common.{◌≡◌, ℕ, suc, ◌+◌, ◌==◌, List, [], ◌∷◌, ◌++◌, take, drop, map, ℤ, None, Result, Bool, true, false, cond, refl, ap, sym, subst, ◌∙◌, ◌⊎◌, inl, inr, arith}
use Rattle.std.specs.List.{concat, list_any}
use Rattle.std.proofs.lemmas.List.{append_assoc, append-nil, map-append}
use Rattle.std.proofs.lemmas.Simd.{map-map}
use Rattle.lexical_util.specs.declared.error.Error.{Error}
use Rattle.lexical_util.specs.Format.{Format}
use Rattle.lexical_util.specs.Number.{IntegerType}
use Rattle.lexical_util.specs.Validity.{fault}
use Rattle.lexical_fields.specs.Fields.{FieldView, fields_from, onto_field}
use Rattle.lexical_fields.specs.Parts.{ReadsInParts, answers_in, answers_of_parts, whole_fields}
use Rattle.lexical_fields.specs.Places.{in_text}
use Rattle.lexical_fields.specs.ReadFields.{field_answer}
use Rattle.lexical_fields.proofs.MovedFields.{answer_moved, fields_moved, map_same, moved}

-- a list with a first element
data IsCons {A : Type 0} : List A → Type 0 where
  is_cons : (x : A) (xs : List A) → IsCons (x ∷ xs)

onto_append : (place byte : ℕ) (fs gs : List FieldView) → IsCons fs
    → onto_field place byte (fs ++ gs) ≡ onto_field place byte fs ++ gs
onto_append place byte (f ∷ fs) gs h = refl
onto_append place byte [] gs h = elim h [ ]

onto_cons : (place byte : ℕ) (fs : List FieldView) → IsCons (onto_field place byte fs)
onto_cons place byte [] = is_cons _ _
onto_cons place byte (f ∷ fs) = is_cons _ _

fields_cons : (separator place byte : ℕ) (rest : List ℕ) → IsCons (fields_from separator place (byte ∷ rest))
fields_cons separator place byte rest =
    elim (byte == separator) as (λ t. IsCons (cond t
    (record { start = place; text = [] } ∷ fields_from separator (place + 1) rest)
    (onto_field place byte (fields_from separator (place + 1) rest)))) [
      | true ↦ is_cons _ _
      | false ↦ onto_cons place byte (fields_from separator (place + 1) rest)
    ]

-- where a separator stands in a text, its whole fields are some
whole_cons : (separator place : ℕ) (text : List ℕ) → list_any (λ byte. byte == separator) text ≡ true
    → IsCons (fields_from separator place (take (whole_fields separator text) text))
whole_cons separator place [] h = cc
whole_cons separator place (byte ∷ rest) h =
    rw h (fields_cons separator place byte (take (whole_fields separator rest) rest))

-- a test says one or the other
pub either : (b : Bool) → (b ≡ true) ⊎ (b ≡ false)
either true = inl refl
either false = inr refl

next_place : (place size : ℕ) → place + 1 + size ≡ place + suc size
next_place place size = omega arith

same_place : (place : ℕ) → place ≡ place + 0
same_place place = omega arith

-- the fields of a text behind a separator, or behind another byte
pub here : (separator place byte : ℕ) (rest : List ℕ) → (byte == separator) ≡ true
    → fields_from separator place (byte ∷ rest)
    ≡ record { start = place; text = [] } ∷ fields_from separator (place + 1) rest
here separator place byte rest e = rw e refl

pub on : (separator place byte : ℕ) (rest : List ℕ) → (byte == separator) ≡ false
    → fields_from separator place (byte ∷ rest)
    ≡ onto_field place byte (fields_from separator (place + 1) rest)
on separator place byte rest e = rw e refl

-- the whole fields behind a separator, or behind another byte where a separator follows or none
pub whole_here : (separator byte : ℕ) (rest : List ℕ) → (byte == separator) ≡ true
    → whole_fields separator (byte ∷ rest) ≡ suc (whole_fields separator rest)
whole_here separator byte rest e = rw e refl

pub whole_on : (separator byte : ℕ) (rest : List ℕ) → (byte == separator) ≡ false
    → list_any (λ b. b == separator) rest ≡ true
    → whole_fields separator (byte ∷ rest) ≡ suc (whole_fields separator rest)
whole_on separator byte rest e a = rw (e, a) refl

pub whole_none : (separator byte : ℕ) (rest : List ℕ) → (byte == separator) ≡ false
    → list_any (λ b. b == separator) rest ≡ false → whole_fields separator (byte ∷ rest) ≡ 0
whole_none separator byte rest e a = rw (e, a) refl

-- the fields of `text` and `more` are those of the first `size` bytes of `text`, and then those of
-- all the rest
abbrev pub SplitsAt : ℕ → ℕ → List ℕ → List ℕ → ℕ → Type 0
SplitsAt separator place text more size = fields_from separator place (text ++ more)
    ≡ fields_from separator place (take size text)
    ++ fields_from separator (place + size) (drop size text ++ more)

pub split : (separator place : ℕ) (text more : List ℕ)
    → SplitsAt separator place text more (whole_fields separator text)
split separator place [] more = ap (λ p. fields_from separator p more) (same_place place)
split separator place (byte ∷ rest) more =
    let size = whole_fields separator rest in
    let P : ℕ → Type 0 = λ n. SplitsAt separator place (byte ∷ rest) more n in
    let behind = fields_from separator (place + suc size) (drop size rest ++ more) in
    let front = fields_from separator (place + 1) (take size rest) in
    let there : fields_from separator (place + 1) (rest ++ more) ≡ front ++ behind =
    split separator (place + 1) rest more
    ∙ ap (λ p. front ++ fields_from separator p (drop size rest ++ more)) (next_place place size) in
    elim (either (byte == separator)) as (λ _. P (whole_fields separator (byte ∷ rest))) [
      | inl e ↦ subst P (sym (whole_here separator byte rest e))
          (here separator place byte (rest ++ more) e
          ∙ ap (λ fs. record { start = place; text = [] } ∷ fs) there
          ∙ ap (λ fs. fs ++ behind) (sym (here separator place byte (take size rest) e)))
      | inr e ↦ elim (either (list_any (λ b. b == separator) rest))
          as (λ _. P (whole_fields separator (byte ∷ rest))) [
            | inl a ↦ subst P (sym (whole_on separator byte rest e a))
                (on separator place byte (rest ++ more) e ∙ ap (λ fs. onto_field place byte fs) there
                ∙ onto_append place byte front behind (whole_cons separator (place + 1) rest a)
                ∙ ap (λ fs. fs ++ behind) (sym (on separator place byte (take size rest) e)))
            | inr a ↦ subst P (sym (whole_none separator byte rest e a))
                (ap (λ p. fields_from separator p (byte ∷ rest ++ more)) (same_place place))
          ]
    ]

-- ---- what they stand for

-- what the fields of a text that stands at a place stand for
abbrev answers_from : Format → IntegerType → ℕ → ℕ → List ℕ → List (Result ℤ Error)
answers_from format type separator place text =
    map (field_answer format type) (fields_from separator place text)

answers_split : (format : Format) (type : IntegerType) (separator place : ℕ) (text more : List ℕ)
    → answers_from format type separator place (text ++ more)
    ≡ answers_from format type separator place (take (whole_fields separator text) text)
    ++ answers_from format type separator (place + whole_fields separator text)
    (drop (whole_fields separator text) text ++ more)
answers_split format type separator place text more =
    let size = whole_fields separator text in
    ap (λ fs. map (field_answer format type) fs) (split separator place text more)
    ∙ map-append (field_answer format type) (fields_from separator place (take size text))
    (fields_from separator (place + size) (drop size text ++ more))

-- the answers in a text that stands at a place are those in the text, with the place added to theirs
answers_moved : (format : Format) (type : IntegerType) (separator place : ℕ) → fault format ≡ None → (text : List ℕ)
    → map (in_text place) (answers_in format type separator text) ≡ answers_from format type separator place text
answers_moved format type separator place valid text =
    let fs = fields_from separator 0 text in
    map-map (in_text place) (field_answer format type) fs
    ∙ map_same (λ f. in_text place (field_answer format type f)) (λ f. field_answer format type (moved place f))
    (answer_moved format type place valid) fs
    ∙ sym (map-map (field_answer format type) (moved place) fs)
    ∙ ap (map (field_answer format type)) (fields_moved separator place 0 text)
    ∙ ap (λ p. answers_from format type separator p text) (sym (same_place place))

-- the answers of parts, with the bytes that those before them left, are those of all these bytes
parts_behind : (format : Format) (type : IntegerType) (separator place : ℕ) → fault format ≡ None
    → (left : List ℕ) (parts : List (List ℕ)) → answers_of_parts format type separator place left parts
    ≡ answers_from format type separator place (left ++ concat parts)
parts_behind format type separator place valid left [] =
    answers_moved format type separator place valid left
    ∙ ap (λ text. answers_from format type separator place text) (sym (append-nil left))
parts_behind format type separator place valid left (part ∷ more) =
    let text = left ++ part in
    let size = whole_fields separator text in
    let behind = answers_of_parts format type separator (place + size) (drop size text) more in
    ap (λ front. front ++ behind) (answers_moved format type separator place valid (take size text))
    ∙ ap (λ it. answers_from format type separator place (take size text) ++ it)
    (parts_behind format type separator (place + size) valid (drop size text) more)
    ∙ sym (answers_split format type separator place text (concat more))
    ∙ ap (λ it. answers_from format type separator place it) (append_assoc left part (concat more))

pub reads_in_parts : ReadsInParts
reads_in_parts format type separator parts valid = parts_behind format type separator 0 valid [] parts
