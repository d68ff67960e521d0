-- The fields outside quotes of a text that is cut behind a separator.
use Rattle.std.proofs.Common.{◌≡◌, ◌∙◌, ℕ, zero, suc, ◌+◌, ◌==◌, List, [], ◌∷◌, ◌++◌, take, drop, Bool, true, false, cond, refl, ap, ap₂, sym, subst, arith, inl, inr}
use Rattle.std.specs.List.{list_any}
use Rattle.lexical_fields.specs.Fields.{FieldView, onto_field}
use Rattle.lexical_fields.specs.Parts.{whole_fields}
use Rattle.lexical_fields.proofs.FieldsInParts.{either, whole_here, whole_none, whole_on}
use Rattle.lexical_tables.specs.Quotes.{fields_outside, whole_outside}
use Rattle.lexical_tables.proofs.SeenBytes.{closes, fields_by, found_outside, marks, outside_is, quoting, seen_is, turned}

-- a list with a first element
data IsCons {A : Type 0} : List A → Type 0 where
  is_cons : (x : A) (xs : List A) → IsCons (x ∷ xs)

onto_append : (place byte : ℕ) (fs gs : List FieldView) → IsCons fs
    → onto_field place byte (fs ++ gs) ≡ onto_field place byte fs ++ gs
onto_append place byte (f ∷ fs) gs h = refl
onto_append place byte [] gs h = elim h [ ]

onto_cons : (place byte : ℕ) (fs : List FieldView) → IsCons (onto_field place byte fs)
onto_cons place byte [] = is_cons _ _
onto_cons place byte (f ∷ fs) = is_cons _ _

next_place : (place size : ℕ) → place + 1 + size ≡ place + suc size
next_place place size = omega arith

same_place : (place : ℕ) → place ≡ place + 0
same_place place = omega arith

-- the fields of a text behind a separator outside quotes, or behind another byte
here : (q w : Bool) (s place byte : ℕ) (rest : List ℕ) → (cond w (suc s) byte == s) ≡ true
    → fields_by q w s place (byte ∷ rest)
    ≡ record { start = place; text = [] } ∷ fields_by q (turned q w byte) s (place + 1) rest
here q w s place byte rest e = rw e refl

on : (q w : Bool) (s place byte : ℕ) (rest : List ℕ) → (cond w (suc s) byte == s) ≡ false
    → fields_by q w s place (byte ∷ rest)
    ≡ onto_field place byte (fields_by q (turned q w byte) s (place + 1) rest)
on q w s place byte rest e = rw e refl

by_cons : (q w : Bool) (s place byte : ℕ) (rest : List ℕ) → IsCons (fields_by q w s place (byte ∷ rest))
by_cons q w s place byte rest =
    elim (cond w (suc s) byte == s) as (λ t. IsCons (cond t
    (record { start = place; text = [] } ∷ fields_by q (turned q w byte) s (place + 1) rest)
    (onto_field place byte (fields_by q (turned q w byte) s (place + 1) rest)))) [
      | true ↦ is_cons _ _
      | false ↦ onto_cons place byte (fields_by q (turned q w byte) s (place + 1) rest)
    ]

-- how much of a text has whole fields, if it stands within quotes or not
abbrev whole : Bool → Bool → ℕ → List ℕ → ℕ
whole q w s text = whole_fields s (marks q w s text)

whole_cons : (q w : Bool) (s place : ℕ) (text : List ℕ) → list_any (λ byte. byte == s) (marks q w s text) ≡ true
    → IsCons (fields_by q w s place (take (whole q w s text) text))
whole_cons q w s place [] h = cc
whole_cons q w s place (byte ∷ rest) h =
    rw h (by_cons q w s place byte (take (whole q (turned q w byte) s rest) rest))

-- Whether quotes are open behind the first n bytes, which are whole fields: not behind a separator,
-- so only where n is 0 and they were open before.
abbrev left_open : ℕ → Bool → Bool
left_open zero w = w
left_open (suc n) w = false

left_closed : (n : ℕ) → left_open n false ≡ false
left_closed zero = refl
left_closed (suc n) = refl

left_closed_behind : (q w : Bool) (s : ℕ) (text : List ℕ) → list_any (λ byte. byte == s) (marks q w s text) ≡ true
    → left_open (whole q w s text) w ≡ false
left_closed_behind q w s [] h = cc
left_closed_behind q w s (byte ∷ rest) h = rw h refl

abbrev SplitsAt : Bool → Bool → ℕ → ℕ → List ℕ → List ℕ → ℕ → Bool → Type 0
SplitsAt q w s place text more size opened = fields_by q w s place (text ++ more)
    ≡ fields_by q w s place (take size text) ++ fields_by q opened s (place + size) (drop size text ++ more)

split : (q w : Bool) (s place : ℕ) (text more : List ℕ) → turned q false s ≡ false
    → SplitsAt q w s place text more (whole q w s text) (left_open (whole q w s text) w)
split q w s place [] more none = ap (λ p. fields_by q w s p more) (same_place place)
split q w s place (byte ∷ rest) more none =
    let mark = cond w (suc s) byte in
    let turn = turned q w byte in
    let size = whole q turn s rest in
    let P : ℕ → Type 0 = λ n. SplitsAt q w s place (byte ∷ rest) more n (left_open n w) in
    let behind = fields_by q false s (place + suc size) (drop size rest ++ more) in
    let front = fields_by q turn s (place + 1) (take size rest) in
    let there : left_open size turn ≡ false → fields_by q turn s (place + 1) (rest ++ more) ≡ front ++ behind =
    λ closed. split q turn s (place + 1) rest more none
    ∙ ap (λ opened. front ++ fields_by q opened s (place + 1 + size) (drop size rest ++ more)) closed
    ∙ ap (λ p. front ++ fields_by q false s p (drop size rest ++ more)) (next_place place size) in
    elim (either (mark == s)) as (λ _. P (whole q w s (byte ∷ rest))) [
      | inl e ↦ subst P (sym (whole_here s mark (marks q turn s rest) e))
          (here q w s place byte (rest ++ more) e
          ∙ ap (λ fs. record { start = place; text = [] } ∷ fs)
          (there (ap (λ opened. left_open size opened) (found_outside q w s byte e none) ∙ left_closed size))
          ∙ ap (λ fs. fs ++ behind) (sym (here q w s place byte (take size rest) e)))
      | inr e ↦ elim (either (list_any (λ b. b == s) (marks q turn s rest)))
          as (λ _. P (whole q w s (byte ∷ rest))) [
            | inl a ↦ subst P (sym (whole_on s mark (marks q turn s rest) e a))
                (on q w s place byte (rest ++ more) e
                ∙ ap (λ fs. onto_field place byte fs) (there (left_closed_behind q turn s rest a))
                ∙ onto_append place byte front behind (whole_cons q turn s (place + 1) rest a)
                ∙ ap (λ fs. fs ++ behind) (sym (on q w s place byte (take size rest) e)))
            | inr a ↦ subst P (sym (whole_none s mark (marks q turn s rest) e a))
                (ap (λ p. fields_by q w s p (byte ∷ rest ++ more)) (same_place place))
          ]
    ]

-- The fields of a text and more are those of its first bytes that are whole fields, and then those
-- of all that is left.
pub split_outside : (q : Bool) (s place : ℕ) (text more : List ℕ)
    → fields_outside q s place (text ++ more) ≡ fields_outside q s place (take (whole_outside q s text) text)
    ++ fields_outside q s (place + whole_outside q s text) (drop (whole_outside q s text) text ++ more)
split_outside q s place text more =
    let k = quoting q s in
    let size = whole k false s text in
    let Q : ℕ → Type 0 = λ n. fields_outside q s place (text ++ more)
    ≡ fields_outside q s place (take n text) ++ fields_outside q s (place + n) (drop n text ++ more) in
    subst Q (sym (ap (whole_fields s) (seen_is q s text)))
    (outside_is q s place (text ++ more)
    ∙ split k false s place text more (closes q s)
    ∙ ap (λ opened. fields_by k false s place (take size text)
    ++ fields_by k opened s (place + size) (drop size text ++ more)) (left_closed size)
    ∙ ap₂ (λ a b. a ++ b) (sym (outside_is q s place (take size text)))
    (sym (outside_is q s (place + size) (drop size text ++ more))))
