-- The bytes of a text as a search outside quotes sees them, one after another.
use Rattle.std.proofs.Common.{◌≡◌, ◌∙◌, ℕ, zero, suc, ◌+◌, ◌%◌, ◌==◌, ◌&&◌, ◌<◌, not, List, [], ◌∷◌, ◌++◌, length, take, drop, map, Bool, true, false, cond, count_by, refl, ap, ap₂, sym, subst, arith}
use Rattle.std.specs.List.{range_with_len}
use Rattle.std.proofs.lemmas.Bool.{eqb-true}
use Rattle.std.proofs.lemmas.List.{append_assoc, length-append}
use Rattle.std.proofs.Math.Nat.{mod-lt, suc-mod}
use Rattle.std.proofs.lemmas.List.Sums.{sum_by-append}
use Rattle.std.proofs.Math.Seq.{get_or-append_seam, take-append_seam}
use Rattle.lexical_fields.specs.Fields.{FieldView, field_length, fields_from, onto_field}
use Rattle.lexical_tables.specs.Quotes.{as_long_as, fields_outside, has_odd_quotes, hidden, length_outside, quote, seen, seen_at}

-- whether what is behind a byte stands within quotes, if they have a meaning
abbrev pub turned : Bool → Bool → ℕ → Bool
turned quoting within byte = cond (quoting && (byte == quote)) (not within) within

-- the bytes as the search sees them, where the first stands within quotes or doesn't
abbrev pub marks : Bool → Bool → ℕ → List ℕ → List ℕ
marks quoting within sought [] = []
marks quoting within sought (byte ∷ rest) =
    cond within (suc sought) byte ∷ marks quoting (turned quoting within byte) sought rest

-- ---- by the number of quotes before

next_rest : (r : ℕ) → r < 2 → (suc r % 2 == 1) ≡ not (r == 1)
next_rest zero h = refl
next_rest (suc zero) h = refl
next_rest (suc (suc r)) h = absurd (no_more r h)
  where
    no_more : (r : ℕ) → suc (suc r) < 2 → ⊥
    no_more r h = omega arith

next_odd : (n : ℕ) → (suc n % 2 == 1) ≡ not (n % 2 == 1)
next_odd n = ap (λ r. r == 1) (suc-mod n 2) ∙ next_rest (n % 2) (mod-lt n {m = 2} (omega arith))

pub odd_by : (count : ℕ) (t : Bool) → ((count + (0 + cond t 1 0)) % 2 == 1) ≡ cond t (not (count % 2 == 1)) (count % 2 == 1)
odd_by count true = ap (λ n. n % 2 == 1) (more count) ∙ next_odd count
  where
    more : (n : ℕ) → n + (0 + 1) ≡ suc n
    more n = omega arith
odd_by count false = ap (λ n. n % 2 == 1) (same count)
  where
    same : (n : ℕ) → n + (0 + 0) ≡ n
    same n = omega arith

pub odd_behind : (before : List ℕ) (byte : ℕ)
    → has_odd_quotes (before ++ byte ∷ []) ≡ turned true (has_odd_quotes before) byte
odd_behind before byte =
    ap (λ n. n % 2 == 1) (sum_by-append (λ b. cond (b == quote) 1 0) before (byte ∷ []))
    ∙ odd_by (count_by (λ b. b == quote) before) (byte == quote)

-- the byte behind some
seen_first : (sought : ℕ) (before : List ℕ) (byte : ℕ) (rest : List ℕ)
    → seen_at sought (before ++ byte ∷ rest) (length before) ≡ cond (has_odd_quotes before) (suc sought) byte
seen_first sought before byte rest =
    ap₂ (λ value text. cond (has_odd_quotes text) (suc sought) value)
    (get_or-append_seam before byte rest 0) (take-append_seam before (byte ∷ rest))

pub hidden_from : (sought : ℕ) (before text : List ℕ)
    → map (seen_at sought (before ++ text)) (range_with_len (length before) (length text))
    ≡ marks true (has_odd_quotes before) sought text
hidden_from sought before [] = refl
hidden_from sought before (byte ∷ rest) =
    let longer = before ++ byte ∷ [] in
    let P : List ℕ → ℕ → Type 0 = λ text n. map (seen_at sought text) (range_with_len n (length rest))
    ≡ marks true (has_odd_quotes longer) sought rest in
    let behind : P (before ++ byte ∷ rest) (length before + 1) =
    subst (λ text. P text (length before + 1)) (append_assoc before (byte ∷ []) rest)
    (subst (λ n. P (longer ++ rest) n) (length-append before (byte ∷ [])) (hidden_from sought longer rest)) in
    ap₂ (λ b bs. b ∷ bs) (seen_first sought before byte rest)
    (behind ∙ ap (λ within. marks true within sought rest) (odd_behind before byte))

plain_marks : (sought : ℕ) (text : List ℕ) → text ≡ marks false false sought text
plain_marks sought [] = refl
plain_marks sought (byte ∷ rest) = ap (λ l. byte ∷ l) (plain_marks sought rest)

-- whether quotes have a meaning to the search
abbrev pub quoting : Bool → ℕ → Bool
quoting q sought = q && not (sought == quote)

pub seen_is : (q : Bool) (sought : ℕ) (text : List ℕ) → seen q sought text ≡ marks (quoting q sought) false sought text
seen_is q sought text = by_test (quoting q sought)
  where
    by_test : (t : Bool) → cond t (hidden sought text) text ≡ marks t false sought text
    by_test true = hidden_from sought [] text
    by_test false = plain_marks sought text

-- ---- what is sought turns nothing

pub closes : (q : Bool) (sought : ℕ) → turned (quoting q sought) false sought ≡ false
closes q sought = by_test q (sought == quote)
  where
    by_test : (q t : Bool) → cond ((q && not t) && t) true false ≡ false
    by_test true true = refl
    by_test true false = refl
    by_test false true = refl
    by_test false false = refl

-- another byte is none that is sought
other : (sought : ℕ) → (suc sought == sought) ≡ true → ⊥
other sought same =
    let e : suc sought ≡ sought = eqb-true (suc sought) sought same in
    omega (arith, e)

-- a byte that the search sees as the one that is sought stands outside quotes, and so does what is behind it
pub found_outside : (q w : Bool) (sought byte : ℕ) → (cond w (suc sought) byte == sought) ≡ true
    → turned q false sought ≡ false → turned q w byte ≡ false
found_outside q true sought byte same none = absurd (other sought same)
found_outside q false sought byte same none =
    ap (λ b. turned q false b) (eqb-true byte sought same) ∙ none

-- ---- fronts and what is behind them

pub marks_long : (q w : Bool) (sought : ℕ) (text : List ℕ) → length (marks q w sought text) ≡ length text
marks_long q w sought [] = refl
marks_long q w sought (byte ∷ rest) = ap suc (marks_long q (turned q w byte) sought rest)

pub marks_take : (q w : Bool) (sought n : ℕ) (text : List ℕ)
    → marks q w sought (take n text) ≡ take n (marks q w sought text)
marks_take q w sought zero text = refl
marks_take q w sought (suc n) [] = refl
marks_take q w sought (suc n) (byte ∷ rest) =
    ap (λ l. cond w (suc sought) byte ∷ l) (marks_take q (turned q w byte) sought n rest)

-- behind the first byte that is sought, the search sees what is left as a text of its own
pub marks_behind : (q w : Bool) (sought : ℕ) (text : List ℕ) → turned q false sought ≡ false
    → drop (field_length sought (marks q w sought text) + 1) (marks q w sought text)
    ≡ marks q false sought (drop (field_length sought (marks q w sought text) + 1) text)
marks_behind q w sought [] none = refl
marks_behind q w sought (byte ∷ rest) none =
    let m = field_length sought (marks q (turned q w byte) sought rest) in
    by_test (cond w (suc sought) byte == sought) refl (marks_behind q (turned q w byte) sought rest none)
  where
    m : ℕ
    m = field_length sought (marks q (turned q w byte) sought rest)

    one : (k : ℕ) → 1 + k + 1 ≡ suc (k + 1)
    one k = omega arith

    none_one : 0 + 1 ≡ suc 0
    none_one = omega arith

    by_test : (t : Bool) → (cond w (suc sought) byte == sought) ≡ t
        → drop (m + 1) (marks q (turned q w byte) sought rest) ≡ marks q false sought (drop (m + 1) rest)
        → drop (cond (not t) (1 + m) 0 + 1) (cond w (suc sought) byte ∷ marks q (turned q w byte) sought rest)
        ≡ marks q false sought (drop (cond (not t) (1 + m) 0 + 1) (byte ∷ rest))
    by_test true is there =
        ap (λ k. drop k (cond w (suc sought) byte ∷ marks q (turned q w byte) sought rest)) none_one
        ∙ ap (λ v. marks q v sought rest) (found_outside q w sought byte is none)
        ∙ ap (λ k. marks q false sought (drop k (byte ∷ rest))) (sym none_one)
    by_test false is there =
        ap (λ k. drop k (cond w (suc sought) byte ∷ marks q (turned q w byte) sought rest)) (one m)
        ∙ there ∙ ap (λ k. marks q false sought (drop k (byte ∷ rest))) (sym (one m))

-- what the search sees of a text
pub seen_long : (q : Bool) (sought : ℕ) (text : List ℕ) → length (seen q sought text) ≡ length text
seen_long q sought text = ap length (seen_is q sought text) ∙ marks_long (quoting q sought) false sought text

pub seen_take : (q : Bool) (sought n : ℕ) (text : List ℕ) → seen q sought (take n text) ≡ take n (seen q sought text)
seen_take q sought n text =
    seen_is q sought (take n text) ∙ marks_take (quoting q sought) false sought n text
    ∙ ap (take n) (sym (seen_is q sought text))

pub seen_behind : (q : Bool) (sought : ℕ) (text : List ℕ)
    → drop (length_outside q sought text + 1) (seen q sought text)
    ≡ seen q sought (drop (length_outside q sought text + 1) text)
seen_behind q sought text =
    let P : List ℕ → Type 0 = λ l. drop (field_length sought l + 1) l ≡ marks (quoting q sought) false sought
    (drop (field_length sought l + 1) text) in
    subst P (sym (seen_is q sought text)) (marks_behind (quoting q sought) false sought text (closes q sought))
    ∙ sym (seen_is q sought (drop (length_outside q sought text + 1) text))

-- ---- fields

-- the fields outside quotes, one byte after another
abbrev pub fields_by : Bool → Bool → ℕ → ℕ → List ℕ → List FieldView
fields_by q w sought place [] = []
fields_by q w sought place (byte ∷ rest) =
    cond (cond w (suc sought) byte == sought)
    (record { start = place; text = [] } ∷ fields_by q (turned q w byte) sought (place + 1) rest)
    (onto_field place byte (fields_by q (turned q w byte) sought (place + 1) rest))

onto_long : (place mark byte : ℕ) (fields : List FieldView) (rest : List ℕ)
    → as_long_as (onto_field place mark fields) (byte ∷ rest) ≡ onto_field place byte (as_long_as fields rest)
onto_long place mark byte [] rest = refl
onto_long place mark byte (field ∷ more) rest =
    ap (λ k. record { start = place; text = byte ∷ take (length field.text) rest }
    ∷ as_long_as more (drop k (byte ∷ rest))) (next (length field.text))
  where
    next : (n : ℕ) → suc n + 1 ≡ suc (n + 1)
    next n = omega arith

pub long_marks : (q w : Bool) (sought place : ℕ) (text : List ℕ)
    → as_long_as (fields_from sought place (marks q w sought text)) text ≡ fields_by q w sought place text
long_marks q w sought place [] = refl
long_marks q w sought place (byte ∷ rest) =
    by_test (cond w (suc sought) byte == sought) (long_marks q (turned q w byte) sought (place + 1) rest)
  where
    behind : List FieldView
    behind = fields_from sought (place + 1) (marks q (turned q w byte) sought rest)

    by_test : (t : Bool) → as_long_as behind rest ≡ fields_by q (turned q w byte) sought (place + 1) rest
        → as_long_as (cond t (record { start = place; text = [] } ∷ behind)
        (onto_field place (cond w (suc sought) byte) behind)) (byte ∷ rest)
        ≡ cond t (record { start = place; text = [] } ∷ fields_by q (turned q w byte) sought (place + 1) rest)
        (onto_field place byte (fields_by q (turned q w byte) sought (place + 1) rest))
    by_test true there = ap (λ l. record { start = place; text = [] } ∷ l) there
    by_test false there =
        onto_long place (cond w (suc sought) byte) byte behind rest ∙ ap (onto_field place byte) there

pub outside_is : (q : Bool) (sought place : ℕ) (text : List ℕ)
    → fields_outside q sought place text ≡ fields_by (quoting q sought) false sought place text
outside_is q sought place text =
    ap (λ l. as_long_as (fields_from sought place l) text) (seen_is q sought text)
    ∙ long_marks (quoting q sought) false sought place text
