-- A text whose doubled quotes are folded, byte by byte.
use Rattle.std.proofs.Common.{◌≡◌, ◌∙◌, ℕ, zero, suc, ◌+◌, ◌-◌, ◌%◌, ◌<◌, ◌≤◌, ◌==◌, ◌&&◌, List, [], ◌∷◌, ◌++◌, length, take, drop, set, map, filter, get_or, Bool, true, false, not, cond, ◌⊎◌, inl, inr, refl, ap, ap₂, sym, subst, arith, length-append}
use Rattle.std.specs.List.{range_with_len, suffix_len}
use Rattle.std.proofs.lemmas.List.{append-nil, append_assoc, drop_more, map-append, set-append_right}
use Rattle.std.proofs.lemmas.List.Elements.{filter-append}
use Rattle.std.proofs.lemmas.List.Sums.{suffix_len-take_no, suffix_len-take_yes}
use Rattle.lexical_tables.specs.Folded.{folded, is_second, quotes_in_front}
use Rattle.lexical_tables.specs.Quotes.{quote}
use Rattle.lexical_tables.proofs.SeenBytes.{odd_by}

-- whether an odd number of quotes stands directly in front of a place
abbrev pub is_odd_at : List ℕ → ℕ → Bool
is_odd_at text place = quotes_in_front text place % 2 == 1

-- behind one more byte
odd_behind_byte : (text : List ℕ) (place : ℕ) → place < length text
    → is_odd_at text (place + 1) ≡ ((get_or text place 0 == quote) && not (is_odd_at text place))
odd_behind_byte text place more = by_byte (get_or text place 0 == quote) refl
  where
    at : get_or text (place + 1 - 1) 0 ≡ get_or text place 0
    at = let one : place + 1 - 1 ≡ place = omega arith in ap (λ k. get_or text k 0) one

    before : suffix_len (λ byte. byte == quote) (take (place + 1 - 1) text) ≡ quotes_in_front text place
    before = let one : place + 1 - 1 ≡ place = omega arith in ap (quotes_in_front text) one

    by_byte : (is_quote : Bool) → (get_or text place 0 == quote) ≡ is_quote
        → is_odd_at text (place + 1) ≡ (is_quote && not (is_odd_at text place))
    by_byte false is =
        ap (λ n. n % 2 == 1)
        (suffix_len-take_no (λ byte. byte == quote) text (place + 1) 0 (omega arith) (omega arith)
        (ap (λ byte. byte == quote) at ∙ is))
    by_byte true is =
        let count = quotes_in_front text place in
        let more_by_one : 1 + count ≡ count + (0 + cond true 1 0) = omega arith in
        ap (λ n. n % 2 == 1)
        (suffix_len-take_yes (λ byte. byte == quote) text (place + 1) 0 (omega arith) (omega arith)
        (ap (λ byte. byte == quote) at ∙ is) ∙ ap (λ n. 1 + n) before ∙ more_by_one)
        ∙ odd_by count true

-- what the bytes in front of a place are, folded
abbrev pub folded_to : List ℕ → ℕ → List ℕ
folded_to text place =
    map (λ k. get_or text k 0) (filter (λ k. not (is_second text k)) (range_with_len 0 place))

pub folded_is : (text : List ℕ) → folded text ≡ folded_to text (length text)
unfolding folded
folded_is text = refl

counted_on : (a n : ℕ) → range_with_len a (suc n) ≡ range_with_len a n ++ (a + n) ∷ []
counted_on a zero = let same : a ≡ a + 0 = omega arith in ap (λ k. k ∷ []) same
counted_on a (suc n) =
    let same : a + 1 + n ≡ a + suc n = omega arith in
    ap (λ l. a ∷ l) (counted_on (a + 1) n ∙ ap (λ k. range_with_len (a + 1) n ++ k ∷ []) same)

-- behind one more byte
folded_next : (text : List ℕ) (place : ℕ)
    → folded_to text (place + 1) ≡ folded_to text place ++ cond (is_second text place) [] (get_or text place 0 ∷ [])
folded_next text place =
    let one : place + 1 ≡ suc place = omega arith in
    let none : 0 + place ≡ place = omega arith in
    let kept = (λ (k : ℕ). not (is_second text k)) in
    let byte = (λ (k : ℕ). get_or text k 0) in
    ap (λ l. map byte (filter kept l))
    (ap (range_with_len 0) one ∙ counted_on 0 place ∙ ap (λ k. range_with_len 0 place ++ k ∷ []) none)
    ∙ ap (map byte) (filter-append kept (range_with_len 0 place) (place ∷ []))
    ∙ map-append byte (filter kept (range_with_len 0 place)) (filter kept (place ∷ []))
    ∙ ap (λ l. folded_to text place ++ l) (by_test (is_second text place))
  where
    by_test : (t : Bool) → map (λ k. get_or text k 0) (cond (not t) (place ∷ []) []) ≡ cond t [] (get_or text place 0 ∷ [])
    by_test true = refl
    by_test false = refl

-- behind more bytes there are no fewer
folded_grows : (text : List ℕ) (more place : ℕ) → length (folded_to text place) ≤ length (folded_to text (place + more))
folded_grows text zero place = let same : place ≡ place + 0 = omega arith in omega (arith, ap (λ k. length (folded_to text k)) same)
folded_grows text (suc more) place =
    let on : place + suc more ≡ place + more + 1 = omega arith in
    let last = cond (is_second text (place + more)) [] (get_or text (place + more) 0 ∷ []) in
    omega (
      arith,
      folded_grows text more place,
      ap (λ k. length (folded_to text k)) on ∙ ap length (folded_next text (place + more))
          ∙ length-append (folded_to text (place + more)) last,
    )

short_to : (text : List ℕ) (place : ℕ) → length (folded_to text place) ≤ place
short_to text zero = omega arith
short_to text (suc place) =
    let one : suc place ≡ place + 1 = omega arith in
    let last = cond (is_second text place) [] (get_or text place 0 ∷ []) in
    omega (
      arith,
      short_to text place,
      at_most_one (is_second text place),
      ap (λ k. length (folded_to text k)) one ∙ ap length (folded_next text place) ∙ length-append (folded_to text place) last,
    )
  where
    at_most_one : (t : Bool) → length (cond t [] (get_or text place 0 ∷ [])) ≤ 1
    at_most_one true = omega arith
    at_most_one false = omega arith

-- a text has no fewer bytes
pub folded_short : (text : List ℕ) → length (folded text) ≤ length text
folded_short text = omega (arith, short_to text (length text), ap length (folded_is text))

-- ---- the loops

-- The first `place` bytes were read, and folded, they are `size` bytes.
pub record IsFolded (text : List ℕ) (place size : ℕ) (odd : Bool) : Type 0 where
  pub low : place ≤ length text
  pub few : size ≤ place
  pub size_is : size ≡ length (folded_to text place)
  pub odd_is : odd ≡ is_odd_at text place

pub fold_starts : (text : List ℕ) → IsFolded text 0 0 false
fold_starts text = record { low = omega arith; few = omega arith; size_is = refl; odd_is = refl }

module _ (text : List ℕ) (place size : ℕ) (odd : Bool) (reading : IsFolded text place size odd) (more : place < length text)
  where
    -- whether the next byte is a quote
    abbrev is_quote : Bool
    is_quote = get_or text place 0 == quote

    second_is : is_second text place ≡ (is_quote && odd)
    second_is = ap (λ t. is_quote && t) (sym reading.odd_is)

    last_byte : (t : Bool) → (is_quote && odd) ≡ t
        → folded_to text (place + 1) ≡ folded_to text place ++ cond t [] (get_or text place 0 ∷ [])
    last_byte t is =
        folded_next text place
        ∙ ap (λ t. folded_to text place ++ cond t [] (get_or text place 0 ∷ [])) (second_is ∙ is)

    odd_goes : (is_quote && not odd) ≡ is_odd_at text (place + 1)
    odd_goes = ap (λ t. is_quote && not t) reading.odd_is ∙ sym (odd_behind_byte text place more)

    -- the second one of a doubled quote is left out
    pub fold_passes : (is_quote && odd) ≡ true → IsFolded text (place + 1) size (is_quote && not odd)
    fold_passes is = record {
      low = omega (arith, more);
      few = omega (arith, reading.few);
      size_is =
          omega (arith, reading.size_is, ap length (last_byte true is), length-append (folded_to text place) []);
      odd_is = odd_goes;
    }

    -- each other byte isn't
    pub fold_keeps : (is_quote && odd) ≡ false → IsFolded text (place + 1) (size + 1) (is_quote && not odd)
    fold_keeps is = record {
      low = omega (arith, more);
      few = omega (arith, reading.few);
      size_is =
          omega (arith, reading.size_is, ap length (last_byte false is), length-append (folded_to text place) (get_or text place 0 ∷ []));
      odd_is = odd_goes;
    }

    -- and there is room for it, where there is for all
    pub fold_room : (is_quote && odd) ≡ false → size < length (folded text)
    fold_room is =
        let all : place + 1 + (length text - (place + 1)) ≡ length text = omega (arith, more) in
        omega (
          arith,
          (fold_keeps is).size_is,
          folded_grows text (length text - (place + 1)) (place + 1),
          ap (λ k. length (folded_to text k)) all,
          ap length (folded_is text),
        )

    -- it is written behind those before it
    pub fold_puts : (is_quote && odd) ≡ false → (now old : List ℕ) → now ≡ folded_to text place ++ drop size old
        → size < length old
        → set now size (get_or text place 0) ≡ folded_to text (place + 1) ++ drop (size + 1) old
    fold_puts is now old put low =
        let front = folded_to text place in
        let byte = get_or text place 0 in
        let none : size - size ≡ 0 = omega arith in
        ap (λ l. set l size byte) (put ∙ ap (λ l. front ++ l) (drop_more old size 0 low))
        ∙ set-append_right front (get_or old size 0 ∷ drop (size + 1) old) size size byte (sym reading.size_is) (omega arith)
        ∙ ap (λ k. front ++ set (get_or old size 0 ∷ drop (size + 1) old) k byte) none
        ∙ sym (append_assoc front (byte ∷ []) (drop (size + 1) old))
        ∙ ap (λ l. l ++ drop (size + 1) old) (sym (last_byte false is))

-- behind a byte, by whether it is left out
pub fold_goes : (text : List ℕ) (place size : ℕ) (odd : Bool) → IsFolded text place size odd → place < length text
    → (second next_odd : Bool) (next : ℕ) → second ≡ ((get_or text place 0 == quote) && odd)
    → next_odd ≡ ((get_or text place 0 == quote) && not odd)
    → ((second ≡ false) × (next ≡ size + 1)) ⊎ ((second ≡ true) × (next ≡ size))
    → IsFolded text (place + 1) next next_odd
fold_goes text place size odd reading more second next_odd next is turns (inl kept) =
    subst (λ k. IsFolded text (place + 1) k next_odd) (sym kept.1)
    (subst (IsFolded text (place + 1) (size + 1)) (sym turns) (fold_keeps text place size odd reading more (sym is ∙ kept.0)))
fold_goes text place size odd reading more second next_odd next is turns (inr passed) =
    subst (λ k. IsFolded text (place + 1) k next_odd) (sym passed.1)
    (subst (IsFolded text (place + 1) size) (sym turns) (fold_passes text place size odd reading more (sym is ∙ passed.0)))

pub fold_ends : (text : List ℕ) (place size : ℕ) (odd : Bool) → IsFolded text place size odd → length text ≤ place
    → size ≡ length (folded text)
fold_ends text place size odd reading all =
    let end : place ≡ length text = omega (arith, reading.low) in
    reading.size_is ∙ ap (λ k. length (folded_to text k)) end ∙ ap length (sym (folded_is text))

-- The first `place` bytes were read, and written, folded, as `size` bytes.
pub record IsFoldPut (text : List ℕ) (place size : ℕ) (odd : Bool) (old now : List ℕ) : Type 0 where
  pub reading : IsFolded text place size odd
  pub put : now ≡ folded_to text place ++ drop size old

pub put_starts : (text old : List ℕ) → IsFoldPut text 0 0 false old old
put_starts text old = record { reading = fold_starts text; put = refl }

pub put_goes : (text : List ℕ) (place size : ℕ) (odd : Bool) (old now : List ℕ) → IsFoldPut text place size odd old now
    → place < length text → length (folded text) ≤ length old
    → (second next_odd : Bool) (next : ℕ) (then : List ℕ) → second ≡ ((get_or text place 0 == quote) && odd)
    → next_odd ≡ ((get_or text place 0 == quote) && not odd)
    → ((second ≡ false) × (next ≡ size + 1) × (then ≡ set now size (get_or text place 0)))
    ⊎ ((second ≡ true) × (next ≡ size) × (then ≡ now))
    → IsFoldPut text (place + 1) next next_odd old then
put_goes text place size odd old now putting more room second next_odd next then is turns (inl kept) =
    let plain = sym is ∙ kept.0 in
    let low : size < length old = omega (arith, fold_room text place size odd putting.reading more plain, room) in
    record {
      reading = fold_goes text place size odd putting.reading more second next_odd next is turns (inl (kept.0, kept.1));
      put =
          kept.2 ∙ fold_puts text place size odd putting.reading more plain now old putting.put low
          ∙ ap (λ k. folded_to text (place + 1) ++ drop k old) (sym kept.1);
    }
put_goes text place size odd old now putting more room second next_odd next then is turns (inr passed) =
    let end : folded_to text (place + 1) ≡ folded_to text place =
    last_byte text place size odd putting.reading more true (sym is ∙ passed.0) ∙ append-nil (folded_to text place) in
    record {
      reading = fold_goes text place size odd putting.reading more second next_odd next is turns (inr (passed.0, passed.1));
      put = passed.2 ∙ putting.put ∙ ap₂ (λ l k. l ++ drop k old) (sym end) (sym passed.1);
    }

pub put_ends : (text : List ℕ) (place size : ℕ) (odd : Bool) (old now : List ℕ) → IsFoldPut text place size odd old now
    → length text ≤ place → now ≡ folded text ++ drop (length (folded text)) old
put_ends text place size odd old now putting all =
    let end : place ≡ length text = omega (arith, putting.reading.low) in
    putting.put
    ∙ ap₂ (λ l k. l ++ drop k old) (ap (folded_to text) end ∙ sym (folded_is text))
    (fold_ends text place size odd putting.reading all)
