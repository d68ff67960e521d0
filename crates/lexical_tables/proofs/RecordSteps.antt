-- The first record of a text, and those behind it.
use Rattle.std.proofs.Common.{◌≡◌, ◌∙◌, ℕ, zero, suc, ◌+◌, ◌-◌, ◌*◌, ◌/◌, ◌%◌, ◌==◌, ◌<◌, ◌≤◌, List, [], ◌∷◌, ◌++◌, length, take, drop, get_or, map, filter, Bool, true, false, cond, refl, ap, ap₂, sym, subst, arith, inl, inr, length-append, length-drop, length-take-le, take-take}
use Rattle.std.specs.List.{range_with_len}
use Rattle.std.specs.Prelude.{max, min, sum}
use Rattle.std.proofs.lemmas.Bool.{cases_lt}
use Rattle.std.proofs.lemmas.Bool.Decides.{eqb_tells}
use Rattle.std.proofs.lemmas.List.{drop_all, drop-append-le, drop-drop, drop-take, take_all, take-append-le}
use Rattle.std.proofs.lemmas.List.Elements.{filter-append}
use Rattle.std.proofs.lemmas.List.Sums.{sum_by_more}
use Rattle.std.proofs.lemmas.Nat.{div-add-mod', mod-mul-add, mod_below}
use Rattle.lexical_fields.specs.Fields.{FieldView}
use Rattle.lexical_fields.proofs.MovedFields.{moved}
use Rattle.lexical_tables.specs.Rows.{record_size, records_from}

range_split : (a m k : ℕ) → range_with_len a (m + k) ≡ range_with_len a m ++ range_with_len (a + m) k
range_split a zero k =
    let none : 0 + k ≡ k = omega arith in
    let same : a ≡ a + 0 = omega arith in
    ap (range_with_len a) none ∙ ap (λ p. range_with_len p k) same
range_split a (suc m) k =
    let one : suc m + k ≡ suc (m + k) = omega arith in
    let at : a + 1 + m ≡ a + suc m = omega arith in
    ap (range_with_len a) one
    ∙ ap (λ l. a ∷ l) (range_split (a + 1) m k ∙ ap (λ p. range_with_len (a + 1) m ++ range_with_len p k) at)

map_map : {X Y Z : Type 0} (g : Y → Z) (f : X → Y) (xs : List X) → map g (map f xs) ≡ map (λ x. g (f x)) xs
map_map g f [] = refl
map_map g f (x ∷ xs) = ap (λ l. g (f x) ∷ l) (map_map g f xs)

map_same : {X Y : Type 0} (f g : X → Y) → ((x : X) → f x ≡ g x) → (xs : List X) → map f xs ≡ map g xs
map_same f g same [] = refl
map_same f g same (x ∷ xs) = ap₂ (λ y l. y ∷ l) (same x) (map_same f g same xs)

module _ (s : ℕ) (low : 0 < s) where
  -- ---- where records start

  remainder : (a : ℕ) → a < s → a % s ≡ a
  remainder a less =
      let none : a ≡ 0 * s + a = omega arith in
      ap (λ n. n % s) none ∙ mod-mul-add 0 s a less

  again : (a : ℕ) → (s + a) % s ≡ a % s
  again a =
      let one : s + a ≡ (a / s + 1) * s + a % s = grind (arith, div-add-mod' a s) in
      ap (λ n. n % s) one ∙ mod-mul-add (a / s + 1) s (a % s) (mod_below a s low)

  abbrev divides : ℕ → Bool
  divides start = start % s == 0

  first_divides : divides 0 ≡ true
  first_divides = ap (λ n. n == 0) (remainder 0 low)

  small : (a : ℕ) → 0 < a → a < s → divides a ≡ false
  small a some less = elim (eqb_tells a 0) [
    | inl is ↦ absurd (omega (arith, is.1, some))
    | inr is ↦ ap (λ n. n == 0) (remainder a less) ∙ is.0
  ]

  -- none starts within the first
  none_within : (a k : ℕ) → 0 < a → a + k ≤ s → filter divides (range_with_len a k) ≡ []
  none_within a zero some fits = refl
  none_within a (suc k) some fits =
      ap (λ t. cond t (a ∷ filter divides (range_with_len (a + 1) k)) (filter divides (range_with_len (a + 1) k)))
      (small a some (omega (arith, fits)))
      ∙ none_within (a + 1) k (omega arith) (omega (arith, fits))

  -- and behind it they start as in a text of their own
  starts_behind : (a k : ℕ) → filter divides (range_with_len (s + a) k)
      ≡ map (λ start. s + start) (filter divides (range_with_len a k))
  starts_behind a zero = refl
  starts_behind a (suc k) =
      let at : s + a + 1 ≡ s + (a + 1) = omega arith in
      ap (λ n. cond (n == 0) ((s + a) ∷ filter divides (range_with_len (s + a + 1) k))
      (filter divides (range_with_len (s + a + 1) k))) (again a)
      ∙ ap (λ (l : List ℕ). cond (divides a) ((s + a) ∷ l) l)
      (ap (λ p. filter divides (range_with_len p k)) at ∙ starts_behind (a + 1) k)
      ∙ by_test (divides a) (filter divides (range_with_len (a + 1) k))
    where
      by_test : (t : Bool) (l : List ℕ) → cond {A = List ℕ} t ((s + a) ∷ map (λ start. s + start) l) (map (λ start. s + start) l)
          ≡ map (λ start. s + start) (cond {A = List ℕ} t (a ∷ l) l)
      by_test true l = refl
      by_test false l = refl

  abbrev starts_in : ℕ → List ℕ
  starts_in n = filter divides (range_with_len 0 n)

  behind_first : (m : ℕ) → filter divides (range_with_len 1 m) ≡ map (λ start. s + start) (starts_in (suc m - s))
  behind_first m = elim (cases_lt m s) [
    | inl less ↦
        let none : 0 ≡ suc m - s = omega arith in
        none_within 1 m (omega arith) (omega (arith, less)) ∙ ap (λ k. map (λ start. s + start) (starts_in k)) none
    | inr more ↦
        let k = suc m - s in
        let whole : m ≡ (s - 1) + k = omega (arith, more, low) in
        let at : 1 + (s - 1) ≡ s + 0 = omega (arith, low) in
        ap (λ n. filter divides (range_with_len 1 n)) whole
        ∙ ap (filter divides) (range_split 1 (s - 1) k)
        ∙ filter-append divides (range_with_len 1 (s - 1)) (range_with_len (1 + (s - 1)) k)
        ∙ ap₂ (λ a b. a ++ b) (none_within 1 (s - 1) (omega arith) (omega (arith, low)))
        (ap (λ p. filter divides (range_with_len p k)) at ∙ starts_behind 0 k)
  ]

  next_start : (n : ℕ) → 0 < n → starts_in n ≡ 0 ∷ map (λ start. s + start) (starts_in (n - s))
  next_start zero some = absurd (omega (arith, some))
  next_start (suc m) some =
      let plus : 0 + 1 ≡ 1 = omega arith in
      ap (λ t. cond t (0 ∷ filter divides (range_with_len (0 + 1) m)) (filter divides (range_with_len (0 + 1) m))) first_divides
      ∙ ap (λ p. 0 ∷ filter divides (range_with_len p m)) plus ∙ ap (λ l. 0 ∷ l) (behind_first m)

  -- ---- records

  -- no byte is no record
  pub no_records : (place : ℕ) → records_from s place [] ≡ []
  no_records place = refl

  pub next_record : (place : ℕ) (text : List ℕ) → 0 < length text
      → records_from s place text ≡ record { start = place; text = take s text } ∷ records_from s (place + s) (drop s text)
  next_record place text some =
      let rest = drop s text in
      let none : place + 0 ≡ place = omega arith in
      ap (map piece) (next_start (length text) some)
      ∙ ap₂ (λ p l. record { start = p; text = take s text } ∷ l) none
      (map_map piece (λ start. s + start) (starts_in (length text - s))
      ∙ map_same (λ start. piece (s + start)) (λ start. record { start = place + s + start; text = take s (drop start rest) })
      same (starts_in (length text - s))
      ∙ ap (λ n. map (λ start. record { start = place + s + start; text = take s (drop start rest) }) (starts_in n))
      (sym (length-drop s text)))
    where
      piece : ℕ → FieldView
      piece start = record { start = place + start; text = take s (drop start text) }

      further : (start : ℕ) → place + (s + start) ≡ place + s + start
      further start = omega arith

      same : (start : ℕ) → piece (s + start)
          ≡ record { start = place + s + start; text = take s (drop start (drop s text)) }
      same start =
          ap₂ (λ p l. record { start = p; text = take s l }) (further start) (sym (drop-drop start s text))

  -- at a place that counts what is left
  pub next_record_at : (place : ℕ) (rest line behind : List ℕ) → 0 < length rest → line ≡ take s rest → behind ≡ drop s rest
      → records_from s place rest
      ≡ record { start = place; text = line } ∷ records_from s (place + (length rest - length behind)) behind
  next_record_at place rest line behind some front back =
      next_record place rest some
      ∙ ap₂ (λ l m. record { start = place; text = l } ∷ records_from s (place + s) m) (sym front) (sym back)
      ∙ ap (λ l. record { start = place; text = line } ∷ l) (at behind (ap length back ∙ length-drop s rest))
    where
      at : (bytes : List ℕ) → length bytes ≡ length rest - s
          → records_from s (place + s) bytes ≡ records_from s (place + (length rest - length bytes)) bytes
      at [] long = refl
      at (b ∷ bs) long =
          let same : place + s ≡ place + (length rest - length (b ∷ bs)) = omega (arith, long) in
          ap (λ p. records_from s p (b ∷ bs)) same

  -- ---- a text that is cut

  pub split_records : (k place : ℕ) (part more : List ℕ) → k * s ≤ length part → records_from s place (part ++ more)
      ≡ records_from s place (take (k * s) part) ++ records_from s (place + k * s) (drop (k * s) part ++ more)
  split_records zero place part more low =
      let none : 0 ≡ 0 * s = omega arith in
      let at : place ≡ place + 0 * s = omega arith in
      ap (λ p. records_from s p (part ++ more)) at
      ∙ ap (λ n. records_from s place (take n part) ++ records_from s (place + 0 * s) (drop n part ++ more)) none
  split_records (suc k) place part more fits =
      let whole : s + k * s ≡ suc k * s = grind arith in
      let room : s + k * s ≤ length part = omega (arith, whole, fits) in
      let rest = drop s part in
      let left : length rest ≡ length part - s = length-drop s part in
      let at : place + s + k * s ≡ place + (s + k * s) = omega arith in
      let front_size : length (take (s + k * s) part) ≡ s + k * s = length-take-le (s + k * s) part room in
      let front : records_from s place (take (s + k * s) part)
      ≡ record { start = place; text = take s part } ∷ records_from s (place + s) (take (k * s) rest) =
      next_record place (take (s + k * s) part) (omega (arith, front_size, low))
      ∙ ap₂ (λ t r. record { start = place; text = t } ∷ records_from s (place + s) r)
      (take-take s (s + k * s) part (omega arith)) (drop-take s (k * s) part) in
      let behind : records_from s (place + s + k * s) (drop (k * s) rest ++ more)
      ≡ records_from s (place + (s + k * s)) (drop (s + k * s) part ++ more) =
      ap₂ (λ p l. records_from s p (l ++ more)) at (drop-drop (k * s) s part) in
      subst (λ n. records_from s place (part ++ more)
      ≡ records_from s place (take n part) ++ records_from s (place + n) (drop n part ++ more)) whole
      (next_record place (part ++ more) (omega (arith, length-append part more, room, low))
      ∙ ap₂ (λ t r. record { start = place; text = t } ∷ records_from s (place + s) r)
      (take-append-le s part more (omega (arith, room))) (drop-append-le s part more (omega (arith, room)))
      ∙ ap (λ l. record { start = place; text = take s part } ∷ l)
      (split_records k (place + s) rest more (omega (arith, room, left)))
      ∙ ap₂ (λ a b. a ++ b) (sym front) behind)

pub records_moved : (s bytes place : ℕ) (text : List ℕ)
    → map (moved bytes) (records_from s place text) ≡ records_from s (bytes + place) text
records_moved s bytes place text =
    map_map (moved bytes) (λ start. record { start = place + start; text = take s (drop start text) })
    (filter (λ start. start % s == 0) (range_with_len 0 (length text)))
    ∙ map_same _ _ same (filter (λ start. start % s == 0) (range_with_len 0 (length text)))
  where
    further : (start : ℕ) → bytes + (place + start) ≡ bytes + place + start
    further start = omega arith

    same : (start : ℕ) → moved bytes (record { start = place + start; text = take s (drop start text) })
        ≡ record { start = bytes + place + start; text = take s (drop start text) }
    same start = ap (λ p. record { start = p; text = take s (drop start text) }) (further start)

-- ---- how many bytes a record has

pub size_goes : (widths : List ℕ) (limit column size : ℕ) → column < length widths
    → size ≡ min (sum (take column widths)) limit
    → size + min (get_or widths column 0) (limit - size) ≡ min (sum (take (column + 1) widths)) limit
size_goes widths limit column size more is = omega (arith, is, sum_by_more (λ x. x) widths column 0 more)

pub size_ends : (widths : List ℕ) (limit column size : ℕ) → length widths ≤ column
    → size ≡ min (sum (take column widths)) limit → min (max size 1) limit ≡ min (record_size widths) limit
size_ends widths limit column size all is =
    let whole : sum (take column widths) ≡ sum widths = ap sum (take_all column widths all) in
    omega (arith, is, whole)

-- no more bytes than there are
pub take_within : (n : ℕ) (text : List ℕ) → take (min n (length text)) text ≡ take n text
take_within n text = elim (cases_lt n (length text)) [
  | inl less ↦ let same : min n (length text) ≡ n = omega arith in ap (λ k. take k text) same
  | inr more ↦
      let same : min n (length text) ≡ length text = omega arith in
      ap (λ k. take k text) same ∙ take_all (length text) text (omega arith) ∙ sym (take_all n text more)
]

pub drop_within : (n : ℕ) (text : List ℕ) → drop (min n (length text)) text ≡ drop n text
drop_within n text = elim (cases_lt n (length text)) [
  | inl less ↦ let same : min n (length text) ≡ n = omega arith in ap (λ k. drop k text) same
  | inr more ↦
      let same : min n (length text) ≡ length text = omega arith in
      ap (λ k. drop k text) same ∙ drop_all (length text) text (omega arith) ∙ sym (drop_all n text more)
]
