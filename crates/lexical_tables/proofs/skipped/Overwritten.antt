-- What is put at a row's place of targets over what was put there before.
use Rattle.std.proofs.Common.{◌≡◌, ◌∙◌, ℕ, zero, suc, ◌+◌, ◌-◌, ◌<◌, ◌≤◌, List, [], ◌∷◌, length, set, get_or, ◌≢◌, eqb, Bool, true, false, Option, Some, None, ◌⊎◌, refl, ap, ap₂, arith, inl, inr}
use Rattle.std.specs.Prelude.{◌/◌, ◌%◌, ◌^◌, IfSome, is_some, option_map, unwrap_or}
use Rattle.std.specs.Int.{bit_not, w8}
use Rattle.std.specs.Int.Bits.{and_self, and_zero_r, bit_and, bit_or, or_add_and}
use Rattle.std.proofs.lemmas.Bool.{cases_lt}
use Rattle.std.proofs.lemmas.Bool.Decides.{eqb_tells}
use Rattle.std.proofs.lemmas.List.{get_or-set_other, get_or-set_same, set-set, set_past}
use Rattle.std.proofs.lemmas.Nat.{and-not, and_assoc, and_comm, and_le_l, and_or_apart, and_or_self, or_lt}
use Rattle.lexical_tables.specs.ByColumn.{put_row}
use Rattle.lexical_tables.specs.Skipping.{AreBytes, cleared_at}
use Rattle.lexical_tables.specs.Readings.{Value, blank}
use Rattle.lexical_tables.specs.Targets.{TargetView, put_value, with_bit, with_row_bit}

-- ---- bits

-- a bit, and what is left of a byte without it
apart : (place : ℕ) → place < 8 → (2 ^ place < 2 ^ 8) × (bit_and (2 ^ place) (bit_not w8 (2 ^ place)) ≡ 0)
    × (bit_and (bit_not w8 (2 ^ place)) (2 ^ place) ≡ 0) × (bit_not w8 (2 ^ place) ≡ 2 ^ 8 - 1 - 2 ^ place)
apart zero low = (omega arith, refl, refl, refl)
apart (suc zero) low = (omega arith, refl, refl, refl)
apart (suc (suc zero)) low = (omega arith, refl, refl, refl)
apart (suc (suc (suc zero))) low = (omega arith, refl, refl, refl)
apart (suc (suc (suc (suc zero)))) low = (omega arith, refl, refl, refl)
apart (suc (suc (suc (suc (suc zero))))) low = (omega arith, refl, refl, refl)
apart (suc (suc (suc (suc (suc (suc zero)))))) low = (omega arith, refl, refl, refl)
apart (suc (suc (suc (suc (suc (suc (suc zero))))))) low = (omega arith, refl, refl, refl)
apart (suc (suc (suc (suc (suc (suc (suc (suc place)))))))) low = absurd (omega arith)

over_bit : (place byte : ℕ) (now before : Bool) → place < 8 → byte < 2 ^ 8
    → with_bit place now (with_bit place before byte) ≡ with_bit place now byte
over_bit place byte true true low small =
    let m = 2 ^ place in
    omega (arith, or_add_and (bit_or byte m) m, and_or_self m byte)
over_bit place byte true false low small =
    let m = 2 ^ place in
    let n = bit_not w8 m in
    let is = apart place low in
    let gone : bit_and (bit_and byte n) m ≡ 0 =
    and_assoc m byte n ∙ ap (bit_and byte) is.2 ∙ and_zero_r byte in
    let parts : bit_and n byte + bit_and m byte ≡ byte =
    ap (λ k. bit_and k byte + bit_and m byte) is.3 ∙ and-not 8 m byte is.0 small in
    omega (arith, or_add_and (bit_and byte n) m, gone, parts, or_add_and byte m, and_comm byte n, and_comm byte m)
over_bit place byte false true low small =
    let m = 2 ^ place in
    and_or_apart (bit_not w8 m) byte m (apart place low).1
over_bit place byte false false low small =
    let n = bit_not w8 (2 ^ place) in
    and_assoc n byte n ∙ ap (bit_and byte) (and_self n)

bit_small : (place byte : ℕ) (is_there : Bool) → place < 8 → byte < 2 ^ 8 → with_bit place is_there byte < 2 ^ 8
bit_small place byte true low small = or_lt 8 byte (2 ^ place) small (apart place low).0
bit_small place byte false low small = omega (arith, small, and_le_l byte (bit_not w8 (2 ^ place)))

-- ---- the bits of rows

abbrev pub SmallBytes : List ℕ → Type 0
SmallBytes bytes = (place : ℕ) → get_or bytes place 0 < 2 ^ 8

low_bit : (row : ℕ) → row % 8 < 8
low_bit row = omega arith

over_row_bit : (row : ℕ) (now before : Bool) (bytes : List ℕ) → SmallBytes bytes
    → with_row_bit row now (with_row_bit row before bytes) ≡ with_row_bit row now bytes
over_row_bit row now before bytes small =
    let k = row / 8 in
    let byte = get_or bytes k 0 in
    let set_byte = with_bit (row % 8) before byte in
    elim (cases_lt k (length bytes)) [
      | inl lt ↦
          ap (λ b. set (set bytes k set_byte) k (with_bit (row % 8) now b)) (get_or-set_same bytes k set_byte 0 lt)
          ∙ ap (λ b. set (set bytes k set_byte) k b) (over_bit (row % 8) byte now before (low_bit row) (small k))
          ∙ set-set bytes k set_byte (with_bit (row % 8) now byte)
      | inr ge ↦ ap (λ l. set l k (with_bit (row % 8) now (get_or l k 0))) (set_past bytes k set_byte ge)
    ]

small_row_bit : (row : ℕ) (is_there : Bool) (bytes : List ℕ) → SmallBytes bytes → SmallBytes (with_row_bit row is_there bytes)
small_row_bit row is_there bytes small place =
    let k = row / 8 in
    let set_byte = with_bit (row % 8) is_there (get_or bytes k 0) in
    elim (cases_lt k (length bytes)) [
      | inl lt ↦ by_place lt (eqb_tells place k)
      | inr ge ↦ omega (arith, ap (λ l. get_or l place 0) (set_past bytes k set_byte ge), small place)
    ]
  where
    by_place : row / 8 < length bytes
        → ((eqb place (row / 8) ≡ true) × (place ≡ row / 8)) ⊎ ((eqb place (row / 8) ≡ false) × (place ≢ row / 8))
        → get_or (with_row_bit row is_there bytes) place 0 < 2 ^ 8
    by_place lt (inl same) =
        let set_byte = with_bit (row % 8) is_there (get_or bytes (row / 8) 0) in
        omega (
          arith,
          ap (λ p. get_or (with_row_bit row is_there bytes) p 0) same.1,
          get_or-set_same bytes (row / 8) set_byte 0 lt,
          bit_small (row % 8) (get_or bytes (row / 8) 0) is_there (low_bit row) (small (row / 8)),
        )
    by_place lt (inr other) =
        let set_byte = with_bit (row % 8) is_there (get_or bytes (row / 8) 0) in
        omega (arith, get_or-set_other bytes (row / 8) place set_byte 0 other.1, small place)

-- ---- targets

over_present : (row : ℕ) (now before : Bool) (present : Option (List ℕ)) → IfSome present SmallBytes
    → option_map (with_row_bit row now) (option_map (with_row_bit row before) present)
    ≡ option_map (with_row_bit row now) present
over_present row now before None small = refl
over_present row now before (Some bytes) small = ap Some (over_row_bit row now before bytes small)

small_present : (row : ℕ) (is_there : Bool) (present : Option (List ℕ)) → IfSome present SmallBytes
    → IfSome (option_map (with_row_bit row is_there) present) SmallBytes
small_present row is_there None small = tt
small_present row is_there (Some bytes) small = small_row_bit row is_there bytes small

abbrev HasBytes : Option TargetView → Type 0
HasBytes target = IfSome target (λ column. IfSome column.present SmallBytes)

over_value : (row : ℕ) (now before : Option Value) (target : Option TargetView) → HasBytes target
    → option_map (put_value row now) (option_map (put_value row before) target) ≡ option_map (put_value row now) target
over_value row now before None small = refl
over_value row now before (Some target) small =
    ap₂ (λ values present. Some (record target { values = values; present = present }))
    (set-set target.values row (unwrap_or before (blank target.reading)) (unwrap_or now (blank target.reading)))
    (over_present row (is_some now) (is_some before) target.present small)

small_value : (row : ℕ) (value : Option Value) (target : Option TargetView) → HasBytes target
    → HasBytes (option_map (put_value row value) target)
small_value row value None small = tt
small_value row value (Some target) small = small_present row (is_some value) target.present small

-- a row's numbers over those of a row with no more of them
pub over_row : (row : ℕ) (now before : List (Option Value)) (targets : List (Option TargetView))
    → length before ≤ length now → AreBytes targets
    → put_row row now (put_row row before targets) ≡ put_row row now targets
over_row row now [] targets low small = refl
over_row row [] (v ∷ vs) targets low small = absurd (omega arith)
over_row row (n ∷ ns) (v ∷ vs) [] low small = refl
over_row row (n ∷ ns) (v ∷ vs) (t ∷ ts) low small =
    ap₂ (λ x l. x ∷ l) (over_value row n v t small.0) (over_row row ns vs ts (omega arith) small.1)

pub over_cleared : (row : ℕ) (values : List (Option Value)) (targets : List (Option TargetView)) → AreBytes targets
    → cleared_at row (put_row row values targets) ≡ cleared_at row targets
over_cleared row [] targets small = refl
over_cleared row (v ∷ vs) [] small = refl
over_cleared row (v ∷ vs) (t ∷ ts) small =
    ap₂ (λ x l. x ∷ l) (over_value row None v t small.0) (over_cleared row vs ts small.1)

pub small_put_row : (row : ℕ) (values : List (Option Value)) (targets : List (Option TargetView)) → AreBytes targets
    → AreBytes (put_row row values targets)
small_put_row row [] targets small = small
small_put_row row (v ∷ vs) [] small = tt
small_put_row row (v ∷ vs) (t ∷ ts) small = (small_value row v t small.0, small_put_row row vs ts small.1)
