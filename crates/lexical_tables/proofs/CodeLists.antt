-- The codes of columns, put one after another.
use Rattle.std.proofs.Common.{◌≡◌, ◌∙◌, ◌+◌, ◌<◌, ◌≤◌, ℕ, false, List, [], ◌∷◌, length, length-set, get_or, map, set, Option, None, ap, refl, subst, sym, arith, inl, inr}
use Rattle.std.proofs.lemmas.Bool.Decides.{eqb_tells}
use Rattle.std.proofs.lemmas.List.{get_or-map, get_or-set_other, get_or-set_same}
use Rattle.std.specs.Prelude.{slice_index}
use Rattle.lexical_tables.specs.Cells.{ends_in_digit}
use Rattle.lexical_tables.specs.Codes.{AreStandard, IsCodeIn}
use Rattle.lexical_tables.specs.Targets.{TargetView}
use Rattle.lexical_tables.specs.declared.dialect.Dialect.{Dialect}

-- a text without bytes ends in no digit
pub no_digit : (text : List ℕ) → length text ≡ 0 → false ≡ ends_in_digit text
no_digit [] is = refl
no_digit (byte ∷ bytes) is = absurd (omega arith)

-- The columns in front of a place have their codes.
pub record AreBelow (dialect : Dialect) (count : ℕ) (codes : List ℕ) (targets : List (Option TargetView)) : Type 0 where
  pub at : (k : ℕ) → k < count → k < length targets → IsCodeIn dialect (slice_index codes k) (get_or targets k None)

-- the code of the next column is put behind them
pub below_next : {C : Type 0} (target : C → Option TargetView) (dialect : Dialect) (count : ℕ) (codes : List ℕ)
    (columns : List C) (code : ℕ) (d : C) → AreBelow dialect count codes (map target columns) → count < length codes
    → count < length columns → IsCodeIn dialect code (target (get_or columns count d))
    → AreBelow dialect (count + 1) (set codes count code) (map target columns)
below_next target dialect count codes columns code d are room low is = record {
  at = λ k few there. elim (eqb_tells k count) [
    | inl same ↦ subst (λ i. IsCodeIn dialect (slice_index (set codes count code) i) (get_or (map target columns) i None)) (sym same.1)
        (subst (λ n. IsCodeIn dialect n (get_or (map target columns) count None)) (sym (get_or-set_same codes count code 0 room))
        (subst (IsCodeIn dialect code) (sym (get_or-map target columns count d None low)) is))
    | inr other ↦ subst (λ n. IsCodeIn dialect n (get_or (map target columns) k None))
        (sym (get_or-set_other codes count k code 0 other.1)) (are.at k (omega (arith, few, other.1)) there)
  ];
}

-- so they are those of types, without a rule on zeros, if the next one is
pub standard_next : (count : ℕ) (codes : List ℕ) (code : ℕ) → AreStandard count codes → count < length codes
    → (8 ≤ code) × (code < 32) → AreStandard (count + 1) (set codes count code)
standard_next count codes code are room is = λ k within few. elim (eqb_tells k count) [
  | inl same ↦ subst (λ n. (8 ≤ n) × (n < 32))
      (sym (ap (slice_index (set codes count code)) same.1 ∙ get_or-set_same codes count code 0 room)) is
  | inr other ↦ subst (λ n. (8 ≤ n) × (n < 32)) (sym (get_or-set_other codes count k code 0 other.1))
      (are k (omega (arith, within, length-set codes count code)) (omega (arith, few, other.1)))
]
