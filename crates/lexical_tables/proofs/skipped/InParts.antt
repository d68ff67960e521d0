-- The right rows and the faults of a text that is cut.
use Rattle.std.proofs.Common.{◌≡◌, ◌∙◌, ℕ, suc, ◌+◌, List, [], ◌∷◌, ◌++◌, length, take, drop, map, cond, Bool, true, false, Option, Some, None, refl, ap, ap₂, sym, arith, length-take-le}
use Rattle.std.specs.Prelude.{is_none, option_map}
use Rattle.std.proofs.lemmas.List.{map-append}
use Rattle.std.proofs.lemmas.List.Elements.{filter-append}
use Rattle.lexical_tables.specs.ByColumn.{row_fault, row_values}
use Rattle.lexical_tables.specs.Cells.{Kind}
use Rattle.lexical_tables.specs.Parts.{AreValid, error_behind, values_behind, whole_rows}
use Rattle.lexical_tables.specs.Rows.{RowView, rows}
use Rattle.lexical_tables.specs.Skipping.{SkippingInParts, faults_from, is_right, right_rows, right_values, with_first}
use Rattle.lexical_tables.specs.declared.answers.TableError.{TableError}
use Rattle.lexical_tables.specs.declared.dialect.Dialect.{Dialect}
use Rattle.lexical_tables.proofs.ColumnsInParts.{row_fault_moved, row_values_moved}
use Rattle.lexical_tables.proofs.RowsInParts.{row_behind, rows_split, whole_within}

none_moved : {A B : Type 0} (f : A → B) (it : Option A) → is_none (option_map f it) ≡ is_none it
none_moved {A} {B} f None = refl
none_moved {A} {B} f (Some it) = refl

module _ (kinds : List (Option Kind)) (d : Dialect) where
  faults_append : (index : ℕ) (xs ys : List RowView) → faults_from kinds d index (xs ++ ys)
      ≡ faults_from kinds d index xs ++ faults_from kinds d (index + length xs) ys
  faults_append index [] ys =
      let none : index ≡ index + 0 = omega arith in
      ap (λ k. faults_from kinds d k ys) none
  faults_append index (x ∷ xs) ys =
      let next : index + 1 + length xs ≡ index + suc (length xs) = omega arith in
      ap (with_first (row_fault kinds d index x)) (faults_append (index + 1) xs ys
      ∙ ap (λ k. faults_from kinds d (index + 1) xs ++ faults_from kinds d k ys) next)
      ∙ by_fault (row_fault kinds d index x) (faults_from kinds d (index + 1) xs)
      (faults_from kinds d (index + suc (length xs)) ys)
    where
      by_fault : (e : Option TableError) (a b : List TableError) → with_first e (a ++ b) ≡ with_first e a ++ b
      by_fault None a b = refl
      by_fault (Some it) a b = refl

  module _ (valid : AreValid kinds) where
    right_moved : (bytes : ℕ) (row : RowView) → is_right kinds d (row_behind bytes row) ≡ is_right kinds d row
    right_moved bytes row =
        ap is_none (row_fault_moved kinds d valid 0 bytes 0 row)
        ∙ none_moved (error_behind 0 bytes) (row_fault kinds d 0 row)

    values_moved : (bytes : ℕ) (lines : List RowView)
        → right_values kinds d (map (row_behind bytes) lines) ≡ values_behind bytes (right_values kinds d lines)
    values_moved bytes [] = refl
    values_moved bytes (row ∷ more) =
        ap (λ t. map (row_values kinds d) (cond t (row_behind bytes row ∷ right_rows kinds d (map (row_behind bytes) more))
        (right_rows kinds d (map (row_behind bytes) more)))) (right_moved bytes row)
        ∙ by_test (is_right kinds d row) (values_moved bytes more)
      where
        by_test : (t : Bool)
            → right_values kinds d (map (row_behind bytes) more) ≡ values_behind bytes (right_values kinds d more)
            → map (row_values kinds d) (cond t (row_behind bytes row ∷ right_rows kinds d (map (row_behind bytes) more))
            (right_rows kinds d (map (row_behind bytes) more)))
            ≡ values_behind bytes (map (row_values kinds d) (cond t (row ∷ right_rows kinds d more) (right_rows kinds d more)))
        by_test true there = ap₂ (λ v l. v ∷ l) (row_values_moved kinds d valid bytes row) there
        by_test false there = there

    faults_moved : (before bytes index : ℕ) (lines : List RowView)
        → faults_from kinds d (before + index) (map (row_behind bytes) lines)
        ≡ map (error_behind before bytes) (faults_from kinds d index lines)
    faults_moved before bytes index [] = refl
    faults_moved before bytes index (row ∷ more) =
        let next : before + index + 1 ≡ before + (index + 1) = omega arith in
        ap₂ with_first (row_fault_moved kinds d valid before bytes index row)
        (ap (λ k. faults_from kinds d k (map (row_behind bytes) more)) next
        ∙ faults_moved before bytes (index + 1) more)
        ∙ both (row_fault kinds d index row) (faults_from kinds d (index + 1) more)
      where
        both : (e : Option TableError) (l : List TableError)
            → with_first (option_map (error_behind before bytes) e) (map (error_behind before bytes) l)
            ≡ map (error_behind before bytes) (with_first e l)
        both None l = refl
        both (Some it) l = refl

-- the law of parts
pub skipping_in_parts : (kinds : List (Option Kind)) (d : Dialect) (part more : List ℕ) → AreValid kinds
    → SkippingInParts kinds d part more
skipping_in_parts kinds d part more valid =
    let size = whole_rows d part in
    let front = take size part in
    let left = drop size part ++ more in
    let count = length (rows d front) in
    let within = whole_within d.layout d.has_quotes part in
    let cut = rows_split d part more size refl within in
    let long = sym (length-take-le size part within) in
    let none : 0 + count ≡ count + 0 = omega arith in
    record {
      values =
          ap (right_values kinds d) cut
          ∙ ap (map (row_values kinds d))
          (filter-append (is_right kinds d) (rows d front) (map (row_behind size) (rows d left)))
          ∙ map-append (row_values kinds d) (right_rows kinds d (rows d front)) (right_rows kinds d (map (row_behind size) (rows d left)))
          ∙ ap (λ l. right_values kinds d (rows d front) ++ l) (values_moved kinds d valid size (rows d left)
          ∙ ap (λ n. values_behind n (right_values kinds d (rows d left))) long);
      faults =
          ap (faults_from kinds d 0) cut
          ∙ faults_append kinds d 0 (rows d front) (map (row_behind size) (rows d left))
          ∙ ap (λ l. faults_from kinds d 0 (rows d front) ++ l)
          (ap (λ k. faults_from kinds d k (map (row_behind size) (rows d left))) none
          ∙ faults_moved kinds d valid count size 0 (rows d left)
          ∙ ap (λ n. map (error_behind count n) (faults_from kinds d 0 (rows d left))) long);
    }
