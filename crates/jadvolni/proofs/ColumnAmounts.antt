-- Columns of amounts that are read at once.
use Rattle.std.proofs.Common.{◌≡◌, ◌≢◌, ◌∙◌, Bool, Option, None, Some, ap, false, is_some, not, refl, sym, subst, true}
use Rattle.lexical_tables.specs.Amounts.{AreAmounts, AreAmountsIfFixed, HasAmounts, HasAmountsIfFixed, IsQuick}
use Rattle.jadvolni.specs.Arrays.{array_as, array_in, number_type}
use Rattle.jadvolni.specs.Fixed.{fixed_of}
use Rattle.jadvolni.specs.Tables.{target_as, target_of}
use Rattle.jadvolni.specs.declared.arrays.NumberType.{NumberType}
use Rattle.jadvolni.specs.declared.table_columns.ColumnFields.{ColumnFields}
use Rattle.jadvolni.proofs.ColumnNumbers.{array_named, as_fixed_points}

-- a column of numbers that have places has amounts where its description says so
pub amounts_there : (column : ColumnFields) (type : NumberType) → number_type column.arrays ≡ Some type
    → column.description.places ≢ 0 → IsQuick (fixed_of column.description) → HasAmounts (target_of column)
amounts_there column type is places quick =
    let it = array_named column.arrays type in
    let there : array_in column.arrays ≡ Some it.array = ap (array_as column.arrays) is ∙ it.there in
    subst (λ a. HasAmounts (target_as column a)) (sym there)
    (subst AreAmounts (sym (as_fixed_points column.description it.array.type places)) quick)

-- fixed-point numbers of a column that has amounts, if any, are such
pub quick_there : (column : ColumnFields) (type : NumberType) → number_type column.arrays ≡ Some type
    → column.description.places ≢ 0 → HasAmountsIfFixed (target_of column) → IsQuick (fixed_of column.description)
quick_there column type is places has =
    let it = array_named column.arrays type in
    let there : array_in column.arrays ≡ Some it.array = ap (array_as column.arrays) is ∙ it.there in
    subst AreAmountsIfFixed (as_fixed_points column.description it.array.type places)
    (subst (λ a. HasAmountsIfFixed (target_as column a)) there has)

-- a column that has numbers has them in a type
pub type_there : (found : Option NumberType) (none : Bool) → is_some found ≡ not none → none ≡ false → (type : NumberType) × (found ≡ Some type)
type_there None none is some = absurd (cc)
type_there (Some type) none is some = (type, refl)
