use Rattle.std.proofs.Common.{◌≢◌, ◌∙◌, arith, subst, sym}
use Rattle.std.proofs.lemmas.Bool.Decides.{nat_tests}
use Rattle.lexical_tables.specs.Amounts.{IsQuick}
use Rattle.jadvolni.proofs.ColumnAmounts.{amounts_there}
use Rattle.jadvolni.proofs.table_columns.ColumnFields.has_quick_amounts.Goals as goal

pub returns : goal.returns
returns c = λ yes.
    let column = c.args.self.now in
    let places : column.description.places ≢ 0 = grind (arith, nat_tests) in
    amounts_there column _ (sym c.number_type.ensures ∙ c.in-Some.is) places (subst IsQuick c.decimal.ensures (c.is_quick.ensures.0 yes))
