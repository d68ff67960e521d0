use Rattle.std.proofs.Common.{◌≡◌, ◌∙◌, false, nat_lt, arith, sym}
use Rattle.std.proofs.lemmas.Bool.Decides.{nat_tests}
use Rattle.jadvolni.proofs.ColumnNumbers.{status_there}
use Rattle.jadvolni.proofs.table_columns.ColumnFields.number_status.Goals as goal

pub returns : goal.returns
returns c =
    let enough : nat_lt c.args.room c.args.rows ≡ false = grind (arith, nat_tests) in
    c.number_status.ensures
    ∙ status_there c.args.self.now c.args.rows c.args.room c.requires.room enough
    (sym c.lacks_bits.ensures ∙ c.if-lacks_bits.false)
