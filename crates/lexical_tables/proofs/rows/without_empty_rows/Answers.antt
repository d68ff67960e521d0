use Rattle.std.proofs.Common.{◌<◌, length, arith}
use Rattle.std.proofs.lemmas.Bool.Decides.{nat_tests}
use Rattle.lexical_tables.specs.Rows.{view_of_row}
use Rattle.lexical_tables.proofs.RowSteps.{skip_goes}
use Rattle.lexical_tables.proofs.rows.without_empty_rows.Goals as goal

pub loop-row-preserved : goal.loop-row-preserved
loop-row-preserved c =
    let some : 0 < length c.loop-row.rest.now = grind (arith, nat_tests) in
    skip_goes c.args.dialect.now c.args.text.now c.loop-row.rest.now c.loop-row.invariant
    (view_of_row c.first_row.result.0) c.first_row.result.1.now some c.first_row.ensures.row
    c.first_row.ensures.behind c.first_row.ensures.shorter c.loop-row-test.true (grind (arith, nat_tests))
