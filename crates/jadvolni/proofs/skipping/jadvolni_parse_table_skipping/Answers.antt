use Rattle.std.proofs.Common.{◌≡◌, arith}
use Rattle.std.proofs.lemmas.Bool.Decides.{nat_tests}
use Rattle.jadvolni.proofs.TableColumns.{all_usable}
use Rattle.jadvolni.proofs.skipping.jadvolni_parse_table_skipping.Goals as goal

pub read_part_skipping-requires : goal.read_part_skipping-requires
read_part_skipping-requires c =
    let fine : c.wrong_column-status.result.0 ≡ 0 = grind (arith, nat_tests) in
    record { usable = all_usable c.args.rows 0 c.args.columns.now (c.wrong_column-status.ensures.none fine) }
