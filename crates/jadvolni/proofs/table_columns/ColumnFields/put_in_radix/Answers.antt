use Rattle.std.proofs.Common.{refl}
use Rattle.jadvolni.proofs.table_columns.ColumnFields.put_in_radix.Goals as goal

pub put_by_radix-requires-clause-standard : goal.put_by_radix-requires-clause-standard
put_by_radix-requires-clause-standard c = (c.if-not-is_standard_but_radix.ensures.0 refl).1
