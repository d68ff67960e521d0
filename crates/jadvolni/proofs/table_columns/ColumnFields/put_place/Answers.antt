use Rattle.std.proofs.Common.{refl}
use Rattle.jadvolni.proofs.ColumnNumbers.{place_there}
use Rattle.jadvolni.proofs.table_columns.ColumnFields.put_place.Goals as goal

pub returns : goal.returns
returns c = place_there c.args.self.now _ c.args.row c.args.text refl refl c.requires.text
