use Rattle.std.proofs.Common.{◌+◌}
use Rattle.jadvolni.specs.Tables.{target_of}
use Rattle.jadvolni.proofs.TableBits.{missing_put, zero_usable}
use Rattle.jadvolni.proofs.table_columns.ColumnFieldsTableColumn.put_missing.Goals as goal

pub put_presence-requires : goal.put_presence-requires
put_presence-requires c = record {
  usable = zero_usable (c.args.row + 1) c.args.row (target_of c.args.self.now) (target_of c.put_zero.new.self)
      c.requires.usable c.put_zero.ensures;
}

pub returns : goal.returns
returns c =
    missing_put c.args.row (target_of c.args.self.now) (target_of c.put_zero.new.self)
    (target_of c.put_presence.new.self) c.put_zero.ensures c.put_presence.ensures
