use Rattle.std.proofs.Common.{◌+◌, refl, sym, take}
use Rattle.jadvolni.specs.Tables.{target_of}
use Rattle.jadvolni.proofs.TableBits.{number_read, number_usable}
use Rattle.jadvolni.proofs.table_columns.ColumnFieldsTableColumn.read_amount.Goals as goal

pub put_presence-requires : goal.put_presence-requires
put_presence-requires c = record {
  usable = number_usable (c.args.row + 1) c.args.row (record { start = 0; text = take c.args.size c.args.ahead.now })
      (target_of c.args.self.now) (target_of c.put_amount.new.self) c.requires.usable
      (c.if-not-put_amount.ensures.target refl 0);
}

pub returns-clause-target : goal.returns-clause-target
returns-clause-target c = λ yes start.
    number_read c.args.row (record { start = start; text = take c.args.size c.args.ahead.now })
    (target_of c.args.self.now) (target_of c.put_amount.new.self) (target_of c.put_presence.new.self)
    (sym (c.if-not-put_amount.ensures.fault refl start))
    (c.if-not-put_amount.ensures.target refl start) c.put_presence.ensures
