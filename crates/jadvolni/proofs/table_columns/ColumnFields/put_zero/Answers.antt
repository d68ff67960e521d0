use Rattle.std.proofs.Common.{◌∙◌, sym}
use Rattle.jadvolni.proofs.ColumnNumbers.{room_for, zero_there}
use Rattle.jadvolni.proofs.table_columns.ColumnFields.put_zero.Goals as goal

pub put_zero-requires : goal.put_zero-requires
put_zero-requires c = record { room = room_for c.args.self.now c.args.row c.requires.usable }

pub returns-else-is_text : goal.returns-else-is_text
returns-else-is_text c =
    zero_there c.args.self.now c.put_zero.new.self (sym c.is_text.ensures ∙ c.if-is_text.false) c.args.row c.put_zero.ensures
