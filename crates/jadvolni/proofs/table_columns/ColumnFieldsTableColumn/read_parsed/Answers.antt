use Rattle.std.proofs.Common.{sym, take}
use Rattle.jadvolni.specs.Tables.{target_of}
use Rattle.jadvolni.proofs.TableBits.{no_texts, number_alone}
use Rattle.jadvolni.proofs.table_columns.ColumnFieldsTableColumn.read_parsed.Goals as goal

pub put_bare_number-requires-clause-numbers : goal.put_bare_number-requires-clause-numbers
put_bare_number-requires-clause-numbers c = no_texts (target_of c.args.self.now) c.requires.numbers

pub returns-clause-target : goal.returns-clause-target
returns-clause-target c = λ did.
    number_alone c.args.row (record { start = 0; text = take c.args.size c.args.ahead.now }) (target_of c.args.self.now)
    (target_of c.put_bare_number.new.self) c.requires.bits (sym (c.put_bare_number.ensures.fault did))
    (c.put_bare_number.ensures.target did)
