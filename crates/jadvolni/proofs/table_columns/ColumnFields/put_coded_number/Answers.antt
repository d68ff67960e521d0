use Rattle.lexical_digits.specs.Value.{with_sign}
use Rattle.jadvolni.specs.Tables.{target_of}
use Rattle.jadvolni.proofs.ColumnCodes.{no_texts}
use Rattle.jadvolni.proofs.ColumnNumbers.{set_there}
use Rattle.jadvolni.proofs.table_columns.ColumnFields.put_coded_number.Goals as goal

pub returns-clause-target : goal.returns-clause-target
returns-clause-target c = λ did.
    set_there c.args.self.now c.put_coded.new.self (no_texts c.args.code (target_of c.args.self.now) c.requires.column)
    c.args.row (with_sign c.args.is_negative c.args.number) (c.put_coded.ensures.numbers did)
