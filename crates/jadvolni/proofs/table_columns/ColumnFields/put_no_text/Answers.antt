use Rattle.std.proofs.Common.{◌∙◌}
use Rattle.jadvolni.specs.Tables.{target_of}
use Rattle.jadvolni.proofs.ColumnNumbers.{blank_text}
use Rattle.jadvolni.proofs.table_columns.ColumnFields.put_no_text.Goals as goal

pub returns : goal.returns
returns c =
    c.put_place.ensures ∙ blank_text c.args.self.now c.args.row (target_of c.args.self.now) c.requires.text
