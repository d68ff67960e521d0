use Rattle.lexical_tables.proofs.ReadAlone.{is_read_alone}
use Rattle.lexical_tables.proofs.alone.columns_alone.Goals as goal

pub returns : goal.returns
returns c = is_read_alone
