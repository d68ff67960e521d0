use Rattle.lexical_tables.proofs.ColumnsInParts.{columns_in_parts}
use Rattle.lexical_tables.proofs.parts.columns_in_parts.Goals as goal

pub returns : goal.returns
returns c = columns_in_parts
