use Rattle.lexical_tables.proofs.skipped.InParts.{skipping_in_parts}
use Rattle.lexical_tables.proofs.skipping.skipping_in_parts.Goals as goal

pub returns : goal.returns
returns c = skipping_in_parts
