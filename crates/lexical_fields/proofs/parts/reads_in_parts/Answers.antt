use Rattle.lexical_fields.proofs.FieldsInParts.{reads_in_parts}
use Rattle.lexical_fields.proofs.parts.reads_in_parts.Goals as goal

pub returns : goal.returns
returns c = reads_in_parts
