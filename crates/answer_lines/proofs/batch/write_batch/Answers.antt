use Rattle.std.proofs.Common.{subst}
use Rattle.answer_lines.specs.Gather.{GainsFront}
use Rattle.answer_lines.proofs.batch.write_batch.Goals as goal

pub returns-clause-front : goal.returns-clause-front
returns-clause-front g c = subst (GainsFront _ _) c.bytes.ensures c.write_out.ensures.front
