use Rattle.std.proofs.Common.{arith}
use Rattle.std.proofs.lemmas.Grind.{common_steps}
use Rattle.answer_lines.proofs.field.truth_in.Goals as goal

pub returns-in-false : goal.returns-in-false
returns-in-false c = grind (arith, common_steps)
