use Rattle.std.proofs.Common.{arith}
use Rattle.std.proofs.lemmas.Grind.{common_steps}
use Rattle.answer_lines.proofs.command.TypeName.of_name.Goals as goal

pub returns-in-usize : goal.returns-in-usize
returns-in-usize c = grind (arith, common_steps)

pub returns-in-isize : goal.returns-in-isize
returns-in-isize c = grind (arith, common_steps)
