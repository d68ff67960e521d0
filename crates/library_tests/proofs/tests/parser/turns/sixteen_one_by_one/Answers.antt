use Rattle.std.proofs.Common.{refl}
use Rattle.library_tests.proofs.WorkedTurns.{sixteen_one_by_one}
use Rattle.library_tests.proofs.tests.parser.turns.sixteen_one_by_one.Goals as goal

pub returns : goal.returns
returns c =
    let told = c.algorithm_complete_on-answer.ensures in
    let stop = rw c.new-c.ensures at told.at_stop in
    sixteen_one_by_one _ _ stop (told.each refl)
