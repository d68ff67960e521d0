use Rattle.std.proofs.Common.{refl}
use Rattle.library_tests.proofs.WorkedTurns.{three_one_by_one}
use Rattle.library_tests.proofs.tests.parser.turns.three_one_by_one.Goals as goal

pub returns : goal.returns
returns c =
    let told = c.algorithm_partial_on-answer.ensures in
    let stop = rw c.new-c.ensures at told.at_stop in
    three_one_by_one _ _ stop (told.each refl)
