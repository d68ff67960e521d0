use Rattle.lexical_fixed.proofs.WholeByFront.{complete_by_front}
use Rattle.lexical_fixed.proofs.laws.whole_by_front.Goals as goal

pub returns : goal.returns
returns c = complete_by_front
