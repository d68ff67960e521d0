use Rattle.lexical_fixed.proofs.FrontByWhole.{partial_by_whole}
use Rattle.lexical_fixed.proofs.laws.front_by_whole.Goals as goal

pub returns : goal.returns
returns c = partial_by_whole
