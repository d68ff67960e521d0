use Rattle.lexical_fixed.proofs.FrontByWhole.{partial_ends}
use Rattle.lexical_fixed.proofs.laws.front_end.Goals as goal

pub returns : goal.returns
returns c = partial_ends
