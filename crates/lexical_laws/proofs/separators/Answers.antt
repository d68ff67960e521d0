use Rattle.lexical_laws.proofs.WithoutSeparators.{less_is_read}
use Rattle.lexical_laws.proofs.separators.Goals as goal

pub returns : goal.returns
returns c = less_is_read
