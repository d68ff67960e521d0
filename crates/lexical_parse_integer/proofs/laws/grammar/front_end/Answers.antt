use Rattle.lexical_parse_integer.proofs.ForCallers.{partial_within}
use Rattle.lexical_parse_integer.proofs.theorems.NonEmptyFronts.{front_is_some}
use Rattle.lexical_parse_integer.proofs.laws.grammar.front_end.Goals as goal

pub returns-clause-within : goal.returns-clause-within
returns-clause-within c = partial_within

pub returns-clause-some : goal.returns-clause-some
returns-clause-some c = front_is_some
