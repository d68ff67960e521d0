use Rattle.lexical_parse_integer.proofs.theorems.Locality.{is_local}
use Rattle.lexical_parse_integer.proofs.laws.grammar.locality.Goals as goal

pub returns : goal.returns
returns c = is_local
