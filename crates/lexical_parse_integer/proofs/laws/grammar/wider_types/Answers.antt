use Rattle.lexical_parse_integer.proofs.theorems.WiderTypes.{wider_read}
use Rattle.lexical_parse_integer.proofs.laws.grammar.wider_types.Goals as goal

pub returns : goal.returns
returns c = λ f t u text found same wide read. wider_read f t u text same wide found read
