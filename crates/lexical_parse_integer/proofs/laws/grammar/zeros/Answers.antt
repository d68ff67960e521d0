use Rattle.lexical_parse_integer.proofs.theorems.ZerosInFront.{reads_padded}
use Rattle.lexical_parse_integer.proofs.laws.grammar.zeros.Goals as goal

pub returns : goal.returns
returns c = reads_padded
