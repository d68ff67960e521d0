use Rattle.std.proofs.Common.{refl, arith}
use Rattle.lexical_parse_integer.proofs.ForCallers.{plus_forbidden}
use Rattle.library_tests.proofs.tests.parser.laws.plus_in_no_turn.Goals as goal

pub returns : goal.returns
returns c = rw plus_forbidden at (c.complete_in_few_turns.ensures.few refl (omega arith))
