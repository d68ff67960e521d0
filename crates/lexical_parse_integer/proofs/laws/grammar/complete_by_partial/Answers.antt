use Rattle.lexical_parse_integer.proofs.theorems.CompleteByPartial.{complete_is_completion}
use Rattle.lexical_parse_integer.proofs.theorems.WholeByFront.{complete_completes}
use Rattle.lexical_parse_integer.proofs.laws.grammar.complete_by_partial.Goals as goal

pub returns-clause-answer : goal.returns-clause-answer
returns-clause-answer c = complete_is_completion

pub returns-clause-sentences : goal.returns-clause-sentences
returns-clause-sentences c = complete_completes
