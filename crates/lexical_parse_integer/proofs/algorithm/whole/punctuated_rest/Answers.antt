use Rattle.lexical_parse_integer.proofs.plain.DigitsAlone.{answered_if_valid}
use Rattle.lexical_parse_integer.proofs.algorithm.whole.punctuated_rest.Goals as goal

pub returns-in-Some : goal.returns-in-Some
returns-in-Some g c = answered_if_valid _ _ _ _ c.in-Some.ensures.valid c.in-Some.ensures.answer
