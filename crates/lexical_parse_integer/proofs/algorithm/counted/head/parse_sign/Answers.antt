use Rattle.lexical_parse_integer.proofs.Folds.{fact_of}
use Rattle.lexical_parse_integer.proofs.reading.ParserAnswers.{stays_at_front}
use Rattle.lexical_parse_integer.proofs.algorithm.counted.head.parse_sign.Goals as goal

pub returns-else-required_mantissa_sign-clause-moved : goal.returns-else-required_mantissa_sign-clause-moved
returns-else-required_mantissa_sign-clause-moved g c = stays_at_front c.args.c.now (fact_of c.assert_invariant.ensures) c.requires
