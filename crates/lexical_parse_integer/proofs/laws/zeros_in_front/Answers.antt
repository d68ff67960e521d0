use Rattle.lexical_parse_integer.proofs.theorems.ZerosInFront.{answers_padded}
use Rattle.lexical_parse_integer.proofs.laws.zeros_in_front.Goals as goal

pub returns-clause-first : goal.returns-clause-first
returns-clause-first g c = c.algorithm_complete-first.ensures

pub returns-clause-second : goal.returns-clause-second
returns-clause-second g c = c.algorithm_complete-second.ensures

pub returns-clause-law : goal.returns-clause-law
returns-clause-law g c =
    answers_padded g.T.Integer.number g.met.T.Integer.injective_law _ _ _ _ _
    c.algorithm_complete-first.ensures c.algorithm_complete-second.ensures
