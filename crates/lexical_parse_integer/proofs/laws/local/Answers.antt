use Rattle.lexical_parse_integer.proofs.theorems.Locality.{answers_local}
use Rattle.lexical_parse_integer.proofs.laws.local.Goals as goal

pub returns-clause-first : goal.returns-clause-first
returns-clause-first g c = c.algorithm_partial-first.ensures

pub returns-clause-second : goal.returns-clause-second
returns-clause-second g c = c.algorithm_partial-second.ensures

pub returns-clause-law : goal.returns-clause-law
returns-clause-law g c = λ none place settled same.
    answers_local g.T.Integer.number g.met.T.Integer.injective_law c.args.format.now _ c.args.bytes.now c.args.other.now _ _
    c.requires.valid c.algorithm_partial-first.ensures c.algorithm_partial-second.ensures none place settled same
