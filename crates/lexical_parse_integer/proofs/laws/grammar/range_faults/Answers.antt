use Rattle.lexical_parse_integer.proofs.theorems.RangeFaultPlaces.{complete_leaves_within, partial_leaves_within}
use Rattle.lexical_parse_integer.proofs.laws.grammar.range_faults.Goals as goal

pub returns-clause-front : goal.returns-clause-front
returns-clause-front c = partial_leaves_within

pub returns-clause-whole : goal.returns-clause-whole
returns-clause-whole c = complete_leaves_within
