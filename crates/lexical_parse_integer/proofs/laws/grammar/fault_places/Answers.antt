use Rattle.lexical_parse_integer.proofs.theorems.FaultPlaces.{complete_faults_within, partial_faults_within}
use Rattle.lexical_parse_integer.proofs.laws.grammar.fault_places.Goals as goal

pub returns-clause-front : goal.returns-clause-front
returns-clause-front c = partial_faults_within

pub returns-clause-whole : goal.returns-clause-whole
returns-clause-whole c = complete_faults_within
