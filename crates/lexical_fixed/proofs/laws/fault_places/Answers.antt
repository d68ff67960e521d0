use Rattle.lexical_fixed.proofs.FaultPlaces.{front_faults_within, whole_faults_within}
use Rattle.lexical_fixed.proofs.laws.fault_places.Goals as goal

pub returns-clause-whole : goal.returns-clause-whole
returns-clause-whole c = λ fixed type text. whole_faults_within fixed type text (c.fault_places.ensures.front fixed.integer type text)

pub returns-clause-front : goal.returns-clause-front
returns-clause-front c = λ fixed type text. front_faults_within fixed type text (c.fault_places.ensures.front fixed.integer type text)
