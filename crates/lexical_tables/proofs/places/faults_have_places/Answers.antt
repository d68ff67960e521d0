use Rattle.lexical_tables.proofs.skipped.RowPlaces.{fault_place}
use Rattle.lexical_tables.proofs.places.faults_have_places.Goals as goal

pub returns : goal.returns
returns c = fault_place
