use Rattle.std.proofs.Common.{◌≤◌, length}
use Rattle.lexical_tables.proofs.skipped.RowPlaces.{IsPassedTo}
use Rattle.lexical_tables.proofs.places.row_place.Given as goal

-- `count` rows were passed
abbrev pub invariant-loop-rest : goal.invariant-loop-rest
invariant-loop-rest l = IsPassedTo l.dialect l.text l.count l.rest × (l.count ≤ l.row)

abbrev pub decreases-loop-rest : goal.decreases-loop-rest
decreases-loop-rest l = length l.rest
