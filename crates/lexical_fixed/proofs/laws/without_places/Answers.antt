use Rattle.lexical_fixed.proofs.WithoutPlaces.{complete_without}
use Rattle.lexical_fixed.proofs.laws.without_places.Goals as goal

pub returns : goal.returns
returns c = λ fixed type text none. complete_without fixed type text none (c.complete_by_partial.ensures.answer fixed.integer type text)
