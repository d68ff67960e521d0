use Rattle.lexical_laws.proofs.DeadPlaces.{dead_place}
use Rattle.lexical_laws.proofs.WhatIsRead.{none_of}
use Rattle.lexical_laws.proofs.dead_places.Goals as goal

pub returns : goal.returns
returns c = λ format type text error place valid none off faulty at within other value same.
    dead_place format type text other error place value (c.locality.ensures format type valid none) (c.complete_by_partial.ensures.answer format type) (none_of format.digit_separator none) off faulty at within same
