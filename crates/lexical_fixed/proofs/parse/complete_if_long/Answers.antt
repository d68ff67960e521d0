use Rattle.lexical_fixed.proofs.ShortNumbers.{no_zero_leads, plain_of}
use Rattle.lexical_fixed.proofs.parse.complete_if_long.Goals as goal

pub whole_at_once-requires-clause-plain : goal.whole_at_once-requires-clause-plain
whole_at_once-requires-clause-plain g c = plain_of c.args.format.now c.requires.valid c.requires.bare

pub whole_at_once-requires-clause-zeros : goal.whole_at_once-requires-clause-zeros
whole_at_once-requires-clause-zeros g c = λ digits behind. no_zero_leads c.args.format.now digits c.requires.bare
