use Rattle.lexical_laws.proofs.Canonical.{canonical}
use Rattle.lexical_laws.proofs.json_texts.Goals as goal

pub returns : goal.returns
returns c = λ type text value small. canonical type small c.numerals.ensures.shortest c.numerals.ensures.printed text value
