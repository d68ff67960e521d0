use Rattle.lexical_laws.proofs.LooserFormats.{relaxing_keeps}
use Rattle.lexical_laws.proofs.relaxing.Goals as goal

pub returns : goal.returns
returns c = relaxing_keeps
