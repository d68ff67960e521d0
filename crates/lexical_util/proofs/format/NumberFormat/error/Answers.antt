use Rattle.std.proofs.Common.{sym}
use Rattle.lexical_util.proofs.FormatKinds.{fault_none}
use Rattle.lexical_util.proofs.format.NumberFormat.error.Goals as goal

pub returns-in_default : goal.returns-in_default
returns-in_default c = sym (fault_none _ _ _ c.self.invariant c.self.view_is c.in_default.not-Invalid)
