use Rattle.lexical_laws.proofs.OtherTypes.{types_agree, types_leave}
use Rattle.lexical_laws.proofs.types.Goals as goal

pub returns-clause-agree : goal.returns-clause-agree
returns-clause-agree c = types_agree

pub returns-clause-leave : goal.returns-clause-leave
returns-clause-leave c = types_leave
