use Rattle.std.proofs.Common.{arith}
use Rattle.std.proofs.Math.Nat.{one-le-pow}
use Rattle.lexical_digits.proofs.LongNumbers.{from_one}
use Rattle.lexical_fixed.proofs.append.append_part.Goals as goal

pub checked_mul_add-requires-clause-scale : goal.checked_mul_add-requires-clause-scale
checked_mul_add-requires-clause-scale g c = from_one _ _ c.scale_for.ensures (one-le-pow c.args.count 10 (omega arith))
