use Rattle.std.proofs.lemmas.Simd.{Each2-splat, zip2_splat}
use Rattle.lexical_digits.proofs.DigitLanes.{bytes_above}
use Rattle.lexical_digits.proofs.lanes.digits_in_8.Goals as goal

pub overflow_sub-result : goal.overflow_sub-result
overflow_sub-result c = Each2-splat _ c.args.lanes 8 48 (bytes_above c.args.radix c.args.lanes c.requires)

pub returns : goal.returns
returns c = zip2_splat _ c.args.lanes 8 48 c.fits-lanes.0
