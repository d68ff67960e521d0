use Rattle.std.proofs.Common.{bit_and, arith}
use Rattle.std.proofs.lemmas.Nat.{and_le_r}
use Rattle.std.proofs.lemmas.Simd.{zip2_splat}
use Rattle.lexical_literals.specs.declared.lanes.TheConstants.{LOWER}
use Rattle.lexical_literals.proofs.KindLanes.{looked_up, lower_ok}
use Rattle.lexical_literals.proofs.lanes.by_lower.Goals as goal

pub swizzle : goal.swizzle
swizzle c = lower_ok c.args.lanes c.fits-lanes

pub returns : goal.returns
returns c =
    let v = c.args.lanes in
    looked_up LOWER (λ x. bit_and x 15) v _ c.fits-lanes (zip2_splat bit_and v 16 15 c.fits-lanes.0) (λ x h. omega (arith, and_le_r x 15))
