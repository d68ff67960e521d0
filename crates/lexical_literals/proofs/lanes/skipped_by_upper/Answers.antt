use Rattle.std.proofs.Common.{◌/◌, arith}
use Rattle.std.proofs.lemmas.Simd.{zip2_splat}
use Rattle.lexical_literals.specs.declared.lanes.TheConstants.{UPPER_OF_SKIPPED}
use Rattle.lexical_literals.proofs.KindLanes.{down, looked_up, upper_ok}
use Rattle.lexical_literals.proofs.lanes.skipped_by_upper.Goals as goal

pub swizzle : goal.swizzle
swizzle c = upper_ok c.args.lanes c.fits-lanes

pub returns : goal.returns
returns c =
    let v = c.args.lanes in
    looked_up UPPER_OF_SKIPPED (λ x. x / 16) v _ c.fits-lanes (zip2_splat down v 16 4 c.fits-lanes.0) (λ x h. omega arith)
