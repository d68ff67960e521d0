use Rattle.std.proofs.Common.{arith, w8}
use Rattle.std.proofs.lemmas.Simd.{bitmask_splat}
use Rattle.lexical_fields.proofs.ThreeDigits.{lanes_small}
use Rattle.lexical_fields.proofs.threes.are_digits.Goals as goal

pub returns : goal.returns
returns c = λ all. lanes_small c.args.lanes _ c.requires (bitmask_splat w8 _ c.args.lanes 16 9 c.requires (omega
    arith)) all
