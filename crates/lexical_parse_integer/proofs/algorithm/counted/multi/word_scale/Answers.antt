use Rattle.std.proofs.Common.{◌≤◌, ◌^◌, arith}
use Rattle.std.proofs.Math.Nat.{pow-le-pow_left}
use Rattle.lexical_parse_integer.proofs.words.WordsInTexts.{word_number}
use Rattle.lexical_parse_integer.proofs.algorithm.counted.multi.word_scale.Goals as goal

pub pow-requires : goal.pow-requires
pow-requires g c = let most : c.args.radix ^ 8 ≤ 10 ^ 8 = pow-le-pow_left c.requires.radix 8 in omega arith

pub pow-requires-else-BITS-ge64 : goal.pow-requires-else-BITS-ge64
pow-requires-else-BITS-ge64 g c = let most : c.args.radix ^ 4 ≤ 10 ^ 4 = pow-le-pow_left c.requires.radix 4 in omega arith

pub from_u32-requires-else-BITS-ge64 : goal.from_u32-requires-else-BITS-ge64
from_u32-requires-else-BITS-ge64 g c =
    let most : c.args.radix ^ 4 ≤ 10 ^ 4 = pow-le-pow_left c.requires.radix 4 in
    let power = c.pow-else-BITS-ge64.ensures in
    let wide = c.requires.bits in
    let bits = g.met.T.Integer.bits_law in
    word_number _ _ _ g.met.T.Integer.width_law (omega arith) (omega arith)
