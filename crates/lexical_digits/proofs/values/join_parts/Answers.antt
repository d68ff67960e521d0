use Rattle.std.proofs.Common.{arith, ◌∙◌}
use Rattle.lexical_digits.proofs.LongNumbers.{joined_fit, parts_worth, word_fits, from_zero}
use Rattle.lexical_digits.proofs.values.join_parts.Goals as goal

pub from_u32-requires : goal.from_u32-requires
from_u32-requires g c = word_fits _ c.args.high g.met.T.Integer.width_law c.requires.bits (omega (arith, c.requires.high))

pub from_u32-requires-2 : goal.from_u32-requires-2
from_u32-requires-2 g c = word_fits _ c.args.scale g.met.T.Integer.width_law c.requires.bits (omega (arith, c.requires.scale))

pub from_u32-requires-3 : goal.from_u32-requires-3
from_u32-requires-3 g c = word_fits _ c.args.low g.met.T.Integer.width_law c.requires.bits (omega (arith, c.requires.low))

pub mul_add-requires-clause-fits : goal.mul_add-requires-clause-fits
mul_add-requires-clause-fits g c = joined_fit _ _ _ _ _ _ _ g.met.T.Integer.width_law c.requires.bits c.from_u32.ensures c.requires.high c.from_u32-2.ensures c.requires.scale c.from_u32-3.ensures c.requires.low

pub returns-clause-value : goal.returns-clause-value
returns-clause-value g c = c.mul_add.ensures ∙ parts_worth _ _ _ _ _ _ c.from_u32.ensures c.from_u32-2.ensures c.from_u32-3.ensures

pub returns-clause-positive : goal.returns-clause-positive
returns-clause-positive g c = from_zero _ _ (c.mul_add.ensures ∙ parts_worth _ _ _ _ _ _ c.from_u32.ensures c.from_u32-2.ensures c.from_u32-3.ensures)
