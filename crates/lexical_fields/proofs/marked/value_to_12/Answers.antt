use Rattle.std.proofs.Common.{take}
use Rattle.lexical_digits.proofs.LongNumbers.{value_written}
use Rattle.lexical_fields.proofs.marked.value_to_12.Goals as goal

pub returns : goal.returns
returns g c =
    value_written g.T.Integer.number g.T.Integer.TYPE c.args.is_negative (take c.args.count c.args.digits.now) _
    c.value_of_parts.result c.in_ok-high.ensures.writes c.value_of_parts.ensures.value c.value_of_parts.ensures.fits
