use Rattle.lexical_digits.proofs.LongNumbers.{value_written}
use Rattle.lexical_digits.proofs.values.value_to_16.Goals as goal

pub returns : goal.returns
returns g c = value_written g.T.Integer.number g.T.Integer.TYPE c.args.is_negative c.args.digits.now _ c.value_of_parts.result c.in_ok-high.ensures.writes c.value_of_parts.ensures.value c.value_of_parts.ensures.fits

pub returns-then-n-le4 : goal.returns-then-n-le4
returns-then-n-le4 g c = value_written g.T.Integer.number g.T.Integer.TYPE c.args.is_negative c.args.digits.now _ c.value_to_8.result c.in_ok-number_to_4.ensures.writes c.value_to_8.ensures.value c.value_to_8.ensures.fits

pub returns-then-n-le8 : goal.returns-then-n-le8
returns-then-n-le8 g c = value_written g.T.Integer.number g.T.Integer.TYPE c.args.is_negative c.args.digits.now _ c.value_to_8-then-n-le8.result c.in_ok-number_to_8.ensures.writes c.value_to_8-then-n-le8.ensures.value c.value_to_8-then-n-le8.ensures.fits
