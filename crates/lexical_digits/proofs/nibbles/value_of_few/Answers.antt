use Rattle.lexical_digits.proofs.BlockValues.{few_written}
use Rattle.lexical_digits.proofs.nibbles.value_of_few.Goals as goal

pub returns-in-Some : goal.returns-in-Some
returns-in-Some g c =
    few_written g.T.Integer.number g.T.Integer.TYPE c.args.is_negative c.args.digits.now c.in-Some.high c.in-Some.low _ c.value_to_8.result c.requires.few
    c.in-Some.ensures c.value_to_8.ensures.value c.value_to_8.ensures.fits
