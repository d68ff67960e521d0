use Rattle.lexical_tables.proofs.numerals.AmountBytes.{shuffled}
use Rattle.lexical_tables.proofs.amounts.bytes_without.Goals as goal

pub returns : goal.returns
returns c = shuffled c.args.place _ c.args.text.now c.requires.few c.requires.room
