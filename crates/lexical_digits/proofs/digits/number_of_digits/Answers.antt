use Rattle.lexical_digits.proofs.WordsOfDigits.{word_small}
use Rattle.lexical_digits.proofs.digits.number_of_digits.Goals as goal

pub returns-clause-small : goal.returns-clause-small
returns-clause-small c = word_small c.args.word c.parse_8digits.result c.requires c.parse_8digits.ensures
