use Rattle.std.proofs.Common.{arith}
use Rattle.lexical_digits.specs.Words.{word_bytes}
use Rattle.lexical_digits.proofs.ShiftedWords.{joined_word}
use Rattle.lexical_digits.proofs.WordsOfDigits.{digits_below}
use Rattle.lexical_digits.proofs.digits.number_of_4digits.Goals as goal

pub returns-clause-value : goal.returns-clause-value
returns-clause-value c = joined_word c.args.word (let f = c.ranges.word in omega arith) c.requires

pub returns-clause-small : goal.returns-clause-small
returns-clause-small c =
    let value = joined_word c.args.word (let f = c.ranges.word in omega arith) c.requires in
    digits_below (word_bytes 4 c.args.word) _ c.requires value
