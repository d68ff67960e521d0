use Rattle.std.proofs.Common.{arith}
use Rattle.lexical_digits.proofs.WordsInFront.{later_word}
use Rattle.lexical_digits.proofs.fronts.next_word.Goals as goal

pub returns : goal.returns
returns c = later_word c.args.text.now c.args.at _ (λ k. let f = c.type_inv.text k in omega arith) c.requires.behind c.requires.within c.if-rest-ge8.false c.word_at-2.ensures
