use Rattle.std.proofs.Common.{arith}
use Rattle.lexical_digits.proofs.WordsOfDigits.{few_write}
use Rattle.lexical_digits.proofs.digits.number_to_4.Goals as goal

pub returns-clause-writes : goal.returns-clause-writes
returns-clause-writes c =
    few_write c.args.text.now c.spread-word.result c.requires.some c.requires.few (λ k. let f = c.type_inv.text k in omega arith) c.spread-word.ensures (c.is_8digits.ensures.0 c.if-not-is_8digits.false)
