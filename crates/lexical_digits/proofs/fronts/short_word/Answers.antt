use Rattle.std.proofs.Common.{arith}
use Rattle.lexical_digits.proofs.WordsInFront.{few_bytes}
use Rattle.lexical_digits.proofs.fronts.short_word.Goals as goal

pub returns : goal.returns
returns c = few_bytes c.args.text.now c.requires.some c.requires.few (λ k. let f = c.type_inv.text k in omega arith)
