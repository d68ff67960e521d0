use Rattle.std.proofs.Common.{arith}
use Rattle.lexical_digits.proofs.WordsInFront.{front_of_word}
use Rattle.lexical_digits.proofs.fronts.front_in_word.Goals as goal

pub returns-clause-front : goal.returns-clause-front
returns-clause-front c =
    let told = c.digits_ahead-count.ensures in
    front_of_word c.args.text.now c.args.word _ _ (λ k. let f = c.type_inv.text k in omega arith) c.requires told.few told.digits c.number_of_front.ensures.value told.stops
