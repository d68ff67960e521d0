use Rattle.std.proofs.Common.{arith, ◌∙◌}
use Rattle.lexical_digits.proofs.WordsInFront.{shifted_front}
use Rattle.lexical_digits.proofs.digits.number_of_front.Goals as goal

pub overflow_add-digits : goal.overflow_add-digits
overflow_add-digits c =
    let holds = shifted_front c.args.count c.args.word c.requires.some c.requires.few (let f = c.ranges.word in omega arith) c.requires.digits in
    record { fits = holds.small }

pub number_of_digits-requires : goal.number_of_digits-requires
number_of_digits-requires c =
    let holds = shifted_front c.args.count c.args.word c.requires.some c.requires.few (let f = c.ranges.word in omega arith) c.requires.digits in
    holds.digits

pub returns-clause-value : goal.returns-clause-value
returns-clause-value c =
    let holds = shifted_front c.args.count c.args.word c.requires.some c.requires.few (let f = c.ranges.word in omega arith) c.requires.digits in
    c.number_of_digits.ensures.value ∙ holds.worth
