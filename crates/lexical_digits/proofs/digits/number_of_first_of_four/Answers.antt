use Rattle.std.proofs.Common.{arith, ◌∙◌, ◌-◌, ◌*◌}
use Rattle.lexical_digits.proofs.ShiftedWords.{holds_shifted}
use Rattle.lexical_digits.proofs.digits.number_of_first_of_four.Goals as goal

pub overflow_add-first : goal.overflow_add-first
overflow_add-first c =
    let holds = holds_shifted (c.args.length - 4) (64 - 8 * c.args.length) c.args.word (let a = c.requires.some in let b = c.requires.few in omega arith) (let a = c.requires.some in omega arith) (let b = c.requires.few in omega arith) (let f = c.ranges.word in omega arith) c.requires.digits in
    record { fits = holds.small }

pub number_of_4digits-requires : goal.number_of_4digits-requires
number_of_4digits-requires c =
    let holds = holds_shifted (c.args.length - 4) (64 - 8 * c.args.length) c.args.word (let a = c.requires.some in let b = c.requires.few in omega arith) (let a = c.requires.some in omega arith) (let b = c.requires.few in omega arith) (let f = c.ranges.word in omega arith) c.requires.digits in
    holds.digits

pub returns-clause-value : goal.returns-clause-value
returns-clause-value c =
    let holds = holds_shifted (c.args.length - 4) (64 - 8 * c.args.length) c.args.word (let a = c.requires.some in let b = c.requires.few in omega arith) (let a = c.requires.some in omega arith) (let b = c.requires.few in omega arith) (let f = c.ranges.word in omega arith) c.requires.digits in
    c.number_of_4digits.ensures.value ∙ holds.worth
