use Rattle.std.proofs.Common.{◌++◌, ◌∙◌, ap, arith, sym, take}
use Rattle.answer_lines.proofs.DecimalSteps.{decimal_digit, decimal_two}
use Rattle.answer_lines.proofs.decimal.add_one_or_two.Goals as goal

pub returns-then-n-lt10-clause-written : goal.returns-then-n-lt10-clause-written
returns-then-n-lt10-clause-written c =
    c.add_byte.ensures.written
    ∙ ap (λ text. take c.args.end c.args.place.now ++ text) (sym (decimal_digit c.args.n (omega arith)))

pub returns-clause-written : goal.returns-clause-written
returns-clause-written c =
    c.add_two.ensures.written
    ∙ ap (λ text. take c.args.end c.args.place.now ++ text) (sym (decimal_two c.args.n (omega arith) (omega arith)))
