use Rattle.std.proofs.Common.{◌/◌, ◌%◌, ◌^◌, arith}
use Rattle.answer_lines.specs.Decimal.{decimal_text, eight_digits}
use Rattle.answer_lines.proofs.DecimalSteps.{decimal_eight_step, digits_behind}
use Rattle.answer_lines.proofs.decimal.add_to_twelve.Goals as goal

pub returns-clause-written : goal.returns-clause-written
returns-clause-written c =
    digits_behind _ _ _ (decimal_text (c.args.n / 10 ^ 8)) (eight_digits (c.args.n % 10 ^ 8)) _ c.add_few-start.ensures.written c.add_eight.ensures.written (decimal_eight_step c.args.n (omega arith))
