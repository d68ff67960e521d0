use Rattle.std.proofs.Common.{◌/◌, ◌%◌, ◌^◌, arith}
use Rattle.answer_lines.specs.Decimal.{decimal_text, four_digits}
use Rattle.answer_lines.proofs.DecimalSteps.{decimal_four_step, digits_behind}
use Rattle.answer_lines.proofs.decimal.add_to_eight.Goals as goal

pub returns-clause-written : goal.returns-clause-written
returns-clause-written c =
    digits_behind _ _ _ (decimal_text (c.args.n / 10 ^ 4)) (four_digits (c.args.n % 10 ^ 4)) _ c.add_few-start.ensures.written c.add_four.ensures.written (decimal_four_step c.args.n (omega arith))
