use Rattle.std.proofs.Common.{◌/◌, ◌%◌, arith}
use Rattle.answer_lines.specs.Decimal.{decimal_text, two_digits}
use Rattle.answer_lines.proofs.DecimalSteps.{decimal_pair_step, digits_behind}
use Rattle.answer_lines.proofs.decimal.add_few.Goals as goal

pub returns-clause-written : goal.returns-clause-written
returns-clause-written c =
    digits_behind _ _ _ (decimal_text (c.args.n / 100)) (two_digits (c.args.n % 100)) _ c.add_one_or_two-start.ensures.written c.add_two.ensures.written (decimal_pair_step c.args.n (omega arith))
