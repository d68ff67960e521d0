use Rattle.std.proofs.Common.{◌/◌, ◌%◌, ◌^◌, refl}
use Rattle.answer_lines.specs.Decimal.{eight_digits, four_digits}
use Rattle.answer_lines.proofs.DecimalSteps.{digits_behind}
use Rattle.answer_lines.proofs.decimal.add_eight.Goals as goal

pub returns-clause-written : goal.returns-clause-written
unfolding eight_digits
returns-clause-written c =
    digits_behind _ _ _ (four_digits (c.args.n / 10 ^ 4)) (four_digits (c.args.n % 10 ^ 4)) _ c.add_four-start.ensures.written c.add_four.ensures.written (refl)
