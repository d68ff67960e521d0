use Rattle.std.proofs.Common.{◌/◌, ◌%◌, refl}
use Rattle.answer_lines.specs.Decimal.{two_digits}
use Rattle.answer_lines.proofs.DecimalSteps.{digits_behind}
use Rattle.answer_lines.proofs.decimal.add_four.Goals as goal

pub returns-clause-written : goal.returns-clause-written
returns-clause-written c =
    digits_behind _ _ _ (two_digits (c.args.n / 100)) (two_digits (c.args.n % 100)) _ c.add_two-start.ensures.written c.add_two.ensures.written (refl)
