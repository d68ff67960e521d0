use Rattle.std.proofs.Common.{◌/◌, ◌%◌, ◌^◌, refl}
use Rattle.answer_lines.specs.Decimal.{eight_digits, sixteen_digits}
use Rattle.answer_lines.proofs.DecimalSteps.{digits_behind}
use Rattle.answer_lines.proofs.decimal.add_sixteen.Goals as goal

pub returns-clause-written : goal.returns-clause-written
unfolding sixteen_digits
returns-clause-written c =
    digits_behind _ _ _ (eight_digits (c.args.n / 10 ^ 8)) (eight_digits (c.args.n % 10 ^ 8)) _ c.add_eight-start.ensures.written c.add_eight.ensures.written (refl)
