use Rattle.std.proofs.Common.{◌≡◌, ◌-◌, ◌*◌, ◌/◌, ◌%◌, ◌^◌, arith}
use Rattle.answer_lines.specs.Decimal.{decimal_text, sixteen_digits}
use Rattle.answer_lines.proofs.DecimalSteps.{decimal_sixteen_step, digits_behind}
use Rattle.answer_lines.proofs.decimal.add_wide.Goals as goal

pub returns-clause-written : goal.returns-clause-written
returns-clause-written c =
    let group : c.args.n - c.args.n / 10 ^ 16 * 10 ^ 16 ≡ c.args.n % 10 ^ 16 = omega arith in
    digits_behind _ _ _ (decimal_text (c.args.n / 10 ^ 16)) (sixteen_digits (c.args.n % 10 ^ 16)) _
    c.add_front-start.ensures.written (rw group at c.add_sixteen.ensures.written)
    (decimal_sixteen_step c.args.n (omega arith))
