use Rattle.std.proofs.Common.{◌∙◌, ◌-◌, ap, arith}
use Rattle.lexical_fixed.proofs.Fractions.{places_most}
use Rattle.lexical_fixed.proofs.Units.{by_byte, by_digit, by_missing, by_zeros}
use Rattle.lexical_fixed.proofs.parse.units_behind.Goals as goal

pub returns-in-Err : goal.returns-in-Err
returns-in-Err g c =
    by_digit c.args.format.now g.T.Integer.TYPE c.args.text.now (g.T.Integer.number c.args.whole) c.args.place c.args.stop c.args.cannot_stand c.args.is_missing _
    (rw (c.fraction-digits.ensures.answer, c.is_negative-is_negative.ensures) at c.in-Err.ensures.answer)

pub returns-then-cannot_stand : goal.returns-then-cannot_stand
returns-then-cannot_stand g c =
    rw c.if-cannot_stand.true (by_byte c.args.format.now g.T.Integer.TYPE c.args.text.now (g.T.Integer.number c.args.whole) c.args.place c.args.stop c.args.is_missing _
    (rw (c.fraction-digits.ensures.answer, c.is_negative-is_negative.ensures) at c.in-Ok.ensures.answer))

pub returns-then-is_missing : goal.returns-then-is_missing
returns-then-is_missing g c =
    rw (c.if-cannot_stand.false, c.if-is_missing.true) (by_missing c.args.format.now g.T.Integer.TYPE c.args.text.now (g.T.Integer.number c.args.whole) c.args.place c.args.stop _
    (rw (c.fraction-digits.ensures.answer, c.is_negative-is_negative.ensures) at c.in-Ok.ensures.answer))

pub overflow_sub-zeros : goal.overflow_sub-zeros
overflow_sub-zeros g c =
    let most = places_most c.args.format.now c.args.text.now c.args.place in
    omega (arith, c.requires.count, c.places.ensures)

pub returns : goal.returns
returns g c =
    rw (c.if-cannot_stand.false, c.if-is_missing.false) (by_zeros c.args.format.now g.T.Integer.TYPE c.args.text.now (g.T.Integer.number c.args.whole) c.args.place c.args.stop _ _ _
    (rw (c.fraction-digits.ensures.answer, c.is_negative-is_negative.ensures) at c.in-Ok.ensures.answer)
    (ap (λ n. n - c.args.count) c.places.ensures ∙ ap (λ n. c.args.format.now.places - n) c.requires.count)
    (rw c.is_negative-is_negative.ensures at c.read_zeros.ensures))
