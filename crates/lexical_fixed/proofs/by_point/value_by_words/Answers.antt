use Rattle.std.proofs.Common.{ℕ, arith, ◌≡◌, ◌∙◌, ◌-◌, List, ap, length, sym, subst, take, None}
use Rattle.std.specs.Prelude.{IfSome}
use Rattle.lexical_util.specs.Digit.{digit}
use Rattle.lexical_util.specs.Format.{Format}
use Rattle.lexical_parse_integer.specs.Plain.{keeps_zero_rule}
use Rattle.lexical_digits.proofs.LongNumbers.{sign_held}
use Rattle.lexical_fixed.specs.Around.{IsValueAround}
use Rattle.lexical_fixed.specs.Fraction.{read_zeros}
use Rattle.lexical_fixed.proofs.AmountsAround.{separator_no_digit, short_found}
use Rattle.lexical_fixed.proofs.by_point.value_by_words.Goals as goal

pub value_around_point-requires-clause-no_digit : goal.value_around_point-requires-clause-no_digit
value_around_point-requires-clause-no_digit g c =
    subst (λ (f : Format). IfSome f.digit_separator (λ byte. digit 10 byte ≡ None)) (sym c.integer-3.ensures) (separator_no_digit c.args.format.now c.requires.valid)

pub read_zeros-requires : goal.read_zeros-requires
read_zeros-requires g c =
    let around = c.in_ok-written.ensures in
    record { sign = sign_held c.args.is_negative (g.T.Integer.number c.in_ok-written.written) around.number around.worth }

pub returns-in-Ok : goal.returns-in-Ok
returns-in-Ok g c =
    let digits : List ℕ = c.args.digits.now in
    let format = c.args.format.now in
    let place = length digits - 1 - c.args.count in
    let written = g.T.Integer.number c.in_ok-written.written in
    short_found format g.T.Integer.TYPE c.args.is_negative digits c.args.count written (g.T.Integer.number c.in-Ok.units)
    (omega (arith, c.if-size-count.false))
    (omega (arith, c.if-count-eq0.false))
    (ap (λ (f : Format). f.required_mantissa_sign) (sym c.integer.ensures) ∙ sym c.required_mantissa_sign.ensures ∙ c.if-required_mantissa_sign.false)
    (ap (λ (f : Format). keeps_zero_rule f (take place digits)) (sym c.integer-2.ensures) ∙ sym c.keeps_zero_rule.ensures ∙ c.if-not-keeps_zero_rule.false)
    (subst (λ (f : Format). IsValueAround g.T.Integer.TYPE c.args.is_negative f place digits written) c.integer-3.ensures c.in_ok-written.ensures)
    (c.in-Ok.ensures ∙ ap (λ n. read_zeros g.T.Integer.TYPE c.args.is_negative written (n - c.args.count) 0) c.places.ensures)
