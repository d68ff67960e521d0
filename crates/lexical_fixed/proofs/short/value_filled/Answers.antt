use Rattle.std.proofs.Common.{◌≡◌, ◌-◌, ◌^◌, ◌==◌, arith, ap, false, subst}
use Rattle.std.proofs.Math.IntN.{pos}
use Rattle.std.proofs.lemmas.Bool.Decides.{nat_tests}
use Rattle.std.specs.Prelude.{IfSome}
use Rattle.lexical_util.specs.Number.{mul_add}
use Rattle.lexical_fixed.specs.Parted.{IsParted}
use Rattle.lexical_fixed.specs.Quick.{IsJoined, without_point}
use Rattle.lexical_fixed.proofs.ShortUnits.{filled_units, filled_whole}
use Rattle.lexical_fixed.proofs.short.value_filled.Goals as goal

pub returns-then-count-eq0 : goal.returns-then-count-eq0
returns-then-count-eq0 g c =
    let format = c.args.format.now in
    let digits = c.args.digits.now in
    let none : c.in_ok-count.count ≡ 0 = grind (arith, nat_tests, c.if-count-eq0.true) in
    let all : c.places.result - c.in_ok-count.count ≡ format.places - 0 = omega (arith, none, c.places.ensures) in
    filled_whole g.T.Integer.number format g.T.Integer.TYPE c.args.is_negative digits (g.T.Integer.number c.in_ok-written.written) c.append_number.result
    (subst (λ n. IsParted format digits n) none c.in_ok-count.ensures.parted) c.in_ok-written.ensures
    (subst (λ n. IfSome c.append_number.result (λ value. g.T.Integer.number value ≡ mul_add c.args.is_negative (g.T.Integer.number c.in_ok-written.written) (pos (10 ^ n)) (pos 0))) all c.append_number.ensures.value)
    c.append_number.ensures.fits

pub returns : goal.returns
returns g c =
    let format = c.args.format.now in
    let digits = c.args.digits.now in
    let count = c.in_ok-count.count in
    let written = c.in_ok-written-2.ensures in
    let some : (count == 0) ≡ false = grind (arith, nat_tests, c.if-count-eq0.false) in
    let joined : IsJoined (without_point count digits) written.number = rw some written.joined in
    let rest : c.places.result - count ≡ format.places - count = ap (λ n. n - count) c.places.ensures in
    filled_units g.T.Integer.number format g.T.Integer.TYPE c.args.is_negative digits count written.number (g.T.Integer.number c.in_ok-written-2.written) c.append_number-2.result
    c.in_ok-count.ensures.parted joined written.worth
    (subst (λ n. IfSome c.append_number-2.result (λ value. g.T.Integer.number value ≡ mul_add c.args.is_negative (g.T.Integer.number c.in_ok-written-2.written) (pos (10 ^ n)) (pos 0))) rest c.append_number-2.ensures.value)
    c.append_number-2.ensures.fits
