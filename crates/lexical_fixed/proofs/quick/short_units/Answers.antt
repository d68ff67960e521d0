use Rattle.std.proofs.Common.{◌≡◌, ◌≤◌, ◌-◌, ap, arith, inl, inr, refl, sym, true}
use Rattle.std.proofs.lemmas.Bool.Decides.{nat_tests}
use Rattle.lexical_fixed.proofs.Fractions.{places_most}
use Rattle.lexical_fixed.proofs.QuickFronts.{front_joined}
use Rattle.lexical_fixed.proofs.quick.short_units.Goals as goal

pub overflow_sub-zeros : goal.overflow_sub-zeros
overflow_sub-zeros g c =
    let most = places_most c.args.format.now c.args.text.now c.args.place in
    omega (arith, c.requires.fraction.counted, c.places.ensures)

pub returns-then-zeros-eq0 : goal.returns-then-zeros-eq0
returns-then-zeros-eq0 g c =
    let f = c.args.format.now in
    let next = g.T.Integer.number c.in-Some.written in
    let none : c.places.result - c.args.count ≡ 0 = grind (arith, nat_tests, c.if-zeros-eq0.true) in
    let left : c.places.result - c.args.count ≡ f.places - c.args.count = ap (λ n. n - c.args.count) c.places.ensures in
    let full : f.places ≤ c.args.count = omega (arith, none, left) in
    front_joined f g.T.Integer.TYPE c.args.text.now (g.T.Integer.number c.args.whole) next next c.args.place c.args.number c.args.count (c.places.result - c.args.count) c.is_negative-is_negative.result c.is_negative-is_negative.ensures
    (rw (sym c.is_negative-is_negative.ensures) at c.requires.sign) c.requires.fraction c.in-Some.ensures.value c.in-Some.ensures.fits left (inl full) (inl (none, refl))

pub returns : goal.returns
returns g c =
    let f = c.args.format.now in
    let next = g.T.Integer.number c.in-Some.written in
    let units = g.T.Integer.number c.in-Some-append_number.units in
    let left : c.places.result - c.args.count ≡ f.places - c.args.count = ap (λ n. n - c.args.count) c.places.ensures in
    let fewer : f.takes_fewer ≡ true = sym c.if-not-takes_fewer.ensures in
    front_joined f g.T.Integer.TYPE c.args.text.now (g.T.Integer.number c.args.whole) next units c.args.place c.args.number c.args.count (c.places.result - c.args.count) c.is_negative-is_negative.result c.is_negative-is_negative.ensures
    (rw (sym c.is_negative-is_negative.ensures) at c.requires.sign) c.requires.fraction c.in-Some.ensures.value c.in-Some.ensures.fits left (inr fewer)
    (inr (c.in-Some-append_number.ensures.value, c.in-Some-append_number.ensures.fits))
