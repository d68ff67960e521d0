use Rattle.std.proofs.Common.{◌≡◌, ◌≤◌, ◌+◌, ◌-◌, ◌*◌, ◌^◌, ◌∙◌, ap, arith, inl, length, subst, sym}
use Rattle.std.proofs.Math.Nat.{one-le-pow, pow-le-pow_right}
use Rattle.lexical_fixed.specs.Quick.{HasPoint, IsJoined, without}
use Rattle.lexical_fixed.proofs.ShortUnits.{found_units, parted_by, point_there}
use Rattle.lexical_fixed.proofs.short.value_of_few.Goals as goal

pub value_of_parts-requires-clause-some : goal.value_of_parts-requires-clause-some
value_of_parts-requires-clause-some g c = let one = one-le-pow (c.places-places.result - c.in_ok-count.count) 10 (omega arith) in omega (arith, one, c.power_of_ten.ensures)

pub value_of_parts-requires-clause-scale : goal.value_of_parts-requires-clause-scale
value_of_parts-requires-clause-scale g c =
    let zeros = c.places-places.result - c.in_ok-count.count in
    let most : zeros ≤ 9 = omega (arith, c.places-places.ensures, c.in_ok-count.ensures.few) in
    let power : 10 ^ zeros ≤ 10 ^ 9 = pow-le-pow_right {n = 10} (omega arith) most in
    omega (arith, power, c.power_of_ten.ensures)

pub returns-in-Some : goal.returns-in-Some
returns-in-Some g c =
    let digits = c.args.digits.now in
    let places = c.args.format.now.places in
    let at : HasPoint c.args.format.now digits places = subst (λ n. HasPoint c.args.format.now digits n) c.places-places.ensures c.in-Some.ensures.point in
    let number = c.in_ok-number.number in
    let place_is = c.in-Some.ensures.place ∙ ap (λ n. length digits - 1 - n) c.places-places.ensures in
    let joined : IsJoined (without (length digits - 1 - places) digits) number = subst (λ n. IsJoined (without n digits) number) place_is c.in_ok-number.ensures.joined in
    let none : places - places ≡ 0 = omega arith in
    let units : number ≡ number * 10 ^ (places - places) = sym (ap (λ n. number * 10 ^ n) none ∙ omega arith) in
    found_units g.T.Integer.number c.args.format.now g.T.Integer.TYPE c.args.is_negative digits places number number c.value_to_8.result
    (parted_by c.args.format.now digits places (omega arith) (inl (omega arith)) at) (point_there c.args.format.now digits places number at joined) units c.value_to_8.ensures.value c.value_to_8.ensures.fits

pub returns : goal.returns
returns g c =
    let count = c.in_ok-count.count in
    let number = c.in_ok-number-2.number in
    let scale = c.power_of_ten.result in
    let filled : number * scale ≡ number * 10 ^ (c.args.format.now.places - count) = ap (λ n. number * n) (c.power_of_ten.ensures ∙ ap (λ n. 10 ^ (n - count)) c.places-places.ensures) in
    let units : number * scale + 0 ≡ number * 10 ^ (c.args.format.now.places - count) = (let same : number * scale + 0 ≡ number * scale = omega arith in same) ∙ filled in
    found_units g.T.Integer.number c.args.format.now g.T.Integer.TYPE c.args.is_negative c.args.digits.now count number (number * scale + 0) c.value_of_parts.result
    c.in_ok-count.ensures.parted c.in_ok-number-2.ensures.joined units c.value_of_parts.ensures.value c.value_of_parts.ensures.fits
