use Rattle.std.proofs.Common.{◌≤◌, ◌-◌, ◌*◌, ◌^◌, ◌+◌, ◌∙◌, arith, ap, pos}
use Rattle.std.proofs.Math.Nat.{one-le-pow, pow-le-pow_right}
use Rattle.lexical_fixed.proofs.Appended.{at_once_most, power_joined}
use Rattle.lexical_fixed.proofs.append.scale_for.Goals as goal

pub join_parts-requires-clause-some : goal.join_parts-requires-clause-some
join_parts-requires-clause-some g c =
    let one : 1 ≤ 10 ^ (c.args.count - 8) = one-le-pow (c.args.count - 8) 10 (omega arith) in
    omega (arith, one, c.power_of_ten.ensures)

pub join_parts-requires-clause-scale : goal.join_parts-requires-clause-scale
join_parts-requires-clause-scale g c =
    let most = at_once_most g.T.Integer.TYPE g.met.T.Integer.width_law in
    let few : c.args.count - 8 ≤ 8 = omega (arith, most, c.requires) in
    let power : 10 ^ (c.args.count - 8) ≤ 10 ^ 8 = pow-le-pow_right {n = 10} (omega arith) few in
    omega (arith, power, c.power_of_ten.ensures)

pub returns-then-count-gt8 : goal.returns-then-count-gt8
returns-then-count-gt8 g c =
    c.join_parts.ensures.value ∙ ap (λ n. pos (100000000 * n + 0)) c.power_of_ten.ensures ∙ ap pos (power_joined c.args.count (omega (arith, c.if-count-gt8.true)))
