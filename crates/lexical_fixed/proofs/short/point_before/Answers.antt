use Rattle.std.proofs.Common.{◌≡◌, ◌≤◌, ◌+◌, ◌-◌, arith, get_or, length}
use Rattle.std.proofs.lemmas.Bool.Decides.{nat_tests}
use Rattle.lexical_fixed.proofs.ShortNumbers.{stands_there}
use Rattle.lexical_fixed.proofs.short.point_before.Goals as goal

pub returns-clause-point : goal.returns-clause-point
returns-clause-point c =
    let digits = c.args.digits.now in
    let count = c.args.count in
    let some : 1 ≤ count = grind (arith, nat_tests, c.if-count-eq0.false) in
    let within : count ≤ length digits - 2 = grind (arith, nat_tests, c.if-count-size.false) in
    let room : count + 2 ≤ length digits = omega (arith, within, c.requires) in
    let same : get_or digits (length digits - 1 - count) 0 ≡ c.args.format.now.point = grind (arith, nat_tests, c.if-digits-place.false, c.point.ensures) in
    record { behind = some; before = room; point = stands_there c.args.format.now.point digits (length digits - 1 - count) (omega (arith, room, some)) same }
