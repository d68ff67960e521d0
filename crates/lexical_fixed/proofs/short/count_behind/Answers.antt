use Rattle.std.proofs.Common.{◌≡◌, ◌≤◌, ◌<◌, ◌-◌, ◌+◌, arith, get_or, inr, length, true}
use Rattle.std.proofs.lemmas.Bool.Decides.{nat_tests}
use Rattle.lexical_fixed.proofs.ShortNumbers.{stands_there}
use Rattle.lexical_fixed.proofs.ShortUnits.{parted_by}
use Rattle.lexical_fixed.proofs.short.count_behind.Goals as goal

pub returns-then-digits-count-clause-parted : goal.returns-then-digits-count-clause-parted
returns-then-digits-count-clause-parted c =
    let format = c.args.format.now in
    let digits = c.args.digits.now in
    let count = c.loop-count.count in
    let place = length digits - 1 - count in
    let one : 1 ≤ count = c.loop-count.invariant in
    let less : count < c.places-places.result = grind (arith, nat_tests, c.loop-count-test.true) in
    let room : count + 2 ≤ length digits = grind (arith, nat_tests, c.loop-count-test.true) in
    let few : count ≤ format.places = omega (arith, less, c.places-places.ensures) in
    let same : get_or digits place 0 ≡ format.point = grind (arith, nat_tests, c.if-digits-count.true, c.point.ensures) in
    let takes : format.takes_fewer ≡ true = grind (arith, nat_tests, c.if-not-takes_fewer.false, c.takes_fewer.ensures) in
    parted_by format digits count few (inr takes) (record {
      behind = one;
      before = room;
      point = stands_there format.point digits place (omega (arith, room)) same;
    })
