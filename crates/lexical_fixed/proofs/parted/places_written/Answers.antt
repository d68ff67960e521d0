use Rattle.std.proofs.Common.{◌≡◌, ◌-◌, ◌∙◌, arith, get_or, length}
use Rattle.lexical_fixed.proofs.ShortNumbers.{stands_there}
use Rattle.lexical_fixed.proofs.parted.places_written.Goals as goal

pub returns-then-digits-size : goal.returns-then-digits-size
returns-then-digits-size c =
    let digits = c.args.digits.now in
    let count = c.loop-count.count in
    let same : get_or digits (length digits - 1 - count) 0 ≡ c.args.format.now.point = c.if-digits-size.true ∙ c.point.ensures in
    record {
      some = omega arith;
      room = omega (arith, c.min-most.ensures, c.places-places.ensures, c.if-count-most.true);
      taken = c.loop-count.invariant;
      before = λ one. omega (arith, c.min-most.ensures, c.saturating_sub.ensures, c.if-count-most.true);
      point = λ one. stands_there c.args.format.now.point digits (length digits - 1 - count) (omega (arith, c.min-most.ensures, c.saturating_sub.ensures, c.if-count-most.true)) same;
    }
