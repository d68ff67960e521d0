use Rattle.std.proofs.Common.{sym, ◌∙◌}
use Rattle.lexical_fixed.proofs.AmountsAround.{parted_there}
use Rattle.lexical_fixed.proofs.by_point.places_in_cell.Goals as goal

pub returns-then-is_some : goal.returns-then-is_some
returns-then-is_some c =
    parted_there c.args.format.now c.args.text.now c.places-places.result c.point_before.result c.places-places.ensures (sym c.is_some.ensures ∙ c.if-is_some.true) c.point_before.ensures.point
