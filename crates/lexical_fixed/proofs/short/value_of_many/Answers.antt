use Rattle.std.proofs.Common.{◌-◌, ◌∙◌, ap, length, subst}
use Rattle.lexical_fixed.specs.Quick.{HasPoint}
use Rattle.lexical_fixed.proofs.ShortUnits.{all_places}
use Rattle.lexical_fixed.proofs.short.value_of_many.Goals as goal

pub returns : goal.returns
returns g c =
    let digits = c.args.digits.now in
    let format = c.args.format.now in
    let at : HasPoint format digits format.places = subst (λ n. HasPoint format digits n) c.places-places.ensures c.in_ok-place.ensures.point in
    all_places g.T.Integer.number format g.T.Integer.TYPE c.args.is_negative digits c.in_ok-place.place c.value_from_9.result
    (c.in_ok-place.ensures.place ∙ ap (λ n. length digits - 1 - n) c.places-places.ensures) at c.value_from_9.ensures
