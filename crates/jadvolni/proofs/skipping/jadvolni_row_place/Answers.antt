use Rattle.std.proofs.Common.{◌∙◌, ap, sym}
use Rattle.jadvolni.specs.Skipping.{found, row_found}
use Rattle.jadvolni.proofs.RowPlaces.{place_behind, place_there}
use Rattle.jadvolni.proofs.skipping.jadvolni_row_place.Goals as goal

pub returns-in-Some-row_place : goal.returns-in-Some-row_place
returns-in-Some-row_place c =
    let text = c.args.text.now in
    sym (ap (λ d. row_found d c.args.row text) (sym c.dialect_of.ensures ∙ c.in-Some.is)
    ∙ ap found (place_there c.in-Some.dialect text c.args.row c.in-Some-row_place.place
    (sym c.row_place.ensures.place ∙ c.in-Some-row_place.is)))

pub returns-in-None : goal.returns-in-None
returns-in-None c =
    let text = c.args.text.now in
    sym (ap (λ d. row_found d c.args.row text) (sym c.dialect_of.ensures ∙ c.in-Some.is)
    ∙ ap found (place_behind c.in-Some.dialect text c.args.row (sym c.row_place.ensures.place ∙ c.in-None.is)))
