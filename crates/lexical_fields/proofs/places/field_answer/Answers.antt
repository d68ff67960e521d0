use Rattle.std.proofs.Common.{ap, ◌∙◌, length, Ok, Err}
use Rattle.lexical_fields.proofs.FieldAnswers.{answered, fault_within, place_fits}
use Rattle.lexical_fields.proofs.places.field_answer.Goals as goal

pub returns-in-Ok : goal.returns-in-Ok
returns-in-Ok g c =
    answered c.args.format.now g.T.Integer.TYPE c.args.start c.args.field.now
    (Ok (g.T.Integer.number c.in-Ok.value)) c.requires.valid c.in-Ok.ensures

pub error_in_text-requires : goal.error_in_text-requires
error_in_text-requires g c =
    let type = g.T.Integer.TYPE in
    place_fits c.args.start (length c.args.field.now) c.in-Err.error
    (fault_within (length c.args.field.now) _ c.in-Err.error c.in-Err.ensures
    (c.fault_places.ensures.whole c.args.format.now type c.args.field.now)) c.requires.fits

pub returns-in-Err : goal.returns-in-Err
returns-in-Err g c =
    ap (λ e. Err e) c.error_in_text.ensures
    ∙ answered c.args.format.now g.T.Integer.TYPE c.args.start c.args.field.now
    (Err c.in-Err.error) c.requires.valid c.in-Err.ensures
