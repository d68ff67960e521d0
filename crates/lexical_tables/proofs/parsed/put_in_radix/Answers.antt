use Rattle.std.proofs.Common.{Ok, ap, sym, map, ◌∙◌}
use Rattle.std.proofs.lemmas.List.{map-set}
use Rattle.lexical_util.specs.Format.{Format}
use Rattle.lexical_fields.specs.Fields.{FieldView}
use Rattle.lexical_fields.specs.ReadFields.{field_answer}
use Rattle.lexical_fields.proofs.FieldAnswers.{answered}
use Rattle.lexical_tables.specs.Targets.{error_in, with_number}
use Rattle.lexical_tables.proofs.parsed.put_in_radix.Goals as goal

pub returns-in-Some-clause-fault : goal.returns-in-Some-clause-fault
returns-in-Some-clause-fault g c = λ put start.
    let type = g.T.Integer.TYPE in
    let text : FieldView = record { start = start; text = c.args.cell.now } in
    ap (λ (it : Format). error_in (field_answer it type text)) (sym c.from_radix-format.ensures)
    ∙ sym (ap error_in (answered c.from_radix-format.result type start c.args.cell.now
    (Ok (g.T.Integer.number c.in-Some.value)) c.in-Some.ensures.valid (sym c.in-Some.ensures.answer)))

pub returns-in-Some-clause-numbers : goal.returns-in-Some-clause-numbers
returns-in-Some-clause-numbers g c = λ put start.
    let type = g.T.Integer.TYPE in
    let number = g.T.Integer.number in
    let text : FieldView = record { start = start; text = c.args.cell.now } in
    map-set number c.args.values.now c.args.row c.in-Some.value
    ∙ ap (λ a. with_number c.args.row a (map number c.args.values.now))
    (answered c.from_radix-format.result type start c.args.cell.now
    (Ok (number c.in-Some.value)) c.in-Some.ensures.valid (sym c.in-Some.ensures.answer)
    ∙ ap (λ (it : Format). field_answer it type text) c.from_radix-format.ensures)
