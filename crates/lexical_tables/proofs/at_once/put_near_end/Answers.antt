use Rattle.std.proofs.Common.{Ok, ap, sym, map, take, ◌∙◌}
use Rattle.std.proofs.lemmas.List.{map-set}
use Rattle.lexical_fields.proofs.FieldAnswers.{answered}
use Rattle.lexical_tables.specs.Targets.{error_in, with_number}
use Rattle.lexical_tables.proofs.at_once.put_near_end.Goals as goal

pub returns-in-Some-clause-fault : goal.returns-in-Some-clause-fault
returns-in-Some-clause-fault g c = λ put start.
    sym (ap error_in (answered c.args.format g.T.Integer.TYPE start (take c.args.size c.args.ahead.now)
    (Ok (g.T.Integer.number c.in-Some.value)) c.requires.valid (sym c.in-Some.ensures.answer)))

pub returns-in-Some-clause-numbers : goal.returns-in-Some-clause-numbers
returns-in-Some-clause-numbers g c = λ put start.
    let number = g.T.Integer.number in
    map-set number c.args.values.now c.args.row c.in-Some.value
    ∙ ap (λ a. with_number c.args.row a (map number c.args.values.now))
    (answered c.args.format g.T.Integer.TYPE start (take c.args.size c.args.ahead.now)
    (Ok (number c.in-Some.value)) c.requires.valid (sym c.in-Some.ensures.answer))
