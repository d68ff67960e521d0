use Rattle.std.proofs.Common.{◌∙◌, ap, map, sym}
use Rattle.std.proofs.lemmas.List.{map-set}
use Rattle.lexical_fields.specs.Places.{in_text}
use Rattle.lexical_tables.specs.Targets.{error_in, with_number}
use Rattle.lexical_tables.proofs.fixed_targets.put_fixed_at_once.Goals as goal

pub returns-in-Some-clause-fault : goal.returns-in-Some-clause-fault
returns-in-Some-clause-fault g c = λ put start. ap (λ a. error_in (in_text start a)) c.in-Some.ensures

pub returns-in-Some-clause-numbers : goal.returns-in-Some-clause-numbers
returns-in-Some-clause-numbers g c = λ put start.
    let number = g.T.Integer.number in
    map-set number c.args.values.now c.args.row c.in-Some.value
    ∙ ap (λ a. with_number c.args.row (in_text start a) (map number c.args.values.now)) (sym c.in-Some.ensures)
