use Rattle.std.proofs.Common.{ap, map, set, ◌∙◌}
use Rattle.std.proofs.lemmas.List.{map-set}
use Rattle.lexical_tables.proofs.column_integer.put_with_sign.Goals as goal

pub returns-in-Some-clause-numbers : goal.returns-in-Some-clause-numbers
returns-in-Some-clause-numbers g c = λ put.
    let number = g.T.Integer.number in
    map-set number c.args.values.now c.args.row c.in-Some.value
    ∙ ap (set (map number c.args.values.now) c.args.row) c.in-Some.ensures.number
