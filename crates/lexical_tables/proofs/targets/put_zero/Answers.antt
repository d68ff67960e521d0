use Rattle.std.proofs.Common.{map, set, ap, ◌∙◌}
use Rattle.std.proofs.lemmas.List.{map-set}
use Rattle.lexical_tables.proofs.targets.put_zero.Goals as goal

pub returns : goal.returns
returns g c =
    let number = g.T.Integer.number in
    map-set number c.args.values.now c.args.row c.from_u32.result
    ∙ ap (set (map number c.args.values.now) c.args.row) c.from_u32.ensures
