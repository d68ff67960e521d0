use Rattle.std.proofs.Common.{◌∙◌, ap, sym}
use Rattle.lexical_fixed.specs.Grammar.{whole_behind}
use Rattle.lexical_fixed.proofs.LastPoints.{part_sign, whole_is}
use Rattle.lexical_fixed.proofs.by_point.units_behind_part.Goals as goal

pub units_at_once-requires-clause-sign : goal.units_at_once-requires-clause-sign
units_at_once-requires-clause-sign g c =
    part_sign c.args.format.now.integer g.T.Integer.TYPE c.args.text.now (g.T.Integer.number c.args.whole) c.args.place c.requires.part

pub whole_behind-requires-clause-sign : goal.whole_behind-requires-clause-sign
whole_behind-requires-clause-sign g c =
    part_sign c.args.format.now.integer g.T.Integer.TYPE c.args.text.now (g.T.Integer.number c.args.whole) c.args.place c.requires.part

pub returns-in-Some : goal.returns-in-Some
returns-in-Some g c =
    sym c.in-Some.ensures
    ∙ ap (λ n. whole_behind c.args.format.now g.T.Integer.TYPE c.args.text.now (g.T.Integer.number c.args.whole) n) (sym c.requires.place)
    ∙ whole_is c.args.format.now g.T.Integer.TYPE c.args.text.now (g.T.Integer.number c.args.whole) c.args.place c.requires.part

pub returns-in-None : goal.returns-in-None
returns-in-None g c =
    c.whole_behind.ensures
    ∙ whole_is c.args.format.now g.T.Integer.TYPE c.args.text.now (g.T.Integer.number c.args.whole) c.args.place c.requires.part
