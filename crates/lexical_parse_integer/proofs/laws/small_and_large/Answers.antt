use Rattle.std.proofs.Common.{sym, ◌∙◌}
use Rattle.lexical_parse_integer.proofs.theorems.EqualViews.{view_with_place_same}
use Rattle.lexical_parse_integer.proofs.laws.small_and_large.Goals as goal

pub returns-clause-small : goal.returns-clause-small
returns-clause-small g c = c.algorithm_partial-small.ensures

pub returns-clause-large : goal.returns-clause-large
returns-clause-large g c = c.algorithm_partial-large.ensures

pub returns-clause-law : goal.returns-clause-law
returns-clause-law g c =
    view_with_place_same g.T.Integer.number g.met.T.Integer.injective_law _ _
    (c.algorithm_partial-large.ensures ∙ sym c.algorithm_partial-small.ensures)
