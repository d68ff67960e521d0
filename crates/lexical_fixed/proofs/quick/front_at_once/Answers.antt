use Rattle.std.proofs.Common.{◌∙◌, ap, sym}
use Rattle.std.specs.Prelude.{Ok}
use Rattle.lexical_fixed.proofs.QuickFronts.{partial_by_part}
use Rattle.lexical_fixed.proofs.quick.front_at_once.Goals as goal

pub returns-in-Some-short_units : goal.returns-in-Some-short_units
returns-in-Some-short_units g c =
    partial_by_part c.args.format.now g.T.Integer.TYPE c.args.text.now _ _ c.in-Some.ensures.answer
    ∙ c.in-Some-short_units.ensures ∙ ap (λ k. Ok (g.T.Integer.number c.in-Some-short_units.units, k)) (c.in-Some-short_fraction.ensures.ends ∙ sym c.end_behind.ensures)
