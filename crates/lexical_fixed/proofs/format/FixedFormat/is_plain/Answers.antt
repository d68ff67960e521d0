use Rattle.std.proofs.Common.{sym, ◌∙◌}
use Rattle.std.proofs.lemmas.Bool.{leb-true}
use Rattle.lexical_fixed.specs.Fixed.{Fixed}
use Rattle.lexical_fixed.proofs.DecimalParts.{decimal_part}
use Rattle.lexical_fixed.proofs.format.FixedFormat.is_plain.Goals as goal

pub returns-then-not-is_unfit_point : goal.returns-then-not-is_unfit_point
returns-then-not-is_unfit_point c =
    let fixed : Fixed = record { integer = c.self.inside.integer; point = c.self.inside.point; places = c.self.inside.places; takes_fewer = c.self.inside.takes_fewer } in
    rw (sym c.self.view_is) (λ told. decimal_part fixed (sym c.kind.ensures ∙ c.in-Decimal.is) (sym c.is_unfit_point.ensures ∙ c.if-not-is_unfit_point.true) (leb-true _ _ told))
