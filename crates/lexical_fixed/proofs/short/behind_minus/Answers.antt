use Rattle.std.proofs.Common.{◌&&◌, Bool, get_or, arith, ap, ◌∙◌}
use Rattle.std.specs.Prelude.{◌==◌}
use Rattle.lexical_parse_integer.proofs.ForCallers.{behind_is}
use Rattle.lexical_fixed.proofs.ShortNumbers.{minus_is}
use Rattle.lexical_fixed.proofs.short.behind_minus.Goals as goal

pub returns-clause-behind : goal.returns-clause-behind
returns-clause-behind g c =
    let is_signed = c.IS_SIGNED.ensures ∙ g.met.T.Integer.sign_law in
    behind_is _ c.args.text.now _ _ (omega (arith, c.requires)) (ap (λ (b : Bool). b && (get_or c.args.text.now 0 0 == 45)) is_signed) c.from.ensures

pub returns-clause-minus : goal.returns-clause-minus
returns-clause-minus g c =
    let is_signed = c.IS_SIGNED.ensures ∙ g.met.T.Integer.sign_law in
    ap (λ (b : Bool). b && (get_or c.args.text.now 0 0 == 45)) is_signed ∙ minus_is _ c.args.text.now (omega (arith, c.requires))
