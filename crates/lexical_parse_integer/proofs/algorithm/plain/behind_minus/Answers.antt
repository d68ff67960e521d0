use Rattle.std.proofs.Common.{◌&&◌, Bool, get_or, ap, ◌∙◌}
use Rattle.std.specs.Prelude.{◌==◌}
use Rattle.lexical_parse_integer.proofs.plain.DigitsAlone.{behind_is}
use Rattle.lexical_parse_integer.proofs.plain.DigitsByTable.{some_bytes}
use Rattle.lexical_parse_integer.proofs.algorithm.plain.behind_minus.Goals as goal

pub returns-clause-behind : goal.returns-clause-behind
returns-clause-behind g c =
    let is_signed = c.IS_SIGNED.ensures ∙ g.met.T.Integer.sign_law in
    behind_is _ c.args.text.now _ _ (some_bytes c.args.text.now _ c.is_empty.ensures c.if-is_empty.false) (ap (λ (b : Bool). b && (get_or c.args.text.now 0 0 == 45)) is_signed) c.from.ensures
