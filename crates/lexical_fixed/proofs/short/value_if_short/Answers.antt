use Rattle.std.proofs.Common.{◌∙◌, subst, sym}
use Rattle.lexical_digits.proofs.LongNumbers.{if_found}
use Rattle.lexical_parse_integer.specs.Plain.{IsPlain}
use Rattle.lexical_fixed.proofs.NumbersInUnits.{units_read}
use Rattle.lexical_fixed.proofs.short.value_if_short.Goals as goal

pub returns-then-digits-gt8 : goal.returns-then-digits-gt8
returns-then-digits-gt8 g c =
    if_found c.value_of_many.result (λ units it. units_read c.args.format.now g.T.Integer.TYPE _ c.args.text.now _ (g.T.Integer.number units) c.requires.valid
    (subst IsPlain c.integer.ensures (c.is_decimal.ensures.plain c.if-not-is_decimal.false)) (sym c.leads_with_zero.ensures ∙ c.if-leads_with_zero.false) (c.front_digits.ensures c.args.format.now.integer g.T.Integer.TYPE c.args.text.now)
    c.behind_minus-is_negative.ensures.behind c.behind_minus-is_negative.ensures.minus it) c.value_of_many.ensures

pub returns : goal.returns
returns g c =
    if_found c.value_of_few.result (λ units it. units_read c.args.format.now g.T.Integer.TYPE _ c.args.text.now _ (g.T.Integer.number units) c.requires.valid
    (subst IsPlain c.integer.ensures (c.is_decimal.ensures.plain c.if-not-is_decimal.false)) (sym c.leads_with_zero.ensures ∙ c.if-leads_with_zero.false) (c.front_digits.ensures c.args.format.now.integer g.T.Integer.TYPE c.args.text.now)
    c.behind_minus-is_negative.ensures.behind c.behind_minus-is_negative.ensures.minus it) c.value_of_few.ensures
