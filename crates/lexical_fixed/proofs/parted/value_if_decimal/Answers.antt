use Rattle.std.proofs.Common.{◌∙◌, ap, subst, sym}
use Rattle.lexical_parse_integer.specs.Plain.{IsBehind}
use Rattle.lexical_fixed.specs.Grammar.{is_negative}
use Rattle.lexical_fixed.specs.Quick.{leads_with_zero}
use Rattle.lexical_fixed.proofs.NumbersInUnits.{units_read}
use Rattle.lexical_fixed.proofs.ShortNumbers.{behind_same}
use Rattle.lexical_fixed.proofs.parted.value_if_decimal.Goals as goal

pub whole_at_once-requires-clause-zeros : goal.whole_at_once-requires-clause-zeros
whole_at_once-requires-clause-zeros g c = λ digits behind.
    let t = g.T.Integer.TYPE in
    let text = c.args.text.now in
    let found = c.behind_minus-is_negative in
    let same = behind_same (is_negative t text) t text digits found.result.1.now behind
    (subst (λ b. IsBehind b t text found.result.1.now) found.ensures.minus found.ensures.behind) in
    ap (leads_with_zero c.args.format.now) same ∙ sym c.leads_with_zero.ensures ∙ c.if-leads_with_zero.false

pub returns-in-Some : goal.returns-in-Some
returns-in-Some g c =
    units_read c.args.format.now g.T.Integer.TYPE _ c.args.text.now _ (g.T.Integer.number c.in-Some.units) c.requires.valid c.requires.plain
    (sym c.leads_with_zero.ensures ∙ c.if-leads_with_zero.false) (c.front_digits.ensures c.args.format.now.integer g.T.Integer.TYPE c.args.text.now)
    c.behind_minus-is_negative.ensures.behind c.behind_minus-is_negative.ensures.minus c.in-Some.ensures
