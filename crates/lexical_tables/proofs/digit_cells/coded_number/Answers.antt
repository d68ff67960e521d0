use Rattle.std.proofs.Common.{refl, subst, sym, take}
use Rattle.lexical_fields.specs.Numerals.{IsNumeral}
use Rattle.lexical_tables.specs.Codes.{IsNumeralUnder}
use Rattle.lexical_tables.proofs.numerals.ZeroRule.{if_both}
use Rattle.lexical_tables.proofs.digit_cells.coded_number.Goals as goal

pub returns-clause-numeral : goal.returns-clause-numeral
returns-clause-numeral g c =
    if_both c.number_of_front.result c.number_of_front.ensures.writes c.number_of_front.ensures.sign
    (λ found writes sign format decimal.
    let text = take c.args.size c.args.ahead.now in
    subst (λ is. IsNumeralUnder format is found.1 text) (sym sign)
    (c.if-not-keeps_zero_rule.ensures refl format found.1 decimal (subst (λ is. IsNumeral is found.1 text) sign writes)))
