use Rattle.lexical_digits.proofs.LongNumbers.{if_found}
use Rattle.lexical_fixed.proofs.NumbersInUnits.{units_read}
use Rattle.lexical_fixed.proofs.ShortNumbers.{no_zero_leads, plain_of}
use Rattle.lexical_fixed.proofs.short.value_if_fewer.Goals as goal

pub returns : goal.returns
returns g c =
    if_found c.value_filled.result (λ units it. units_read c.args.format.now g.T.Integer.TYPE _ c.args.text.now _ (g.T.Integer.number units) c.requires.valid
    (plain_of c.args.format.now c.requires.valid c.requires.bare) (no_zero_leads c.args.format.now c.behind_minus-is_negative.result.1.now c.requires.bare)
    (c.front_digits.ensures c.args.format.now.integer g.T.Integer.TYPE c.args.text.now)
    c.behind_minus-is_negative.ensures.behind c.behind_minus-is_negative.ensures.minus it) c.value_filled.ensures
