use Rattle.lexical_fixed.proofs.AmountsAround.{short_amounts}
use Rattle.lexical_fixed.proofs.by_point.units_by_words.Goals as goal

pub returns : goal.returns
returns g c =
    short_amounts g.T.Integer.number c.args.format.now g.T.Integer.TYPE c.behind_minus-is_negative.result.0 c.args.text.now c.behind_minus-is_negative.result.1.now c.args.count c.value_by_words.result
    c.behind_minus-is_negative.ensures.behind c.behind_minus-is_negative.ensures.minus
    c.foreign_bytes.ensures.read c.foreign_bytes.ensures.number c.complete_by_partial.ensures.sentences c.requires.valid c.requires.foreign c.requires.parted c.value_by_words.ensures
