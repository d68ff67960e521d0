use Rattle.std.proofs.Common.{◌∙◌, ap}
use Rattle.lexical_parse_integer.specs.Fronts.{number_in_front}
use Rattle.lexical_parse_integer.specs.Grammar.{if_valid}
use Rattle.lexical_fixed.proofs.Valid.{none_is}
use Rattle.lexical_fixed.proofs.parse.number_with_digit.Goals as goal

pub returns : goal.returns
returns g c =
    c.number_in_front.ensures
    ∙ ap (λ found. if_valid found (number_in_front c.args.format.now g.T.Integer.TYPE c.args.text.now)) (none_is _ c.requires.valid)
