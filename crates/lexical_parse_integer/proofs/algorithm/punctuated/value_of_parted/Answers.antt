use Rattle.std.proofs.Common.{◌≡◌, ℕ, None, subst}
use Rattle.lexical_util.specs.Digit.{digit}
use Rattle.lexical_parse_integer.proofs.punctuated.PunctuatedAnswers.{fits_head, groups_read, head_signed, if_both}
use Rattle.lexical_parse_integer.proofs.algorithm.punctuated.value_of_parted.Goals as goal

pub value_of_threes-requires-clause-minus : goal.value_of_threes-requires-clause-minus
value_of_threes-requires-clause-minus g c = head_signed _ _ c.args.bytes.now _ c.requires.head

pub value_of_threes-requires-clause-no_digit : goal.value_of_threes-requires-clause-no_digit
value_of_threes-requires-clause-no_digit g c =
    let fit = fits_head _ _ c.args.bytes.now _ c.requires.valid c.requires.head in
    subst (λ (r : ℕ). digit r c.args.separator ≡ None) c.if-head-ne10.false (fit.separator c.args.separator c.requires.separator)

pub returns : goal.returns
returns g c =
    if_both c.value_of_threes.result
    (λ v grouped worth. groups_read _ _ c.args.bytes.now _ _ 10 c.requires.valid c.requires.head c.if-head-ne10.false c.requires.some c.requires.rule grouped worth)
    c.value_of_threes.ensures.grouped c.value_of_threes.ensures.worth
