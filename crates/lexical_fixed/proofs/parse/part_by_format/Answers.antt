use Rattle.std.proofs.Common.{◌≤◌, length}
use Rattle.lexical_util.specs.Number.{HasSign}
use Rattle.lexical_parse_integer.proofs.ForCallers.{partial_within}
use Rattle.lexical_fixed.specs.Grammar.{is_negative}
use Rattle.lexical_fixed.proofs.IntegerParts.{digit_told, if_part, partial_sign}
use Rattle.lexical_fixed.proofs.parse.part_by_format.Goals as goal

pub returns-then-digits_required-clause-within : goal.returns-then-digits_required-clause-within
returns-then-digits_required-clause-within g c =
    if_part g.T.Integer.number (λ v k. k ≤ length c.args.text.now) _ _ c.number_with_digit.ensures
    (λ v k told. partial_within c.args.format.now g.T.Integer.TYPE c.args.text.now v k (digit_told _ _ _ told))

pub returns-then-digits_required-clause-sign : goal.returns-then-digits_required-clause-sign
returns-then-digits_required-clause-sign g c =
    if_part g.T.Integer.number (λ v k. HasSign (is_negative g.T.Integer.TYPE c.args.text.now) v) _ _ c.number_with_digit.ensures
    (λ v k told. partial_sign c.args.format.now g.T.Integer.TYPE c.args.text.now v k (digit_told _ _ _ told))

pub returns-else-digits_required-clause-within : goal.returns-else-digits_required-clause-within
returns-else-digits_required-clause-within g c =
    if_part g.T.Integer.number (λ v k. k ≤ length c.args.text.now) _ _ c.parse_partial.ensures
    (λ v k told. partial_within c.args.format.now g.T.Integer.TYPE c.args.text.now v k told)

pub returns-else-digits_required-clause-sign : goal.returns-else-digits_required-clause-sign
returns-else-digits_required-clause-sign g c =
    if_part g.T.Integer.number (λ v k. HasSign (is_negative g.T.Integer.TYPE c.args.text.now) v) _ _ c.parse_partial.ensures
    (λ v k told. partial_sign c.args.format.now g.T.Integer.TYPE c.args.text.now v k told)
