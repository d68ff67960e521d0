use Rattle.std.proofs.Common.{◌≡◌, ◌∙◌, None, ap, sym}
use Rattle.lexical_util.specs.Format.{Format}
use Rattle.lexical_parse_integer.proofs.ForCallers.{partial_within}
use Rattle.lexical_fixed.proofs.IntegerParts.{partial_sign}
use Rattle.lexical_fixed.proofs.QuickParts.{none_of, part_by_front}
use Rattle.lexical_fixed.proofs.Valid.{is_none}
use Rattle.lexical_fixed.proofs.quick.plain_part.Goals as goal

pub returns-clause-within : goal.returns-clause-within
returns-clause-within g c =
    partial_within c.args.format.now.integer g.T.Integer.TYPE c.args.text.now _ _ (rw c.integer-2.ensures at c.in-Some.ensures.answer)

pub returns-clause-sign : goal.returns-clause-sign
returns-clause-sign g c =
    partial_sign c.args.format.now.integer g.T.Integer.TYPE c.args.text.now _ _ (rw c.integer-2.ensures at c.in-Some.ensures.answer)

pub returns-clause-answer : goal.returns-clause-answer
returns-clause-answer g c =
    let none : c.args.format.now.integer.digit_separator ≡ None =
    ap (λ (f : Format). f.digit_separator) (sym c.integer.ensures) ∙ sym c.digit_separator.ensures ∙ none_of _ (sym c.if-is_some.ensures) in
    part_by_front c.args.format.now g.T.Integer.TYPE c.args.text.now _ _ c.requires.valid (c.front_digits.ensures c.args.format.now.integer g.T.Integer.TYPE c.args.text.now (is_none _ none)) (rw c.integer-2.ensures at c.in-Some.ensures.answer) (sym c.if-not-stops_after_digit.ensures)
