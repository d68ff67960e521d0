use Rattle.std.proofs.Common.{◌≡◌, ◌∙◌, ap, true, Ok, rules}
use Rattle.lexical_util.specs.Validity.{fault}
use Rattle.lexical_parse_integer.specs.Answer.{with_place}
use Rattle.lexical_parse_integer.specs.Grammar.{partial, partial_if_valid}
use Rattle.jadvolni.specs.Effect.{partial_effect}
use Rattle.jadvolni.specs.FormatFields.{are_known, format_of}
use Rattle.jadvolni.proofs.SureAnswers.{if_all_known, if_sure}
use Rattle.jadvolni.proofs.calls.partial_under.Goals as goal

pub returns-in-Some : goal.returns-in-Some
returns-in-Some g c =
    let fields = c.args.fields.now in
    let text = c.args.text.now in
    let type = g.T.Integer.TYPE in
    let format = c.decimal_format.result in
    let before = g.S.Slot.number c.args.value.now in
    let found = with_place g.T.Integer.number c.in-Some.found in
    let known : are_known fields ≡ true = search rules in
    let sure = if_sure (fault format) (partial format type text) (Ok found) c.in-Some.ensures.valid c.in-Some.ensures.answer in
    c.give_front.ensures
    ∙ ap (partial_effect before) (sure ∙ ap (λ f. partial_if_valid f type text) c.decimal_format.ensures)
    ∙ if_all_known fields before (partial_effect before (partial_if_valid (format_of fields) type text)) known
