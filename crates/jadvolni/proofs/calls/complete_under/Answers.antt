use Rattle.std.proofs.Common.{◌≡◌, ◌∙◌, ap, length, true, Ok, rules}
use Rattle.lexical_util.specs.Validity.{fault}
use Rattle.lexical_parse_integer.specs.Grammar.{complete, complete_if_valid}
use Rattle.jadvolni.specs.Effect.{complete_effect}
use Rattle.jadvolni.specs.FormatFields.{are_known, format_of}
use Rattle.jadvolni.proofs.SureAnswers.{if_all_known, if_sure}
use Rattle.jadvolni.proofs.calls.complete_under.Goals as goal

pub returns-in-Some : goal.returns-in-Some
returns-in-Some g c =
    let fields = c.args.fields.now in
    let text = c.args.text.now in
    let type = g.T.Integer.TYPE in
    let format = c.decimal_format.result in
    let before = g.S.Slot.number c.args.value.now in
    let number = g.T.Integer.number c.in-Some.number in
    let known : are_known fields ≡ true = search rules in
    let sure = if_sure (fault format) (complete format type text) (Ok number) c.in-Some.ensures.valid c.in-Some.ensures.answer in
    c.store.ensures
    ∙ ap (complete_effect (length text) before) (sure ∙ ap (λ f. complete_if_valid f type text) c.decimal_format.ensures)
    ∙ if_all_known fields before (complete_effect (length text) before (complete_if_valid (format_of fields) type text)) known
