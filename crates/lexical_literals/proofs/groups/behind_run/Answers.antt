use Rattle.std.proofs.Common.{◌∙◌, sym}
use Rattle.lexical_literals.proofs.GroupedFronts.{no_digit_behind}
use Rattle.lexical_literals.proofs.groups.behind_run.Goals as goal

pub returns-else-has_digit-clause-none : goal.returns-else-has_digit-clause-none
returns-else-has_digit-clause-none c = λ same here.
    let run = c.behind_separators-stop.ensures in
    no_digit_behind c.args.separator c.args.radix c.args.text.now c.args.place c.behind_separators-stop.result
    c.requires.other run.forward run.separators run.ends (sym c.has_digit.ensures ∙ c.if-has_digit.false) here
