use Rattle.std.proofs.Common.{◌∙◌, arith}
use Rattle.jad.proofs.Counted.{of_fewer, of_five, of_four, of_more}
use Rattle.jad.proofs.question.asked_by.Goals as goal

pub returns-in-len4 : goal.returns-in-len4
returns-in-len4 c =
    rw c.format_told.ensures at c.question_about-in-len4.ensures
    ∙ of_four c.args.arguments.now _ c.in-len4.len_at_least c.in-len4.len_below

pub returns-in-len5 : goal.returns-in-len5
returns-in-len5 c =
    rw c.format_told-in-len5.ensures at c.question_behind-in-len5.ensures
    ∙ of_five c.args.arguments.now _ c.in-len5.len_at_least c.in-len5.len_below

pub returns-then-arguments-lt2 : goal.returns-then-arguments-lt2
returns-then-arguments-lt2 c = of_fewer c.args.arguments.now (omega arith)

pub returns-then-arguments-gt5 : goal.returns-then-arguments-gt5
returns-then-arguments-gt5 c = of_more c.args.arguments.now (omega arith)
