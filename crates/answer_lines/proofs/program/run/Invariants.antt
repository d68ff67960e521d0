use Rattle.std.proofs.Common.{length, ◌++◌}
use Rattle.answer_lines.specs.Gather.{Sends}
use Rattle.answer_lines.specs.Lines.{lines}
use Rattle.answer_lines.specs.Output.{answers_to, output}
use Rattle.answer_lines.proofs.program.run.Given as goal

-- what went out, what waits, and the output of what is left are the output of all
abbrev pub invariant-loop-rest : goal.invariant-loop-rest
invariant-loop-rest g l =
    Sends (g.W.Write.contents l.initial.out) (g.W.Write.contents l.out) (output l.input)
    (l.batch ++ answers_to l.settings (lines l.rest))

abbrev pub decreases-loop-rest : goal.decreases-loop-rest
decreases-loop-rest g l = length l.rest
