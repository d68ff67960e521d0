use Rattle.std.proofs.Common.{length}
use Rattle.answer_lines.specs.Gather.{Sends}
use Rattle.answer_lines.proofs.batch.write_out.Given as goal

-- what went out and what is left are all the bytes
abbrev pub invariant-loop-rest : goal.invariant-loop-rest
invariant-loop-rest g l = Sends (g.W.Write.contents l.initial.out) (g.W.Write.contents l.out) l.bytes l.rest

abbrev pub decreases-loop-rest : goal.decreases-loop-rest
decreases-loop-rest g l = length l.rest
