use Rattle.answer_lines.proofs.Sending.{Takes}
use Rattle.answer_lines.proofs.program.read_all.Given as goal

-- what the reader lost is what the bytes gained
abbrev pub invariant-loop : goal.invariant-loop
invariant-loop g l =
    Takes (g.R.Read.remaining l.initial.input) (g.R.Read.remaining l.input)
    (g.B.Buffer.contents l.initial.bytes) (g.B.Buffer.contents l.bytes)
