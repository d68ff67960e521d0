use Rattle.std.proofs.Common.{rules, take}
use Rattle.answer_lines.proofs.Sending.{front_of_taken, takes_kept, takes_lost, takes_more, takes_none}
use Rattle.answer_lines.proofs.program.read_all.Goals.{in-Ok+else-is_err, in-Err+else-ne}
use Rattle.answer_lines.proofs.program.read_all.Goals as goal

pub loop-init : goal.loop-init
loop-init g c = takes_none _ _

pub loop-preserved : goal.loop-preserved
loop-preserved g c = elim c.match-read.branch [
  | in-Ok+else-is_err w ↦ takes_more _ _ _ _ _ _ (take w.in-Ok.count c.read.new.buf)
      c.loop.invariant w.in-Ok.ensures.bytes.0 (search rules)
  | in-Err+else-ne w ↦ rw w.bytes-is (takes_kept _ _ _ _ _ c.loop.invariant w.in-Err.ensures.bytes)
]

pub returns-in-Ok-eq0-clause-front : goal.returns-in-Ok-eq0-clause-front
returns-in-Ok-eq0-clause-front g c = takes_lost _ _ _ _ _ _ c.loop.invariant c.in-Ok-eq0.ensures.bytes.0

pub returns-then-is_err-clause-front : goal.returns-then-is_err-clause-front
returns-then-is_err-clause-front g c = takes_lost _ _ _ _ _ _ c.loop.invariant c.in-Ok.ensures.bytes.0

pub returns-then-ne-clause-front : goal.returns-then-ne-clause-front
returns-then-ne-clause-front g c = front_of_taken _ _ _ _ (takes_kept _ _ _ _ _ c.loop.invariant c.in-Err.ensures.bytes)

pub returns-clause-front : goal.returns-clause-front
returns-clause-front g c = front_of_taken _ _ _ _ c.loop.invariant
