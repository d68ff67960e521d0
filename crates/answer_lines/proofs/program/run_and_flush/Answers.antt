use Rattle.answer_lines.proofs.Sending.{front_kept}
use Rattle.answer_lines.proofs.program.run_and_flush.Goals as goal

pub returns-in-Ok-clause-front : goal.returns-in-Ok-clause-front
returns-in-Ok-clause-front g c = front_kept _ _ _ _ c.in_ok-run.ensures.front c.flush.ensures.bytes

pub returns-in-Err-clause-front : goal.returns-in-Err-clause-front
returns-in-Err-clause-front g c = front_kept _ _ _ _ c.in_ok-run.ensures.front c.flush.ensures.bytes
