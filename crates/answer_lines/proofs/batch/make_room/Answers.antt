use Rattle.answer_lines.proofs.Sending.{gathers_sent, on_err, sends_none}
use Rattle.answer_lines.proofs.batch.make_room.Goals as goal

pub returns-then-has_room-clause-ok : goal.returns-then-has_room-clause-ok
returns-then-has_room-clause-ok g c = sends_none _ _

pub returns-clause-ok : goal.returns-clause-ok
returns-clause-ok g c = gathers_sent _ _ _ _ c.in_ok-send.ensures.empty c.in_ok-send.ensures.ok

pub returns-in_err-send-clause-front : goal.returns-in_err-send-clause-front
returns-in_err-send-clause-front g c = on_err _ c.in_err-send.ensures.front
