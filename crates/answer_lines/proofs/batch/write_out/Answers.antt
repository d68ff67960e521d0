use Rattle.std.proofs.Common.{arith, ◌≡◌, length}
use Rattle.std.proofs.lemmas.Bool.Decides.{nat_tests}
use Rattle.answer_lines.proofs.Sending.{front_of_sent, front_refused, front_taken, sends_done, sends_none, sends_taken}
use Rattle.answer_lines.proofs.batch.write_out.Goals as goal

pub loop-rest-init : goal.loop-rest-init
loop-rest-init g c = sends_none _ _

pub loop-rest-preserved : goal.loop-rest-preserved
loop-rest-preserved g c = sends_taken _ _ _ _ _ _ c.loop-rest.invariant c.in-Ok.ensures.bytes

pub returns-in-Ok-eq0-clause-front : goal.returns-in-Ok-eq0-clause-front
returns-in-Ok-eq0-clause-front g c = front_taken _ _ _ _ _ _ c.loop-rest.invariant c.in-Ok-eq0.ensures.bytes

pub returns-in-Err-clause-front : goal.returns-in-Err-clause-front
returns-in-Err-clause-front g c = front_refused _ _ _ _ _ c.loop-rest.invariant c.in-Err.ensures.bytes

pub returns-clause-ok : goal.returns-clause-ok
returns-clause-ok g c =
    let none : length c.loop-rest.rest.now ≡ 0 = grind (arith, nat_tests) in
    sends_done _ _ _ _ c.loop-rest.invariant none

pub returns-clause-front : goal.returns-clause-front
returns-clause-front g c = front_of_sent _ _ _ _ c.loop-rest.invariant
