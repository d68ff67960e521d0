use Rattle.answer_lines.proofs.Sending.{grown_by_front, grown_by_none, written_all, written_none}
use Rattle.answer_lines.specs.Output.{output}
use Rattle.answer_lines.proofs.program.run_with.Goals as goal

pub returns-in_err-read_all-clause-written : goal.returns-in_err-read_all-clause-written
returns-in_err-read_all-clause-written g c = written_none _ _ output

pub returns-in_err-read_all-clause-grown : goal.returns-in_err-read_all-clause-grown
returns-in_err-read_all-clause-grown g c = grown_by_none _

pub returns-clause-written : goal.returns-clause-written
returns-clause-written g c =
    written_all _ _ _ output _ _ _ c.requires c.in_ok-read_all.ensures.all c.bytes.ensures c.run_and_flush.ensures.front

pub returns-clause-grown : goal.returns-clause-grown
returns-clause-grown g c = grown_by_front _ _ _ c.run_and_flush.ensures.front
