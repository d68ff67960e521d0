use Rattle.std.proofs.Common.{sym}
use Rattle.std.proofs.lemmas.Result.{err_from_is_err_and}
use Rattle.lexical_parse_integer.proofs.reading.ParserAnswers.{head_fault}
use Rattle.lexical_parse_integer.proofs.algorithm.front.head_of.Goals as goal

pub returns-in_err-is_negative-clause-fault : goal.returns-in_err-is_negative-clause-fault
returns-in_err-is_negative-clause-fault g c =
    let p = err_from_is_err_and c.from_residual.result c.from_residual.ensures.1 in
    rw (p.1, p.2) (head_fault _ _ _ _ (sym c.in_err-is_negative.ensures))
