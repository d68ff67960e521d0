use Rattle.std.proofs.Common.{sym}
use Rattle.std.proofs.lemmas.Result.{err_from_is_err_and}
use Rattle.lexical_parse_integer.proofs.reading.ParserAnswers.{sign_goes_part}
use Rattle.lexical_parse_integer.proofs.algorithm.front.partial_from_front.Goals as goal

pub returns-in_err-head : goal.returns-in_err-head
returns-in_err-head g c =
    let p = err_from_is_err_and c.from_residual.result c.from_residual.ensures.1 in
    rw (p.1, p.2) (sym (sign_goes_part _ _ _ _ c.in_err-head.ensures.fault))
