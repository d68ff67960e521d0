use Rattle.std.proofs.Common.{refl, sym}
use Rattle.std.proofs.lemmas.Result.{err_from_is_err_and}
use Rattle.lexical_parse_integer.proofs.plain.ForbiddenZeros.{forbidden_zero}
use Rattle.lexical_parse_integer.proofs.reading.ParserAnswers.{head_fault, sign_completes}
use Rattle.lexical_parse_integer.proofs.theorems.CompleteByPartial.{sign_within}
use Rattle.lexical_parse_integer.proofs.algorithm.whole.complete_decimal.Goals as goal

pub returns-in_err-is_negative : goal.returns-in_err-is_negative
returns-in_err-is_negative g c =
    let p = err_from_is_err_and c.from_residual.result c.from_residual.ensures.1 in
    rw (p.1, p.2) (sym (sign_completes _ _ _ _ (head_fault _ _ _ _ (sym c.in_err-is_negative.ensures))))

pub has_forbidden_zero-requires : goal.has_forbidden_zero-requires
has_forbidden_zero-requires g c = record { within = sign_within c.args.format.now g.T.Integer.TYPE c.args.bytes.now (c.in_ok-is_negative.is_negative, c.in_ok-is_negative.start) (sym c.in_ok-is_negative.ensures) }

pub returns-then-has_forbidden_zero : goal.returns-then-has_forbidden_zero
returns-then-has_forbidden_zero g c =
    let told = c.if-has_forbidden_zero.ensures in
    sym (forbidden_zero c.args.format.now g.T.Integer.TYPE c.args.bytes.now (c.in_ok-is_negative.is_negative, c.in_ok-is_negative.start) c.requires.plain c.requires.decimal (sym c.in_ok-is_negative.ensures) (told.forbids refl) (told.zero refl) (told.more refl))

pub overflow_sub-bytes : goal.overflow_sub-bytes
overflow_sub-bytes g c = sign_within c.args.format.now g.T.Integer.TYPE c.args.bytes.now (c.in_ok-is_negative.is_negative, c.in_ok-is_negative.start) (sym c.in_ok-is_negative.ensures)
