use Rattle.std.proofs.Common.{Some, ap, arith, ◌∙◌}
use Rattle.std.proofs.lemmas.Option.{slice_get-get_or}
use Rattle.lexical_parse_integer.proofs.reading.FirstDigit.{zero_ahead}
use Rattle.lexical_parse_integer.proofs.algorithm.plain.has_forbidden_zero.Goals as goal

pub returns-clause-zero : goal.returns-clause-zero
returns-clause-zero c = λ told.
    zero_ahead 10 c.args.bytes.now c.args.start (omega arith) (slice_get-get_or c.args.bytes.now c.args.start 0 (omega (arith, c.requires)) ∙ ap Some (omega arith))
