use Rattle.std.proofs.Common.{ap, sym}
use Rattle.lexical_literals.specs.Tokens.{number_by, number_of}
use Rattle.lexical_literals.proofs.number.Goals as goal

pub returns-then-length-gt0 : goal.returns-then-length-gt0
unfolding number_of
returns-then-length-gt0 c = sym (ap (number_by c.args.text.now) (c.number_if_short-value.ensures c.if-length-gt0.true))
