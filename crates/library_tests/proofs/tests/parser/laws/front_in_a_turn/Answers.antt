use Rattle.std.proofs.Common.{refl, arith}
use Rattle.lexical_parse_integer.specs.Turns.{digits_per_word}
use Rattle.lexical_parse_integer.proofs.ForCallers.{eight_digits}
use Rattle.library_tests.proofs.tests.parser.laws.front_in_a_turn.Goals as goal

pub returns : goal.returns
unfolding digits_per_word
returns c =
    let few = (rw eight_digits.0 at (c.partial_in_few_turns.ensures.few refl (omega arith))) (omega arith) in
    rw eight_digits.1 at few
