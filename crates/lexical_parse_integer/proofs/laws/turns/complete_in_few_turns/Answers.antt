use Rattle.std.proofs.Common.{refl}
use Rattle.lexical_parse_integer.proofs.laws.turns.complete_in_few_turns.Goals as goal

pub returns-clause-over : goal.returns-clause-over
returns-clause-over g c = rw c.new-c.ensures at c.algorithm_complete_on-answer.ensures.over

pub returns-clause-at_stop : goal.returns-clause-at_stop
returns-clause-at_stop g c = rw c.new-c.ensures at c.algorithm_complete_on-answer.ensures.at_stop

pub returns-clause-few : goal.returns-clause-few
returns-clause-few g c = λ none wide. (rw c.new-c.ensures at c.algorithm_complete_on-answer.ensures.few) (record { multi = refl; wide = wide; contiguous = none })
