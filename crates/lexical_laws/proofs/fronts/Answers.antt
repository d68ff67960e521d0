use Rattle.lexical_laws.proofs.LongestFronts.{front_is_longest, front_is_whole, front_told, longest_is_front}
use Rattle.lexical_laws.proofs.ReadIsMade.{read_is_integer}
use Rattle.std.proofs.Common.{take}
use Rattle.lexical_laws.proofs.fronts.Goals as goal

pub returns-clause-whole : goal.returns-clause-whole
returns-clause-whole c = λ f t text v place valid read.
    read_is_integer f t (take place text) v valid
    (front_is_whole f t text v place valid read (c.front_end.ensures.within f t text v place (front_told f t text v place read).0))

pub returns-clause-longest : goal.returns-clause-longest
returns-clause-longest c = λ f t text found v place valid none read. (
  front_is_longest f t valid (c.locality.ensures f t valid none) (c.complete_by_partial.ensures.answer f t) (c.front_end.ensures.within f t) text v place,
  longest_is_front f t valid (c.locality.ensures f t valid none) (c.complete_by_partial.ensures.answer f t) (c.front_end.ensures.within f t) text found v place read,
)
