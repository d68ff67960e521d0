use Rattle.lexical_parse_integer.proofs.theorems.ReadBack.{numeral_text, numeral_text_is, printed_is, reads_numerals, shortest_if}
use Rattle.lexical_parse_integer.proofs.laws.grammar.numerals.Goals as goal

pub returns-clause-read : goal.returns-clause-read
returns-clause-read c = λ radix type is_radix. reads_numerals radix type is_radix.low

pub returns-clause-some : goal.returns-clause-some
returns-clause-some c = λ radix value is_radix. (numeral_text radix value, numeral_text_is radix value is_radix.low is_radix.high)

pub returns-clause-shortest : goal.returns-clause-shortest
returns-clause-shortest c = λ radix number text is_radix. shortest_if radix number text is_radix.low

pub returns-clause-printed : goal.returns-clause-printed
returns-clause-printed c = printed_is
