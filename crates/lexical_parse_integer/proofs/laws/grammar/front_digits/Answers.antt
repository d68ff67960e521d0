-- Of `front_digits`: the law is a lemma on the definitions.
use Rattle.lexical_parse_integer.proofs.reading.Soundness.{none_from_IsNone}
use Rattle.lexical_parse_integer.proofs.theorems.FrontDigits.{tells_digits}
use Rattle.lexical_parse_integer.proofs.laws.grammar.front_digits.Goals as goal

pub returns : goal.returns
returns c = λ format type text no_separator no_suffix head value place head_is unprefixed told.
    tells_digits format type text head value place (none_from_IsNone format.digit_separator no_separator) (none_from_IsNone format.base_suffix no_suffix) head_is unprefixed told
