use Rattle.std.proofs.Common.{refl}
use Rattle.lexical_digits.proofs.LongNumbers.{if_found}
use Rattle.lexical_parse_integer.proofs.algorithm.whole.value_for_format.Goals as goal

pub returns-then-is_decimal-clause-valid : goal.returns-then-is_decimal-clause-valid
returns-then-is_decimal-clause-valid g c = if_found c.value_of_decimal.result (λ v is. c.if-is_decimal.ensures.valid refl) c.value_of_decimal.ensures

pub returns-then-is_plain-clause-valid : goal.returns-then-is_plain-clause-valid
returns-then-is_plain-clause-valid g c = if_found c.value_of_plain.result (λ v is. c.if-is_plain.ensures.valid refl) c.value_of_plain.ensures
