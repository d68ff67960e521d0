use Rattle.std.proofs.Common.{refl}
use Rattle.lexical_parse_integer.proofs.plain.DigitsInFront.{begins_read}
use Rattle.lexical_parse_integer.proofs.algorithm.plain.front_if_plain.Goals as goal

pub returns-in-Some-clause-answer : goal.returns-in-Some-clause-answer
returns-in-Some-clause-answer g c =
    let told = c.if-not-is_decimal.ensures in
    begins_read _ _ _ c.args.bytes.now _ _ _ _ (told.plain refl) (told.decimal refl) c.behind_minus-is_negative.ensures.behind c.from.ensures c.in-Some.ensures
