use Rattle.std.proofs.Common.{sym, ◌∙◌, arith}
use Rattle.lexical_parse_integer.proofs.plain.DigitsInFront.{first_begin}
use Rattle.lexical_parse_integer.proofs.algorithm.plain.front_of_digits.Goals as goal

pub returns-in-Some : goal.returns-in-Some
returns-in-Some g c =
    let front = c.number_in_front-number.ensures.front in
    let rule = sym c.keeps_zero_rule.ensures ∙ c.if-not-keeps_zero_rule.false in
    first_begin _ _ _ _ _ _ _ (omega (arith, c.if-count-eq0.false)) front (omega (arith, front.few, c.if-count-eq8.false)) rule c.in-Some.ensures.value c.in-Some.ensures.fits
