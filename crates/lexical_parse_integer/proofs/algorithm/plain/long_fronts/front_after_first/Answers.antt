use Rattle.std.proofs.Common.{◌+◌, ◌*◌, arith, ap, ◌∙◌}
use Rattle.lexical_digits.specs.Value.{with_sign}
use Rattle.lexical_parse_integer.proofs.plain.DigitsInFront.{joined_begin}
use Rattle.lexical_parse_integer.proofs.algorithm.plain.long_fronts.front_after_first.Goals as goal

pub returns-in-Some : goal.returns-in-Some
returns-in-Some g c =
    let second = c.number_behind-second.ensures.front in
    joined_begin _ _ _ _ _ 8 _ _ _ (omega arith) c.requires.first.within c.requires.first.writes second (omega (arith, second.few, c.if-count-eq8.false)) c.requires.rule
    (c.in-Some.ensures.value ∙ ap (λ n. with_sign c.args.is_negative (c.args.first * n + c.number_behind-second.result.0)) c.power_of_ten.ensures.power) c.in-Some.ensures.fits
