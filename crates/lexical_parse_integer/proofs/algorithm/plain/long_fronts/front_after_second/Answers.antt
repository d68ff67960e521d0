use Rattle.std.proofs.Common.{◌+◌, ◌*◌, arith, ap, ◌∙◌}
use Rattle.std.specs.Prelude.{ℤ}
use Rattle.lexical_util.specs.Number.{mul_add}
use Rattle.lexical_digits.specs.Value.{with_sign}
use Rattle.lexical_digits.proofs.LongNumbers.{sign_held, stepped, sum_fits, sum_found, word_fits}
use Rattle.lexical_digits.proofs.WordsInFront.{joined, reaches}
use Rattle.lexical_parse_integer.proofs.plain.DigitsInFront.{joined_begin}
use Rattle.lexical_parse_integer.proofs.algorithm.plain.long_fronts.front_after_second.Goals as goal

pub from_u32-scale-requires : goal.from_u32-scale-requires
from_u32-scale-requires g c = word_fits _ c.power_of_ten.result g.met.T.Integer.width_law (omega (arith, c.if-BITS-le32.false, c.BITS.ensures, g.met.T.Integer.bits_law)) (omega (arith, c.power_of_ten.ensures.small))

pub from_u32-requires : goal.from_u32-requires
from_u32-requires g c = word_fits _ c.number_behind-third.result.0 g.met.T.Integer.width_law (omega (arith, c.if-BITS-le32.false, c.BITS.ensures, g.met.T.Integer.bits_law)) (omega (arith, c.number_behind-third.ensures.small))

pub checked_mul_add-requires-clause-sign : goal.checked_mul_add-requires-clause-sign
checked_mul_add-requires-clause-sign g c = sign_held c.args.is_negative _ _ c.in_ok-front.ensures.value

pub returns-in-Some : goal.returns-in-Some
returns-in-Some g c =
    let two = joined 8 8 c.args.first c.args.second c.args.digits.now c.requires.first.writes c.requires.second in
    let far = reaches c.args.digits.now 8 c.args.second 8 c.requires.second c.requires.first.within in
    let third = c.number_behind-third.ensures.front in
    let sum : ℤ = mul_add c.args.is_negative (g.T.Integer.number c.in_ok-front.front) (g.T.Integer.number c.from_u32-scale.result) (g.T.Integer.number c.from_u32.result) in
    let found = sum_found g.T.Integer.TYPE (g.T.Integer.number c.in-Some.value) sum c.in-Some.ensures in
    let fits = sum_fits g.T.Integer.TYPE (g.T.Integer.number c.in-Some.value) sum c.in-Some.ensures in
    let worth = stepped c.args.is_negative _ _ _ _ _ _ _ c.in_ok-front.ensures.value c.from_u32-scale.ensures c.from_u32.ensures found in
    joined_begin _ _ _ _ _ 16 _ _ _ (omega arith) (omega (arith, far)) two third (omega (arith, third.few, c.if-count-eq8.false)) c.requires.rule
    (worth ∙ ap (λ n. with_sign c.args.is_negative ((c.args.first * 100000000 + c.args.second) * n + c.number_behind-third.result.0)) c.power_of_ten.ensures.power) fits
