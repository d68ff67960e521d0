use Rattle.std.proofs.Common.{◌≤◌, ◌<◌, ◌+◌, ◌-◌, ◌*◌, arith, get_or, subst, sym}
use Rattle.std.proofs.lemmas.Bool.Decides.{nat_tests}
use Rattle.lexical_fixed.specs.Quick.{IsJoined}
use Rattle.lexical_fixed.proofs.ShortUnits.{two_digits, without_second}
use Rattle.lexical_fixed.proofs.short.number_of_3.Goals as goal

pub returns : goal.returns
returns c =
    let digits = c.args.digits.now in
    let first = get_or digits 0 0 in
    let last = get_or digits 2 0 in
    let a_from : 48 ≤ first = grind (arith, nat_tests, c.if-not-is_ascii_digit.false, c.is_ascii_digit.ensures.value) in
    let a_to : first < 58 = grind (arith, nat_tests, c.if-not-is_ascii_digit.false, c.is_ascii_digit.ensures.value) in
    let b_from : 48 ≤ last = grind (arith, nat_tests, c.if-not-is_ascii_digit-2.false, c.is_ascii_digit-else-not-is_ascii_digit.ensures.value) in
    let b_to : last < 58 = grind (arith, nat_tests, c.if-not-is_ascii_digit-2.false, c.is_ascii_digit-else-not-is_ascii_digit.ensures.value) in
    subst (λ bytes. IsJoined bytes (10 * (first - 48) + (last - 48))) (sym (without_second digits c.requires.three)) (two_digits first last a_from a_to b_from b_to)
