use Rattle.std.proofs.Common.{◌≡◌, ◌≤◌, arith, length, subst, sym}
use Rattle.std.proofs.lemmas.Bool.Decides.{nat_tests}
use Rattle.lexical_digits.proofs.LongNumbers.{if_found}
use Rattle.lexical_fixed.specs.Quick.{IsJoined, without_point}
use Rattle.lexical_fixed.proofs.JoinedDigits.{joined_small}
use Rattle.lexical_fixed.proofs.LastFractions.{joined_digits}
use Rattle.lexical_fixed.proofs.ShortUnits.{second_point, small_around}
use Rattle.lexical_fixed.proofs.short.number_of_few.Goals as goal

pub returns-then-count-eq0-clause-joined : goal.returns-then-count-eq0-clause-joined
returns-then-count-eq0-clause-joined c =
    let none : c.args.count ≡ 0 = grind (arith, nat_tests, c.if-count-eq0.true) in
    if_found c.value_to_16.result (λ number it. subst (λ n. IsJoined (without_point n c.args.digits.now) number) (sym none) (joined_digits _ c.args.digits.now number it)) c.value_to_16.ensures

pub returns-then-count-eq0-clause-small : goal.returns-then-count-eq0-clause-small
returns-then-count-eq0-clause-small c =
    if_found c.value_to_16.result (λ number it. joined_small c.args.digits.now number c.requires.few (joined_digits _ c.args.digits.now number it)) c.value_to_16.ensures

pub returns-then-digits-eq3-clause-joined : goal.returns-then-digits-eq3-clause-joined
returns-then-digits-eq3-clause-joined c =
    let three : length c.args.digits.now ≡ 3 = grind (arith, nat_tests, c.if-digits-eq3.true) in
    let some : 1 ≤ c.args.count = grind (arith, nat_tests, c.if-count-eq0.false) in
    if_found c.number_of_3.result
    (λ number it. subst (λ bytes. IsJoined bytes number) (sym (second_point c.args.digits.now c.args.count three some (c.requires.before some))) it) c.number_of_3.ensures

pub returns-then-digits-eq3-clause-small : goal.returns-then-digits-eq3-clause-small
returns-then-digits-eq3-clause-small c =
    let three : length c.args.digits.now ≡ 3 = grind (arith, nat_tests, c.if-digits-eq3.true) in
    if_found c.number_of_3.result (λ number it. small_around c.args.digits.now number three it) c.number_of_3.ensures
