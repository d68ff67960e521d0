use Rattle.std.proofs.Common.{◌≡◌, ◌-◌, ℕ, List, arith, length, subst, take}
use Rattle.std.proofs.lemmas.List.{length-take-le}
use Rattle.lexical_digits.proofs.WordsInFront.{rest_is}
use Rattle.lexical_fixed.specs.Quick.{IsJoined, without}
use Rattle.lexical_fixed.proofs.JoinedDigits.{joined_small, parts_joined}
use Rattle.lexical_fixed.proofs.LastFractions.{joined_digits}
use Rattle.lexical_fixed.proofs.joined.numbers_without.Goals as goal

pub returns-clause-joined : goal.returns-clause-joined
returns-clause-joined c =
    let text = c.args.text.now in
    let first = joined_digits _ (take (length text - 8) text) c.in-Some.high c.in-Some.ensures in
    let behind = subst (λ (bytes : List ℕ). IsJoined (without (c.args.place - (length text - 8)) bytes) c.in-Some-number_without.low) (rest_is text (length text - 8)) c.in-Some-number_without.ensures.joined in
    parts_joined (length text - 8) c.args.place text c.in-Some.high c.in-Some-number_without.low (omega (arith, c.requires.behind)) c.requires.within
    (omega (arith, c.requires.some)) first.digits first.worth behind

pub returns-clause-high : goal.returns-clause-high
returns-clause-high c =
    let text = c.args.text.now in
    let first = joined_digits _ (take (length text - 8) text) c.in-Some.high c.in-Some.ensures in
    let size : length (take (length text - 8) text) ≡ length text - 8 = length-take-le (length text - 8) text (omega arith) in
    joined_small (take (length text - 8) text) c.in-Some.high (omega (arith, size, c.requires.few)) first
