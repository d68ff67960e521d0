use Rattle.std.proofs.Common.{◌≡◌, ◌-◌, ◌^◌, ◌+◌, ℕ, List, Some, ap, arith, drop, length, subst, sym}
use Rattle.std.proofs.lemmas.List.{length-drop}
use Rattle.std.specs.Prelude.{slice_index}
use Rattle.lexical_digits.proofs.WordsInFront.{rest_is}
use Rattle.lexical_parse_integer.specs.Grouped.{digits_among}
use Rattle.lexical_fixed.specs.Around.{IsAround}
use Rattle.lexical_fixed.specs.Quick.{IsJoined, without}
use Rattle.lexical_fixed.proofs.AroundPoint.{around_apart, around_behind}
use Rattle.lexical_fixed.proofs.around.numbers_in_groups.Goals as goal

pub returns-in_ok-low-clause-around : goal.returns-in_ok-low-clause-around
returns-in_ok-low-clause-around g c =
    let bytes = c.args.bytes.now in
    let first = length bytes - 8 in
    let low = c.in_ok-low.low in
    let at : c.args.place - 4 ≡ first = omega (arith, c.requires.some, c.if-place-first.true) in
    let separator = subst (λ k. c.args.format.now.digit_separator ≡ Some (slice_index bytes k)) at c.requires.separator in
    let three : 3 ≡ c.args.place - (first + 1) = omega (arith, c.requires.some, c.if-place-first.true) in
    let six : 6 ≡ length bytes - (first + 2) = omega (arith, c.requires.some) in
    let joined = subst (λ k. IsJoined (without k (drop (first + 1) bytes)) low) three
    (subst (λ (bs : List ℕ). IsJoined (without 3 bs) low) (rest_is bytes (first + 1)) c.in_ok-low.ensures.joined) in
    around_apart c.args.format.now first c.args.place c.in_ok-high.high 1000000 low bytes separator c.requires.internal c.requires.no_digit
    (omega (arith, c.requires.some, c.if-place-first.true)) (omega (arith, c.requires.behind)) c.in_ok-high.ensures.grouped c.in_ok-high.ensures.worth
    joined (ap (λ n. 10 ^ n) six)

pub returns-in_ok-low-2-clause-around : goal.returns-in_ok-low-2-clause-around
returns-in_ok-low-2-clause-around g c =
    let bytes = c.args.bytes.now in
    let first = length bytes - 8 in
    let low = c.in_ok-low-2.low in
    let around = subst (λ (bs : List ℕ). IsAround c.args.format.now (c.args.place - first) bs low) (rest_is bytes first) c.in_ok-low-2.ensures.around in
    let digits = subst (λ (bs : List ℕ). length (digits_among 10 (without (c.args.place - first) bs)) ≡ length bs - 2) (rest_is bytes first) c.in_ok-low-2.ensures.digits in
    let size = length-drop first bytes in
    let six : length (digits_among 10 (without (c.args.place - first) (drop first bytes))) ≡ 6 = omega (arith, digits, size, c.requires.some) in
    around_behind c.args.format.now first c.args.place c.in_ok-high.high 1000000 low bytes (omega (arith, c.requires.some, c.requires.near)) (omega (arith, c.requires.behind))
    c.in_ok-high.ensures.worth around (ap (λ n. 10 ^ n) (sym six)) c.in_ok-high.ensures.grouped
