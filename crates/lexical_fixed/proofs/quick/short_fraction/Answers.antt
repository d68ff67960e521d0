use Rattle.std.proofs.Common.{◌≡◌, ◌≤◌, ◌<◌, ◌+◌, ◌∙◌, Some, ap, arith, false, length, subst, sym, true}
use Rattle.std.proofs.lemmas.Bool.Decides.{nat_tests}
use Rattle.std.specs.Prelude.{slice_get, slice_range}
use Rattle.lexical_digits.specs.WrittenNumbers.{WritesFirst}
use Rattle.lexical_parse_integer.specs.Runs.{are_same}
use Rattle.lexical_fixed.proofs.QuickFronts.{few_digits, no_digits, no_point}
use Rattle.lexical_fixed.proofs.quick.short_fraction.Goals as goal

pub returns-then-not-stands_at : goal.returns-then-not-stands_at
returns-then-not-stands_at c =
    let none : are_same (Some c.args.format.now.point) (slice_get c.args.text.now c.args.place) ≡ false =
    ap (λ p. are_same (Some p) (slice_get c.args.text.now c.args.place)) (sym c.point.ensures) ∙ sym c.if-not-stands_at.ensures.answer in
    no_point c.args.format.now c.args.text.now c.args.place none

pub returns-then-takes_fewer : goal.returns-then-takes_fewer
returns-then-takes_fewer c =
    let some : are_same (Some c.args.format.now.point) (slice_get c.args.text.now c.args.place) ≡ true =
    ap (λ p. are_same (Some p) (slice_get c.args.text.now c.args.place)) (sym c.point.ensures) ∙ sym c.if-not-stands_at.ensures.answer in
    let number = c.number_in_front-number.result.0 in
    let zero : c.number_in_front-number.result.1 ≡ 0 = grind (arith, nat_tests, c.if-count-eq0.true) in
    let first = subst (λ count. WritesFirst (slice_range c.args.text.now (c.args.place + 1) (length c.args.text.now)) number count) zero c.number_in_front-number.ensures.front in
    let takes : c.args.format.now.takes_fewer ≡ true = grind (arith, nat_tests, c.if-takes_fewer.true, c.takes_fewer.ensures) in
    no_digits c.args.format.now c.args.text.now c.args.place number some first takes

pub returns : goal.returns
returns c =
    let some : are_same (Some c.args.format.now.point) (slice_get c.args.text.now c.args.place) ≡ true =
    ap (λ p. are_same (Some p) (slice_get c.args.text.now c.args.place)) (sym c.point.ensures) ∙ sym c.if-not-stands_at.ensures.answer in
    let number = c.number_in_front-number.result.0 in
    let count = c.number_in_front-number.result.1 in
    let one : 1 ≤ count = grind (arith, nat_tests, c.if-count-eq0-2.false) in
    let seven : count < 8 = grind (arith, nat_tests, c.if-count-gt7.false) in
    let room : count ≤ c.places.result = grind (arith, nat_tests, c.if-count-places.false) in
    few_digits c.args.format.now c.args.text.now c.args.place number count some c.number_in_front-number.ensures.front one seven (omega (arith, c.places.ensures)) c.number_in_front-number.ensures.small
