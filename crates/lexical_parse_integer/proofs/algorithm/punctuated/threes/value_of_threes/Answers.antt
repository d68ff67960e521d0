use Rattle.std.proofs.Common.{ℕ, ap, arith, ◌∙◌}
use Rattle.std.specs.Prelude.{pos}
use Rattle.lexical_util.specs.Digit.{digit}
use Rattle.lexical_util.specs.Number.{mul_add}
use Rattle.lexical_parse_integer.proofs.punctuated.DigitsAmong.{digits_alone, digits_worth}
use Rattle.lexical_parse_integer.proofs.punctuated.PartedFronts.{all_worth, worth_sign}
use Rattle.lexical_parse_integer.proofs.punctuated.Threes.{row_ends, row_parted, three_ends, three_parted, three_worth, threes_grouped}
use Rattle.lexical_parse_integer.proofs.algorithm.punctuated.threes.value_of_threes.Goals as goal

pub loop-place-init : goal.loop-place-init
loop-place-init g c =
    let told = c.guess_of_first-place.ensures in
    let stands = c.in_ok-value.ensures in
    let all = digits_alone _ 10 _ _ _ stands in
    record {
      within = told.within;
      parted = row_parted _ _ _ c.args.bytes.now _ told.some told.within all;
      ends = row_ends _ c.args.bytes.now _ told.some told.within all;
      worth = digits_worth _ 10 _ _ _ stands;
    }

pub three_at-requires : goal.three_at-requires
three_at-requires g c = c.loop-place-test.true

pub loop-place-smaller : goal.loop-place-smaller
loop-place-smaller g c = omega arith

pub with_three-requires-clause-bits : goal.with_three-requires-clause-bits
with_three-requires-clause-bits g c = c.requires.bits

pub with_three-requires-clause-small : goal.with_three-requires-clause-small
with_three-requires-clause-small g c = c.in-Some.ensures.small

pub with_three-requires-clause-sign : goal.with_three-requires-clause-sign
with_three-requires-clause-sign g c = worth_sign _ _ _ _ _ c.loop-place.invariant.worth

pub loop-place-preserved : goal.loop-place-preserved
loop-place-preserved g c =
    let i = c.loop-place.invariant in
    let told = c.in-Some.ensures in
    record {
      within = c.loop-place-test.true;
      parted = three_parted _ _ _ c.args.bytes.now _ _ _ _ i.parted told.parted told.first told.second told.third;
      ends = three_ends _ c.args.bytes.now _ _ told.third;
      worth = three_worth _ _ c.args.bytes.now _ _ _ _ _ _ i.worth c.loop-place-test.true (ap (λ b. digit 10 b) told.parted ∙ c.requires.no_digit) told.first told.second told.third (c.in-Some-with_three.ensures.value ∙ ap (λ (n : ℕ). mul_add c.args.is_negative (g.T.Integer.number c.loop-place.value) (pos 1000) (pos n)) told.value) c.in-Some-with_three.ensures.fits;
    }

pub returns-clause-grouped : goal.returns-clause-grouped
returns-clause-grouped g c =
    let i = c.loop-place.invariant in
    threes_grouped _ c.args.separator c.args.bytes.now _ c.requires.separator c.requires.internal c.requires.no_digit c.requires.some (omega (arith, i.within, c.if-place-bytes.false)) i.ends i.parted

pub returns-clause-worth : goal.returns-clause-worth
returns-clause-worth g c =
    let i = c.loop-place.invariant in
    all_worth _ 10 _ c.args.bytes.now c.loop-place.place _ (omega (arith, i.within, c.if-place-bytes.false)) i.worth
