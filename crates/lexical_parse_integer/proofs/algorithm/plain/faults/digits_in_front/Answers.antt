use Rattle.std.proofs.Common.{arith}
use Rattle.lexical_digits.proofs.WordsInFront.{reaches}
use Rattle.lexical_parse_integer.proofs.plain.DigitFaults.{first_digits, more_digits, none_behind}
use Rattle.lexical_parse_integer.proofs.algorithm.plain.faults.digits_in_front.Goals as goal

pub returns-then-count-lt8-clause-digits : goal.returns-then-count-lt8-clause-digits
returns-then-count-lt8-clause-digits c = first_digits _ _ _ c.number_in_front-count.ensures.front

pub loop-count-init : goal.loop-count-init
loop-count-init c = record {
  some = omega (arith, c.if-count-lt8.false);
  within = c.number_in_front-count.ensures.front.within;
  digits = first_digits _ _ _ c.number_in_front-count.ensures.front;
}

pub returns-then-more-lt8-clause-digits : goal.returns-then-more-lt8-clause-digits
returns-then-more-lt8-clause-digits c = more_digits _ _ _ _ c.loop-count.invariant.digits c.number_behind-more.ensures.front

pub returns-then-more-lt8-clause-within : goal.returns-then-more-lt8-clause-within
returns-then-more-lt8-clause-within c = reaches _ _ _ _ c.number_behind-more.ensures.front c.loop-count.invariant.within

pub returns-then-more-lt8-clause-stops : goal.returns-then-more-lt8-clause-stops
returns-then-more-lt8-clause-stops c = λ _. none_behind _ _ _ _ c.loop-count.invariant.within c.number_behind-more.ensures.front (omega (arith, c.if-more-lt8.true))

pub loop-count-preserved : goal.loop-count-preserved
loop-count-preserved c =
    let i = c.loop-count.invariant in
    record {
      some = let low = i.some in omega arith;
      within = reaches _ _ _ _ c.number_behind-more.ensures.front i.within;
      digits = more_digits _ _ _ _ i.digits c.number_behind-more.ensures.front;
    }
