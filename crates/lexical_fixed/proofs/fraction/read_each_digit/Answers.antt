use Rattle.std.proofs.Common.{arith, ap, ◌∙◌}
use Rattle.std.specs.Prelude.{Err}
use Rattle.lexical_fixed.proofs.Digits.{digit_among, digits_all, digits_leave, digits_more, digits_none, digits_sign}
use Rattle.lexical_fixed.proofs.fraction.read_each_digit.Goals as goal

pub loop-index-init : goal.loop-index-init
loop-index-init g c = digits_none _ _ _ _ c.requires.sign

pub append_digit-requires-clause-least : goal.append_digit-requires-clause-least
append_digit-requires-clause-least g c = (digit_among c.args.digits.now c.loop-index.index c.requires.digits c.loop-index-test.true).0

pub append_digit-requires-clause-greatest : goal.append_digit-requires-clause-greatest
append_digit-requires-clause-greatest g c = (digit_among c.args.digits.now c.loop-index.index c.requires.digits c.loop-index-test.true).1

pub append_digit-requires-clause-sign : goal.append_digit-requires-clause-sign
append_digit-requires-clause-sign g c = digits_sign _ _ _ _ _ _ c.loop-index.invariant

pub returns-in-None-clause-answer : goal.returns-in-None-clause-answer
returns-in-None-clause-answer g c =
    ap Err c.range_fault.ensures ∙ digits_leave _ _ _ _ _ c.args.place _ c.loop-index.invariant c.loop-index-test.true c.in-None.ensures

pub loop-index-preserved : goal.loop-index-preserved
loop-index-preserved g c = digits_more _ _ _ _ _ _ _ c.loop-index.invariant c.loop-index-test.true c.in-Some.ensures

pub returns-clause-answer : goal.returns-clause-answer
returns-clause-answer g c = digits_all _ _ _ _ _ c.args.place _ c.loop-index.invariant (omega arith)

pub returns-clause-sign : goal.returns-clause-sign
returns-clause-sign g c = digits_sign _ _ _ _ _ _ c.loop-index.invariant
