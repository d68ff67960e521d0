use Rattle.std.proofs.lemmas.Int.{ints}
use Rattle.std.proofs.Common.{◌≡◌, ◌+◌, ap, arith}
use Rattle.std.specs.Prelude.{ℤ, pos}
use Rattle.lexical_parse_integer.specs.CursorView.{CursorView}
use Rattle.lexical_util.specs.Number.{mul_add}
use Rattle.lexical_util.proofs.Room.{small_is_number}
use Rattle.lexical_parse_integer.proofs.Folds.{fact_of}
use Rattle.lexical_parse_integer.proofs.reading.DigitsRead.{reads_sign}
use Rattle.lexical_parse_integer.proofs.reading.NumeralSteps.{goes_on_digit, goes_on_end}
use Rattle.lexical_parse_integer.proofs.reading.UntestedDigits.{JoinsDigit, digit_small, joins_digit}
use Rattle.lexical_parse_integer.proofs.algorithm.counted.digits.read_untested.Goals as goal
use Rattle.lexical_parse_integer.proofs.algorithm.counted.digits.read_untested.Given.{Over}

pub from_u32-requires : goal.from_u32-requires
from_u32-requires g c =
    small_is_number _ _ c.in-Some.digit g.met.T.Integer.width_law
    (digit_small c.args.c.now c.loop-radix.c c.read_digit.new.self c.in-Some.digit (fact_of c.requires.ready.sound) c.loop-radix.invariant.goes_on c.in-Some.ensures.step)

joins_next : (g : Over) (c : goal.In-Some g) (digit : ℤ) → digit ≡ pos c.in-Some.digit → JoinsDigit g.T.Integer.TYPE.bits g.T.Integer.TYPE.is_signed c.args.is_negative c.args.c.now c.read_digit.new.self (mul_add c.args.is_negative (g.T.Integer.number c.loop-radix.value) (g.T.Integer.number c.from_u32-radix.result) digit)
joins_next g c digit is_digit =
    let i = c.loop-radix.invariant in
    let count = c.digits.ensures in
    joins_digit _ _ c.args.is_negative c.args.c.now c.loop-radix.c c.read_digit.new.self c.args.most c.in-Some.digit _ _ _
    (fact_of c.requires.ready.sound) i.goes_on c.in-Some.ensures.step c.requires.room c.requires.ready.minus (omega (arith, c.loop-radix-test.true)) i.reads i.radix is_digit

pub mul_add-value-requires-clause-fits : goal.mul_add-value-requires-clause-fits
mul_add-value-requires-clause-fits g c = (joins_next g c.before _ c.from_u32.ensures).fits

pub loop-radix-preserved : goal.loop-radix-preserved
loop-radix-preserved g c =
    let i = c.loop-radix.invariant in
    let digits : c.read_digit.new.self.digits ≡ c.loop-radix.c.digits + 1 = ap (λ (v : CursorView). v.digits) c.in-Some.ensures.step.after in
    let turns : c.read_digit.new.self.turns ≡ c.loop-radix.c.turns + 1 = ap (λ (v : CursorView). v.turns) c.in-Some.ensures.step.after in
    let before = i.turns in
    record {
      goes_on = goes_on_digit c.args.c.now c.loop-radix.c c.read_digit.new.self c.in-Some.digit i.goes_on c.in-Some.ensures.step c.in-Some.ensures.sound;
      reads = rw c.mul_add-value.ensures (joins_next g c.before.before _ c.from_u32.ensures).reads;
      turns = omega arith;
      radix = i.radix;
      sign = i.sign;
    }

pub returns-in-None-clause-on : goal.returns-in-None-clause-on
returns-in-None-clause-on g c =
    let i = c.loop-radix.invariant in
    let digits : c.read_digit.new.self.digits ≡ c.loop-radix.c.digits = ap (λ (v : CursorView). v.digits) c.in-None.ensures.step.after in
    record {
      reads = rw digits i.reads;
      goes_on = goes_on_end c.args.c.now c.loop-radix.c c.read_digit.new.self i.goes_on c.in-None.ensures.step c.in-None.ensures.sound;
    }

pub returns-clause-on : goal.returns-clause-on
returns-clause-on g c = record { reads = c.loop-radix.invariant.reads; goes_on = c.loop-radix.invariant.goes_on }

pub mul_add-value-requires-clause-sign : goal.mul_add-value-requires-clause-sign
mul_add-value-requires-clause-sign g c = reads_sign _ c.args.is_negative _ _ _ c.loop-radix.invariant.reads

pub from_u32-radix-requires : goal.from_u32-radix-requires
from_u32-radix-requires g c =
    let high = (fact_of c.requires.ready.sound).radix.high in
    small_is_number _ _ c.radix.result g.met.T.Integer.width_law (omega (arith, c.radix.ensures))

pub mul_add-value-requires-clause-scale : goal.mul_add-value-requires-clause-scale
mul_add-value-requires-clause-scale g c =
    let two = (fact_of c.requires.ready.sound).radix.low in
    rw c.loop-radix.invariant.radix (omega (arith, ints))
