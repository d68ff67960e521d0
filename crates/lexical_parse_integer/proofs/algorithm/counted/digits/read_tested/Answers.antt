use Rattle.std.proofs.Common.{◌≡◌, ◌+◌, ap, arith}
use Rattle.std.proofs.lemmas.Result.{err_from_is_err_and}
use Rattle.lexical_parse_integer.specs.CursorView.{CursorView}
use Rattle.lexical_parse_integer.proofs.Folds.{fact_of}
use Rattle.lexical_parse_integer.proofs.reading.DigitsRead.{reads_sign}
use Rattle.lexical_parse_integer.proofs.reading.NumeralSteps.{goes_on_digit}
use Rattle.lexical_parse_integer.proofs.reading.FirstDigit.{taken_count_from}
use Rattle.lexical_parse_integer.proofs.reading.DigitLoop.{digit_below, reads_next, reads_leaves, reads_end}
use Rattle.lexical_parse_integer.proofs.algorithm.counted.digits.read_tested.Goals as goal

pub join_checked-requires-clause-digit : goal.join_checked-requires-clause-digit
join_checked-requires-clause-digit g c = digit_below _ _ c.in-Some.digit c.radix.result c.in-Some.ensures.step c.radix.ensures

pub returns-in_err-value-clause-leaves : goal.returns-in_err-value-clause-leaves
returns-in_err-value-clause-leaves g c =
    let p = err_from_is_err_and c.from_residual.result c.from_residual.ensures.1 in
    let i = c.loop-digit.invariant in
    let at = c.place-place.ensures in
    let behind : c.read_digit.new.self.position ≡ c.in-Some.ensures.step.place + 1 = ap (λ (v : CursorView). v.position) c.in-Some.ensures.step.after in
    rw (p.1, p.2) (reads_leaves _ c.args.is_negative c.args.c.now c.loop-digit.c c.read_digit.new.self c.in-Some.digit c.radix.result _ _ _ i.goes_on c.in-Some.ensures.step i.reads c.radix.ensures (omega arith) c.in_err-value.ensures.leaves.0 c.in_err-value.ensures.leaves.1)

pub loop-digit-preserved : goal.loop-digit-preserved
loop-digit-preserved g c =
    let i = c.loop-digit.invariant in
    record {
      goes_on = goes_on_digit c.args.c.now c.loop-digit.c c.read_digit.new.self c.in-Some.digit i.goes_on c.in-Some.ensures.step c.in-Some.ensures.sound;
      reads = reads_next _ c.args.is_negative c.args.c.now c.loop-digit.c c.read_digit.new.self c.in-Some.digit c.radix.result _ _ i.goes_on c.in-Some.ensures.step i.reads c.radix.ensures c.in_ok-value.ensures.fits.0 c.in_ok-value.ensures.fits.1;
      turns =
          let digits : c.read_digit.new.self.digits ≡ c.loop-digit.c.digits + 1 = ap (λ (v : CursorView). v.digits) c.in-Some.ensures.step.after in
          let turns : c.read_digit.new.self.turns ≡ c.loop-digit.c.turns + 1 = ap (λ (v : CursorView). v.turns) c.in-Some.ensures.step.after in
          let before = i.turns in
          omega arith;
      sign = i.sign;
    }

pub returns-clause-all : goal.returns-clause-all
returns-clause-all g c = reads_end _ c.args.is_negative c.args.c.now c.loop-digit.c c.read_digit.new.self _ c.loop-digit.invariant.goes_on c.in_default.ensures.step c.loop-digit.invariant.reads

pub returns-in_err-value-clause-count : goal.returns-in_err-value-clause-count
returns-in_err-value-clause-count g c = taken_count_from c.args.c.now c.loop-digit.c c.read_digit.new.self c.in-Some.digit c.loop-digit.invariant.goes_on c.in-Some.ensures.step

pub join_checked-requires-clause-sign : goal.join_checked-requires-clause-sign
join_checked-requires-clause-sign g c = reads_sign _ c.args.is_negative _ _ _ c.loop-digit.invariant.reads

pub join_checked-requires-clause-radix : goal.join_checked-requires-clause-radix
join_checked-requires-clause-radix g c = rw c.radix.ensures (fact_of c.in-Some.ensures.sound).radix
