use Rattle.std.proofs.Common.{◌≤◌, ◌<◌, ◌^◌, length, rules, arith, sym}
use Rattle.std.specs.Str.Lines.{lines}
use Rattle.std.proofs.lemmas.Int.{ints}
use Rattle.std.proofs.lemmas.Iterator.Consumers.{YieldsList-from_enumerate, YieldsList-turn, YieldsList-end}
use Rattle.std.proofs.lemmas.Iterator.Splits.{YieldsList-from_lines}
use Rattle.std.proofs.lemmas.List.{length_push}
use Rattle.std.proofs.lemmas.List.FromFn.{length-enumerate_from}
use Rattle.uses.proofs.Sums.{lines_most, sum_end, sum_fault, sum_more, sum_same}
use Rattle.uses.proofs.ledger.total.Goals as goal

pub returns-in-Err : goal.returns-in-Err
returns-in-Err c =
    let turn = YieldsList-turn (YieldsList-from_enumerate (YieldsList-from_lines c.args.text.now cc)
    cc) c.loop-line.yielded _ c.loop-line.yielded_by _ _ _ c.in-Some.is c.next.ensures.steps in
    sum_fault c.args.text.now (length c.loop-line.yielded) c.in-Some.line c.in-Some.text.now _
    c.in-Err.error c.loop-line.invariant.read turn cc

pub overflow_add-sum : goal.overflow_add-sum
overflow_add-sum c =
    let turn = YieldsList-turn (YieldsList-from_enumerate (YieldsList-from_lines c.args.text.now cc)
    cc) c.loop-line.yielded _ c.loop-line.yielded_by _ _ _ c.in-Some.is c.next.ensures.steps in
    let some = lines_most c.args.text.now in
    let size = length-enumerate_from 0 (lines c.args.text.now) in
    let few : length c.loop-line.yielded ≤ length c.args.text.now = omega arith in
    let room : length c.args.text.now < 2 ^ 64 = omega arith in
    omega (arith, ints)

pub loop-line-preserved : goal.loop-line-preserved
loop-line-preserved c =
    let turn = YieldsList-turn (YieldsList-from_enumerate (YieldsList-from_lines c.args.text.now cc)
    cc) c.loop-line.yielded _ c.loop-line.yielded_by _ _ _ c.in-Some.is c.next.ensures.steps in
    let some = lines_most c.args.text.now in
    let size = length-enumerate_from 0 (lines c.args.text.now) in
    let few : length c.loop-line.yielded ≤ length c.args.text.now = omega arith in
    let room : length c.args.text.now < 2 ^ 64 = omega arith in
    let more = length_push c.loop-line.yielded (c.in-Some.line, c.in-Some.text) in
    let read = sum_more c.args.text.now (length c.loop-line.yielded) c.in-Some.line
    c.in-Some.text.now _ c.in-Ok.cents c.loop-line.invariant.read turn cc in
    record {
      can_next = search rules;
      is_finite = search rules;
      read = sum_same c.args.text.now _ _ _ _ read (sym more) (omega (arith, ints));
      low = omega (arith, ints);
      high = omega (arith, ints);
    }

pub returns : goal.returns
returns c =
    let turn = YieldsList-end (YieldsList-from_enumerate (YieldsList-from_lines c.args.text.now cc)
    cc) c.loop-line.yielded _ c.loop-line.yielded_by _ _ c.in-None.is c.next.ensures.steps in
    sum_end c.args.text.now (length c.loop-line.yielded) _ _ c.loop-line.invariant.read turn.1 cc
