use Rattle.std.proofs.Common.{◌+◌, ◌≤◌, arith, length, sym, subst, drop}
use Rattle.std.proofs.lemmas.Bool.Decides.{nat_tests}
use Rattle.lexical_tables.specs.Ends.{AreEnds}
use Rattle.lexical_tables.proofs.CellEnds.{far_end, none_to, shifted_twice}
use Rattle.lexical_tables.proofs.ends.far_end.Goals as goal

pub overflow_add-result : goal.overflow_add-result
overflow_add-result c =
    let look = c.look_at_64-look in
    let mark = c.lowest_mark-size in
    let long : c.loop-place.place + 80 ≤ length c.args.text.now = grind (arith, nat_tests) in
    let e = far_end c.args.has_quotes c.args.separator c.args.text.now c.loop-place.place look.result.ends mark.result
    c.requires.quoted long (omega arith) look.ensures.here c.loop-place.invariant.2 mark.ensures.set mark.ensures.below in
    omega (arith, e.few, long)

pub overflow_shr-result : goal.overflow_shr-result
overflow_shr-result c =
    let look = c.look_at_64-look in
    let mark = c.lowest_mark-size in
    let long : c.loop-place.place + 80 ≤ length c.args.text.now = grind (arith, nat_tests) in
    let e = far_end c.args.has_quotes c.args.separator c.args.text.now c.loop-place.place look.result.ends mark.result
    c.requires.quoted long (omega arith) look.ensures.here c.loop-place.invariant.2 mark.ensures.set mark.ensures.below in
    e.few

pub returns-then-look-ne0-clause-end : goal.returns-then-look-ne0-clause-end
returns-then-look-ne0-clause-end c =
    let look = c.look_at_64-look in
    let mark = c.lowest_mark-size in
    let long : c.loop-place.place + 80 ≤ length c.args.text.now = grind (arith, nat_tests) in
    let e = far_end c.args.has_quotes c.args.separator c.args.text.now c.loop-place.place look.result.ends mark.result
    c.requires.quoted long (omega arith) look.ensures.here c.loop-place.invariant.2 mark.ensures.set mark.ensures.below in
    e.first

pub returns-then-look-ne0-clause-marks : goal.returns-then-look-ne0-clause-marks
returns-then-look-ne0-clause-marks c =
    let look = c.look_at_64-look in
    let mark = c.lowest_mark-size in
    let long : c.loop-place.place + 80 ≤ length c.args.text.now = grind (arith, nat_tests) in
    let e = far_end c.args.has_quotes c.args.separator c.args.text.now c.loop-place.place look.result.ends mark.result
    c.requires.quoted long (omega arith) look.ensures.here c.loop-place.invariant.2 mark.ensures.set mark.ensures.below in
    subst (AreEnds c.args.has_quotes c.args.separator (drop (c.loop-place.place + mark.result + 1) c.args.text.now))
    (sym (shifted_twice look.result.ends mark.result)) e.ends

pub loop-place-preserved : goal.loop-place-preserved
loop-place-preserved c =
    let look = c.look_at_64-look in
    let long : c.loop-place.place + 80 ≤ length c.args.text.now = grind (arith, nat_tests) in (
      omega (arith, long),
      look.ensures.within,
      none_to c.args.has_quotes c.args.separator c.args.text.now c.loop-place.place look.result.ends c.if-look-ne0.false
          look.ensures.here c.loop-place.invariant.2,
    )
