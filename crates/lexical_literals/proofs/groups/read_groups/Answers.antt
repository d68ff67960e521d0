use Rattle.std.proofs.Common.{◌+◌, arith, false, refl}
use Rattle.lexical_literals.proofs.GroupedFronts.{groups_more, one_run, part_within, row_groups}
use Rattle.lexical_literals.proofs.groups.read_groups.Goals as goal

pub loop-place-init : goal.loop-place-init
loop-place-init c =
    row_groups false c.args.separator c.args.radix c.args.text.now c.args.start c.args.first c.args.behind c.requires.row

pub read_row-requires-clause-within : goal.read_row-requires-clause-within
read_row-requires-clause-within c =
    omega (arith, part_within c.args.radix c.args.text.now (c.loop-place.place + 1) (c.parts_digits.ensures.after c.loop-place-test.true))

pub loop-place-preserved : goal.loop-place-preserved
loop-place-preserved c =
    let row = c.read_row.ensures in
    let here = c.parts_digits.ensures.here c.loop-place-test.true in
    groups_more false c.args.separator c.args.radix c.args.text.now c.args.start c.loop-place.number c.loop-place.place
    (c.loop-place.place + 1) c.read_row.result.0 c.read_row.result.1 c.requires.other c.loop-place.invariant (omega arith)
    (one_run c.args.separator c.args.text.now c.loop-place.place here)
    (c.parts_digits.ensures.after c.loop-place-test.true) (λ few. refl)
    row.forward row.within row.digits row.number
