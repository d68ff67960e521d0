use Rattle.std.proofs.Common.{arith, sym, true}
use Rattle.std.proofs.lemmas.Bool.{false≢true}
use Rattle.lexical_literals.proofs.GroupedFronts.{groups_more, part_within, row_groups}
use Rattle.lexical_literals.proofs.groups.read_runs.Goals as goal

pub loop-place-init : goal.loop-place-init
loop-place-init c =
    row_groups true c.args.separator c.args.radix c.args.text.now c.args.start c.args.first c.args.behind c.requires.row

pub behind_run-next-requires-clause-within : goal.behind_run-next-requires-clause-within
behind_run-next-requires-clause-within c = let w = c.loop-place.invariant in w.within

pub returns-then-next-place-clause-groups : goal.returns-then-next-place-clause-groups
returns-then-next-place-clause-groups c = c.loop-place.invariant

pub read_row-requires-clause-within : goal.read_row-requires-clause-within
read_row-requires-clause-within c =
    let run = c.behind_run-next.ensures in
    let low = run.forward in
    let apart = c.if-next-place.false in
    omega (arith, part_within c.args.radix c.args.text.now c.behind_run-next.result (run.digit (omega arith)))

pub loop-place-smaller : goal.loop-place-smaller
loop-place-smaller c =
    let run = c.behind_run-next.ensures in
    let low = run.forward in
    let apart = c.if-next-place.false in
    let forward = c.read_row.ensures.forward in
    let within = c.read_row.ensures.within in
    omega arith

pub loop-place-preserved : goal.loop-place-preserved
loop-place-preserved c =
    let run = c.behind_run-next.ensures in
    let low = run.forward in
    let apart = c.if-next-place.false in
    let row = c.read_row.ensures in
    groups_more true c.args.separator c.args.radix c.args.text.now c.args.start c.loop-place.number c.loop-place.place
    c.behind_run-next.result c.read_row.result.0 c.read_row.result.1 c.requires.other c.loop-place.invariant
    (omega arith) run.separators (run.digit (omega arith)) (λ few. absurd (false≢true (sym few)))
    row.forward row.within row.digits row.number
