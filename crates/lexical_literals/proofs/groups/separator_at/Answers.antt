use Rattle.std.proofs.Common.{sym}
use Rattle.lexical_parse_integer.proofs.ForCallers.{separator_at_past}
use Rattle.lexical_literals.proofs.GroupedFronts.{no_separator, other_apart, own_here, stands_here}
use Rattle.lexical_literals.proofs.groups.separator_at.Goals as goal

pub returns-then-place-text-clause-found : goal.returns-then-place-text-clause-found
returns-then-place-text-clause-found c =
    sym (separator_at_past c.args.format.now c.args.text.now c.args.place c.if-place-text.true)

pub returns-then-text-place-clause-found : goal.returns-then-text-place-clause-found
returns-then-text-place-clause-found c =
    sym (other_apart c.args.format.now c.args.text.now c.args.place c.in-Some.separator (sym c.in-Some.ensures)
    c.if-place-text.false c.if-text-place.true)

pub returns-else-text-place-clause-here : goal.returns-else-text-place-clause-here
returns-else-text-place-clause-here c =
    stands_here c.args.text.now c.args.place c.in-Some.separator c.if-place-text.false c.if-text-place.false

pub returns-else-text-place-clause-found : goal.returns-else-text-place-clause-found
returns-else-text-place-clause-found c =
    sym (own_here c.args.format.now c.args.text.now c.args.place c.in-Some.separator (sym c.in-Some.ensures)
    (stands_here c.args.text.now c.args.place c.in-Some.separator c.if-place-text.false c.if-text-place.false))

pub returns-in-None-clause-found : goal.returns-in-None-clause-found
returns-in-None-clause-found c = sym (no_separator c.args.format.now c.args.text.now c.args.place (sym c.in-None.ensures))
