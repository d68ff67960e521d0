use Rattle.std.proofs.Common.{◌∙◌, arith, sym}
use Rattle.lexical_literals.proofs.GroupedFronts.{first_row, part_within}
use Rattle.lexical_literals.proofs.groups.number_of_runs.Goals as goal

pub read_row-first-requires-clause-within : goal.read_row-first-requires-clause-within
read_row-first-requires-clause-within c =
    omega (arith, part_within c.args.radix c.args.text.now c.args.start c.requires.first)

pub read_runs-number-requires-clause-row : goal.read_runs-number-requires-clause-row
read_runs-number-requires-clause-row c =
    let row = c.read_row-first.ensures in
    first_row c.args.radix c.args.text.now c.args.start c.read_row-first.result.0 c.read_row-first.result.1
    c.requires.first (sym c.has_digit.ensures ∙ c.if-has_digit.false) row.forward row.within row.digits row.number
