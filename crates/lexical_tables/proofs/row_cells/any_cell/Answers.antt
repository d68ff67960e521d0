use Rattle.lexical_tables.proofs.CellsLeft.{next_separated}
use Rattle.lexical_tables.proofs.row_cells.any_cell.Goals as goal

pub returns-in-Separated-clause-cells : goal.returns-in-Separated-clause-cells
returns-in-Separated-clause-cells c = λ place.
    let cell = c.parted_cell.ensures in
    next_separated c.args.dialect.now.layout c.in-Separated.separator c.in-Separated.columns c.in-Separated.is
    c.args.dialect.now.has_quotes c.args.column place c.args.rest.now c.parted_cell.result.text.now
    c.parted_cell.result.behind.now c.parted_cell.result.ended cell.front cell.behind cell.size cell.ended
