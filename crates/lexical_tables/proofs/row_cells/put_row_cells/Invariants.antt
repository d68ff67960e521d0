use Rattle.std.proofs.Common.{length}
use Rattle.lexical_tables.specs.Rows.{view_of_row}
use Rattle.lexical_tables.proofs.CellsLeft.{left_in}
use Rattle.lexical_tables.proofs.RowCells.{ArePut}
use Rattle.lexical_tables.proofs.row_cells.put_row_cells.Given as goal

-- `column` cells of the row were passed, and where they are was stored, from the cell `first` on
abbrev pub invariant-loop-ended : goal.invariant-loop-ended
invariant-loop-ended l =
    ArePut l.dialect (view_of_row l.row) l.first l.initial.cells l.cells l.column l.ended l.rest

abbrev pub decreases-loop-ended : goal.decreases-loop-ended
decreases-loop-ended l = length (left_in l.dialect (view_of_row l.row) l.column l.ended l.rest)
