use Rattle.std.proofs.Common.{◌≡◌, ◌-◌, ◌+◌, List, None, Option, map}
use Rattle.lexical_tables.specs.ByColumn.{AreUsable, column_count, lacks_cell}
use Rattle.lexical_tables.specs.Cells.{Kind}
use Rattle.lexical_tables.specs.Codes.{AreCodes}
use Rattle.lexical_tables.specs.RowSoFar.{IsRowPut, cells_behind}
use Rattle.lexical_tables.specs.Rows.{view_of_row}
use Rattle.lexical_tables.specs.Targets.{TargetView}
use Rattle.lexical_tables.proofs.CellsLeft.{left_in}
use Rattle.lexical_tables.proofs.MarkedCells.{IsAhead}
use Rattle.lexical_tables.proofs.wide_rows.read_wide_cells.Given as goal

-- `column` cells of the row were read
abbrev pub invariant-loop-column : goal.invariant-loop-column
invariant-loop-column g l =
    IsAhead l.row.text.now l.ahead l.rest
    × (l.ended ≡ lacks_cell l.dialect.layout l.column l.rest)
    × AreCodes l.dialect l.codes (map g.C.TableColumn.target l.targets)
    × AreUsable (l.index + 1) (map g.C.TableColumn.target l.targets)
    × (l.wrong ≡ None)
    × ((kinds : List (Option Kind)) (old : List (Option TargetView))
    → IsRowPut kinds l.dialect l.index (view_of_row l.row) old (map g.C.TableColumn.target l.initial.targets)
    0 (cells_behind l.dialect (view_of_row l.row) 0 0)
    → IsRowPut kinds l.dialect l.index (view_of_row l.row) old (map g.C.TableColumn.target l.targets) l.column
    (left_in l.dialect (view_of_row l.row) l.column l.ended l.rest))

abbrev pub decreases-loop-column : goal.decreases-loop-column
decreases-loop-column g l = column_count l.dialect.layout - l.column
