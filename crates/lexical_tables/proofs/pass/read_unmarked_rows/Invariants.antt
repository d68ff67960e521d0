use Rattle.std.proofs.Common.{◌≡◌, ◌-◌, None, map}
use Rattle.lexical_tables.specs.Codes.{AreCodes}
use Rattle.lexical_tables.proofs.ColumnTables.{IsTablePut}
use Rattle.lexical_tables.proofs.pass.read_unmarked_rows.Given as goal

-- `count` rows were read
abbrev pub invariant-loop-count : goal.invariant-loop-count
invariant-loop-count g l =
    IsTablePut l.dialect l.rows l.text (map g.C.TableColumn.target l.initial.targets) (map g.C.TableColumn.target l.targets)
    l.count l.left
    × AreCodes l.dialect l.codes (map g.C.TableColumn.target l.targets)
    × (l.wrong ≡ None)

abbrev pub decreases-loop-count : goal.decreases-loop-count
decreases-loop-count g l = l.rows - l.count
