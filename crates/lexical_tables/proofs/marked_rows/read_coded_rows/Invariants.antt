use Rattle.std.proofs.Common.{◌-◌, map}
use Rattle.lexical_tables.specs.Codes.{AreCodes}
use Rattle.lexical_tables.specs.Ends.{AreEnds}
use Rattle.lexical_tables.proofs.ColumnTables.{IsTablePut}
use Rattle.lexical_tables.proofs.marked_rows.read_coded_rows.Given as goal

-- `count` rows were read
abbrev pub invariant-loop-count : goal.invariant-loop-count
invariant-loop-count g l =
    IsTablePut l.dialect l.rows l.text (map g.C.TableColumn.target l.initial.targets) (map g.C.TableColumn.target l.targets)
    l.count l.left.text.now
    × AreEnds l.dialect.has_quotes l.separator l.left.text.now l.left.marks
    × AreCodes l.dialect l.codes (map g.C.TableColumn.target l.targets)

abbrev pub decreases-loop-count : goal.decreases-loop-count
decreases-loop-count g l = l.rows - l.count
