use Rattle.std.proofs.Common.{◌≡◌, ◌+◌, ◌<◌, ◌≤◌, None, drop, length, map}
use Rattle.lexical_tables.specs.ByColumn.{AreUsable}
use Rattle.lexical_tables.specs.Codes.{AreCodes}
use Rattle.lexical_tables.specs.Ends.{AreEnds}
use Rattle.lexical_tables.specs.RowSoFar.{GoesOn, IsOnRow}
use Rattle.lexical_tables.proofs.marked_rows.read_marked_rows.Given as goal

-- rows were read, and cells of the next one
abbrev pub invariant-loop-row : goal.invariant-loop-row
invariant-loop-row g l =
    IsOnRow l.dialect l.separator (drop l.row.start l.text) l.row.left.text.now
    × AreEnds l.dialect.has_quotes l.separator l.row.left.text.now l.row.left.marks
    × AreCodes l.dialect l.codes (map g.C.TableColumn.target l.targets)
    × (l.wrong ≡ None)
    × AreUsable (l.last + 1) (map g.C.TableColumn.target l.targets)
    × GoesOn l.dialect (length l.text) l.first (map g.C.TableColumn.target l.initial.targets) l.fn.from.text.now
    (map g.C.TableColumn.target l.targets) l.row.index (drop l.row.start l.text) l.row.column l.row.left.text.now
    × (l.row.column ≤ l.columns)
    × (l.row.start < length l.text)
    × (l.row.index ≤ l.last)

abbrev pub decreases-loop-row : goal.decreases-loop-row
decreases-loop-row g l = length l.row.left.text.now
