use Rattle.std.proofs.Common.{ℕ, ◌+◌, ◌<◌, ◌≤◌, List, Option, drop, length, map}
use Rattle.lexical_tables.specs.ByColumn.{AreUsable}
use Rattle.lexical_tables.specs.Codes.{AreCodes}
use Rattle.lexical_tables.specs.Ends.{AreEnds}
use Rattle.lexical_tables.specs.RowSoFar.{GoesOn, IsOnRow}
use Rattle.lexical_tables.specs.Targets.{TargetView}
use Rattle.lexical_tables.proofs.marked_rows.read_cells_at_once.Given as goal

-- rows were read, and cells of the next one
abbrev pub invariant-loop-column : goal.invariant-loop-column
invariant-loop-column g l =
    IsOnRow l.dialect l.separator (drop l.start l.text) l.left.text.now
    × AreEnds l.dialect.has_quotes l.separator l.left.text.now l.left.marks
    × AreCodes l.dialect l.codes (map g.C.TableColumn.target l.targets)
    × AreUsable (l.last + 1) (map g.C.TableColumn.target l.targets)
    × ((first : ℕ) (old : List (Option TargetView)) (rest : List ℕ)
    → GoesOn l.dialect (length l.text) first old rest (map g.C.TableColumn.target l.initial.targets) l.fn.from.index
    (drop l.fn.from.start l.text) l.fn.from.column l.fn.from.left.text.now
    → GoesOn l.dialect (length l.text) first old rest (map g.C.TableColumn.target l.targets) l.index
    (drop l.start l.text) l.column l.left.text.now)
    × (l.column ≤ l.columns)
    × (l.start < length l.text)
    × (l.index ≤ l.last)
    × (length l.left.text.now ≤ length l.fn.from.left.text.now)

abbrev pub decreases-loop-column : goal.decreases-loop-column
decreases-loop-column g l = length l.left.text.now
