use Rattle.std.proofs.Common.{◌-◌, ◌+◌, map, length}
use Rattle.lexical_tables.specs.Codes.{AreCodes}
use Rattle.lexical_tables.specs.Ends.{AreEndsIf}
use Rattle.lexical_tables.proofs.skipped.Skipping.{IsSkipping}
use Rattle.lexical_tables.proofs.skipping.skip_coded_rows.Given as goal

-- `count` right rows and `bad_count` bad ones were read
abbrev pub invariant-loop-count : goal.invariant-loop-count
invariant-loop-count g l =
    IsSkipping g.B.KeptRow.kept l.dialect l.rows l.text (map g.C.TableColumn.target l.initial.targets) l.initial.bad
    (map g.C.TableColumn.target l.targets) l.bad l.count l.bad_count l.left.text.now
    × AreEndsIf l.marked l.dialect.has_quotes l.left.text.now l.left.marks
    × AreCodes l.dialect l.codes (map g.C.TableColumn.target l.targets)

abbrev pub decreases-loop-count : goal.decreases-loop-count
decreases-loop-count g l = length l.text - (l.count + l.bad_count)
