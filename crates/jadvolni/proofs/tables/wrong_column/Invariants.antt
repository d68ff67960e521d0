use Rattle.std.proofs.Common.{◌≡◌, ◌-◌, drop, length}
use Rattle.jadvolni.specs.Tables.{wrong_column}
use Rattle.jadvolni.proofs.tables.wrong_column.Given as goal

-- no column was wrong so far
abbrev pub invariant-loop-index : goal.invariant-loop-index
invariant-loop-index l =
    wrong_column l.rows 0 l.columns ≡ wrong_column l.rows l.index (drop l.index l.columns)

abbrev pub decreases-loop-index : goal.decreases-loop-index
decreases-loop-index l = length l.columns - l.index
