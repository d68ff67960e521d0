use Rattle.std.proofs.Common.{length}
use Rattle.lexical_tables.proofs.RowSteps.{HasRowsOf}
use Rattle.lexical_tables.proofs.rows.without_empty_rows.Given as goal

-- what is left has the text's rows
abbrev pub invariant-loop-row : goal.invariant-loop-row
invariant-loop-row l = HasRowsOf l.dialect l.text l.rest

abbrev pub decreases-loop-row : goal.decreases-loop-row
decreases-loop-row l = length l.rest
