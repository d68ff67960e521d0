use Rattle.std.proofs.Common.{length}
use Rattle.lexical_tables.proofs.WholeRows.{IsPassed}
use Rattle.lexical_tables.proofs.parts.whole_lines.Given as goal

-- the bytes in front of `rest` are whole lines
abbrev pub invariant-loop-rest : goal.invariant-loop-rest
invariant-loop-rest l = IsPassed l.has_quotes l.text l.rest

abbrev pub decreases-loop-rest : goal.decreases-loop-rest
decreases-loop-rest l = length l.rest
