use Rattle.std.proofs.Common.{◌-◌, length, true}
use Rattle.lexical_tables.proofs.QuoteSteps.{IsUnbroken}
use Rattle.lexical_tables.proofs.misplaced.fault_round_text.Given as goal

-- all bytes so far are in place, and the next stands within quotes
abbrev pub invariant-loop-place : goal.invariant-loop-place
invariant-loop-place l = IsUnbroken l.text l.place true

abbrev pub decreases-loop-place : goal.decreases-loop-place
decreases-loop-place l = length l.text - l.place
