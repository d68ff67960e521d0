use Rattle.std.proofs.Common.{◌<◌}
use Rattle.lexical_tables.proofs.amounts.count_behind.Given as goal

-- fewer are looked for
abbrev pub invariant-loop-behind : goal.invariant-loop-behind
invariant-loop-behind l = l.behind < l.places

abbrev pub decreases-loop-behind : goal.decreases-loop-behind
decreases-loop-behind l = l.behind
