use Rattle.std.proofs.Common.{◌-◌, ◌≤◌, length}
use Rattle.lexical_parse_integer.specs.Runs.{separator_at}
use Rattle.lexical_parse_integer.proofs.grammar.Stretches.{HoldsBetween}
use Rattle.lexical_parse_integer.proofs.seek.run_stop.Given as goal

abbrev pub invariant-loop-stop : goal.invariant-loop-stop
invariant-loop-stop l = (l.place ≤ l.stop) × (l.stop ≤ length l.bytes) × HoldsBetween (separator_at l.format l.bytes) l.place l.stop

abbrev pub decreases-loop-stop : goal.decreases-loop-stop
decreases-loop-stop l = length l.bytes - l.stop
