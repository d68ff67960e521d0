use Rattle.std.proofs.Common.{sym, arith}
use Rattle.lexical_parse_integer.specs.Runs.{separator_at}
use Rattle.lexical_parse_integer.proofs.grammar.Stretches.{stop_of_is}
use Rattle.lexical_parse_integer.proofs.seek.run_stop.Goals as goal

pub returns-else-separator_at : goal.returns-else-separator_at
returns-else-separator_at c =
    let i = c.loop-stop.invariant in
    sym (stop_of_is (separator_at c.args.format.now c.args.bytes.now) _ _ _ c.requires (record { low = i.0; high = i.1; holds = i.2; fails = λ h. cc }))

pub returns-after-loop-stop : goal.returns-after-loop-stop
returns-after-loop-stop c =
    let i = c.loop-stop.invariant in
    sym (stop_of_is (separator_at c.args.format.now c.args.bytes.now) _ _ _ c.requires (record { low = i.0; high = i.1; holds = i.2; fails = λ h. absurd (omega arith) }))
