use Rattle.std.proofs.Common.{◌≡◌, ℕ, false, length, arith, subst, sym, ◌∙◌}
use Rattle.lexical_parse_integer.specs.Runs.{run_passes, run_stop, separator_at}
use Rattle.lexical_parse_integer.specs.Seeking.{starts_behind_prefix}
use Rattle.lexical_parse_integer.proofs.grammar.Stretches.{IsStop, IsStop-stop_of}
use Rattle.lexical_parse_integer.proofs.grammar.NumeralEnd.{run_below, run_from_second, separator_at_within}
use Rattle.lexical_parse_integer.proofs.seek.behind_run.Goals as goal

pub run_stop-stop-requires : goal.run_stop-stop-requires
run_stop-stop-requires c = let within = separator_at_within c.args.format c.args.bytes.now c.args.position c.requires.run in omega arith

pub run_passes-requires-clause-order : goal.run_passes-requires-clause-order
run_passes-requires-clause-order c =
    let f = c.args.format in
    let b = c.args.bytes.now in
    let same : c.run_stop-stop.result ≡ run_stop f b c.args.position = c.run_stop-stop.ensures ∙ run_from_second f b c.args.position c.requires.run in
    let run : IsStop (separator_at f b) c.args.position (length b) c.run_stop-stop.result = rw same (IsStop-stop_of (separator_at f b) c.args.position (length b) c.requires.within) in
    run_below f b c.args.position c.run_stop-stop.result c.requires.run run

pub returns-then-run_passes-clause-passes : goal.returns-then-run_passes-clause-passes
returns-then-run_passes-clause-passes c =
    (c.run_stop-stop.ensures ∙ run_from_second c.args.format c.args.bytes.now c.args.position c.requires.run, sym c.run_passes.ensures ∙ c.if-run_passes.true)

pub returns-else-run_passes-clause-ends : goal.returns-else-run_passes-clause-ends
returns-else-run_passes-clause-ends c = λ none.
    subst (λ (stop : ℕ). run_passes c.args.format (starts_behind_prefix c.args.start) c.args.radix c.args.bytes.now c.args.start c.args.position stop ≡ false)
    (c.run_stop-stop.ensures ∙ run_from_second c.args.format c.args.bytes.now c.args.position c.requires.run) (sym c.run_passes.ensures ∙ c.if-run_passes.false)
