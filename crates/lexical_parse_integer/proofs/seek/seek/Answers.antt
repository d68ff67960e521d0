use Rattle.std.proofs.Common.{◌≡◌, Some}
use Rattle.lexical_parse_integer.specs.Runs.{digit_at}
use Rattle.lexical_parse_integer.specs.Seeking.{starts_behind_prefix}
use Rattle.lexical_parse_integer.proofs.grammar.NumeralEnd.{finds_here}
use Rattle.lexical_parse_integer.proofs.seek.seek.Goals as goal

pub returns-in-Some : goal.returns-in-Some
returns-in-Some c =
    let value : digit_at c.args.radix c.args.bytes.now c.args.position ≡ Some c.in-Some.value = cc in
    finds_here c.args.format.now (starts_behind_prefix c.args.start) c.args.radix c.args.bytes.now c.args.start c.args.position c.requires.after_start c.requires.before_end c.requires.within _ value
