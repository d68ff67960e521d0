use Rattle.std.proofs.Common.{map}
use Rattle.lexical_tables.proofs.CodeSteps.{unknown_codes}
use Rattle.lexical_tables.proofs.pass.ask_codes.Goals as goal

pub returns-then-is_none : goal.returns-then-is_none
returns-then-is_none g c =
    unknown_codes c.args.dialect.now c.args.codes.now (map g.C.TableColumn.target c.args.targets.now) c.requires.unknown
