use Rattle.std.proofs.Common.{subst}
use Rattle.lexical_parse_integer.specs.CursorView.{IsSound}
use Rattle.lexical_parse_integer.proofs.Folds.{folded}
use Rattle.lexical_parse_integer.proofs.cursor.Cursor.assert_invariant.Goals as goal

pub returns : goal.returns
returns c = folded (subst IsSound c.self.view_is c.self.invariant)
