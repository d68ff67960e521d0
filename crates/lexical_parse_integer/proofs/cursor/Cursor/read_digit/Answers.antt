use Rattle.lexical_parse_integer.proofs.Folds.{folded}
use Rattle.lexical_parse_integer.proofs.cursor.Cursor.read_digit.Goals as goal

pub returns-clause-sound : goal.returns-clause-sound
returns-clause-sound c = folded c.next_digit.ensures.sound
