use Rattle.lexical_laws.proofs.LetterCase.{other_is_read}
use Rattle.lexical_laws.proofs.letter_case.Goals as goal

pub returns : goal.returns
returns c = other_is_read
