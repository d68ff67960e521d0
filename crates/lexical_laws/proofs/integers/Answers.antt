use Rattle.lexical_laws.proofs.MadeIsRead.{integer_is_read}
use Rattle.lexical_laws.proofs.ReadIsMade.{read_is_integer}
use Rattle.lexical_laws.proofs.integers.Goals as goal

pub returns : goal.returns
returns c = λ format type text value valid. (read_is_integer format type text value valid, integer_is_read format type text value valid)
