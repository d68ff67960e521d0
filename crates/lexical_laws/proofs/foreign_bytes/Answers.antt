use Rattle.lexical_laws.proofs.ForeignBytes.{asked_is_same, digit_is_same, number_is_same, read_is_same}
use Rattle.lexical_laws.proofs.foreign_bytes.Goals as goal

pub returns-clause-read : goal.returns-clause-read
returns-clause-read c = read_is_same

pub returns-clause-number : goal.returns-clause-number
returns-clause-number c = λ f t text rest byte valid other ends. number_is_same f t text rest byte valid other ends

pub returns-clause-asked : goal.returns-clause-asked
returns-clause-asked c = λ f t text rest byte valid other asked separated. asked_is_same f t text rest byte valid other asked separated

pub returns-clause-digit : goal.returns-clause-digit
returns-clause-digit c = λ f t text rest byte valid other bare unasked first. digit_is_same f t text rest byte valid other bare unasked first
