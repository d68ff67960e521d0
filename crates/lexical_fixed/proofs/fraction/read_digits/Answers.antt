use Rattle.lexical_fixed.proofs.Appended.{appended_read, appended_sign}
use Rattle.lexical_fixed.proofs.fraction.read_digits.Goals as goal

pub returns-in-Some-clause-answer : goal.returns-in-Some-clause-answer
returns-in-Some-clause-answer g c = appended_read _ _ _ c.args.digits.now c.args.place _ c.requires.sign c.in-Some.ensures

pub returns-in-Some-clause-sign : goal.returns-in-Some-clause-sign
returns-in-Some-clause-sign g c = appended_sign _ _ _ c.args.digits.now _ c.requires.sign c.in-Some.ensures
