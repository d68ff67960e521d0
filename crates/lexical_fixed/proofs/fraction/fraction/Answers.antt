use Rattle.std.proofs.Common.{sym, subst}
use Rattle.lexical_digits.specs.Words.{AreDigits}
use Rattle.lexical_fixed.proofs.Fractions.{fraction_digits, fraction_there}
use Rattle.lexical_fixed.proofs.fraction.fraction.Goals as goal

pub returns-clause-answer : goal.returns-clause-answer
returns-clause-answer c = fraction_there c.args.format.now c.args.text.now c.args.place c.args.count c.requires.count

pub returns-clause-digits : goal.returns-clause-digits
returns-clause-digits c =
    subst (AreDigits 10) (sym (fraction_there c.args.format.now c.args.text.now c.args.place c.args.count c.requires.count)) (fraction_digits c.args.format.now c.args.text.now c.args.place)
