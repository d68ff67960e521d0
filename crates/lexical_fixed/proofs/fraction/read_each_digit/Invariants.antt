use Rattle.lexical_fixed.proofs.Digits.{DigitsRead}
use Rattle.lexical_fixed.proofs.fraction.read_each_digit.Given as goal

abbrev pub invariant-loop-index : goal.invariant-loop-index
invariant-loop-index g l = DigitsRead g.T.Integer.TYPE l.fn.is_negative (g.T.Integer.number l.fn.number) l.fn.digits l.index (g.T.Integer.number l.value)
