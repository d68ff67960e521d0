use Rattle.std.proofs.Common.{◌≡◌, ◌+◌, ◌-◌}
use Rattle.lexical_parse_integer.specs.CursorView.{numeral_end, numeral_of}
use Rattle.lexical_parse_integer.specs.Reading.{MovesOn, Reads}
use Rattle.lexical_parse_integer.proofs.algorithm.counted.digits.read_tested.Given as goal

abbrev pub invariant-loop-digit : goal.invariant-loop-digit
invariant-loop-digit g l = record {
  goes_on : MovesOn l.fn.c l.c;
  reads : Reads g.T.Integer.TYPE l.fn.is_negative (numeral_of l.fn.c) l.c.digits (g.T.Integer.number l.value);
  turns : l.c.turns + l.fn.c.digits ≡ l.fn.c.turns + l.c.digits;
  sign : l.is_negative ≡ l.fn.is_negative;
}

abbrev pub decreases-loop-digit : goal.decreases-loop-digit
decreases-loop-digit g l = numeral_end l.c - l.c.position
