use Rattle.std.proofs.Common.{◌≡◌, ◌+◌, ◌-◌, pos}
use Rattle.lexical_parse_integer.specs.CursorView.{numeral_of}
use Rattle.lexical_parse_integer.specs.Reading.{MovesOn, Reads}
use Rattle.lexical_parse_integer.proofs.algorithm.counted.digits.read_untested.Given as goal

abbrev pub invariant-loop-radix : goal.invariant-loop-radix
invariant-loop-radix g l = record {
  goes_on : MovesOn l.fn.c l.c;
  reads : Reads g.T.Integer.TYPE l.fn.is_negative (numeral_of l.fn.c) l.c.digits (g.T.Integer.number l.value);
  turns : l.c.turns + l.fn.c.digits ≡ l.fn.c.turns + l.c.digits;
  radix : g.T.Integer.number l.radix ≡ pos l.fn.c.radix;
  sign : l.is_negative ≡ l.fn.is_negative;
}

abbrev pub decreases-loop-radix : goal.decreases-loop-radix
decreases-loop-radix g l = l.most - l.c.digits
