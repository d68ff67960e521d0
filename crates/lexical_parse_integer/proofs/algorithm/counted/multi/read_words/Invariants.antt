use Rattle.std.proofs.Common.{◌≡◌, ◌+◌, ◌-◌, ◌*◌, ◌^◌, ◌≤◌, ◌⊎◌, pos}
use Rattle.lexical_parse_integer.specs.CursorView.{numeral_of}
use Rattle.lexical_parse_integer.specs.Reading.{MovesOn, Reads}
use Rattle.lexical_parse_integer.specs.Turns.{digits_per_word}
use Rattle.lexical_parse_integer.proofs.algorithm.counted.multi.read_words.Given as goal

abbrev pub invariant-loop-scale : goal.invariant-loop-scale
invariant-loop-scale g l = record {
  goes_on : MovesOn l.fn.c l.c;
  reads : Reads g.T.Integer.TYPE l.fn.is_negative (numeral_of l.fn.c) l.c.digits (g.T.Integer.number l.value);
  turns : l.c.digits + digits_per_word g.T.Integer.BITS * l.fn.c.turns ≡ l.fn.c.digits + digits_per_word g.T.Integer.BITS * l.c.turns;
  within : (l.c.digits ≡ l.fn.c.digits) ⊎ (l.c.digits ≤ l.most);
  scale : g.T.Integer.number l.scale ≡ pos (l.fn.c.radix ^ digits_per_word g.T.Integer.BITS);
  sign : l.is_negative ≡ l.fn.is_negative;
}

abbrev pub decreases-loop-scale : goal.decreases-loop-scale
decreases-loop-scale g l = l.most - l.c.digits
