use Rattle.std.proofs.Common.{◌-◌}
use Rattle.lexical_parse_integer.specs.CursorView.{IsSound}
use Rattle.lexical_parse_integer.specs.Numeral.{numeral_in}
use Rattle.lexical_parse_integer.specs.Reading.{Reads, view_at}
use Rattle.lexical_parse_integer.specs.Runs.{end_of}
use Rattle.lexical_parse_integer.proofs.algorithm.front.read_digits.Given as goal

abbrev pub invariant-loop-place : goal.invariant-loop-place
invariant-loop-place g l = record {
  sound : IsSound (view_at l.fn.format l.fn.head.is_prefixed l.fn.head.radix l.fn.bytes l.fn.head.start l.read.end l.read.count);
  reads : Reads g.T.Integer.TYPE l.fn.head.is_negative (numeral_in l.fn.format l.fn.head.is_prefixed l.fn.head.radix l.fn.bytes l.fn.head.start) l.read.count (g.T.Integer.number l.read.value);
}

abbrev pub decreases-loop-place : goal.decreases-loop-place
decreases-loop-place g l = end_of l.fn.format l.fn.head.is_prefixed l.fn.head.radix l.fn.bytes l.fn.head.start - l.read.end
