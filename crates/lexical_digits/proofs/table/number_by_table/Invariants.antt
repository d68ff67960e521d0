use Rattle.std.proofs.Common.{◌≡◌, pos}
use Rattle.lexical_digits.specs.WrittenNumbers.{WritesFront}
use Rattle.lexical_digits.proofs.table.number_by_table.Given as goal

abbrev pub invariant-loop-byte : goal.invariant-loop-byte
invariant-loop-byte g l = record {
  writes : WritesFront l.radix l.digits l.byte-index (g.T.Integer.number l.value);
  scale : g.T.Integer.number l.scale ≡ pos l.radix;
}
