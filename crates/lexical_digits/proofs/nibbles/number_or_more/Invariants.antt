use Rattle.std.proofs.Common.{◌<◌, pos}
use Rattle.lexical_digits.specs.WrittenNumbers.{WritesFront}
use Rattle.lexical_digits.proofs.NibbleBlocks.{IsSum}
use Rattle.lexical_digits.proofs.nibbles.number_or_more.Given as goal

abbrev pub invariant-loop-byte : goal.invariant-loop-byte
invariant-loop-byte l = record {
  sum : IsSum l.byte-index l.number;
  writes : l.number < 4294967296 → WritesFront 16 l.text l.byte-index (pos l.number);
}
