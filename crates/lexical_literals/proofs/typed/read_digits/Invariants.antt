use Rattle.std.proofs.Common.{◌≡◌, ◌-◌, false, length}
use Rattle.lexical_literals.proofs.typed.read_digits.Given as goal

-- the cursor is what it was, but for how far it has come
abbrev pub invariant-loop : goal.invariant-loop
invariant-loop l = record {
  bytes : l.cursor.bytes ≡ l.fn.cursor.bytes;
  format : l.cursor.format ≡ l.fn.cursor.format;
  prefixed : l.cursor.is_prefixed ≡ l.fn.cursor.is_prefixed;
  radix : l.cursor.radix ≡ l.fn.cursor.radix;
  start : l.cursor.start ≡ l.fn.cursor.start;
  closed : l.cursor.closed ≡ false;
}

abbrev pub decreases-loop : goal.decreases-loop
decreases-loop l = length l.cursor.bytes - l.cursor.position
