use Rattle.std.proofs.Common.{◌≡◌, length}
use Rattle.uses.specs.FixedWidth.{start_of}
use Rattle.uses.proofs.Columns.{AreRead}
use Rattle.uses.proofs.fixed_width.values.Given as goal

abbrev pub invariant-loop-column : goal.invariant-loop-column
invariant-loop-column g l = record {
  at : l.start ≡ start_of l.widths l.column;
  size : length l.values ≡ length l.widths;
  read : AreRead l.widths l.row l.column l.values;
}
