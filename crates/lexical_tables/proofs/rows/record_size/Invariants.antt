use Rattle.std.proofs.Common.{◌≡◌, ◌-◌, ◌≤◌, length, take}
use Rattle.std.specs.Prelude.{min, sum}
use Rattle.lexical_tables.proofs.rows.record_size.Given as goal

-- `size` is the sum of the first `column` widths, up to the limit
abbrev pub invariant-loop-column : goal.invariant-loop-column
invariant-loop-column l = record {
  few : l.column ≤ length l.widths;
  size_is : l.size ≡ min (sum (take l.column l.widths)) l.limit;
}

abbrev pub decreases-loop-column : goal.decreases-loop-column
decreases-loop-column l = length l.widths - l.column
