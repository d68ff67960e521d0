use Rattle.std.proofs.Common.{length, ◌-◌, ◌≤◌}
use Rattle.lexical_fields.specs.ReadSoFar.{IsReadSoFar}
use Rattle.lexical_fields.proofs.columns.read_column.Given as goal

-- `count` numbers were read
abbrev pub invariant-loop-count : goal.invariant-loop-count
invariant-loop-count g l =
    record {
      reading : IsReadSoFar _ g.T.Integer.number l.format g.T.Integer.TYPE l.separator l.text l.fn.values
          l.values l.count l.rest;
      room : l.count ≤ length l.fn.values;
    }

abbrev pub decreases-loop-count : goal.decreases-loop-count
decreases-loop-count g l = length l.fn.values - l.count
