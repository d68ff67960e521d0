use Rattle.std.proofs.Common.{◌≡◌, ◌+◌, ◌-◌, ◌≤◌, length, drop}
use Rattle.std.specs.List.{prefix_len}
use Rattle.lexical_tables.specs.Cells.{is_blank}
use Rattle.lexical_tables.proofs.content.blanks_in_front.Given as goal

-- `count` blanks were counted, and the others are left
abbrev pub invariant-loop-count : goal.invariant-loop-count
invariant-loop-count l = record {
  within : l.count ≤ length l.text;
  counted : l.count + prefix_len is_blank (drop l.count l.text) ≡ prefix_len is_blank l.text;
}

abbrev pub decreases-loop-count : goal.decreases-loop-count
decreases-loop-count l = length l.text - l.count
