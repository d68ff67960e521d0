use Rattle.std.proofs.Common.{◌≡◌, ◌+◌, ◌≤◌, length, take}
use Rattle.std.specs.List.{suffix_len}
use Rattle.lexical_tables.specs.Cells.{is_blank}
use Rattle.lexical_tables.proofs.content.end_of_content.Given as goal

-- the bytes up to a count, and all blanks behind them
abbrev pub invariant-loop-count : goal.invariant-loop-count
invariant-loop-count l = record {
  within : l.count ≤ length l.text;
  counted : l.count + suffix_len is_blank l.text ≡ length l.text + suffix_len is_blank (take l.count l.text);
}

abbrev pub decreases-loop-count : goal.decreases-loop-count
decreases-loop-count l = l.count
