use Rattle.std.proofs.Common.{◌≡◌, ◌-◌, drop, length, map}
use Rattle.lexical_literals.specs.TypedLiterals.{entry_from}
use Rattle.lexical_literals.proofs.suffixes.entry_of.Given as goal

-- no entry so far has the suffix
abbrev pub invariant-loop-index : goal.invariant-loop-index
invariant-loop-index g l =
    entry_from l.suffix 0 (map g.S.SuffixEntry.suffix l.table)
    ≡ entry_from l.suffix l.index (map g.S.SuffixEntry.suffix (drop l.index l.table))

abbrev pub decreases-loop-index : goal.decreases-loop-index
decreases-loop-index g l = length l.table - l.index
