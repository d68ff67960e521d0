use Rattle.std.proofs.Common.{map, length, ◌≡◌}
use Rattle.lexical_tables.specs.Codes.{AreStandard}
use Rattle.lexical_tables.specs.declared.codes.Loop.TheVariants.{Standard}
use Rattle.lexical_tables.proofs.CodeLists.{AreBelow}
use Rattle.lexical_tables.proofs.codes.put_codes.Given as goal

-- the columns so far have their codes
abbrev pub invariant-loop-column : goal.invariant-loop-column
invariant-loop-column g l = record {
  size : length l.codes ≡ 256;
  coded : AreBelow l.dialect l.column l.codes (map g.C.TableColumn.target l.targets);
  standard : l.columns ≡ Standard → AreStandard l.column l.codes;
}
