use Rattle.std.proofs.Common.{◌≡◌}
use Rattle.lexical_formats.proofs.FormatAmong.{among_rest}
use Rattle.lexical_formats.proofs.names.format_among.Given as goal

-- the format of the name is among those that are left
abbrev pub invariant-loop-entry : goal.invariant-loop-entry
invariant-loop-entry l =
    among_rest l.name l.formats 0 ≡ among_rest l.name l.formats l.entry-index
