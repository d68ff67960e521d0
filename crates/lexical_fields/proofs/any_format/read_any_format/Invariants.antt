use Rattle.std.proofs.Common.{ℕ, List}
use Rattle.lexical_fields.specs.ReadSoFar.{IsReadSoFar}
use Rattle.lexical_fields.specs.Search.{AreMarks}
use Rattle.lexical_fields.proofs.any_format.read_any_format.Given as goal

-- the marks are those of what is left, and a column of which nothing was read before is read so far now
abbrev pub invariant-loop-i : goal.invariant-loop-i
invariant-loop-i g l =
    record {
      marks : AreMarks l.separator l.rest l.marks;
      reading : (whole : List ℕ) (initial : List _)
          → IsReadSoFar _ g.T.Integer.number l.format g.T.Integer.TYPE l.separator whole initial
          l.initial.values 0 l.initial.rest
          → IsReadSoFar _ g.T.Integer.number l.format g.T.Integer.TYPE l.separator whole initial
          l.values l.i l.rest;
    }
