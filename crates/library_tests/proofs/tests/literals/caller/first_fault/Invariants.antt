use Rattle.std.proofs.Common.{◌≡◌}
use Rattle.lexical_literals.specs.TokenCallers.{first_fault_place}
use Rattle.lexical_literals.specs.Tokens.{tokens}
use Rattle.library_tests.proofs.tests.literals.caller.first_fault.Given as goal

-- no fault so far
abbrev pub invariant-loop-token : goal.invariant-loop-token
invariant-loop-token l = first_fault_place l.token-iterator ≡ first_fault_place (tokens l.source)
