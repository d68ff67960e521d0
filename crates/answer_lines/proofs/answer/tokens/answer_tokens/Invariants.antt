use Rattle.std.proofs.Common.{[], ◌∷◌, ◌++◌}
use Rattle.answer_lines.specs.Gather.{Sends}
use Rattle.answer_lines.specs.Output.{tokens_text}
use Rattle.lexical_literals.specs.Tokens.{tokens}
use Rattle.answer_lines.proofs.answer.tokens.answer_tokens.Given as goal

-- what went out, what waits, and the lines of the tokens that are left, are what waited and all lines
abbrev pub invariant-loop-token : goal.invariant-loop-token
invariant-loop-token g l =
    Sends (g.W.Write.contents l.initial.out) (g.W.Write.contents l.out)
    (l.initial.batch ++ (tokens_text (tokens l.source) ++ 10 ∷ [])) (l.batch ++ (tokens_text l.token-iterator ++ 10 ∷ []))
